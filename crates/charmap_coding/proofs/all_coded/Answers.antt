use Rattle.std.proofs.Common.{rules, tests}
use Rattle.std.proofs.lemmas.Iterator.{YieldsList-from_slice}
use Rattle.std.proofs.lemmas.Iterator.Search.{all_from_yields_List}
use Rattle.charmap_coding.proofs.EncodeLaws.{has_byte, coding-all}
use Rattle.charmap_coding.proofs.ByteLaws.{found-is}
use Rattle.charmap_coding.proofs.all_coded.Goals as goal

pub returns : goal.returns
returns c = coding-all _ _ (all_from_yields_List (has_byte c.args.area.now) _ _ _ c.all.ensures.ran (YieldsList-from_slice c.args.s.now c.iter.ensures.rest) (λ x b q k. search (rules, tests, found-is)))
