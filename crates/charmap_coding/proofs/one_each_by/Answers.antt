use Rattle.std.proofs.Common.{rules, tests}
use Rattle.std.proofs.lemmas.Iterator.{YieldsList-from_slice}
use Rattle.std.proofs.lemmas.Iterator.Search.{all_from_yields_List}
use Rattle.charmap_coding.proofs.OnesLaws.{has_one, each_all}
use Rattle.charmap_coding.proofs.one_each_by.Goals as goal

pub returns : goal.returns
returns c = each_all _ _ (all_from_yields_List (has_one c.args.codes.now c.args.ones.now) _ _ _ c.all.ensures.ran (YieldsList-from_slice c.args.codes.now c.iter.ensures.rest) (λ x b q k. search (rules, tests)))
