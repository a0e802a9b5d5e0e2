use Rattle.std.proofs.Common.{rules, tests}
use Rattle.std.proofs.lemmas.Iterator.{YieldsList-from_slice}
use Rattle.std.proofs.lemmas.Iterator.Search.{all_from_yields_List}
use Rattle.rules.specs.Coding.{is_code}
use Rattle.charmap_coding.proofs.CodesLaws.{codes_all}
use Rattle.charmap_coding.proofs.codes_pass.Goals as goal

pub returns : goal.returns
returns c = codes_all _ (all_from_yields_List is_code _ _ _ c.all.ensures.ran (YieldsList-from_slice c.args.codes.now c.iter.ensures.rest) (λ x b q k. search (rules, tests)))
