use Rattle.std.proofs.Common.{rules, tests}
use Rattle.std.proofs.lemmas.Iterator.{YieldsList-from_slice, YieldsList-from_zip}
use Rattle.std.proofs.lemmas.Iterator.Search.{all_from_yields_List}
use Prim.Native.Nat.{ℕ}
use Rattle.charmap_coding.specs.Tables.{is_one}
use Rattle.charmap_coding.proofs.OnesLaws.{ones-all}
use Rattle.charmap_coding.proofs.ones_pass.Goals as goal

pub returns : goal.returns
returns c = ones-all _ _ c.requires (all_from_yields_List (λ (q : ℕ × ℕ). is_one q.0 q.1) c.all.new.self _ _ c.all.ensures.ran (YieldsList-from_zip {s = c.zip.result} (YieldsList-from_slice c.args.codes.now (cc)) (YieldsList-from_slice c.args.ones.now (cc))) (λ x b q k. search (rules, tests)))
