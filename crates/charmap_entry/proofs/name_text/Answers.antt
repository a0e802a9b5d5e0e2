use Rattle.text_names.proofs.CompareLaws.{step_less}
use Rattle.charmap_entry.proofs.HeadLaws.{clean-more, clean-foul, clean-all}
use Rattle.charmap_entry.proofs.name_text.Goals as goal

pub loop-b-preserved : goal.loop-b-preserved
loop-b-preserved c = search clean-more

pub returns-then-not-is_text : goal.returns-then-not-is_text
returns-then-not-is_text c = search clean-foul

pub returns : goal.returns
returns c = clean-all _ c.loop-b.invariant c.name_byte.ensures c.in_default.not-Byte
