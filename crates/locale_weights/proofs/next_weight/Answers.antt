-- `locale_weights::next_weight` meets its contract: a law for a name that is left open, and for one with an LF or a `;` right behind it.
use Rattle.locale_weights.proofs.NamedLaws.{named-open, named-last, named_more}
use Rattle.text_tokens.proofs.AheadLaws.{ahead-inside}
use Rattle.locale_weights.proofs.next_weight.Goals as goal

pub end_of_name-requires : goal.end_of_name-requires
end_of_name-requires c = let a = c.args in search (ahead-inside a.src.signs a.src.bytes.now a.p)

pub returns-in_default : goal.returns-in_default
returns-in_default c = search named-open

pub returns-then-src-e-eq10 : goal.returns-then-src-e-eq10
returns-then-src-e-eq10 c = search named-last

pub returns-then-plain_at-eq59 : goal.returns-then-plain_at-eq59
returns-then-plain_at-eq59 c = search named_more
