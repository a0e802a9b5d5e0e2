-- `charmap_body::line_kind` meets its contract: by what is left behind the gaps.
use Rattle.charmap_body.proofs.PlainLaws.{kind-blank, kind-end}
use Rattle.charmap_body.proofs.line_kind.Goals as goal

pub returns-then-no_tokens : goal.returns-then-no_tokens
returns-then-no_tokens c = search kind-blank

pub returns-then-is_end : goal.returns-then-is_end
returns-then-is_end c = search kind-end

pub returns-else-is_end : goal.returns-else-is_end
returns-else-is_end c = search kind-end
