-- `locale_standing::weight_refusal` meets its contract: a law for each kind of token.
use Rattle.locale_standing.proofs.TokenLaws.{token-inside, refused-ignore, refused-word, refused-low, refused-high, refused-not, refused_none, refused-many}
use borrow.Author.Rules.{rules}
use Rattle.locale_standing.proofs.weight_refusal.Goals as goal
use Rattle.locale_standing.proofs.weight_refusal.Goals.{then-t-lt-NAME-via-then-t-lt-NAME, then-t-lt-NAME-via-else-t-lt-NAME+then-t-gt-QUOTE}

pub returns-then-word_is : goal.returns-then-word_is
returns-then-word_is c = search refused-ignore

pub returns-else-word_is : goal.returns-else-word_is
returns-else-word_is c = search refused-word

pub returns-then-t-lt-NAME : goal.returns-then-t-lt-NAME
returns-then-t-lt-NAME c = elim c.then-t-lt-NAME.branch [ then-t-lt-NAME-via-then-t-lt-NAME w ↦ search refused-low | then-t-lt-NAME-via-else-t-lt-NAME+then-t-gt-QUOTE w ↦ search refused-high ]

pub names_stand-requires : goal.names_stand-requires
names_stand-requires c = record { inside = search token-inside; sound = search rules }

pub returns-then-t-le8 : goal.returns-then-t-le8
returns-then-t-le8 c = search refused_none

pub returns-else-t-le8 : goal.returns-else-t-le8
returns-else-t-le8 c = search refused-many

pub returns-then-not-names_stand : goal.returns-then-not-names_stand
returns-then-not-names_stand c = search refused-not
