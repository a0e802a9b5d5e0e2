-- `locale_toggle::name_toggle` meets its contract: a law for each answer.
use mathlib.Core.Path.{refl}
use Rattle.base_units.proofs.NumberLaws.{number_of-some}
use Rattle.locale_toggle.proofs.NameLaws.{word_kept, word-turns, no_word, word-named, word-refused}
use Rattle.locale_toggle.proofs.name_toggle.Goals as goal

pub returns-in_default : goal.returns-in_default
returns-in_default c = search no_word

pub toggle_refusal-requires : goal.toggle_refusal-requires
toggle_refusal-requires c = search (word_kept c.args.src.signs c.requires c.in-Some.q)

pub is_on-was-requires : goal.is_on-was-requires
is_on-was-requires c = search (word_kept c.args.src.signs c.requires c.in-Some.q)

pub turn-m-requires : goal.turn-m-requires
turn-m-requires c =
    let f = c.in_default-toggle_refusal.ensures in
    word-turns c.args.src.signs c.requires c.in-Some.q c.single_word.ensures c.in-Some.is f refl

pub returns : goal.returns
returns c = let f = c.in_default-toggle_refusal.ensures in search word-named

pub returns-in-Some-toggle_refusal : goal.returns-in-Some-toggle_refusal
returns-in-Some-toggle_refusal c =
    let f = c.in-Some-toggle_refusal.ensures in
    let z = number_of-some c.in-Some-toggle_refusal.refusal in
    search word-refused
