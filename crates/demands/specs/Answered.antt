-- What each public operation promises, as a predicate of what it is lent, what it answers, and what is left where it writes: the `ensures` of its
-- contract, word for word. `Contracts` in proofs/ shows that the contracts say this and nothing else, and that none asks anything of its caller.
use Rattle.std.specs.Prelude.{◌≡◌, List, [], ◌∷◌, ℕ, ◌*◌, get_or, take, drop, eqb, if◌then◌else◌, Result}
use Rattle.rules.specs.Meaning.{Meaning}
use Rattle.rules.specs.State.{start}
use Rattle.rules.specs.Source.{lines_from}
use Rattle.rules.specs.Compile.{meaning_of}
use Rattle.rules.specs.Calls.{compile_call, check_call, step_call, compare_call, key_call, charmap_call, area_call, decode_call, encode_call, directory_call}
use Rattle.locale_compile.specs.Answers.{told_as}
use Rattle.table_check.specs.Answers.{checked_as}
use Rattle.order_compare.specs.Answers.{stepped_as, compared_as}
use Rattle.order_keys.specs.Answers.{keyed_as}
use Rattle.charmap_read.specs.Answers.{read_as}
use Rattle.charmap_coding.specs.Answers.{number_is, written_is}
use Rattle.order_directory.specs.Answers.{directed_is}
use Rattle.order_compare.specs.declared.Answer.{Answer}
use Rattle.base_units.specs.declared.Refusal.{Refusal}
use Rattle.table_check.specs.declared.Shape.{Shape}

-- ## The ten operations

-- `compile`, of a source, a table area and a work area, answers so and leaves these two areas
abbrev pub Compiles : (src area work : List ℕ) → Result ℕ (Refusal × ℕ) → (area₁ work₁ : List ℕ) → Type 0
Compiles src area work r area₁ work₁ = told_as r area₁ work₁ ≡ compile_call src area work

-- `check`, of a table
abbrev pub Checks : (t : List ℕ) → Result Shape Refusal → Type 0
Checks t r = checked_as r ≡ check_call t

-- `step`, of a table, a string and a place in it
abbrev pub Steps : (t s : List ℕ) (at : ℕ) → Result (ℕ × ℕ) Refusal → Type 0
Steps t s at r = stepped_as r ≡ step_call t s at

-- `compare`, of a table and two strings
abbrev pub Compares : (t a b : List ℕ) → Result Answer Refusal → Type 0
Compares t a b r = compared_as r ≡ compare_call t a b

-- `key`, of a table, a string and room for bytes, answers so and leaves this room
abbrev pub Keys : (t s room : List ℕ) → Result ℕ Refusal → (room₁ : List ℕ) → Type 0
Keys t s room r room₁ = keyed_as r room₁ ≡ key_call t s room

-- `read`, of a charmap source and an area, answers so and leaves this area
abbrev pub Reads : (src area : List ℕ) → Result Unit (Refusal × ℕ) → (area₁ : List ℕ) → Type 0
Reads src area r area₁ = read_as r area₁ ≡ charmap_call src area

-- `check_area`, of a charmap area
abbrev pub ChecksArea : (area : List ℕ) → Result Unit Refusal → Type 0
ChecksArea area r = number_is r ≡ area_call area

-- `decode`, of a charmap area, bytes and room for characters, answers so and leaves this room
abbrev pub Decodes : (area bs room : List ℕ) → Result ℕ Refusal → (room₁ : List ℕ) → Type 0
Decodes area bs room r room₁ = written_is r room₁ ≡ decode_call area bs room

-- `encode`, of a charmap area, a string and room for bytes, answers so and leaves this room
abbrev pub Encodes : (area s room : List ℕ) → Result ℕ Refusal → (room₁ : List ℕ) → Type 0
Encodes area s room r room₁ = written_is r room₁ ≡ encode_call area s room

-- `directory`, of a table, a run of characters, headings and topics in it, and a list, answers so and leaves this list
abbrev pub Directs : (t run headings topics list : List ℕ) → Result Unit Refusal → (list₁ : List ℕ) → Type 0
Directs t run headings topics list r list₁ = directed_is r list₁ ≡ directory_call t run headings topics list

-- ## What a source means

-- of the state that its lines leave, the levels with their rules and the items in order
abbrev pub source_meaning : List ℕ → Meaning
source_meaning src = meaning_of (lines_from start 1 0 src).state

-- ## What stands in a table (docs/TABLE.md)

-- how many levels it states
abbrev pub levels_stated : List ℕ → ℕ
levels_stated t = get_or t 0 0

-- the weights that it states, in their order
unfoldable pub weights_stated : List ℕ → List ℕ
weights_stated t = take (get_or t 2 0) (drop (get_or t 0 0) (drop (6 * get_or t 1 0) (drop (get_or t 1 0 * get_or t 0 0) (drop 16 t))))

-- ## Refusals in an order

-- the first of them, each being 0 where it is not given; 0 where none is
unfoldable pub first_given : List ℕ → ℕ
first_given [] = 0
first_given (n ∷ ns) = if eqb n 0 then first_given ns else n
