-- Of each public operation: two answers, with the areas that they leave, that meet its contract for the same lent input are equal.
use Rattle.std.specs.Prelude.{Result, ℕ}
use mathlib.Core.Path.{◌≡◌, sym, ◌∙◌}
use mathlib.Core.List.{List}
use Prim.Native.Nat.{ℕ}
use Rattle.locale_compile.proofs.AnswerLaws.{told_as-unique}
use Rattle.table_check.proofs.AnswerLaws.{checked_as-unique}
use Rattle.order_compare.proofs.AnswerLaws.{stepped_as-unique, compared_as-unique}
use Rattle.order_keys.proofs.AnswerLaws.{keyed_as-unique}
use Rattle.charmap_read.proofs.AnswerLaws.{read_as-unique}
use Rattle.charmap_coding.proofs.AnswerLaws.{number_is-unique, written_is-unique}
use Rattle.order_directory.proofs.AnswerLaws.{directed_is-unique}
use Rattle.demands.specs.Answered.{Compiles, Checks, Steps, Compares, Keys, Reads, ChecksArea, Decodes, Encodes, Directs}
use Rattle.order_compare.specs.declared.Answer.{Answer}
use Rattle.base_units.specs.declared.Refusal.{Refusal}
use Rattle.table_check.specs.declared.Shape.{Shape}

pub one-compile : (src area work : List ℕ) (x y : Result ℕ (Refusal × ℕ)) (a b v w : List ℕ) → Compiles src area work x a v → Compiles src area work y b w
    → (x ≡ y) × (a ≡ b) × (v ≡ w)
one-compile src area work x y a b v w e f = told_as-unique x y a b v w (e ∙ sym f)

pub one-check : (t : List ℕ) (x y : Result Shape Refusal) → Checks t x → Checks t y → x ≡ y
one-check t x y e f = checked_as-unique x y (e ∙ sym f)

pub one-step : (t s : List ℕ) (at : ℕ) (x y : Result (ℕ × ℕ) Refusal) → Steps t s at x → Steps t s at y → x ≡ y
one-step t s at x y e f = stepped_as-unique x y (e ∙ sym f)

pub one-compare : (t a b : List ℕ) (x y : Result Answer Refusal) → Compares t a b x → Compares t a b y → x ≡ y
one-compare t a b x y e f = compared_as-unique x y (e ∙ sym f)

pub one_key : (t s room : List ℕ) (x y : Result ℕ Refusal) (a b : List ℕ) → Keys t s room x a → Keys t s room y b → (x ≡ y) × (a ≡ b)
one_key t s room x y a b e f = keyed_as-unique x y a b (e ∙ sym f)

pub one-read : (src area : List ℕ) (x y : Result Unit (Refusal × ℕ)) (a b : List ℕ) → Reads src area x a → Reads src area y b → (x ≡ y) × (a ≡ b)
one-read src area x y a b e f = read_as-unique x y a b (e ∙ sym f)

pub one-check-area : (area : List ℕ) (x y : Result Unit Refusal) → ChecksArea area x → ChecksArea area y → x ≡ y
one-check-area area x y e f = number_is-unique x y (e ∙ sym f)

pub one-decode : (area bs room : List ℕ) (x y : Result ℕ Refusal) (a b : List ℕ) → Decodes area bs room x a → Decodes area bs room y b → (x ≡ y) × (a ≡ b)
one-decode area bs room x y a b e f = written_is-unique x y a b (e ∙ sym f)

pub one-encode : (area s room : List ℕ) (x y : Result ℕ Refusal) (a b : List ℕ) → Encodes area s room x a → Encodes area s room y b → (x ≡ y) × (a ≡ b)
one-encode area s room x y a b e f = written_is-unique x y a b (e ∙ sym f)

pub one-directory : (t run headings topics list : List ℕ) (x y : Result Unit Refusal) (a b : List ℕ) → Directs t run headings topics list x a
    → Directs t run headings topics list y b → (x ≡ y) × (a ≡ b)
one-directory t run headings topics list x y a b e f = directed_is-unique x y a b (e ∙ sym f)
