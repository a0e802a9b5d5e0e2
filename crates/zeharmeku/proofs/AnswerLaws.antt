-- Each answer, told in numbers, is the paper's: one law for each case of each answer.
use Rattle.std.specs.Prelude.{Err, Ok, Result, ℕ}
use mathlib.Core.Path.{◌≡◌, sym, ap, ◌∙◌}
use mathlib.Core.List.{List, [], ◌∷◌}
use Prim.Native.Nat.{ℕ}
use Rattle.rules.specs.Calls as calls
use Rattle.base_units.specs.Numbers.{number_of, sign_of}
use Rattle.base_units.specs.declared.Refusal.{Refusal}
use Rattle.locale_compile.specs.Answers.{told_as}
use Rattle.table_check.specs.Answers.{checked_as}
use Rattle.table_check.specs.declared.Shape.{Shape}
use Rattle.order_compare.specs.Answers.{stepped_as, compared_as}
use Rattle.order_compare.specs.declared.Answer.{Answer}
use Rattle.order_keys.specs.Answers.{keyed_as}
use Rattle.charmap_read.specs.Answers.{read_as}
use Rattle.charmap_coding.specs.Answers.{number_is, written_is}
use Rattle.order_directory.specs.Answers.{directed_is}
use Rattle.zeharmeku.specs.Told.{told, sign_number, checked_numbers, stepped_numbers, compared_numbers, written_numbers, mapped_numbers, compiled_numbers, WrittenIs, MappedIs, CompiledIs, DirectedIs}

-- In all of them the paper's answer is c or w or m, and the answer array holds `array` before the call and `array₁` after it.

-- ## compile

module _ {c : calls.Compiled} {array array₁ area₁ work₁ : List ℕ} where
  table_is : {refusal line size : ℕ} → record { refusal = refusal; line = line; size = size; area = area₁; work = work₁ } ≡ c
      → array₁ ≡ told (refusal ∷ line ∷ size ∷ []) array
      → CompiledIs c array array₁ area₁ work₁
  unfolding compiled_numbers
  table_is is a = record {
    answer = a ∙ ap (λ (x : calls.Compiled). told (compiled_numbers x) array) is;
    area = ap (λ (x : calls.Compiled). x.area) is;
    work = ap (λ (x : calls.Compiled). x.work) is;
  }

  module _ {v : Result ℕ (Refusal × ℕ)} (is : told_as v area₁ work₁ ≡ c) where
    pub compile-done : {size : ℕ} → v ≡ Ok size → array₁ ≡ told (0 ∷ 0 ∷ size ∷ []) array → CompiledIs c array array₁ area₁ work₁
    compile-done e a = table_is (sym (ap (λ (x : Result ℕ (Refusal × ℕ)). told_as x area₁ work₁) e) ∙ is) a

    pub compile-refused : {r : Refusal} {l n : ℕ} → v ≡ Err (r, l) → n ≡ number_of r → array₁ ≡ told (n ∷ l ∷ 0 ∷ []) array
        → CompiledIs c array array₁ area₁ work₁
    compile-refused {l = l} e f a =
        table_is (sym (ap (λ (x : Result ℕ (Refusal × ℕ)). told_as x area₁ work₁) e) ∙ is) (a ∙ ap (λ (x : ℕ). told (x ∷ l ∷ 0 ∷ []) array) f)

-- ## check

module _ {c : calls.Checked} {v : Result Shape Refusal} (array : List ℕ) {array₁ : List ℕ} (is : checked_as v ≡ c) where
  pub check-accepted : {s : Shape} → v ≡ Ok s → array₁ ≡ told (0 ∷ s.levels ∷ s.items ∷ s.size ∷ []) array
      → array₁ ≡ told (checked_numbers c) array
  unfolding checked_numbers
  check-accepted e w = w ∙ ap (λ (x : calls.Checked). told (checked_numbers x) array) (sym (ap checked_as e) ∙ is)

  pub check-refused : {r : Refusal} {n : ℕ} → v ≡ Err r → n ≡ number_of r → array₁ ≡ told (n ∷ 0 ∷ 0 ∷ 0 ∷ []) array
      → array₁ ≡ told (checked_numbers c) array
  unfolding checked_numbers
  check-refused e f w =
      w
      ∙ ap (λ (x : ℕ). told (x ∷ 0 ∷ 0 ∷ 0 ∷ []) array) f
      ∙ ap (λ (x : calls.Checked). told (checked_numbers x) array) (sym (ap checked_as e) ∙ is)

-- ## step

module _ {c : calls.Stepped} {s : Result (ℕ × ℕ) Refusal} (array : List ℕ) {array₁ : List ℕ} (is : stepped_as s ≡ c) where
  pub step-found : {place size : ℕ} → s ≡ Ok (place, size) → array₁ ≡ told (0 ∷ place ∷ size ∷ []) array
      → array₁ ≡ told (stepped_numbers c) array
  unfolding stepped_numbers
  step-found e w = w ∙ ap (λ (x : calls.Stepped). told (stepped_numbers x) array) (sym (ap stepped_as e) ∙ is)

  pub step-refused : {r : Refusal} {n : ℕ} → s ≡ Err r → n ≡ number_of r → array₁ ≡ told (n ∷ 0 ∷ 0 ∷ []) array
      → array₁ ≡ told (stepped_numbers c) array
  unfolding stepped_numbers
  step-refused e f w =
      w
      ∙ ap (λ (x : ℕ). told (x ∷ 0 ∷ 0 ∷ []) array) f
      ∙ ap (λ (x : calls.Stepped). told (stepped_numbers x) array) (sym (ap stepped_as e) ∙ is)

-- ## compare

module _ {c : calls.Compared} {v : Result Answer Refusal} (array : List ℕ) {array₁ : List ℕ} (is : compared_as v ≡ c) where
  pub compare-decided : {a : Answer} {n : ℕ} → v ≡ Ok a → n ≡ sign_number (sign_of a.sign)
      → array₁ ≡ told (0 ∷ n ∷ a.level ∷ a.agreed ∷ []) array
      → array₁ ≡ told (compared_numbers c) array
  unfolding compared_numbers
  compare-decided {a} e f w =
      w
      ∙ ap (λ (x : ℕ). told (0 ∷ x ∷ a.level ∷ a.agreed ∷ []) array) f
      ∙ ap (λ (x : calls.Compared). told (compared_numbers x) array) (sym (ap compared_as e) ∙ is)

  pub compare-refused : {r : Refusal} {n : ℕ} → v ≡ Err r → n ≡ number_of r → array₁ ≡ told (n ∷ 0 ∷ 0 ∷ 0 ∷ []) array
      → array₁ ≡ told (compared_numbers c) array
  unfolding compared_numbers
  compare-refused e f w =
      w
      ∙ ap (λ (x : ℕ). told (x ∷ 0 ∷ 0 ∷ 0 ∷ []) array) f
      ∙ ap (λ (x : calls.Compared). told (compared_numbers x) array) (sym (ap compared_as e) ∙ is)

-- ## key, decode and encode

module _ {w : calls.Written} {array array₁ room₁ : List ℕ} where
  text-is : {refusal size : ℕ} → record { refusal = refusal; size = size; room = room₁ } ≡ w → array₁ ≡ told (refusal ∷ size ∷ []) array
      → WrittenIs w array array₁ room₁
  unfolding written_numbers
  text-is is a = record {
    answer = a ∙ ap (λ (x : calls.Written). told (written_numbers x) array) is;
    room = ap (λ (x : calls.Written). x.room) is;
  }

  module _ {k : Result ℕ Refusal} (is : keyed_as k room₁ ≡ w) where
    pub key-written : {n : ℕ} → k ≡ Ok n → array₁ ≡ told (0 ∷ n ∷ []) array → WrittenIs w array array₁ room₁
    key-written e a = text-is (sym (ap (λ (x : Result ℕ Refusal). keyed_as x room₁) e) ∙ is) a

    pub key-refused : {r : Refusal} {n : ℕ} → k ≡ Err r → n ≡ number_of r → array₁ ≡ told (n ∷ 0 ∷ []) array
        → WrittenIs w array array₁ room₁
    key-refused e f a =
        text-is (sym (ap (λ (x : Result ℕ Refusal). keyed_as x room₁) e) ∙ is) (a ∙ ap (λ (x : ℕ). told (x ∷ 0 ∷ []) array) f)

  module _ {v : Result ℕ Refusal} (is : written_is v room₁ ≡ w) where
    pub coded-written : {n : ℕ} → v ≡ Ok n → array₁ ≡ told (0 ∷ n ∷ []) array → WrittenIs w array array₁ room₁
    coded-written e a = text-is (sym (ap (λ (x : Result ℕ Refusal). written_is x room₁) e) ∙ is) a

    pub coded-refused : {r : Refusal} {n : ℕ} → v ≡ Err r → n ≡ number_of r → array₁ ≡ told (n ∷ 0 ∷ []) array
        → WrittenIs w array array₁ room₁
    coded-refused e f a =
        text-is (sym (ap (λ (x : Result ℕ Refusal). written_is x room₁) e) ∙ is) (a ∙ ap (λ (x : ℕ). told (x ∷ 0 ∷ []) array) f)

-- ## charmap

module _ {m : calls.Mapped} {array array₁ area₁ : List ℕ} where
  map_is : {refusal line : ℕ} → record { refusal = refusal; line = line; area = area₁ } ≡ m → array₁ ≡ told (refusal ∷ line ∷ []) array
      → MappedIs m array array₁ area₁
  unfolding mapped_numbers
  map_is is a = record {
    answer = a ∙ ap (λ (x : calls.Mapped). told (mapped_numbers x) array) is;
    area = ap (λ (x : calls.Mapped). x.area) is;
  }

  module _ {v : Result Unit (Refusal × ℕ)} (is : read_as v area₁ ≡ m) where
    pub map-done : v ≡ (Ok tt) → array₁ ≡ told (0 ∷ 0 ∷ []) array → MappedIs m array array₁ area₁
    map-done e a = map_is (sym (ap (λ (x : Result Unit (Refusal × ℕ)). read_as x area₁) e) ∙ is) a

    pub map-refused : {r : Refusal} {l n : ℕ} → v ≡ Err (r, l) → n ≡ number_of r → array₁ ≡ told (n ∷ l ∷ []) array
        → MappedIs m array array₁ area₁
    map-refused {l = l} e f a =
        map_is (sym (ap (λ (x : Result Unit (Refusal × ℕ)). read_as x area₁) e) ∙ is) (a ∙ ap (λ (x : ℕ). told (x ∷ l ∷ []) array) f)

-- ## area

module _ {c : ℕ} {v : Result Unit Refusal} (is : number_is v ≡ c) where
  pub area-accepted : v ≡ (Ok tt) → 0 ≡ c
  area-accepted e = sym (ap number_is e) ∙ is

  pub area-refused : {r : Refusal} {n : ℕ} → v ≡ Err r → n ≡ number_of r → n ≡ c
  area-refused e f = f ∙ sym (ap number_is e) ∙ is

-- ## directory

directed-is : {c : calls.Directed} {refusal : ℕ} {list₁ : List ℕ} → record { refusal = refusal; list = list₁ } ≡ c → DirectedIs c refusal list₁
directed-is e = record { returned = ap (λ (x : calls.Directed). x.refusal) e; list = ap (λ (x : calls.Directed). x.list) e }

module _ {c : calls.Directed} {list₁ : List ℕ} {d : Result Unit Refusal} (is : directed_is d list₁ ≡ c) where
  pub directed-done : d ≡ (Ok tt) → DirectedIs c 0 list₁
  directed-done e = directed-is (sym (ap (λ (x : Result Unit Refusal). directed_is x list₁) e) ∙ is)

  pub directed-refused : {r : Refusal} {n : ℕ} → d ≡ Err r → n ≡ number_of r → DirectedIs c n list₁
  directed-refused e f = rw f (directed-is (sym (ap (λ (x : Result Unit Refusal). directed_is x list₁) e) ∙ is))
