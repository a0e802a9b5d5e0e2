-- What is proved of the code of each function of zeharmeku, which zeharmeku_c exports with the same clause: run on any arguments, it ends, and it leaves the
-- paper's answer told in numbers, and the areas as the paper has them (Rattle.zeharmeku.specs.Told). It asks nothing of the caller, and no second answer meets what it promises. `Wired` is as in `Contracts`.
use mathlib.Core.Path.{◌≡◌, sym, ◌∙◌}
use mathlib.Core.List.{List}
use Prim.Native.Nat.{ℕ}
use seplogic.Ra.Ura.{Ura}
use prog.Model.{Model}
use prog.Wired.{Wired}
use types.Logic.{Logic}
use contract.Running.{Running}
use denote.Triple.Spec.{Meets}
use Rattle.rules.specs.Calls as calls
use Rattle.rules.specs.Calls.{compile_call, check_call, step_call, compare_call, key_call, charmap_call, area_call, decode_call, encode_call, directory_call}
use Rattle.zeharmeku.specs.Told.{told, checked_numbers, stepped_numbers, compared_numbers, WrittenIs, MappedIs, CompiledIs, DirectedIs}
use Rattle.zeharmeku.specs.contracts.zeharmeku_compile as compile
use Rattle.zeharmeku.proofs.zeharmeku_compile.Symbol as compile-code
use Rattle.zeharmeku.proofs.zeharmeku_compile.Met as compile-thm
use Rattle.zeharmeku.specs.contracts.zeharmeku_check as check
use Rattle.zeharmeku.proofs.zeharmeku_check.Symbol as check-code
use Rattle.zeharmeku.proofs.zeharmeku_check.Met as check-thm
use Rattle.zeharmeku.specs.contracts.zeharmeku_step as step
use Rattle.zeharmeku.proofs.zeharmeku_step.Symbol as step-code
use Rattle.zeharmeku.proofs.zeharmeku_step.Met as step_thm
use Rattle.zeharmeku.specs.contracts.zeharmeku_compare as compare
use Rattle.zeharmeku.proofs.zeharmeku_compare.Symbol as compare-code
use Rattle.zeharmeku.proofs.zeharmeku_compare.Met as compare-thm
use Rattle.zeharmeku.specs.contracts.zeharmeku_key as key
use Rattle.zeharmeku.proofs.zeharmeku_key.Symbol as key-code
use Rattle.zeharmeku.proofs.zeharmeku_key.Met as key-thm
use Rattle.zeharmeku.specs.contracts.zeharmeku_charmap as charmap
use Rattle.zeharmeku.proofs.zeharmeku_charmap.Symbol as charmap-code
use Rattle.zeharmeku.proofs.zeharmeku_charmap.Met as charmap-thm
use Rattle.zeharmeku.specs.contracts.zeharmeku_area as area
use Rattle.zeharmeku.proofs.zeharmeku_area.Symbol as area-code
use Rattle.zeharmeku.proofs.zeharmeku_area.Met as area-thm
use Rattle.zeharmeku.specs.contracts.zeharmeku_decode as decode
use Rattle.zeharmeku.proofs.zeharmeku_decode.Symbol as decode-code
use Rattle.zeharmeku.proofs.zeharmeku_decode.Met as decode-thm
use Rattle.zeharmeku.specs.contracts.zeharmeku_encode as encode
use Rattle.zeharmeku.proofs.zeharmeku_encode.Symbol as encode-code
use Rattle.zeharmeku.proofs.zeharmeku_encode.Met as encode-thm
use Rattle.zeharmeku.specs.contracts.zeharmeku_directory as directory
use Rattle.zeharmeku.proofs.zeharmeku_directory.Symbol as directory-code
use Rattle.zeharmeku.proofs.zeharmeku_directory.Met as directory-thm
use Rattle.demands.proofs.Contracts.{promises}

module _ {M : Type 1} {𝓤 : Ura M} (𝓛 : Logic 𝓤) (𝓜 : Model 𝓤 𝓛.H) (𝓡 : Running 𝓤 𝓛.H 𝓜) where
  -- In each of them a holds the parameters at entry, e those at exit, in the order of the signature; the last of them is the array for the
  -- answer, but for area and directory, which return their refusal.

  pub compile-exported : Wired 𝓡.env compile-code.code → Meets 𝓛 (compile.ended).signature (𝓡.run (𝓡.env compile-code.name))
      (promises 𝓛 𝓜 𝓡 compile.ended (λ κs a r e. CompiledIs (compile_call a.0.now a.1.0.now a.1.1.0.now) a.1.1.1.0.now e.1.1.1.0.now e.1.0.now e.1.1.0.now))
  compile-exported = compile-thm.met 𝓤 𝓛 𝓜 𝓡

  pub check-exported : Wired 𝓡.env check-code.code → Meets 𝓛 (check.ended).signature (𝓡.run (𝓡.env check-code.name))
      (promises 𝓛 𝓜 𝓡 check.ended (λ κs a r e. e.1.0.now ≡ told (checked_numbers (check_call a.0.now)) a.1.0.now))
  check-exported = check-thm.met 𝓤 𝓛 𝓜 𝓡

  pub step-exported : Wired 𝓡.env step-code.code → Meets 𝓛 (step.ended).signature (𝓡.run (𝓡.env step-code.name))
      (promises 𝓛 𝓜 𝓡 step.ended (λ κs a r e. e.1.1.1.0.now ≡ told (stepped_numbers (step_call a.0.now a.1.0.now a.1.1.0)) a.1.1.1.0.now))
  step-exported = step_thm.met 𝓤 𝓛 𝓜 𝓡

  pub compare-exported : Wired 𝓡.env compare-code.code → Meets 𝓛 (compare.ended).signature (𝓡.run (𝓡.env compare-code.name))
      (promises 𝓛 𝓜 𝓡 compare.ended (λ κs a r e. e.1.1.1.0.now ≡ told (compared_numbers (compare_call a.0.now a.1.0.now a.1.1.0.now)) a.1.1.1.0.now))
  compare-exported = compare-thm.met 𝓤 𝓛 𝓜 𝓡

  pub key-exported : Wired 𝓡.env key-code.code → Meets 𝓛 (key.ended).signature (𝓡.run (𝓡.env key-code.name))
      (promises 𝓛 𝓜 𝓡 key.ended (λ κs a r e. WrittenIs (key_call a.0.now a.1.0.now a.1.1.0.now) a.1.1.1.0.now e.1.1.1.0.now e.1.1.0.now))
  key-exported = key-thm.met 𝓤 𝓛 𝓜 𝓡

  pub charmap-exported : Wired 𝓡.env charmap-code.code → Meets 𝓛 (charmap.ended).signature (𝓡.run (𝓡.env charmap-code.name))
      (promises 𝓛 𝓜 𝓡 charmap.ended (λ κs a r e. MappedIs (charmap_call a.0.now a.1.0.now) a.1.1.0.now e.1.1.0.now e.1.0.now))
  charmap-exported = charmap-thm.met 𝓤 𝓛 𝓜 𝓡

  pub area-exported : Wired 𝓡.env area-code.code → Meets 𝓛 (area.ended).signature (𝓡.run (𝓡.env area-code.name))
      (promises 𝓛 𝓜 𝓡 area.ended (λ κs a r e. r ≡ area_call a.0.now))
  area-exported = area-thm.met 𝓤 𝓛 𝓜 𝓡

  pub decode-exported : Wired 𝓡.env decode-code.code → Meets 𝓛 (decode.ended).signature (𝓡.run (𝓡.env decode-code.name))
      (promises 𝓛 𝓜 𝓡 decode.ended (λ κs a r e. WrittenIs (decode_call a.0.now a.1.0.now a.1.1.0.now) a.1.1.1.0.now e.1.1.1.0.now e.1.1.0.now))
  decode-exported = decode-thm.met 𝓤 𝓛 𝓜 𝓡

  pub encode-exported : Wired 𝓡.env encode-code.code → Meets 𝓛 (encode.ended).signature (𝓡.run (𝓡.env encode-code.name))
      (promises 𝓛 𝓜 𝓡 encode.ended (λ κs a r e. WrittenIs (encode_call a.0.now a.1.0.now a.1.1.0.now) a.1.1.1.0.now e.1.1.1.0.now e.1.1.0.now))
  encode-exported = encode-thm.met 𝓤 𝓛 𝓜 𝓡

  pub directory-exported : Wired 𝓡.env directory-code.code → Meets 𝓛 (directory.ended).signature (𝓡.run (𝓡.env directory-code.name))
      (promises 𝓛 𝓜 𝓡 directory.ended (λ κs a r e. DirectedIs (directory_call a.0.now a.1.0.now a.1.1.0.now a.1.1.1.0.now a.1.1.1.1.0.now) r e.1.1.1.1.0.now))
  directory-exported = directory-thm.met 𝓤 𝓛 𝓜 𝓡

-- ## No second answer, of those that leave areas

pub one-compiled : {c : calls.Compiled} {array array₁ array₂ area₁ area₂ work₁ work₂ : List ℕ} → CompiledIs c array array₁ area₁ work₁
    → CompiledIs c array array₂ area₂ work₂ → (array₁ ≡ array₂) × (area₁ ≡ area₂) × (work₁ ≡ work₂)
one-compiled x y = (x.answer ∙ sym y.answer, x.area ∙ sym y.area, x.work ∙ sym y.work)

pub one_written : {w : calls.Written} {array array₁ array₂ room₁ room₂ : List ℕ} → WrittenIs w array array₁ room₁ → WrittenIs w array array₂ room₂
    → (array₁ ≡ array₂) × (room₁ ≡ room₂)
one_written x y = (x.answer ∙ sym y.answer, x.room ∙ sym y.room)

pub one-mapped : {m : calls.Mapped} {array array₁ array₂ area₁ area₂ : List ℕ} → MappedIs m array array₁ area₁ → MappedIs m array array₂ area₂
    → (array₁ ≡ array₂) × (area₁ ≡ area₂)
one-mapped x y = (x.answer ∙ sym y.answer, x.area ∙ sym y.area)

pub one-directed : {d : calls.Directed} {r s : ℕ} {list₁ list₂ : List ℕ} → DirectedIs d r list₁ → DirectedIs d s list₂ → (r ≡ s) × (list₁ ≡ list₂)
one-directed x y = (x.returned ∙ sym y.returned, x.list ∙ sym y.list)
