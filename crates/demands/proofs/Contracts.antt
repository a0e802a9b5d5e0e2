-- What is proved of the code of each public operation: run on any arguments, it ends, and its answer and the areas that it leaves are as `Answered` in specs/
-- says. It asks nothing of the caller. So the laws of this crate are about what the functions answer, and a contract that is weakened or given a `requires` is
-- refused here. `Wired` says that the names in the code mean the code of what it calls.
use seplogic.Ra.Ura.{Ura}
use base.Logic.{emp}
use prog.Model.{Model}
use prog.Wired.{Wired}
use types.Logic.{Logic}
use contract.Lifetimes.{Lfts}
use contract.Monad.{fact}
use contract.Running.{Running}
use denote.Triple.Entry.{Args, Res}
use denote.Triple.Spec.{Spec, Meets}
use denote.Triple.Clauses.{Ended, AtExit, closing}
use Rattle.locale_compile.specs.contracts.compile as compile
use Rattle.locale_compile.proofs.compile.Symbol as compile-code
use Rattle.locale_compile.proofs.compile.Met as compile-thm
use Rattle.table_check.specs.contracts.check as check
use Rattle.table_check.proofs.check.Symbol as check-code
use Rattle.table_check.proofs.check.Met as check-thm
use Rattle.order_compare.specs.contracts.step as step
use Rattle.order_compare.proofs.step.Symbol as step-code
use Rattle.order_compare.proofs.step.Met as step_thm
use Rattle.order_compare.specs.contracts.compare as compare
use Rattle.order_compare.proofs.compare.Symbol as compare-code
use Rattle.order_compare.proofs.compare.Met as compare-thm
use Rattle.order_keys.specs.contracts.key as key
use Rattle.order_keys.proofs.key.Symbol as key-code
use Rattle.order_keys.proofs.key.Met as key-thm
use Rattle.charmap_read.specs.contracts.read as read
use Rattle.charmap_read.proofs.read.Symbol as read-code
use Rattle.charmap_read.proofs.read.Met as read-thm
use Rattle.charmap_coding.specs.contracts.check_area as check-area
use Rattle.charmap_coding.proofs.check_area.Symbol as check-area-code
use Rattle.charmap_coding.proofs.check_area.Met as check-area-thm
use Rattle.charmap_coding.specs.contracts.decode as decode
use Rattle.charmap_coding.proofs.decode.Symbol as decode-code
use Rattle.charmap_coding.proofs.decode.Met as decode-thm
use Rattle.charmap_coding.specs.contracts.encode as encode
use Rattle.charmap_coding.proofs.encode.Symbol as encode-code
use Rattle.charmap_coding.proofs.encode.Met as encode-thm
use Rattle.order_directory.specs.contracts.directory as directory
use Rattle.order_directory.proofs.directory.Symbol as directory-code
use Rattle.order_directory.proofs.directory.Met as directory-thm
use Rattle.demands.specs.Answered.{Compiles, Checks, Steps, Compares, Keys, Reads, ChecksArea, Decodes, Encodes, Directs}

module _ {M : Type 1} {𝓤 : Ura M} (𝓛 : Logic 𝓤) (𝓜 : Model 𝓤 𝓛.H) (𝓡 : Running 𝓤 𝓛.H 𝓜) where
  -- asks nothing, and promises this of the parameters at entry, the answer and the parameters at exit
  abbrev pub promises : (T : Ended) → ((κs : Lfts T.signature.lifetimes) → Args T.signature κs → Res T.signature κs → AtExit T κs → Type 0)
      → Spec 𝓤 T.signature
  promises T P = closing 𝓛 T (λ κs a. record { ghost = Unit {0}; requires = λ _. emp 𝓤; ensures = λ _ r e. fact 𝓤 (P κs a r e) })

  -- In each of them a holds the parameters at entry, e those at exit, in the order of the signature.

  pub compile-meets : Wired 𝓡.env compile-code.code → Meets 𝓛 (compile.ended).signature (𝓡.run (𝓡.env compile-code.name))
      (promises compile.ended (λ κs a r e. Compiles a.0.now a.1.0.now a.1.1.0.now r e.1.0.now e.1.1.0.now))
  compile-meets = compile-thm.met 𝓤 𝓛 𝓜 𝓡

  pub check-meets : Wired 𝓡.env check-code.code → Meets 𝓛 (check.ended).signature (𝓡.run (𝓡.env check-code.name))
      (promises check.ended (λ κs a r e. Checks a.0.now r))
  check-meets = check-thm.met 𝓤 𝓛 𝓜 𝓡

  pub step-meets : Wired 𝓡.env step-code.code → Meets 𝓛 (step.ended).signature (𝓡.run (𝓡.env step-code.name))
      (promises step.ended (λ κs a r e. Steps a.0.now a.1.0.now a.1.1.0 r))
  step-meets = step_thm.met 𝓤 𝓛 𝓜 𝓡

  pub compare-meets : Wired 𝓡.env compare-code.code → Meets 𝓛 (compare.ended).signature (𝓡.run (𝓡.env compare-code.name))
      (promises compare.ended (λ κs a r e. Compares a.0.now a.1.0.now a.1.1.0.now r))
  compare-meets = compare-thm.met 𝓤 𝓛 𝓜 𝓡

  pub key_meets : Wired 𝓡.env key-code.code → Meets 𝓛 (key.ended).signature (𝓡.run (𝓡.env key-code.name))
      (promises key.ended (λ κs a r e. Keys a.0.now a.1.0.now a.1.1.0.now r e.1.1.0.now))
  key_meets = key-thm.met 𝓤 𝓛 𝓜 𝓡

  pub read_meets : Wired 𝓡.env read-code.code → Meets 𝓛 (read.ended).signature (𝓡.run (𝓡.env read-code.name))
      (promises read.ended (λ κs a r e. Reads a.0.now a.1.0.now r e.1.0.now))
  read_meets = read-thm.met 𝓤 𝓛 𝓜 𝓡

  pub check-area-meets : Wired 𝓡.env check-area-code.code → Meets 𝓛 (check-area.ended).signature (𝓡.run (𝓡.env check-area-code.name))
      (promises check-area.ended (λ κs a r e. ChecksArea a.0.now r))
  check-area-meets = check-area-thm.met 𝓤 𝓛 𝓜 𝓡

  pub decode-meets : Wired 𝓡.env decode-code.code → Meets 𝓛 (decode.ended).signature (𝓡.run (𝓡.env decode-code.name))
      (promises decode.ended (λ κs a r e. Decodes a.0.now a.1.0.now a.1.1.0.now r e.1.1.0.now))
  decode-meets = decode-thm.met 𝓤 𝓛 𝓜 𝓡

  pub encode-meets : Wired 𝓡.env encode-code.code → Meets 𝓛 (encode.ended).signature (𝓡.run (𝓡.env encode-code.name))
      (promises encode.ended (λ κs a r e. Encodes a.0.now a.1.0.now a.1.1.0.now r e.1.1.0.now))
  encode-meets = encode-thm.met 𝓤 𝓛 𝓜 𝓡

  pub directory-meets : Wired 𝓡.env directory-code.code → Meets 𝓛 (directory.ended).signature (𝓡.run (𝓡.env directory-code.name))
      (promises directory.ended (λ κs a r e. Directs a.0.now a.1.0.now a.1.1.0.now a.1.1.1.0.now a.1.1.1.1.0.now r e.1.1.1.1.0.now))
  directory-meets = directory-thm.met 𝓤 𝓛 𝓜 𝓡
