-- `locale_outside::outer_turn` meets its contract: a law for each answer.
use Rattle.std.proofs.Common.{◌≡◌, Ok, Err}
use Rattle.std.proofs.lemmas.Result.{err_from_is_err_and}
use Rattle.locale_outside.proofs.TurnLaws.{answered, turn-blank, turn_signed, turn-collate, opened-begins, opened-named, turn-category, turn-unended, turn-refused}
use Rattle.locale_outside.proofs.outer_turn.Goals as goal

pub returns-then-collate : goal.returns-then-collate
returns-then-collate c = let e = answered c.in-Ok-Opened.is c.in-Ok-Opened.field-0-is in search turn-collate

pub skip_category-requires : goal.skip_category-requires
skip_category-requires c = let e = answered c.in-Ok-Opened.is c.in-Ok-Opened.field-0-is in (search opened-begins, search opened-named)

pub returns-in_err-i-in-Ok-Opened : goal.returns-in_err-i-in-Ok-Opened
returns-in_err-i-in-Ok-Opened c =
    let e = answered c.in-Ok-Opened.is c.in-Ok-Opened.field-0-is in
    let p = err_from_is_err_and c.from_residual.result c.from_residual.ensures.1 in
    let q : c.skip_category.result ≡ Err c.in_err-i-in-Ok-Opened.field-0.0 = c.in_err-i-in-Ok-Opened.was in
    rw (p.1, p.2) (search turn-unended)

pub returns-in-Ok-Blank : goal.returns-in-Ok-Blank
returns-in-Ok-Blank c = let e = answered c.in-Ok-Blank.is c.in-Ok-Blank.field-0-is in search turn-blank

pub returns-in-Ok-Signed : goal.returns-in-Ok-Signed
returns-in-Ok-Signed c = let e = answered c.in-Ok-Signed.is c.in-Ok-Signed.field-0-is in search turn_signed

pub returns-in_ok-i-in-Ok-Opened : goal.returns-in_ok-i-in-Ok-Opened
returns-in_ok-i-in-Ok-Opened c =
    let e = answered c.in-Ok-Opened.is c.in-Ok-Opened.field-0-is in
    let q : c.skip_category.result ≡ Ok (c.in_ok-i-in-Ok-Opened.i, c.in_ok-i-in-Ok-Opened.m) = c.in_ok-i-in-Ok-Opened.was in
    search turn-category

pub returns-in-Err : goal.returns-in-Err
returns-in-Err c = search turn-refused
