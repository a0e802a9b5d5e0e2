-- `table_check::items_pass` meets its contract: the ends and the characters, then the listing.
use Rattle.std.proofs.Common.{◌≡◌, ◌∙◌, ◌&&◌, ◌-◌, drop, arith, rules}
use Rattle.std.proofs.lemmas.List.{length-take}
use Rattle.table_layout.proofs.LayoutLaws.{ends_at-least, ends_at-bound}
use Rattle.table_check.specs.Checks.{all_chars}
use Rattle.table_check.proofs.WholeLaws.{chars-part, items-no, items-listing, both-then, both-else}
use Rattle.table_check.proofs.items_pass.Goals as goal
use Rattle.table_check.proofs.items_pass.Goals.{then-ends_pass, else-ends_pass}

pub slice_bounds-ends_pass-count : goal.slice_bounds-ends_pass-count
slice_bounds-ends_pass-count c = let a = c.args in omega (arith, ends_at-least a.levels a.items)

pub slice_bounds-ends_pass-start : goal.slice_bounds-ends_pass-start
slice_bounds-ends_pass-start c = let a = c.args in let e = ends_at-least a.levels a.items in search rules

pub ends_pass-requires : goal.ends_pass-requires
ends_pass-requires c =
    let a = c.args in
    omega (arith, ends_at-bound a.levels a.items (omega arith) (omega arith), length-take (c.ends_at-chars.result - 16) (drop 16 a.t.now))

pub returns-then-chars_pass : goal.returns-then-chars_pass
returns-then-chars_pass c =
    let a = c.args in
    let both : c.if-ends_pass.value ≡ (c.ends_pass.result && all_chars a.items (drop c.ends_at-chars.result a.t.now)) =
    elim c.if-ends_pass.branch [
      | then-ends_pass w ↦ both-then w.if-ends_pass.true (w.value-is ∙ w.chars_pass.ensures ∙ chars-part a.t.now c.ends_at-chars.result a.items)
      | else-ends_pass w ↦ both-else _ w.if-ends_pass.false w.value-is
    ] in
    search items-listing

pub returns-else-chars_pass : goal.returns-else-chars_pass
returns-else-chars_pass c =
    let a = c.args in
    let both : c.if-ends_pass.value ≡ (c.ends_pass.result && all_chars a.items (drop c.ends_at-chars.result a.t.now)) =
    elim c.if-ends_pass.branch [
      | then-ends_pass w ↦ both-then w.if-ends_pass.true (w.value-is ∙ w.chars_pass.ensures ∙ chars-part a.t.now c.ends_at-chars.result a.items)
      | else-ends_pass w ↦ both-else _ w.if-ends_pass.false w.value-is
    ] in
    search items-no
