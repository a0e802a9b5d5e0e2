-- `table_layout::item_at` meets its contract: behind the characters number k of the listing is the place of an item, whose four numbers stand among them.
use native.Mathlib.Omega.{arith}
use Rattle.table_layout.proofs.IndexLaws.{indexed-sizes, place-within, item-lists}
use Rattle.table_layout.proofs.item_at.Goals as goal

pub overflow_mul-place : goal.overflow_mul-place
overflow_mul-place c = omega (arith, indexed-sizes c.requires.indexed, c.requires.k_lt)

pub overflow_add-place : goal.overflow_add-place
overflow_add-place c = omega (arith, indexed-sizes c.requires.indexed, c.requires.k_lt)

pub overflow_add-place-2 : goal.overflow_add-place-2
overflow_add-place-2 c = omega (arith, indexed-sizes c.requires.indexed, c.requires.k_lt)

pub offset_bounds-t-chars : goal.offset_bounds-t-chars
offset_bounds-t-chars c = omega (arith, indexed-sizes c.requires.indexed, c.requires.k_lt)

pub bounds-t-chars : goal.bounds-t-chars
bounds-t-chars c = omega (arith, indexed-sizes c.requires.indexed, c.requires.k_lt)

pub overflow_cast-place : goal.overflow_cast-place
overflow_cast-place c = omega (arith, indexed-sizes c.requires.indexed, place-within c.requires.indexed c.args.k c.requires.k_lt)

pub overflow_sub-result : goal.overflow_sub-result
overflow_sub-result c = (place-within c.requires.indexed c.args.k c.requires.k_lt).0

pub overflow_mul-result : goal.overflow_mul-result
overflow_mul-result c = omega (arith, indexed-sizes c.requires.indexed, place-within c.requires.indexed c.args.k c.requires.k_lt)

pub overflow_add-result : goal.overflow_add-result
overflow_add-result c = omega (arith, indexed-sizes c.requires.indexed, place-within c.requires.indexed c.args.k c.requires.k_lt)

pub returns : goal.returns
returns c = search item-lists
