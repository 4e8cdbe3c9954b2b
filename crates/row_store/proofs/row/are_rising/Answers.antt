use Rattle.std.proofs.Common.{rules, arith, ◌≡◌, Less, true≢false, refl, sym, ◌∙◌}
use Rattle.row_store.specs.Rows.{entry_of, key_cmp, key_of}
use Rattle.row_store.proofs.Neighbours.{side_by_side}
use Rattle.row_store.proofs.Sorted.{rising_sorted, sorted_rises}
use Rattle.row_store.proofs.row.are_rising.Goals as goal

pub returns : goal.returns
returns c = (λ _. rising_sorted entry_of c.args.rows.now (λ k d low. c.loop-i.invariant.rising k d (omega (arith, low))), λ _. refl)

pub returns-then-not-is_below : goal.returns-then-not-is_below
returns-then-not-is_below c = (
  λ t. absurd (true≢false (sym t)),
  λ sorted.
      let next = side_by_side (λ a b. key_cmp (key_of a) (key_of b) ≡ Less) c.args.rows.now c.loop-i.i c.index-rows-i.result c.index-rows-i-in-loop-i.result (search rules) (search rules) c.index-rows-i.is c.index-rows-i-in-loop-i.is
      (sorted_rises entry_of c.args.rows.now sorted) in
      absurd (true≢false (sym (c.is_below.ensures.1 next) ∙ c.if-not-is_below.true)),
)
