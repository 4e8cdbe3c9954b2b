-- The order of two rowids.
use Rattle.std.proofs.Common.{◌≡◌, ℕ, ◌<◌, ◌≤◌, ◌-◌, length, List, get_or, ℤ, Less, arith, subst₂, sym, ◌∙◌}
use Rattle.std.specs.List.{All}
use Rattle.std.specs.Ordering.{int_cmp}
use Rattle.sqlite_value.specs.declared.value.Value.{Value}
use Rattle.sqlite_value.specs.declared.value.Value.TheVariants.{Int}
use Rattle.sqlite_value.specs.Order.{Row, column, value_cmp}
use Rattle.sqlite_value.proofs.OrderLemmas.{value_cmp-Int}
use Rattle.sqlite_trees.specs.Tree.{rowid}
use Rattle.session_records.specs.Stored.{HasForm, HaveIds, IsInt}
use Rattle.row_store.proofs.Neighbours.{here, side_by_side}

pub below : (a b : ℤ) (v w : Value) → v ≡ Int a → w ≡ Int b → int_cmp a b ≡ Less → value_cmp v w ≡ Less
below a b v w is at low = subst₂ (λ x y. value_cmp x y ≡ Less) (sym is) (sym at) (value_cmp-Int a b ∙ low)

pub lower : (a b : ℤ) (v w : Value) → v ≡ Int a → w ≡ Int b → value_cmp v w ≡ Less → int_cmp a b ≡ Less
lower a b v w is at low = sym (value_cmp-Int a b) ∙ subst₂ (λ x y. value_cmp x y ≡ Less) is at low

pub record IsNext (low high : Row) : Type 0 where
  pub low_id : IsInt (column low 0)
  pub high_id : IsInt (column high 0)
  pub less : value_cmp (rowid low) (rowid high) ≡ Less

pub numbered_next : (rows : List Row) (i : ℕ) (low high : Row) → 1 ≤ i → i < length rows → low ≡ get_or rows (i - 1) low → high ≡ get_or rows i high → All HasForm rows → HaveIds rows → IsNext low high
numbered_next rows i low high one inside is at all ids = record {
  low_id = (here HasForm rows (i - 1) low (omega (arith, one, inside)) is all).id;
  high_id = (here HasForm rows i high inside at all).id;
  less = side_by_side (λ a b. value_cmp (rowid a) (rowid b) ≡ Less) rows i low high one inside is at ids;
}
