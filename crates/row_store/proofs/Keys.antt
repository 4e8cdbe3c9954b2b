-- The order of keys.
use Rattle.std.proofs.Common.{◌≡◌, true, Ordering, Less, Equal, Greater, refl}
use Rattle.std.specs.Ordering.{is_eq, nat_cmp}
use Rattle.std.specs.Cmp.{IsTotalOrder, nat_cmp_total, then_total, on_total}
use Rattle.std.specs.Cmp.Lexicographic.{slice_cmp, nat_list_cmp_total}
use Rattle.std.specs.FinMap.{IsAntisymmetric}
use Rattle.std.proofs.lemmas.Map.Lookups.{exact_unsigned, exact_bytes, exact_pairs}
use Rattle.row_store.specs.Rows.{key_cmp}

pub keys_total : IsTotalOrder key_cmp
keys_total = then_total (on_total (λ k. k.0) nat_cmp_total) (then_total (on_total (λ k. k.1.0) nat_list_cmp_total) (on_total (λ k. k.1.1) nat_list_cmp_total))

pub exact_keys : IsAntisymmetric key_cmp
exact_keys = exact_pairs nat_cmp _ exact_unsigned (exact_pairs (slice_cmp nat_cmp) (slice_cmp nat_cmp) exact_bytes exact_bytes)

pub equal_is : (o : Ordering) → is_eq o ≡ true → o ≡ Equal
equal_is Less h = absurd (cc)
equal_is Equal h = refl
equal_is Greater h = absurd (cc)
