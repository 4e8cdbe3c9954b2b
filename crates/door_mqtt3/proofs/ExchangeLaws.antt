-- How many exchanges are open.
use Rattle.std.proofs.Common.{◌≡◌, ℕ, ◌+◌, Bool, false, cond, List, [], ◌∷◌, length, refl, ap, ◌∙◌, arith}
use Rattle.std.specs.Cmp.{nat_cmp_total}
use Rattle.std.specs.FinSet as set
use Rattle.std.specs.List.{AllByRecursion, list_any}
use Rattle.std.specs.List.Sorted.{IsStrictlySortedBy}
use Rattle.std.specs.Ordering.{is_eq, nat_cmp}
use Rattle.std.specs.declared.cmp.Ordering.TheVariants.{Less}
use Rattle.law_maps.proofs.Tables.{contains_table}

none_equal : (k : ℕ) (ks : List ℕ) → AllByRecursion (λ y. nat_cmp k y ≡ Less) ks → list_any (λ x. is_eq (nat_cmp k x)) ks ≡ false
none_equal k [] h = refl
none_equal k (x ∷ xs) h = rw h.0 (none_equal k xs h.1)

pub len_list : (ks : List ℕ) → IsStrictlySortedBy nat_cmp ks → set.len (set.from_list {R = nat_cmp} ks) ≡ length ks
unfolding IsStrictlySortedBy
len_list [] h = set.len-empty nat_cmp
len_list (k ∷ ks) h =
    let others : set.FinSet nat_cmp = set.from_list ks in
    let apart : set.contains others k ≡ false = contains_table nat_cmp_total ks k ∙ none_equal k ks h.0 in
    let more : set.len (set.insert others k) ≡ set.len others + 1 = set.len-insert nat_cmp_total others k ∙ ap (λ (b : Bool). cond b (set.len others) (set.len others + 1)) apart in
    let rest : set.len others ≡ length ks = len_list ks h.1 in
    omega arith
