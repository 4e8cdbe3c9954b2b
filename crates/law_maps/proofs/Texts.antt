-- Maps by text: the laws of Tables where keys are lists of bytes, in their order.
use Rattle.std.proofs.Common.{◌≡◌, ℕ, true, false, cond, T, List, Some, None, nat_cmp, Ordering, ap}
use Rattle.std.specs.Ordering.{is_eq, eq_by_cmp}
use Rattle.std.specs.Cmp.{tied_itself, Equal-is}
use Rattle.std.specs.Cmp.Lexicographic.{slice_cmp, nat_list_cmp_total}
use Rattle.std.specs.List.Sorted.{IsStrictlySortedBy}
use Rattle.std.specs.Map.{lookup, keys_of}
use Rattle.std.specs.FinMap.{FinMap, nat_cmp-IsAntisymmetric, slice_cmp-IsAntisymmetric}
use Rattle.std.specs.FinMap.Entries.{is_sorted}
use Rattle.std.specs.FinMap as map
use Rattle.law_maps.proofs.Tables as tables

abbrev pub text_cmp : List ℕ → List ℕ → Ordering
text_cmp = slice_cmp nat_cmp

-- only equal texts tie
pub alike : map.IsAntisymmetric text_cmp
alike = slice_cmp-IsAntisymmetric nat_cmp-IsAntisymmetric

pub same_text : (a b : List ℕ) → eq_by_cmp text_cmp a b ≡ true → a ≡ b
same_text a b t = alike a b ((Equal-is (text_cmp a b)).0 t)

pub itself : (a : List ℕ) → eq_by_cmp text_cmp a a ≡ true
itself a = ap is_eq (tied_itself nat_list_cmp_total a)

module _ {X : Type 0} where
  pub get_table : (es : List (List ℕ × X)) (q : List ℕ) → map.get (map.from_entries {R = text_cmp} es) q ≡ lookup (λ k. is_eq (text_cmp q k)) es
  get_table es q = tables.get_table nat_list_cmp_total es q

  pub insert_table : (es fs : List (List ℕ × X)) (k : List ℕ) (v : X)
      → ((q : List ℕ) → lookup (λ x. is_eq (text_cmp q x)) fs ≡ cond (is_eq (text_cmp k q)) (Some v) (lookup (λ x. is_eq (text_cmp q x)) es))
      → map.from_entries {R = text_cmp} fs ≡ map.insert (map.from_entries es) k v
  insert_table es fs k v h = tables.insert_table nat_list_cmp_total alike es fs k v h

  pub remove_table : (es fs : List (List ℕ × X)) (k : List ℕ)
      → ((q : List ℕ) → lookup (λ x. is_eq (text_cmp q x)) fs ≡ cond (is_eq (text_cmp k q)) None (lookup (λ x. is_eq (text_cmp q x)) es))
      → map.from_entries {R = text_cmp} fs ≡ map.remove (map.from_entries es) k
  remove_table es fs k h = tables.remove_table nat_list_cmp_total alike es fs k h

  pub get_inserted : (m : FinMap text_cmp X) (k : List ℕ) (v : X) → map.get (map.insert m k v) k ≡ Some v
  get_inserted m k v = tables.get_inserted nat_list_cmp_total m k v

  pub get_apart : (m : FinMap text_cmp X) (k : List ℕ) (v : X) (q : List ℕ) → eq_by_cmp text_cmp q k ≡ false → map.get (map.insert m k v) q ≡ map.get m q
  get_apart m k v q apart = tables.get_apart nat_list_cmp_total m k v q apart

  pub get_removed : (m : FinMap text_cmp X) (k : List ℕ) → map.get (map.remove m k) k ≡ None
  get_removed m k = tables.get_removed nat_list_cmp_total m k

  pub get_left : (m : FinMap text_cmp X) (k q : List ℕ) → eq_by_cmp text_cmp q k ≡ false → map.get (map.remove m k) q ≡ map.get m q
  get_left m k q apart = tables.get_left nat_list_cmp_total m k q apart

  pub remove_absent : (m : FinMap text_cmp X) (k : List ℕ) → map.get m k ≡ None → map.remove m k ≡ m
  remove_absent m k none = tables.remove_absent nat_list_cmp_total alike m k none

  pub insert_taken : (m : FinMap text_cmp X) (k : List ℕ) (v : X) → map.insert (map.remove m k) k v ≡ map.insert m k v
  insert_taken m k v = tables.insert_taken nat_list_cmp_total alike m k v

  pub remove_taken : (m : FinMap text_cmp X) (k : List ℕ) → map.remove (map.remove m k) k ≡ map.remove m k
  remove_taken m k = tables.remove_taken nat_list_cmp_total alike m k

  pub rising : (es : List (List ℕ × X)) → IsStrictlySortedBy text_cmp (keys_of es) → T (is_sorted text_cmp es)
  rising es h = tables.rising nat_list_cmp_total es h

  -- entries in order are those of their map
  pub entries_sorted : (es : List (List ℕ × X)) → T (is_sorted text_cmp es) → map.entries (map.from_entries {R = text_cmp} es) ≡ es
  entries_sorted es h = tables.entries_sorted nat_list_cmp_total alike es h
