-- Changes of lanes that are told are those of the keys at which the rows differ, and there is one list of these.
use Rattle.std.proofs.Common.{◌≡◌, inl, inr, ℕ, T, List, map, Option, Some, None, refl, sym, ap, ◌∙◌}
use Rattle.std.specs.FinMap.{find, is_sorted, entries, from_sorted, entries-from_sorted, get-from_sorted, same_map}
use Rattle.bridge_lanes.specs.Lanes.{Lanes}
use Rattle.bridge_frames.specs.declared.forward.Forward.{Forward}
use Rattle.row_store.specs.Leading.{left_by}
use Rattle.row_store.specs.declared.row.Change.{Change}
use Rattle.row_store.specs.Rows.{key_cmp, Key}
use Rattle.row_store.proofs.Keys.{keys_total, exact_keys}
use Rattle.bridge_lanes.specs.Changes.{AreLaneChanges, Left, left_of}
use Rattle.bridge_lanes.proofs.Named.{left_once, right_at, so_changes, so_differ, so_lead}
use Rattle.bridge_lanes.proofs.Order.{left_by_in, sorted_rises}
use Rattle.law_nodes.specs.Lanes.{ChangesAreOneList, ChangesAreThose}

one_list : (xs ys : List Left) → T (is_sorted key_cmp xs) → T (is_sorted key_cmp ys) → ((q : Key) → find key_cmp q xs ≡ find key_cmp q ys) → xs ≡ ys
one_list xs ys up also same =
    let maps = same_map keys_total exact_keys (from_sorted {R = key_cmp} xs) (from_sorted {R = key_cmp} ys) (λ q. get-from_sorted key_cmp xs q up ∙ same q ∙ sym (get-from_sorted key_cmp ys q also)) in
    sym (entries-from_sorted key_cmp xs up) ∙ ap entries maps ∙ entries-from_sorted key_cmp ys also

module _ (old new : Lanes Forward) where
  -- what one leaves at a key the other leaves there too
  also : (these those : List Change) → AreLaneChanges old new these → AreLaneChanges old new those → (q : Key) (l : Option (List ℕ)) → left_by these q ≡ Some l → (o : Option (Option (List ℕ))) → left_by those q ≡ o → left_by those q ≡ Some l
  also these those a b q l is None none =
      elim (b.complete q) [ inl same ↦ absurd ((right_at old new these a q l is).1 same) | inr named ↦ absurd (named none) ]
  also these those a b q l is (Some m) there = there ∙ ap Some ((right_at old new those b q m there).2 ∙ sym (right_at old new these a q l is).2)

  same_left : (these those : List Change) → AreLaneChanges old new these → AreLaneChanges old new those → (q : Key) (x y : Option (Option (List ℕ))) → left_by these q ≡ x → left_by those q ≡ y → left_by these q ≡ left_by those q
  same_left these those a b q (Some l) y is other = is ∙ sym (also these those a b q l is y other)
  same_left these those a b q None None none other = none ∙ sym other
  same_left these those a b q None (Some m) none other = also those these b a q m other None none ∙ sym other

pub changes_are : ChangesAreThose
changes_are old new out = (
  λ told. so_changes old new out told.lead told.once told.differ,
  λ are. record { lead = so_lead old new out are; once = are.once; differ = so_differ old new out are },
)

pub one_list_of_changes : ChangesAreOneList
one_list_of_changes old new these those a b =
    let first = map left_of these in
    let second = map left_of those in
    one_list first second a.once b.once (λ q.
    sym (left_once q first (sorted_rises first a.once)) ∙ sym (left_by_in these q) ∙ same_left old new these those a b q (left_by these q) (left_by those q) refl refl ∙ left_by_in those q ∙ left_once q second (sorted_rises second b.once))
