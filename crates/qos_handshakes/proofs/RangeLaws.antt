-- The identifiers of the released exchanges are from 1 to 65,535.
use Rattle.std.proofs.Common.{◌≡◌, ℕ, ◌≤◌, true, List, [], ◌∷◌, ◌++◌, Result, Ok, Err, refl, eq-eqb}
use Rattle.std.specs.Prelude.{IfOk}
use Rattle.std.specs.List.{AllByRecursion}
use Rattle.std.specs.BTreeMap.{insert_entry}
use Rattle.std.specs.Map.{values_of}
use Rattle.std.specs.Ordering.{nat_cmp, match_ordering}
use Rattle.std.specs.declared.cmp.Ordering.{Ordering}
use Rattle.std.specs.declared.cmp.Ordering.TheVariants.{Less, Equal, Greater}
use Rattle.qos_handshakes.specs.declared.copies.Stage.{Stage}
use Rattle.qos_handshakes.specs.declared.copies.Stage.TheVariants.{Waiting, Published, Released}
use Rattle.qos_handshakes.specs.Entries.{Entries, HasRange, stage_has}
use Rattle.qos_handshakes.specs.Outbox.{stage_pair, released_pair, chosen, sorted, by_release}

abbrev IsIdentifier : ℕ → Type 0
IsIdentifier id = (1 ≤ id) × (id ≤ 65535)

inserted : (xs : List (ℕ × ℕ)) (order id : ℕ) → AllByRecursion IsIdentifier (values_of xs) → IsIdentifier id → AllByRecursion IsIdentifier (values_of (insert_entry nat_cmp xs order id))
inserted [] order id all is = (is, tt)
inserted (x ∷ xs) order id all is = by (nat_cmp order x.0) (inserted xs order id all.1 is)
  where
    by : (o : Ordering) → AllByRecursion IsIdentifier (values_of (insert_entry nat_cmp xs order id))
        → AllByRecursion IsIdentifier (values_of (match_ordering o ((order, id) ∷ x ∷ xs) ((x.0, id) ∷ xs) (x ∷ insert_entry nat_cmp xs order id)))
    by Less more = (is, all)
    by Equal more = (is, all.1)
    by Greater more = (all.0, more)

sorted-range : (xs : List (ℕ × ℕ)) → AllByRecursion (λ x. IsIdentifier x.1) xs → AllByRecursion IsIdentifier (values_of (sorted xs))
sorted-range [] all = tt
sorted-range (x ∷ xs) all = inserted (sorted xs) x.0 x.1 (sorted-range xs all.1) all.0

pair-range : (s : Stage) (xs : List (ℕ × ℕ)) → ((id : ℕ) → stage_has id s ≡ true → IsIdentifier id) → AllByRecursion (λ x. IsIdentifier x.1) xs → AllByRecursion (λ x. IsIdentifier x.1) (stage_pair s ++ xs)
pair-range Waiting xs range all = all
pair-range (Published id) xs range all = all
pair-range (Released id order) xs range all = (range id (eq-eqb id id refl), all)

chosen-range : (es : Entries) → AllByRecursion (λ e. HasRange e.1) es → AllByRecursion (λ x. IsIdentifier x.1) (chosen released_pair es)
chosen-range [] all = tt
chosen-range (e ∷ es) all = pair-range e.1.stage (chosen released_pair es) all.0 (chosen-range es all.1)

pub releases-range : {E V : Type 0} (items : V → List ℕ) (es : Entries) (result : Result V E) → AllByRecursion (λ e. HasRange e.1) es → IfOk result (λ ids. items ids ≡ values_of (by_release es))
    → IfOk result (λ ids. AllByRecursion (λ id. (1 ≤ id) × (id ≤ 65535)) (items ids))
releases-range items es (Ok ids) all is = rw is (sorted-range (chosen released_pair es) (chosen-range es all))
releases-range items es (Err e) all is = is
