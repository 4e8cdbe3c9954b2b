-- The rows of a state are those of subscriptions that stand, of what is kept of topics, and of dots.
use Rattle.std.proofs.Common.{◌≡◌, inl, inr, ℕ, Bool, if◌then◌else◌, List, [], ◌∷◌, Option, Some, None, refl, sym, ap, ◌∙◌}
use Rattle.std.specs.Prelude.{◌==◌}
use Rattle.std.specs.Cmp.{unsigned_Decides}
use Rattle.std.specs.Str.{bytes_eq}
use Rattle.std.specs.FinMap as map
use Rattle.std.proofs.lemmas.Slice.Eq.{bytes_eq-Decides}
use Rattle.subscription_set.specs.Standing.{seen_of}
use Rattle.replica_store.specs.declared.kept.Kept.{Kept}
use Rattle.replica_store.specs.States.{State}
use Rattle.row_store.specs.Rows.{Key}
use Rattle.replica_bytes.specs.Values.{dot, kept}
use Rattle.replica_rows.specs.Rows.{context_at, dots_value, kept_of, retained_at, row_at, spelled, subscription_at}
use Rattle.replica_rows.proofs.Contexts.{value_some}
use Rattle.replica_rows.proofs.Keyed.{row_kept, row_stands, spelled_so}
use Rattle.replica_rows.proofs.Refused.{stands_there, value_of}
use Rattle.replica_rows.proofs.Saying.{by_bool, no_value}
use Rattle.law_nodes.specs.States.{IsStateRow, RowsAreOfStates}

some_is : {A : Type 0} (a b : A) → Some a ≡ Some b → a ≡ b
some_is a b e = cc

module _ (s : State) (key : Key) (value : List ℕ) where
  -- ---- a row is one of these

  of_subscription : key.0 ≡ 4 → subscription_at s key.1.0 (spelled dot key.1.1) ≡ Some value → IsStateRow s key value
  of_subscription four h =
      let t = stands_there s key.1.0 key.1.1 value h in
      inl (record { at = t.d; entry = t.e; stands = t.stands; names = λ i. (four i, (t.own i, sym (spelled_so dot key.1.1 t.d t.at) i)); is = t.is })

  of_topic : key.0 ≡ 5 → retained_at s key.1.0 key.1.1 ≡ Some value → IsStateRow s key value
  of_topic five h = by_place key.1.1 refl h
    where
      by_kept : key.1.1 ≡ [] → (o : Option Kept) → map.get s.retained key.1.0 ≡ o → kept_of key.1.0 o ≡ Some value → IsStateRow s key value
      by_kept place None is g = absurd (cc)
      by_kept place (Some k) is g = inr (inl (record { topic = key.1.0; entry = k; keeps = is; names = λ i. (five i, (key.1.0, place i)); is = sym (some_is ((kept key.1.0).bytes k) value g) }))

      by_place : (place : List ℕ) → key.1.1 ≡ place → retained_at s key.1.0 place ≡ Some value → IsStateRow s key value
      by_place [] e g = by_kept e (map.get s.retained key.1.0) refl g
      by_place (b ∷ place) e g = absurd (cc)

  abbrev chosen : Bool → Bool → Option (List ℕ)
  chosen a b = if a then dots_value s.taken else if b then dots_value (seen_of s.subscriptions) else None

  of_dots : key.0 ≡ 6 → context_at s key.1.0 key.1.1 ≡ Some value → IsStateRow s key value
  of_dots six h = by_owner key.1.0 refl h
    where
      by_owner : (owner : List ℕ) → key.1.0 ≡ owner → context_at s owner key.1.1 ≡ Some value → IsStateRow s key value
      by_owner (b ∷ owner) e g = absurd (cc)
      by_owner [] e g = by_bool (bytes_eq key.1.1 (1 ∷ []))
          (λ t.
          let place = (bytes_eq-Decides key.1.1 (1 ∷ [])).0 t in
          let v = value_of s.taken value (sym (ap (λ b. chosen b (bytes_eq key.1.1 (2 ∷ []))) t) ∙ g) in
          inr (inr (inl (record { some = v.0; names = λ i. (six i, (e i, place i)); is = v.1 }))))
          (λ f. by_bool (bytes_eq key.1.1 (2 ∷ []))
          (λ t.
          let place = (bytes_eq-Decides key.1.1 (2 ∷ [])).0 t in
          let v = value_of (seen_of s.subscriptions) value (sym (λ i. chosen (f i) (t i)) ∙ g) in
          inr (inr (inr (record { some = v.0; names = λ i. (six i, (e i, place i)); is = v.1 }))))
          (λ o. no_value (context_at s [] key.1.1) value (λ i. chosen (f i) (o i)) g))

  abbrev picked : Bool → Bool → Bool → Option (List ℕ)
  picked a b c = if a then subscription_at s key.1.0 (spelled dot key.1.1) else if b then retained_at s key.1.0 key.1.1 else if c then context_at s key.1.0 key.1.1 else None

  is_one : row_at s key ≡ Some value → IsStateRow s key value
  is_one h = by_bool (key.0 == 4)
      (λ a. of_subscription ((unsigned_Decides key.0 4).0 a) (sym (ap (λ x. picked x (key.0 == 5) (key.0 == 6)) a) ∙ h))
      (λ a. by_bool (key.0 == 5)
      (λ b. of_topic ((unsigned_Decides key.0 5).0 b) (sym (λ i. picked (a i) (b i) (key.0 == 6)) ∙ h))
      (λ b. by_bool (key.0 == 6)
      (λ c. of_dots ((unsigned_Decides key.0 6).0 c) (sym (λ i. picked (a i) (b i) (c i)) ∙ h))
      (λ c. no_value (row_at s key) value (λ i. picked (a i) (b i) (c i)) h)))

-- ---- and each of these is a row

pub rows_are : RowsAreOfStates
rows_are s store key value = (is_one s key value, there)
  where
    there : IsStateRow s key value → row_at s key ≡ Some value
    there (inl t) = ap (row_at s) t.names ∙ row_stands s t.at t.entry (store.dots t.at t.entry t.stands) t.stands ∙ ap Some (sym t.is)
    there (inr (inl t)) = ap (row_at s) t.names ∙ row_kept s t.topic t.entry t.keeps ∙ ap Some (sym t.is)
    there (inr (inr (inl d))) = ap (row_at s) d.names ∙ value_some s.taken d.some ∙ ap Some (sym d.is)
    there (inr (inr (inr d))) = ap (row_at s) d.names ∙ value_some (seen_of s.subscriptions) d.some ∙ ap Some (sym d.is)
