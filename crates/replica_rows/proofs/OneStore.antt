-- Two stores with the same rows are the same.
use Rattle.std.proofs.Common.{◌≡◌, ℕ, List, [], ◌∷◌, Option, Some, None, is_some, refl, sym, ap, ◌∙◌, true≢false}
use Rattle.std.specs.Cmp.Lexicographic.{nat_list_cmp_total}
use Rattle.std.specs.FinMap as map
use Rattle.std.specs.FinSet as set
use Rattle.causal_context.specs.Dots.{Dot, dot_cmp_total, dot_cmp_antisym}
use Rattle.subscription_set.specs.declared.entry.Entry.{Entry}
use Rattle.subscription_set.specs.Standing.{seen_of}
use Rattle.subscription_set.proofs.Seen.{contains-seen_of}
use Rattle.subscription_set.specs.Statuses.{Status}
use Rattle.replica_store.specs.declared.kept.Kept.{Kept}
use Rattle.replica_store.specs.RetainedLattice.{topic_cmp_antisym}
use Rattle.replica_store.specs.States.{State}
use Rattle.row_store.specs.Rows.{Key}
use Rattle.replica_bytes.specs.Values.{subscription, subscription_in, entry_in, kept}
use Rattle.replica_bytes.proofs.Wholes.{subscription_is, kept_is}
use Rattle.replica_rows.specs.Rows.{subscription_of, kept_of, row_at}
use Rattle.replica_rows.specs.Steps.{subscription_key}
use Rattle.replica_rows.specs.Reading.{IsStore, TellAll, HaveOneReading}
use Rattle.replica_rows.proofs.Keyed.{one_value, at_dot, row_stands}
use Rattle.replica_rows.proofs.Refused.{owned}
use Rattle.replica_rows.proofs.Told.{one_set}

some_is : {A : Type 0} (a b : A) → Some a ≡ Some b → a ≡ b
some_is a b e = cc

module _ (s t : State) (a : IsStore s) (b : IsStore t) (same : (key : Key) → row_at s key ≡ row_at t key) where
  same_seen : seen_of s.subscriptions ≡ seen_of t.subscriptions
  same_seen = one_set (seen_of s.subscriptions) (seen_of t.subscriptions) a.seen b.seen (same (6, ([], 2 ∷ [])))

  same_there : (q : Dot) → is_some (map.get s.subscriptions q) ≡ is_some (map.get t.subscriptions q)
  same_there q = sym (contains-seen_of s.subscriptions q) ∙ ap (λ d. set.contains d q) same_seen ∙ contains-seen_of t.subscriptions q

  -- what stands in one stands in the other
  by_status : (q : Dot) (e : Entry) (y : Option Status) → map.get s.subscriptions q ≡ Some (Some e) → map.get t.subscriptions q ≡ y → subscription_of e.client y ≡ Some (subscription.bytes (subscription_in e)) → y ≡ Some (Some e)
  by_status q e None x is h = absurd (cc)
  by_status q e (Some None) x is h = absurd (cc)
  by_status q e (Some (Some g)) x is h =
      let own = owned e.client _ g h in
      let can = a.entries q e x in
      let could = b.entries q g is in
      let value = one_value subscription subscription_is (subscription_in e) (subscription_in g) can could own.1 in
      let entry : e ≡ g = λ i. entry_in (own.0 i, value i) in
      ap (λ v. Some (Some v)) (sym entry)

  also : (q : Dot) (e : Entry) → map.get s.subscriptions q ≡ Some (Some e) → map.get t.subscriptions q ≡ Some (Some e)
  also q e x =
      let fits = a.dots q e x in
      let row = sym (at_dot t e.client q fits) ∙ sym (same (subscription_key e q)) ∙ row_stands s q e fits x in
      by_status q e (map.get t.subscriptions q) x refl row

same_status : (x y : Option Status) → is_some x ≡ is_some y → ((e : Entry) → x ≡ Some (Some e) → y ≡ Some (Some e)) → ((e : Entry) → y ≡ Some (Some e) → x ≡ Some (Some e)) → x ≡ y
same_status None None there left right = refl
same_status None (Some y) there left right = absurd (true≢false (sym there))
same_status (Some x) None there left right = absurd (true≢false there)
same_status (Some None) (Some None) there left right = refl
same_status (Some (Some e)) y there left right = sym (left e refl)
same_status (Some None) (Some (Some e)) there left right = right e refl

same_kept : (topic : List ℕ) (x y : Option Kept) → ((k : Kept) → x ≡ Some k → (kept topic).Fits k) → ((k : Kept) → y ≡ Some k → (kept topic).Fits k) → kept_of topic x ≡ kept_of topic y → x ≡ y
same_kept topic None None p q h = refl
same_kept topic None (Some k) p q h = absurd (cc)
same_kept topic (Some k) None p q h = absurd (cc)
same_kept topic (Some k) (Some l) p q h = ap Some (one_value (kept topic) (kept_is topic) k l (p k refl) (q l refl) (some_is _ _ h))

pub one_store : TellAll
one_store s t a b same =
    let taken = one_set s.taken t.taken a.taken b.taken (same (6, ([], 1 ∷ []))) in
    let subscriptions = map.same_map dot_cmp_total dot_cmp_antisym s.subscriptions t.subscriptions (λ q. same_status (map.get s.subscriptions q) (map.get t.subscriptions q)
    (same_there s t a b same q)
    (also s t a b same q)
    (also t s b a (λ key. sym (same key)) q)) in
    let retained = map.same_map nat_list_cmp_total topic_cmp_antisym s.retained t.retained (λ topic. same_kept topic (map.get s.retained topic) (map.get t.retained topic) (a.kept topic) (b.kept topic) (same (5, (topic, [])))) in
    λ i. record { taken = taken i; subscriptions = subscriptions i; retained = retained i }

pub one_reading : HaveOneReading
one_reading rows s t a b of_s of_t = one_store s t a b (λ key. sym (of_s.are key) ∙ of_t.are key)
