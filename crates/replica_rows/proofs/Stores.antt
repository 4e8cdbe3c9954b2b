-- Each store has what its rows can tell.
use Rattle.std.proofs.Common.{◌≡◌, inl, inr, ℕ, List, [], ◌∷◌, Some, sym, ap, subst, ◌∙◌}
use Rattle.std.specs.Cmp.{IsTotalOrder}
use Rattle.std.specs.Cmp.Lexicographic.{nat_list_cmp_total}
use Rattle.std.specs.List.{AllByRecursion}
use Rattle.std.specs.declared.cmp.Ordering.{Ordering}
use Rattle.std.specs.FinMap as map
use Rattle.std.specs.FinMap.{IsAntisymmetric}
use Rattle.std.specs.FinMap.Entries.{find}
use Rattle.causal_context.specs.Dots.{Dot, Dots, dot_cmp_total, dot_cmp_antisym}
use Rattle.causal_context.specs.Spelling.{HasSpelling}
use Rattle.causal_context.specs.declared.ranges.Range.{Range}
use Rattle.causal_context.specs.Ranges.{IsContext, set_of}
use Rattle.mqtt_fields.specs.Numbers.{IsText}
use Rattle.mqtt_message.specs.Parts.{name}
use Rattle.subscription_set.specs.declared.entry.Entry.{Entry}
use Rattle.subscription_set.specs.Standing.{seen_of, standing, entry_of}
use Rattle.subscription_set.proofs.Standings.{find-standing}
use Rattle.replica_store.specs.declared.kept.Kept.{Kept}
use Rattle.replica_store.specs.RetainedLattice.{topic_cmp_antisym}
use Rattle.replica_store.specs.States.{State, TakenIsSeen}
use Rattle.replica_bytes.specs.Values.{dot, kept}
use Rattle.replica_rows.specs.ReadingSteps.{AllCanStand, AllHaveSpellings}
use Rattle.replica_rows.specs.Reading.{CanStand, IsStore}
use Rattle.replica_rows.proofs.Gathered.{front_or_later}

-- what holds of all that is left holds of all
abbrev pub Follows : {X : Type 0} → (X → Type 0) → List X → List X → Type 0
Follows P left all = AllByRecursion P left → AllByRecursion P all

pub one_follows : {X : Type 0} (P : X → Type 0) (all left rest : List X) (x : X) → left ≡ x ∷ rest → P x → Follows P left all → Follows P rest all
one_follows P all left rest x is here so = λ more. so (subst (AllByRecursion P) (sym is) (here, more))

pub all_follow : {X : Type 0} (P : X → Type 0) (all left : List X) → left ≡ [] → Follows P left all → AllByRecursion P all
all_follow P all left is so = so (subst (AllByRecursion P) (sym is) tt)

pub next_of : {X : Type 0} (P : X → Type 0) (left rest : List X) (x : X) → left ≡ x ∷ rest → AllByRecursion P left → P x × AllByRecursion P rest
next_of P left rest x is all = subst (AllByRecursion P) is all

module _ {K X : Type 0} {R : K → K → Ordering} (o : IsTotalOrder R) (anti : IsAntisymmetric R) where
  found : (P : K × X → Type 0) (es : List (K × X)) → AllByRecursion P es → (q : K) (v : X) → find R q es ≡ Some v → P (q, v)
  found P [] all q v is = absurd (cc)
  found P (x ∷ es) all q v is = elim (front_or_later o anti q v x es is) [
    | inl same ↦ subst P (λ i. (sym same.0 i, sym same.1 i)) all.0
    | inr more ↦ found P es all.1 q v more
  ]

pub ranges_spell : (dots own : Dots) (ranges : List Range) → own ≡ dots → IsContext ranges → set_of ranges ≡ own → HasSpelling dots
ranges_spell dots own ranges is context made = record { ranges = ranges; context = context; set = made ∙ is }

pub each_store : (s : State) → TakenIsSeen s → HasSpelling s.taken → HasSpelling (seen_of s.subscriptions) → AllCanStand (standing s.subscriptions) → AllHaveSpellings (map.entries s.retained) → IsStore s
each_store s all_seen taken seen standing_all kept_all =
    let stands : (q : Dot) (e : Entry) → map.get s.subscriptions q ≡ Some (Some e) → dot.Fits q × IsText e.client × CanStand e = λ q e is.
    found dot_cmp_total dot_cmp_antisym (λ x. dot.Fits x.0 × IsText x.1.client × CanStand x.1) (standing s.subscriptions) standing_all q e (find-standing s.subscriptions q ∙ ap entry_of is) in
    let keeps : (topic : List ℕ) (k : Kept) → map.get s.retained topic ≡ Some k → name.Fits topic × (kept topic).Fits k = λ topic k is.
    found nat_list_cmp_total topic_cmp_antisym (λ x. name.Fits x.0 × (kept x.0).Fits x.1) (map.entries s.retained) kept_all topic k (sym (map.get-entries s.retained topic) ∙ is) in
    record {
      all_seen = all_seen;
      taken = taken;
      seen = seen;
      dots = λ q e is. (stands q e is).0;
      clients = λ q e is. (stands q e is).1;
      entries = λ q e is. (stands q e is).2;
      topics = λ topic k is. (keeps topic k is).0;
      kept = λ topic k is. (keeps topic k is).1;
    }
