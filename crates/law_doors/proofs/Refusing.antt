-- What is refused, by the packets.
use Rattle.std.proofs.Common.{◌≡◌, ℕ, zero, suc, Bool, true, false, cond, List, [], ◌∷◌, Option, Some, None, refl, sym, ap, ◌∙◌, true≢false}
use Rattle.std.specs.Prelude.{◌==◌, ◌+◌, count_by, is_none, is_some, not}
use Rattle.std.specs.List.{list_all}
use Rattle.std.proofs.lemmas.Bool.{eqb-true}
use Rattle.std.proofs.lemmas.List.Folds.{sum_by-zero}
use Rattle.std.proofs.lemmas.List.Sums.{sum_by-cons}
use Rattle.mqtt_packets.specs.declared.packet.Packet.{Packet}
use Rattle.mqtt_packets.specs.declared.packet.Packet.TheVariants as packets
use Rattle.mqtt_packets.specs.declared.publish.Publish.{Publish}
use Rattle.mqtt_fields.specs.declared.options.Qos.{Qos}
use Rattle.mqtt_fields.specs.declared.options.Qos.TheVariants.{AtMostOnce, AtLeastOnce, ExactlyOnce}
use Rattle.mqtt_packets.specs.declared.subscribe.Subscribe.{Subscribe}
use Rattle.mqtt_packets.specs.declared.subscribe.SubscribeFilter.{SubscribeFilter}
use Rattle.door_guard.specs.Counts.{refused_by}
use Rattle.door_guard.specs.Counts.Refusal.{Filters as FiltersRefused, Publish as PublishRefused}
use Rattle.door_packets.specs.Answers.{pubrec, suback}
use Rattle.door_packets.specs.Codes.{merged, refused_in}
use Rattle.door_packets.specs.Packets.{codes_of, filter_code, publish_step, refusal_at, smaller, subscribe_step}
use Rattle.door_packets.specs.Rights.{Rights}
use Rattle.door_packets.specs.declared.access.Login.{Login}
use Rattle.door_packets.specs.declared.codes.Awaited.{Awaited}
use Rattle.door_packets.specs.declared.step.Step.TheVariants as steps
use Rattle.law_doors.specs.Refusing.{RefusalsAreOfPackets, filters_refused}

-- ---- PUBLISH

again_case : (again : Bool) (bytes : List ℕ) → refused_by (cond again steps.Ends (steps.Acks bytes)) ≡ PublishRefused ∷ []
again_case true bytes = refl
again_case false bytes = refl

refusal_case : (qos : Qos) (p : Publish) → refused_by (refusal_at qos p) ≡ PublishRefused ∷ []
refusal_case AtMostOnce p = refl
refusal_case AtLeastOnce p = refl
refusal_case ExactlyOnce p = again_case p.dup (pubrec p.identifier)

publishes : (bytes : List ℕ) (p : Publish) (allowed : Bool) → refused_by (publish_step allowed bytes p) ≡ cond allowed [] (PublishRefused ∷ [])
publishes bytes p true = refl
publishes bytes p false = refusal_case p.qos p

-- ---- SUBSCRIBE

-- none is refused where each is asked for
one_none : (c : Option ℕ) → (cond (is_some c) 1 0 == 0) ≡ is_none c
one_none None = refl
one_none (Some n) = refl

all_none : (codes : List (Option ℕ)) → list_all (λ c. cond (is_some c) 1 0 == 0) codes ≡ list_all is_none codes
all_none [] = refl
all_none (None ∷ codes) = all_none codes
all_none (Some n ∷ codes) = refl

none_case : (codes : List (Option ℕ)) → (refused_in codes == 0) ≡ list_all is_none codes
none_case codes = sum_by-zero (λ (c : Option ℕ). cond (is_some c) 1 0) codes ∙ all_none codes

by_number : (n : ℕ) (none : Bool) → (n == 0) ≡ none → cond none [] (FiltersRefused n ∷ []) ≡ filters_refused n
by_number zero true e = refl
by_number zero false e = absurd (true≢false e)
by_number (suc n) true e = let bad : suc n ≡ 0 = eqb-true (suc n) 0 e in absurd cc
by_number (suc n) false e = refl

step_case : (bytes answer : List ℕ) (p : Packet) (a : Awaited) (none all : Bool)
    → refused_by (cond none (steps.Tells bytes) (cond all (steps.Subacks answer (refused_in a.codes)) (steps.Asks p (Some a)))) ≡ cond none [] (FiltersRefused (refused_in a.codes) ∷ [])
step_case bytes answer p a true all = refl
step_case bytes answer p a false true = refl
step_case bytes answer p a false false = refl

code_case : (may : Bool) → is_some {T = ℕ} (cond may None (Some 135)) ≡ not may
code_case true = refl
code_case false = refl

module _ (r : Rights) (l : Login) where
  abbrev may_not : SubscribeFilter → Bool
  may_not f = not (r.may_subscribe l f.filter)

  refused_are : (fs : List SubscribeFilter) → refused_in (codes_of r l fs) ≡ count_by may_not fs
  refused_are [] = refl
  refused_are (f ∷ fs) =
      sum_by-cons (λ (c : Option ℕ). cond (is_some c) 1 0) (filter_code r l f) (codes_of r l fs)
      ∙ ap (λ (b : Bool). cond b 1 0 + refused_in (codes_of r l fs)) (code_case (r.may_subscribe l f.filter))
      ∙ ap (λ (n : ℕ). cond (may_not f) 1 0 + n) (refused_are fs)
      ∙ sym (sum_by-cons (λ (x : SubscribeFilter). cond (may_not x) 1 0) f fs)

  filters : (bytes : List ℕ) (s : Subscribe) → refused_by (subscribe_step r l bytes s) ≡ filters_refused (count_by may_not s.filters)
  filters bytes s =
      let codes : List (Option ℕ) = codes_of r l s.filters in
      let a : Awaited = record { identifier = s.identifier; codes = codes } in
      step_case bytes (suback s.identifier (merged codes [])) (packets.Subscribe (smaller r l s)) a (list_all is_none codes) (list_all is_some codes)
      ∙ by_number (refused_in codes) (list_all is_none codes) (none_case codes)
      ∙ ap filters_refused (refused_are s.filters)

pub refusals_are_of_packets : (r : Rights) → RefusalsAreOfPackets r
refusals_are_of_packets r = record { publishes = publishes; filters = filters r }
