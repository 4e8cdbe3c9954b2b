-- The filters of a SUBSCRIBE, each by what the node holds.
use Rattle.std.proofs.Common.{◌≡◌, ◌⊎◌, inl, inr, ℕ, ◌&&◌, not, Bool, true, false, List, [], ◌∷◌, ◌++◌, Some, refl, sym, ◌∙◌, append_assoc}
use Rattle.std.proofs.lemmas.List.{append-nil}
use Rattle.mqtt_message.specs.Identifiers.{identifiers_of}
use Rattle.mqtt_packets.specs.declared.subscribe.SubscribeFilter.{SubscribeFilter}
use Rattle.mqtt_topics.specs.Topics.{IsFilter}
use Rattle.replica_store.specs.Making.{subscribe_of}
use Rattle.node_work.specs.declared.granted.Granted.{Granted}
use Rattle.node_work.specs.Acts.{Act, Store, Made, Runs}
use Rattle.node_work.specs.Held.Making.{number_at_end}
use Rattle.node_work.specs.View.{Place, HeldView}
use Rattle.node_work.specs.Working.{Returns, If, Then, InTurn}
use Rattle.node_clients.specs.Subscribing.{has_most, stands, filter_refused, granted, subscription_entry, Grants, SubscribesTo}
use Rattle.law_runs.proofs.Keeping.{none_some}
use Rattle.law_runs.proofs.Passing.{numbered}
use Rattle.law_runs.proofs.Requests.{Given}

-- Topic Filter invalid for a text that isn't a filter; Quota exceeded for a new one where the client has most; else one Subscribe
abbrev pub IsTold : Place → HeldView → List ℕ → ℕ → SubscribeFilter → Granted → List Act → Type 0
IsTold p h client identifier f g acts =
    ((¬ IsFilter f.filter) × (g ≡ filter_refused 143) × (acts ≡ []))
    ⊎ (IsFilter f.filter × (stands client f.filter h ≡ false) × (has_most client h.store ≡ true) × (g ≡ filter_refused 151) × (acts ≡ []))
    ⊎ (IsFilter f.filter × ((not (stands client f.filter h) && has_most client h.store) ≡ false) × (g ≡ granted f (identifiers_of identifier) (stands client f.filter h))
    × (acts ≡ Store (Made (subscribe_of p.id (subscription_entry client f identifier h.homes.version) h.store)) ∷ []))

abbrev pub AreTold : Place → HeldView → List ℕ → ℕ → List SubscribeFilter → List Granted → List Act → Type 0
AreTold p h client identifier [] grants acts = (grants ≡ []) × (acts ≡ [])
AreTold p h client identifier (f ∷ fs) grants acts =
    (g : Granted) × (others : List Granted) × (own : List Act) × (mid : HeldView) × (rest : List Act) × (grants ≡ g ∷ others) × (acts ≡ own ++ rest)
    × IsTold p h client identifier f g own × Runs p h own mid × AreTold p mid client identifier fs others rest

new_and_most : (a b : Bool) → (not a && b) ≡ true → (a ≡ false) × (b ≡ true)
new_and_most true b e = absurd (let z : false ≡ true = e in cc)
new_and_most false b e = (refl, e)

told_by : (client : List ℕ) (identifier : ℕ) (f : SubscribeFilter) (full : Bool) (g : Granted) (p : Place) (h : HeldView) (acts : List Act) → IsFilter f.filter
    → (not (stands client f.filter h) && has_most client h.store) ≡ full
    → If full (Returns (filter_refused 151)) (Then (SubscribesTo client identifier f) (λ _. Returns (granted f (identifiers_of identifier) (stands client f.filter h)))) (Some g) p h acts → IsTold p h client identifier f g acts
told_by client identifier f true g p h acts is e d =
    let parts = new_and_most (stands client f.filter h) (has_most client h.store) e in
    inr (inl (is, parts.0, parts.1, (let z = d.0 in cc), d.1))
told_by client identifier f false g p h acts is e (inl d) = none_some (sym d.0)
told_by client identifier f false g p h acts is e (inr (y, own, mid, rest, one, runs, more, same)) =
    let entry = subscription_entry client f identifier h.homes.version in
    let alone = numbered (number_at_end p.id h) y (Store (Made (subscribe_of p.id entry h.store))) own one in
    inr (inr (is, e, (let z = more.0 in cc), same ∙ (λ i. alone i ++ more.1 i)))

is_told : (client : List ℕ) (identifier : ℕ) (f : SubscribeFilter) (g : Granted) (p : Place) (h : HeldView) (acts : List Act) → Grants client identifier f (Some g) p h acts → IsTold p h client identifier f g acts
is_told client identifier f g p h acts (inl d) = told_by client identifier f (not (stands client f.filter h) && has_most client h.store) g p h acts d.0 refl d.1
is_told client identifier f g p h acts (inr d) = inl (d.0, (let z = d.1.0 in cc), d.1.1)

-- each in order, after what was told before
pub are_told : (client : List ℕ) (identifier : ℕ) (fs : List SubscribeFilter) (given all : List Granted) (p : Place) (h : HeldView) (acts : List Act) → InTurn (Grants client identifier) fs given (Some all) p h acts
    → Given given all (λ gs. AreTold p h client identifier fs gs acts)
are_told client identifier [] given all p h acts d = record { others = []; all_is = (let same : all ≡ given = (let z = d.0 in cc) in same ∙ sym (append-nil given)); are = (refl, d.1) }
are_told client identifier (f ∷ fs) given all p h acts (inl d) = none_some (sym d.0)
are_told client identifier (f ∷ fs) given all p h acts (inr (g, own, mid, rest, one, runs, more, is)) =
    let r = are_told client identifier fs (given ++ g ∷ []) all p mid rest more in
    record {
      others = g ∷ r.others;
      all_is = r.all_is ∙ append_assoc given (g ∷ []) r.others;
      are = (g, r.others, own, mid, rest, refl, is, is_told client identifier f g p h own one, runs, r.are);
    }
