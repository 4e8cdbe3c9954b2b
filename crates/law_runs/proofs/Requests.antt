-- What stands before the answers to SUBSCRIBE and UNSUBSCRIBE.
use Rattle.std.proofs.Common.{◌≡◌, inl, inr, ℕ, ◌&&◌, not, Bool, true, false, cond, List, [], ◌∷◌, ◌++◌, Some, refl, sym, ap, ◌∙◌, append_assoc}
use Rattle.std.proofs.lemmas.List.{append-nil}
use Rattle.mqtt_packets.specs.declared.subscribe.SubscribeFilter.{SubscribeFilter}
use Rattle.mqtt_message.specs.Identifiers.{identifiers_of}
use Rattle.replica_store.specs.Making.{subscribe_of}
use Rattle.subscription_set.specs.Standing.{any_of}
use Rattle.node_work.specs.declared.granted.Granted.{Granted}
use Rattle.node_work.specs.Acts.{Act, Store, Made}
use Rattle.node_work.specs.Doings.{MakesRemove}
use Rattle.node_work.specs.Held.Making.{number_at_end, removal}
use Rattle.node_work.specs.View.{Place, HeldView}
use Rattle.node_work.specs.Working.{Returns, If, Then, InTurn}
use Rattle.node_clients.specs.Subscribing as subscribing
use Rattle.node_clients.specs.Unsubscribing as unsubscribing
use Rattle.law_runs.specs.StepAsking.{IsGranted, AreGranted, FilterIsRemoved, FiltersAreRemoved}
use Rattle.law_runs.proofs.Keeping.{none_some}
use Rattle.law_runs.proofs.Passing.{numbered}

-- ---- the operations of a SUBSCRIBE

-- one filter
granted_by : (client : List ℕ) (identifier : ℕ) (f : SubscribeFilter) (stood full : Bool) (g : Granted) (p : Place) (h : HeldView) (acts : List Act)
    → If full (Returns (subscribing.filter_refused 151)) (Then (subscribing.SubscribesTo client identifier f) (λ _. Returns (subscribing.granted f (identifiers_of identifier) stood))) (Some g) p h acts → IsGranted p h client identifier f g.reason acts
granted_by client identifier f stood true g p h acts d = inr (inr (let same : g ≡ subscribing.filter_refused 151 = (let z = d.0 in cc) in ap (λ (x : Granted). x.reason) same), d.1)
granted_by client identifier f stood false g p h acts (inl d) = none_some (sym d.0)
granted_by client identifier f stood false g p h acts (inr (y, own, mid, rest, one, runs, more, is)) =
    let entry = subscribing.subscription_entry client f identifier h.homes.version in
    let same : g ≡ subscribing.granted f (identifiers_of identifier) stood = (let z = more.0 in cc) in
    let alone = numbered (number_at_end p.id h) y (Store (Made (subscribe_of p.id entry h.store))) own one in
    inl (ap (λ (x : Granted). x.reason) same, is ∙ (λ i. alone i ++ more.1 i))

is_granted : (client : List ℕ) (identifier : ℕ) (f : SubscribeFilter) (g : Granted) (p : Place) (h : HeldView) (acts : List Act) → subscribing.Grants client identifier f (Some g) p h acts → IsGranted p h client identifier f g.reason acts
is_granted client identifier f g p h acts (inl d) =
    let stood = subscribing.stands client f.filter h in
    granted_by client identifier f stood (not stood && subscribing.has_most client h.store) g p h acts d.1
is_granted client identifier f g p h acts (inr d) = inr (inl (let same : g ≡ subscribing.filter_refused 143 = (let z = d.1.0 in cc) in ap (λ (x : Granted). x.reason) same), d.1.1)

-- each in order, after what was given before
pub record Given {A : Type 0} (given all : List A) (Are : List A → Type 0) : Type 0 where
  pub others : List A
  pub all_is : all ≡ given ++ others
  pub are : Are others

pub are_granted : (client : List ℕ) (identifier : ℕ) (fs : List SubscribeFilter) (given all : List Granted) (p : Place) (h : HeldView) (acts : List Act) → InTurn (subscribing.Grants client identifier) fs given (Some all) p h acts
    → Given given all (λ gs. AreGranted p h client identifier fs (subscribing.granted_reasons gs) acts)
are_granted client identifier [] given all p h acts d = record { others = []; all_is = (let same : all ≡ given = (let z = d.0 in cc) in same ∙ sym (append-nil given)); are = (refl, d.1) }
are_granted client identifier (f ∷ fs) given all p h acts (inl d) = none_some (sym d.0)
are_granted client identifier (f ∷ fs) given all p h acts (inr (g, own, mid, rest, one, runs, more, is)) =
    let r = are_granted client identifier fs (given ++ g ∷ []) all p mid rest more in
    record {
      others = g ∷ r.others;
      all_is = r.all_is ∙ append_assoc given (g ∷ []) r.others;
      are = (g.reason, subscribing.granted_reasons r.others, own, mid, rest, refl, is, is_granted client identifier f g p h own one, runs, r.are);
    }

-- ---- the operations of an UNSUBSCRIBE
removed_by : (client text : List ℕ) (stands : Bool) (code : ℕ) (p : Place) (h : HeldView) (acts : List Act) → any_of client (Some text) h.store.subscriptions ≡ stands
    → Then (λ out p h acts. If stands (Then (MakesRemove client (Some text)) (λ _. Returns true)) (Returns false) out p h acts) (λ stood. Returns (cond stood 0 17)) (Some code) p h acts → FilterIsRemoved p h client text code acts
removed_by client text stands code p h acts e (inl d) = none_some (sym d.0)
removed_by client text true code p h acts e (inr (y, own, mid, rest, (inl one), runs, more, is)) = none_some (sym one.0)
removed_by client text true code p h acts e (inr (y, own, mid, rest, (inr (x, made, left, none, one, ran, also, same)), runs, more, is)) =
    let yes : y ≡ true = (let z = also.0 in cc) in
    let code_is : code ≡ cond y 0 17 = (let z = more.0 in cc) in
    let alone = numbered (number_at_end p.id h) x (Store (Made (removal p.id client (Some text) h.store))) made one in
    inl (e, code_is ∙ ap (λ b. cond b 0 17) yes, is ∙ (λ i. same i ++ more.1 i) ∙ append-nil (made ++ none) ∙ (λ i. alone i ++ also.1 i))
removed_by client text false code p h acts e (inr (y, own, mid, rest, one, runs, more, is)) =
    let nope : y ≡ false = (let z = one.0 in cc) in
    let code_is : code ≡ cond y 0 17 = (let z = more.0 in cc) in
    inr (inl (e, code_is ∙ ap (λ b. cond b 0 17) nope, is ∙ (λ i. one.1 i ++ more.1 i)))

is_removed : (client text : List ℕ) (code : ℕ) (p : Place) (h : HeldView) (acts : List Act) → unsubscribing.Unsubscribed client text (Some code) p h acts → FilterIsRemoved p h client text code acts
is_removed client text code p h acts (inl d) = removed_by client text (any_of client (Some text) h.store.subscriptions) code p h acts refl d.1
is_removed client text code p h acts (inr d) = inr (inr (d.0, (let z = d.1.0 in cc), d.1.1))

pub are_removed : (client : List ℕ) (texts : List (List ℕ)) (given all : List ℕ) (p : Place) (h : HeldView) (acts : List Act) → InTurn (unsubscribing.Unsubscribed client) texts given (Some all) p h acts
    → Given given all (λ codes. FiltersAreRemoved p h client texts codes acts)
are_removed client [] given all p h acts d = record { others = []; all_is = (let same : all ≡ given = (let z = d.0 in cc) in same ∙ sym (append-nil given)); are = (refl, d.1) }
are_removed client (text ∷ texts) given all p h acts (inl d) = none_some (sym d.0)
are_removed client (text ∷ texts) given all p h acts (inr (code, own, mid, rest, one, runs, more, is)) =
    let r = are_removed client texts (given ++ code ∷ []) all p mid rest more in
    record {
      others = code ∷ r.others;
      all_is = r.all_is ∙ append_assoc given (code ∷ []) r.others;
      are = (code, r.others, own, mid, rest, refl, is, is_removed client text code p h own one, runs, r.are);
    }
