-- What is offered to a new subscription.
use Rattle.std.proofs.Common.{◌≡◌, ℕ, zero, suc, true, List, [], ◌∷◌, ◌++◌, Option, Some, None, refl, sym, ap, ◌∙◌, subst, flat_map, map}
use Rattle.std.specs.List.{slice_get}
use Rattle.std.specs.FinMap as map_of
use Rattle.causal_context.specs.Dots.{Dot}
use Rattle.mqtt_message.specs.declared.delivery.Delivery.{Delivery}
use Rattle.mqtt_message.specs.declared.message.Message.{Message}
use Rattle.replica_store.specs.declared.kept.Kept.{Kept}
use Rattle.replica_store.specs.declared.operation.Operation.{Operation}
use Rattle.replica_store.specs.Operations.{dot_of, HaveOwnDots}
use Rattle.replica_store.specs.States.{State}
use Rattle.replica_store.specs.StateOf.{IsStateOf}
use Rattle.replica_store.specs.Answers.{IsAnswer}
use Rattle.replica_store.proofs.Answered.{answer_is, one_answer}
use Rattle.node_work.specs.declared.granted.Asked.{Asked}
use Rattle.node_work.specs.declared.granted.Granted.{Granted}
use Rattle.node_work.specs.Acts.{Act, Acknowledged}
use Rattle.node_work.specs.Offers.{IsOffered, AreOffered}
use Rattle.bridge_routes.specs.Deliveries.{least_qos, offer_of}
use Rattle.cluster_play.specs.declared.step.Step.{Step}
use Rattle.cluster_play.specs.Worlds.{World, Fate, Happens}
use Rattle.cluster_play.specs.Runs.{Played}
use Rattle.cluster_play.specs.Histories.{Reached, site, acts_of, taken_amid, operations_amid, moment_amid}
use Rattle.cluster_play.specs.Answering.{BeginsWithOffers, IsOfferedBy, AreOfferedBy, AcknowledgesFilters, AskAlike, FallsInto, SendsAnswers, OffersAlike}
use Rattle.cluster_play.proofs.Bools.{some_is, none-some}
use Rattle.cluster_play.proofs.Operations.{own_some}
use Rattle.cluster_play.proofs.Paths.{commits_acts, midway}
use Rattle.cluster_play.proofs.Rows.{committed}
use Rattle.cluster_play.proofs.Queueing.{offers_follow}
use Rattle.cluster_play.proofs.Amid.{Amid, amid_acts, amid_state}
use Rattle.cluster_play.proofs.Alike.{states_agree_amid}

-- a part for each filter, by what is kept
abbrev pub AreParts : ℕ → List (List ℕ × Kept) → List Granted → List (List Delivery) → Type 0
AreParts at kept [] parts = parts ≡ []
AreParts at kept (g ∷ gs) parts = (own : List Delivery) × (rest : List (List Delivery)) × (parts ≡ own ∷ rest) × IsOffered at kept g.asked own × AreParts at kept gs rest

parted : (at : ℕ) (kept : List (List ℕ × Kept)) (grants : List Granted) (offers : List Delivery) → AreOffered at kept grants offers
    → (parts : List (List Delivery)) × (offers ≡ flat_map (λ own. own) parts) × AreParts at kept grants parts
parted at kept [] offers h = ([], h, refl)
parted at kept (g ∷ gs) offers h = let r = parted at kept gs h.1 h.3 in (h.0 ∷ r.0, h.4 ∙ ap (λ xs. h.0 ++ xs) r.1, (h.0, r.0, refl, h.2, r.2))

part_at : (at : ℕ) (kept : List (List ℕ × Kept)) (grants : List Granted) (parts : List (List Delivery)) → AreParts at kept grants parts
    → (k : ℕ) (g : Granted) → slice_get grants k ≡ Some g → (own : List Delivery) × (slice_get parts k ≡ Some own) × IsOffered at kept g.asked own
part_at at kept [] parts h k g e = none-some e
part_at at kept (x ∷ gs) parts h zero g e = (h.0, ap (λ ps. slice_get ps 0) h.2, subst (λ (y : Granted). IsOffered at kept y.asked h.0) (some_is e) h.3)
part_at at kept (x ∷ gs) parts h (suc k) g e = let r = part_at at kept gs h.1 h.4 k g e in (r.0, ap (λ ps. slice_get ps (suc k)) h.2 ∙ r.1, r.2)

-- by the operations
module _ (O : List Operation) (s : State) (own : HaveOwnDots O) (state : IsStateOf O s) (at : ℕ) where
  offered_by : (a : Option Asked) (offers : List Delivery) → IsOffered at (map_of.entries s.retained) a offers → IsOfferedBy O at a offers
  offered_by None offers h = h
  offered_by (Some a) offers h = (h.0, answer_is O s own state a.filter at h.0 h.1, h.2)

  parts_by : (grants : List Granted) (parts : List (List Delivery)) → AreParts at (map_of.entries s.retained) grants parts → AreOfferedBy O at grants parts
  parts_by [] parts h = h
  parts_by (g ∷ gs) parts h = (h.0, h.1, h.2, offered_by g.asked h.0 h.3, parts_by gs h.1 h.4)

one_offer : (at : ℕ) (kept : List (List ℕ × Kept)) (a b : Option Asked) (own other : List Delivery) → AskAlike a b → IsOffered at kept a own → IsOffered at kept b other → own ≡ other
one_offer at kept None None own other alike h k = h ∙ sym k
one_offer at kept None (Some b) own other alike h k = absurd alike
one_offer at kept (Some a) None own other alike h k = absurd alike
one_offer at kept (Some a) (Some b) own other alike h k =
    let answer = subst (λ (f : List ℕ). IsAnswer f at kept k.0) (sym alike.0) k.1 in
    h.2 ∙ ap (map (offer_of a.options a.identifiers)) (one_answer a.filter at kept h.0 k.0 h.1 answer)
    ∙ (λ i. map (λ (m : Message). record { message = m; qos = least_qos (alike.1 i) m.qos; retain = true; identifiers = alike.2 i }) k.0) ∙ sym k.2

-- directly after an answer to a SUBSCRIBE the session is offered what is told
followed : (w : World) (step : Step) (fate : Fate) (w' : World) → Happens w step fate w' → (before after : List Act) (client : List ℕ) (packet at : ℕ) (grants : List Granted) (offers : List Delivery)
    → acts_of fate ≡ before ++ Acknowledged client packet at grants offers ∷ after → BeginsWithOffers client at offers after
followed w step fate w' h before after client packet at grants offers is =
    let e = commits_acts fate before after (Acknowledged client packet at grants offers) is in
    let c = committed w step fate w' e.0 h e.1 in
    offers_follow e.0 c.was.node.place c.before (acts_of fate) c.steps.does before after client packet at grants offers is

module _ (run later : List Played) (m : Played) (w : World) (r : Reached (run ++ m ∷ later) w) (before : List Act) (s : AcknowledgesFilters m before) where
  here : Amid run w (site m.fate) before (Acknowledged s.client s.packet s.at s.grants s.offers ∷ s.after)
  here = amid_acts run later m w r before s.after (Acknowledged s.client s.packet s.at s.grants s.offers) s.acts

  at_moment_there : s.at ≡ moment_amid (site m.fate) run before
  at_moment_there = here.runs.1.0.0 ∙ here.moment

  -- what is offered there, by what the node holds
  offered : AreOffered s.at (map_of.entries here.held.store.retained) s.grants s.offers
  offered = subst (λ at. AreOffered at (map_of.entries here.held.store.retained) s.grants s.offers) (sym here.runs.1.0.0) here.runs.1.0.1

  falls_into : (parts : List (List Delivery)) → s.offers ≡ flat_map (λ own. own) parts → AreParts s.at (map_of.entries here.held.store.retained) s.grants parts
      → FallsInto (operations_amid (site m.fate) run before) s.at s.grants s.offers parts
  falls_into parts order each =
      let O = operations_amid (site m.fate) run before in
      let own : HaveOwnDots O = own_some _ (λ p. taken_amid (site m.fate) run before (dot_of p)) here.grown.own_dots in
      let state : IsStateOf O here.held.store = amid_state run w (site m.fate) before (Acknowledged s.client s.packet s.at s.grants s.offers ∷ s.after) here in
      record { in_order = order; each = parts_by O here.held.store own state s.at s.grants parts each }

pub answers_as_sent : (run later : List Played) (m : Played) (w : World) → Reached (run ++ m ∷ later) w
    → (before : List Act) (s : AcknowledgesFilters m before)
    → SendsAnswers (operations_amid (site m.fate) run before) m before s × (s.at ≡ moment_amid (site m.fate) run before)
answers_as_sent run later m w r before s =
    let half = midway run (m ∷ later) w r in
    let p = parted s.at _ s.grants s.offers (offered run later m w r before s) in (
      record {
        follow = followed half.mid m.step m.fate half.path.0 half.path.1 before s.after s.client s.packet s.at s.grants s.offers s.acts;
        parts = p.0;
        answers = falls_into run later m w r before s p.0 p.1 p.2;
      },
      at_moment_there run later m w r before s,
    )

pub send_alike : (whole run later run' later' : List Played) (m m' : Played) (w : World) → Reached whole w → whole ≡ run ++ m ∷ later → whole ≡ run' ++ m' ∷ later'
    → (before before' : List Act) (s : AcknowledgesFilters m before) (s' : AcknowledgesFilters m' before')
    → moment_amid (site m.fate) run before ≡ moment_amid (site m'.fate) run' before'
    → ((d : Dot) → taken_amid (site m.fate) run before d ≡ taken_amid (site m'.fate) run' before' d)
    → OffersAlike (operations_amid (site m.fate) run before) (operations_amid (site m'.fate) run' before') s.at s.grants s'.grants s.offers s'.offers
send_alike whole run later run' later' m m' w r is is' before before' s s' moment same =
    let q : Reached (run ++ m ∷ later) w = subst (λ ms. Reached ms w) is r in
    let q' : Reached (run' ++ m' ∷ later') w = subst (λ ms. Reached ms w) is' r in
    let a = here run later m w q before s in
    let b = here run' later' m' w q' before' s' in
    let at : s.at ≡ s'.at = at_moment_there run later m w q before s ∙ moment ∙ sym (at_moment_there run' later' m' w q' before' s') in
    let stores : a.held.store ≡ b.held.store = states_agree_amid whole run later run' later' m m' w r is is' before (Acknowledged s.client s.packet s.at s.grants s.offers ∷ s.after)
    before' (Acknowledged s'.client s'.packet s'.at s'.grants s'.offers ∷ s'.after) s.acts s'.acts a b same in
    let kept = map_of.entries a.held.store.retained in
    let p = parted s.at kept s.grants s.offers (offered run later m w q before s) in
    let p' = parted s'.at _ s'.grants s'.offers (offered run' later' m' w q' before' s') in
    record {
      parts = p.0;
      parts' = p'.0;
      first = falls_into run later m w q before s p.0 p.1 p.2;
      second = subst (λ n. FallsInto (operations_amid (site m'.fate) run' before') n s'.grants s'.offers p'.0) (sym at) (falls_into run' later' m' w q' before' s' p'.0 p'.1 p'.2);
      alike = λ k k' g g' there there' asked. (
          let x = part_at s.at kept s.grants p.0 p.2 k g there in
          let y = part_at s'.at _ s'.grants p'.0 p'.2 k' g' there' in
          let y_here : IsOffered s.at kept g'.asked y.0 =
          subst (λ n. IsOffered n kept g'.asked y.0) (sym at) (subst (λ (t : State). IsOffered s'.at (map_of.entries t.retained) g'.asked y.0) (sym stores) y.2) in
          x.1 ∙ ap Some (one_offer s.at kept g.asked g'.asked x.0 y.0 asked x.2 y_here) ∙ sym y.1);
    }
