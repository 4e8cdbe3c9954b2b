-- A SUBSCRIBE and an UNSUBSCRIBE come to what the laws say, and nothing else.
use Rattle.std.proofs.Common.{◌≡◌, inl, inr, ℕ, ◌&&◌, not, Bool, true, false, cond, is_some, List, [], ◌∷◌, ◌++◌, Option, Some, None, refl, sym, ap, ◌∙◌, subst}
use Rattle.std.proofs.lemmas.List.{append-nil}
use Rattle.mqtt_message.specs.declared.delivery.Delivery.{Delivery}
use Rattle.mqtt_message.specs.Identifiers.{identifiers_of}
use Rattle.mqtt_packets.specs.declared.subscribe.Subscribe.{Subscribe}
use Rattle.mqtt_packets.specs.declared.subscribe.SubscribeFilter.{SubscribeFilter}
use Rattle.mqtt_packets.specs.declared.unsubscribe.Unsubscribe.{Unsubscribe}
use Rattle.mqtt_sessions.specs.Reaction.{Reaction, nothing}
use Rattle.replica_store.specs.Making.{subscribe_of}
use Rattle.law_sessions.specs.Runs.{Event, answers, queues}
use Rattle.session_table.specs.Calls.{stays}
use Rattle.session_table.specs.Seats.{Seat}
use Rattle.subscription_set.specs.Standing.{any_of}
use Rattle.node_work.specs.declared.granted.Granted.{Granted}
use Rattle.node_work.specs.Acts.{Act, Acknowledged, Made, Store, Runs, next}
use Rattle.node_work.specs.Calling.{CallsAt}
use Rattle.node_work.specs.Doings.{MakesRemove}
use Rattle.node_work.specs.Held.Making.{number_at_end, removal}
use Rattle.node_work.specs.Held.Sessions.{has_session, seat_at}
use Rattle.node_work.specs.View.{Place, HeldView}
use Rattle.node_work.specs.Working.{Doing, Returns, If, InTurn, Then, Each}
use Rattle.node_clients.specs.Ending as ending
use Rattle.node_clients.specs.Subscribing as subscribing
use Rattle.node_clients.specs.Unsubscribing as unsubscribing
use Rattle.law_runs.proofs.Keeping.{none_some}
use Rattle.law_runs.proofs.Passing.{numbered}
use Rattle.law_runs.proofs.Splits.{left_by}
use Rattle.law_steps.proofs.ClosingLaws.{second_runs}
use Rattle.law_steps.proofs.DueDone.{call}
use Rattle.law_steps.specs.Ending.{ClosesOn}
use Rattle.law_steps.specs.Requests.{InTurnAre, IsGrantedBy, IsRemovedBy, CallsOnce, IsCalledOnce, AreOfferedTo, OffersAlone, SubacksAlone, SubscribesAlone, UnsubacksAlone, UnsubscribesAlone}
use Rattle.law_steps.proofs.Ended.{closes_alone}

pub close_if : (end : Option ℕ) (c : ℕ) (client : List ℕ) (x : Unit {0}) (p : Place) (h : HeldView) (acts : List Act) → ending.ClosesAfter end c client (Some x) p h acts → cond (is_some end) (ClosesOn p h c client acts) (acts ≡ [])
close_if None c client x p h acts d = d.1
close_if (Some code) c client x p h acts d = closes_alone c client x p h acts d

-- ---- filters in turn
module _ {A B : Type 0} (One : A → Option B → Doing) (Is : Place → HeldView → A → B → List Act → Type 0) (one : (x : A) (y : B) (p : Place) (h : HeldView) (acts : List Act) → One x (Some y) p h acts → Is p h x y acts) where
  in_turn_are : (zs : List A) (before given : List B) (p : Place) (h : HeldView) (acts : List Act) → InTurn One zs before (Some given) p h acts → InTurnAre Is p h zs before given acts
  in_turn_are [] before given p h acts d = ((let z : Some given ≡ Some before = d.0 in cc), d.1)
  in_turn_are (z ∷ zs) before given p h acts (inl d) = none_some (sym d.0)
  in_turn_are (z ∷ zs) before given p h acts (inr (y, own, mid, rest, is_one, ran, more, is)) = (y, own, mid, rest, is, ran, one z y p h own is_one, in_turn_are zs (before ++ y ∷ []) given p mid rest more)

granted_if : (full stood : Bool) (client : List ℕ) (identifier : ℕ) (f : SubscribeFilter) (y : Granted) (p : Place) (h : HeldView) (acts : List Act)
    → If full (Returns (subscribing.filter_refused 151)) (Then (subscribing.SubscribesTo client identifier f) (λ _. Returns (subscribing.granted f (identifiers_of identifier) stood))) (Some y) p h acts
    → cond full ((y ≡ subscribing.filter_refused 151) × (acts ≡ []))
    ((y ≡ subscribing.granted f (identifiers_of identifier) stood) × (acts ≡ Store (Made (subscribe_of p.id (subscribing.subscription_entry client f identifier h.homes.version) h.store)) ∷ []))
granted_if true stood client identifier f y p h acts d = ((let z : Some y ≡ Some (subscribing.filter_refused 151) = d.0 in cc), d.1)
granted_if false stood client identifier f y p h acts (inl d) = none_some (sym d.0)
granted_if false stood client identifier f y p h acts (inr (x, own, mid, rest, one, ran, more, is)) =
    let a = Store (Made (subscribe_of p.id (subscribing.subscription_entry client f identifier h.homes.version) h.store)) in
    let alone : own ≡ a ∷ [] = numbered (number_at_end p.id h) x a own one in
    ((let z : Some y ≡ Some (subscribing.granted f (identifiers_of identifier) stood) = more.0 in cc), is ∙ (λ i. alone i ++ more.1 i))

granted_by : (client : List ℕ) (identifier : ℕ) (f : SubscribeFilter) (y : Granted) (p : Place) (h : HeldView) (acts : List Act) → subscribing.Grants client identifier f (Some y) p h acts → IsGrantedBy client identifier p h f y acts
granted_by client identifier f y p h acts (inl d) =
    let stood = subscribing.stands client f.filter h in inr (d.0, granted_if (not stood && subscribing.has_most client h.store) stood client identifier f y p h acts d.1)
granted_by client identifier f y p h acts (inr d) = inl (d.0, (let z : Some y ≡ Some (subscribing.filter_refused 143) = d.1.0 in cc), d.1.1)

removed_if : (b stood : Bool) (client text : List ℕ) (p : Place) (h : HeldView) (acts : List Act) → If b (Then (MakesRemove client (Some text)) (λ _. Returns true)) (Returns false) (Some stood) p h acts
    → (stood ≡ b) × (acts ≡ cond b (Store (Made (removal p.id client (Some text) h.store)) ∷ []) [])
removed_if true stood client text p h acts (inl d) = none_some (sym d.0)
removed_if true stood client text p h acts (inr (x, own, mid, rest, one, ran, more, is)) =
    let a = Store (Made (removal p.id client (Some text) h.store)) in
    let alone : own ≡ a ∷ [] = numbered (number_at_end p.id h) x a own one in
    ((let z : Some stood ≡ Some true = more.0 in cc), is ∙ (λ i. alone i ++ more.1 i))
removed_if false stood client text p h acts d = ((let z : Some stood ≡ Some false = d.0 in cc), d.1)

coded : (b : Bool) (y : ℕ) (zs acts : List Act) → y ≡ cond b 0 17 → acts ≡ cond b zs [] → cond b ((y ≡ 0) × (acts ≡ zs)) ((y ≡ 17) × (acts ≡ []))
coded true y zs acts e is = (e, is)
coded false y zs acts e is = (e, is)

removed_by : (client text : List ℕ) (y : ℕ) (p : Place) (h : HeldView) (acts : List Act) → unsubscribing.Unsubscribed client text (Some y) p h acts → IsRemovedBy client p h text y acts
removed_by client text y p h acts (inl (filter, (inl d))) = none_some (sym d.0)
removed_by client text y p h acts (inl (filter, (inr (stood, own, mid, rest, one, ran, more, is)))) =
    let b = any_of client (Some text) h.store.subscriptions in
    let r = removed_if b stood client text p h own one in
    let code : y ≡ cond stood 0 17 = (let z : Some y ≡ Some (cond stood 0 17) = more.0 in cc) in
    let whole : acts ≡ own = is ∙ ap (λ zs. own ++ zs) more.1 ∙ append-nil own in
    inr (filter, coded b y (Store (Made (removal p.id client (Some text) h.store)) ∷ []) acts (code ∙ ap (λ k. cond k 0 17) r.0) (whole ∙ r.1))
removed_by client text y p h acts (inr d) = inl (d.0, (let z : Some y ≡ Some 143 = d.1.0 in cc), d.1.1)

-- ---- a call
pub called_by : (found : Option Seat) (client : List ℕ) (event : ℕ → Event) (r : Reaction) (p : Place) (h : HeldView) (own : List Act) → CallsAt client event stays found (Some r) p h own → cond (is_some found) (CallsOnce client (event h.at) r own) ((r ≡ nothing) × (own ≡ []))
called_by None client event r p h own d = ((let z : Some r ≡ Some nothing = d.0 in cc), d.1)
called_by (Some seat) client event r p h own d = let a = call client event stays seat r p h own d in record { call = a.step; is = a.is; of = a.of; event_is = a.event_is; reaction = a.reaction }

-- ---- offers
offered_to : (ds : List Delivery) (client : List ℕ) (x : Unit {0}) (p : Place) (h : HeldView) (acts : List Act) → Each (subscribing.OffersOne client) ds (Some x) p h acts → AreOfferedTo p h client ds acts
offered_to [] client x p h acts d = d.1
offered_to (o ∷ ds) client x p h acts (inl d) = none_some (sym d.0)
offered_to (o ∷ ds) client x p h acts (inr (y, own, mid, rest, (inl d), ran, more, is)) = none_some (sym d.0)
offered_to (o ∷ ds) client x p h acts (inr (y, own, mid, rest, (inr (r, own2, mid2, rest2, two, ran2, more2, is2)), ran, more, is)) =
    let whole : own ≡ own2 = is2 ∙ ap (λ zs. own2 ++ zs) more2.1 ∙ append-nil own2 in
    (r, own, mid, rest, is, ran, subst (IsCalledOnce h client (queues o h.at) r) (sym whole) (called_by (seat_at client h) client (queues o) r p h own2 two), offered_to ds client x p mid rest more)

offers_alone : (client : List ℕ) (packet : ℕ) (given : List Granted) (x : Unit {0}) (p : Place) (h : HeldView) (acts : List Act) → subscribing.Offers client packet given (Some x) p h acts → OffersAlone p h client packet given acts
offers_alone client packet given x p h acts (os, are, (inl d)) = none_some (sym d.0)
offers_alone client packet given x p h acts (os, are, (inr (y, own, mid, rest, one, ran, more, is))) =
    let a = Acknowledged client packet h.at given os in
    let left : mid ≡ next h a = left_by p h mid a own one.1 ran in
    (os, rest, is ∙ ap (λ zs. zs ++ rest) one.1, subst (λ v. AreOfferedTo p v client os rest) left (offered_to os client x p mid rest more))

offered_if : (end : Option ℕ) (c : ℕ) (client : List ℕ) (packet : ℕ) (given : List Granted) (x : Unit {0}) (p : Place) (h : HeldView) (acts : List Act) → subscribing.OffersAfter end c client packet given (Some x) p h acts
    → cond (is_some end) (ClosesOn p h c client acts) (OffersAlone p h client packet given acts)
offered_if None c client packet given x p h acts d = offers_alone client packet given x p h acts d
offered_if (Some code) c client packet given x p h acts d = closes_alone c client x p h acts d

-- ---- the answers
subacks_alone : (c : ℕ) (client : List ℕ) (packet : ℕ) (given : List Granted) (x : Unit {0}) (p : Place) (h : HeldView) (acts : List Act) → subscribing.SendsSuback c client packet given (Some x) p h acts → SubacksAlone p h c client packet given acts
subacks_alone c client packet given x p h acts (inl d) = none_some (sym d.0)
subacks_alone c client packet given x p h acts (inr (r, own, mid, rest, one, ran, more, is)) = record {
  told = own;
  rest = rest;
  is = is;
  reaction = r;
  tells = called_by (seat_at client h) client (λ at. answers packet (subscribing.granted_reasons given)) r p h own one;
  left = mid;
  leaves = ran;
  follows = offered_if r.end c client packet given x p mid rest more;
}

pub subscribes_alone : (q : Subscribe) (c : ℕ) (client : List ℕ) (x : Unit {0}) (p : Place) (h : HeldView) (acts : List Act) → subscribing.ServesSubscribe c client q (Some x) p h acts → SubscribesAlone p h c client q acts
subscribes_alone q c client x p h acts (inl d) = none_some (sym d.0)
subscribes_alone q c client x p h acts (inr (given, own, mid, rest, one, ran, more, is)) = record {
  own = own;
  rest = rest;
  is = is;
  given = given;
  filters = in_turn_are (subscribing.Grants client (subscribing.identifier_of q)) (IsGrantedBy client (subscribing.identifier_of q)) (granted_by client (subscribing.identifier_of q)) q.filters [] given p h own one;
  mid = mid;
  runs = ran;
  gives = subacks_alone c client q.identifier given x p mid rest more;
}

unsubacks_alone : (c : ℕ) (client : List ℕ) (packet : ℕ) (codes : List ℕ) (x : Unit {0}) (p : Place) (h : HeldView) (acts : List Act) → unsubscribing.SendsUnsuback c client packet codes (Some x) p h acts → UnsubacksAlone p h c client packet codes acts
unsubacks_alone c client packet codes x p h acts (inl d) = none_some (sym d.0)
unsubacks_alone c client packet codes x p h acts (inr (r, own, mid, rest, one, ran, more, is)) = record {
  told = own;
  rest = rest;
  is = is;
  reaction = r;
  tells = called_by (seat_at client h) client (λ at. answers packet codes) r p h own one;
  left = mid;
  leaves = ran;
  follows = close_if r.end c client x p mid rest more;
}

pub unsubscribes_alone : (u : Unsubscribe) (c : ℕ) (client : List ℕ) (x : Unit {0}) (p : Place) (h : HeldView) (acts : List Act) → unsubscribing.ServesUnsubscribe c client u (Some x) p h acts → UnsubscribesAlone p h c client u acts
unsubscribes_alone u c client x p h acts (inl d) = none_some (sym d.0)
unsubscribes_alone u c client x p h acts (inr (codes, own, mid, rest, one, ran, more, is)) = record {
  own = own;
  rest = rest;
  is = is;
  codes = codes;
  filters = in_turn_are (unsubscribing.Unsubscribed client) (IsRemovedBy client) (removed_by client) u.filters [] codes p h own one;
  mid = mid;
  runs = ran;
  gives = unsubacks_alone c client u.identifier codes x p mid rest more;
}
