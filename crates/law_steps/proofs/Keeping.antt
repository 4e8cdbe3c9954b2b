-- Each step of a node keeps the laws of its event.
use Rattle.std.proofs.Common.{◌≡◌, ◌≢◌, inl, inr, ℕ, Bool, true, false, cond, is_some, List, [], ◌∷◌, ◌++◌, Option, Some, None, sym, ap, ◌∙◌, subst}
use Rattle.std.proofs.lemmas.List.{append-nil}
use Rattle.std.specs.FinMap as map
use Rattle.mqtt_sessions.specs.Reaction.{Reaction}
use Rattle.law_sessions.specs.Runs.{rooms}
use Rattle.session_table.specs.Calls.{stays}
use Rattle.session_table.specs.Seats.{Seat}
use Rattle.bridge_frames.specs.Frames.{frame_in}
use Rattle.subscription_set.specs.Standing.{any_of}
use Rattle.node_work.specs.Acts.{Act, MomentTaken, Store, Made, Connection, next}
use Rattle.node_work.specs.Calling.{CallsAt}
use Rattle.node_work.specs.Doings.{MakesRemove}
use Rattle.node_work.specs.Held.Connections.{Opened, client_at, is_open}
use Rattle.node_work.specs.Held.Making.{number_at_end, removal}
use Rattle.node_work.specs.Held.Sessions.{has_session, seat_at}
use Rattle.node_work.specs.View.{Place, HeldView}
use Rattle.node_work.specs.Working.{Returns, Acting, If, Looks, Then}
use Rattle.node_clients.specs.Pieces as pieces
use Rattle.node_clients.specs.Rooms as giving
use Rattle.broker_node.specs.declared.event.Event.{Event}
use Rattle.broker_node.specs.declared.event.EventKind.{EventKind}
use Rattle.broker_node.specs.declared.event.EventKind.TheVariants as kinds
use Rattle.broker_node.specs.Turns as turns
use Rattle.law_runs.proofs.Keeping.{none_some}
use Rattle.law_runs.proofs.Passing.{numbered}
use Rattle.law_runs.specs.ConnectionRooms.{CallsWithRoom, IsToldOf}
use Rattle.law_steps.proofs.DueDone.{call}
use Rattle.law_steps.proofs.DueLaws.{all_wait_for_start, starts_come_once}
use Rattle.law_steps.proofs.Turning.{after_start, turned}
use Rattle.law_steps.specs.Determining.{ComesTo, GoesBy, KeepsLaws, StepsKeepLaws}
use Rattle.law_steps.specs.Ending.{LeavesFrom}
use Rattle.law_steps.proofs.Bridged.{frame_heard, greeted, shipped, shipped_more}
use Rattle.law_steps.proofs.Ended.{all_due, leaves_alone}
use Rattle.law_steps.proofs.Moved.{starts_alone, table_taken}
use Rattle.law_steps.proofs.Pieced.{bytes_by}

-- ---- what an event comes to
opened_if : (b : Bool) (c : ℕ) (x : Unit {0}) (p : Place) (h : HeldView) (acts : List Act) → If b (Returns tt) (Acting (λ p h. Connection (Opened c))) (Some x) p h acts → cond b (acts ≡ []) (acts ≡ Connection (Opened c) ∷ [])
opened_if true c x p h acts d = d.1
opened_if false c x p h acts d = d.1

left_if : (b : Bool) (c : ℕ) (x : Unit {0}) (p : Place) (h : HeldView) (acts : List Act) → If b (Looks (λ p h. client_at c h) (pieces.LeavesBy c)) (Returns tt) (Some x) p h acts → cond b (LeavesFrom p h c (client_at c h) acts) (acts ≡ [])
left_if true c x p h acts d = leaves_alone (client_at c h) c x p h acts d
left_if false c x p h acts d = d.1

called : (client : List ℕ) (bytes : ℕ) (found : Option Seat) (r : Reaction) (p : Place) (h : HeldView) (acts : List Act) → CallsAt client (rooms bytes) stays found (Some r) p h acts → cond (is_some found) (CallsWithRoom client bytes h.at acts) (acts ≡ [])
called client bytes None r p h acts d = d.1
called client bytes (Some seat) r p h acts d = let a = call client (rooms bytes) stays seat r p h acts d in record { call = a.step; is = a.is; of = a.of; event = a.event_is }

told_by : (client : Option (List ℕ)) (c bytes : ℕ) (x : Unit {0}) (p : Place) (h : HeldView) (acts : List Act) → giving.MakesRoomBy c bytes client (Some x) p h acts → IsToldOf c bytes h.at h client acts
told_by None c bytes x p h acts d = d.1
told_by (Some client) c bytes x p h acts (inl d) = none_some (sym d.0)
told_by (Some client) c bytes x p h acts (inr (r, own, mid, rest, one, runs, more, is)) =
    let alone : acts ≡ own = is ∙ ap (λ zs. own ++ zs) more.1 ∙ append-nil own in
    subst (λ zs. cond (has_session client h) (CallsWithRoom client bytes h.at zs) (zs ≡ [])) (sym alone) (called client bytes (seat_at client h) r p h own one)

told_if : (b : Bool) (c bytes : ℕ) (x : Unit {0}) (p : Place) (h : HeldView) (acts : List Act) → If b (Looks (λ p h. client_at c h) (giving.MakesRoomBy c bytes)) (Returns tt) (Some x) p h acts
    → cond b (IsToldOf c bytes h.at h (client_at c h) acts) (acts ≡ [])
told_if true c bytes x p h acts d = told_by (client_at c h) c bytes x p h acts d
told_if false c bytes x p h acts d = d.1

removed_if : (b : Bool) (client : List ℕ) (x : Bool) (p : Place) (h : HeldView) (acts : List Act) → If b (Then (MakesRemove client None) (λ _. Returns true)) (Returns false) (Some x) p h acts → acts ≡ cond b (Store (Made (removal p.id client None h.store)) ∷ []) []
removed_if true client x p h acts (inl d) = none_some (sym d.0)
removed_if true client x p h acts (inr (y, own, mid, rest, one, ran, more, is)) =
    let a = Store (Made (removal p.id client None h.store)) in
    let alone : own ≡ a ∷ [] = numbered (number_at_end p.id h) y a own one in
    is ∙ (λ i. alone i ++ more.1 i)
removed_if false client x p h acts d = d.1

evicted : (client : List ℕ) (x : Unit {0}) (p : Place) (h : HeldView) (acts : List Act) → turns.Evicts client (Some x) p h acts → acts ≡ cond (any_of client None h.store.subscriptions) (Store (Made (removal p.id client None h.store)) ∷ []) []
evicted client x p h acts (inl d) = none_some (sym d.0)
evicted client x p h acts (inr (y, own, mid, rest, one, ran, more, is)) =
    let alone : acts ≡ own = is ∙ ap (λ zs. own ++ zs) more.1 ∙ append-nil own in
    alone ∙ removed_if (any_of client None h.store.subscriptions) client y p h own one

comes_to : (kind : EventKind) (p : Place) (h : HeldView) (acts : List Act) → turns.AnswersEvent kind (Some tt) p h acts → ComesTo kind p h acts
comes_to kinds.Tick p h acts d = d.1
comes_to (kinds.Opened c) p h acts d = opened_if (is_open c h) c tt p h acts d
comes_to (kinds.Closed c) p h acts d = left_if (is_open c h) c tt p h acts d
comes_to (kinds.Room c bytes) p h acts d = told_if (is_open c h) c bytes tt p h acts d
comes_to (kinds.Piece c bytes) p h acts d = bytes_by (map.get h.connections c) c bytes tt p h acts d
comes_to (kinds.Evict client) p h acts d = evicted client tt p h acts d
comes_to kinds.Started p h acts d = d.1
comes_to (kinds.Frame bytes) p h acts d = frame_heard (frame_in bytes) tt p h acts d
comes_to (kinds.Linked peer) p h acts d = greeted peer tt p h acts d
comes_to (kinds.Ship peer) p h acts d = shipped peer tt p h acts d
comes_to (kinds.More peer after) p h acts d = shipped_more peer after tt p h acts d
comes_to (kinds.Table homes) p h acts d = table_taken homes tt p h acts d

-- ---- the step
module _ (e : Event) (p : Place) (h : HeldView) (acts : List Act) (d : turns.Decides e (Some tt) p h acts) where
  goes_by : h.started ≡ true → e.kind ≢ kinds.Started → GoesBy e p h acts
  goes_by started other =
      let t = turned e p h (after_start e.kind other) started acts d in
      record {
        own = t.own;
        rest = t.first.rest;
        is = t.first.is ∙ ap (λ zs. zs ++ t.first.rest) t.due_is;
        held = t.first.held;
        runs = t.ran;
        due = all_due t.answer p (next h (MomentTaken e.at)) t.first.held t.own t.does t.ran;
        answers = comes_to e.kind p t.first.held t.first.rest t.answers;
      }

  keeps_laws : KeepsLaws e p h acts
  keeps_laws = record {
    waits = λ waits other. all_wait_for_start e p h acts d other waits;
    begins = λ waits kind. starts_alone e p h acts d waits kind;
    once = λ started kind. starts_come_once e p h acts d kind started;
    goes = goes_by;
  }

pub steps_keep_laws : StepsKeepLaws
steps_keep_laws = λ e p h acts d. keeps_laws e p h acts d
