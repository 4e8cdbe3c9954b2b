-- What comes of an event that tells a connection's room.
use Rattle.std.proofs.Common.{◌≡◌, inl, inr, ℕ, ◌^◌, max, nat_lt, not, Bool, true, false, cond, is_some, List, [], ◌∷◌, ◌++◌, Option, Some, None, refl, sym, ap, ◌∙◌, subst}
use Rattle.std.proofs.lemmas.List.{append-nil}
use Rattle.mqtt_sessions.specs.Reaction.{Reaction}
use Rattle.law_sessions.specs.Runs.{rooms}
use Rattle.session_table.specs.Calls.{stays}
use Rattle.session_table.specs.Seats.{Seat}
use Rattle.node_work.specs.Acts.{Act, MomentTaken, next}
use Rattle.node_work.specs.Calling.{CallsAt}
use Rattle.node_work.specs.Held.Connections.{client_at, is_open}
use Rattle.node_work.specs.Held.Sessions.{has_session, seat_at}
use Rattle.node_work.specs.View.{Place, HeldView}
use Rattle.node_work.specs.Working.{Returns, If, Looks}
use Rattle.node_clients.specs.Rooms as giving
use Rattle.broker_node.specs.declared.event.Event.{Event}
use Rattle.broker_node.specs.declared.event.EventKind.TheVariants as kinds
use Rattle.broker_node.specs.Idle.{NothingDue}
use Rattle.broker_node.specs.Turns as turns
use Rattle.law_runs.proofs.Keeping.{none_some}
use Rattle.law_runs.proofs.Passing.{numbered}
use Rattle.law_runs.proofs.Splits.{left_by}
use Rattle.law_runs.specs.ConnectionRooms.{CallsWithRoom, IsToldOf, RoomIsTold}
use Rattle.law_runs.proofs.FirstConnect.{if_so, no_acts, none_due}

-- ---- the session's call
abbrev Called_with : Bool → List ℕ → ℕ → ℕ → List Act → Type 0
Called_with has client bytes at acts = cond has (CallsWithRoom client bytes at acts) (acts ≡ [])

called : (client : List ℕ) (bytes : ℕ) (found : Option Seat) (r : Reaction) (p : Place) (h : HeldView) (acts : List Act) → CallsAt client (rooms bytes) stays found (Some r) p h acts → Called_with (is_some found) client bytes h.at acts
called client bytes None r p h acts d = d.1
called client bytes (Some seat) r p h acts (inl d) = none_some (sym d.0)
called client bytes (Some seat) r p h acts (inr d) = record {
  call = record { client = client; on = stays seat.connection; at = h.at; event = rooms bytes h.at; reaction = d.0; after = d.1 };
  is = d.4;
  of = refl;
  event = refl;
}

told_by : (c bytes : ℕ) (client : Option (List ℕ)) (x : Unit {0}) (p : Place) (h : HeldView) (acts : List Act) → giving.MakesRoomBy c bytes client (Some x) p h acts → IsToldOf c bytes h.at h client acts
told_by c bytes None x p h acts d = d.1
told_by c bytes (Some client) x p h acts (inl d) = none_some (sym d.0)
told_by c bytes (Some client) x p h acts (inr (r, own, mid, rest, one, runs, more, is)) =
    let alone : acts ≡ own = is ∙ ap (λ zs. own ++ zs) more.1 ∙ append-nil own in
    subst (Called_with (has_session client h) client bytes h.at) (sym alone) (called client bytes (seat_at client h) r p h own one)

told_if : (b : Bool) (c bytes : ℕ) (x : Unit {0}) (p : Place) (h : HeldView) (acts : List Act) → If b (Looks (λ p h. client_at c h) (giving.MakesRoomBy c bytes)) (Returns tt) (Some x) p h acts
    → cond b (IsToldOf c bytes h.at h (client_at c h) acts) (acts ≡ [])
told_if true c bytes x p h acts d = told_by c bytes (client_at c h) x p h acts d
told_if false c bytes x p h acts d = d.1

-- ---- in a step
module _ (e : Event) (p : Place) (h : HeldView) (c bytes : ℕ) (kind : e.kind ≡ kinds.Room c bytes) (started : h.started ≡ true) (none : NothingDue (record h { at = max h.at e.at })) where
  abbrev at_moment : HeldView
  at_moment = next h (MomentTaken e.at)

  abbrev Told : List Act → Type 0
  Told acts = cond (is_open c at_moment) (IsToldOf c bytes at_moment.at at_moment (client_at c at_moment) acts) (acts ≡ [])

  goes_on : (x : Unit {0}) (acts : List Act) → turns.AnswersAfterDue (kinds.Room c bytes) (Some x) p at_moment acts → Told acts
  goes_on x acts (inl d) = none_some (sym d.0)
  goes_on x acts (inr (y, own, mid, rest, one, runs, after, is)) =
      let nothing : own ≡ [] = none_due y p at_moment own none one in
      let here : mid ≡ at_moment = no_acts p at_moment mid own nothing runs in
      let t : Told rest = told_if (is_open c at_moment) c bytes x p at_moment rest (subst (λ v. turns.AnswersEvent (kinds.Room c bytes) (Some x) p v rest) here after) in
      subst Told (sym (is ∙ ap (λ zs. zs ++ rest) nothing)) t

  told : (acts : List Act) → turns.Decides e (Some tt) p h acts → (own : List Act) × (acts ≡ MomentTaken e.at ∷ own) × Told own
  told acts (inl d) = none_some (sym d.0)
  told acts (inr (y, own, mid, rest, one, runs, after, is)) =
      let a = MomentTaken e.at in
      let alone : own ≡ a ∷ [] = numbered (not (nat_lt e.at (2 ^ 62))) y a own one in
      let left : mid ≡ at_moment = left_by p h mid a own alone runs in
      let turn = subst (λ k. turns.Turn k (Some tt) p at_moment rest) kind (subst (λ v. turns.Turn e.kind (Some tt) p v rest) left after) in (
        rest,
        is ∙ ap (λ zs. zs ++ rest) alone,
        goes_on tt rest (if_so h.started (turns.AnswersAfterDue (kinds.Room c bytes)) (turns.AwaitsStart (kinds.Room c bytes)) (Some tt) p at_moment rest started turn),
      )

pub room_is_told : RoomIsTold
room_is_told = λ e p h acts d c bytes kind started none. told e p h c bytes kind started none acts d
