-- A session is told, with each packet, whether there is room for a retained message under its topic.
use Rattle.std.proofs.Common.{◌≡◌, inl, inr, ℕ, Bool, List, [], ◌∷◌, ◌++◌, Option, Some, None, refl, sym, ap, ◌∙◌, subst}
use Rattle.mqtt_packets.specs.declared.packet.Packet.{Packet}
use Rattle.bridge_frames.specs.declared.forward.Forward.{Forward}
use Rattle.bridge_routes.specs.declared.plain.PlainCopy.{PlainCopy as Copy}
use Rattle.mqtt_sessions.specs.Reaction.{Reaction}
use Rattle.law_sessions.specs.Runs.{Event, takes, answers}
use Rattle.session_table.specs.Calls.{stays}
use Rattle.session_table.specs.Seats.{Seat}
use Rattle.node_work.specs.Acts.{Act, Session, Bridge, Runs, next}
use Rattle.node_work.specs.Calling.{CallsAt}
use Rattle.node_work.specs.Held.Bridge.{Took}
use Rattle.node_work.specs.Held.Sessions.{SessionStep, Called, seat_at}
use Rattle.node_work.specs.View.{Place, HeldView}
use Rattle.node_clients.specs.Serving as serving
use Rattle.node_clients.proofs.Determined.{runs_determined}
use Rattle.broker_node.specs.declared.event.Event.{Event as NodeEvent}
use Rattle.broker_node.specs.Turns.{Decides}
use Rattle.law_runs.proofs.Keeping.{calling_by, Property, IsOther, IsPlain, Joins, Keeps, none_some}
use Rattle.law_runs.proofs.Splits.{head_is, tail_is, none_there, alone_is, left_by, splits, runs_split}
use Rattle.law_runs.proofs.Work.{does_reaction, takes_forward}
use Rattle.law_runs.proofs.Events.{decides}

-- what a call is told, by what the node holds before it
abbrev Told : SessionStep → HeldView → Type 0
Told s h = (k : Packet) (now : ℕ) (room : Bool) → s.event ≡ takes k now room → room ≡ serving.room_for s.client k h

abbrev Roomed : Property
Roomed p h acts = (before after : List Act) (s : SessionStep) (held : HeldView) → acts ≡ before ++ Session (Called s) ∷ after → Runs p h before held → Told s held

one_roomed : (p : Place) (h : HeldView) (a : Act) → IsPlain a → Roomed p h (a ∷ [])
one_roomed p h a plain [] after s held is ran k now room e = absurd (subst IsOther e (subst IsPlain (head_is is) plain))
one_roomed p h a plain (b ∷ before) after s held is ran k now room e = none_there before after (Session (Called s)) (tail_is is)

both_roomed : (p : Place) (h mid : HeldView) (xs ys : List Act) → Runs p h xs mid → Roomed p h xs → Roomed p mid ys → Roomed p h (xs ++ ys)
both_roomed p h mid xs ys runs f g before after s held is ran k now room e =
    elim (splits xs ys before after (Session (Called s)) is) [
      | inl r ↦ f before r.0 s held r.1 ran k now room e
      | inr r ↦ (
          let parts = runs_split p xs r.0 h held (subst (λ zs. Runs p h zs held) r.1 ran) in
          let same : parts.0 ≡ mid = runs_determined p xs h parts.0 mid parts.1 runs in
          g r.0 after s held r.2 (subst (λ v. Runs p v r.0 held) same parts.2) k now room e)
    ]

roomed : Joins Roomed
roomed = record {
  none = λ p h before after s held is ran. none_there before after (Session (Called s)) is;
  one = one_roomed;
  both = both_roomed;
}

-- the act that takes a message of a lane is no call
took_roomed : (from number : ℕ) (m : Forward) (copies : List Copy) (lost : ℕ) (p : Place) (h : HeldView) → Roomed p h (Bridge (Took from number m copies lost) ∷ [])
took_roomed from number m copies lost p h before after s held is ran =
    let a = Bridge (Took from number m copies lost) in absurd (let z : a ≡ Session (Called s) = alone_is a (Session (Called s)) before after is in cc)

-- a call with what follows it
call_roomed : (p : Place) (h mid : HeldView) (s : SessionStep) (rest : List Act) → mid ≡ next h (Session (Called s)) → Told s h → Roomed p mid rest → Roomed p h (Session (Called s) ∷ rest)
call_roomed p h mid s rest left told more [] after t held is ran =
    let same : s ≡ t = (let z = head_is is in cc) in
    subst (Told t) (sym ran) (subst (λ (v : SessionStep). Told v h) same told)
call_roomed p h mid s rest left told more (b ∷ before) after t held is ran =
    let same : ran.0 ≡ mid = ran.1.1 ∙ ap (next h) (sym (head_is is)) ∙ sym left in
    more before after t held (tail_is is) (subst (λ v. Runs p v before held) same ran.2)

answers_roomed : (p : Place) (h : HeldView) (s : SessionStep) (id : ℕ) (codes : List ℕ) → s.event ≡ answers id codes → Roomed p h (Session (Called s) ∷ [])
answers_roomed p h s id codes e =
    let after = next h (Session (Called s)) in
    call_roomed p h after s [] refl (λ k now room f. absurd (let z : answers id codes ≡ takes k now room = sym e ∙ f in cc)) (roomed.none p after)

serves_at : (c : ℕ) (client : List ℕ) (k : Packet) (room : Bool) (found : Option Seat) (r : Reaction) (x : Unit {0}) (p : Place) (h mid : HeldView) (own rest : List Act) → room ≡ serving.room_for client k h
    → CallsAt client (λ at. takes k at room) stays found (Some r) p h own → Runs p h own mid → serving.DoesReaction c client k room r (Some x) p mid rest → Roomed p h (own ++ rest)
serves_at c client k room None r x p h mid own rest is d runs more =
    let same : mid ≡ h = subst (λ xs. Runs p h xs mid) d.1 runs in
    subst (λ xs. Roomed p h (xs ++ rest)) (sym d.1) (subst (λ v. Roomed p v rest) same ((does_reaction Roomed roomed answers_roomed c client k room r).of x p mid rest more))
serves_at c client k room (Some seat) r x p h mid own rest is d runs more =
    let event : ℕ → Event = λ at. takes k at room in
    let s = calling_by client event stays seat r p h own d in
    let left : mid ≡ next h (Session (Called s.step)) = left_by p h mid (Session (Called s.step)) own s.acts_are runs in
    let told : Told s.step h = λ k' now room' e. (
    let same : takes k h.at room ≡ takes k' now room' = sym s.event_is ∙ e in
    let one : k ≡ k' = cc same in
    let two : room ≡ room' = cc same in
    sym two ∙ is ∙ (λ i. serving.room_for (sym s.client_is i) (one i) h)) in
    subst (λ xs. Roomed p h (xs ++ rest)) (sym s.acts_are) (call_roomed p h mid s.step rest left told ((does_reaction Roomed roomed answers_roomed c client k room r).of x p mid rest more))

serves_in : (c : ℕ) (client : List ℕ) (k : Packet) (room : Bool) (x : Unit {0}) (p : Place) (h : HeldView) (acts : List Act) → room ≡ serving.room_for client k h → serving.ServesIn c client k room (Some x) p h acts → Roomed p h acts
serves_in c client k room x p h acts same (inl d) = none_some (sym d.0)
serves_in c client k room x p h acts same (inr (r, own, mid, rest, one, runs, more, is)) = subst (Roomed p h) (sym is) (serves_at c client k room (seat_at client h) r x p h mid own rest same one runs more)

serves : (c : ℕ) (client : List ℕ) (k : Packet) → Keeps Roomed (serving.ServesPacket c client k)
serves c client k = record { of = λ x p h acts d. serves_in c client k (serving.room_for client k h) x p h acts refl d }

-- in every step
pub room_is_told : (e : NodeEvent) (p : Place) (h held : HeldView) (acts : List Act) → Decides e (Some tt) p h acts → (before after : List Act) (s : SessionStep) → acts ≡ before ++ Session (Called s) ∷ after → Runs p h before held
    → (k : Packet) (now : ℕ) (room : Bool) → s.event ≡ takes k now room → room ≡ serving.room_for s.client k held
room_is_told e p h held acts does before after s is ran k now room event = (decides Roomed roomed serves (takes_forward Roomed roomed took_roomed) e).of tt p h acts does before after s held is ran k now room event
