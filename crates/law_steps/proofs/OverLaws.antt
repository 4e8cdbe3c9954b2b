-- Sessions end for reasons, in every step.
use Rattle.std.proofs.Common.{◌≡◌, ◌⊎◌, inl, inr, ℕ, Bool, true, false, List, [], ◌∷◌, ◌++◌, Option, Some, None, refl, sym, ap, ◌∙◌, subst}
use Rattle.std.specs.FinMap as map
use Rattle.home_table.specs.Table.{Table}
use Rattle.mqtt_packets.specs.declared.connect.Connect.{Connect}
use Rattle.law_sessions.specs.Runs.{finishes, ticks}
use Rattle.session_table.specs.Calls.{leaves}
use Rattle.session_table.specs.Seats.{IsElsewhere}
use Rattle.node_work.specs.Acts.{Act, MomentTaken, Began, Session, Runs, next}
use Rattle.node_work.specs.Held.Sessions.{Over, end_is_due}
use Rattle.node_work.specs.View.{Place, HeldView, ConnectionView}
use Rattle.node_work.specs.Working.{Then}
use Rattle.broker_node.specs.declared.event.Event.{Event}
use Rattle.broker_node.specs.declared.event.EventKind.{EventKind}
use Rattle.broker_node.specs.declared.event.EventKind.TheVariants as kinds
use Rattle.broker_node.specs.Due as due
use Rattle.broker_node.specs.Turns as turns
use Rattle.law_runs.proofs.Keeping.{Property, none_some}
use Rattle.law_steps.specs.Due.{DueFirst}
use Rattle.law_steps.specs.Overs.{EndsForReason, MayEndNow, SessionsEndForReasons}
use Rattle.law_steps.proofs.Ends.{Over_told, Reasoned, bare_told, call_told, due_told, finishes_of, over_closed, serves, takes_forward, ticks_of}
use Rattle.law_steps.proofs.Staying.{same_homes}
use Rattle.law_steps.proofs.Turning.{BegunOf, CameOf, Turned, came}
use Rattle.law_steps.proofs.Walking.{MayEnd, answers_event, does_due, starts}

module _ (e : Event) (p : Place) (h : HeldView) (acts : List Act) where
  abbrev C : List ℕ → Type 0
  C client = MayEndNow e p h acts client

  abbrev T : Property
  T = Over_told C

  reason : (before : List Act) (client : List ℕ) → Reasoned C p h before client → EndsForReason e p h acts before client
  reason before client r = record { earlier = r.earlier; call = r.call; later = r.later; is = r.is; of = r.of; over = r.over; held = r.held; runs = r.runs; why = r.why }

  -- what may end at an event, after what is due
  may_by : (kind : EventKind) → e.kind ≡ kind → (first : DueFirst p h e.at acts) → MayEnd T (over_closed C) (due_told C) (call_told C) (ticks_of C) (bare_told C) (serves C) (takes_forward C) C (finishes_of C) p first.held kind
  may_by (kinds.Piece n bytes) is first = λ found there q among clean. inl (record { connection = n; bytes = bytes; kind = is; first = first; found = found; there = there; connect = q; among = among; clean = clean; own = refl })
  may_by (kinds.Table homes) is first = λ client away. inr (inr (homes, is, away))
  may_by kinds.Started is first = tt
  may_by (kinds.Opened n) is first = tt
  may_by (kinds.Room n bytes) is first = tt
  may_by (kinds.Closed n) is first = tt
  may_by (kinds.Frame bytes) is first = tt
  may_by (kinds.Linked peer) is first = tt
  may_by (kinds.Ship peer) is first = tt
  may_by (kinds.More peer after) is first = tt
  may_by kinds.Tick is first = tt
  may_by (kinds.Evict client) is first = tt

  after_due : Turned e p h acts → T p h acts
  after_due t =
      let began = next h (MomentTaken e.at) in
      let own : T p began t.own = (does_due T (over_closed C) (due_told C) (call_told C) (ticks_of C)).of t.answer p began t.own t.does in
      let one : T p h (MomentTaken e.at ∷ []) = bare_told C p h (MomentTaken e.at) tt in
      let first : T p h t.first.due = subst (T p h) (sym t.due_is) ((over_closed C).both p h began (MomentTaken e.at ∷ []) t.own (began, (tt, refl), refl) one own) in
      subst (T p h) (sym t.first.is) ((over_closed C).both p h t.first.held t.first.due t.first.rest t.first.runs first
      (answers_event T (over_closed C) (due_told C) (call_told C) (ticks_of C) (bare_told C) (serves C) (takes_forward C) C (finishes_of C) e.kind tt p t.first.held t.first.rest (may_by e.kind refl t.first) t.answers))

  begun : BegunOf e p h acts → T p h acts
  begun b =
      let began = next h (MomentTaken e.at) in
      let one : T p h (MomentTaken e.at ∷ []) = bare_told C p h (MomentTaken e.at) tt in
      let rest : T p began b.rest = starts T (over_closed C) (due_told C) (call_told C) (ticks_of C) (bare_told C) (serves C) (takes_forward C) C (finishes_of C) tt p began b.rest
      (λ mid first y d runs client away. inr (inl (b.kind, b.waits, subst (λ (t : Table). IsElsewhere t p.id client) (same_homes y p (next began Began) mid first d runs) away))) b.goes in
      subst (T p h) (sym b.is) ((over_closed C).both p h began (MomentTaken e.at ∷ []) b.rest (began, (tt, refl), refl) one rest)

  all_told : CameOf e p h acts → T p h acts
  all_told (inl t) = after_due t
  all_told (inr (inl b)) = begun b
  all_told (inr (inr is)) = subst (T p h) (sym is) (bare_told C p h (MomentTaken e.at) tt)

pub sessions_end_for_reasons : SessionsEndForReasons
sessions_end_for_reasons = λ e p h acts d before after client is. reason e p h acts before client (all_told e p h acts (came e p h acts d) before after client is)
