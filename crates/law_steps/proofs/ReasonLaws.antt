-- Retained messages are offered to those who asked, and sessions end at once for their reasons, in every step.
use Rattle.std.proofs.Common.{◌≡◌, inl, inr, ℕ, List, [], ◌∷◌, refl, sym, subst}
use Rattle.home_table.specs.Table.{Table}
use Rattle.session_table.specs.Seats.{IsElsewhere}
use Rattle.node_work.specs.Acts.{Act, MomentTaken, Began, Session, Acknowledged, next}
use Rattle.node_work.specs.Held.Sessions.{Called}
use Rattle.node_work.specs.View.{Place, HeldView}
use Rattle.broker_node.specs.declared.event.Event.{Event}
use Rattle.broker_node.specs.declared.event.EventKind.{EventKind}
use Rattle.broker_node.specs.declared.event.EventKind.TheVariants as kinds
use Rattle.cluster_play.specs.Histories.{acts_of}
use Rattle.law_steps.specs.Due.{DueFirst}
use Rattle.law_steps.specs.Finishing.{SessionsFinishForReasons, SessionsOfRunsFinishForReasons}
use Rattle.law_steps.specs.Offering.{OffersAreAskedFor, OffersOfRunsAreAskedFor}
use Rattle.law_steps.specs.Overs.{MayEndNow}
use Rattle.law_steps.proofs.LiftedLaws.{steps_of_runs_are_steps}
use Rattle.law_steps.proofs.Reasons.{CallHasReason, T, bare_one, call_one, due_one, finishes_of, reasoned_closed, serves, takes_forward, ticks_of}
use Rattle.law_steps.proofs.Staying.{same_homes}
use Rattle.law_steps.proofs.Turning.{BegunOf, CameOf, Turned, came}
use Rattle.law_steps.proofs.Walking.{MayEnd, answers_event, does_due, starts}

module _ (e : Event) (p : Place) (h : HeldView) (acts : List Act) where
  abbrev C : List ℕ → Type 0
  C client = MayEndNow e p h acts client

  -- what may end at an event, after what is due
  may_by : (kind : EventKind) → e.kind ≡ kind → (first : DueFirst p h e.at acts) → MayEnd (T C) (reasoned_closed C) (due_one C) (call_one C) (ticks_of C) (bare_one C) (serves C) (takes_forward C) C (finishes_of C) p first.held kind
  may_by (kinds.Piece n bytes) is first = λ found there q among clean. inl (record { connection = n; bytes = bytes; kind = is; first = first; found = found; there = there; connect = q; among = among; clean = clean; own = refl })
  may_by (kinds.Table homes) is first = λ client away. inr (inr (homes, is, away))
  may_by kinds.Started is first = tt
  may_by (kinds.Opened n) is first = tt
  may_by (kinds.Room n bytes) is first = tt
  may_by (kinds.Closed n) is first = tt
  may_by (kinds.Frame bytes) is first = tt
  may_by (kinds.Linked peer) is first = tt
  may_by (kinds.Ship peer) is first = tt
  may_by (kinds.More peer after) is first = tt
  may_by kinds.Tick is first = tt
  may_by (kinds.Evict client) is first = tt

  after_due : Turned e p h acts → T C p h acts
  after_due t =
      let began = next h (MomentTaken e.at) in
      let own : T C p began t.own = (does_due (T C) (reasoned_closed C) (due_one C) (call_one C) (ticks_of C)).of t.answer p began t.own t.does in
      let one : T C p h (MomentTaken e.at ∷ []) = bare_one C p h (MomentTaken e.at) tt in
      let first : T C p h t.first.due = subst (T C p h) (sym t.due_is) ((reasoned_closed C).both p h began (MomentTaken e.at ∷ []) t.own (began, (tt, refl), refl) one own) in
      subst (T C p h) (sym t.first.is) ((reasoned_closed C).both p h t.first.held t.first.due t.first.rest t.first.runs first
      (answers_event (T C) (reasoned_closed C) (due_one C) (call_one C) (ticks_of C) (bare_one C) (serves C) (takes_forward C) C (finishes_of C) e.kind tt p t.first.held t.first.rest (may_by e.kind refl t.first) t.answers))

  begun : BegunOf e p h acts → T C p h acts
  begun b =
      let began = next h (MomentTaken e.at) in
      let one : T C p h (MomentTaken e.at ∷ []) = bare_one C p h (MomentTaken e.at) tt in
      let rest : T C p began b.rest = starts (T C) (reasoned_closed C) (due_one C) (call_one C) (ticks_of C) (bare_one C) (serves C) (takes_forward C) C (finishes_of C) tt p began b.rest
      (λ mid first y d runs client away. inr (inl (b.kind, b.waits, subst (λ (t : Table). IsElsewhere t p.id client) (same_homes y p (next began Began) mid first d runs) away))) b.goes in
      subst (T C p h) (sym b.is) ((reasoned_closed C).both p h began (MomentTaken e.at ∷ []) b.rest (began, (tt, refl), refl) one rest)

  all_reasoned : CameOf e p h acts → T C p h acts
  all_reasoned (inl t) = after_due t
  all_reasoned (inr (inl b)) = begun b
  all_reasoned (inr (inr is)) = subst (T C p h) (sym is) (bare_one C p h (MomentTaken e.at) tt)

pub offers_are_asked_for : OffersAreAskedFor
offers_are_asked_for = λ e p h acts d before after client packet at grants offers is. all_reasoned e p h acts (came e p h acts d) before after (Acknowledged client packet at grants offers) is

pub offers_of_runs_are_asked_for : OffersOfRunsAreAskedFor
offers_of_runs_are_asked_for = λ run later m w r e commits before after client packet at grants offers is.
    (let s = steps_of_runs_are_steps run later m w r e commits in offers_are_asked_for e s.holds.site.node.place s.held (acts_of m.fate) s.does before after client packet at grants offers is)

pub sessions_finish_for_reasons : SessionsFinishForReasons
sessions_finish_for_reasons = λ e p h acts d before after s now is event.
    subst (CallHasReason (C e p h acts) s) event (all_reasoned e p h acts (came e p h acts d) before after (Session (Called s)) is)

pub sessions_of_runs_finish_for_reasons : SessionsOfRunsFinishForReasons
sessions_of_runs_finish_for_reasons = λ run later m w r e commits before after s now is event.
    (let t = steps_of_runs_are_steps run later m w r e commits in (t, sessions_finish_for_reasons e t.holds.site.node.place t.held (acts_of m.fate) t.does before after s now is event))
