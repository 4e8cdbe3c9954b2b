-- A session ends at its time alone.
use Rattle.std.proofs.Common.{◌≡◌, ℕ, ◌+◌, ◌*◌, ◌≤◌, Bool, true, false, List, [], ◌∷◌, Option, Some, None, refl, sym, ◌∙◌, ap, inl, inr, arith}
use Rattle.std.specs.Prelude.{is_some, min, unwrap_or}
use Rattle.std.proofs.lemmas.Bool.{cases_Bool, both_ways, false≢true, leb-true, le-leb}
use Rattle.mqtt_fields.specs.Properties.{first_four}
use Rattle.mqtt_packets.specs.declared.connect.Connect.{Connect}
use Rattle.mqtt_packets.specs.declared.connect.Will.{Will}
use Rattle.mqtt_packets.specs.declared.packet.Packet.{Packet}
use Rattle.mqtt_message.specs.Expiry.{due_of, first_of, session_end}
use Rattle.mqtt_message.specs.declared.delivery.Delivery.{Delivery}
use Rattle.law_handshakes.specs.Numbers.{AreNumbered}
use Rattle.mqtt_sessions.specs.declared.kept.Phase.{Phase}
use Rattle.mqtt_sessions.specs.declared.kept.Phase.TheVariants.{Connected, Closed}
use Rattle.mqtt_sessions.specs.Answers.{connack, fits}
use Rattle.mqtt_sessions.specs.Connecting.{OpensIf}
use Rattle.mqtt_sessions.specs.Ending.{end_by, end_due, has_run_out, is_due, ticked_if, timed_out, will_by, will_due}
use Rattle.mqtt_sessions.specs.Reaction.{Reaction}
use Rattle.mqtt_sessions.specs.Sending.{QueueIf, is_once}
use Rattle.mqtt_sessions.specs.State.{Kept, Link, State, limit_in, new_session}
use Rattle.law_sessions.specs.Replies.{Reply, silent, says, asks, both, ends, leaves, reaction_of, reply_codes}
use Rattle.law_sessions.specs.Runs.{Event, connects, queues, rooms, takes, answers, closes, ticks, finishes, loses, Step, Reacts, Run, connected_after, limit_after}
use Rattle.law_sessions.proofs.CallLaws.{numbered-calls}
use Rattle.law_sessions.proofs.ProjectLaws.{project}
use Rattle.law_sessions.proofs.QuietLaws.{HasLimit}
use Rattle.law_sessions.proofs.ReplyLaws.{replies_by_link, keeps_unheard, keeps_codes}
use Rattle.law_deliveries.specs.Overs.{IsOver, OverBy, AllOvers, KeepsOvers}
use Rattle.law_deliveries.proofs.WillLaws.{told}

-- ---- what is answered never ends a session
reply-over : (limit : ℕ) (x : Reply) → (reaction_of limit x).over ≡ false
reply-over limit silent = refl
reply-over limit (says p) = elim (cases_Bool (fits limit p)) [ inl f ↦ rw f refl | inr f ↦ rw f refl ]
reply-over limit (asks a) = refl
reply-over limit (both p a) = elim (cases_Bool (fits limit p)) [ inl f ↦ rw f refl | inr f ↦ rw f refl ]
reply-over limit (ends code) = refl
reply-over limit leaves = refl

takes-over : (o : Option Link) (old new : State) (p : Packet) (now : ℕ) (room : Bool) (r : Reaction) → old.link ≡ o → Reacts old (takes p now room) r new → r.over ≡ false
takes-over None old new p now room r e h = rw (keeps_unheard old new p now room r e h).0 refl
takes-over (Some l) old new p now room r e h = let k = replies_by_link old new l p now room r e h in rw k.gives (reply-over l.limit k.reply)

answers-over : (o : Option Link) (old new : State) (id : ℕ) (codes : List ℕ) (r : Reaction) → old.link ≡ o → Reacts old (answers id codes) r new → r.over ≡ false
answers-over None old new id codes r e h = let g = rw e at h in rw g.0 refl
answers-over (Some l) old new id codes r e h = rw (keeps_codes old new l id codes r e h) (reply-over l.limit (reply_codes l.asked id codes))

opens-over : (b : Bool) (old new : State) (c : Connect) (p : Packet) (room : Option ℕ) (now : ℕ) (r : Reaction) → OpensIf b old c p room now r new → r.over ≡ false
opens-over true old new c p room now r h = rw h.reacts refl
opens-over false old new c p room now r h = rw h.0 refl

queue-over : (b : Bool) (old new : State) (d : Delivery) (now : ℕ) (r : Reaction) → QueueIf b old d now r new → r.over ≡ false
queue-over true old new d now r q = rw q.0 refl
queue-over false old new d now r (inl q) = rw q.reacts refl
queue-over false old new d now r (inr q) = rw q.reacts refl

-- ---- what is due
-- a will is due where its session's end is
at-most : (a b : ℕ) → min a b ≤ b
at-most a b = grind arith

will-with : (w : Will) (closed expiry at now : ℕ) → session_end closed expiry ≡ Some at → at ≤ now → is_due (Some (due_of w closed expiry)) now ≡ true
will-with w closed expiry at now is le =
    let same : due_of w closed expiry ≡ min (closed + 1000 * unwrap_or (first_four 24 w.properties) 0) at = ap (first_of (closed + 1000 * unwrap_or (first_four 24 w.properties) 0)) is in
    let most = at-most (closed + 1000 * unwrap_or (first_four 24 w.properties) 0) at in
    le-leb (due_of w closed expiry) now (omega (arith, same, most, le))

no-will : (o : Option Will) (k : Kept) (closed at now : ℕ) → k.will ≡ o → session_end closed k.expiry ≡ Some at → at ≤ now → is_due (will_by o (Closed closed) k.expiry) now ≡ false → k.will ≡ None
no-will None k closed at now e is le h = e
no-will (Some w) k closed at now e is le h = absurd (both_ways (is_due (Some (due_of w closed k.expiry)) now) h (will-with w closed k.expiry at now is le))

ends-at : (o : Option ℕ) (k : Kept) (closed now : ℕ) → k.phase ≡ Closed closed → session_end closed k.expiry ≡ o → is_due o now ≡ true → is_due (will_by k.will (Closed closed) k.expiry) now ≡ false → IsOver k now
ends-at None k closed now since is h w = absurd (false≢true h)
ends-at (Some at) k closed now since is h w =
    let le = leb-true at now h in
    record { closed = closed; ends = at; since = since; is = is; due = le; will = no-will k.will k closed at now refl is le w }

over-by : (f : Phase) (k : Kept) (now : ℕ) → k.phase ≡ f → is_due (end_by f k.expiry) now ≡ true → is_due (will_by k.will f k.expiry) now ≡ false → IsOver k now
over-by Connected k now since h w = absurd (false≢true h)
over-by (Closed at) k now since h w = ends-at (session_end at k.expiry) k at now since refl h w

timed-over : (o : Option Link) (s : State) → (timed_out o s).reaction.over ≡ false
timed-over None s = refl
timed-over (Some l) s = refl

tick-over : (a b c : Bool) (now : ℕ) (s : State) → is_due (will_due s.kept) now ≡ b → is_due (end_due s.kept) now ≡ c → (ticked_if a b c now s).reaction.over ≡ true → IsOver s.kept now
tick-over true b c now s w e t = absurd (both_ways (timed_out s.link s).reaction.over (timed-over s.link s) t)
tick-over false true c now s w e t = absurd (false≢true t)
tick-over false false c now s w e t = over-by s.kept.phase s.kept now refl (e ∙ t) w

-- ---- the events
over : (old new : State) (e : Event) (r : Reaction) → Reacts old e r new → OverBy old.kept e r
over old new (connects c continued room now) r h = opens-over (fits (limit_in c.properties) (connack continued c.client old.kept.client)) old new c (connack continued c.client old.kept.client) room now r h.1
over old new (queues d now) r h = queue-over (is_once d.qos) old new d now r h
over old new (rooms bytes now) r h = rw h.reacts refl
over old new (takes p now room) r h = takes-over old.link old new p now room r refl h
over old new (answers id codes) r h = answers-over old.link old new id codes r refl h
over old new (closes now) r h = rw h.0 refl
over old new (ticks now) r h = λ t. tick-over (has_run_out old.link now) (is_due (will_due old.kept) now) (is_due (end_due old.kept) now) now old refl refl (sym (ap (λ (w : Reaction). w.over) h.0) ∙ t)
over old new (finishes now) r h = rw h.0 refl
over old new loses r h = rw h.quiet refl

overs-run : (on : Bool) (limit : ℕ) (old : State) (steps : List Step) (end : State) → HasLimit limit old.link → on ≡ is_some old.link → AreNumbered old.outbox.copies → Run old steps end → AllOvers on old.kept steps
overs-run on limit old [] end is opens n r = tt
overs-run on limit old (s ∷ ss) end is opens n r =
    let p = project on limit old r.0 s.event s.reaction is opens n r.1 in
    let next = told on old r.0 s.event s.reaction opens r.1 in (
      over old r.0 s.event s.reaction r.1,
      rw (← next) (overs-run (connected_after on s.event s.reaction) (limit_after limit s.event) r.0 ss end p.limited p.connected (numbered-calls old.outbox p.calls r.0.outbox p.runs n) r.2),
    )

pub keeps_overs : KeepsOvers
keeps_overs = λ client steps end r. overs-run false 0 (new_session client) steps end tt refl tt r
