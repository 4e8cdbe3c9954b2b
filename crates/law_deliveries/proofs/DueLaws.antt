-- What is due comes by the next tick.
use Rattle.std.proofs.Common.{◌≡◌, ℕ, Bool, true, false, cond, List, [], ◌∷◌, Option, Some, None, refl, sym, ◌∙◌, inl, inr}
use Rattle.std.specs.Prelude.{◌==◌, ◌&&◌, not, is_some}
use Rattle.std.proofs.lemmas.Bool.{cases_Bool, false≢true}
use Rattle.mqtt_fields.specs.Properties.{first_four}
use Rattle.mqtt_packets.specs.declared.connect.Will.{Will}
use Rattle.mqtt_packets.specs.declared.packet.Packet.{Packet}
use Rattle.mqtt_packets.specs.declared.packet.Packet.TheVariants as packets
use Rattle.law_handshakes.specs.Numbers.{AreNumbered}
use Rattle.mqtt_sessions.specs.declared.kept.Phase.{Phase}
use Rattle.mqtt_sessions.specs.declared.kept.Phase.TheVariants.{Connected, Closed}
use Rattle.mqtt_sessions.specs.Ending.{ask_of, end_by, end_due, has_run_out, is_due, message_of, ticked, ticked_if, will_by, will_due}
use Rattle.mqtt_sessions.specs.Reaction.{Reaction}
use Rattle.mqtt_sessions.specs.State.{Kept, Link, State, new_session}
use Rattle.law_sessions.specs.Runs.{Event, connects, queues, rooms, takes, answers, closes, ticks, finishes, loses, Step, Reacts, Run, connected_after, limit_after}
use Rattle.law_sessions.proofs.CallLaws.{numbered-calls}
use Rattle.law_sessions.proofs.ProjectLaws.{project}
use Rattle.law_sessions.proofs.QuietLaws.{HasLimit}
use Rattle.law_deliveries.specs.Wills.{after_disconnect, after_packet, kept_after, DueBy, AllDue, KeepsDue}
use Rattle.law_deliveries.proofs.WillLaws.{told}

-- ---- a session that is closed has no connection
abbrev IsApart : Bool → Kept → Type 0
IsApart on k = (at : ℕ) → k.phase ≡ Closed at → on ≡ false

disconnect-phase : (o : Option ℕ) (code : ℕ) (k : Kept) → (after_disconnect o code k).phase ≡ k.phase
disconnect-phase None code k = refl
disconnect-phase (Some expiry) code k = elim (cases_Bool ((k.expiry == 0) && not (expiry == 0))) [ inl h ↦ rw h refl | inr h ↦ rw h refl ]

packet-phase : (p : Packet) (k : Kept) → (after_packet p k).phase ≡ k.phase
packet-phase (packets.Disconnect p) k = disconnect-phase (first_four 17 p.properties) p.reason k
packet-phase (packets.Publish p) k = refl
packet-phase (packets.Puback p) k = refl
packet-phase (packets.Pubrec p) k = refl
packet-phase (packets.Pubrel p) k = refl
packet-phase (packets.Pubcomp p) k = refl
packet-phase (packets.Subscribe p) k = refl
packet-phase (packets.Unsubscribe p) k = refl
packet-phase packets.Pingreq k = refl
packet-phase (packets.Connect p) k = refl
packet-phase (packets.Connack p) k = refl
packet-phase (packets.Suback p) k = refl
packet-phase (packets.Unsuback p) k = refl
packet-phase packets.Pingresp k = refl
packet-phase (packets.Auth p) k = refl

takes-phase : (on : Bool) (p : Packet) (k : Kept) → (cond on (after_packet p k) k).phase ≡ k.phase
takes-phase true p k = packet-phase p k
takes-phase false p k = refl

will-phase : (b : Bool) (k : Kept) → (cond b (record k { will = None }) k).phase ≡ k.phase
will-phase true k = refl
will-phase false k = refl

-- where it had none, it gets none but by a CONNECT
still : (on : Bool) (k l : Kept) (r : Reaction) → l.phase ≡ k.phase → IsApart on k → IsApart (on && not (is_some r.end)) l
still on k l r same h = λ at e. rw (h at (sym same ∙ e)) refl

apart : (on : Bool) (k : Kept) (e : Event) (r : Reaction) → IsApart on k → IsApart (connected_after on e r) (kept_after on k e r)
apart on k (connects c continued room now) r h = λ at e. (cc e)
apart on k (queues d now) r h = still on k k r refl h
apart on k (rooms bytes now) r h = still on k k r refl h
apart on k (takes p now room) r h = still on k (cond on (after_packet p k) k) r (takes-phase on p k) h
apart on k (answers id codes) r h = still on k k r refl h
apart on k (closes now) r h = λ at e. refl
apart on k (ticks now) r h = still on k (cond (is_some r.ask) (record k { will = None }) k) r (will-phase (is_some r.ask) k) h
apart on k (finishes now) r h = λ at e. refl
apart on k loses r h = λ at e. refl

-- ---- ticks
closed-tick : (b c : Bool) (now : ℕ) (s : State) → ((ticked_if false b c now s).reaction.ask ≡ cond b (ask_of (message_of s.kept.will s.kept.client now)) None) × ((ticked_if false b c now s).reaction.over ≡ (not b && c))
closed-tick true c now s = (refl, refl)
closed-tick false c now s = (refl, refl)

open-tick : (a : Bool) (l : Link) (now : ℕ) (s : State) → s.link ≡ Some l → ((ticked_if a false false now s).reaction.ask ≡ None) × ((ticked_if a false false now s).reaction.over ≡ false)
open-tick true l now s e = rw e (refl, refl)
open-tick false l now s e = (refl, refl)

will-open : (o : Option Will) (expiry now : ℕ) → is_due (will_by o Connected expiry) now ≡ false
will-open None expiry now = refl
will-open (Some w) expiry now = refl

connected : (f : Phase) (k : Kept) → k.phase ≡ f → IsApart true k → k.phase ≡ Connected
connected Connected k e h = e
connected (Closed at) k e h = absurd (false≢true (sym (h at e)))

due-link : (o : Option Link) (on : Bool) (now : ℕ) (s : State) → s.link ≡ o → on ≡ is_some o → IsApart on s.kept → DueBy s.kept (ticks now) (ticked now s).reaction
due-link None on now s e is h =
    let run_out : has_run_out s.link now ≡ false = rw e refl in
    rw run_out (closed-tick (is_due (will_due s.kept) now) (is_due (end_due s.kept) now) now s)
due-link (Some l) on now s e is h =
    let f : s.kept.phase ≡ Connected = connected s.kept.phase s.kept refl (rw is at h) in
    let b : is_due (will_by s.kept.will s.kept.phase s.kept.expiry) now ≡ false = rw f (will-open s.kept.will s.kept.expiry now) in
    let c : is_due (end_by s.kept.phase s.kept.expiry) now ≡ false = rw f refl in
    rw (b, c) (open-tick (has_run_out s.link now) l now s e)

due : (on : Bool) (old new : State) (e : Event) (r : Reaction) → on ≡ is_some old.link → IsApart on old.kept → Reacts old e r new → DueBy old.kept e r
due on old new (connects c continued room now) r is a h = tt
due on old new (queues d now) r is a h = tt
due on old new (rooms bytes now) r is a h = tt
due on old new (takes p now room) r is a h = tt
due on old new (answers id codes) r is a h = tt
due on old new (closes now) r is a h = tt
due on old new (ticks now) r is a h = rw h.0 (due-link old.link on now old refl is a)
due on old new (finishes now) r is a h = tt
due on old new loses r is a h = tt

due-run : (on : Bool) (limit : ℕ) (old : State) (steps : List Step) (end : State) → HasLimit limit old.link → on ≡ is_some old.link → AreNumbered old.outbox.copies → IsApart on old.kept → Run old steps end → AllDue on old.kept steps
due-run on limit old [] end is opens n a r = tt
due-run on limit old (s ∷ ss) end is opens n a r =
    let p = project on limit old r.0 s.event s.reaction is opens n r.1 in
    let next = told on old r.0 s.event s.reaction opens r.1 in
    let later : IsApart (connected_after on s.event s.reaction) r.0.kept = rw next (apart on old.kept s.event s.reaction a) in (
      due on old r.0 s.event s.reaction opens a r.1,
      rw (← next) (due-run (connected_after on s.event s.reaction) (limit_after limit s.event) r.0 ss end p.limited p.connected (numbered-calls old.outbox p.calls r.0.outbox p.runs n) later r.2),
    )

pub keeps_due : KeepsDue
keeps_due = λ client steps end r. due-run false 0 (new_session client) steps end tt refl tt (λ at e. refl) r
