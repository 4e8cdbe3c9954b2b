-- What is durable of a session has rows that open it again.
use Rattle.std.proofs.Common.{◌≡◌, ℕ, ◌<◌, ◌≤◌, ◌^◌, ◌++◌, Bool, true, false, List, [], ◌∷◌, Option, Some, None, Ok, Err, refl, sym, subst, ap, ◌∙◌, arith, inl, inr}
use Rattle.std.specs.Prelude.{cond, IfSome}
use Rattle.std.specs.List.{AllByRecursion}
use Rattle.std.proofs.lemmas.Bool.{cases_Bool}
use Rattle.mqtt_message.specs.declared.delivery.Delivery.{Delivery}
use Rattle.mqtt_message.specs.Spellings.{delivery}
use Rattle.qos_handshakes.specs.declared.answers.Offer.{Offer}
use Rattle.qos_handshakes.specs.declared.answers.Offer.TheVariants.{Queued, Full, AtEnd}
use Rattle.qos_handshakes.specs.declared.answers.Ack.{Ack}
use Rattle.qos_handshakes.specs.declared.answers.Ack.TheVariants.{Done, Unknown}
use Rattle.qos_handshakes.specs.declared.answers.Rec.{Rec}
use Rattle.qos_handshakes.specs.declared.answers.Rec.TheVariants as rec
use Rattle.qos_handshakes.specs.declared.copies.Entry.{Entry}
use Rattle.qos_handshakes.specs.declared.copies.Stage.{Stage}
use Rattle.qos_handshakes.specs.declared.copies.Stage.TheVariants.{Waiting, Published, Released}
use Rattle.qos_handshakes.specs.Entries.{Entries, has_id, drop_id, write_id, as_released}
use Rattle.qos_handshakes.specs.Outbox.{Outbox, Sent, away, waiting_entry, waits, is_owed, is_sendable, fits, after_resend, after_send, NextStep, OfferStep, EndStep, ReceivedIf}
use Rattle.law_handshakes.specs.Numbers.{AreNumbered, IsNumbered}
use Rattle.law_handshakes.specs.Order.{all_offers}
use Rattle.law_handshakes.specs.Runs as low
use Rattle.law_handshakes.specs.Runs.{offered, acknowledged, completed, received, resumed, listed, asked, lost}
use Rattle.session_rows.specs.Durable.{Durable, IsDurable}
use Rattle.session_rows.specs.Fields.{copy, copy_of}
use Rattle.session_rows.specs.Reading.{durable_in}
use Rattle.session_rows.specs.Rows.{rows_of}
use Rattle.session_rows.proofs.DurableLaws.{durable_again}
use Rattle.mqtt_sessions.specs.declared.fault.SessionFault.TheVariants.{NoMemory, NumbersAtEnd, Spent, BadRow}
use Rattle.mqtt_sessions.specs.Reaction.{Reaction}
use Rattle.mqtt_sessions.specs.Saved.{durable_of, reopened}
use Rattle.mqtt_sessions.specs.Sending.{is_once}
use Rattle.mqtt_sessions.specs.State.{State, Tracked}
use Rattle.law_sessions.specs.Order.{queued_by}
use Rattle.law_sessions.specs.Runs.{Event, connects, queues, rooms, takes, answers, closes, ticks, finishes, loses, Reacts}
use Rattle.law_sessions.proofs.CallLaws.{Call}
use Rattle.law_sessions.specs.Histories.{Point, Move, calls, tells, Moves, History}
use Rattle.law_sessions.specs.Sound.{IsSoundEvent, IsSoundMove, BeginsSound, StaysDurable, DurableOpens}
use Rattle.law_handshakes.proofs.AgreeLaws.{past, Faces, IsSound, agrees}
use Rattle.law_sessions.proofs.AgreedLaws.{next-past}
use Rattle.law_sessions.proofs.ReachLaws.{AreReached, calls-reach, reached-away}
use Rattle.law_sessions.proofs.RestLaws.{Rest, rest-after, rest-begun, rest-opened, main-fits, main-sound}
use Rattle.law_sessions.proofs.SinceLaws.{AreSound, calls-of, sound-after, sound-begun, sound-opened}

-- ---- each copy's delivery has a spelling
abbrev HasSpelled : ℕ × Entry → Type 0
HasSpelled e = delivery.Fits e.1.delivery

abbrev AreSpelled : Entries → Type 0
AreSpelled es = AllByRecursion HasSpelled es

pushed : (place : ℕ) (d : Delivery) (es : Entries) → delivery.Fits d → AreSpelled es → AreSpelled (es ++ (place, waiting_entry d) ∷ [])
pushed place d [] f h = (f, tt)
pushed place d (e ∷ es) f h = (h.0, pushed place d es f h.1)

dropped : (id : ℕ) (es : Entries) → AreSpelled es → AreSpelled (drop_id id es)
dropped id [] h = h
dropped id (e ∷ es) h = elim (cases_Bool (has_id id e.1)) [ inl t ↦ rw t h.1 | inr f ↦ rw f (h.0, dropped id es h.1) ]

released : (id order : ℕ) (es : Entries) → AreSpelled es → AreSpelled (write_id (as_released id order) id es)
released id order [] h = h
released id order (e ∷ es) h = elim (cases_Bool (has_id id e.1)) [ inl t ↦ rw t (h.0, h.1) | inr f ↦ rw f (h.0, released id order es h.1) ]

gone : (es : Entries) → AreSpelled es → AreSpelled (away es)
gone [] h = h
gone (e ∷ es) h = (h.0, gone es h.1)

resent : (now limit : ℕ) (es : Entries) → AreSpelled es → AreSpelled (after_resend now limit es)
resent now limit [] h = h
resent now limit (e ∷ es) h = elim (cases_Bool (is_owed e.1)) [
  | inl t ↦ elim (cases_Bool (fits now limit e.1.delivery)) [ inl g ↦ rw (t, g) (h.0, h.1) | inr g ↦ rw (t, g) (resent now limit es h.1) ]
  | inr f ↦ rw f (h.0, resent now limit es h.1)
]

sent : (now limit id : ℕ) (es : Entries) → AreSpelled es → AreSpelled (after_send now limit id es)
sent now limit id [] h = h
sent now limit id (e ∷ es) h = elim (cases_Bool (waits e.1.stage)) [
  | inl t ↦ elim (cases_Bool (is_sendable now limit e.1.delivery)) [ inl g ↦ rw (t, g) (h.0, h.1) | inr g ↦ rw (t, g) (sent now limit id es h.1) ]
  | inr f ↦ rw f (h.0, sent now limit id es h.1)
]

-- a call that offers what has a spelling
abbrev OffersSpelled : Call → Type 0
OffersSpelled (offered d a) = delivery.Fits d
OffersSpelled c = Unit {0}

offer-keeps : (old new : Outbox) (d : Delivery) (a : Offer) → delivery.Fits d → OfferStep old d a new → AreSpelled old.copies → AreSpelled new.copies
offer-keeps old new d Queued f s h = rw s.2 (pushed old.next_place d old.copies f h)
offer-keeps old new d Full f s h = rw s.1 h
offer-keeps old new d AtEnd f s h = rw s.2 h

end-keeps : (ends : Bool) (old new : Outbox) (id : ℕ) (a : Ack) → EndStep ends old id a new → AreSpelled old.copies → AreSpelled new.copies
end-keeps ends old new id Done s h = rw s.1 (dropped id old.copies h)
end-keeps ends old new id Unknown s h = rw s.1 h

received-keeps : (o : Option Entry) (old new : Outbox) (id reason : ℕ) (a : Rec) → ReceivedIf o old id reason a new → AreSpelled old.copies → AreSpelled new.copies
received-keeps None old new id reason a s h = rw s.1 h
received-keeps (Some x) old new id reason rec.Release (inl s) h = rw s.3 (released id old.next_order old.copies h)
received-keeps (Some x) old new id reason rec.Release (inr s) h = rw s.1 h
received-keeps (Some x) old new id reason rec.Ended s h = rw s.2 (dropped id old.copies h)
received-keeps (Some x) old new id reason rec.Unknown s h = rw s.2 h
received-keeps (Some x) old new id reason rec.AtEnd s h = rw s.3 h

next-keeps : (now limit : ℕ) (old new : Outbox) (a : Option Sent) → NextStep now limit old a new → AreSpelled old.copies → AreSpelled new.copies
next-keeps now limit old new None s h = elim s.step [
  | inl t ↦ rw t.1 h
  | inr t ↦ elim t [
    | inl u ↦ rw u.3 (resent now limit old.copies h)
    | inr u ↦ rw u.3 (sent now limit 0 (after_resend now limit old.copies) (resent now limit old.copies h))
  ]
]
next-keeps now limit old new (Some x) (inl s) h = rw s.left (resent now limit old.copies h)
next-keeps now limit old new (Some x) (inr s) h = rw s.left (sent now limit x.id (after_resend now limit old.copies) (resent now limit old.copies h))

call-keeps : (old new : Outbox) (c : Call) → OffersSpelled c → low.Takes old c new → AreSpelled old.copies → AreSpelled new.copies
call-keeps old new (offered d a) q s h = offer-keeps old new d a q s h
call-keeps old new (acknowledged id a) q s h = end-keeps _ old new id a s h
call-keeps old new (completed id a) q s h = end-keeps _ old new id a s h
call-keeps old new (received id reason a) q s h = received-keeps _ old new id reason a s h
call-keeps old new (resumed maximum) q s h = rw s (gone old.copies h)
call-keeps old new (listed ids) q s h = rw s.1 h
call-keeps old new (asked now limit a) q s h = next-keeps now limit old new a s h
call-keeps old new lost q s h = rw s (gone old.copies h)

calls-keep : (old : Outbox) (cs : List Call) (new : Outbox) → AllByRecursion OffersSpelled cs → low.Run old cs new → AreSpelled old.copies → AreSpelled new.copies
calls-keep old [] new q r h = rw r h
calls-keep old (c ∷ cs) new q r h = calls-keep r.0 cs new q.1 r.2 (call-keeps old r.0 c q.0 r.1 h)

offers-all : (ds : List Delivery) (cs : List Call) → AllByRecursion delivery.Fits ds → all_offers cs ≡ ds → AllByRecursion OffersSpelled cs
offers-all ds [] h e = tt
offers-all [] (offered c a ∷ cs) h e = absurd (cc e)
offers-all (d ∷ ds) (offered c a ∷ cs) h e = (let same : c ≡ d = cc in rw same h.0, offers-all ds cs h.1 (let rest : all_offers cs ≡ ds = cc in rest))
offers-all ds (acknowledged id a ∷ cs) h e = (tt, offers-all ds cs h e)
offers-all ds (completed id a ∷ cs) h e = (tt, offers-all ds cs h e)
offers-all ds (received id reason a ∷ cs) h e = (tt, offers-all ds cs h e)
offers-all ds (resumed maximum ∷ cs) h e = (tt, offers-all ds cs h e)
offers-all ds (listed ids ∷ cs) h e = (tt, offers-all ds cs h e)
offers-all ds (asked now limit a ∷ cs) h e = (tt, offers-all ds cs h e)
offers-all ds (lost ∷ cs) h e = (tt, offers-all ds cs h e)

queued-one : (b : Bool) (d : Delivery) → delivery.Fits d → AllByRecursion delivery.Fits (cond b [] (d ∷ []))
queued-one true d f = tt
queued-one false d f = (f, tt)

queued-fit : (e : Event) → IsSoundEvent e → AllByRecursion delivery.Fits (queued_by e)
queued-fit (connects c continued room now) s = tt
queued-fit (queues d now) s = queued-one (is_once d.qos) d s
queued-fit (rooms bytes now) s = tt
queued-fit (takes p now room) s = tt
queued-fit (answers id codes) s = tt
queued-fit (closes now) s = tt
queued-fit (ticks now) s = tt
queued-fit (finishes now) s = tt
queued-fit loses s = tt

-- ---- a state that has rows
record HasRows (s : State) : Type 0 where
  sound : AreSound s.outbox
  spelled : AreSpelled s.outbox.copies
  reached : AreReached s.outbox.copies
  rest : Rest s.kept s.incoming

rows-after : (e : Event) (old : State) (r : Reaction) (new : State) → IsSoundEvent e → Reacts old e r new → HasRows old → HasRows new
rows-after e old r new q h s =
    let p = calls-of e old r new s.sound.numbered h in
    record {
      sound = sound-after e old r new h s.sound;
      spelled = calls-keep old.outbox p.calls new.outbox (offers-all (queued_by e) p.calls (queued-fit e q) p.shows.offers) p.runs s.spelled;
      reached = calls-reach old.outbox p.calls new.outbox p.runs s.reached;
      rest = rest-after e old r new q h s.rest;
    }

-- a copy's row
stage-form : (s : Stage) (place first bound : ℕ) (later es : Entries) (d : Delivery) → bound ≤ 2 ^ 62 → IsNumbered s es → Faces s place first bound later → delivery.Fits d → copy.Fits (s, d)
unfolding copy
stage-form Waiting place first bound later es d most n f h = ((omega arith, (omega arith, omega arith)), h)
stage-form (Published id) place first bound later es d most n f h = ((let le = n.1 in omega (arith, le), (omega arith, omega arith)), h)
stage-form (Released id order) place first bound later es d most n f h = ((let le = n.1 in omega (arith, le), (omega arith, let lt = f.2 in omega (arith, lt, most))), h)

copies-form : (low first next bound : ℕ) (es : Entries) → next ≤ 2 ^ 62 → bound ≤ 2 ^ 62 → AreNumbered es → IsSound low first next bound es → AreSpelled es
    → AllByRecursion (λ e. (e.0 < 2 ^ 64) × (e.1.here ≡ false) × copy.Fits (copy_of e.1)) (away es)
copies-form low first next bound [] end most n h f = tt
copies-form low first next bound (e ∷ es) end most n h f = (
  (let lt = next-past e.0 (past e.1.stage first) next bound es h.3 in omega (arith, lt, end), refl, stage-form e.1.stage e.0 first bound es es e.1.delivery most n.0 h.2 f.0),
  copies-form e.0 (past e.1.stage first) next bound es end most n.1 h.3 f.1,
)

durable-is : (s : State) → HasRows s → IsDurable (durable_of s)
durable-is s h =
    let t = h.sound.stands in
    let end = t.end in
    record {
      form = record { client = h.rest.client; main = main-fits s h.rest (omega (arith, end)); copies = copies-form 0 t.first s.outbox.next_place s.outbox.next_order s.outbox.copies t.end t.most h.sound.numbered t.sound h.spelled };
      sound = main-sound s h.rest;
      rise = h.rest.rises;
      agree = agrees 0 t.first s.outbox.next_place s.outbox.next_order s.outbox.copies t.end t.most h.sound.numbered t.sound;
      reachable = (let r = reached-away s.outbox.copies h.reached in record { identifiers = h.rest.counted; released = r.released; waiting = r.waiting });
    }

-- ---- over a history
record Lasts (p : Point) : Type 0 where
  rows : HasRows p.session.tracked.state
  last : IfSome p.last IsDurable

lasts-move : (old : Point) (m : Move) (new : Point) → IsSoundMove m → Moves old m new → Lasts old → Lasts new
lasts-move old (calls e r) new q c h = record {
  rows = rows-after e old.session.tracked.state r new.session.tracked.state q c.reacts h.rows;
  last = subst (λ (l : Option Durable). IfSome l IsDurable) (sym c.last) h.last;
}
lasts-move old (tells changes) new q t h = record {
  rows = subst (λ (x : Tracked). HasRows x.state) (sym t.tells.state) h.rows;
  last = subst (λ (l : Option Durable). IfSome l IsDurable) (sym t.last) (durable-is old.session.tracked.state h.rows);
}

lasts-history : (old : Point) (ms : List Move) (new : Point) → AllByRecursion IsSoundMove ms → History old ms new → Lasts old → Lasts new
lasts-history old [] new q h l = subst Lasts (sym h) l
lasts-history old (m ∷ ms) new q h l = lasts-history h.0 ms new q.1 h.2 (lasts-move old m h.0 q.0 h.1 l)

form-spelled : (es : Entries) → AllByRecursion (λ e. (e.0 < 2 ^ 64) × (e.1.here ≡ false) × copy.Fits (copy_of e.1)) es → AreSpelled es
unfolding copy
form-spelled [] h = tt
form-spelled (e ∷ es) h = (h.0.2.1, form-spelled es h.1)

lasts-start : (p : Point) → BeginsSound p → Lasts p
lasts-start p (inl b) = subst Lasts (sym b.2) (record { rows = record { sound = sound-begun b.0; spelled = tt; reached = record { released = tt; waiting = omega arith }; rest = rest-begun b.0 b.1 }; last = tt })
lasts-start p (inr b) =
    let reached : AreReached b.0.copies = record { released = b.1.reachable.released; waiting = b.1.reachable.waiting } in
    subst Lasts (sym b.2) (record { rows = record { sound = sound-opened b.0 b.1; spelled = form-spelled b.0.copies b.1.form.copies; reached = reached; rest = rest-opened b.0 b.1 }; last = b.1 })

pub stays-durable : StaysDurable
stays-durable start moves end b q h =
    let l = lasts-history start moves end q h (lasts-start start b) in
    record { now = durable-is end.session.tracked.state l.rows; last = l.last }

-- ---- what is opened from its rows
same-rows : (d x : Durable) → IsDurable d → IsDurable x → rows_of x ≡ rows_of d → x ≡ d
same-rows d x a b e =
    let both : Some x ≡ Some d = sym (durable_again x b.form) ∙ ap durable_in e ∙ durable_again d a.form in cc

pub opens : DurableOpens
opens d rows (Ok s) a e o = o.3 ∙ ap (λ (x : Durable). Some (reopened x)) (same-rows d o.0 a o.1 (o.2 ∙ e))
opens d rows (Err NoMemory) a e o = refl
opens d rows (Err BadRow) a e o = absurd (o d a (sym e))
opens d rows (Err NumbersAtEnd) a e o = absurd o
opens d rows (Err Spent) a e o = absurd o
