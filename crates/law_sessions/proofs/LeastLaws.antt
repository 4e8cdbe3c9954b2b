-- What is sent first has the least identifier that is free.
use Rattle.std.proofs.Common.{◌≡◌, ℕ, ◌<◌, ◌≤◌, Bool, true, false, List, [], ◌∷◌, Option, Some, None, IsSome, refl, ap, inl, inr}
use Rattle.std.specs.List.{AllByRecursion}
use Rattle.std.proofs.lemmas.Bool.{cases_Bool, both_ways}
use Rattle.qos_handshakes.specs.Entries.{Entries, find_id}
use Rattle.qos_handshakes.specs.Outbox.{Outbox, Sent, NextStep, waits, is_sendable, first_owed, after_resend, after_send}
use Rattle.qos_handshakes.proofs.EntryLaws.{NoneOwed}
use Rattle.law_handshakes.proofs.LaidLaws.{none-owed}
use Rattle.law_handshakes.proofs.NumberLaws.{some-sent, least-next}
use Rattle.law_handshakes.proofs.OrderLaws.{resent-dup}
use Rattle.mqtt_sessions.specs.Sending.{SendsAll, StopsIf, Flushes}
use Rattle.mqtt_sessions.specs.State.{has_room, room_after, room_less}

-- under a first send every lesser identifier is unfinished
abbrev pub IsLeast : Entries → Sent → Type 0
IsLeast es x = x.dup ≡ false → (k : ℕ) → 1 ≤ k → k < x.id → IsSome (find_id k es)

-- ---- once no resend is owed, nothing ends while the queue goes on
same-resent : (now limit : ℕ) (es : Entries) → NoneOwed es → after_resend now limit es ≡ es
same-resent now limit [] h = refl
same-resent now limit (e ∷ es) h = rw h.0 (ap (λ (t : Entries). e ∷ t) (same-resent now limit es h.1))

owed-sent : (now limit id : ℕ) (es : Entries) → NoneOwed es → NoneOwed (after_send now limit id es)
owed-sent now limit id [] h = tt
owed-sent now limit id (e ∷ es) h = elim (cases_Bool (waits e.1.stage)) [
  | inl t ↦ elim (cases_Bool (is_sendable now limit e.1.delivery)) [ inl g ↦ rw (t, g) (refl, h.1) | inr g ↦ rw (t, g) (owed-sent now limit id es h.1) ]
  | inr t ↦ rw t (h.0, owed-sent now limit id es h.1)
]

none-first : (now limit : ℕ) (s : Sent) (es : Entries) → NoneOwed es → first_owed now limit es ≡ Some s → ⊥
none-first now limit s [] h is = (cc is)
none-first now limit s (e ∷ es) h is = none-first now limit s es h.1 (rw h.0 at is)

abbrev Stays : ℕ → Outbox → Type 0
Stays k o = NoneOwed o.copies × IsSome (find_id k o.copies)

stays-sent : (k now limit id : ℕ) (es : Entries) → NoneOwed es → IsSome (find_id k es) → NoneOwed (after_send now limit id (after_resend now limit es)) × IsSome (find_id k (after_send now limit id (after_resend now limit es)))
stays-sent k now limit id es h some = rw (same-resent now limit es h) (owed-sent now limit id es h, some-sent k now limit id es some)

stays-next : (k now limit : ℕ) (a : Option Sent) (old new : Outbox) → NextStep now limit old a new → Stays k old → Stays k new
stays-next k now limit None old new n h = elim n.step [
  | inl t ↦ rw t.1 h
  | inr t ↦ elim t [
    | inl u ↦ rw (u.3, same-resent now limit old.copies h.0) h
    | inr u ↦ rw u.3 (stays-sent k now limit 0 old.copies h.0 h.1)
  ]
]
stays-next k now limit (Some s) old new (inl n) h = absurd (none-first now limit s old.copies h.0 n.sent)
stays-next k now limit (Some s) old new (inr n) h = rw n.left (stays-sent k now limit s.id old.copies h.0 h.1)

stays-all : (k now limit : ℕ) (room : Option ℕ) (old last : Outbox) (sents : List Sent) → SendsAll now limit room old sents last → Stays k old → Stays k last
stays-all k now limit room old last [] all h = rw all h
stays-all k now limit room old last (s ∷ ss) all h = stays-all k now limit (room_less now room s.copy) all.1 last ss all.3 (stays-next k now limit (Some s) old all.1 all.2 h)

stays-stop : (k now limit : ℕ) (more : Bool) (last new : Outbox) → StopsIf more now limit last new → Stays k last → Stays k new
stays-stop k now limit true last new stops h = stays-next k now limit None last new stops h
stays-stop k now limit false last new stops h = rw stops h

-- after a first send none is owed
owed-first : (now limit : ℕ) (s : Sent) (old new : Outbox) → NextStep now limit old (Some s) new → s.dup ≡ false → NoneOwed new.copies
owed-first now limit s old new (inl n) first = absurd (both_ways s.dup first (resent-dup now limit s old.copies n.sent))
owed-first now limit s old new (inr n) first = rw n.left (owed-sent now limit s.id (after_resend now limit old.copies) (none-owed now limit old.copies n.none_owed))

least-sends : (now limit : ℕ) (room : Option ℕ) (more : Bool) (old last new : Outbox) (sents : List Sent) → SendsAll now limit room old sents last → StopsIf more now limit last new → AllByRecursion (IsLeast new.copies) sents
least-sends now limit room more old last new [] all stops = tt
least-sends now limit room more old last new (s ∷ ss) all stops = (
  λ first k low less.
      let there : Stays k all.1 = (owed-first now limit s old all.1 all.2 first, least-next now limit k old all.1 s all.2 first low less) in
      (stays-stop k now limit more last new stops (stays-all k now limit (room_less now room s.copy) all.1 last ss all.3 there)).1,
  least-sends now limit (room_less now room s.copy) more all.1 last new ss all.3 stops,
)

pub least-flushed : (now limit : ℕ) (room : Option ℕ) (old new : Outbox) (sents : List Sent) → Flushes now limit room old sents new → AllByRecursion (IsLeast new.copies) sents
least-flushed now limit room old new sents f = least-sends now limit room (has_room (room_after now room sents)) old f.last new sents f.sends f.stops
