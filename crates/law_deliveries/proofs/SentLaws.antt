-- What an event sends first is unfinished after it, unless it is too long.
use Rattle.std.proofs.Common.{◌≡◌, ◌⊎◌, inl, inr, ℕ, Bool, true, false, cond, List, [], ◌∷◌, ◌++◌, Some, None, refl, sym, ap, ◌∙◌, subst, append_assoc}
use Rattle.law_handshakes.specs.Lists.{Without}
use Rattle.law_handshakes.specs.Resends.{SentCopy, Answers, AnsweredIn, all_first_sends, first_sends_of, published}
use Rattle.law_handshakes.specs.Runs as low
use Rattle.law_handshakes.specs.Runs.{offered, acknowledged, completed, received, resumed, listed, asked, lost}
use Rattle.law_handshakes.proofs.LaidLaws.{AreLaid, laid-step}
use Rattle.law_handshakes.proofs.ResendLaws.{published-step}
use Rattle.mqtt_message.specs.declared.delivery.Delivery.{Delivery}
use Rattle.mqtt_packets.specs.declared.packet.Packet.{Packet}
use Rattle.mqtt_packets.specs.declared.packet.Packet.TheVariants as packets
use Rattle.qos_handshakes.specs.Entries.{Entries}
use Rattle.qos_handshakes.specs.Outbox.{Outbox, Sent}
use Rattle.law_sessions.specs.Order.{copies_of, first_of, firsts}
use Rattle.law_sessions.specs.Runs.{Event, connects, takes, loses}
use Rattle.law_sessions.specs.Sends.{Mark, begins, crashes, acks, recs, comps, sends, marks_by, marks_in, sends_of}
use Rattle.law_sessions.proofs.CallLaws.{Call, call_marks}
use Rattle.law_deliveries.specs.Copies.{IsOneOf}

-- ---- lists
pub in_both : {A : Type 0} (x : A) (xs ys : List A) → IsOneOf x (xs ++ ys) → IsOneOf x xs ⊎ IsOneOf x ys
in_both x [] ys i = inr i
in_both x (y ∷ xs) ys (inl e) = inl (inl e)
in_both x (y ∷ xs) ys (inr i) = elim (in_both x xs ys i) [ inl a ↦ inl (inr a) | inr b ↦ inr b ]

pub in_left : {A : Type 0} (x : A) (xs ys : List A) → IsOneOf x xs → IsOneOf x (xs ++ ys)
in_left x [] ys i = absurd i
in_left x (y ∷ xs) ys (inl e) = inl e
in_left x (y ∷ xs) ys (inr i) = inr (in_left x xs ys i)

pub in_right : {A : Type 0} (x : A) (xs ys : List A) → IsOneOf x ys → IsOneOf x (xs ++ ys)
in_right x [] ys i = i
in_right x (y ∷ xs) ys i = inr (in_right x xs ys i)

-- what is left out of a list, and the rest
pub in_without : {A : Type 0} (P : A → Type 0) (x : A) (xs ys : List A) → Without P xs ys → IsOneOf x xs → P x ⊎ IsOneOf x ys
in_without P x [] ys w i = absurd i
in_without P x (z ∷ xs) ys (inl w) (inl e) = inl (subst P e w.0)
in_without P x (z ∷ xs) ys (inl w) (inr i) = in_without P x xs ys w.1 i
in_without P x (z ∷ xs) ys (inr w) (inl e) = inr (subst (IsOneOf x) (sym w.1) (inl e))
in_without P x (z ∷ xs) ys (inr w) (inr i) = elim (in_without P x xs w.0 w.2 i) [ inl a ↦ inl a | inr b ↦ inr (subst (IsOneOf x) (sym w.1) (inr b)) ]

-- a copy that was sent has its identifier
pub in_copies : (x : Delivery) (ps : List SentCopy) → IsOneOf x (copies_of ps) → (id : ℕ) × IsOneOf (id, x) ps
in_copies x [] i = absurd i
in_copies x (p ∷ ps) (inl e) = (p.0, inl (λ j. (p.0, e j)))
in_copies x (p ∷ ps) (inr i) = let r = in_copies x ps i in (r.0, inr r.1)

-- ---- what was sent first and not answered, call by call of the exchanges
pub still_published : (x : SentCopy) (start : Outbox) (calls : List Call) (end : Outbox) → low.Run start calls end → AreLaid start.copies → IsOneOf x (published start.copies) → AnsweredIn calls x ⊎ IsOneOf x (published end.copies)
still_published x start [] end r laid i = inr (subst (λ (o : Outbox). IsOneOf x (published o.copies)) (sym r) i)
still_published x start (c ∷ cs) end r laid i =
    elim (in_without (Answers c) x (published start.copies ++ first_sends_of c) (published r.0.copies) (published-step start r.0 c r.1 laid) (in_left x (published start.copies) (first_sends_of c) i)) [
      | inl a ↦ inl (inl a)
      | inr j ↦ elim (still_published x r.0 cs end r.2 (laid-step start r.0 c r.1 laid) j) [ inl a ↦ inl (inr a) | inr b ↦ inr b ]
    ]

-- what is sent, and what is not a PUBLISH before it
abbrev pub OnlySends : List Mark → Type 0
OnlySends [] = Unit {0}
OnlySends (sends s ∷ ms) = OnlySends ms
OnlySends (m ∷ ms) = ⊥

abbrev pub SendsLast : List Mark → Type 0
SendsLast [] = Unit {0}
SendsLast (sends s ∷ ms) = OnlySends ms
SendsLast (m ∷ ms) = SendsLast ms

only_last : (ms : List Mark) → OnlySends ms → SendsLast ms
only_last [] o = tt
only_last (sends s ∷ ms) o = o
only_last (m ∷ ms) o = absurd o

pub sends_only : (ss : List Sent) → OnlySends (sends_of ss)
sends_only [] = tt
sends_only (s ∷ ss) = sends_only ss

one_mark : (p : Packet) (ms : List Mark) → OnlySends ms → SendsLast (marks_in p ++ ms)
one_mark (packets.Puback a) ms o = only_last ms o
one_mark (packets.Pubrec a) ms o = only_last ms o
one_mark (packets.Pubcomp a) ms o = only_last ms o
one_mark p ms o = only_last ms o

pub last_by : (on : Bool) (e : Event) (ms : List Mark) → OnlySends ms → SendsLast (marks_by on e ++ ms)
last_by on (connects c continued room now) ms o = only_last ms o
last_by true (takes p now room) ms o = one_mark p ms o
last_by false (takes p now room) ms o = only_last ms o
last_by on loses ms o = only_last ms o
last_by on e ms o = only_last ms o

-- where no answer is heard, a PUBLISH is sent no more because it is too long, whatever its identifier
long_of : (x : SentCopy) (cs : List Call) → OnlySends (call_marks cs) → AnsweredIn cs x → (other : ℕ) → AnsweredIn cs (other, x.1)
long_of x [] o a other = a
long_of x (offered c b ∷ cs) o (inl e) other = absurd e
long_of x (offered c b ∷ cs) o (inr a) other = inr (long_of x cs o a other)
long_of x (acknowledged id b ∷ cs) o a other = absurd o
long_of x (completed id b ∷ cs) o a other = absurd o
long_of x (received id reason b ∷ cs) o a other = absurd o
long_of x (resumed maximum ∷ cs) o a other = absurd o
long_of x (listed ids ∷ cs) o (inl e) other = absurd e
long_of x (listed ids ∷ cs) o (inr a) other = inr (long_of x cs o a other)
long_of x (asked now limit None ∷ cs) o (inl e) other = inl e
long_of x (asked now limit None ∷ cs) o (inr a) other = inr (long_of x cs o a other)
long_of x (asked now limit (Some s) ∷ cs) o (inl e) other = inl e
long_of x (asked now limit (Some s) ∷ cs) o (inr a) other = inr (long_of x cs o a other)
long_of x (lost ∷ cs) o a other = absurd o

abbrev pub IsLongIn : SentCopy → List Call → Type 0
IsLongIn x cs = (other : ℕ) → AnsweredIn cs (other, x.1)

later_long : (x : SentCopy) (c : Call) (cs : List Call) (es : Entries) → IsLongIn x cs ⊎ IsOneOf x (published es) → IsLongIn x (c ∷ cs) ⊎ IsOneOf x (published es)
later_long x c cs es (inl l) = inl (λ other. inr (l other))
later_long x c cs es (inr i) = inr i

sent_here : (x : SentCopy) (start : Outbox) (now limit : ℕ) (s : Sent) (cs : List Call) (end : Outbox) (r : low.Run start (asked now limit (Some s) ∷ cs) end) → AreLaid start.copies → OnlySends (call_marks cs)
    → IsOneOf x (first_sends_of (asked now limit (Some s))) → IsLongIn x (asked now limit (Some s) ∷ cs) ⊎ IsOneOf x (published end.copies)
sent_here x start now limit s cs end r laid o i =
    let c = asked now limit (Some s) in
    elim (in_without (Answers c) x (published start.copies ++ first_sends_of c) (published r.0.copies) (published-step start r.0 c r.1 laid) (in_right x (published start.copies) (first_sends_of c) i)) [
      | inl a ↦ inl (λ other. inl a)
      | inr j ↦ elim (still_published x r.0 cs end r.2 (laid-step start r.0 c r.1 laid) j) [ inl a ↦ inl (λ other. inr (long_of x cs o a other)) | inr b ↦ inr b ]
    ]

pub sent_published : (x : SentCopy) (start : Outbox) (calls : List Call) (end : Outbox) → low.Run start calls end → AreLaid start.copies → SendsLast (call_marks calls) → IsOneOf x (all_first_sends calls) → IsLongIn x calls ⊎ IsOneOf x (published end.copies)
sent_published x start [] end r laid o i = absurd i
sent_published x start (offered c a ∷ cs) end r laid o i = later_long x (offered c a) cs end.copies (sent_published x r.0 cs end r.2 (laid-step start r.0 (offered c a) r.1 laid) o i)
sent_published x start (acknowledged id a ∷ cs) end r laid o i = later_long x (acknowledged id a) cs end.copies (sent_published x r.0 cs end r.2 (laid-step start r.0 (acknowledged id a) r.1 laid) o i)
sent_published x start (completed id a ∷ cs) end r laid o i = later_long x (completed id a) cs end.copies (sent_published x r.0 cs end r.2 (laid-step start r.0 (completed id a) r.1 laid) o i)
sent_published x start (received id reason a ∷ cs) end r laid o i = later_long x (received id reason a) cs end.copies (sent_published x r.0 cs end r.2 (laid-step start r.0 (received id reason a) r.1 laid) o i)
sent_published x start (resumed maximum ∷ cs) end r laid o i = later_long x (resumed maximum) cs end.copies (sent_published x r.0 cs end r.2 (laid-step start r.0 (resumed maximum) r.1 laid) o i)
sent_published x start (listed ids ∷ cs) end r laid o i = later_long x (listed ids) cs end.copies (sent_published x r.0 cs end r.2 (laid-step start r.0 (listed ids) r.1 laid) o i)
sent_published x start (asked now limit None ∷ cs) end r laid o i = later_long x (asked now limit None) cs end.copies (sent_published x r.0 cs end r.2 (laid-step start r.0 (asked now limit None) r.1 laid) o i)
sent_published x start (asked now limit (Some s) ∷ cs) end r laid o i =
    let c = asked now limit (Some s) in
    elim (in_both x (first_sends_of c) (all_first_sends cs) i) [
      | inl here ↦ sent_here x start now limit s cs end r laid o here
      | inr there ↦ later_long x c cs end.copies (sent_published x r.0 cs end r.2 (laid-step start r.0 c r.1 laid) (only_last (call_marks cs) o) there)
    ]
sent_published x start (lost ∷ cs) end r laid o i = later_long x lost cs end.copies (sent_published x r.0 cs end r.2 (laid-step start r.0 lost r.1 laid) o i)

-- the same as packets tell it
pub firsts_told : (cs : List Call) → all_first_sends cs ≡ firsts (call_marks cs)
firsts_told [] = refl
firsts_told (offered c a ∷ cs) = firsts_told cs
firsts_told (acknowledged id a ∷ cs) = firsts_told cs
firsts_told (completed id a ∷ cs) = firsts_told cs
firsts_told (received id reason a ∷ cs) = firsts_told cs
firsts_told (resumed maximum ∷ cs) = firsts_told cs
firsts_told (listed ids ∷ cs) = firsts_told cs
firsts_told (asked now limit None ∷ cs) = firsts_told cs
firsts_told (asked now limit (Some s) ∷ cs) = ap (λ (ps : List SentCopy). cond s.dup [] ((s.id, s.copy) ∷ []) ++ ps) (firsts_told cs)
firsts_told (lost ∷ cs) = firsts_told cs

pub firsts_then : (ms ns : List Mark) → firsts (ms ++ ns) ≡ firsts ms ++ firsts ns
firsts_then [] ns = refl
firsts_then (begins n ∷ ms) ns = firsts_then ms ns
firsts_then (crashes ∷ ms) ns = firsts_then ms ns
firsts_then (acks id ∷ ms) ns = firsts_then ms ns
firsts_then (recs id reason ∷ ms) ns = firsts_then ms ns
firsts_then (comps id ∷ ms) ns = firsts_then ms ns
firsts_then (sends s ∷ ms) ns = ap (λ (ps : List SentCopy). first_of (sends s) ++ ps) (firsts_then ms ns) ∙ sym (append_assoc (first_of (sends s)) (firsts ms) (firsts ns))
