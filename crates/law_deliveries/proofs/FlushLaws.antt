-- A queue always goes on to some end.
use Rattle.std.proofs.Common.{◌≡◌, ℕ, zero, suc, ◌+◌, ◌<◌, ◌≤◌, ◌⊎◌, Bool, true, false, cond, List, [], ◌∷◌, Option, Some, None, IsSome, refl, sym, inl, inr, arith}
use Rattle.std.specs.Prelude.{is_some}
use Rattle.std.proofs.lemmas.Bool.{cases_Bool, cases_eq, cases_lt, false≢true}
use Rattle.mqtt_message.specs.declared.delivery.Delivery.{Delivery}
use Rattle.qos_handshakes.specs.declared.copies.Entry.{Entry}
use Rattle.qos_handshakes.specs.Entries.{Entries, IsLeastFree, NoneFree, find_id}
use Rattle.qos_handshakes.specs.Outbox.{Outbox, Sent, NextStep, after_resend, after_send, first_owed, first_waiting, fits, in_flight, is_owed, is_published, is_sendable, waits}
use Rattle.mqtt_sessions.specs.Sending.{Flushes, StopsIf}
use Rattle.mqtt_sessions.specs.State.{has_room, room_less}

-- how many PUBLISHes may still be sent
left : Entries → ℕ
left [] = 0
left (e ∷ es) = cond (is_owed e.1) 1 0 + (cond (waits e.1.stage) 1 0 + left es)

now-here : (x : Entry) → is_owed (record x { here = true }) ≡ false
now-here x = elim (cases_Bool (is_published x.stage)) [ inl t ↦ rw t refl | inr f ↦ rw f refl ]

left-resent : (now limit : ℕ) (s : Sent) (es : Entries) → first_owed now limit es ≡ Some s → left (after_resend now limit es) < left es
unfolding left
left-resent now limit s [] is = (cc is)
left-resent now limit s (e ∷ es) is = elim (cases_Bool (is_owed e.1)) [
  | inl t ↦ elim (cases_Bool (fits now limit e.1.delivery)) [
    | inl g ↦ rw (t, g, now-here e.1) (omega arith)
    | inr g ↦ rw (t, g) (let k = left-resent now limit s es (rw (t, g) at is) in omega (arith, k))
  ]
  | inr f ↦ rw (f, f) (let k = left-resent now limit s es (rw f at is) in omega (arith, k))
]

left-unowed : (now limit : ℕ) (es : Entries) → left (after_resend now limit es) ≤ left es
unfolding left
left-unowed now limit [] = omega arith
left-unowed now limit (e ∷ es) = elim (cases_Bool (is_owed e.1)) [
  | inl t ↦ elim (cases_Bool (fits now limit e.1.delivery)) [
    | inl g ↦ rw (t, g, now-here e.1) (omega arith)
    | inr g ↦ rw (t, g) (let k = left-unowed now limit es in omega (arith, k))
  ]
  | inr f ↦ rw (f, f) (let k = left-unowed now limit es in omega (arith, k))
]

left-sent : (now limit id : ℕ) (c : Delivery) (es : Entries) → first_waiting now limit es ≡ Some c → left (after_send now limit id es) < left es
unfolding left
left-sent now limit id c [] is = (cc is)
left-sent now limit id c (e ∷ es) is = elim (cases_Bool (waits e.1.stage)) [
  | inl t ↦ elim (cases_Bool (is_sendable now limit e.1.delivery)) [
    | inl g ↦ rw (t, g) (omega arith)
    | inr g ↦ rw (t, g) (let k = left-sent now limit id c es (rw (t, g) at is) in omega (arith, k))
  ]
  | inr f ↦ rw (f, f) (let k = left-sent now limit id c es (rw f at is) in omega (arith, k))
]

-- ---- the least free identifier
none-of : {A : Type 0} (o : Option A) → is_some o ≡ false → o ≡ None
none-of None h = refl
none-of (Some x) h = (cc h)

least : (es : Entries) (n k : ℕ) → n + k ≡ 65536 → 1 ≤ k → ((j : ℕ) → 1 ≤ j → j < k → IsSome (find_id j es)) → ((id : ℕ) × IsLeastFree es id) ⊎ NoneFree es
least es zero k e one below = inr (λ j low high. below j low (omega (arith, e, high)))
least es (suc n) k e one below = elim (cases_Bool (is_some (find_id k es))) [
  | inl t ↦ least es n (suc k) (omega (arith, e)) (omega (arith, one)) (λ j low less. elim (cases_eq j k) [ inl same ↦ rw same t | inr ne ↦ below j low (omega (arith, less, ne)) ])
  | inr f ↦ inl (k, record { first = one; last = omega (arith, e); free = none-of (find_id k es) f; least = below })
]

-- ---- the next PUBLISH
record Gives (now limit : ℕ) (old : Outbox) : Type 0 where
  pub sent : Sent
  pub new : Outbox
  pub step : NextStep now limit old (Some sent) new
  pub less : left new.copies < left old.copies

record Stops (now limit : ℕ) (old : Outbox) : Type 0 where
  pub new : Outbox
  pub step : NextStep now limit old None new

module _ (now limit : ℕ) (old : Outbox) (room : in_flight old.copies < old.maximum) where
  by-waiting : (o : Option Delivery) (id : ℕ) → first_owed now limit old.copies ≡ None → IsLeastFree (after_resend now limit old.copies) id → first_waiting now limit (after_resend now limit old.copies) ≡ o → Gives now limit old ⊎ Stops now limit old
  by-waiting (Some c) id none free e = inl (record {
    sent = record { id = id; dup = false; copy = c };
    new = record old { copies = after_send now limit id (after_resend now limit old.copies) };
    step = inr (record { quota = room; none_owed = none; first = refl; number = free; sent = e; left = refl });
    less = (let a = left-unowed now limit old.copies in let b = left-sent now limit id c (after_resend now limit old.copies) e in omega (arith, a, b));
  })
  by-waiting None id none free e = inr (record {
    new = record old { copies = after_send now limit 0 (after_resend now limit old.copies) };
    step = record { step = inr (inr (room, none, e, refl, λ all. absurd (let some = all id free.first free.last in (let bad : false ≡ true = rw free.free at some in false≢true bad)))) };
  })

  by-least : (((id : ℕ) × IsLeastFree (after_resend now limit old.copies) id) ⊎ NoneFree (after_resend now limit old.copies)) → first_owed now limit old.copies ≡ None → Gives now limit old ⊎ Stops now limit old
  by-least (inl free) none = by-waiting (first_waiting now limit (after_resend now limit old.copies)) free.0 none free.1 refl
  by-least (inr all) none = inr (record { new = record old { copies = after_resend now limit old.copies }; step = record { step = inr (inl (room, none, all, refl)) } })

  by-owed : (o : Option Sent) → first_owed now limit old.copies ≡ o → Gives now limit old ⊎ Stops now limit old
  by-owed (Some s) e = inl (record {
    sent = s;
    new = record old { copies = after_resend now limit old.copies };
    step = inl (record { quota = room; sent = e; left = refl });
    less = left-resent now limit s old.copies e;
  })
  by-owed None e = by-least (least (after_resend now limit old.copies) 65535 1 refl (omega arith) (λ j low less. absurd (omega (arith, low, less)))) e

next : (now limit : ℕ) (old : Outbox) → Gives now limit old ⊎ Stops now limit old
next now limit old = elim (cases_lt (in_flight old.copies) old.maximum) [
  | inl room ↦ by-owed now limit old room (first_owed now limit old.copies) refl
  | inr full ↦ inr (record { new = old; step = record { step = inl (full, refl) } })
]

-- ---- all of them
pub record HasFlush (now limit : ℕ) (room : Option ℕ) (old : Outbox) : Type 0 where
  pub sents : List Sent
  pub new : Outbox
  pub flushes : Flushes now limit room old sents new

stop-if : (b : Bool) (now limit : ℕ) (old new : Outbox) → b ≡ true → NextStep now limit old None new → StopsIf b now limit old new
stop-if true now limit old new is step = step
stop-if false now limit old new is step = absurd (false≢true is)

keep-if : (b : Bool) (now limit : ℕ) (old : Outbox) → b ≡ false → StopsIf b now limit old old
keep-if true now limit old is = absurd (false≢true (sym is))
keep-if false now limit old is = refl

ends-now : (now limit : ℕ) (room : Option ℕ) (old : Outbox) → has_room room ≡ true → Stops now limit old → HasFlush now limit room old
ends-now now limit room old more k = record { sents = []; new = k.new; flushes = record { last = old; sends = refl; stops = stop-if (has_room room) now limit old k.new more k.step } }

goes-on : (now limit : ℕ) (room : Option ℕ) (old : Outbox) → has_room room ≡ true → (k : Gives now limit old) → HasFlush now limit (room_less now room k.sent.copy) k.new → HasFlush now limit room old
goes-on now limit room old more k f = record { sents = k.sent ∷ f.sents; new = f.new; flushes = record { last = f.flushes.last; sends = (more, k.new, k.step, f.flushes.sends); stops = f.flushes.stops } }

-- no room is left
waits-now : (now limit : ℕ) (room : Option ℕ) (old : Outbox) → has_room room ≡ false → HasFlush now limit room old
waits-now now limit room old none = record { sents = []; new = old; flushes = record { last = old; sends = refl; stops = keep-if (has_room room) now limit old none } }

flush-in : (fuel now limit : ℕ) (room : Option ℕ) (old : Outbox) → left old.copies ≤ fuel → HasFlush now limit room old
flush-in zero now limit room old le = elim (cases_Bool (has_room room)) [
  | inl more ↦ elim (next now limit old) [
    | inl k ↦ absurd (let less = k.less in omega (arith, le, less))
    | inr k ↦ ends-now now limit room old more k
  ]
  | inr none ↦ waits-now now limit room old none
]
flush-in (suc n) now limit room old le = elim (cases_Bool (has_room room)) [
  | inl more ↦ elim (next now limit old) [
    | inl k ↦ goes-on now limit room old more k (flush-in n now limit (room_less now room k.sent.copy) k.new (let less = k.less in omega (arith, le, less)))
    | inr k ↦ ends-now now limit room old more k
  ]
  | inr none ↦ waits-now now limit room old none
]

pub flush : (now limit : ℕ) (room : Option ℕ) (old : Outbox) → HasFlush now limit room old
flush now limit room old = flush-in (left old.copies) now limit room old (omega arith)
