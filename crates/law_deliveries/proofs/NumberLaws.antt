-- A first send takes the least identifier that is free at that moment.
use Rattle.std.proofs.Common.{◌≡◌, ℕ, Bool, true, false, List, [], ◌∷◌, ◌++◌, Option, Some, None, IsSome, refl, ◌∙◌, ap, inl, inr}
use Rattle.std.specs.List.{AllByRecursion}
use Rattle.std.proofs.lemmas.Bool.{both_ways, false≢true}
use Rattle.mqtt_message.specs.declared.delivery.Delivery.{Delivery}
use Rattle.qos_handshakes.specs.declared.copies.Entry.{Entry}
use Rattle.qos_handshakes.specs.declared.copies.Stage.{Stage}
use Rattle.qos_handshakes.specs.declared.copies.Stage.TheVariants.{Waiting, Published, Released}
use Rattle.qos_handshakes.specs.Entries.{Entries, stage_has}
use Rattle.qos_handshakes.specs.Outbox.{Outbox, Sent, Sends, after_resend, empty_outbox}
use Rattle.law_handshakes.specs.Numbers.{AreNumbered}
use Rattle.law_handshakes.specs.Runs as low
use Rattle.law_handshakes.specs.Runs.{offered, acknowledged, completed, received, resumed, listed, asked, lost, Takes}
use Rattle.law_handshakes.proofs.NumberLaws.{numbered-step}
use Rattle.law_handshakes.proofs.OrderLaws.{resent-dup}
use Rattle.law_handshakes.proofs.ResendLaws.{found-has}
use Rattle.law_sessions.specs.Exchanges.{Exchange, none, published, released, exchange_over}
use Rattle.law_sessions.specs.Quota.{is_none}
use Rattle.law_sessions.specs.Sends.{Mark}
use Rattle.law_sessions.proofs.CallLaws.{Call, HasNumbers, call_marks}
use Rattle.law_sessions.proofs.ExchangeLaws.{IsTold, exchange_at, told-step}
use Rattle.law_sessions.proofs.LiftLaws.{marks-then, whole}
use Rattle.law_deliveries.specs.Again.{all_sent_over}
use Rattle.law_deliveries.specs.Identifiers.{TakesLeast, AllLeast, KeepsLeastEach}
use Rattle.law_deliveries.proofs.HereLaws.{Stays, here-none, here-resent, some-before, stays-step}

pub there : (id : ℕ) (s : Stage) (d : Delivery) → stage_has id s ≡ true → is_none (exchange_at s d) ≡ false
there id Waiting d h = absurd (false≢true h)
there id (Published i) d h = refl
there id (Released i order) d h = refl

pub some-of : (o : Option Entry) → IsSome o → (x : Entry) × (o ≡ Some x)
some-of None h = absurd (false≢true h)
some-of (Some x) h = (x, refl)

is-none : (x : Exchange) → (is_none x ≡ false → ⊥) → x ≡ none
is-none none f = refl
is-none (published d) f = absurd (f refl)
is-none released f = absurd (f refl)

-- what is told of all identifiers
pub record AllTold (x : ℕ → Exchange) (sent : ℕ → Bool) (es : Entries) : Type 0 where
  pub told : (id : ℕ) → IsTold id (x id) es
  pub stays : (id : ℕ) → Stays id (sent id) (x id) es

takes-least : (now limit : ℕ) (x : ℕ → Exchange) (sent : ℕ → Bool) (s : Sent) (old new : Outbox) → Sends now limit old s new → AllTold x sent old.copies → TakesLeast x sent s
takes-least now limit x sent s old new n h = record {
  first = n.number.first;
  last = n.number.last;
  free = λ t. is-none (x s.id) (λ g. here-none s.id (after_resend now limit old.copies) (here-resent s.id now limit old.copies (h.stays s.id t g)) n.number.free);
  least = λ k low less.
      let e = some-before k now limit old.copies (n.number.least k low less) in
      ap is_none (h.told k e.0 e.1) ∙ there k e.0.stage e.0.delivery (found-has k e.0 old.copies e.1);
}

-- a call shows one mark at most
abbrev pub x_over : (ℕ → Exchange) → List Mark → ℕ → Exchange
x_over x ms = λ id. exchange_over id (x id) ms

least-call : (x : ℕ → Exchange) (sent : ℕ → Bool) (old new : Outbox) (c : Call) (rest : List Mark) → Takes old c new → AllTold x sent old.copies → AllLeast (x_over x (call_marks (c ∷ []))) (all_sent_over sent (call_marks (c ∷ []))) rest → AllLeast x sent (call_marks (c ∷ []) ++ rest)
least-call x sent old new (offered d a) rest s h k = k
least-call x sent old new (acknowledged i a) rest s h k = (tt, k)
least-call x sent old new (completed i a) rest s h k = (tt, k)
least-call x sent old new (received i reason a) rest s h k = (tt, k)
least-call x sent old new (resumed maximum) rest s h k = (tt, k)
least-call x sent old new (listed ids) rest s h k = k
least-call x sent old new (asked now limit None) rest s h k = k
least-call x sent old new (asked now limit (Some y)) rest (inl s) h k = (λ first. absurd (both_ways y.dup first (resent-dup now limit y old.copies s.sent)), k)
least-call x sent old new (asked now limit (Some y)) rest (inr s) h k = (λ first. takes-least now limit x sent y old new s h, k)
least-call x sent old new lost rest s h k = (tt, k)

least-run : (x : ℕ → Exchange) (sent : ℕ → Bool) (start : Outbox) (calls : List Call) (end : Outbox) → low.Run start calls end → AllByRecursion HasNumbers calls → AreNumbered start.copies → AllTold x sent start.copies → AllLeast x sent (call_marks calls)
least-run x sent start [] end r numbers n h = tt
least-run x sent start (c ∷ cs) end r numbers n h =
    let ms = call_marks (c ∷ []) in
    let next : AllTold (x_over x ms) (all_sent_over sent ms) r.0.copies = record { told = λ id. told-step id (x id) start r.0 c r.1 numbers.0 n (h.told id); stays = λ id. stays-step id (sent id) (x id) start r.0 c r.1 n (h.told id) (h.stays id) } in
    let rest = least-run (x_over x ms) (all_sent_over sent ms) r.0 cs end r.2 numbers.1 (numbered-step start r.0 c r.1 n) next in
    rw (marks-then (c ∷ []) cs) (least-call x sent start r.0 c (call_marks cs) r.1 h rest)

pub keeps_least_each : KeepsLeastEach
keeps_least_each = λ client steps end r.
    let p = whole client steps end r in
    rw (← p.shows.marks) (least-run (λ id. none) (λ id. false) empty_outbox p.calls end.outbox p.runs p.shows.numbers tt (record { told = λ id e bad. (cc bad); stays = λ id t. absurd (false≢true t) }))
