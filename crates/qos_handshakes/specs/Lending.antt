-- What is left of the exchanges once a copy that was lent is given back.
use Rattle.std.specs.Prelude.{◌≡◌, ℕ, ⊤, Result, Option, Some, None, MatchResult, MatchOption}
use Rattle.mqtt_fields.specs.declared.fault.NoMemory.{NoMemory}
use Rattle.std.specs.Borrow.{follows_so, MutBor, Fml}
use mathlib.Core.Option.{none}
use Rattle.qos_handshakes.specs.declared.outgoing.Outgoing.{Outgoing}
use Rattle.qos_handshakes.specs.declared.outgoing.Sending.{Sending}
use Rattle.qos_handshakes.specs.contracts.outgoing.Outgoing.{the_row}
use Rattle.qos_handshakes.specs.Outbox.{NextStep}
use Rattle.qos_handshakes.specs.Touched.{TouchesChanged}

abbrev pub LeavesNext : ℕ → ℕ → MutBor Outgoing → Result (Option Sending) NoMemory → Fml
LeavesNext now limit s r = follows_so the_row the_row s.ghost_name none (λ _ _. ⊤)
    (λ v. MatchResult r (λ o. MatchOption o (NextStep now limit s.now.box None v.box × TouchesChanged s.now v) (λ x. NextStep now limit s.now.box (Some (record { id = x.id; dup = x.dup; copy = x.delivery.now })) v.box × TouchesChanged s.now v)) (λ _. v ≡ s.now))
