-- Where a will wants memory.
use Rattle.std.proofs.Common.{◌≡◌, ℕ, true, false, List, Option, Some, None, refl}
use Rattle.std.specs.Prelude.{IsSome}
use Rattle.std.proofs.lemmas.Bool.{false≢true}
use Rattle.mqtt_packets.specs.declared.connect.Will.{Will}
use Rattle.mqtt_sessions.specs.Ending.{HasWill, TickWants, ask_of, has_run_out, is_due, message_of, will_due}
use Rattle.mqtt_sessions.specs.Reaction.{gives_out, nothing}
use Rattle.mqtt_sessions.specs.State.{State}

will-passes : (o : Option Will) (client : List ℕ) (now : ℕ) → IsSome o → gives_out (record nothing { ask = ask_of (message_of o client now); over = false }) ≡ true
will-passes None client now has = absurd (false≢true has)
will-passes (Some w) client now has = refl

pub tick-wants : (now : ℕ) (s : State) → has_run_out s.link now ≡ false → is_due (will_due s.kept) now ≡ true → HasWill s → TickWants now s
tick-wants now s idle due has = rw (idle, due) (will-passes s.kept.will s.kept.client now has)
