use Rattle.std.proofs.Common.{◌≡◌, drop}
use Rattle.mqtt_access.specs.Named.{first_named}
use Rattle.mqtt_access.proofs.named.take_named.Given as goal

abbrev pub invariant-loop-i : goal.invariant-loop-i
invariant-loop-i l = record { same : l.users.items ≡ l.fn.users.items; none : first_named l.name (drop l.i l.fn.users.items) ≡ first_named l.name l.fn.users.items }
