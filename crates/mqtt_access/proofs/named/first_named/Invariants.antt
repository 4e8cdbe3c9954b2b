use Rattle.std.proofs.Common.{◌≡◌, drop}
use Rattle.mqtt_access.specs.Named.{first_named}
use Rattle.mqtt_access.proofs.named.first_named.Given as goal

abbrev pub invariant-loop-user : goal.invariant-loop-user
invariant-loop-user l = first_named l.name (drop l.user-index l.users) ≡ first_named l.name l.users
