use Rattle.std.proofs.Common.{◌≡◌, drop}
use Rattle.mqtt_message.specs.Identifiers.{ascends_from}
use Rattle.mqtt_message.proofs.identifiers.are_identifiers.Given as goal

abbrev pub invariant-loop-n : goal.invariant-loop-n
invariant-loop-n l = ascends_from l.least (drop l.n-index l.numbers) ≡ ascends_from 1 l.numbers
