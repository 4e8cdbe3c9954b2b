use Rattle.std.proofs.Common.{◌≡◌, ◌++◌, true, length}
use Rattle.std.specs.Map.{keys_of}
use Rattle.qos_handshakes.specs.Incoming.{rise, of_identifiers}
use Rattle.qos_handshakes.proofs.RiseLaws.{first_of}
use Rattle.qos_handshakes.proofs.incoming.Incoming.from_identifiers.Given as goal

abbrev pub invariant-loop-id : goal.invariant-loop-id
invariant-loop-id l = record {
  all : l.left.items ++ keys_of l.exchanges.entries ≡ l.fn.identifiers.items;
  none : l.exchanges.entries ≡ of_identifiers (keys_of l.exchanges.entries);
  rises : rise (keys_of l.exchanges.entries) ≡ true;
  first_is : l.first ≡ first_of (keys_of l.exchanges.entries);
}

abbrev pub decreases-loop-id : goal.decreases-loop-id
decreases-loop-id l = length l.left.items
