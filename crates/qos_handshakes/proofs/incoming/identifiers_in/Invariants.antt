use Rattle.std.proofs.Common.{◌≡◌, ◌++◌}
use Rattle.std.specs.Map.{keys_of}
use Rattle.qos_handshakes.proofs.RiseLaws.{AreSmall}
use Rattle.qos_handshakes.proofs.incoming.identifiers_in.Given as goal

abbrev pub invariant-loop-id : goal.invariant-loop-id
invariant-loop-id l = record {
  all : l.ids.items ++ l.id-iterator ≡ keys_of l.exchanges.entries;
  small : AreSmall l.ids.items;
}
