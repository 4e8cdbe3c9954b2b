use Rattle.std.specs.FinMap as map
use Rattle.std.specs.List.{AllByRecursion}
use Rattle.mqtt_message.specs.Parts.{name}
use Rattle.replica_bytes.specs.Values.{IsOwn, kept}
use Rattle.replica_rows.proofs.Stores.{Follows}
use Rattle.replica_rows.proofs.laws.all_have_spellings.Given as goal

abbrev pub invariant-loop-topic : goal.invariant-loop-topic
invariant-loop-topic l = record {
  follows : Follows (λ x. name.Fits x.0 × (kept x.0).Fits x.1) l.topic-iterator (map.entries l.retained);
  own : AllByRecursion IsOwn l.topic-iterator;
}
