use Rattle.mqtt_fields.specs.Numbers.{IsText}
use Rattle.replica_bytes.specs.Values.{dot}
use Rattle.subscription_set.specs.Standing.{standing}
use Rattle.replica_rows.specs.Reading.{CanStand}
use Rattle.replica_rows.proofs.Stores.{Follows}
use Rattle.replica_rows.proofs.laws.all_can_stand.Given as goal

abbrev pub invariant-loop-at : goal.invariant-loop-at
invariant-loop-at l = Follows (λ x. dot.Fits x.0 × IsText x.1.client × CanStand x.1) l.at-iterator (standing l.set)
