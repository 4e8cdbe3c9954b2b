use Rattle.std.proofs.Common.{◌≡◌, ◌-◌}
use Rattle.mqtt_fields.specs.Reading.{◌>>=◌}
use Rattle.mqtt_message.specs.Spelling.{values_at}
use Rattle.mqtt_message.proofs.NumbersLaws.{onto}
use Rattle.replica_bytes.specs.Memory.{HasText}
use Rattle.replica_bytes.proofs.Loops.{HasBegun}
use Rattle.bridge_frames.specs.Forwards.{pick}
use Rattle.bridge_frames.proofs.pick.list_at.Given as goal

abbrev pub invariant-loop-i : goal.invariant-loop-i
invariant-loop-i l = record {
  read : (values_at pick (l.count - l.i) l.rest >>= λ more. onto l.list.items more) ≡ values_at pick l.count l.bytes;
  began : HasBegun HasText l.i l.bytes l.rest;
}
