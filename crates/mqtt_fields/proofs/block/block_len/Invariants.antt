use Rattle.std.proofs.Common.{◌≡◌, take, length}
use Rattle.mqtt_fields.specs.Block.{properties_bytes}
use Rattle.mqtt_fields.proofs.block.block_len.Given as goal

abbrev pub invariant-loop-p : goal.invariant-loop-p
invariant-loop-p l = l.total ≡ length (properties_bytes (take l.p-index l.ps))
