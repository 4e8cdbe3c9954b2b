use Rattle.std.proofs.Common.{◌≡◌, ◌++◌, drop}
use Rattle.door_packets.specs.Codes.{merged}
use Rattle.door_packets.proofs.codes.merge.Given as goal

abbrev pub invariant-loop-code : goal.invariant-loop-code
invariant-loop-code l = l.all.items ++ merged (drop l.code-index l.codes) l.left ≡ merged l.codes l.asked
