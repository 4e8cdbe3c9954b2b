use Rattle.std.proofs.Common.{◌≡◌, ◌++◌, map, take}
use Rattle.node_work.specs.Held.Sessions.{packet_output}
use Rattle.node_work.proofs.work.Work.send_each.Given as goal

abbrev pub invariant-loop-packet : goal.invariant-loop-packet
invariant-loop-packet l = l.self ≡ record l.fn.self { outputs = l.fn.self.outputs ++ map (packet_output l.connection l.fn.self.held.at) (take l.packet-index l.packets) }
