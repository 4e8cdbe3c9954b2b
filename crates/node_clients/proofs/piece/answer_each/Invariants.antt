use Rattle.std.proofs.Common.{drop}
use Rattle.node_work.specs.Working.{Each}
use Rattle.node_work.proofs.Working.{Reaches}
use Rattle.node_clients.specs.Pieces.{AnswersIfOpen}
use Rattle.node_clients.proofs.piece.answer_each.Given as goal

abbrev pub invariant-loop-packet : goal.invariant-loop-packet
invariant-loop-packet l = Reaches l.fn.work (Each (AnswersIfOpen l.connection) l.packets) l.work (Each (AnswersIfOpen l.connection) (drop l.packet-index l.packets))
