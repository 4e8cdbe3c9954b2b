use Rattle.std.proofs.lemmas.List.Elements.{All-drop}
use Rattle.broker_sockets.specs.Buffers.{HasBytes}
use Rattle.broker_sockets.proofs.queue.take_next.Goals as goal

pub returns-in-Some-clause-full : goal.returns-in-Some-clause-full
returns-in-Some-clause-full c all = rw c.pop_front.ensures.rest (All-drop HasBytes 1 _ all)
