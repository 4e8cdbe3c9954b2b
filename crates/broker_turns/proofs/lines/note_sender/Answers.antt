use Rattle.std.proofs.Common.{◌+◌, ◌*◌}
use Rattle.broker_turns.proofs.Linking.{noted-by}
use Rattle.broker_turns.proofs.lines.note_sender.Goals as goal

pub returns-then-peer-links : goal.returns-then-peer-links
returns-then-peer-links g c =
    noted-by c.args.links.now c.note_frame.new.links (c.from.result * 256 + c.from-2.result) c.args.at c.args.frame.now (λ i. c.from.ensures i * 256 + c.from-2.ensures i) c.if-frame.false c.note_frame.ensures
