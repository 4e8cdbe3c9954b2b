use Rattle.std.proofs.Common.{arith}
use Rattle.status_sockets.proofs.Turns.{all_had, one_more}
use Rattle.status_sockets.proofs.desk.attend_all.Goals as goal

pub loop-place-preserved : goal.loop-place-preserved
loop-place-preserved g c =
    one_more c.args.at c.loop-place.places c.loop-place.place-index c.attend.new.place (omega arith) c.loop-place.invariant c.attend.ensures

pub returns : goal.returns
returns g c = all_had c.args.at c.loop-place.places c.loop-place.place-index (omega arith) c.loop-place.invariant
