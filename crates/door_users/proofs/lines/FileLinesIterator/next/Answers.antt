use Rattle.std.proofs.Common.{ap, length, arith}
use Rattle.door_users.proofs.lines.FileLinesIterator.next.Goals as goal

pub returns-clause-steps : goal.returns-clause-steps
returns-clause-steps c = rw c.in_ok-self.was c.first_line.ensures

pub returns-clause-goes : goal.returns-clause-goes
returns-clause-goes c =
    let count = ap length (returns-clause-steps c) in
    record { on = λ _. (tt, tt, omega (arith, count)); keeps = tt; rests = λ finite. tt }
