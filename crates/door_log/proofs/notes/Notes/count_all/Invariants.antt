use Rattle.std.proofs.Common.{◌≡◌, drop}
use Rattle.door_log.specs.Noting.{all_counted}
use Rattle.door_log.proofs.notes.Notes.count_all.Given as goal

abbrev pub invariant-loop-loss : goal.invariant-loop-loss
invariant-loop-loss l = all_counted l.at (drop l.loss-index l.losses) l.self ≡ all_counted l.at l.losses l.initial.self
