use Rattle.std.proofs.Common.{rules, None, Some, refl}
use Rattle.row_store.specs.Cells.{plain_key}
use Rattle.row_store.proofs.CellLemmas.{same_shown, keeps_place, vacant}
use Rattle.row_store.proofs.memory.make_place.Goals as goal

pub returns-in_ok-insert-clause-same : goal.returns-in_ok-insert-clause-same
returns-in_ok-insert-clause-same c =
    same_shown c.args.cells.now.entries c.insert.new.self.entries c.in_ok-own.own (Some None) c.in_ok-insert.ensures.updates.0 refl
    (vacant c.args.cells.now.entries (plain_key c.in_ok-own.own) (plain_key c.args.key.now) (search rules) (search rules))

pub returns-in_ok-insert-clause-keeps : goal.returns-in_ok-insert-clause-keeps
returns-in_ok-insert-clause-keeps c = keeps_place c.args.cells.now.entries c.insert.new.self.entries c.in_ok-own.own (Some None) c.in_ok-insert.ensures.updates.0 refl
