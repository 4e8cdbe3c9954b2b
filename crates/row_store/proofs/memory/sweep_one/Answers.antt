use Rattle.std.proofs.Common.{rules, None, refl}
use Rattle.row_store.proofs.CellLemmas.{same_shown}
use Rattle.row_store.proofs.memory.sweep_one.Goals as goal

pub returns-in-Some-None : goal.returns-in-Some-None
returns-in-Some-None c = same_shown c.args.cells.now.entries c.remove.new.self.entries c.args.key.now None c.remove.ensures.updates.0 refl (search rules)
