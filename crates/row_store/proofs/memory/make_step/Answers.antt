use Rattle.std.proofs.Common.{rules, ◌≡◌, Some, refl, sym, subst}
use Rattle.row_store.specs.Cells.{plain_key, shown, fill}
use Rattle.row_store.proofs.CellLemmas.{fill_shown, keeps_place, absent_fill}
use Rattle.row_store.proofs.memory.make_step.Goals as goal

pub returns-in-Some-clause-changed : goal.returns-in-Some-clause-changed
returns-in-Some-clause-changed c = fill_shown c.args.cells.now.entries (c.get_mut.follows.lender c.args.value).entries c.args.key.now c.args.value ((c.get_mut.follows.holds c.args.value).3 (search rules)).0

pub returns-in-Some-clause-keeps : goal.returns-in-Some-clause-keeps
returns-in-Some-clause-keeps c = keeps_place c.args.cells.now.entries (c.get_mut.follows.lender c.args.value).entries c.args.key.now (Some c.args.value) ((c.get_mut.follows.holds c.args.value).3 (search rules)).0 refl

pub returns-in_default-clause-changed : goal.returns-in_default-clause-changed
returns-in_default-clause-changed c = subst (λ m. shown m.entries ≡ fill (shown c.args.cells.now.entries) (plain_key c.args.key.now) c.args.value) (sym c.get_mut.follows.holds-at-none)
    (absent_fill c.args.cells.now.entries (plain_key c.args.key.now) c.args.value (search rules) c.requires)
