use Rattle.std.proofs.Common.{sym, ap, Some}
use Rattle.toml.proofs.Views.{table_get}
use Rattle.home_table.proofs.RowLaws.{list_of-view}
use Rattle.cli_files.proofs.homes.values_at.Goals as goal

pub returns-in-None : goal.returns-in-None
returns-in-None c =
    let found = table_get c.get.result c.args.key.now c.args.document.now.entries c.get.ensures.value in
    rw (← rw c.in-None.is at found)

pub returns-in-Some-as_array : goal.returns-in-Some-as_array
returns-in-Some-as_array c =
    let found = table_get c.get.result c.args.key.now c.args.document.now.entries c.get.ensures.value in
    rw (← rw c.in-Some.is at found, ← c.in-Some-as_array.ensures, c.as_slice.ensures.value) (ap Some (sym (list_of-view c.in-Some-as_array.values.now.items)))

pub returns-in-None-as_array : goal.returns-in-None-as_array
returns-in-None-as_array c =
    let found = table_get c.get.result c.args.key.now c.args.document.now.entries c.get.ensures.value in
    rw (← rw c.in-Some.is at found, ← c.in-None-as_array.ensures)
