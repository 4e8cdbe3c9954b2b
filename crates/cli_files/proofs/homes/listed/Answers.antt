use Rattle.std.proofs.Common.{map}
use Rattle.toml.specs.View.{table_view}
use Rattle.cli_files.specs.Listed.{placed}
use Rattle.cli_files.proofs.Listing.{are_homes, is_refused}
use Rattle.cli_files.proofs.homes.listed.Goals as goal

pub returns-in_err-homes-clause-fault : goal.returns-in_err-homes-clause-fault
returns-in_err-homes-clause-fault c =
    is_refused c.args.text.now c.in_ok-table.table (table_view c.in-Ok.document) c.in_err-homes.field-0.0 c.from_residual-in_err-homes.result c.in_ok-table.ensures.table
    c.in-Ok.ensures.ok c.in_err-homes.ensures.fault c.from_residual-in_err-homes.ensures.1

pub returns-clause-homes : goal.returns-clause-homes
returns-clause-homes c =
    are_homes c.args.text.now c.in_ok-table.table (table_view c.in-Ok.document) (map placed c.in_ok-homes.homes.items) c.in_ok-table.ensures.table c.in-Ok.ensures.ok c.in_ok-homes.ensures.ok
