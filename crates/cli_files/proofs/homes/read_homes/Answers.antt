use Rattle.std.proofs.Common.{Some, ap, map, sym, subst, ◌∙◌}
use Rattle.std.proofs.lemmas.List.{map_push}
use Rattle.toml.specs.declared.value.Value.{Value}
use Rattle.toml.specs.View.{view}
use Rattle.home_table.specs.Document.{Refuses}
use Rattle.home_table.proofs.RowLaws.{each_more, refused_at}
use Rattle.cli_files.specs.Listed.{listed_in, placed}
use Rattle.cli_files.proofs.homes.read_homes.Goals as goal

pub returns-in-Err-clause-fault : goal.returns-in-Err-clause-fault
returns-in-Err-clause-fault c =
    let P : Value → Type 0 = λ v. Refuses (listed_in c.args.homes.now (view v)) c.in-Err.fault in
    refused_at (listed_in c.args.homes.now) c.args.values.now c.loop-value.value-index c.value-item.result c.in-Err.fault c.loop-value-test.true (subst P c.value-item.is c.in-Err.ensures.fault)

pub loop-value-preserved : goal.loop-value-preserved
loop-value-preserved c =
    each_more (listed_in c.args.homes.now) c.args.values.now c.loop-value.value-index c.value-item.result (map placed c.loop-value.read.items) (placed c.in-Ok.home) c.loop-value-test.true c.loop-value.invariant
    (ap (λ v. listed_in c.args.homes.now (view v)) (sym c.value-item.is) ∙ c.in-Ok.ensures.ok)
    ∙ ap Some (sym (ap (map placed) c.in_ok-push-in-Ok.ensures.items ∙ map_push placed c.loop-value.read.items c.in-Ok.home))
