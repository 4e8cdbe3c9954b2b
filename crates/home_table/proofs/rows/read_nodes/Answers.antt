use Rattle.std.proofs.Common.{Some, ap, sym, subst, ◌∙◌, arith}
use Rattle.toml.specs.declared.value.Value.{Value}
use Rattle.toml.specs.View.{view}
use Rattle.home_table.specs.Document.{node_row, Refuses}
use Rattle.home_table.proofs.RowLaws.{each_more, refused_at}
use Rattle.home_table.proofs.rows.read_nodes.Goals as goal

pub returns-in-Err-clause-fault : goal.returns-in-Err-clause-fault
returns-in-Err-clause-fault c =
    let P : Value → Type 0 = λ v. Refuses (node_row (view v)) c.in-Err.fault in
    refused_at node_row c.args.values.now c.loop-value.value-index c.value-item.result c.in-Err.fault c.loop-value-test.true (subst P c.value-item.is c.in-Err.ensures.fault)

pub loop-value-preserved : goal.loop-value-preserved
loop-value-preserved c = (
  each_more node_row c.args.values.now c.loop-value.value-index c.value-item.result c.loop-value.nodes.items c.in-Ok.node c.loop-value-test.true c.loop-value.invariant.0
      (ap (λ v. node_row (view v)) (sym c.value-item.is) ∙ c.in-Ok.ensures.ok)
      ∙ ap Some (sym c.in_ok-push-in-Ok.ensures.items),
  omega (arith, c.in_ok-push-in-Ok.ensures.len),
)
