use Rattle.std.proofs.Common.{◌∙◌, Err, IsErrOf, ap, inl, map, subst}
use Rattle.std.proofs.lemmas.Result.{err_from_is_err_and}
use Rattle.node_work.specs.View.{place_of}
use Rattle.row_store.specs.declared.store.RowFault.TheVariants.{BadRow}
use Rattle.row_store.specs.Rows.{entry_of}
use Rattle.node_keeper.proofs.Opening.{may_be_both, none_have, opens}
use Rattle.node_keeper.proofs.waking.wake.Goals as goal

pub returns-in_err-node-clause-bad : goal.returns-in_err-node-clause-bad
returns-in_err-node-clause-bad g c clean up bad =
    let p = err_from_is_err_and c.from_residual-in_err-node.result c.from_residual-in_err-node.ensures.1 in
    let loaded = c.in_ok-loaded.ensures.ok clean up in
    none_have (place_of c.args.id c.args.homes) c.deref.result.now (g.R.RowStore.content c.load_marked.new.rows) (ap (map entry_of) c.deref.ensures.value ∙ loaded.2)
    (c.in_err-node.ensures.bad (subst (λ r. IsErrOf r BadRow) (p.1 ∙ ap Err p.2) bad))

pub returns-in_err-write_raised-clause-crash : goal.returns-in_err-write_raised-clause-crash
returns-in_err-write_raised-clause-crash g c clean up left may =
    let loaded = c.in_ok-loaded.ensures.ok (c.in_err-write_raised.ensures.was_clean clean) up in
    may_be_both c.args.id (g.R.RowStore.content c.args.rows.now) (g.R.RowStore.content c.load_marked.new.rows) left loaded.1
    (c.in_err-write_raised.ensures.crash clean loaded.0 (ap (map entry_of) c.deref-2.ensures.value ∙ loaded.2) left may)

pub returns-clause-ok : goal.returns-clause-ok
returns-clause-ok g c clean up =
    let loaded = c.in_ok-loaded.ensures.ok (c.in_ok-write_raised.ensures.was_clean clean) up in
    let raised = c.in_ok-write_raised.ensures.ok clean loaded.0 (ap (map entry_of) c.deref-2.ensures.value ∙ loaded.2) in (
      raised.0,
      opens c.args.id c.args.homes c.deref.result.now (g.R.RowStore.content c.args.rows.now) (g.R.RowStore.content c.load_marked.new.rows) (g.R.RowStore.content c.write_raised.new.rows) c.in_ok-node.node loaded.1
          (ap (map entry_of) c.deref.ensures.value ∙ loaded.2) raised.1 c.in_ok-node.ensures.ok,
    )

pub returns-clause-crash : goal.returns-clause-crash
returns-clause-crash g c clean up left may =
    let loaded = c.in_ok-loaded.ensures.ok (c.in_ok-write_raised.ensures.was_clean clean) up in
    may_be_both c.args.id (g.R.RowStore.content c.args.rows.now) (g.R.RowStore.content c.load_marked.new.rows) left loaded.1
    (c.in_ok-write_raised.ensures.crash clean loaded.0 (ap (map entry_of) c.deref-2.ensures.value ∙ loaded.2) left may)
