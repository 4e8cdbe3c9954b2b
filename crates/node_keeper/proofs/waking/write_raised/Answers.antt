use Rattle.std.proofs.Common.{◌∙◌, inl, inr, map, refl, subst, sym, true≢false}
use Rattle.std.proofs.lemmas.Result.{on_ok_weaker}
use Rattle.row_store.specs.Rows.{entry_of}
use Rattle.node_rows.specs.Versions.{Raise}
use Rattle.node_keeper.proofs.Opening.{not_older, raised_after, stays_older}
use Rattle.node_keeper.proofs.waking.write_raised.Goals as goal

pub returns-then-not-are_older-clause-ok : goal.returns-then-not-are_older-clause-ok
returns-then-not-are_older-clause-ok g c clean up is =
    (up, inr (not_older c.args.loaded.now (g.R.RowStore.content c.args.rows.now) is (λ first. true≢false (sym (c.are_older.ensures.1 first) ∙ c.if-not-are_older.true)), refl))

pub returns-then-not-are_older-clause-crash : goal.returns-then-not-are_older-clause-crash
returns-then-not-are_older-clause-crash g c clean up is left may = inl (g.met.R.RowStore.settled c.args.rows.now left up may)

pub returns-in_default-clause-crash : goal.returns-in_default-clause-crash
returns-in_default-clause-crash g c clean up is left may = inl (g.met.R.RowStore.settled c.args.rows.now left up may)

pub returns-clause-ok : goal.returns-clause-ok
returns-clause-ok g c clean up is =
    let first = stays_older c.args.loaded.now (g.R.RowStore.content c.args.rows.now) is (c.are_older.ensures.0 c.if-not-are_older.false) in
    let raise = subst (Raise (map entry_of c.args.loaded.now)) (sym c.deref.ensures.value) c.in-Ok.ensures in
    on_ok_weaker c.apply.result (λ ok. (ok.0, inl (first, ok.1 ∙ raised_after c.args.loaded.now (g.R.RowStore.content c.args.rows.now) c.deref.result.now is raise))) (c.apply.ensures.ok clean up)

pub returns-clause-crash : goal.returns-clause-crash
returns-clause-crash g c clean up is left may =
    let first = stays_older c.args.loaded.now (g.R.RowStore.content c.args.rows.now) is (c.are_older.ensures.0 c.if-not-are_older.false) in
    let raise = subst (Raise (map entry_of c.args.loaded.now)) (sym c.deref.ensures.value) c.in-Ok.ensures in
    elim (c.apply.ensures.crash clean up left may) [
      | inl before ↦ inl before
      | inr made ↦ inr (inl (first, made ∙ raised_after c.args.loaded.now (g.R.RowStore.content c.args.rows.now) c.deref.result.now is raise))
    ]
