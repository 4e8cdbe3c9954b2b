use Rattle.std.proofs.Common.{◌≡◌, ◌∙◌, ap, sym, refl, inl, inr, arith, vec_len, length}
use Rattle.std.proofs.lemmas.Bool.{eq-eqb, eqb-true, false≢true}
use Rattle.std.specs.FinMap.{entries}
use Rattle.node_keeper.proofs.Opening.{left_rows, marks, no_rows, none_loaded, on_err, with_ok}
use Rattle.node_keeper.proofs.waking.load_marked.Goals as goal

pub returns-then-not-is_empty-clause-ok : goal.returns-then-not-is_empty-clause-ok
returns-then-not-is_empty-clause-ok g c clean up =
    let stands = c.in_ok-loaded.ensures.stays_open clean up in
    let same = c.in_ok-loaded.ensures.same clean stands in
    let loaded = c.in_ok-loaded.ensures.ok clean up in
    let left : length c.in_ok-loaded.loaded.items ≡ 0 → ⊥ = λ none. false≢true (sym c.if-not-is_empty.true ∙ c.is_empty.ensures ∙ eq-eqb (vec_len c.in_ok-loaded.loaded) 0 (omega arith)) in
    (stands, inr (left_rows c.in_ok-loaded.loaded.items (g.R.RowStore.content c.args.rows.now) left loaded, same), loaded ∙ ap entries (sym same))

pub returns-in_err-put_mark-clause-crash : goal.returns-in_err-put_mark-clause-crash
returns-in_err-put_mark-clause-crash g c clean up left may =
    let first = c.in_err-put_mark.ensures.was_clean clean in
    let stands = c.in_ok-loaded.ensures.stays_open first up in
    let same = c.in_ok-loaded.ensures.same first stands in
    let none = none_loaded c.in_ok-loaded.loaded.items (g.R.RowStore.content c.args.rows.now) (no_rows c.in_ok-loaded.loaded.items (omega (arith, eqb-true (vec_len c.in_ok-loaded.loaded) 0 (sym c.is_empty.ensures ∙ c.if-not-is_empty.false)))) (c.in_ok-loaded.ensures.ok first up) in
    elim (c.in_err-put_mark.ensures.crash clean stands left may) [ inl before ↦ inl (before ∙ same) | inr made ↦ inr (marks c.args.id _ _ _ _ none same made refl) ]

pub returns-clause-ok : goal.returns-clause-ok
returns-clause-ok g c clean up =
    let second = c.load-2.ensures.was_clean clean in
    let first = c.in_ok-put_mark.ensures.was_clean second in
    let stands = c.in_ok-loaded.ensures.stays_open first up in
    let same = c.in_ok-loaded.ensures.same first stands in
    let put = c.in_ok-put_mark.ensures.ok second stands in
    let none = none_loaded c.in_ok-loaded.loaded.items (g.R.RowStore.content c.args.rows.now) (no_rows c.in_ok-loaded.loaded.items (omega (arith, eqb-true (vec_len c.in_ok-loaded.loaded) 0 (sym c.is_empty.ensures ∙ c.if-not-is_empty.false)))) (c.in_ok-loaded.ensures.ok first up) in
    with_ok c.load-2.result (c.load-2.ensures.stays_open clean put.0) (c.load-2.ensures.ok clean put.0)
    (λ still loaded all. let again = c.load-2.ensures.same clean still in (still, inl (marks c.args.id _ _ _ _ none same put.1 again), all ∙ ap entries (sym again)))

pub returns-clause-err : goal.returns-clause-err
returns-clause-err g c clean up =
    let second = c.load-2.ensures.was_clean clean in
    let stood = c.load-2.ensures.was_open clean up in
    let first = c.in_ok-put_mark.ensures.was_clean second in
    let stands = c.in_ok-put_mark.ensures.was_open second stood in
    let same = c.in_ok-loaded.ensures.same first stands in
    let put = c.in_ok-put_mark.ensures.ok second stands in
    let none = none_loaded c.in_ok-loaded.loaded.items (g.R.RowStore.content c.args.rows.now) (no_rows c.in_ok-loaded.loaded.items (omega (arith, eqb-true (vec_len c.in_ok-loaded.loaded) 0 (sym c.is_empty.ensures ∙ c.if-not-is_empty.false)))) (c.in_ok-loaded.ensures.ok first (c.in_ok-loaded.ensures.was_open first stands)) in
    on_err c.load-2.result (inr (marks c.args.id _ _ _ _ none same put.1 (c.load-2.ensures.same clean up)))

pub returns-clause-crash : goal.returns-clause-crash
returns-clause-crash g c clean up left may =
    let second = c.load-2.ensures.was_clean clean in
    let first = c.in_ok-put_mark.ensures.was_clean second in
    let stands = c.in_ok-loaded.ensures.stays_open first up in
    let same = c.in_ok-loaded.ensures.same first stands in
    let put = c.in_ok-put_mark.ensures.ok second stands in
    let none = none_loaded c.in_ok-loaded.loaded.items (g.R.RowStore.content c.args.rows.now) (no_rows c.in_ok-loaded.loaded.items (omega (arith, eqb-true (vec_len c.in_ok-loaded.loaded) 0 (sym c.is_empty.ensures ∙ c.if-not-is_empty.false)))) (c.in_ok-loaded.ensures.ok first up) in
    inr (marks c.args.id _ _ _ _ none same put.1 (c.load-2.ensures.crash clean put.0 left may))
