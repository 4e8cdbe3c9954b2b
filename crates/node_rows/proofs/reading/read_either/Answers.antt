use Rattle.std.proofs.Common.{true≢false, map as map_list, sym, ap, subst, ◌∙◌, T}
use Rattle.std.specs.FinMap.{is_sorted}
use Rattle.row_store.specs.Rows.{entry_of, key_cmp}
use Rattle.node_rows.proofs.Either.{raised_found, third_found}
use Rattle.node_rows.proofs.Raising.{raised_up}
use Rattle.node_rows.proofs.reading.read_either.Goals as goal

pub returns-then-not-are_older : goal.returns-then-not-are_older
returns-then-not-are_older c = third_found c.args.rows.now c.args.id c.args.nodes c.read.result (λ older. true≢false (sym (c.are_older.ensures.1 older) ∙ c.if-not-are_older.true)) c.read.ensures

pub read-requires-2 : goal.read-requires-2
read-requires-2 c =
    subst (λ es. T (is_sorted key_cmp es)) (sym (ap (map_list entry_of) c.deref.ensures.value ∙ c.in-Ok.ensures)) (raised_up (map_list entry_of c.args.rows.now) c.requires)

pub returns : goal.returns
returns c =
    raised_found c.args.rows.now c.deref.result.now c.args.id c.args.nodes c.read-2.result (ap (map_list entry_of) c.deref.ensures.value ∙ c.in-Ok.ensures) c.requires (c.are_older.ensures.0 c.if-not-are_older.false) c.read-2.ensures
