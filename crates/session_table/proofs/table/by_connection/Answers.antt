use Rattle.std.proofs.Common.{sym, ◌∙◌}
use Rattle.std.proofs.lemmas.List.{nil_from_length}
use Rattle.std.proofs.lemmas.Result.{IfOk-weaker}
use Rattle.std.specs.Vec.Iter.{into_iter_items}
use Rattle.session_table.specs.Listing.{table}
use Rattle.session_table.proofs.Walking.{gathers, gathers_one, gathered, no_more, none_gathered}
use Rattle.session_table.proofs.table.by_connection.Goals as goal

pub loop-due-init : goal.loop-due-init
loop-due-init c = record {
  so = gathers (table c.args.seats.now.entries) c.args.dues.items (into_iter_items c.into_iter-due-iterator.result) c.new-order.result c.new-order.ensures c.into_iter-due-iterator.ensures.into_iter_gives.0;
  none = λ e. c.into_iter-due-iterator.ensures.into_iter_gives.0 ∙ e;
}

pub loop-due-preserved-in-Continue-1 : goal.loop-due-preserved-in-Continue-1
loop-due-preserved-in-Continue-1 c = record {
  so = gathers_one (table c.args.seats.now.entries) c.args.dues.items (into_iter_items c.loop-due.due-iterator) (into_iter_items c.next.new.self) c.in-Some.due c.in-Some-connection_of.connection c.loop-due.order c.insert.new.self
      c.in-Some.ensures.steps.0 (sym c.in-Some-connection_of.is ∙ c.connection_of.ensures) c.in_ok-insert.ensures.ok c.loop-due.invariant.so;
  none = λ e. absurd (no_more (into_iter_items c.loop-due.due-iterator) (into_iter_items c.next.new.self) c.in-Some.due c.in-Some.ensures.steps.0 (c.loop-due.invariant.none e));
}

pub returns-clause-pairs : goal.returns-clause-pairs
returns-clause-pairs c =
    let over = nil_from_length (into_iter_items c.loop-due.due-iterator) (sym c.loop-due.due-iterator.rest.ok.0 ∙ c.in-None.ensures.steps.0) in
    IfOk-weaker c.into_pairs.result _ _ (λ out is. is ∙ gathered (table c.args.seats.now.entries) c.args.dues.items (into_iter_items c.loop-due.due-iterator) c.loop-due.order over c.loop-due.invariant.so) c.into_pairs.ensures.all

pub returns-clause-none : goal.returns-clause-none
returns-clause-none c = λ none.
    let over = nil_from_length (into_iter_items c.loop-due.due-iterator) (sym c.loop-due.due-iterator.rest.ok.0 ∙ c.in-None.ensures.steps.0) in
    c.into_pairs.ensures.none (gathered (table c.args.seats.now.entries) c.args.dues.items (into_iter_items c.loop-due.due-iterator) c.loop-due.order over c.loop-due.invariant.so ∙ none_gathered (table c.args.seats.now.entries) c.args.dues.items none)
