use Rattle.std.proofs.Common.{◌∙◌}
use Rattle.law_maps.proofs.Texts.{entries_sorted, rising}
use Rattle.session_table.proofs.Walking.{connected_are, ends_there, none_here}
use Rattle.session_table.proofs.table.connected_in.Goals as goal

pub returns-clause-clients : goal.returns-clause-clients
returns-clause-clients c =
    ends_there c.args.seats.now.entries _ c.loop-client.out.items c.in-None.ensures.steps.0 c.loop-client.invariant
    ∙ connected_are c.args.seats.now.entries (entries_sorted c.args.seats.now.entries (rising c.args.seats.now.entries c.iter-client-items.ensures.ordered))

pub returns-in_err-copy-clause-none : goal.returns-in_err-copy-clause-none
returns-in_err-copy-clause-none c = λ none.
    absurd (none_here c.args.seats.now.entries _ _ c.loop-client.out.items _ c.in-Some.seated.now c.in-Some.ensures.steps c.loop-client.invariant c.if-was_connected.ensures
    (connected_are c.args.seats.now.entries (entries_sorted c.args.seats.now.entries (rising c.args.seats.now.entries c.iter-client-items.ensures.ordered)) ∙ none))

pub returns-in_err-push-clause-none : goal.returns-in_err-push-clause-none
returns-in_err-push-clause-none c = λ none.
    absurd (none_here c.args.seats.now.entries _ _ c.loop-client.out.items _ c.in-Some.seated.now c.in-Some.ensures.steps c.loop-client.invariant c.if-was_connected.ensures
    (connected_are c.args.seats.now.entries (entries_sorted c.args.seats.now.entries (rising c.args.seats.now.entries c.iter-client-items.ensures.ordered)) ∙ none))
