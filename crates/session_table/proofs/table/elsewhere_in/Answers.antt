use Rattle.std.proofs.Common.{IsTrue, false, [], ◌∷◌, ◌++◌, refl, ap, ◌∙◌}
use Rattle.law_maps.proofs.Texts.{entries_sorted, rising}
use Rattle.session_table.proofs.Walking.{all_found, found, none_found, not_found}
use Rattle.session_table.proofs.table.elsewhere_in.Goals as goal

pub loop-client-preserved-in_ok-push : goal.loop-client-preserved-in_ok-push
loop-client-preserved-in_ok-push c =
    found c.args.homes.now c.args.node c.args.seats.now.entries _ _ c.loop-client.out.items c.in-Some.client.now c.in-Some.field-0-1.now c.in-Some.ensures.steps c.loop-client.invariant
    c.push.new.self.items (c.in_ok-push.ensures.items ∙ ap (λ name. c.loop-client.out.items ++ name ∷ []) c.in_ok-copy.ensures) (c.if-is_elsewhere.ensures.0 refl)

pub loop-client-preserved : goal.loop-client-preserved
loop-client-preserved c =
    not_found c.args.homes.now c.args.node c.args.seats.now.entries _ _ c.loop-client.out.items c.in-Some.client.now c.in-Some.field-0-1.now c.in-Some.ensures.steps c.loop-client.invariant
    (λ away. let no : IsTrue false = c.if-is_elsewhere.ensures.1 away in cc)

pub returns-in_err-copy-clause-none : goal.returns-in_err-copy-clause-none
returns-in_err-copy-clause-none c = λ none.
    absurd (none_found c.args.homes.now c.args.node c.args.seats.now.entries _ _ c.loop-client.out.items c.in-Some.client.now c.in-Some.field-0-1.now c.in-Some.ensures.steps c.loop-client.invariant
    (entries_sorted c.args.seats.now.entries (rising c.args.seats.now.entries c.iter-client-items.ensures.ordered)) (c.if-is_elsewhere.ensures.0 refl) none)

pub returns-in_err-push-clause-none : goal.returns-in_err-push-clause-none
returns-in_err-push-clause-none c = λ none.
    absurd (none_found c.args.homes.now c.args.node c.args.seats.now.entries _ _ c.loop-client.out.items c.in-Some.client.now c.in-Some.field-0-1.now c.in-Some.ensures.steps c.loop-client.invariant
    (entries_sorted c.args.seats.now.entries (rising c.args.seats.now.entries c.iter-client-items.ensures.ordered)) (c.if-is_elsewhere.ensures.0 refl) none)

pub returns-clause-clients : goal.returns-clause-clients
returns-clause-clients c =
    all_found c.args.homes.now c.args.node c.args.seats.now.entries _ c.loop-client.out.items c.in-None.ensures.steps.0
    (entries_sorted c.args.seats.now.entries (rising c.args.seats.now.entries c.iter-client-items.ensures.ordered)) c.loop-client.invariant
