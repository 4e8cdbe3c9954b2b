use Rattle.std.proofs.Common.{rules, not, length, ◌+◌, refl, ap, ◌∙◌}
use Rattle.std.proofs.lemmas.Fn.{filter_same}
use Rattle.std.proofs.lemmas.List.Filters.{length-filter_both}
use Rattle.node_work.specs.Held.Sessions.{has_session}
use Rattle.node_work.specs.Passing.{unseated}
use Rattle.node_clients.proofs.passing.seated.Goals as goal

pub returns-clause-seated : goal.returns-clause-seated
returns-clause-seated c = filter_same _ (λ x. has_session x.client c.args.held.now) _ (λ x b f' k. search rules) _ _ c.retain.ensures.filtered

pub returns-clause-others : goal.returns-clause-others
returns-clause-others c =
    let h = c.args.held.now in
    let xs = c.args.copies.items in
    ap (λ ys. length ys + length (unseated h xs)) (filter_same _ (λ x. has_session x.client h) _ (λ x b f' k. search rules) _ _ c.retain.ensures.filtered)
    ∙ length-filter_both (λ x. has_session x.client h) (λ x. not (has_session x.client h)) (λ x. refl) xs
