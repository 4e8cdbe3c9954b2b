use Rattle.std.proofs.Common.{◌++◌, sym, ap, ◌∙◌}
use Rattle.std.proofs.lemmas.List.{append-nil, drop_all}
use Rattle.bridge_routes.specs.Gathered.{client_of}
use Rattle.bridge_routes.specs.Tables.{referents, referred}
use Rattle.subscription_set.proofs.Spreading.{text_total, text_anti}
use Rattle.bridge_routes.proofs.Gathering.{holds_nothing}
use Rattle.bridge_routes.proofs.gathered.by_client.Goals as goal

pub returns-clause-members : goal.returns-clause-members
returns-clause-members c =
    let shown = referred c.loop-place.members.items in
    sym (append-nil shown) ∙ ap (λ ys. shown ++ ys) (holds_nothing text_total text_anti client_of _ (ap referents (drop_all c.loop-place.place c.args.entries.now c.loop-place-test.false))) ∙ c.loop-place.invariant.left
