use Rattle.std.proofs.Common.{◌++◌, map, sym, ap, ◌∙◌}
use Rattle.std.proofs.lemmas.List.{append-nil, drop_all}
use Rattle.bridge_routes.specs.Copies.{plain_copy}
use Rattle.bridge_routes.specs.Gathered.{client_of}
use Rattle.bridge_routes.specs.Tables.{referents}
use Rattle.subscription_set.proofs.Spreading.{text_total, text_anti}
use Rattle.bridge_routes.proofs.Gathering.{holds_nothing}
use Rattle.bridge_routes.proofs.plain.copies_in_order.Goals as goal

pub returns : goal.returns
returns c =
    let shown = c.loop-place.out.items in
    let none = holds_nothing text_total text_anti client_of _ (ap referents (drop_all c.loop-place.place c.args.counted.now c.loop-place-test.false)) in
    sym (append-nil shown) ∙ ap (λ ys. shown ++ map (plain_copy c.args.message.now) ys) none ∙ c.loop-place.invariant.left
