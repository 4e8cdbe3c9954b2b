use Rattle.std.proofs.Common.{◌≡◌, flat_map, length, ap, ◌∙◌, arith}
use Rattle.std.proofs.lemmas.Grind.{common_steps}
use Rattle.subscription_set.proofs.Spreading.{text_total, text_anti, pair_total, pair_anti}
use Rattle.bridge_routes.specs.Gathered.{group_of}
use Rattle.bridge_routes.specs.Picks.{pick_of, picked}
use Rattle.bridge_routes.proofs.Selecting.{no_referents}
use Rattle.bridge_routes.proofs.Gathering.{holds_nothing}
use Rattle.bridge_routes.proofs.groups.picks_among.Goals as goal

pub returns-then-is_empty-clause-picks : goal.returns-then-is_empty-clause-picks
returns-then-is_empty-clause-picks c =
    let zero : length c.args.shared.now ≡ 0 = grind (arith, common_steps) in
    c.new.ensures.items ∙ ap (flat_map (λ g. pick_of c.args.message.now (picked c.args.turn g.1))) (holds_nothing (pair_total text_total text_anti text_total text_anti) (pair_anti text_total text_anti text_total text_anti) group_of _ (no_referents c.args.shared.now zero))
