use Rattle.std.proofs.Common.{◌≡◌, [], map as map_list, length, refl, sym, ap, subst, ◌∙◌, arith}
use Rattle.std.proofs.lemmas.Grind.{common_steps}
use Rattle.filter_trie.specs.Selected.{IsSelected}
use Rattle.subscription_set.proofs.Spreading.{text_total, text_anti}
use Rattle.bridge_routes.specs.Copies.{MayCount, plain_copy}
use Rattle.bridge_routes.specs.Gathered.{client_of}
use Rattle.bridge_routes.proofs.Selecting.{no_referents}
use Rattle.bridge_routes.proofs.Gathering.{holds_nothing}
use Rattle.bridge_routes.proofs.plain.copies_among.Goals as goal

pub returns-then-is_empty-clause-copies : goal.returns-then-is_empty-clause-copies
returns-then-is_empty-clause-copies c =
    let zero : length c.args.found.items ≡ 0 = grind (arith, common_steps) in
    ([], subst (λ es. IsSelected (MayCount c.args.message.now) es []) (sym (no_referents c.args.found.items zero)) refl, c.new.ensures.items ∙ ap (map_list (plain_copy c.args.message.now)) (holds_nothing text_total text_anti client_of [] refl))
