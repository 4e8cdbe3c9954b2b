use Rattle.std.proofs.Common.{◌≡◌, ◌++◌, List, flat_map, option_to_list, length, sym, ap, ◌∙◌, arith}
use Rattle.std.proofs.lemmas.List.{append-nil, append_assoc}
use Rattle.std.proofs.lemmas.Grind.{common_steps}
use Rattle.subscription_set.proofs.Spreading.{text_total, text_anti, pair_total, pair_anti}
use Rattle.bridge_routes.specs.Gathered.{Group, group_of}
use Rattle.bridge_routes.specs.Picks.{pick_of, picked}
use Rattle.subscription_set.specs.Entries.{Entry}
use Rattle.bridge_routes.specs.declared.groups.GroupPick.{GroupPick}
use Rattle.bridge_routes.specs.Tables.{referents, shown}
use Rattle.bridge_routes.proofs.Selecting.{no_referents}
use Rattle.bridge_routes.proofs.Gathering.{holds_nothing}
use Rattle.bridge_routes.proofs.groups.picks_of.Goals as goal
use Rattle.bridge_routes.proofs.groups.picks_of.Goals.{in-Some-2+in_ok-push-in-Some-2, in-None-2}

pub returns-then-is_empty : goal.returns-then-is_empty
returns-then-is_empty c =
    let zero : length c.args.shared.now ≡ 0 = grind (arith, common_steps) in
    c.new-out.ensures.items ∙ ap (flat_map (λ g. pick_of c.args.message.now (picked c.args.turn g.1))) (holds_nothing (pair_total text_total text_anti text_total text_anti) (pair_anti text_total text_anti text_total text_anti) group_of _ (no_referents c.args.shared.now zero))

pub loop-group-preserved : goal.loop-group-preserved
loop-group-preserved c =
    let m = c.args.message.now in
    let own = pick_of m (picked c.args.turn (referents c.in-Some.group.items)) in
    let out = c.loop-group.out.items in
    let F : Group × List Entry → List GroupPick = λ g. pick_of m (picked c.args.turn g.1) in
    let grown : c.match-branch-3.out.items ≡ out ++ own = elim c.match-branch-3.branch [
      | in-Some-2+in_ok-push-in-Some-2 w ↦ ap (λ v. v.items) w.out-is ∙ w.in_ok-push-in-Some-2.ensures.items ∙ ap (λ ys. out ++ ys) (ap option_to_list (sym w.in-Some-2.is) ∙ c.in_ok-pick.ensures)
      | in-None-2 w ↦ ap (λ v. v.items) w.out-is ∙ sym (append-nil out) ∙ ap (λ ys. out ++ ys) (ap option_to_list (sym w.in-None-2.is) ∙ c.in_ok-pick.ensures)
    ] in
    ap (λ ys. ys ++ flat_map F (shown c.next.new.self)) grown ∙ append_assoc out own (flat_map F (shown c.next.new.self)) ∙ ap (λ es. out ++ flat_map F (shown es)) (sym c.in-Some.ensures.steps) ∙ c.loop-group.invariant
