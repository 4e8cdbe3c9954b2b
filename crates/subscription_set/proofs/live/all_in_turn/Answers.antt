use Rattle.std.proofs.Common.{◌+◌, ◌++◌, ◌∷◌, ℕ, List, drop, flat_map, map as map_list, sym, ap, ◌∙◌}
use Rattle.std.proofs.lemmas.List.{append-nil, append_assoc, drop_more, drop_all}
use Rattle.mqtt_topics.specs.Topics.{IsShared}
use Rattle.subscription_set.specs.Entries.{Entry}
use Rattle.subscription_set.specs.Members.{in_turn, latest_entries, to_filter}
use Rattle.subscription_set.proofs.Turns.{at_reference}
use Rattle.subscription_set.proofs.live.all_in_turn.Goals as goal

pub add_in_turn-requires : goal.add_in_turn-requires
add_in_turn-requires c = at_reference IsShared c.args.groups.now c.loop-filter.filter-index c.filter-item.result c.filter-item.is c.loop-filter-test.true c.requires

pub loop-filter-init : goal.loop-filter-init
loop-filter-init c =
    let H : List ℕ → List Entry = λ f. in_turn c.args.turn (to_filter f (latest_entries c.args.entries.now)) in
    ap (λ l. map_list (λ r. r.now) l ++ flat_map H (map_list (λ r. r.now) c.args.groups.now)) c.new-out.ensures.items

pub loop-filter-preserved : goal.loop-filter-preserved
loop-filter-preserved c =
    let H : List ℕ → List Entry = λ f. in_turn c.args.turn (to_filter f (latest_entries c.args.entries.now)) in
    let groups = c.args.groups.now in
    let i = c.loop-filter.filter-index in
    let x = c.filter-item.result in
    let shown = map_list (λ r. r.now) c.loop-filter.out.items in
    let left = flat_map H (map_list (λ r. r.now) (drop (i + 1) groups)) in
    let step = ap (map_list (λ r. r.now)) (drop_more groups i x c.loop-filter-test.true) ∙ ap (λ r. r.now ∷ map_list (λ y. y.now) (drop (i + 1) groups)) (sym c.filter-item.is) in
    ap (λ l. l ++ left) c.in_ok-add_in_turn.ensures ∙ append_assoc shown (H x.now) left ∙ ap (λ l. shown ++ flat_map H l) (sym step) ∙ c.loop-filter.invariant

pub returns-clause-in_turn : goal.returns-clause-in_turn
returns-clause-in_turn c =
    let H : List ℕ → List Entry = λ f. in_turn c.args.turn (to_filter f (latest_entries c.args.entries.now)) in
    let shown = map_list (λ r. r.now) c.loop-filter.out.items in
    sym (append-nil shown) ∙ ap (λ l. shown ++ flat_map H (map_list (λ r. r.now) l)) (sym (drop_all c.loop-filter.filter-index c.args.groups.now c.loop-filter-test.false)) ∙ c.loop-filter.invariant
