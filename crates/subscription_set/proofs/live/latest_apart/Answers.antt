use Rattle.std.proofs.Common.{◌++◌, map as map_list, sym, ap, subst, ◌∙◌, arith}
use Rattle.mqtt_topics.specs.Matching.{Matches}
use Rattle.filter_trie.specs.Selected.{IsSelected}
use Rattle.subscription_set.specs.Matching.{IsPlainMatch, dots_of}
use Rattle.subscription_set.specs.Members.{AreGroups, HasEntry, IsPlainFor, latest_entries, latest_of_dots}
use Rattle.subscription_set.proofs.Grouping.{groups_shared}
use Rattle.subscription_set.proofs.Turns.{groups_none, live_groups, no_references, none_weaker}
use Rattle.subscription_set.proofs.Walking.{nothing_at, none_there, selected_entries}
use Rattle.subscription_set.proofs.live.latest_apart.Goals as goal

pub all_in_turn-requires : goal.all_in_turn-requires
all_in_turn-requires c =
    let m = c.args.entries.now in
    let groups = subst (λ rs. AreGroups (HasEntry m) c.args.name.now (map_list (λ r. r.now) rs)) (sym c.as_slice.ensures.value) c.in_ok-found.ensures.groups in
    groups_shared (HasEntry m) c.args.name.now (map_list (λ r. r.now) c.as_slice.result.now) groups

pub returns-in_err-found-clause-none : goal.returns-in_err-found-clause-none
returns-in_err-found-clause-none c = λ none. absurd (let no = c.in_err-found.ensures.none (none_there c.args.entries.now (λ f. Matches f c.args.name.now) none) in cc)

pub returns-in_err-add_latest-clause-none : goal.returns-in_err-add_latest-clause-none
returns-in_err-add_latest-clause-none c = λ none.
    let m = c.args.entries.now in
    let plain = none_weaker (λ e. Matches e.filter c.args.name.now) (IsPlainFor c.args.name.now) (λ e p. p.1) (latest_entries m) none in
    absurd (let no = c.in_err-add_latest.ensures.none (ap (latest_of_dots m) c.dots.ensures ∙ nothing_at m (IsPlainMatch c.args.name.now) (dots_of c.in_ok-found.found.plain) c.in_ok-found.ensures.plain plain) in cc)

pub returns-in_err-in_turn-clause-none : goal.returns-in_err-in_turn-clause-none
returns-in_err-in_turn-clause-none c = λ none.
    let m = c.args.entries.now in
    let groups = subst (λ rs. AreGroups (HasEntry m) c.args.name.now (map_list (λ r. r.now) rs)) (sym c.as_slice.ensures.value) c.in_ok-found.ensures.groups in
    let zero = no_references c.as_slice.result.now (groups_none m c.args.name.now (map_list (λ r. r.now) c.as_slice.result.now) (none_there m (λ f. Matches f c.args.name.now) none) groups) in
    absurd (omega (arith, zero, c.in_err-in_turn.ensures.memory))

pub returns-clause-plain : goal.returns-clause-plain
returns-clause-plain c =
    let m = c.args.entries.now in
    let same = c.in_ok-add_latest.ensures.latest ∙ (λ i. map_list (λ r. r.now) (c.new-plain.ensures.items i) ++ latest_of_dots m (c.dots.ensures i)) in
    subst (IsSelected (IsPlainFor c.args.name.now) (latest_entries m)) (sym same) (selected_entries m (IsPlainMatch c.args.name.now) (dots_of c.in_ok-found.found.plain) c.in_ok-found.ensures.plain)

pub returns-clause-in_turn : goal.returns-clause-in_turn
returns-clause-in_turn c =
    let m = c.args.entries.now in
    let groups = subst (λ rs. AreGroups (HasEntry m) c.args.name.now (map_list (λ r. r.now) rs)) (sym c.as_slice.ensures.value) c.in_ok-found.ensures.groups in
    (map_list (λ r. r.now) c.as_slice.result.now, live_groups m c.args.name.now (map_list (λ r. r.now) c.as_slice.result.now) groups, c.in_ok-in_turn.ensures.in_turn)
