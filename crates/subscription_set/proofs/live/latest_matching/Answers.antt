use Rattle.std.proofs.Common.{◌++◌, map as map_list, sym, ap, subst, ◌∙◌}
use Rattle.mqtt_topics.specs.Matching.{Matches}
use Rattle.filter_trie.specs.Selected.{IsSelected}
use Rattle.subscription_set.specs.Members.{latest_entries, latest_of_dots}
use Rattle.subscription_set.specs.Matching.{dots_of}
use Rattle.subscription_set.proofs.Walking.{nothing_at, none_there, selected_entries}
use Rattle.subscription_set.proofs.live.latest_matching.Goals as goal

pub returns-in_err-found-clause-none : goal.returns-in_err-found-clause-none
returns-in_err-found-clause-none c = λ none. absurd (let no = c.in_err-found.ensures.none (none_there c.args.entries.now (λ f. Matches f c.args.name.now) none) in cc)

pub returns-in_err-add_latest-clause-none : goal.returns-in_err-add_latest-clause-none
returns-in_err-add_latest-clause-none c = λ none.
    let m = c.args.entries.now in
    absurd (let no = c.in_err-add_latest.ensures.none (ap (latest_of_dots m) c.dots.ensures ∙ nothing_at m (λ f. Matches f c.args.name.now) (dots_of c.in_ok-found.found) c.in_ok-found.ensures.dots none) in cc)

pub returns-clause-selected : goal.returns-clause-selected
returns-clause-selected c =
    let m = c.args.entries.now in
    let same = c.in_ok-add_latest.ensures.latest ∙ (λ i. map_list (λ r. r.now) (c.new-out.ensures.items i) ++ latest_of_dots m (c.dots.ensures i)) in
    subst (IsSelected (λ e. Matches e.filter c.args.name.now) (latest_entries m)) (sym same) (selected_entries m (λ f. Matches f c.args.name.now) (dots_of c.in_ok-found.found) c.in_ok-found.ensures.dots)
