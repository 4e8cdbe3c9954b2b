use Rattle.std.proofs.Common.{[], List, ℕ, Option, Some, None, Bor, refl, sym, subst, rules}
use Rattle.std.specs.Cmp.Lexicographic.{other_text}
use Rattle.mqtt_topics.specs.Levels.{levels, rest_levels, multi_level, single_level}
use Rattle.filter_trie.specs.Search.Seeking.{IsCut, IsNext}
use Rattle.filter_trie.specs.Search.Steps.{some_step, some_bound}
use Rattle.filter_trie.proofs.Order.{told_other}
use Rattle.filter_trie.proofs.Walking.{Walk}
use Rattle.filter_trie.proofs.FilterWalk.{levels_cut}
use Rattle.filter_trie.proofs.TopicWalk.{Matched, name_ends, other_level, filter_ends, name_goes_on}
use Rattle.filter_trie.proofs.walks.topic_bound.Goals as goal

pub returns-in_default : goal.returns-in_default
returns-in_default c =
    let key = c.args.key.now in
    let rest = c.loop-best.rest.now in
    let filters = c.loop-best.filters.now in
    let level = c.first_level.result.0.now in
    let own = c.first_level-in-loop-best.result.0.now in
    let further = rest_levels c.first_level-in-loop-best.result.1 in
    let P : List ℕ → Type 0 = Matched (levels c.args.filter.now) in
    let N : Option (List ℕ) → Type 0 = IsNext P key in
    let W : List (List ℕ) → Type 0 = λ ls. Walk P (Matched ls) key rest (some_bound key c.loop-best.best) in
    let C : Option (Bor (List ℕ)) → Type 0 = IsCut rest level in
    let walk = subst W (levels_cut filters own c.first_level-in-loop-best.result.1 c.first_level-in-loop-best.ensures) c.loop-best.invariant.walk in
    subst N (sym c.bound_at.ensures)
    (name_ends P key rest own further (some_bound key c.loop-best.best) (some_step c.level_step.result) c.level_step.ensures.past (other_text own multi_level c.if-eq.ensures)
    level walk (subst C c.in_default.is c.first_level.ensures) (other_text own single_level c.if-eq-2.ensures) c.level_step.ensures.covers)

pub returns-then-ne-2 : goal.returns-then-ne-2
returns-then-ne-2 c =
    let key = c.args.key.now in
    let rest = c.loop-best.rest.now in
    let filters = c.loop-best.filters.now in
    let level = c.first_level.result.0.now in
    let own = c.first_level-in-loop-best.result.0.now in
    let further = rest_levels c.first_level-in-loop-best.result.1 in
    let P : List ℕ → Type 0 = Matched (levels c.args.filter.now) in
    let N : Option (List ℕ) → Type 0 = IsNext P key in
    let W : List (List ℕ) → Type 0 = λ ls. Walk P (Matched ls) key rest (some_bound key c.loop-best.best) in
    let C : Option (Bor (List ℕ)) → Type 0 = IsCut rest level in
    let walk = subst W (levels_cut filters own c.first_level-in-loop-best.result.1 c.first_level-in-loop-best.ensures) c.loop-best.invariant.walk in
    subst N (sym c.bound_at-best.ensures)
    (other_level P key rest own further (some_bound key c.loop-best.best) (some_step c.topic_step.result) c.topic_step.ensures.past (other_text own multi_level c.if-eq.ensures)
    level c.in-Some.later walk (subst C c.in-Some.is c.first_level.ensures) (c.topic_step.ensures.covers further)
    (told_other own single_level c.if-ne.ensures) (told_other own level c.if-ne-2.ensures))

pub returns-in_default-further : goal.returns-in_default-further
returns-in_default-further c =
    let key = c.args.key.now in
    let rest = c.loop-best.rest.now in
    let filters = c.loop-best.filters.now in
    let level = c.first_level.result.0.now in
    let own = c.first_level-in-loop-best.result.0.now in
    let P : List ℕ → Type 0 = Matched (levels c.args.filter.now) in
    let N : Option (List ℕ) → Type 0 = IsNext P key in
    let W : List (List ℕ) → Type 0 = λ ls. Walk P (Matched ls) key rest (some_bound key c.loop-best.best) in
    let C : Option (Bor (List ℕ)) → Type 0 = IsCut rest level in
    let D : Option (Bor (List ℕ)) → Type 0 = IsCut filters own in
    let walk = subst W (levels_cut filters own None (subst D c.in_default-further.is c.first_level-in-loop-best.ensures)) c.loop-best.invariant.walk in
    subst N (sym c.bound_at-best.ensures)
    (filter_ends P key rest own [] (some_bound key c.loop-best.best) (some_step c.topic_step.result) c.topic_step.ensures.past (other_text own multi_level c.if-eq.ensures)
    level c.in-Some.later walk (subst C c.in-Some.is c.first_level.ensures) (c.topic_step.ensures.covers []) refl)

pub loop-best-preserved : goal.loop-best-preserved
loop-best-preserved c =
    let key = c.args.key.now in
    let rest = c.loop-best.rest.now in
    let filters = c.loop-best.filters.now in
    let level = c.first_level.result.0.now in
    let own = c.first_level-in-loop-best.result.0.now in
    let further = levels c.in-Some-further.further.now in
    let P : List ℕ → Type 0 = Matched (levels c.args.filter.now) in
    let W : List (List ℕ) → Type 0 = λ ls. Walk P (Matched ls) key rest (some_bound key c.loop-best.best) in
    let C : Option (Bor (List ℕ)) → Type 0 = IsCut rest level in
    let D : Option (Bor (List ℕ)) → Type 0 = IsCut filters own in
    let B : Option (List ℕ) → Type 0 = Walk P (Matched further) key c.in-Some.later.now in
    let walk = subst W (levels_cut filters own (Some c.in-Some-further.further) (subst D c.in-Some-further.is c.first_level-in-loop-best.ensures)) c.loop-best.invariant.walk in
    record {
      rest_text = search rules;
      filters_text = search rules;
      walk = subst B (sym c.bound_at-best.ensures)
          (name_goes_on P key rest own further (some_bound key c.loop-best.best) (some_step c.topic_step.result) c.topic_step.ensures.past (other_text own multi_level c.if-eq.ensures)
          level c.in-Some.later walk (subst C c.in-Some.is c.first_level.ensures) (c.topic_step.ensures.covers further));
    }
