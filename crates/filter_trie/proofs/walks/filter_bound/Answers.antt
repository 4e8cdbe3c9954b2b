use Rattle.std.proofs.Common.{[], List, ℕ, Option, Some, None, Bor, sym, subst, rules}
use Rattle.mqtt_topics.specs.Levels.{levels, rest_levels, single_level}
use Rattle.filter_trie.specs.Search.Seeking.{IsCut, IsNext}
use Rattle.filter_trie.specs.Search.Steps.{some_step, some_bound}
use Rattle.filter_trie.proofs.Order.{told_other}
use Rattle.filter_trie.proofs.Walking.{Walk, walk_ends}
use Rattle.filter_trie.proofs.FilterWalk.{Matching, levels_cut, key_ends, level_ends, level_goes_on}
use Rattle.filter_trie.proofs.walks.filter_bound.Goals as goal

pub returns-in_default : goal.returns-in_default
returns-in_default c =
    let key = c.args.key.now in
    let rest = c.loop-later.rest.now in
    let names = c.loop-later.names.now in
    let level = c.first_level.result.0.now in
    let own = c.first_level-in-loop-later.result.0.now in
    let further = rest_levels c.first_level-in-loop-later.result.1 in
    let P : List ℕ → Type 0 = Matching (levels c.args.name.now) in
    let N : Option (List ℕ) → Type 0 = IsNext P key in
    let W : List (List ℕ) → Type 0 = λ ls. Walk P (Matching ls) key rest (some_bound key c.loop-later.best) in
    let C : Option (Bor (List ℕ)) → Type 0 = IsCut rest level in
    let walk = subst W (levels_cut names own c.first_level-in-loop-later.result.1 c.first_level-in-loop-later.ensures) c.loop-later.invariant.walk in
    subst N (sym c.bound_at-best.ensures)
    (key_ends P key rest own further (some_bound key c.loop-later.best) (some_step c.filter_step.result) c.filter_step.ensures.past c.filter_step.ensures.covers
    level walk (subst C c.in_default.is c.first_level.ensures))

pub returns-then-ne-2 : goal.returns-then-ne-2
returns-then-ne-2 c =
    let key = c.args.key.now in
    let rest = c.loop-later.rest.now in
    let names = c.loop-later.names.now in
    let level = c.first_level.result.0.now in
    let own = c.first_level-in-loop-later.result.0.now in
    let further = rest_levels c.first_level-in-loop-later.result.1 in
    let P : List ℕ → Type 0 = Matching (levels c.args.name.now) in
    let N : Option (List ℕ) → Type 0 = IsNext P key in
    let W : List (List ℕ) → Type 0 = λ ls. Walk P (Matching ls) key rest (some_bound key c.loop-later.best) in
    let C : Option (Bor (List ℕ)) → Type 0 = IsCut rest level in
    let walk = subst W (levels_cut names own c.first_level-in-loop-later.result.1 c.first_level-in-loop-later.ensures) c.loop-later.invariant.walk in
    subst N (sym c.bound_at-best.ensures)
    (level_ends P key rest own further (some_bound key c.loop-later.best) (some_step c.filter_step.result) c.filter_step.ensures.past c.filter_step.ensures.covers
    level c.in-Some.later walk (subst C c.in-Some.is c.first_level.ensures) (told_other level single_level c.if-ne.ensures) (told_other level own c.if-ne-2.ensures))

pub returns-in_default-further : goal.returns-in_default-further
returns-in_default-further c =
    let key = c.args.key.now in
    let rest = c.loop-later.rest.now in
    let later = c.in-Some.later.now in
    let names = c.loop-later.names.now in
    let level = c.first_level.result.0.now in
    let own = c.first_level-in-loop-later.result.0.now in
    let P : List ℕ → Type 0 = Matching (levels c.args.name.now) in
    let N : Option (List ℕ) → Type 0 = IsNext P key in
    let W : List (List ℕ) → Type 0 = λ ls. Walk P (Matching ls) key rest (some_bound key c.loop-later.best) in
    let C : Option (Bor (List ℕ)) → Type 0 = IsCut rest level in
    let D : Option (Bor (List ℕ)) → Type 0 = IsCut names own in
    let walk = subst W (levels_cut names own None (subst D c.in_default-further.is c.first_level-in-loop-later.ensures)) c.loop-later.invariant.walk in
    let B : Option (List ℕ) → Type 0 = Walk P (Matching []) key later in
    let on = subst B (sym c.bound_at-best.ensures)
    (level_goes_on P key rest own [] (some_bound key c.loop-later.best) (some_step c.filter_step.result) c.filter_step.ensures.past c.filter_step.ensures.covers
    level c.in-Some.later walk (subst C c.in-Some.is c.first_level.ensures)) in
    subst N (sym c.bound_at.ensures)
    (walk_ends P (Matching []) key later (some_bound key c.bound_at-best.result) (some_step c.parent_step.result) on c.parent_step.ensures.past c.parent_step.ensures.covers)

pub loop-later-preserved : goal.loop-later-preserved
loop-later-preserved c =
    let key = c.args.key.now in
    let rest = c.loop-later.rest.now in
    let names = c.loop-later.names.now in
    let level = c.first_level.result.0.now in
    let own = c.first_level-in-loop-later.result.0.now in
    let P : List ℕ → Type 0 = Matching (levels c.args.name.now) in
    let W : List (List ℕ) → Type 0 = λ ls. Walk P (Matching ls) key rest (some_bound key c.loop-later.best) in
    let C : Option (Bor (List ℕ)) → Type 0 = IsCut rest level in
    let D : Option (Bor (List ℕ)) → Type 0 = IsCut names own in
    let walk = subst W (levels_cut names own (Some c.in-Some-further.further) (subst D c.in-Some-further.is c.first_level-in-loop-later.ensures)) c.loop-later.invariant.walk in
    let B : Option (List ℕ) → Type 0 = Walk P (Matching (levels c.in-Some-further.further.now)) key c.in-Some.later.now in
    record {
      rest_text = search rules;
      names_text = search rules;
      walk = subst B (sym c.bound_at-best.ensures)
          (level_goes_on P key rest own (levels c.in-Some-further.further.now) (some_bound key c.loop-later.best) (some_step c.filter_step.result) c.filter_step.ensures.past c.filter_step.ensures.covers
          level c.in-Some.later walk (subst C c.in-Some.is c.first_level.ensures));
    }
