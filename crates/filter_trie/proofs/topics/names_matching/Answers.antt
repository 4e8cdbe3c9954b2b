use Rattle.std.proofs.Common.{map as map_list, IsTrue, false, refl, ap, ◌∙◌}
use Rattle.mqtt_topics.specs.Matching.{Matches}
use Rattle.filter_trie.proofs.Jumping.{all_between, walked_none, walked_with, walked_without, walked_to, walked_over, walked_all, walked_silent, shorter_to}
use Rattle.filter_trie.proofs.topics.names_matching.Goals as goal

pub loop-name-init : goal.loop-name-init
loop-name-init g c =
    record {
      can = tt;
      ends = tt;
      walk = walked_none (λ n. Matches c.args.filter.now n) c.args.pairs.now.entries _ _ (c.range-left.ensures.between tt ∙ all_between c.args.pairs.now.entries) (ap (map_list _) c.new-out.ensures.items);
    }

pub loop-name-preserved-then-matches : goal.loop-name-preserved-then-matches
loop-name-preserved-then-matches g c = record {
  can = tt;
  ends = tt;
  walk = walked_with (λ n. Matches c.args.filter.now n) c.args.pairs.now.entries _ _ _ _ c.in-Some.ensures.steps c.loop-name.invariant.walk
      _ (c.in-Some.name, c.in-Some.value) _ _ refl refl c.in_ok-push.ensures.items (c.if-matches.ensures.0 refl);
}

pub returns-in_err-push-clause-none : goal.returns-in_err-push-clause-none
returns-in_err-push-clause-none g c = λ none.
    absurd (walked_silent (λ n. Matches c.args.filter.now n) c.args.pairs.now.entries _ _ _ _ c.in-Some.ensures.steps c.loop-name.invariant.walk none (c.if-matches.ensures.0 refl))

pub loop-name-preserved-in-Next : goal.loop-name-preserved-in-Next
loop-name-preserved-in-Next g c = record {
  can = tt;
  ends = tt;
  walk = walked_without (λ n. Matches c.args.filter.now n) c.args.pairs.now.entries _ _ _ _ c.in-Some.ensures.steps c.loop-name.invariant.walk
      (λ m. let h : IsTrue false = c.if-matches.ensures.1 m in cc);
}

pub loop-name-smaller : goal.loop-name-smaller
loop-name-smaller g c =
    shorter_to (λ n. Matches c.args.filter.now n) c.args.pairs.now.entries _ _ _ _ c.in-Some.ensures.steps c.loop-name.invariant.walk c.range-left.ensures.ordered
    (λ m. let h : IsTrue false = c.if-matches.ensures.1 m in cc)
    c.in-From.bound _ (c.range-left-in-From.ensures.between tt) c.in-From.ensures

pub loop-name-preserved : goal.loop-name-preserved
loop-name-preserved g c =
    record {
      can = tt;
      ends = tt;
      walk = walked_to (λ n. Matches c.args.filter.now n) c.args.pairs.now.entries _ _ _ _ c.in-Some.ensures.steps c.loop-name.invariant.walk c.range-left.ensures.ordered
          (λ m. let h : IsTrue false = c.if-matches.ensures.1 m in cc)
          c.in-From.bound _ (c.range-left-in-From.ensures.between tt) c.in-From.ensures;
    }

pub returns-in-End-clause-pairs : goal.returns-in-End-clause-pairs
returns-in-End-clause-pairs g c =
    walked_over (λ n. Matches c.args.filter.now n) c.args.pairs.now.entries _ _ _ _ c.in-Some.ensures.steps c.loop-name.invariant.walk c.range-left.ensures.ordered
    (λ m. let h : IsTrue false = c.if-matches.ensures.1 m in cc) c.in-End.ensures

pub returns-clause-pairs : goal.returns-clause-pairs
returns-clause-pairs g c = walked_all (λ n. Matches c.args.filter.now n) c.args.pairs.now.entries _ _ c.in_default.ensures.steps.0 c.loop-name.invariant.walk
