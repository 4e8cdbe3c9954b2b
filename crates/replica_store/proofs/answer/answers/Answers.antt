use Rattle.std.proofs.Common.{map as map_list, IsTrue, false, inl, inr, refl, sym, ap, subst, ◌∙◌}
use Rattle.mqtt_topics.specs.Matching.{Matches}
use Rattle.filter_trie.proofs.Jumping.{all_between, walked_to, walked_over, walked_all, shorter_to}
use Rattle.replica_store.specs.Answers.{IsAnswer}
use Rattle.replica_store.proofs.Answering.{Answered, none_of_shared, answered_none, answered_with, answered_past, answered_without, answered_silent, answered_so, shared_of, plain_of}
use Rattle.replica_store.proofs.answer.answers.Goals as goal

pub returns-then-is_some-clause-answer : goal.returns-then-is_some-clause-answer
returns-then-is_some-clause-answer c =
    subst (IsAnswer c.args.filter.now c.args.now c.args.topics.now.entries) (sym (ap (map_list (λ r. r.now)) c.new-out.ensures.items))
    (none_of_shared c.args.filter.now c.args.now c.args.topics.now.entries (shared_of c.args.filter.now _ c.group.result c.group.ensures (sym c.is_some.ensures ∙ c.if-is_some.true)))

pub loop-topic-init : goal.loop-topic-init
loop-topic-init c = record {
  can = tt;
  ends = tt;
  plain = plain_of c.args.filter.now _ c.group.result c.group.ensures (sym c.is_some.ensures ∙ c.if-is_some.false);
  so = answered_none c.args.filter.now c.args.now c.args.topics.now.entries _ _ (c.range-left.ensures.between tt ∙ all_between c.args.topics.now.entries) (ap (map_list _) c.new-out.ensures.items);
}

pub returns-in_err-keep_alive-clause-nothing : goal.returns-in_err-keep_alive-clause-nothing
returns-in_err-keep_alive-clause-nothing c = λ none.
    let full = c.in_err-keep_alive.ensures.full in
    absurd (answered_silent c.args.filter.now c.args.now c.args.topics.now.entries _ _ _ c.in-Some.ensures.steps _ c.loop-topic.invariant.so none full.0
    (record { plain = c.loop-topic.invariant.plain; matches = c.if-matches.ensures.0 refl; kept = full.1 }))

pub loop-topic-preserved-then-matches : goal.loop-topic-preserved-then-matches
loop-topic-preserved-then-matches c = record {
  can = tt;
  ends = tt;
  plain = c.loop-topic.invariant.plain;
  so = elim c.in_ok-keep_alive.ensures.ok [
    | inl has ↦ answered_with c.args.filter.now c.args.now c.args.topics.now.entries _ _ _ c.in-Some.ensures.steps _ c.loop-topic.invariant.so has.0 c.loop-topic.invariant.plain (c.if-matches.ensures.0 refl) has.1 _ has.2
    | inr lacks ↦ subst (λ v. Answered c.args.filter.now c.args.now c.args.topics.now.entries c.next.new.self (map_list (λ r. r.now) v.items)) (sym lacks.1)
        (answered_past c.args.filter.now c.args.now c.args.topics.now.entries _ _ _ c.in-Some.ensures.steps _ c.loop-topic.invariant.so (c.if-matches.ensures.0 refl) lacks.0)
  ];
}

pub loop-topic-preserved-in-Next : goal.loop-topic-preserved-in-Next
loop-topic-preserved-in-Next c = record {
  can = tt;
  ends = tt;
  plain = c.loop-topic.invariant.plain;
  so = answered_without c.args.filter.now c.args.now c.args.topics.now.entries _ _ _ c.in-Some.ensures.steps _ c.loop-topic.invariant.so
      (λ m. let h : IsTrue false = c.if-matches.ensures.1 m in cc);
}

pub loop-topic-smaller : goal.loop-topic-smaller
loop-topic-smaller c =
    shorter_to (λ n. Matches c.args.filter.now n) c.args.topics.now.entries _ _ _ _ c.in-Some.ensures.steps c.loop-topic.invariant.so.walk c.range-left.ensures.ordered
    (λ m. let h : IsTrue false = c.if-matches.ensures.1 m in cc)
    c.in-From.bound _ (c.range-left-in-From.ensures.between tt) c.in-From.ensures

pub loop-topic-preserved : goal.loop-topic-preserved
loop-topic-preserved c = record {
  can = tt;
  ends = tt;
  plain = c.loop-topic.invariant.plain;
  so = record {
    chosen = c.loop-topic.invariant.so.chosen;
    walk = walked_to (λ n. Matches c.args.filter.now n) c.args.topics.now.entries _ _ _ _ c.in-Some.ensures.steps c.loop-topic.invariant.so.walk c.range-left.ensures.ordered
        (λ m. let h : IsTrue false = c.if-matches.ensures.1 m in cc)
        c.in-From.bound _ (c.range-left-in-From.ensures.between tt) c.in-From.ensures;
    answer = c.loop-topic.invariant.so.answer;
  };
}

pub returns-in-End-clause-answer : goal.returns-in-End-clause-answer
returns-in-End-clause-answer c =
    answered_so c.args.filter.now c.args.now c.args.topics.now.entries c.loop-topic.invariant.so.chosen _
    (walked_over (λ n. Matches c.args.filter.now n) c.args.topics.now.entries _ _ _ _ c.in-Some.ensures.steps c.loop-topic.invariant.so.walk c.range-left.ensures.ordered
    (λ m. let h : IsTrue false = c.if-matches.ensures.1 m in cc) c.in-End.ensures)
    c.loop-topic.invariant.so.answer

pub returns-clause-answer : goal.returns-clause-answer
returns-clause-answer c =
    answered_so c.args.filter.now c.args.now c.args.topics.now.entries c.loop-topic.invariant.so.chosen _
    (walked_all (λ n. Matches c.args.filter.now n) c.args.topics.now.entries _ _ c.in_default.ensures.steps.0 c.loop-topic.invariant.so.walk)
    c.loop-topic.invariant.so.answer
