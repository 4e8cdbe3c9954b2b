use Rattle.std.specs.Cmp.Lexicographic.{other_text}
use Rattle.mqtt_topics.specs.Levels.{single_level}
use Rattle.filter_trie.specs.Search.Steps.{some_step}
use Rattle.filter_trie.proofs.TopicWalk.{past_level, covers_level, covers_own}
use Rattle.filter_trie.proofs.steps.topic_step.Goals as goal

pub returns-then-eq-clause-past : goal.returns-then-eq-clause-past
returns-then-eq-clause-past c = past_level c.args.rest.now c.args.level.now c.args.later c.requires.cut

pub returns-then-eq-clause-covers : goal.returns-then-eq-clause-covers
returns-then-eq-clause-covers c = λ filters t m after. covers_level c.args.rest.now c.args.level.now c.args.later c.requires.cut t after

pub returns-clause-covers : goal.returns-clause-covers
returns-clause-covers c = λ filters.
    covers_own c.args.rest.now c.args.level.now c.args.later c.requires.cut c.args.own.now filters (some_step c.level_step.result)
    c.requires.multi (other_text c.args.own.now single_level c.if-eq.ensures) c.level_step.ensures.covers
