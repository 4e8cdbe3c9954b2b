use Rattle.std.proofs.Common.{inl, inr}
use Rattle.row_store.specs.Rows.{entry_of}
use Rattle.replica_bytes.proofs.Loops.{on_ok}
use Rattle.replica_rows.specs.ReadingSteps.{said}
use Rattle.replica_rows.proofs.Refused.{on_err, no_subscription, no_topic, no_dots}
use Rattle.replica_rows.proofs.Saying.{say_subscription, say_topic, say_dots}
use Rattle.replica_rows.proofs.Wanting.{subscription_wants, topic_wants, dots_want}
use Rattle.replica_rows.proofs.reading.take.Goals as goal

pub returns-in-4-clause-ok : goal.returns-in-4-clause-ok
returns-in-4-clause-ok c = on_ok c.take_subscription.result (λ takes _. say_subscription (entry_of c.args.row.now) (said c.args.parts.now) _ takes) c.take_subscription.ensures.ok

pub returns-in-4-clause-bad : goal.returns-in-4-clause-bad
returns-in-4-clause-bad c = on_err c.take_subscription.result (no_subscription (entry_of c.args.row.now) (said c.args.parts.now) c.in-4.is) c.take_subscription.ensures.bad

pub returns-in-5-clause-ok : goal.returns-in-5-clause-ok
returns-in-5-clause-ok c = on_ok c.take_topic.result (λ takes none. say_topic (entry_of c.args.row.now) (said c.args.parts.now) _ takes none) c.take_topic.ensures.ok

pub returns-in-5-clause-bad : goal.returns-in-5-clause-bad
returns-in-5-clause-bad c = on_err c.take_topic.result (no_topic (entry_of c.args.row.now) (said c.args.parts.now) c.in-5.is) c.take_topic.ensures.bad

pub returns-in-6-clause-ok : goal.returns-in-6-clause-ok
returns-in-6-clause-ok c = on_ok c.take_dots.result (λ takes _. say_dots (entry_of c.args.row.now) (said c.args.parts.now) _ takes) c.take_dots.ensures.ok

pub returns-in-6-clause-bad : goal.returns-in-6-clause-bad
returns-in-6-clause-bad c = on_err c.take_dots.result (no_dots (entry_of c.args.row.now) (said c.args.parts.now) c.in-6.is) c.take_dots.ensures.bad

pub returns-in-4-clause-begun : goal.returns-in-4-clause-begun
returns-in-4-clause-begun c = on_ok c.take_subscription.result (λ takes. subscription_wants (entry_of c.args.row.now) takes.value takes.says) c.take_subscription.ensures.ok

pub returns-in-5-clause-begun : goal.returns-in-5-clause-begun
returns-in-5-clause-begun c = on_ok c.take_topic.result (λ takes. topic_wants (entry_of c.args.row.now) takes.value takes.says) c.take_topic.ensures.ok

pub returns-in-6-clause-begun : goal.returns-in-6-clause-begun
returns-in-6-clause-begun c = on_ok c.take_dots.result (λ takes. elim takes [
  | inl taken ↦ dots_want (entry_of c.args.row.now) (1, taken.0) taken.1
  | inr seen ↦ dots_want (entry_of c.args.row.now) (2, seen.0) seen.1
]) c.take_dots.ensures.ok
