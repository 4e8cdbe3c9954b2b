use Rattle.std.proofs.Common.{◌∙◌}
use Rattle.replica_store.specs.Contents.{topic_in, message_in}
use Rattle.replica_store.specs.Retained.{retained_join, one_put}
use Rattle.replica_store.proofs.Keeping.{empty-join}
use Rattle.replica_store.proofs.delta.retained_by.Goals as goal

pub returns : goal.returns
returns c =
    c.in_ok-put.ensures.ok
    ∙ (λ i. retained_join (c.new-retained.ensures i) (one_put (topic_in (c.in_ok-content.ensures i)) (record { stamp = c.args.stamp; message = message_in (c.in_ok-content.ensures i) })))
    ∙ empty-join _
