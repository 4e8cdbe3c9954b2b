use Rattle.std.proofs.Common.{ap, ◌∙◌}
use Rattle.std.specs.FinSet as set
use Rattle.mqtt_message.proofs.RoomLaws.{on_err}
use Rattle.subscription_set.specs.Standing.{seen_of}
use Rattle.replica_rows.specs.Steps.{subscription_key}
use Rattle.replica_rows.proofs.Merged.{brought_new, brought_put, brought_there}
use Rattle.replica_rows.proofs.changes.add_brought.Goals as goal

pub returns-then-contains-clause-put : goal.returns-then-contains-clause-put
returns-then-contains-clause-put c =
    let seen = c.contains.ensures ∙ ap (λ x. set.contains x c.args.at) (c.seen.ensures ∙ ap seen_of c.subscriptions.ensures) in
    brought_there c.args.store.now c.args.delta.now c.args.at (subscription_key c.args.entry.now c.args.at) c.args.out.now.items c.contains.result seen c.if-contains.true

pub returns-clause-put : goal.returns-clause-put
returns-clause-put c =
    let seen = c.contains.ensures ∙ ap (λ x. set.contains x c.args.at) (c.seen.ensures ∙ ap seen_of c.subscriptions.ensures) in
    brought_put c.args.store.now c.args.delta.now c.args.at c.args.entry.now c.in_ok-row.row c.args.out.now.items c.push.new.self.items c.contains.result seen c.if-contains.false c.in_ok-row.ensures.fits c.requires c.in_ok-row.ensures.row c.in_ok-push.ensures.items

pub returns-in_err-row-clause-memory : goal.returns-in_err-row-clause-memory
returns-in_err-row-clause-memory c =
    let seen = c.contains.ensures ∙ ap (λ x. set.contains x c.args.at) (c.seen.ensures ∙ ap seen_of c.subscriptions.ensures) in
    on_err c.from_residual.result _ (brought_new c.args.store.now c.args.delta.now c.args.at c.contains.result seen c.if-contains.false)

pub returns-in_err-push-clause-memory : goal.returns-in_err-push-clause-memory
returns-in_err-push-clause-memory c =
    let seen = c.contains.ensures ∙ ap (λ x. set.contains x c.args.at) (c.seen.ensures ∙ ap seen_of c.subscriptions.ensures) in
    on_err c.from_residual-in_err-push.result _ (brought_new c.args.store.now c.args.delta.now c.args.at c.contains.result seen c.if-contains.false)
