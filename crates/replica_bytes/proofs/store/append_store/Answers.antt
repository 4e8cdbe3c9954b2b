use Rattle.std.proofs.Common.{◌<◌, ◌^◌, length, subst}
use Rattle.causal_context.specs.Spelling.{context, HasSpelling}
use Rattle.subscription_set.specs.Standing.{standing}
use Rattle.replica_bytes.specs.Stores.{retained, subscriptions}
use Rattle.replica_bytes.proofs.Loops.{on_ok, put_begins, begins_so}
use Rattle.replica_bytes.proofs.Wholes.{few_topics, state_fits}
use Rattle.replica_bytes.proofs.store.append_store.Goals as goal

pub returns-clause-spelling : goal.returns-clause-spelling
returns-clause-spelling c =
    let taken = subst HasSpelling c.taken.ensures c.in_ok-write.ensures.spelling in
    let subs = subst subscriptions.Fits c.subscriptions.ensures c.in_ok-append_subscriptions.ensures.spelling in
    on_ok c.append_retained.result (λ kept. state_fits c.args.store.now taken c.has_seen.ensures subs (subst retained.Fits c.retained.ensures kept)) c.append_retained.ensures.spelling

pub returns-clause-counted : goal.returns-clause-counted
returns-clause-counted c =
    let few = subst (λ m. length (standing m) < 2 ^ 32) c.subscriptions.ensures c.in_ok-append_subscriptions.ensures.counted in
    on_ok c.append_retained.result (λ kept. record { subscriptions = few; topics = few_topics c.args.store.now.retained (subst retained.Fits c.retained.ensures kept) }) c.append_retained.ensures.spelling

pub returns-clause-begins : goal.returns-clause-begins
returns-clause-begins c =
    let first = put_begins c.args.out.now.items c.write.new.out.items (context.bytes c.taken.result.now) c.in_ok-write.ensures.ok in
    begins_so c.args.out.now.items c.append_subscriptions.new.out.items c.append_retained.new.out.items
    (begins_so c.args.out.now.items c.write.new.out.items c.append_subscriptions.new.out.items first c.in_ok-append_subscriptions.ensures.begins) c.append_retained.ensures.begins
