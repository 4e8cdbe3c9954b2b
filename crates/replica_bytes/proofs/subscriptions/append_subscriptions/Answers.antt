use Rattle.std.proofs.Common.{rules, ◌<◌, ◌^◌, length}
use Rattle.std.specs.Int.{w32}
use Rattle.mqtt_fields.specs.Numbers.{number}
use Rattle.causal_context.specs.Spelling.{context, HasSpelling}
use Rattle.subscription_set.specs.Standing.{standing, seen_of}
use Rattle.replica_bytes.proofs.Loops.{on_ok, put_begins, begins_so}
use Rattle.replica_bytes.proofs.Wholes.{subscriptions_fit}
use Rattle.replica_bytes.proofs.subscriptions.append_subscriptions.Goals as goal

pub returns-clause-spelling : goal.returns-clause-spelling
returns-clause-spelling c =
    let few : length (standing c.args.set.now) < 2 ^ 32 = search rules in
    let seen : HasSpelling (seen_of c.args.set.now) = search rules in
    on_ok c.append_entries.result (λ all. subscriptions_fit c.args.set.now seen few all) c.append_entries.ensures.spelling

pub returns-clause-begins : goal.returns-clause-begins
returns-clause-begins c =
    let first = put_begins c.args.out.now.items c.write.new.out.items (context.bytes c.seen.result.now) c.in_ok-write.ensures.ok in
    let second = put_begins c.write.new.out.items c.put_u32.new.out.items ((number w32).bytes c.in-Some.count) c.in_ok-put_u32.ensures.ok in
    begins_so c.args.out.now.items c.put_u32.new.out.items c.append_entries.new.out.items (begins_so c.args.out.now.items c.write.new.out.items c.put_u32.new.out.items first second) c.append_entries.ensures.begins
