use Rattle.std.proofs.Common.{◌≡◌, ◌-◌, length, subst, arith}
use Rattle.door_mqtt3.specs.declared.sending.Next.{Next}
use Rattle.door_mqtt3.specs.declared.sending.Next.TheVariants as nexts
use Rattle.door_mqtt3.specs.Sending.{IsNext}
use Rattle.door_mqtt3.proofs.SentLaws.{all_done, begins, ends_at, goes_on, stops_at}
use Rattle.door_mqtt3.proofs.sending.put_packets.Goals as goal

pub loop-count-init : goal.loop-count-init
loop-count-init c = begins c.args.level c.args.exchanges.now c.args.sent.now.items c.args.bytes.now (length c.args.bytes.now)

pub returns-in-Ends : goal.returns-in-Ends
returns-in-Ends c =
    let is : ◌≡◌ {A = Next} c.in_ok-used.field-0 nexts.Ends = cc c.in-Ends.is in
    let next = subst (λ (x : Next). IsNext c.args.level c.loop-count.rest.now c.loop-count.exchanges c.put_next.new.exchanges c.loop-count.sent.items c.put_next.new.sent.items x) is c.in_ok-used.ensures in
    ends_at c.args.level c.args.exchanges.now c.args.sent.now.items c.args.bytes.now (length c.args.bytes.now) c.loop-count.sent.items c.loop-count.exchanges c.loop-count.rest.now c.loop-count.count
    c.put_next.new.sent.items c.put_next.new.exchanges c.loop-count-test.true next c.loop-count.invariant

pub returns-in-Stops : goal.returns-in-Stops
returns-in-Stops c =
    let is : ◌≡◌ {A = Next} c.in_ok-used.field-0 nexts.Stops = cc c.in-Stops.is in
    let next = subst (λ (x : Next). IsNext c.args.level c.loop-count.rest.now c.loop-count.exchanges c.put_next.new.exchanges c.loop-count.sent.items c.put_next.new.sent.items x) is c.in_ok-used.ensures in
    stops_at c.args.level c.args.exchanges.now c.args.sent.now.items c.args.bytes.now (length c.args.bytes.now) c.loop-count.sent.items c.loop-count.exchanges c.loop-count.rest.now c.loop-count.count
    c.put_next.new.sent.items c.put_next.new.exchanges c.loop-count-test.true next c.loop-count.invariant

pub loop-count-preserved : goal.loop-count-preserved
loop-count-preserved c =
    let is : ◌≡◌ {A = Next} c.in_ok-used.field-0 (nexts.Put c.in-Put.used) = cc c.in-Put.is in
    let next = subst (λ (x : Next). IsNext c.args.level c.loop-count.rest.now c.loop-count.exchanges c.put_next.new.exchanges c.loop-count.sent.items c.put_next.new.sent.items x) is c.in_ok-used.ensures in
    goes_on c.args.level c.args.exchanges.now c.args.sent.now.items c.args.bytes.now (length c.args.bytes.now) c.loop-count.sent.items c.loop-count.exchanges c.loop-count.rest.now c.loop-count.count
    c.in-Put.used c.after-rest.result.now c.put_next.new.sent.items c.put_next.new.exchanges c.loop-count-test.true next c.after-rest.ensures c.loop-count.invariant

pub returns : goal.returns
returns c =
    let none : length c.args.bytes.now - c.loop-count.count ≡ 0 = omega (arith, c.loop-count-test.false) in
    all_done c.args.level c.args.exchanges.now c.args.sent.now.items c.args.bytes.now (length c.args.bytes.now) c.loop-count.sent.items c.loop-count.exchanges c.loop-count.rest.now c.loop-count.count none c.loop-count.invariant
