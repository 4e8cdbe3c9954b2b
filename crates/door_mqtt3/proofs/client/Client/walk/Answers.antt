use Rattle.std.proofs.Common.{◌≡◌, ◌-◌, ◌+◌, ℕ, List, Option, Some, None, length, drop, true, false, sym, subst, arith}
use Rattle.door_mqtt3.specs.Client.{halts, walk}
use Rattle.door_mqtt3.specs.Doing.{IsDone, IsPassing, IsUndone}
use Rattle.door_mqtt3.proofs.Walking.{IsWalking, all_done, begins, goes_on_done, halts_at, rest_same, rest_then, undone_at}
use Rattle.door_mqtt3.proofs.client.Client.walk.Goals as goal

pub loop-count-init : goal.loop-count-init
loop-count-init c = record {
  last = rest_same c.args.bytes.now;
  walking = begins c.args.order c.args.self.now c.args.bytes.now (length c.args.bytes.now) c.args.taken.now;
}

pub returns-then-halts-clause-walk : goal.returns-then-halts-clause-walk
returns-then-halts-clause-walk c =
    let off : halts c.args.order c.loop-count.self ≡ true = cc (c.halts.ensures, c.if-halts.true) in
    halts_at (walk c.args.order c.args.self.now c.args.bytes.now) (length c.args.bytes.now) c.args.order c.loop-count.count c.loop-count.self c.loop-count.rest.now c.args.taken.now c.loop-count.taken
    (drop (length c.args.bytes.now - length c.loop-count.rest.now) c.args.bytes.now) c.loop-count-test.true off (sym c.loop-count.invariant.last.1) c.loop-count.invariant.walking

pub returns-in-None-clause-walk : goal.returns-in-None-clause-walk
returns-in-None-clause-walk c =
    let on : halts c.args.order c.loop-count.self ≡ false = cc (c.halts.ensures, c.if-halts.false) in
    let is : ◌≡◌ {A = Option ℕ} c.in_ok-used.field-0 None = cc c.in-None.is in
    let undone : IsUndone c.args.order c.loop-count.rest.now c.loop-count.self c.pass_next.new.self c.loop-count.taken c.pass_next.new.taken =
    subst (λ (o : Option ℕ). IsPassing c.args.order c.loop-count.rest.now c.loop-count.self c.pass_next.new.self c.loop-count.taken c.pass_next.new.taken o) is c.in_ok-used.ensures in
    undone_at (walk c.args.order c.args.self.now c.args.bytes.now) (length c.args.bytes.now) c.args.order c.loop-count.count c.loop-count.self c.loop-count.rest.now c.args.taken.now c.loop-count.taken
    (drop (length c.args.bytes.now - length c.loop-count.rest.now) c.args.bytes.now) c.pass_next.new.self c.pass_next.new.taken c.loop-count-test.true on undone (sym c.loop-count.invariant.last.1) c.loop-count.invariant.walking

pub loop-count-preserved : goal.loop-count-preserved
loop-count-preserved c =
    let on : halts c.args.order c.loop-count.self ≡ false = cc (c.halts.ensures, c.if-halts.false) in
    let is : ◌≡◌ {A = Option ℕ} c.in_ok-used.field-0 (Some c.in-Some.used) = cc c.in-Some.is in
    let done : IsDone c.args.order c.loop-count.rest.now c.in-Some.used c.loop-count.self c.pass_next.new.self c.loop-count.taken c.pass_next.new.taken =
    subst (λ (o : Option ℕ). IsPassing c.args.order c.loop-count.rest.now c.loop-count.self c.pass_next.new.self c.loop-count.taken c.pass_next.new.taken o) is c.in_ok-used.ensures in
    let walked =
    goes_on_done (walk c.args.order c.args.self.now c.args.bytes.now) (length c.args.bytes.now) c.args.order c.loop-count.count c.loop-count.self c.loop-count.rest.now c.args.taken.now c.loop-count.taken
    c.in-Some.used c.pass_next.new.self c.pass_next.new.taken c.loop-count-test.true on done c.loop-count.invariant.walking in
    record {
      last = rest_then c.args.bytes.now c.loop-count.rest.now c.in-Some.used c.after-rest.result.now done.fits c.after-rest.ensures c.loop-count.invariant.last;
      walking = subst (λ (xs : List ℕ). IsWalking (walk c.args.order c.args.self.now c.args.bytes.now) (length c.args.bytes.now) c.args.order (c.loop-count.count + 1) c.pass_next.new.self xs c.args.taken.now c.pass_next.new.taken) (sym c.after-rest.ensures) walked;
    }

pub returns-clause-walk : goal.returns-clause-walk
returns-clause-walk c =
    let none : length c.args.bytes.now - c.loop-count.count ≡ 0 = omega (arith, c.loop-count-test.false) in
    all_done (walk c.args.order c.args.self.now c.args.bytes.now) (length c.args.bytes.now) c.args.order c.loop-count.count c.loop-count.self c.loop-count.rest.now c.args.taken.now c.loop-count.taken
    (drop (length c.args.bytes.now - length c.loop-count.rest.now) c.args.bytes.now) none (sym c.loop-count.invariant.last.1) c.loop-count.invariant.walking
