use Rattle.std.proofs.Common.{◌≡◌, ℕ, Option, Some, None, subst}
use Rattle.std.specs.Prelude.{MatchOption}
use Rattle.door_mqtt3.specs.Doing.{IsDone, IsUntouched}
use Rattle.door_mqtt3.specs.declared.client.Order.{Order}
use Rattle.door_mqtt3.proofs.Walking.{passed_then}
use Rattle.door_mqtt3.proofs.client.Client.pass_next.Goals as goal

pub returns-in-Some : goal.returns-in-Some
returns-in-Some c =
    let is : ◌≡◌ {A = Option ℕ} c.in_ok-used.field-0 (Some c.in-Some.used) = cc c.in-Some.is in
    let done = subst (λ (o : Option ℕ). MatchOption o (IsUntouched c.args.self.now c.hand_publish.new.self c.args.taken.now c.hand_publish.new.taken) (λ used. (order : Order) → IsDone order c.args.bytes.now used c.args.self.now c.hand_publish.new.self c.args.taken.now c.hand_publish.new.taken)) is c.in_ok-used.ensures in
    done c.args.order

pub returns-in-None : goal.returns-in-None
returns-in-None c =
    let is : ◌≡◌ {A = Option ℕ} c.in_ok-used.field-0 None = cc c.in-None.is in
    let kept = subst (λ (o : Option ℕ). MatchOption o (IsUntouched c.args.self.now c.hand_publish.new.self c.args.taken.now c.hand_publish.new.taken) (λ used. (order : Order) → IsDone order c.args.bytes.now used c.args.self.now c.hand_publish.new.self c.args.taken.now c.hand_publish.new.taken)) is c.in_ok-used.ensures in
    passed_then c.args.order c.args.bytes.now c.args.self.now c.hand_publish.new.self c.pass_read.new.self c.args.taken.now c.hand_publish.new.taken c.pass_read.new.taken c.pass_read.result kept c.pass_read.ensures
