use Rattle.std.proofs.Common.{◌≡◌, ℕ, Option, Some, subst}
use Rattle.std.specs.Prelude.{MatchOption}
use Rattle.mqtt3_packets.specs.Cut.{IsPassed}
use Rattle.door_mqtt3.proofs.SentLaws.{next_passed}
use Rattle.door_mqtt3.proofs.sending.put_next.Goals as goal

pub returns-in-Some : goal.returns-in-Some
returns-in-Some c =
    let is : ◌≡◌ {A = Option ℕ} c.in_ok-used.field-0 (Some c.in-Some.used) = cc c.in-Some.is in
    let passed = subst (λ (o : Option ℕ). MatchOption o (c.write_publish_at.new.out.items ≡ c.args.sent.now.items) (λ used. IsPassed c.args.bytes.now used c.args.sent.now.items c.write_publish_at.new.out.items)) is c.in_ok-used.ensures in
    next_passed c.args.level c.args.bytes.now c.args.exchanges.now c.in-Some.used c.args.sent.now.items c.write_publish_at.new.out.items passed
