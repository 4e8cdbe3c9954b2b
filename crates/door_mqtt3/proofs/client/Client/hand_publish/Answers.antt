use Rattle.std.proofs.Common.{◌≡◌, ℕ, Option, Some, length, refl, sym, ap, subst, ◌∙◌, true, arith}
use Rattle.std.specs.Prelude.{MatchOption}
use Rattle.mqtt3_packets.specs.declared.widen.FrontPublish.{FrontPublish}
use Rattle.mqtt3_packets.specs.Widen.{IsWidened}
use Rattle.door_mqtt3.specs.Client.{has_room, limit, opened_with}
use Rattle.door_mqtt3.proofs.Walking.{publish_done}
use Rattle.door_mqtt3.proofs.client.Client.hand_publish.Goals as goal

pub returns-in_ok-note-in-Some : goal.returns-in_ok-note-in-Some
returns-in_ok-note-in-Some c =
    let is : ◌≡◌ {A = Option FrontPublish} c.in_ok-widen_publish_at.field-0 (Some c.in-Some.publish) = cc c.in-Some.is in
    let wide = subst (λ (o : Option FrontPublish). MatchOption o (c.widen_publish_at.new.out ≡ c.args.taken.now.told) (λ x. IsWidened limit c.args.bytes.now x c.args.taken.now.told.items c.widen_publish_at.new.out.items)) is c.in_ok-widen_publish_at.ensures in
    let none : length c.args.self.now.held ≡ 0 = omega (arith, c.len.ensures, c.if-len-ne0.false) in
    let room : has_room c.args.self.now ≡ true = sym c.has_room.ensures ∙ c.if-not-has_room.false in
    publish_done c.args.self.now c.note.new.self c.args.bytes.now c.in-Some.publish c.args.taken.now (record c.args.taken.now { told = c.widen_publish_at.new.out }) none room wide
    (c.in_ok-note-in-Some.ensures ∙ ap (λ (o : Option ℕ). opened_with o c.args.self.now) c.opened_at.ensures) refl
