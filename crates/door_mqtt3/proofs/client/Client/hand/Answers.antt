use Rattle.std.proofs.Common.{◌≡◌, Option, ℕ, false, refl, ap, ◌∙◌}
use Rattle.door_mqtt3.specs.Asked.{is_refused}
use Rattle.door_mqtt3.specs.Client.{opened_with}
use Rattle.door_mqtt3.proofs.Walking.{hand_on}
use Rattle.door_mqtt3.proofs.client.Client.hand.Goals as goal

pub returns : goal.returns
returns c =
    let let_in : is_refused c.args.self.now.level c.args.packet ≡ false = cc (c.is_refused.ensures, c.if-is_refused.false) in
    hand_on c.args.self.now c.note.new.self c.args.packet c.in_ok-asking.asking c.args.taken.now (record c.args.taken.now { told = c.put_packet.new.told })
    let_in (c.in_ok-note.ensures ∙ ap (λ (o : Option ℕ). opened_with o c.args.self.now) c.opened_by.ensures) c.in_ok-asking.ensures c.in_ok-put_packet.ensures refl
