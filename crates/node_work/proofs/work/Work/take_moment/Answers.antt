use Rattle.std.proofs.Common.{Some, refl, subst, not, nat_lt, ◌^◌, ◌≡◌, false}
use Rattle.node_work.specs.Acts.{MomentTaken}
use Rattle.node_work.specs.Doings.{TakesMoment}
use Rattle.node_work.specs.View.{WorkView}
use Rattle.node_work.specs.Working.{Did}
use Rattle.node_work.proofs.Making.{below_moment, past_end}
use Rattle.node_work.proofs.Working.{did_numbered, did_at_end, did_silent}
use Rattle.node_work.proofs.work.Work.take_moment.Goals as goal

pub returns-clause-comes : goal.returns-clause-comes
returns-clause-comes c =
    let before : WorkView = record { place = record { id = c.self.inside.id; nodes = c.self.inside.nodes }; held = c.self.inside.held; outputs = c.self.inside.outputs.items; changes = c.self.inside.changes.items } in
    let after : WorkView = record before { held = c.take_moment.new.self } in
    let below : not (nat_lt c.args.at (2 ^ 62)) ≡ false = below_moment c.args.at c.if-at-ge-NUMBERS_END.false in
    subst (λ w. Did w after (TakesMoment c.args.at (Some tt))) c.self.view_is
    (did_numbered (λ p h. not (nat_lt c.args.at (2 ^ 62))) (λ p h. MomentTaken c.args.at) before after below (did_silent (λ p h. MomentTaken c.args.at) before c.take_moment.new.self tt refl refl c.take_moment.ensures))

pub returns-then-at-ge-NUMBERS_END-clause-comes : goal.returns-then-at-ge-NUMBERS_END-clause-comes
returns-then-at-ge-NUMBERS_END-clause-comes c =
    let w = c.args.self.now in
    (w, did_at_end (λ p h. not (nat_lt c.args.at (2 ^ 62))) (λ p h. MomentTaken c.args.at) w w (past_end c.args.at c.if-at-ge-NUMBERS_END.true) refl)
