use Rattle.std.proofs.Common.{Some, refl, sym, subst, ap, ◌^◌, ◌≤◌, ◌<◌, ◌∙◌}
use Rattle.node_work.specs.Acts.{Passed}
use Rattle.node_work.specs.Passing.{IsPassed, turn_at_end}
use Rattle.node_work.specs.View.{WorkView}
use Rattle.node_work.specs.Working.{Did, Numbered}
use Rattle.node_work.proofs.Making.{below_moment, past_end}
use Rattle.node_work.proofs.Working.{did_numbered, did_at_end, did_silent}
use Rattle.node_work.proofs.work.Work.pass.Goals as goal

pub returns-then-turn-ge-NUMBERS_END-clause-comes : goal.returns-then-turn-ge-NUMBERS_END-clause-comes
returns-then-turn-ge-NUMBERS_END-clause-comes c = λ m copies routes is.
    let w = c.args.self.now in
    let turns = c.turn.ensures ∙ ap (λ (v : WorkView). v.held.turn) c.self.view_is in
    (w, did_at_end turn_at_end (λ p h. Passed m copies c.args.lost routes) w w (past_end w.held.turn (subst (λ n. 2 ^ 62 ≤ n) turns c.if-turn-ge-NUMBERS_END.true)) refl)

pub returns-clause-comes : goal.returns-clause-comes
returns-clause-comes c = λ m copies routes is.
    let before : WorkView = record { place = record { id = c.self.inside.id; nodes = c.self.inside.nodes }; held = c.self.inside.held; outputs = c.self.inside.outputs.items; changes = c.self.inside.changes.items } in
    let after : WorkView = record before { held = c.pass.new.self } in
    let a = Passed m copies c.args.lost routes in
    let below = subst (λ n. n < 2 ^ 62) c.turn.ensures c.if-turn-ge-NUMBERS_END.false in
    let passed = subst (λ (v : WorkView). IsPassed v.place v.held m copies c.args.lost routes) (sym c.self.view_is) is in
    subst (λ w. Did w after (Numbered turn_at_end (λ p h. a) (Some tt))) c.self.view_is
    (did_numbered turn_at_end (λ p h. a) before after (below_moment before.held.turn below) (did_silent (λ p h. a) before c.pass.new.self (below, passed) refl refl c.pass.ensures))
