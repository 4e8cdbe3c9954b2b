use Rattle.std.proofs.Common.{refl, subst}
use Rattle.node_work.specs.Acts.{Bridge}
use Rattle.node_work.specs.Held.Bridge.{Greeted}
use Rattle.node_work.specs.View.{WorkView}
use Rattle.node_work.specs.Working.{ComesTo, Acting}
use Rattle.node_work.proofs.Working.{comes_silent}
use Rattle.node_work.proofs.work.Work.greet.Goals as goal

pub returns-clause-comes : goal.returns-clause-comes
returns-clause-comes c =
    let before : WorkView = record { place = record { id = c.self.inside.id; nodes = c.self.inside.nodes }; held = c.self.inside.held; outputs = c.self.inside.outputs.items; changes = c.self.inside.changes.items } in
    let after : WorkView = record before { held = c.greet.new.self } in
    let a = Bridge (Greeted c.args.peer c.args.greeting.now) in
    subst (λ w. ComesTo (λ x. x) c.greet.result w after (Acting (λ p h. a))) c.self.view_is (comes_silent (λ p h. a) before c.greet.new.self tt refl refl c.greet.result c.greet.ensures.ok c.greet.ensures.fault)
