use Rattle.std.proofs.Common.{[], ◌∷◌, ◌++◌, length, Err, refl, ap, ◌∙◌}
use Rattle.std.proofs.lemmas.Result.{on_ok_weaker}
use Rattle.bridge_frames.specs.Frames.{content, limit}
use Rattle.node_work.specs.declared.counts.Missed.TheVariants.{FrameTooLarge}
use Rattle.node_work.specs.declared.outcome.Output.TheVariants.{Frame as Release}
use Rattle.node_work.specs.Acts.{Bridge}
use Rattle.node_work.specs.Doings.{Misses, is_small}
use Rattle.node_work.specs.Held.Bridge.{Gave}
use Rattle.node_work.specs.Working.{Acting}
use Rattle.node_work.proofs.Bridging.{large, small}
use Rattle.node_work.proofs.Working.{comes_act, comes_if, comes_if_not}
use Rattle.node_work.proofs.work.Work.release.Goals as goal

pub returns-in-Ok-clause-comes : goal.returns-in-Ok-clause-comes
returns-in-Ok-clause-comes c =
    let w = c.args.self.now in
    let f = c.args.frame in
    let e = c.in-Ok.ensures in
    let a = Bridge (Gave f) in
    comes_if (λ x. x) c.give.result w c.give.new.self (is_small f) (Acting (λ p h. a)) (Misses FrameTooLarge) (small (length (content.bytes f)) limit e.small)
    (comes_act c.give.result (λ p h. a) w c.give.new.self (record { from = c.requires.from; carries = c.requires.carries; small = e.small; spelled = e.spelled }) refl
    (on_ok_weaker c.give.result (λ g. g ∙ ap (λ o. record w { outputs = w.outputs ++ Release o ∷ [] }) e.ok) c.give.ensures.ok) c.give.ensures.fault)

pub returns-in-Err-TooLarge-clause-comes : goal.returns-in-Err-TooLarge-clause-comes
returns-in-Err-TooLarge-clause-comes c =
    let f = c.args.frame in
    let big = c.in-Err-TooLarge.ensures.large (ap Err c.in-Err-TooLarge.field-0-is) in
    comes_if_not (λ x. x) c.miss.result c.args.self.now c.miss.new.self (is_small f) (Acting (λ p h. Bridge (Gave f))) (Misses FrameTooLarge) (large (length (content.bytes f)) limit big) c.miss.ensures.comes
