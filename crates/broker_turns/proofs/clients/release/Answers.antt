use Rattle.std.proofs.Common.{sym, ◌∙◌, ◌∷◌, [], ap}
use Rattle.broker_turns.proofs.Telling.{told_at-more}
use Rattle.broker_turns.specs.Clients.{told_at}
use Rattle.broker_turns.proofs.clients.release.Goals as goal

pub loop-output-preserved : goal.loop-output-preserved
loop-output-preserved g c key =
    c.in_ok-release_one.ensures key
    ∙ ap (λ t. told_at key (c.in-Some.output ∷ []) t) (c.loop-output.invariant key)
    ∙ sym (told_at-more key c.loop-output.yielded c.in-Some.output _)
