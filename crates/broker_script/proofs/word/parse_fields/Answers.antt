use Rattle.std.proofs.Common.{◌∙◌, ap, map}
use Rattle.broker_script.proofs.Words.{front_fields, back_fields}
use Rattle.broker_script.proofs.word.parse_fields.Goals as goal

pub returns-in_err-nodes-clause-none : goal.returns-in_err-nodes-clause-none
returns-in_err-nodes-clause-none g c =
    rw c.from_residual.ensures (λ ks ns long fits long_too fits_too e. c.in_err-nodes.ensures.none ks long fits
    (ap (map (λ w. w.now)) c.split_at.ensures.front ∙ front_fields (λ w. w.now) c.args.words.now ks ns _ long e))

pub returns-in_err-numbers-clause-none : goal.returns-in_err-numbers-clause-none
returns-in_err-numbers-clause-none g c =
    rw c.from_residual-in_err-numbers.ensures (λ ks ns long fits long_too fits_too e. c.in_err-numbers.ensures.none ns long_too fits_too
    (ap (map (λ w. w.now)) c.split_at.ensures.back ∙ back_fields (λ w. w.now) c.args.words.now ks ns _ long e))
