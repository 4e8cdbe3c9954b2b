use Rattle.std.proofs.Common.{◌∷◌, codes, sym, ◌∙◌, ap, map}
use Rattle.std.proofs.lemmas.List.{map_push}
use Rattle.broker_script.proofs.Commands.{not_bytes}
use Rattle.broker_script.proofs.line.parse_bytes.Goals as goal

pub returns-in_default-parse_fields-clause-none : goal.returns-in_default-parse_fields-clause-none
returns-in_default-parse_fields-clause-none c = λ command r e.
    let cut = ap (map (λ w. w.now)) c.in-Some.ensures.cases.0 ∙ map_push (λ w. w.now) c.in-Some.front.now c.in-Some.last.now in
    not_bytes _ _ (λ ks ns xs one fits two fits_too some bytes same text. c.in_default-parse_fields.ensures.none ks ns one fits two fits_too same) command r (sym (ap (λ ws. codes "bytes" ∷ ws) cut) ∙ e)

pub returns-in-None-clause-none : goal.returns-in-None-clause-none
returns-in-None-clause-none c = λ command r e.
    let cut = ap (map (λ w. w.now)) c.in-Some.ensures.cases.0 ∙ map_push (λ w. w.now) c.in-Some.front.now c.in-Some.last.now in
    not_bytes _ _ (λ ks ns xs one fits two fits_too some bytes same text. (rw c.in-None.is at c.in_ok-bytes.ensures.none) xs bytes some text) command r (sym (ap (λ ws. codes "bytes" ∷ ws) cut) ∙ e)
