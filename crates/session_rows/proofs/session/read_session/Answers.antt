use Rattle.std.proofs.Common.{ap}
use Rattle.std.proofs.lemmas.Result.{err_from_is_err_and}
use Rattle.session_rows.specs.Durable.{Durable}
use Rattle.session_rows.proofs.DurableLaws.{made_ok, made_bad, bad_stops, not_reachable, not_sound}
use Rattle.session_rows.proofs.session.read_session.Goals as goal

pub returns-in_err-parts-clause-bad : goal.returns-in_err-parts-clause-bad
returns-in_err-parts-clause-bad c =
    let p = err_from_is_err_and c.from_residual.result c.from_residual.ensures.1 in
    bad_stops c.from_residual.result c.in_err-parts.field-0.0 p.0 _ p.1 p.2 c.in_err-parts.ensures.said

pub returns-then-not-is_sound-clause-bad : goal.returns-then-not-is_sound-clause-bad
returns-then-not-is_sound-clause-bad c = λ _ d durable rows.
    not_sound _ d c.in_ok-parts.parts durable rows c.in_ok-parts.ensures.said
    (λ sound. let e = c.is_sound.ensures.1 (rw (ap (λ (x : Durable). x.main) c.parts.view_is) sound) in let f = c.if-not-is_sound.true in cc)

pub returns-then-not-are_reachable-clause-bad : goal.returns-then-not-are_reachable-clause-bad
returns-then-not-are_reachable-clause-bad c = λ _ d durable rows.
    not_reachable _ d c.in_ok-parts.parts durable rows c.in_ok-parts.ensures.said
    (λ reachable. let e = c.are_reachable.ensures.1 reachable in let f = c.if-not-are_reachable.true in cc)

pub returns-clause-ok : goal.returns-clause-ok
returns-clause-ok c =
    made_ok c.open_parts.result _ c.in_ok-parts.parts c.in_ok-parts.ensures.bytes c.in_ok-parts.ensures.said
    (rw (← ap (λ (x : Durable). x.main) c.parts.view_is) (c.is_sound.ensures.0 c.if-not-is_sound.false)) (c.are_reachable.ensures.0 c.if-not-are_reachable.false) c.open_parts.ensures

pub returns-clause-bad : goal.returns-clause-bad
returns-clause-bad c = made_bad c.open_parts.result _ c.in_ok-parts.parts c.in_ok-parts.ensures.said c.open_parts.ensures
