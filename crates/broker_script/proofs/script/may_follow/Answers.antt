use Rattle.std.proofs.Common.{◌↔◌, ◌++◌, ◌∷◌, [], Bool, ◌&&◌, IsTrue, subst, refl, sym}
use Rattle.std.specs.List.{list_all}
use Rattle.broker_script.specs.Line.{line_words}
use Rattle.broker_script.specs.Script.{IsSound, prefix_in, may_precede}
use Rattle.broker_script.proofs.Scripts.{follows}
use Rattle.broker_script.proofs.script.may_follow.Goals as goal

pub returns-then-fits : goal.returns-then-fits
returns-then-fits c =
    subst (λ (b : Bool). IsTrue (b && c.comes_after.result) ↔ IsSound (c.args.commands.now ++ c.args.next.now ∷ [])) c.if-fits.true
    (follows c.args.commands.now c.in-Some.rest.now c.in-Some.first.now c.args.next.now _ c.fits.result c.comes_after.result c.in-Some.ensures.cases.0 c.count-in-Some.ensures c.fits.ensures c.comes_after.ensures c.requires)

pub returns-else-fits : goal.returns-else-fits
returns-else-fits c =
    let sound = IsSound (c.args.commands.now ++ c.args.next.now ∷ []) in
    subst (λ (b : Bool). IsTrue b ↔ sound) (sym c.if-fits.false)
    (subst (λ (b : Bool). IsTrue (b && list_all (λ x. may_precede (prefix_in (line_words x)) (prefix_in (line_words c.args.next.now))) c.in-Some.rest.now) ↔ IsSound (c.args.commands.now ++ c.args.next.now ∷ [])) c.if-fits.false
    (follows c.args.commands.now c.in-Some.rest.now c.in-Some.first.now c.args.next.now _ c.fits.result _ c.in-Some.ensures.cases.0 c.count-in-Some.ensures c.fits.ensures refl c.requires))
