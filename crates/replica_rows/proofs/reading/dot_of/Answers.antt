use Rattle.std.proofs.Common.{ℕ, Bor, List, sym, subst, ◌∙◌}
use Rattle.std.proofs.lemmas.Bool.{eqb-true}
use Rattle.causal_context.specs.Dots.{Dot}
use Rattle.mqtt_fields.specs.Reading.{Gives}
use Rattle.replica_bytes.specs.Values.{dot}
use Rattle.replica_bytes.proofs.Wholes.{dot_is}
use Rattle.mqtt_fields.proofs.Whole.{whole_found}
use Rattle.replica_rows.proofs.reading.dot_of.Goals as goal

pub returns-then-is_empty-clause-found : goal.returns-then-is_empty-clause-found
returns-then-is_empty-clause-found c =
    let read = subst (λ r. Gives {X = Dot × Bor (List ℕ)} (λ x. (x.0, x.1.now)) r (dot.at c.args.place.now)) c.in-Ok.is c.dot_at.ensures.exact in
    whole_found dot dot_is c.args.place.now (c.in-Ok.dot, c.in-Ok.rest.now) c.are_bytes.ensures read (eqb-true _ 0 (sym c.is_empty.ensures ∙ c.if-is_empty.true))
