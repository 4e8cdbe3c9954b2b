use Rattle.std.proofs.Common.{ap, ◌∙◌}
use Rattle.std.specs.FinMap as map
use Rattle.session_table.specs.Listing.{table}
use Rattle.session_table.specs.declared.seated.Seated.{Seated}
use Rattle.law_maps.proofs.Texts.{insert_table}
use Rattle.session_table.proofs.table.insert_boxed.Goals as goal

pub returns-in-Ok-clause-ok : goal.returns-in-Ok-clause-ok
returns-in-Ok-clause-ok c =
    insert_table c.args.seats.now.entries c.insert.new.self.entries c.args.client c.in_ok-boxed.boxed c.in-Ok.ensures.updates.0
    ∙ ap (λ (x : Seated). map.insert (table c.args.seats.now.entries) c.args.client x) c.in_ok-boxed.ensures.ok

pub returns-clause-err : goal.returns-clause-err
returns-clause-err c = ap table c.in-Err.ensures.err

pub returns-clause-back : goal.returns-clause-back
returns-clause-back c = c.into_inner.ensures ∙ ap (λ p. p.1) c.in-Err.ensures.value_returned ∙ c.in_ok-boxed.ensures.ok
