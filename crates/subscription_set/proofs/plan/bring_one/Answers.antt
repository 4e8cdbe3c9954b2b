use Rattle.std.proofs.Common.{Some, sym, ap, ◌∙◌}
use Rattle.std.specs.FinMap as map
use Rattle.std.specs.Option.{option_copied}
use Rattle.std.proofs.lemmas.Result.{on_ok_weaker}
use Rattle.subscription_set.proofs.Joins.{brought_one, no_entry}
use Rattle.subscription_set.proofs.plan.bring_one.Goals as goal

pub returns-in_ok-copy-in-Some-clause-ok : goal.returns-in_ok-copy-in-Some-clause-ok
returns-in_ok-copy-in-Some-clause-ok c =
    on_ok_weaker c.add.result (λ is q. ap (λ m. map.get m q) is
    ∙ brought_one c.args.entries.now c.args.others.now c.args.dot c.in_ok-copy-in-Some.copy (no_entry c.get.result (map.get c.args.entries.now c.args.dot) c.get.ensures c.if-is_some.ensures)
    (sym c.get-2.ensures ∙ ap option_copied c.in-Some.is ∙ ap Some (sym c.in_ok-copy-in-Some.ensures)) q) c.add.ensures.ok
