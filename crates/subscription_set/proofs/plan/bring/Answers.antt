use Rattle.subscription_set.proofs.Joins.{cleared_back, on_err}
use Rattle.subscription_set.proofs.plan.bring.Goals as goal

pub returns-then-is_err-clause-err : goal.returns-then-is_err-clause-err
returns-then-is_err-clause-err c = on_err c.bring_each-brought.result (cleared_back c.args.entries.now c.bring_each-brought.new.entries c.clear.new.entries c.args.dots.now c.requires c.bring_each-brought.ensures.others c.clear.ensures)
