use Rattle.std.proofs.Common.{Some, true, false, sym, ap, ◌∙◌}
use Rattle.subscription_set.proofs.Alone.{get_by}
use Rattle.subscription_set.proofs.lone_entry.LoneEntry.get.Goals as goal

pub returns-then-not-is_at : goal.returns-then-not-is_at
returns-then-not-is_at c = get_by c.args.self.now c.args.dot false (sym c.is_at.ensures ∙ c.if-not-is_at.true)

pub returns : goal.returns
returns c = ap (λ x. Some x.1) c.self.view_is ∙ get_by c.args.self.now c.args.dot true (sym c.is_at.ensures ∙ c.if-not-is_at.false)
