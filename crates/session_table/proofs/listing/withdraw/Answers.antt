use Rattle.std.proofs.Common.{sym, subst, ◌∙◌}
use Rattle.session_table.specs.Listing.{IsAt}
use Rattle.session_table.proofs.Lists.{taken_at, taken_others}
use Rattle.session_table.proofs.listing.withdraw.Goals as goal

pub returns-in-Some-take-clause-at : goal.returns-in-Some-take-clause-at
returns-in-Some-take-clause-at c =
    taken_at c.args.list.now _ c.args.key.now.1 c.in-Some.at (subst (IsAt c.args.list.now c.args.key.now.1) (sym c.take.ensures.value ∙ c.in-Some.is) c.requires) c.take-2.ensures.left

pub returns-in-Some-take-clause-others : goal.returns-in-Some-take-clause-others
returns-in-Some-take-clause-others c = taken_others c.args.list.now _ c.args.key.now.1 c.in-Some.at c.take-2.ensures.left

pub returns-in-None-clause-at : goal.returns-in-None-clause-at
returns-in-None-clause-at c =
    taken_at c.args.list.now _ c.args.key.now.1 c.in-Some.at (subst (IsAt c.args.list.now c.args.key.now.1) (sym c.take.ensures.value ∙ c.in-Some.is) c.requires) c.take-2.ensures.left

pub returns-in-None-clause-others : goal.returns-in-None-clause-others
returns-in-None-clause-others c = taken_others c.args.list.now _ c.args.key.now.1 c.in-Some.at c.take-2.ensures.left
