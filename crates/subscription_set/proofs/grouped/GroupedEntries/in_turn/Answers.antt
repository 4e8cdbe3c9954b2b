use Rattle.std.proofs.Common.{ℕ, List, None, option_copied, sym, ap, subst, ◌∙◌}
use Rattle.std.specs.FinSet as set
use Rattle.subscription_set.specs.Filing.{IsGroup, text_cmp}
use Rattle.subscription_set.specs.Indexing.{ByDot}
use Rattle.subscription_set.specs.Members.{IsInTurn}
use Rattle.subscription_set.proofs.Membership.{none_seated, some_seated}
use Rattle.subscription_set.proofs.grouped.GroupedEntries.in_turn.Goals as goal

pub returns-in-None : goal.returns-in-None
returns-in-None c = subst (λ (m : ByDot). IsInTurn m c.args.filter.now c.args.turn None) c.self.view_is
    (none_seated c.self.inside.entries c.self.inside.members c.self.invariant c.args.filter.now c.requires c.args.turn
    (λ k. ap (λ (f : List ℕ). set.contains c.self.inside.members (f, k)) (sym c.as_text.ensures.same) ∙ c.in-None.ensures k))

pub returns-in-Some : goal.returns-in-Some
returns-in-Some c = subst (λ (m : ByDot). IsInTurn m c.args.filter.now c.args.turn (option_copied c.in_turn.result)) c.self.view_is
    (some_seated c.self.inside.entries c.self.inside.members c.self.invariant c.args.filter.now c.requires c.in-Some.clients.now c.args.turn (option_copied c.in_turn.result)
    (subst (λ (f : List ℕ). IsGroup text_cmp text_cmp c.self.inside.members f c.in-Some.clients.now) c.as_text.ensures.same c.in-Some.ensures) c.in_turn.ensures)
