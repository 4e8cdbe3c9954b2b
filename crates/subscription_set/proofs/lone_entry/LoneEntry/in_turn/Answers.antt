use Rattle.std.proofs.Common.{Some, None, sym, subst, ◌∙◌}
use Rattle.causal_context.specs.Dots.{Dot}
use Rattle.subscription_set.specs.Entries.{Entry}
use Rattle.subscription_set.specs.Indexing.{alone}
use Rattle.subscription_set.specs.Members.{IsInTurn}
use Rattle.subscription_set.proofs.Membership.{alone_in_turn, alone_not_in_turn}
use Rattle.subscription_set.proofs.lone_entry.LoneEntry.in_turn.Goals as goal

pub returns-then-not-has_filter : goal.returns-then-not-has_filter
returns-then-not-has_filter c = λ turn. subst (λ (y : Dot × Entry). IsInTurn (alone y) c.args.filter.now turn None) c.self.view_is
    (alone_not_in_turn (c.self.inside.dot, c.self.inside.entry) c.args.filter.now turn (sym c.has_filter.ensures ∙ c.if-not-has_filter.true))

pub returns : goal.returns
returns c = λ turn. subst (λ (y : Dot × Entry). IsInTurn (alone y) c.args.filter.now turn (Some c.client.result.now)) c.self.view_is
    (subst (λ k. IsInTurn (alone (c.self.inside.dot, c.self.inside.entry)) c.args.filter.now turn (Some k)) (sym c.client.ensures)
    (alone_in_turn (c.self.inside.dot, c.self.inside.entry) c.args.filter.now turn (sym c.has_filter.ensures ∙ c.if-not-has_filter.false)))
