use Rattle.std.proofs.Common.{option_copied, sym, ap, subst, ◌∙◌}
use Rattle.subscription_set.specs.Entries.{is_of}
use Rattle.subscription_set.specs.Indexing.{IsStanding, alone}
use Rattle.subscription_set.proofs.Alone.{alone_stands, other_stands}
use Rattle.subscription_set.proofs.lone_entry.LoneEntry.standing.Goals as goal

pub returns-then-not-is_of : goal.returns-then-not-is_of
returns-then-not-is_of c = other_stands c.args.self.now c.args.client.now (option_copied c.args.filter)
    (ap (λ x. is_of c.args.client.now (option_copied c.args.filter) x.1) (sym c.self.view_is) ∙ sym c.is_of.ensures ∙ c.if-not-is_of.true)

pub returns : goal.returns
returns c = subst (λ x. IsStanding (alone x) c.args.client.now (option_copied c.args.filter) c.self.inside.dots) c.self.view_is
    (alone_stands (c.self.inside.dot, c.self.inside.entry) c.args.client.now (option_copied c.args.filter) c.self.inside.dots (sym c.is_of.ensures ∙ c.if-not-is_of.false) c.self.invariant)
