use Rattle.std.proofs.Common.{refl}
use Rattle.std.specs.FinMap as map
use Rattle.std.proofs.Common.{◌≡◌, IfOk, OnErr, true, subst}
use Rattle.std.specs.List.{list_any}
use Rattle.std.specs.Option.{option_copied}
use Rattle.subscription_set.specs.Entries.{is_of}
use Rattle.subscription_set.specs.Standing.{dots_in}
use Rattle.subscription_set.proofs.Standings.{entries_are}
use Rattle.subscription_set.proofs.set.SubscriptionSet.dots_of.Goals as goal

pub returns-clause-dots : goal.returns-clause-dots
returns-clause-dots c = subst (λ es. IfOk c.dots_among.result (λ dots. dots ≡ dots_in (is_of c.args.client.now (option_copied c.args.filter)) es)) (entries_are c.self.inside.seen (map.entries c.self.inside.entries) c.args.self.now (map.entries c.self.inside.entries) c.self.invariant c.self.view_is refl) c.dots_among.ensures.dots

pub returns-clause-memory : goal.returns-clause-memory
returns-clause-memory c = subst (λ es. OnErr c.dots_among.result (list_any (λ x. is_of c.args.client.now (option_copied c.args.filter) x.1) es ≡ true)) (entries_are c.self.inside.seen (map.entries c.self.inside.entries) c.args.self.now (map.entries c.self.inside.entries) c.self.invariant c.self.view_is refl) c.dots_among.ensures.memory
