use Rattle.std.proofs.Common.{true, false, sym, ap, ◌∙◌}
use Rattle.subscription_set.specs.Entries.{same_text}
use Rattle.subscription_set.proofs.Alone.{live_by}
use Rattle.subscription_set.proofs.lone_entry.LoneEntry.live_of.Goals as goal

pub returns-then-not-has_client : goal.returns-then-not-has_client
returns-then-not-has_client c = live_by c.args.self.now c.args.client.now false (ap (λ x. same_text c.args.client.now x.1.client) (sym c.self.view_is) ∙ sym c.has_client.ensures ∙ c.if-not-has_client.true)

pub returns : goal.returns
returns c = live_by c.args.self.now c.args.client.now true (ap (λ x. same_text c.args.client.now x.1.client) (sym c.self.view_is) ∙ sym c.has_client.ensures ∙ c.if-not-has_client.false)
