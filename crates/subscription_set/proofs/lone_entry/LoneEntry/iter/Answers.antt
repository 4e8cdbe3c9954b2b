use Rattle.std.proofs.Common.{[], ◌∷◌, sym, ap, ◌∙◌}
use Rattle.subscription_set.proofs.Alone.{alone_entries}
use Rattle.subscription_set.proofs.lone_entry.LoneEntry.iter.Goals as goal

pub returns : goal.returns
returns c = c.one.ensures ∙ ap (λ x. x ∷ []) c.self.view_is ∙ sym (alone_entries c.args.self.now)
