use Rattle.std.proofs.Common.{rules}
use Rattle.bridge_routes.specs.Copies.{MayCount}
use Rattle.bridge_routes.proofs.Selecting.{selected_from_retain}
use Rattle.bridge_routes.proofs.selected.counted_among.Goals as goal

pub returns : goal.returns
returns c = selected_from_retain _ (MayCount c.args.message.now) (λ r. r.now) _ (λ x b f' k. search rules) _ _ c.retain.ensures.filtered
