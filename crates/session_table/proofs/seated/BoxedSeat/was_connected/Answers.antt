use Rattle.std.proofs.Common.{ap, ◌∙◌}
use Rattle.session_table.specs.Listing.{was_connected}
use Rattle.session_table.proofs.Walking.{was}
use Rattle.session_table.proofs.seated.BoxedSeat.was_connected.Goals as goal

pub returns : goal.returns
returns c = was c.deref.result.now _ c.is_connected.ensures ∙ ap was_connected c.deref.ensures
