use Rattle.session_table.specs.Listing.{table}
use Rattle.session_table.proofs.Calling.{mended}
use Rattle.session_table.proofs.sessions.Sessions.call.Goals as goal

pub invariant_of-self-in-Err : goal.invariant_of-self-in-Err
invariant_of-self-in-Err c =
    mended c.args.client.now (table c.self.inside.seats.entries) (table c.call_in.new.seats.entries) (table c.take_out.new.seats.entries) c.self.inside.listing c.call_in.new.listing c.take_out.new.listing
    c.self.invariant c.in-Err.ensures.err c.take_out.ensures.gone c.take_out.ensures.listed
