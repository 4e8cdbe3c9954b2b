-- Calls are moves.
use Rattle.std.proofs.Common.{refl}
use Rattle.law_sessions.specs.Runs.{CallsAreEvents}
use Rattle.law_sessions.specs.Histories.{CallsAreMoves}

pub are-moves : CallsAreEvents → CallsAreMoves
are-moves events e r old new last may called notes = record { reacts = events e old.tracked.state new.tracked.state r may called; notes = notes; last = refl }
