use Rattle.std.proofs.Common.{sym, subst}
use Rattle.std.specs.Fmt.{HasWritten}
use Rattle.cli_stops.specs.Causes.{found_text}
use Rattle.cli_stops.specs.declared.cause.Found.{Found}
use Rattle.cli_stops.proofs.cause.FoundDisplay.fmt.Goals as goal

pub returns-in-OlderTable-clause-writes : goal.returns-in-OlderTable-clause-writes
returns-in-OlderTable-clause-writes g c = λ plain ok.
    subst (λ (found : Found). HasWritten g.W.Write.write_str_gives c.args.f.now (found_text found) c.write-in-OlderTable.new.self) (sym c.in-OlderTable.is) (c.write-in-OlderTable.ensures.writes plain ok)
