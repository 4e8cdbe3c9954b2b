use Rattle.cli_files.specs.Judging.{HasBridges}
use Rattle.cli_files.proofs.judging.has_bridges.Given as goal

abbrev pub invariant-loop-number : goal.invariant-loop-number
invariant-loop-number l = HasBridges l.homes l.other l.number
