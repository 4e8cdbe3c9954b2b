use Rattle.broker_script.specs.Script.{Begins}
use Rattle.broker_script.proofs.script.parse_text.Given as goal

abbrev pub invariant-loop-i : goal.invariant-loop-i
invariant-loop-i l = Begins l.text l.i l.commands.items
