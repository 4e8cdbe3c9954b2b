use Rattle.mqtt_access.specs.declared.index.RuleIndex.{RuleIndex}
use Rattle.mqtt_access.proofs.Indexing.{none_forbidden, none_given}
use Rattle.mqtt_access.proofs.index.RuleIndex.new.Goals as goal

pub returns-clause-gives : goal.returns-clause-gives
returns-clause-gives c =
    let x : RuleIndex = record { nameless = c.new.result; named = c.new-2.result; patterns = c.new-3.result; clients = c.args.clients } in
    none_given x c.new.ensures.gives c.new-2.ensures c.new-3.ensures.gives

pub returns-clause-forbids : goal.returns-clause-forbids
returns-clause-forbids c =
    let x : RuleIndex = record { nameless = c.new.result; named = c.new-2.result; patterns = c.new-3.result; clients = c.args.clients } in
    none_forbidden x c.new.ensures.forbids c.new-2.ensures c.new-3.ensures.forbids
