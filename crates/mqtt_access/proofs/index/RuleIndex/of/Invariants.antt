use Rattle.std.proofs.Common.{◌≡◌, ℕ, List, Option}
use Rattle.std.specs.List.{list_any}
use Rattle.mqtt_access.specs.Index.{forbids_in, gives_in}
use Rattle.mqtt_access.specs.Rules.{Asked, allows, denies}
use Rattle.mqtt_access.proofs.index.RuleIndex.of.Given as goal

abbrev pub invariant-loop-rule : goal.invariant-loop-rule
invariant-loop-rule l = record {
  gives : (user : Option (List ℕ)) (client : List ℕ) (asked : Asked) → gives_in l.index user client asked ≡ list_any (λ rule. allows rule user client asked) l.yielded;
  forbids : (user : Option (List ℕ)) (client : List ℕ) (asked : Asked) → forbids_in l.index user client asked ≡ list_any (λ rule. denies rule user client asked) l.yielded;
  clients : l.index.clients.items ≡ l.fn.permissions.clients.items;
}
