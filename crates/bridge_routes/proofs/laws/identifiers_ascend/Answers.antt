use Rattle.std.proofs.Common.{flat_map}
use Rattle.mqtt_message.specs.Identifiers.{identifiers_of}
use Rattle.bridge_routes.proofs.Ascending.{one_ascends}
use Rattle.bridge_routes.proofs.Putting.{ascending_ascends}
use Rattle.bridge_routes.proofs.laws.identifiers_ascend.Goals as goal

pub returns-clause-identifiers : goal.returns-clause-identifiers
returns-clause-identifiers c = λ own. ascending_ascends (flat_map (λ e. identifiers_of e.identifier) own)

pub returns-clause-one : goal.returns-clause-one
returns-clause-one c = one_ascends
