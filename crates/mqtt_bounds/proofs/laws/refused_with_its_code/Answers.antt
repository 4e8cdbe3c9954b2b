use Rattle.mqtt_bounds.proofs.Refusing.{publish_is_refused, subscribe_is_refused}
use Rattle.mqtt_bounds.proofs.laws.refused_with_its_code.Goals as goal

pub returns-clause-publish : goal.returns-clause-publish
returns-clause-publish c = publish_is_refused

pub returns-clause-subscribe : goal.returns-clause-subscribe
returns-clause-subscribe c = subscribe_is_refused
