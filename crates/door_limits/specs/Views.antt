-- What is seen of a door: the handler inside, its limits, and the connections that are open.
use Rattle.door_limits.specs.Connected.{Connected}
use Rattle.door_limits.specs.declared.limited.Limited.{Limited}
use Rattle.door_limits.specs.declared.limits.Limits.{Limits}

abbrev pub inside_of : {H : Type 0} → Limited H → H
inside_of d = d.inside

abbrev pub limits_of : {H : Type 0} → Limited H → Limits
limits_of d = d.limits

abbrev pub connections_of : {H : Type 0} → Limited H → Connected
connections_of d = d.connections
