-- What is seen of a handler that translates: the handler inside, and what is known of connections.
use Rattle.std.specs.Prelude.{Option}
use Rattle.door_mqtt3.specs.declared.clients.Clients.{Clients}
use Rattle.door_mqtt3.specs.declared.handler.Mqtt3.{Mqtt3}

abbrev pub inside_of : {H : Type 0} → Mqtt3 H → H
inside_of d = d.inside

-- none: it doesn't translate
abbrev pub clients_of : {H : Type 0} → Mqtt3 H → Option Clients
clients_of d = d.clients
