-- What is seen of a door: the handler inside, and its log, if it has one.
use Rattle.std.specs.Prelude.{Option}
use Rattle.door_log.specs.declared.log.Log.{Log}
use Rattle.door_log.specs.declared.logged.Logged.{Logged}

abbrev pub inside_of : {H W : Type 0} → Logged H W → H
inside_of d = d.inside

abbrev pub log_of : {H W : Type 0} → Logged H W → Option (Log W)
log_of d = d.log
