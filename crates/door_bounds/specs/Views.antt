-- What is seen of a handler with limits: the handler inside, and what it keeps where something is asked.
use Rattle.std.specs.Prelude.{Option}
use Rattle.door_bounds.specs.declared.bounded.Bounded.{Bounded}
use Rattle.door_bounds.specs.declared.door.Door.{Door}

abbrev pub inside_of : {H G : Type 0} → Bounded H G → H
inside_of d = d.inside

-- none: it has no limits
abbrev pub door_of : {H G : Type 0} → Bounded H G → Option Door
door_of d = d.door
