-- What is seen of a door: the handler inside.
use Rattle.door_tables.specs.declared.door.Tabled.{Tabled}

abbrev pub inside_of : {H F : Type 0} → Tabled H F → H
inside_of d = d.inside
