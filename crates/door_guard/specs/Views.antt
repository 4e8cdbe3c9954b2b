-- What is seen of a handler that guards: the handler inside.
use Rattle.door_guard.specs.declared.guarded.Guarded.{Guarded}

abbrev pub inside_of : {H A : Type 0} → Guarded H A → H
inside_of d = d.inside
