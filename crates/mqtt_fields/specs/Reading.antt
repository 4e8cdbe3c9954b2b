-- Reading from left to right: the first fault that is met is the answer.
use Rattle.std.specs.Prelude.{◌≡◌, Result, Ok, Err}
use Rattle.mqtt_fields.specs.declared.fault.FieldFault.{FieldFault}
use Rattle.mqtt_fields.specs.declared.fault.FieldFault.TheVariants.{NoMemory}

infixl 10 ◌>>=◌
-- and then, unless there was a fault
abbrev pub ◌>>=◌ : {A B E : Type 0} → Result A E → (A → Result B E) → Result B E
(Ok x) >>= f = f x
(Err e) >>= f = Err e

-- A function that failed so is right about the reading: the reading has this fault. Want of memory says nothing of it.
abbrev pub Fails : {Y : Type 0} → FieldFault → Result Y FieldFault → Type 0
Fails NoMemory read = Unit {0}
Fails f read = read ≡ Err f

-- What a function returned, seen by view, is what the reading gives, unless memory ran out.
abbrev pub Gives : {X Y : Type 0} → (X → Y) → Result X FieldFault → Result Y FieldFault → Type 0
Gives view (Ok x) read = read ≡ Ok (view x)
Gives view (Err e) read = Fails e read

-- What a function found is such a value; where it failed there is none. Want of memory says nothing of it.
abbrev pub Finds : {X A : Type 0} → (X → A) → (A → Type 0) → Result X FieldFault → Type 0
Finds view Is (Ok x) = Is (view x)
Finds view Is (Err NoMemory) = Unit {0}
Finds {A = A} view Is (Err f) = (a : A) → Is a → ⊥
