-- Rules by user names.
use Rattle.std.specs.Prelude.{◌≡◌, ℕ, ◌+◌, ◌*◌, ◌%◌, List, [], ◌∷◌, false, Option, Some, None, Vec, slice_get, if◌then◌else◌}
use Rattle.std.specs.Str.{bytes_eq}
use Rattle.std.specs.declared.alloc.Global.{Global}
use Rattle.mqtt_access.specs.Own.{IsAdded}
use Rattle.mqtt_access.specs.declared.named.NamedRules.{NamedRules}
use Rattle.mqtt_access.specs.declared.named.UserRules.{UserRules}
use Rattle.mqtt_access.specs.declared.own.OwnRules.{OwnRules}
use Rattle.mqtt_access.specs.declared.rule.Access.{Access}

-- a number of few bytes for a name of any
abbrev pub number_by : ℕ → List ℕ → ℕ
number_by n [] = n
number_by n (b ∷ bs) = number_by ((n * 31 + b) % 16384) bs

abbrev pub number_of : List ℕ → ℕ
number_of name = number_by 0 name

-- the first of this name
abbrev pub first_named : List ℕ → List UserRules → Option OwnRules
first_named name [] = None
first_named name (u ∷ us) = if bytes_eq u.name name then Some u.rules else first_named name us

abbrev pub among : Option (Vec UserRules Global) → List UserRules
among None = []
among (Some us) = us.items

-- those whose names have this number
abbrev pub users_at : NamedRules → ℕ → List UserRules
users_at t number = among (slice_get t.users.items number)

-- the rules of a user
abbrev pub rules_of : NamedRules → List ℕ → Option OwnRules
rules_of t name = first_named name (users_at t (number_of name))

-- there is one rule more of a user, and all others have theirs
pub record IsAddedFor (name : List ℕ) (access : Access) (filter : List ℕ) (t t' : NamedRules) : Type 0 where
  pub here : IsAdded access filter (rules_of t name) (rules_of t' name)
  pub there : (other : List ℕ) → bytes_eq name other ≡ false → rules_of t' other ≡ rules_of t other

-- the first of this name is taken out, and the first of each other name stays
pub record IsTaken (name : List ℕ) (us us' : List UserRules) (rules : Option OwnRules) : Type 0 where
  pub found : rules ≡ first_named name us
  pub others : (other : List ℕ) → bytes_eq name other ≡ false → first_named other us' ≡ first_named other us

-- the same where it has one rule more
pub record IsJoined (name : List ℕ) (access : Access) (filter : List ℕ) (us us' : List UserRules) : Type 0 where
  pub here : IsAdded access filter (first_named name us) (first_named name us')
  pub there : (other : List ℕ) → bytes_eq name other ≡ false → first_named other us' ≡ first_named other us
