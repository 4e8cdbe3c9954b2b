-- Who may do what in these examples: by the first letter of a name.
use Rattle.std.specs.Prelude.{ℕ, ◌==◌, List, [], ◌∷◌, Bool, true, false, Option, Some, None, if◌then◌else◌}
use Rattle.door_packets.specs.Rights.{Rights}
use Rattle.door_packets.specs.declared.access.Admission.{Admission}
use Rattle.door_packets.specs.declared.access.Admission.TheVariants.{Admitted, WrongPassword, NoName}

abbrev pub begins : ℕ → List ℕ → Bool
begins letter [] = false
begins letter (x ∷ xs) = x == letter

abbrev pub password_of : Option (List ℕ) → Admission
password_of None = WrongPassword
password_of (Some p) = if begins 112 p then Admitted else WrongPassword

abbrev pub admission : Bool → Option (List ℕ) → Option (List ℕ) → Admission
admission anonymous None password = if anonymous then Admitted else NoName
admission anonymous (Some user) password = password_of password

-- passwords begin with p, identifiers with c, topics that may be written with a, and those that may be read with b
abbrev pub rules : Bool → Rights
rules anonymous = record {
  admission = admission anonymous;
  may_connect = λ l. begins 99 l.client;
  may_write = λ l topic. begins 97 topic;
  may_read = λ l topic. begins 98 topic;
  may_subscribe = λ l filter. begins 98 filter;
}
