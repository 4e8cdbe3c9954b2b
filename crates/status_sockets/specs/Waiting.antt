-- How long a connection may be open without a whole request.
use Rattle.std.specs.Prelude.{ℕ, ◌-◌, ◌<◌, Option, IfSome}

-- there was one within ten seconds, and one that was begun and isn't there whole is not older than two
abbrev pub IsInTime : ℕ → ℕ → Option ℕ → Type 0
IsInTime at since begun = (at - since < 10000) × IfSome begun (λ moment. at - moment < 2000)
