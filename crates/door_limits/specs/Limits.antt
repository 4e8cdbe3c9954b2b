-- What is asked of clients.
use Rattle.std.specs.Prelude.{ℕ, Bool, true, ◌&&◌, Option, Some, None, is_none, nat_lt}
use Rattle.door_limits.specs.declared.limits.Limits.{Limits}

-- nothing
abbrev pub are_none : Limits → Bool
are_none l = is_none l.most && is_none l.within

-- one more may come to so many
abbrev pub has_room : Option ℕ → ℕ → Bool
has_room None count = true
has_room (Some most) count = nat_lt count most
