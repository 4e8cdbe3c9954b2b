-- What is asked of clients.
use Rattle.std.specs.Prelude.{ℕ, ◌-◌, ◌/◌, ◌&&◌, nat_lt, min, Bool, true, false, Option, Some, None, is_none, if◌then◌else◌}
use Rattle.mqtt_bounds.specs.declared.bounds.Bounds.{Bounds}
use Rattle.door_bounds.specs.declared.limits.BoundLimits.{BoundLimits}

abbrev pub asks_nothing : Bounds → Bool
asks_nothing b = is_none b.longest_packet && is_none b.most_filters && is_none b.most_levels && is_none b.most_properties && is_none b.longest_expiry

-- nothing
abbrev pub are_none : BoundLimits → Bool
are_none l = asks_nothing l.packets && is_none l.most_memory

-- Too much is held from above the limit on, until nine tenths of it are held. Where nobody knows how much is held, that stays.
abbrev pub full_after : Option ℕ → Option ℕ → Bool → Bool
full_after (Some most) (Some held) full = if full then nat_lt (most - most / 10) held else nat_lt most held
full_after most held full = full

-- the most bytes of a packet
abbrev pub limit_of : Option ℕ → ℕ
limit_of None = 1048576
limit_of (Some longest) = min 1048576 longest

-- what is given, or the other one
abbrev pub number_or : Option ℕ → Option ℕ → Option ℕ
number_or (Some given) other = Some given
number_or None other = other

-- each limit so
abbrev pub limits_or : BoundLimits → BoundLimits → BoundLimits
limits_or l m = record {
  packets = record {
    longest_packet = number_or l.packets.longest_packet m.packets.longest_packet;
    most_filters = number_or l.packets.most_filters m.packets.most_filters;
    most_levels = number_or l.packets.most_levels m.packets.most_levels;
    most_properties = number_or l.packets.most_properties m.packets.most_properties;
    longest_expiry = number_or l.packets.longest_expiry m.packets.longest_expiry;
  };
  most_memory = number_or l.most_memory m.most_memory;
}
