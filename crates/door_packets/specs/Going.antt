-- What may be sent to a client.
use Rattle.std.specs.Prelude.{ℕ, ◌==◌, ◌&&◌, List, length, Bool, Option}
use Rattle.std.specs.List.{list_all}
use Rattle.mqtt_bounds.specs.Pieces.{Cut, cut}
use Rattle.door_packets.specs.Rights.{Rights}
use Rattle.door_packets.specs.Sending.{is_readable}
use Rattle.door_packets.specs.declared.access.Login.{Login}

abbrev pub is_nothing : List ℕ → Bool
is_nothing bs = length bs == 0

abbrev pub may_go_cut : Rights → Option Login → Cut → Bool
may_go_cut r l parts = is_nothing parts.rest && list_all (is_readable r l) parts.packets

-- whole packets, each of which is so
abbrev pub may_go : Rights → Option Login → List ℕ → Bool
may_go r l bs = may_go_cut r l (cut 268435460 bs)
