-- What a piece of a stream gives.
use Rattle.std.specs.Prelude.{◌≡◌, ℕ, true, false, List, ◌++◌, Some, None}
use Rattle.std.specs.FinMap as map
use Rattle.mqtt_packets.specs.Stream.{Held, Cut, cut}
use Rattle.node_work.specs.declared.held.connections.Came.{Came}
use Rattle.node_work.specs.declared.held.connections.Came.TheVariants.{Nothing, Packets, Failed}
use Rattle.node_work.specs.View.{ConnectionView, HeldView}
use Rattle.node_work.specs.Held.Connections.{ConnectionTable, with_piece}

-- the packets of what is held and a piece after it
abbrev pub cut_of : Held → List ℕ → Cut
cut_of stream piece = cut stream.limit (stream.rest ++ piece)

-- nothing where the connection isn't open, or its stream has failed; else the packets, and the fault after them
abbrev pub IsFed : ConnectionTable → ℕ → List ℕ → Came → ConnectionTable → Type 0
IsFed m c piece Nothing m' = (map.get m c ≡ None) × (m' ≡ m)
IsFed m c piece Failed m' = (found : ConnectionView) × (map.get m c ≡ Some found) × (found.stream.failed ≡ true) × (m' ≡ m)
IsFed m c piece (Packets f) m' =
    (found : ConnectionView) × (map.get m c ≡ Some found) × (found.stream.failed ≡ false)
    × (f.packets.items ≡ (cut_of found.stream piece).packets) × (f.fault ≡ (cut_of found.stream piece).fault)
    × (m' ≡ map.insert m c (with_piece piece found))

-- the same of what a node holds
abbrev pub IsHeldFed : HeldView → ℕ → List ℕ → Came → HeldView → Type 0
IsHeldFed h c piece came h' = (m : ConnectionTable) × IsFed h.connections c piece came m × (h' ≡ record h { connections = m })
