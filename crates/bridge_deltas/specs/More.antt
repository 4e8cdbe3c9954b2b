-- What is sent of a lane where it is known what was sent.
use Rattle.std.specs.Prelude.{ℕ, zero, suc, ◌-◌, nat_eq, List, [], ◌∷◌, length, take, if◌then◌else◌}
use Rattle.bridge_frames.specs.declared.forward.Forward.{Forward}
use Rattle.bridge_frames.specs.declared.frame.BridgeFrame.{BridgeFrame}
use Rattle.bridge_lanes.specs.Lanes.{with_got}
use Rattle.bridge_lanes.specs.Rows.{Messages}
use Rattle.bridge_deltas.specs.Lane.{frames_from}

-- how many messages go at once: at most so many, each as long as fewer bytes of payload than these go before it
abbrev pub fitting : ℕ → ℕ → List Forward → ℕ
fitting zero bytes ms = 0
fitting (suc most) bytes [] = 0
fitting (suc most) bytes (m ∷ ms) = if nat_eq bytes 0 then 0 else suc (fitting most (bytes - length m.message.payload) ms)

abbrev pub first_fitting : List Forward → List Forward
first_fitting ms = take (fitting 4096 4194304 ms) ms

-- the first of those that wait with numbers above one: what would wait if all up to it had been taken
abbrev pub frames_after : ℕ → ℕ → ℕ → Messages → List BridgeFrame
frames_after from to after l = let left = with_got after l in frames_from from to (suc left.gone) (first_fitting left.waiting)
