-- What a client of a level before 5 asks for.
use Rattle.std.specs.Prelude.{◌≡◌, ◌<◌, ℕ, Bool, true, false, Some, None}
use Rattle.mqtt_fields.specs.Properties.{first_four, first_two}
use Rattle.mqtt_packets.specs.declared.connect.Connect.{Connect}
use Rattle.mqtt_packets.specs.declared.packet.Packet.{Packet}
use Rattle.mqtt_packets.specs.declared.packet.Packet.TheVariants as packets
use Rattle.door_mqtt3.specs.Asked.{asked}
use Rattle.mqtt_bounds.specs.Bounded.{bounded}
use Rattle.mqtt_bounds.specs.declared.bounds.Bounds.{Bounds}
use Rattle.mqtt_bounds.specs.declared.verdict.Mend.{Mend}
use Rattle.mqtt_bounds.specs.declared.verdict.Verdict.TheVariants as verdicts

-- the CONNECT of MQTT 5.0 for one of a client
pub record IsAskedFor (c d : Connect) : Type 0 where
  -- Clean Session (MQTT 3.1.1, 3.1.2.4): 0 goes on with the session that is there, and it lasts without end; 1 begins one that ends with the connection
  pub clean : d.clean_start ≡ c.clean_start
  pub lasts : c.clean_start ≡ false → first_four 17 d.properties ≡ Some 4294967295
  pub ends : c.clean_start ≡ true → first_four 17 d.properties ≡ None
  -- so many messages are sent at a time
  pub at_a_time : first_two 33 d.properties ≡ Some 20
  -- all else is the client's
  pub name : d.client ≡ c.client
  pub keep_alive : d.keep_alive ≡ c.keep_alive
  pub will : d.will ≡ c.will
  pub user_name : d.user_name ≡ c.user_name
  pub password : d.password ≡ c.password

abbrev pub SessionsAreAskedFor : Type 0
SessionsAreAskedFor = (bridge : Bool) (c : Connect) → (d : Connect) × (asked bridge (packets.Connect c) ≡ packets.Connect d) × IsAskedFor c d

-- with --longest-expiry a session that isn't clean lasts so many seconds
pub record IsBoundedTo (seconds : ℕ) (b : Bounds) (full : Bool) (p : Packet) : Type 0 where
  pub connect : Connect
  pub mend : Mend
  pub becomes : bounded b full p ≡ verdicts.Becomes (packets.Connect connect) mend
  pub clean : connect.clean_start ≡ false
  pub lasts : first_four 17 connect.properties ≡ Some seconds

abbrev pub SessionsAreBounded : Type 0
SessionsAreBounded =
    (b : Bounds) (seconds : ℕ) (full bridge : Bool) (c : Connect) → b.longest_expiry ≡ Some seconds → seconds < 4294967295 → c.clean_start ≡ false → IsBoundedTo seconds b full (asked bridge (packets.Connect c))

-- any other packet of a client that isn't a bridge asks for what it is
abbrev pub is_connect : Packet → Bool
is_connect (packets.Connect c) = true
is_connect _ = false

abbrev pub OthersAskForThemselves : Type 0
OthersAskForThemselves = (p : Packet) → is_connect p ≡ false → asked false p ≡ p
