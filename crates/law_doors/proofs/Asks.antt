-- What a CONNECT asks for.
use Rattle.std.proofs.Common.{◌≡◌, ◌<◌, ℕ, Bool, true, false, lt-ltb, ltb, Option, Some, None, refl, ap, ◌∙◌}
use Rattle.mqtt_fields.specs.Properties.{first_four, first_two}
use Rattle.mqtt_packets.specs.declared.connect.Connect.{Connect}
use Rattle.mqtt_packets.specs.declared.packet.Packet.TheVariants as packets
use Rattle.door_mqtt3.specs.Asked.{connect_asked, properties_of}
use Rattle.mqtt_bounds.specs.Bounded.{bounded, connect_by, four_put, shorter, told_in}
use Rattle.mqtt_bounds.specs.declared.bounds.Bounds.{Bounds}
use Rattle.law_doors.specs.Asking.{IsBoundedTo, OthersAskForThemselves, SessionsAreAskedFor, SessionsAreBounded}

lasting : (clean : Bool) → clean ≡ false → first_four 17 (properties_of clean) ≡ Some 4294967295
lasting true e = absurd cc
lasting false e = refl

ending : (clean : Bool) → clean ≡ true → first_four 17 (properties_of clean) ≡ None
ending true e = refl
ending false e = absurd cc

limited : (clean : Bool) → first_two 33 (properties_of clean) ≡ Some 20
limited true = refl
limited false = refl

pub sessions_are_asked_for : SessionsAreAskedFor
sessions_are_asked_for bridge c = (
  connect_asked c,
  refl,
  record {
    clean = refl;
    lasts = lasting c.clean_start;
    ends = ending c.clean_start;
    at_a_time = limited c.clean_start;
    name = refl;
    keep_alive = refl;
    will = refl;
    user_name = refl;
    password = refl;
  },
)

-- the interval is shorter
shorter_is : (b : Bounds) (seconds : ℕ) (clean : Bool) → b.longest_expiry ≡ Some seconds → seconds < 4294967295 → clean ≡ false → shorter b (properties_of clean) ≡ Some seconds
shorter_is b seconds true is less e = absurd cc
shorter_is b seconds false is less e = let t : ltb seconds 4294967295 ≡ true = lt-ltb _ _ less in rw (is, t) refl

bounded_case : (b : Bounds) (seconds : ℕ) (full : Bool) (c d : Connect) (o : Option ℕ) → o ≡ Some seconds → d.clean_start ≡ false → first_four 17 (four_put 17 seconds d.properties) ≡ Some seconds
    → bounded b full (packets.Connect d) ≡ connect_by b d o → IsBoundedTo seconds b full (packets.Connect d)
bounded_case b seconds full c d o is clean lasts e = record {
  connect = record d { properties = four_put 17 seconds d.properties };
  mend = told_in b (Some seconds);
  becomes = e ∙ ap (connect_by b d) is;
  clean = clean;
  lasts = lasts;
}

put_lasts : (seconds : ℕ) (clean : Bool) → clean ≡ false → first_four 17 (four_put 17 seconds (properties_of clean)) ≡ Some seconds
put_lasts seconds true e = absurd cc
put_lasts seconds false e = refl

pub sessions_are_bounded : SessionsAreBounded
sessions_are_bounded b seconds full bridge c is less clean =
    let d = connect_asked c in
    bounded_case b seconds full c d (shorter b d.properties) (shorter_is b seconds c.clean_start is less clean) clean (put_lasts seconds c.clean_start clean) refl

pub others_ask_for_themselves : OthersAskForThemselves
others_ask_for_themselves (packets.Connect c) other = absurd cc
others_ask_for_themselves p other = refl
