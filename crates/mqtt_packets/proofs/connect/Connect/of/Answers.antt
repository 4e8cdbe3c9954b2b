use Rattle.std.proofs.Common.{◌≡◌, true, false, rules}
use Rattle.mqtt_packets.specs.Connect.{is_mqtt, is_valid_connect}
use Rattle.mqtt_packets.proofs.ConnectLaws.{invalid}
use Rattle.mqtt_packets.proofs.connect.Connect.of.Goals as goal

pub returns-then-not-is_valid-clause-exact : goal.returns-then-not-is_valid-clause-exact
returns-then-not-is_valid-clause-exact c =
    let mqtt : is_mqtt c.in_ok-name.name c.in_ok-version.version ≡ true = search rules in
    let valid : is_valid_connect c.in_ok-connect.connect ≡ false = search rules in
    invalid c.args.bytes.now (c.in_ok-name.name, c.in_ok-name.rest.now) (c.in_ok-version.version, c.in_ok-version.rest.now) (c.in_ok-flags.flags, c.in_ok-flags.rest.now)
    (c.in_ok-keep_alive.keep_alive, c.in_ok-keep_alive.rest.now) (c.in_ok-properties.properties, c.in_ok-properties.rest.now) c.in_ok-connect.connect
    c.in_ok-name.ensures.exact c.in_ok-version.ensures.exact mqtt c.in_ok-flags.ensures.exact c.in_ok-keep_alive.ensures.exact c.in_ok-properties.ensures.exact c.in_ok-connect.ensures valid
