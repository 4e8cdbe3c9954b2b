use Rattle.std.proofs.Common.{◌≡◌, ◌<◌, ◌^◌, true, arith, sym, ◌∙◌}
use Rattle.mqtt_packets.specs.Connect.{is_valid_connect}
use Rattle.mqtt_packets.proofs.ConnectLaws.{connect_measured}
use Rattle.mqtt_packets.proofs.connect.Connect.len.Goals as goal

pub returns : goal.returns
returns c =
    let valid : is_valid_connect c.args.self.now ≡ true = cc in
    connect_measured c.args.self.now c.in_ok-n.n c.in_ok-tail.tail c.within.result (omega arith) valid c.in_ok-n.ensures.exact c.in_ok-tail.ensures.exact c.within.ensures
