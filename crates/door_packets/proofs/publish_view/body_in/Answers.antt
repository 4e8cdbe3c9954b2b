use Rattle.std.proofs.Common.{sym, ◌∙◌}
use Rattle.mqtt_packets.specs.declared.publish.Publish.{Publish}
use Rattle.door_packets.proofs.Views.{body_there}
use Rattle.door_packets.proofs.publish_view.body_in.Goals as goal

pub returns-then-is_valid : goal.returns-then-is_valid
returns-then-is_valid c =
    let p : Publish = record {
      dup = c.args.flags.dup;
      qos = c.args.flags.qos;
      retain = c.args.flags.retain;
      topic = c.in_ok-topic.topic.now;
      identifier = c.in_ok-identifier.identifier;
      properties = c.in-Ok.properties;
      payload = c.in-Ok.payload.now;
    } in (
      c.requires,
      body_there p c.args.bytes.now c.in_ok-topic.rest.now c.in_ok-identifier.rest.now c.in_ok-topic.ensures c.in_ok-identifier.ensures c.in-Ok.ensures.exact
          (sym c.is_valid.ensures ∙ c.if-is_valid.true),
    )
