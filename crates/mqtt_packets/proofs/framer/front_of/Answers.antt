use Rattle.std.proofs.Common.{◌++◌, ◌∙◌, sym, arith}
use Rattle.std.proofs.lemmas.List.{length-set}
use Rattle.mqtt_packets.proofs.FrontLaws.{front_more}
use Rattle.mqtt_packets.proofs.framer.front_of.Goals as goal

pub loop-place-preserved : goal.loop-place-preserved
loop-place-preserved c = record {
  long = length-set c.loop-place.front c.loop-place.place c.in-Some.byte ∙ c.loop-place.invariant.long;
  same = front_more (c.args.held.now ++ c.args.piece.now) c.loop-place.front c.loop-place.place c.in-Some.byte (omega arith) c.loop-place.invariant.same (sym c.byte_at.ensures ∙ c.in-Some.is);
}
