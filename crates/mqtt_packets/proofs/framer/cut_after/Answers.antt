use Rattle.std.proofs.Common.{sym, ◌∙◌, inr}
use Rattle.std.proofs.lemmas.Option.{same_Some}
use Rattle.mqtt_packets.proofs.CutLaws.{shorter, rest_fits, goes_on, is_fault, stops, ends}
use Rattle.mqtt_packets.proofs.MemoryLaws.{read_wants, first_wants, fault_long}
use Rattle.mqtt_packets.proofs.framer.cut_after.Goals as goal

pub loop-packet-smaller : goal.loop-packet-smaller
loop-packet-smaller c =
    let e = rw c.in-Ok-Some.field-0-is at c.in-Ok-Some.ensures.exact in
    shorter c.args.limit c.loop-packet.rest.now (c.in-Ok-Some.packet, c.in-Ok-Some.after.now) c.loop-packet.invariant.bytes e

pub loop-packet-preserved : goal.loop-packet-preserved
loop-packet-preserved c =
    let e = rw c.in-Ok-Some.field-0-is at c.in-Ok-Some.ensures.exact in
    record {
      bytes = rest_fits c.args.limit c.loop-packet.rest.now (c.in-Ok-Some.packet, c.in-Ok-Some.after.now) c.loop-packet.invariant.bytes e;
      so_far = rw c.in_ok-push-in-Ok-Some.ensures.items (sym (goes_on c.args.limit c.loop-packet.packets.items c.loop-packet.rest.now (c.in-Ok-Some.packet, c.in-Ok-Some.after.now) c.loop-packet.invariant.bytes e) ∙ c.loop-packet.invariant.so_far);
      began = inr (first_wants c.args.limit c.loop-packet.rest.now c.args.bytes.now c.loop-packet.invariant.began (read_wants c.args.limit c.loop-packet.rest.now (c.in-Ok-Some.packet, c.in-Ok-Some.after.now) e));
    }

pub returns-in-Ok-None-clause-cut : goal.returns-in-Ok-None-clause-cut
returns-in-Ok-None-clause-cut c =
    let e = rw c.in-Ok-None.field-0-is at c.in-Ok-None.ensures.exact in
    ends c.args.limit c.loop-packet.packets.items c.loop-packet.rest.now _ e c.loop-packet.invariant.so_far

pub returns-in_default : goal.returns-in_default
returns-in_default c = record {
  cut = stops c.args.limit c.loop-packet.packets.items c.loop-packet.rest.now c.in-Err.fault _ c.in_default.not-NoMemory c.in-Err.ensures.exact c.loop-packet.invariant.so_far;
  named = λ e. c.in_default.not-NoMemory (same_Some _ _ e);
  at_fault = fault_long c.args.limit c.loop-packet.rest.now c.in-Err.fault (is_fault c.in-Err.fault _ c.in_default.not-NoMemory c.in-Err.ensures.exact);
  memory = tt;
  no_memory = tt;
}
