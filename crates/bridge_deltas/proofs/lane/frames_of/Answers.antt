use Rattle.std.proofs.Common.{suc, ◌+◌, ◌<◌, length, arith, rules}
use Rattle.std.proofs.lemmas.Grind.{common_steps}
use Rattle.bridge_deltas.proofs.Framing.{more_frames}
use Rattle.bridge_deltas.proofs.lane.frames_of.Goals as goal

pub of-requires : goal.of-requires
of-requires c =
    let inside : c.args.place + c.loop-i.i < length c.args.messages.now.items = first_of (search rules, grind (arith, common_steps)) in
    omega (arith, inside, c.requires.numbers)

pub loop-i-preserved : goal.loop-i-preserved
loop-i-preserved c =
    let inside : c.args.place + c.loop-i.i < length c.args.messages.now.items = first_of (search rules, grind (arith, common_steps)) in
    more_frames c.args.from c.args.to (suc c.args.gone) c.of.result c.args.messages.now.items c.args.place c.loop-i.i c.index.result.now c.in_ok-message.message c.loop-i.out.items c.push.new.self.items
    (omega (arith, c.of.ensures)) inside c.loop-i.invariant c.index.ensures c.in_ok-message.ensures c.in_ok-push.ensures.items
