use Rattle.std.proofs.Common.{◌≡◌, arith, sym, true}
use Rattle.door_packets.specs.Sending.{is_readable}
use Rattle.door_packets.proofs.Sent.{goes_whole}
use Rattle.door_packets.proofs.sending.may_go.Goals as goal

pub loop-used-preserved : goal.loop-used-preserved
loop-used-preserved g c =
    let rights = g.A.Access.rights c.args.access.now in
    let is = c.in_ok-is_readable-in-Whole.ensures in
    let not_false = c.if-not-branch.false in
    let readable : is_readable rights c.args.login.now c.split_at.result.0.now ≡ true = first_of (cc, grind arith) in
    goes_whole rights c.args.login.now c.args.bytes.now c.loop-used.rest.now c.split_at.result.0.now c.split_at.result.1.now c.in-Whole.used (sym c.in-Whole.ensures.exact) c.split_at.ensures.front
    c.split_at.ensures.back readable c.loop-used.invariant
