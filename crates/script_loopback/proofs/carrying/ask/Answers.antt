use Rattle.std.proofs.Common.{◌≡◌, ◌≤◌, ◌+◌, ◌-◌, length, take, arith}
use Rattle.std.proofs.lemmas.List.{length-take}
use borrow.Rule.Slice.PartMut.{put_mid}
use Rattle.broker_sockets.specs.declared.network.Answer.TheVariants.{Bytes}
use Rattle.script_loopback.proofs.Turning.{take-put_rest}
use Rattle.script_loopback.proofs.carrying.ask.Goals as goal

pub returns-in-Bytes-clause-ok : goal.returns-in-Bytes-clause-ok
returns-in-Bytes-clause-ok g c =
    let came = c.args.came.now in
    let filled = c.args.filled in
    let count = c.in-Bytes.count in
    let room = c.read.new.buffer in
    let sized : length room ≡ length came - filled = omega arith in
    let within : count ≤ length room = c.in-Bytes.ensures.within in
    let counts = length-take (filled + count) (put_mid filled (length came - filled) came room) in
    record {
      bytes = take count room;
      taken = record { answer = Bytes count; asked = c.in-Bytes.ensures.carried; goes_on = tt };
      behind = take-put_rest filled (length came - filled) count came room c.requires within;
      most = omega arith;
    }
