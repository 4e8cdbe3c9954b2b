use Rattle.std.proofs.Common.{◌++◌, arith}
use Rattle.mqtt_fields.specs.Field.{IsBytes}
use Rattle.mqtt_packets.proofs.FrontLaws.{front_faulty, front_header}
use Rattle.mqtt_packets.proofs.GrowLaws.{IsBytes-both}
use Rattle.mqtt_packets.proofs.framer.missing.Goals as goal

pub returns-in-Err-clause-fault : goal.returns-in-Err-clause-fault
returns-in-Err-clause-fault c =
    let fits : IsBytes (c.args.held.now ++ c.args.piece.now) = IsBytes-both c.args.held.now c.args.piece.now (λ i. omega (arith, c.type_inv.held i)) (λ i. omega (arith, c.type_inv.piece i)) in
    front_faulty c.args.limit (c.args.held.now ++ c.args.piece.now) _ c.in-Err.fault fits c.front_of-len.ensures.front c.in-Err.ensures.fault

pub returns-in-Ok-Some-clause-header : goal.returns-in-Ok-Some-clause-header
returns-in-Ok-Some-clause-header c =
    let fits : IsBytes (c.args.held.now ++ c.args.piece.now) = IsBytes-both c.args.held.now c.args.piece.now (λ i. omega (arith, c.type_inv.held i)) (λ i. omega (arith, c.type_inv.piece i)) in
    front_header c.args.limit (c.args.held.now ++ c.args.piece.now) _ fits c.front_of-len.ensures.front c.in-Ok-Some.ensures.header

pub returns-in-Ok-None-clause-header : goal.returns-in-Ok-None-clause-header
returns-in-Ok-None-clause-header c =
    let fits : IsBytes (c.args.held.now ++ c.args.piece.now) = IsBytes-both c.args.held.now c.args.piece.now (λ i. omega (arith, c.type_inv.held i)) (λ i. omega (arith, c.type_inv.piece i)) in
    front_header c.args.limit (c.args.held.now ++ c.args.piece.now) _ fits c.front_of-len.ensures.front c.in-Ok-None.ensures.header
