use Rattle.std.proofs.Common.{sym, subst, Ok}
use Rattle.node_work.specs.Packets.{HaveSpellings, CameSpelled}
use Rattle.node_work.specs.Working.{ComesTo}
use Rattle.node_clients.specs.Pieces.{TakesPackets}
use Rattle.node_clients.proofs.Feeding.{Took, piece_nothing, piece_failed, piece_packets}
use Rattle.node_clients.proofs.piece.take_piece.Goals as goal

pub take-requires : goal.take-requires
take-requires c =
    let spelled : HaveSpellings c.in-Packets.field-0.packets.items = subst CameSpelled c.in-Packets.is c.in_ok-feed.ensures.spelled in subst HaveSpellings (sym c.deref.ensures.value) spelled

pub returns-in-Nothing-clause-comes : goal.returns-in-Nothing-clause-comes
returns-in-Nothing-clause-comes c =
    piece_nothing c.args.connection c.args.bytes.now c.args.work.now c.feed.new.self c.feed.new.self (Ok tt) (subst (λ came. Took c.args.connection c.args.bytes.now came c.args.work.now c.feed.new.self) c.in-Nothing.is c.in_ok-feed.ensures.fed)

pub returns-in-Failed-clause-comes : goal.returns-in-Failed-clause-comes
returns-in-Failed-clause-comes c =
    piece_failed c.args.connection c.args.bytes.now c.args.work.now c.feed.new.self c.shut.new.work c.shut.result (subst (λ came. Took c.args.connection c.args.bytes.now came c.args.work.now c.feed.new.self) c.in-Failed.is c.in_ok-feed.ensures.fed) c.shut.ensures

pub returns-in-Packets-clause-comes : goal.returns-in-Packets-clause-comes
returns-in-Packets-clause-comes c =
    let f = c.in-Packets.field-0 in
    let takes = subst (λ ps. ComesTo (λ x. x) c.take.result c.feed.new.self c.take.new.work (TakesPackets c.args.connection ps f.fault)) c.deref.ensures.value c.take.ensures in
    piece_packets c.args.connection c.args.bytes.now c.args.work.now c.feed.new.self c.take.new.work c.take.result f (subst (λ came. Took c.args.connection c.args.bytes.now came c.args.work.now c.feed.new.self) c.in-Packets.is c.in_ok-feed.ensures.fed) takes
