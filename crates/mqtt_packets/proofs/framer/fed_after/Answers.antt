use Rattle.std.proofs.Common.{Result, Err, Ok, ap, ◌∙◌}
use Rattle.std.specs.Prelude.{OnErr}
use Rattle.mqtt_packets.specs.Stream.{Cut}
use Rattle.mqtt_packets.proofs.MemoryLaws.{quiet_wants}
use Rattle.mqtt_packets.proofs.framer.fed_after.Goals as goal

on_err : {A E : Type 0} (r : Result A E) (P : Type 0) → P → OnErr r P
on_err (Ok x) P p = tt
on_err (Err e) P p = p

pub returns-in_err-rest-clause-no_memory : goal.returns-in_err-rest-clause-no_memory
returns-in_err-rest-clause-no_memory c =
    let quiet = ap (λ (x : Cut). x.fault) c.in_ok-packets.ensures.cut ∙ c.in_err-rest.ensures.no_memory in
    on_err _ _ (quiet_wants c.args.limit c.args.piece.now quiet)
