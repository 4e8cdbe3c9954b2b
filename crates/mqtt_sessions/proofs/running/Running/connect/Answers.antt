use Rattle.std.proofs.Common.{[], ◌∷◌}
use Rattle.mqtt_sessions.specs.declared.reaction.Output.TheVariants.{Answer}
use Rattle.mqtt_sessions.specs.Reaction.{pubrels_of}
use Rattle.mqtt_sessions.proofs.Flushed.{spelled-append}
use Rattle.mqtt_sessions.proofs.ReactionLaws.{pubrels_spelled}
use Rattle.mqtt_sessions.proofs.running.Running.connect.Goals as goal

pub go_on-requires-clause-spelled : goal.go_on-requires-clause-spelled
go_on-requires-clause-spelled c =
    let ids = c.in_ok-ids.ids.items in
    rw (c.in_ok-release.ensures, c.in_ok-packets.ensures, c.deref.ensures.value)
    (spelled-append c.args.now (Answer c.in_ok-answer.answer ∷ []) (pubrels_of ids) (c.in_ok-answer.ensures.spelled, tt) (pubrels_spelled c.args.now ids c.in_ok-ids.ensures.identifiers))
