use Rattle.std.proofs.Common.{append_assoc, refl, ◌∷◌, [], take}
use Rattle.std.proofs.lemmas.List.{take_more}
use Rattle.std.specs.Prelude.{slice_index}
use Rattle.mqtt_sessions.specs.declared.reaction.Output.TheVariants.{Answer}
use Rattle.mqtt_sessions.specs.Answers.{pubrel}
use Rattle.mqtt_sessions.specs.Reaction.{pubrels_of}
use Rattle.mqtt_sessions.proofs.Flushed.{pubrels-more}
use Rattle.mqtt_sessions.proofs.sending.release.Goals as goal

pub loop-id-preserved : goal.loop-id-preserved
loop-id-preserved c =
    let xs = c.args.ids.now in
    let i = c.loop-id.id-index in
    rw (c.in_ok-push.ensures.items, c.pubrel.ensures.packet, c.loop-id.invariant, take_more xs i 0 c.loop-id-test.true, pubrels-more (take i xs) (slice_index xs i), append_assoc c.args.packets.now.items (pubrels_of (take i xs)) (Answer (pubrel (slice_index xs i) 0) ∷ [])) refl
