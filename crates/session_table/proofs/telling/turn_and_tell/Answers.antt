use Rattle.std.proofs.Common.{true, false}
use Rattle.mqtt_sessions.specs.Saved.{state_of}
use Rattle.session_table.specs.Calls.{event_of}
use Rattle.session_table.proofs.Calling.{leaves_as, may_alter}
use Rattle.session_table.proofs.RowLaws.{turn-leaves, turn-tells}
use Rattle.session_table.proofs.telling.turn_and_tell.Goals as goal

pub returns-clause-tells : goal.returns-clause-tells
returns-clause-tells c = λ client.
    turn-tells c.tellings_lead.ensures.call (event_of c.args.call) _ c.args.session.now c.turn.new.session c.tell.new.session c.args.changes.now.items c.tell.new.changes.items client c.is_sound.ensures c.in_ok-reaction.ensures.turned
    c.turn.ensures.notes c.in_ok-tell.ensures

pub returns-then-leaves_rows-clause-tells : goal.returns-then-leaves_rows-clause-tells
returns-then-leaves_rows-clause-tells c = λ client.
    turn-leaves (event_of c.args.call) c.in_ok-reaction.reaction c.args.session.now c.turn.new.session c.args.changes.now.items client c.is_sound.ensures c.in_ok-reaction.ensures.turned c.turn.ensures.notes
    (leaves_as (event_of c.args.call) (state_of c.args.session.now) c.in_ok-reaction.reaction c.keeps_rows-keeps.result c.is_ending-ends.result c.is_queue-queues.result c.leaves_rows.result true c.keeps_rows-keeps.ensures c.is_ending-ends.ensures c.is_queue-queues.ensures c.leaves_rows.ensures c.if-leaves_rows.true)

pub returns-in_err-tell-clause-wants : goal.returns-in_err-tell-clause-wants
returns-in_err-tell-clause-wants c = λ refused.
    may_alter (event_of c.args.call) (state_of c.args.session.now) c.in_ok-reaction.reaction (state_of c.turn.new.session) c.in_ok-reaction.ensures.turned
    (leaves_as (event_of c.args.call) (state_of c.args.session.now) c.in_ok-reaction.reaction c.keeps_rows-keeps.result c.is_ending-ends.result c.is_queue-queues.result c.leaves_rows.result false c.keeps_rows-keeps.ensures c.is_ending-ends.ensures c.is_queue-queues.ensures c.leaves_rows.ensures c.if-leaves_rows.false)
