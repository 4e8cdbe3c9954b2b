-- Calls are events.
use Rattle.std.proofs.Common.{◌≡◌, Some}
use Rattle.mqtt_sessions.specs.Reaction.{Reaction}
use Rattle.mqtt_sessions.specs.State.{State}
use Rattle.law_sessions.specs.Runs.{Event, connects, queues, rooms, takes, answers, closes, ticks, finishes, loses, Reacts, step_of, MayCome, CallsAreEvents}

by-step : (e : Event) (old new : State) (r : Reaction) → MayCome e old → step_of e old r new → Reacts old e r new
by-step (connects c continued room now) old new r may h = (may, h)
by-step (queues d now) old new r may h = h
by-step (rooms bytes now) old new r may h = h
by-step (takes p now room) old new r may h = h
by-step (answers id codes) old new r may h = h
by-step (closes now) old new r may h = h
by-step (ticks now) old new r may h = h
by-step (finishes now) old new r may h = h
by-step loses old new r may h = h

pub calls_are_events : CallsAreEvents
calls_are_events = λ e old new r may h.
    let whole : Some new ≡ Some h.0 = h.1 in
    let same : new ≡ h.0 = cc in
    by-step e old new r may (rw same h.2)
