use Rattle.std.proofs.Common.{ap, subst}
use Rattle.qos_handshakes.specs.Touched.{Watched}
use Rattle.mqtt_sessions.specs.Removed.{RemovalsWant}
use Rattle.mqtt_sessions.specs.declared.saved.Live.TheInside.{Inside}
use Rattle.mqtt_sessions.proofs.Flushed.{on-err}
use Rattle.mqtt_sessions.proofs.RemovedLaws.{removals-want}
use Rattle.mqtt_sessions.proofs.saved.Live.removals.Goals as goal

pub returns-in_err-all-clause-need : goal.returns-in_err-all-clause-need
returns-in_err-all-clause-need c =
    on-err _ _ (subst RemovalsWant c.self.view_is
    (subst (λ (w : Inside). RemovalsWant (record { tracked = w.running; told = w.told })) c.self-inside.view_is
    (removals-want _ _ _ _ _ _
    (ap (λ (w : Watched). w.box.copies) c.in_ok-touched.ensures.places.1) c.in_ok-touched.ensures.places.0 c.deref.ensures.value c.in_err-all.ensures.need)))
