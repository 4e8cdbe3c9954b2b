-- What is opened from the rows of a session.
use Rattle.std.proofs.Common.{◌≡◌, ℕ, ◌+◌, false, cond, [], ◌∷◌, refl, ap}
use Rattle.std.specs.Prelude.{nat_lt}
use Rattle.qos_handshakes.specs.Entries.{Entries}
use Rattle.qos_handshakes.specs.Incoming.{Received, identifiers_of, of_before, of_identifiers}
use Rattle.qos_handshakes.specs.Outbox.{away, order_above, stage_order}
use Rattle.mqtt_sessions.specs.declared.kept.Phase.{Phase}
use Rattle.mqtt_sessions.specs.declared.kept.Phase.TheVariants.{Connected, Closed}
use Rattle.mqtt_sessions.specs.Saved.{closed_of, phase_of}
use Rattle.law_sessions.specs.Reopened.{ReopensAsLost}

phase-back : (p : Phase) → phase_of (closed_of p) ≡ p
phase-back Connected = refl
phase-back (Closed at) = refl

above-away : (es : Entries) → order_above (away es) ≡ order_above es
above-away [] = refl
above-away (e ∷ es) = ap (λ (n : ℕ). cond (nat_lt (stage_order e.1.stage) n) n (stage_order e.1.stage + 1)) (above-away es)

identifiers-before : (r : Received) → of_identifiers (identifiers_of r) ≡ of_before r
identifiers-before [] = refl
identifiers-before (e ∷ es) = ap (λ (more : Received). (e.0, false) ∷ more) (identifiers-before es)

pub reopens : ReopensAsLost
reopens s = record {
  quiet = refl;
  kept = λ i. record { client = s.kept.client; expiry = s.kept.expiry; phase = phase-back s.kept.phase i; will = s.kept.will };
  outbox = λ i. record { copies = away s.outbox.copies; next_place = s.outbox.next_place; next_order = above-away s.outbox.copies i; maximum = 0 };
  incoming = identifiers-before s.incoming;
  link = refl;
  room = refl;
}
