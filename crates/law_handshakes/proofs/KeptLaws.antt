-- What is made again of entries.
use Rattle.std.proofs.Common.{◌≡◌, ℕ, List, [], ◌∷◌, refl, sym, ◌∙◌, ap, cond, inl, inr}
use Rattle.std.specs.Prelude.{nat_lt, ◌+◌}
use Rattle.qos_handshakes.specs.Entries.{Entries}
use Rattle.qos_handshakes.specs.Outbox.{away, stage_order, order_above}
use Rattle.law_handshakes.specs.Kept.{CrashLeavesWhatIsKept, ArePassed, TouchedBetween, KeepsTouched}
use Rattle.qos_handshakes.specs.Touched.{Watched, TouchesChanged}

above-away : (es : Entries) → order_above (away es) ≡ order_above es
above-away [] = refl
above-away (e ∷ es) = ap (λ (n : ℕ). cond (nat_lt (stage_order e.1.stage) n) n (stage_order e.1.stage + 1)) (above-away es)

pub keeps : CrashLeavesWhatIsKept
keeps = λ old new h. h ∙ ap (λ (n : ℕ). record { copies = away old.copies; next_place = old.next_place; next_order = n; maximum = 0 }) (sym (above-away old.copies))

-- one after the other
between-then : (old mid new : Watched) (ws : List Watched) → TouchesChanged old mid → TouchedBetween mid new ws → TouchedBetween old new (mid ∷ ws)
between-then old mid new ws a b = record {
  still = λ p h. b.still p (a.0.still p h);
  changed = λ p. elim (a.0.changed p) [
    | inl x ↦ elim (b.changed p) [ inl y ↦ inl (x ∙ y) | inr y ↦ inr y ]
    | inr x ↦ inr (b.still p x)
  ];
  only = λ p h. elim (b.only p h) [
    | inl x ↦ elim (a.0.only p x) [ inl y ↦ inl y | inr y ↦ inr (inl y) ]
    | inr x ↦ inr (inr x)
  ];
}

passed : (old new : Watched) (ws : List Watched) → ArePassed old ws new → TouchedBetween old new ws
passed old new [] h = rw h (record { still = λ p x. x; changed = λ p. inl refl; only = λ p x. inl x })
passed old new (w ∷ ws) h = between-then old w new ws h.0 (passed w new ws h.1)

pub keeps-touched : KeepsTouched
keeps-touched = passed
