-- What a crash leaves, and what is to be kept.
use Rattle.std.specs.Prelude.{◌≡◌, ◌≢◌, ◌⊎◌, ℕ, true, List, [], ◌∷◌}
use Rattle.std.specs.List.{AllByRecursion}
use Rattle.mqtt_fields.specs.declared.options.Qos.TheVariants.{AtMostOnce}
use Rattle.qos_handshakes.specs.Entries.{at_place}
use Rattle.qos_handshakes.specs.Outbox.{Outbox, away, LostStep, empty_outbox}
use Rattle.qos_handshakes.specs.Restored.{agree, restored}
use Rattle.qos_handshakes.specs.Touched.{Watched, TouchesChanged, durable, is_in}
use Rattle.law_handshakes.specs.Runs.{Step, Run, offered}

-- it is what is made again of the entries, as no connection sent them, and of the next place
abbrev pub CrashLeavesWhatIsKept : Type 0
CrashLeavesWhatIsKept = (old new : Outbox) → LostStep old new → new ≡ restored old.next_place (away old.copies)

-- deliveries are offered at QoS 1 or 2
abbrev pub IsAnswered : Step → Type 0
IsAnswered (offered c answer) = c.qos ≢ AtMostOnce
IsAnswered s = Unit {0}

-- the entries that calls lead to, as no connection sent them, don't contradict each other, nor the next place
abbrev pub KeepsAgreed : Type 0
KeepsAgreed = (steps : List Step) (end : Outbox) → AllByRecursion IsAnswered steps → Run empty_outbox steps end → agree end.next_place (away end.copies) ≡ true

-- states one after the other, as calls leave them
abbrev pub ArePassed : Watched → List Watched → Watched → Type 0
ArePassed old [] new = new ≡ old
ArePassed old (w ∷ ws) new = TouchesChanged old w × ArePassed w ws new

-- a call has changed what is durable of what stands at a place
abbrev pub ChangesIn : ℕ → Watched → List Watched → Type 0
ChangesIn p old [] = ⊥
ChangesIn p old (w ∷ ws) = (durable (at_place p old.box.copies) ≢ durable (at_place p w.box.copies)) ⊎ ChangesIn p w ws

-- Over any number of calls each place where what is durable has changed is touched, and none that no call has changed;
-- and what was touched before is so still.
pub record TouchedBetween (old new : Watched) (between : List Watched) : Type 0 where
  pub still : (p : ℕ) → is_in p old.touched ≡ true → is_in p new.touched ≡ true
  pub changed : (p : ℕ) → (durable (at_place p old.box.copies) ≡ durable (at_place p new.box.copies)) ⊎ (is_in p new.touched ≡ true)
  pub only : (p : ℕ) → is_in p new.touched ≡ true → (is_in p old.touched ≡ true) ⊎ ChangesIn p old between

abbrev pub KeepsTouched : Type 0
KeepsTouched = (old new : Watched) (between : List Watched) → ArePassed old between new → TouchedBetween old new between
