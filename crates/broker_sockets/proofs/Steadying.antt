-- A steady clock over any calls.
use Rattle.std.proofs.Common.{◌≡◌, ℕ, ◌+◌, ◌-◌, ◌*◌, ◌/◌, ◌^◌, ◌≤◌, ◌<◌, List, [], ◌∷◌, min, max, Option, Some, None, sym, ap, subst, refl, arith, inl, inr}
use Rattle.std.proofs.lemmas.Bool.{le-leb}
use Rattle.std.proofs.lemmas.Bool.Decides.{leb_tells}
use Rattle.broker_sockets.specs.declared.steady.Kept.{Kept}
use Rattle.broker_sockets.specs.declared.steady.SteadyClock.{SteadyClock}
use Rattle.broker_sockets.specs.declared.steady.Times.{Times}
use Rattle.broker_sockets.specs.Steady.{bounded, counted, quarters_after, quarters_by, Call, CatchesUp, BeginsWithTheSystem, GoesAlong, GoesOn, HoldsOverCalls, IsCaughtUpWith, IsNotAhead, IsNotFast, IsNotLater, Rises, AreCalls, counted_over, lag, last_of, latest}

-- a step of the quarters, where the system's clock isn't behind, and where it is
pub record IsStep (q system passed r : ℕ) : Type 0 where
  pub ahead : q ≤ bounded system * 4 + 3 → r ≡ min (q + passed * 5) (bounded system * 4 + 3)
  pub behind : bounded system * 4 + 3 < q → r ≡ min (q + passed * 4) (2 ^ 64 - 1)

pub stepped : (q system passed : ℕ) → IsStep q system passed (quarters_after q system passed)
unfolding quarters_after
stepped q system passed = record {
  ahead = λ h. rw (le-leb q (bounded system * 4 + 3) h) refl;
  behind = λ h. grind (arith, leb_tells);
}

-- whole milliseconds of so many quarters
record IsWhole (q at : ℕ) : Type 0 where
  from : at * 4 ≤ q
  below : q < at * 4 + 4
  fits : q < 2 ^ 64

whole : (q : ℕ) → q < 2 ^ 64 → IsWhole q (q / 4)
whole q fits = record { from = omega arith; below = omega arith; fits = fits }

step-fits : (q s p : ℕ) → quarters_after q s p < 2 ^ 64
unfolding quarters_after
step-fits q s p = grind (arith, leb_tells)

by-fits : (kept : Option Kept) (times : Times) → quarters_by kept times < 2 ^ 64
by-fits None times = omega arith
by-fits (Some kept) times = step-fits kept.quarters times.system (counted kept.monotonic times.monotonic)

-- a call after one, in numbers
record Follows (q : ℕ) (a b : Call) (r : ℕ) : Type 0 where
  step : IsStep q b.times.system (counted a.times.monotonic b.times.monotonic) r
  whole : IsWhole r b.at

abbrev Chain : ℕ → Call → List Call → Type 0
Chain q a [] = Unit {0}
Chain q a (b ∷ rest) = (r : ℕ) × Follows q a b r × Chain r b rest

module _ {C : Type 0} (reads : C → Times → C → Type 0) where
  chained : (rest : List Call) (q : ℕ) (a : Call) (m c' : SteadyClock C) → m.kept ≡ Some (record { quarters = q; monotonic = a.times.monotonic }) → AreCalls reads m rest c' → Chain q a rest
  chained [] q a m c' kept calls = tt
  chained (b ∷ rest) q a m c' kept (n, told, more) =
      let r = quarters_by m.kept b.times in
      let is : r ≡ quarters_after q b.times.system (counted a.times.monotonic b.times.monotonic) = ap (λ k. quarters_by k b.times) kept in
      let Step : ℕ → Type 0 = IsStep q b.times.system (counted a.times.monotonic b.times.monotonic) in
      let Whole : ℕ → Type 0 = IsWhole r in (
        r,
        record { step = subst Step (sym is) (stepped q b.times.system (counted a.times.monotonic b.times.monotonic)); whole = subst Whole (sym told.told) (whole r (by-fits m.kept b.times)) },
        chained rest r b n c' told.kept more,
      )

  -- a law of calls in numbers is one of a clock
  over_calls : (law : Call → List Call → Type 0) → ((q : ℕ) (a : Call) (rest : List Call) → IsWhole q a.at → Chain q a rest → law a rest) → HoldsOverCalls reads law
  over_calls law holds c c' a rest (m, told, more) =
      let q = quarters_by c.kept a.times in
      let Whole : ℕ → Type 0 = IsWhole q in
      holds q a rest (subst Whole (sym told.told) (whole q (by-fits c.kept a.times))) (chained rest q a m c' told.kept more)

  pub begins : BeginsWithTheSystem reads
  begins c c' a fresh told =
      let first : quarters_by c.kept a.times ≡ bounded a.times.system * 4 + 3 = ap (λ k. quarters_by k a.times) fresh in
      let Whole : ℕ → Type 0 = λ n. IsWhole n a.at in
      let w = subst Whole first (subst (λ n. IsWhole (quarters_by c.kept a.times) n) (sym told.told) (whole (quarters_by c.kept a.times) (by-fits c.kept a.times))) in
      omega (arith, w.from, w.below)

step-rises : (q s p r : ℕ) → q < 2 ^ 64 → IsStep q s p r → q ≤ r
step-rises q s p r fits step = grind (arith, step.ahead, step.behind)

step-slow : (q s p r : ℕ) → IsStep q s p r → r ≤ q + p * 5
step-slow q s p r step = grind (arith, step.ahead, step.behind)

rising : (q : ℕ) (a : Call) (rest : List Call) → IsWhole q a.at → Chain q a rest → Rises a rest
rising q a [] w chain = omega arith
rising q a (b ∷ rest) w (r, follows, more) =
    let up = step-rises q b.times.system (counted a.times.monotonic b.times.monotonic) r w.fits follows.step in
    let ih = rising r b rest follows.whole more in
    omega (arith, up, w.from, follows.whole.below, ih)

slow : (q : ℕ) (a : Call) (rest : List Call) → IsWhole q a.at → Chain q a rest → (last_of a rest).at * 4 ≤ q + counted_over a rest * 5
slow q a [] w chain = omega (arith, w.from)
slow q a (b ∷ rest) w (r, follows, more) =
    let up = step-slow q b.times.system (counted a.times.monotonic b.times.monotonic) r follows.step in
    let ih = slow r b rest follows.whole more in
    omega (arith, up, ih)

not_fast : (q : ℕ) (a : Call) (rest : List Call) → IsWhole q a.at → Chain q a rest → IsNotFast a rest
not_fast q a rest w chain = let up = slow q a rest w chain in omega (arith, up, w.below)

-- a call that finds the system's clock not behind the moment before, and one that finds it behind
follows-ahead : (q : ℕ) (a b : Call) (r : ℕ) → IsWhole q a.at → Follows q a b r → a.at ≤ b.times.system → r ≡ min (q + counted a.times.monotonic b.times.monotonic * 5) (bounded b.times.system * 4 + 3)
follows-ahead q a b r w follows h = follows.step.ahead (omega (arith, w.from, w.below, w.fits, h))

follows-behind : (q : ℕ) (a b : Call) (r : ℕ) → IsWhole q a.at → Follows q a b r → b.times.system < a.at → r ≡ min (q + counted a.times.monotonic b.times.monotonic * 4) (2 ^ 64 - 1)
follows-behind q a b r w follows h = follows.step.behind (omega (arith, w.from, h))

not-ahead-next : (q : ℕ) (a b : Call) (r : ℕ) → IsWhole q a.at → Follows q a b r → IsCaughtUpWith a b
not-ahead-next q a b r w follows h =
    let is = follows-ahead q a b r w follows h in
    let from = follows.whole.from in
    omega (arith, is, from)

not_ahead : (q : ℕ) (a : Call) (rest : List Call) → IsWhole q a.at → Chain q a rest → IsNotAhead a rest
not_ahead q a [] w chain h never = h
not_ahead q a (b ∷ rest) w (r, follows, more) h (up, never) =
    not_ahead r b rest follows.whole more (not-ahead-next q a b r w follows (omega (arith, h, up))) never

no-later-next : (q : ℕ) (a b : Call) (r : ℕ) → IsWhole q a.at → Follows q a b r → b.at ≤ max (a.at + counted a.times.monotonic b.times.monotonic) b.times.system
no-later-next q a b r w follows =
    elim (leb_tells a.at b.times.system) [
      | inl h ↦ (let e = not-ahead-next q a b r w follows h.1 in omega (arith, e))
      | inr h ↦ (let is = follows-behind q a b r w follows h.1 in let from = follows.whole.from in omega (arith, is, from, w.below))
    ]

no_later : (q moment : ℕ) (a : Call) (rest : List Call) → IsWhole q a.at → Chain q a rest → a.at ≤ moment → (last_of a rest).at ≤ latest moment a rest
no_later q moment a [] w chain h = h
no_later q moment a (b ∷ rest) w (r, follows, more) h =
    let next = no-later-next q a b r w follows in
    no_later r (max (moment + counted a.times.monotonic b.times.monotonic) b.times.system) b rest follows.whole more (omega (arith, next, h))

-- where the system's clock goes along, it never falls
along-rises : (a : Call) (rest : List Call) → GoesAlong a rest → a.times.system ≤ (last_of a rest).times.system
along-rises a [] along = omega arith
along-rises a (b ∷ rest) (is, along) = let ih = along-rises b rest along in omega (arith, ih, is)

-- one step of the lag: l is what is left of it in quarters
lag-step : (q s t p r l d : ℕ) → t ≡ s + p → q ≤ s * 4 + 3 → r ≡ min (q + p * 5) (t * 4 + 3) → l ≤ t * 4 + 3 - r - d → l ≤ s * 4 + 3 - q - (d + p)
lag-step q s t p r l d goes below is left = omega (arith, goes, below, is, left)

record IsCatching (q : ℕ) (a z : Call) : Type 0 where
  at : z.at ≤ z.times.system
  left : lag z * 4 ≤ a.times.system * 4 + 3 - q - (z.times.system - a.times.system)

catching : (q : ℕ) (a : Call) (rest : List Call) → IsWhole q a.at → Chain q a rest → a.at ≤ a.times.system → GoesAlong a rest → (last_of a rest).times.system < 2 ^ 62 → IsCatching q a (last_of a rest)
catching q a [] w chain h along fits = record { at = h; left = omega (arith, w.below, h) }
catching q a (b ∷ rest) w (r, follows, more) h (is, along) fits =
    let z = last_of b rest in
    let up = along-rises b rest along in
    let p = counted a.times.monotonic b.times.monotonic in
    let small : b.times.system < 2 ^ 62 = omega (arith, up, fits) in
    let step = follows-ahead q a b r w follows (omega (arith, h, is)) in
    let r_is : r ≡ min (q + p * 5) (b.times.system * 4 + 3) = omega (arith, step, small) in
    let ih = catching r b rest follows.whole more (not-ahead-next q a b r w follows (omega (arith, h, is))) along fits in
    let left = lag-step q a.times.system b.times.system p r (lag z * 4) (z.times.system - b.times.system) is (omega (arith, w.below, h)) r_is ih.left in
    record { at = ih.at; left = omega (arith, left, up, is) }

catches_up : (q : ℕ) (a : Call) (rest : List Call) → IsWhole q a.at → Chain q a rest → CatchesUp a rest
catches_up q a rest w chain h along fits =
    let z = last_of a rest in
    let is = catching q a rest w chain h along fits in
    let from = w.from in
    let shrinks : lag z * 4 ≤ lag a * 4 + 3 - (z.times.system - a.times.system) = omega (arith, is.left, from, h) in
    record { shrinks = shrinks; equal = λ over. omega (arith, shrinks, over, is.at) }

going-on : (q : ℕ) (a : Call) (rest : List Call) → IsWhole q a.at → Chain q a rest → GoesOn a rest
going-on q a [] w chain behind fits = omega arith
going-on q a (b ∷ rest) w (r, follows, more) (back, behind) fits =
    let p = counted a.times.monotonic b.times.monotonic in
    let is = follows-behind q a b r w follows back in
    let next : b.at ≡ a.at + p = omega (arith, is, w.from, w.below, follows.whole.from, follows.whole.below, fits) in
    let ih = going-on r b rest follows.whole more behind (omega (arith, next, fits)) in
    omega (arith, ih, next)

abbrev IsNextOf : (Call → Call → Type 0) → Call → List Call → Type 0
IsNextOf law a [] = Unit {0}
IsNextOf law a (b ∷ rest) = law a b

next-caught : (q : ℕ) (a : Call) (rest : List Call) → IsWhole q a.at → Chain q a rest → IsNextOf IsCaughtUpWith a rest
next-caught q a [] w chain = tt
next-caught q a (b ∷ rest) w (r, follows, more) = not-ahead-next q a b r w follows

module _ {C : Type 0} (reads : C → Times → C → Type 0) where
  pub never_falls : HoldsOverCalls reads Rises
  never_falls = over_calls reads Rises rising

  pub goes_evenly : HoldsOverCalls reads IsNotFast
  goes_evenly = over_calls reads IsNotFast not_fast

  pub not_ahead_of_it : HoldsOverCalls reads IsNotAhead
  not_ahead_of_it = over_calls reads IsNotAhead not_ahead

  pub caught_up : (c c' : SteadyClock C) (a b : Call) → AreCalls reads c (a ∷ b ∷ []) c' → IsCaughtUpWith a b
  caught_up c c' a b = over_calls reads (λ a rest. IsNextOf IsCaughtUpWith a rest) next-caught c c' a (b ∷ [])

  pub not_later : HoldsOverCalls reads IsNotLater
  not_later = over_calls reads IsNotLater (λ q a rest w chain. no_later q a.at a rest w chain (omega arith))

  pub catches : HoldsOverCalls reads CatchesUp
  catches = over_calls reads CatchesUp catches_up

  pub goes_on : HoldsOverCalls reads GoesOn
  goes_on = over_calls reads GoesOn going-on
