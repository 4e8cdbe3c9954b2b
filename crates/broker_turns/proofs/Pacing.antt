-- How much turns read, one after another.
use Rattle.std.proofs.Common.{◌≡◌, ℕ, ◌+◌, ◌-◌, ◌*◌, ◌/◌, ◌^◌, ◌≤◌, ◌<◌, zero, suc, List, [], ◌∷◌, length, true, false, ltb, min, max, Some, sym, ◌∙◌, ap, arith}
use Rattle.std.proofs.lemmas.Bool.{le-ltb, lt-ltb}
use Rattle.std.proofs.Math.Nat.{two-pow-succ}
use Rattle.std.proofs.lemmas.Nat.{pow_pos}
use Rattle.broker_turns.specs.declared.pace.Pace.{Pace}
use Rattle.broker_turns.specs.Pace.{is_long, paced}
use Rattle.broker_turns.specs.Pacing.{IsBegun, Begun, AreBegun, last_of, AreShort, AreLong, GrowsBack, ShrinksFast}

short-next : (last at : ℕ) → at ≤ last + 100 → ltb 100 (at - last) ≡ false
short-next last at h = le-ltb 100 (at - last) (omega (arith, h))

long-next : (last at : ℕ) → last + 100 < at → ltb 100 (at - last) ≡ true
long-next last at h = lt-ltb 100 (at - last) (omega arith)

long-most : (p p' : Pace) (a b : Begun) → p.most ≡ a.most → p.last ≡ Some a.at → IsBegun b.at p p' → a.at + 100 < b.at → p'.most ≡ max (a.most / 2) 512
long-most p p' a b most last is h =
    let long : is_long p.last b.at ≡ true = ap (λ l. is_long l b.at) last ∙ long-next a.at b.at h in
    is.most ∙ ap (λ l. paced l p.most) long ∙ ap (λ m. paced true m) most

short-most : (p p' : Pace) (a b : Begun) → p.most ≡ a.most → p.last ≡ Some a.at → IsBegun b.at p p' → b.at ≤ a.at + 100 → p'.most ≡ min (a.most + 512) 65536
short-most p p' a b most last is h =
    let long : is_long p.last b.at ≡ false = ap (λ l. is_long l b.at) last ∙ short-next a.at b.at h in
    is.most ∙ ap (λ l. paced l p.most) long ∙ ap (λ m. paced false m) most

growing : (p p' : Pace) (a : Begun) (rest : List Begun) → p.most ≡ a.most → p.last ≡ Some a.at → a.most ≤ 65536 → AreBegun p rest p' → AreShort a rest → (last_of a rest).most ≡ min (a.most + length rest * 512) 65536
growing p p' a [] most last top turns short = omega (arith, top)
growing p p' a (b ∷ rest) most last top (m, is, told, more) (h, short) =
    let next : b.most ≡ min (a.most + 512) 65536 = told ∙ short-most p m a b most last is h in
    let ih = growing m p' b rest (sym told) is.last (omega (arith, next)) more short in
    omega (arith, ih, next, top)

-- after so many long turns 512 bytes are left of what is at most 512 times that power of two
shrinking : (k : ℕ) (p p' : Pace) (a : Begun) (rest : List Begun) → p.most ≡ a.most → p.last ≡ Some a.at → 512 ≤ a.most → a.most ≤ 2 ^ k * 512 → AreBegun p rest p' → AreLong a rest → k ≤ length rest → (last_of a rest).most ≡ 512
shrinking zero p p' a [] most last low top turns long enough = omega (arith, low, top)
shrinking zero p p' a (b ∷ rest) most last low top (m, is, told, more) (h, long) enough =
    let next : b.most ≡ max (a.most / 2) 512 = told ∙ long-most p m a b most last is h in
    shrinking zero m p' b rest (sym told) is.last (omega (arith, next)) (omega (arith, next, top)) more long (omega arith)
shrinking (suc k) p p' a [] most last low top turns long enough = absurd (omega (arith, enough))
shrinking (suc k) p p' a (b ∷ rest) most last low top (m, is, told, more) (h, long) enough =
    let next : b.most ≡ max (a.most / 2) 512 = told ∙ long-most p m a b most last is h in
    let twice = two-pow-succ k in
    let some = pow_pos k in
    shrinking k m p' b rest (sym told) is.last (omega (arith, next)) (omega (arith, next, top, twice, some)) more long (omega (arith, enough))

pub grows_back : GrowsBack
grows_back pace pace' a rest (m, is, told, more) short = growing m pace' a rest (sym told) is.last (omega (arith, told, m.greatest)) more short

pub shrinks_fast : ShrinksFast
shrinks_fast pace pace' a rest (m, is, told, more) long enough = shrinking 7 m pace' a rest (sym told) is.last (omega (arith, told, m.least)) (omega (arith, told, m.greatest)) more long enough
