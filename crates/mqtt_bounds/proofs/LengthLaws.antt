-- Lengths of five bytes, and lengths with a last byte 0, are malformed.
use Rattle.std.proofs.Common.{◌≡◌, ℕ, zero, suc, ◌≤◌, Bool, true, false, List, [], ◌∷◌, ◌++◌, length, Option, Some, None, Result, Ok, Err, refl, ap, ◌∙◌, arith}
use Rattle.std.specs.Prelude.{nat_lt}
use Rattle.std.proofs.lemmas.Bool.{false_from_ne_true, ltb-true}
use Rattle.mqtt_fields.specs.declared.fault.FieldFault.TheVariants as fields
use Rattle.mqtt_fields.specs.Numbers.{group_at, vbi}
use Rattle.mqtt_packets.specs.declared.fault.PacketFault.TheVariants.{Malformed}
use Rattle.mqtt_packets.specs.Head.{head_at}
use Rattle.mqtt_packets.specs.Stream.{header_after, header_at, step_at}
use Rattle.mqtt_packets.proofs.CutLaws.{cut_err}
use Rattle.mqtt_bounds.specs.Lengths.{GoOn, LongLengthsAreRefused, PaddedLengthsAreRefused}

high_goes_on : (b : ℕ) → 128 ≤ b → nat_lt b 128 ≡ false
high_goes_on b le = false_from_ne_true (nat_lt b 128) (λ t. let lt = ltb-true b 128 t in omega (arith, lt, le))

-- k + 1 such bytes are one too many where k + 1 bytes may come
too_many : (k : ℕ) (high more : List ℕ) → length high ≡ suc k → GoOn high → group_at k (high ++ more) ≡ Err fields.Malformed
too_many k [] more long on = absurd (omega (arith, long))
too_many zero (b ∷ high) more long on = rw (high_goes_on b on.0) refl
too_many (suc k) (b ∷ high) more long on =
    let one : length high ≡ suc k = omega (arith, long) in
    rw (high_goes_on b on.0, too_many k high more one on.1) refl

-- a last byte 0 that stands for nothing
zero_last : (k : ℕ) (more : List ℕ) → group_at k (0 ∷ more) ≡ Ok (0, more)
zero_last zero more = refl
zero_last (suc k) more = refl

padded : (k : ℕ) (high more : List ℕ) → 1 ≤ length high → length high ≤ k → GoOn high → group_at k (high ++ 0 ∷ more) ≡ Err fields.Malformed
padded k [] more least most on = absurd (omega (arith, least))
padded zero (b ∷ high) more least most on = absurd (omega (arith, most))
padded (suc k) (b ∷ []) more least most on = rw (high_goes_on b on.0, zero_last k more) refl
padded (suc k) (b ∷ c ∷ high) more least most on =
    let one : 1 ≤ length (c ∷ high) = omega arith in
    let few : length (c ∷ high) ≤ k = omega (arith, most) in
    rw (high_goes_on b on.0, padded k (c ∷ high) more one few on.1) refl

header_fault : (first : ℕ) (bs : List ℕ) → vbi.at bs ≡ Err fields.Malformed → header_after (head_at first) bs ≡ Err Malformed
header_fault first bs e = elim (head_at first) as (λ o. header_after o bs ≡ Err Malformed) [
  | None ↦ refl
  | Some h ↦ rw e refl
]

at_front : (limit first : ℕ) (bs : List ℕ) → vbi.at bs ≡ Err fields.Malformed → step_at limit (first ∷ bs) ≡ Err Malformed
unfolding step_at header_at
at_front limit first bs e = rw (header_fault first bs e) refl

pub long_lengths : LongLengthsAreRefused
long_lengths = λ limit first high more four on. cut_err limit (first ∷ high ++ more) Malformed (at_front limit first (high ++ more) (too_many 3 high more four on))

pub padded_lengths : PaddedLengthsAreRefused
padded_lengths = λ limit first high more least most on. cut_err limit (first ∷ high ++ 0 ∷ more) Malformed (at_front limit first (high ++ 0 ∷ more) (padded 3 high more least most on))
