-- What is written is a spelling, and the shortest; a packet is sound where it has one.
use Rattle.std.proofs.Common.{◌≡◌, ℕ, zero, suc, ◌+◌, ◌*◌, ◌/◌, ◌%◌, ◌<◌, ◌≤◌, ◌^◌, true, false, ltb, List, ◌∷◌, ◌++◌, length, refl, ap, arith, inl, inr}
use Rattle.std.proofs.lemmas.Bool.{cases_lt, lt-ltb, le-ltb}
use Rattle.std.proofs.lemmas.List.{length-append}
use Rattle.mqtt_fields.specs.Numbers.{vbi, groups}
use Rattle.mqtt_packets.specs.declared.packet.Packet.{Packet}
use Rattle.mqtt_packets.specs.Head.{first_byte}
use Rattle.mqtt_packets.specs.Packet.{head_of, body_bytes}
use Rattle.mqtt_packets.specs.Stream.{Spells}
use Rattle.mqtt_packets.specs.Written.{written, HasSpelling, IsSound}
use Rattle.mqtt_packets.specs.Laws.{WrittenSpells, WrittenShortest}
use Rattle.mqtt_packets.proofs.PacketLaws.{body_written}

pub sound : (bytes : List ℕ) (p : Packet) → Spells bytes p → IsSound p
sound bytes p s =
    let w = body_written p in
    let le : length (body_bytes p) ≤ length s.inside = w.shortest s.inside s.spells in
    let lt = s.short in
    record { begins = s.begins; fits = w.fits s.inside s.spells; short = omega arith }

pub written_sound : (p : Packet) → IsSound p → Spells (written p) p
unfolding written
written_sound p s = record { inside = body_bytes p; whole = refl; begins = s.begins; short = s.short; spells = (body_written p).writes s.fits }

pub sound_of : (p : Packet) → HasSpelling p → IsSound p
sound_of p h = sound h.0 p h.1

pub spelling_of : (p : Packet) → IsSound p → HasSpelling p
spelling_of p s = (written p, written_sound p s)

pub written_spells : WrittenSpells
written_spells p h = written_sound p (sound h.0 p h.1)

one_group : (k n : ℕ) → n < 128 → length (groups k n) ≡ 1
one_group zero n lt = refl
one_group (suc k) n lt = let small : ltb n 128 ≡ true = lt-ltb n 128 lt in rw small refl

more_groups : (k n : ℕ) → 128 ≤ n → length (groups (suc k) n) ≡ suc (length (groups k (n / 128)))
more_groups k n le = let big : ltb n 128 ≡ false = le-ltb n 128 le in rw big refl

groups_some : (k n : ℕ) → 0 < length (groups k n)
groups_some zero n = omega arith
groups_some (suc k) n =
    elim (cases_lt n 128) [
      | inl lt ↦ omega (arith, one_group (suc k) n lt)
      | inr le ↦ omega (arith, more_groups k n le)
    ]

groups_rise : (k n m : ℕ) → n ≤ m → length (groups k n) ≤ length (groups k m)
groups_rise zero n m le = omega arith
groups_rise (suc k) n m le =
    elim (cases_lt n 128) [
      | inl lt ↦ omega (arith, one_group (suc k) n lt, groups_some (suc k) m)
      | inr ge ↦ let h : length (groups k (n / 128)) ≤ length (groups k (m / 128)) = groups_rise k (n / 128) (m / 128) (omega arith) in omega (arith, more_groups k n ge, more_groups k m (omega arith))
    ]

pub written_shortest : WrittenShortest
unfolding written
written_shortest bytes p s =
    let le : length (body_bytes p) ≤ length s.inside = (body_written p).shortest s.inside s.spells in
    let rise : length (vbi.bytes (length (body_bytes p))) ≤ length (vbi.bytes (length s.inside)) = groups_rise 3 (length (body_bytes p)) (length s.inside) le in
    let a : length bytes ≡ suc (length (vbi.bytes (length s.inside) ++ s.inside)) = ap length s.whole in
    omega (arith, length-append (vbi.bytes (length s.inside)) s.inside, length-append (vbi.bytes (length (body_bytes p))) (body_bytes p))
