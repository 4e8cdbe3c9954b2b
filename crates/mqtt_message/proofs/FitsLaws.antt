-- What a message's parts say of its spelling.
use Rattle.std.proofs.Common.{◌≡◌, ◌≢◌, ◌<◌, ◌^◌, ℕ, Bool, true, false, ◌&&◌, List, [], ◌∷◌, length, refl, arith}
use Rattle.std.specs.Prelude.{IsTrue, not, ◌==◌, nat_lt, nat_le}
use Rattle.std.specs.List.{list_any}
use Rattle.std.specs.Int.{w32}
use Rattle.std.specs.List.{AllByRecursion}
use Rattle.std.proofs.Math.Dec.{eqb-suc-zero}
use Rattle.std.proofs.lemmas.Bool.{false_from_ne_true, lt-ltb, ltb-true, and_parts}
use Rattle.mqtt_fields.specs.Numbers.{number}
use Rattle.mqtt_fields.specs.declared.options.Qos.{Qos}
use Rattle.mqtt_fields.specs.declared.options.Qos.TheVariants.{AtMostOnce, AtLeastOnce, ExactlyOnce}
use Rattle.mqtt_topics.specs.Levels.{is_wildcard}
use Rattle.mqtt_topics.specs.Topics.{IsName}
use Rattle.mqtt_message.specs.Identifiers.{ascends_from}
use Rattle.mqtt_message.specs.Spelling.{flag}
use Rattle.mqtt_message.specs.Parts.{name, is_name, payload, qos}

not_empty : (t : List ℕ) → t ≢ [] → not (length t == 0) ≡ true
not_empty [] some = absurd (some refl)
not_empty (b ∷ t) some = rw (eqb-suc-zero (length t)) refl

is_named : (t : List ℕ) → IsName t → is_name t ≡ true
is_named t named = rw (not_empty t named.some, false_from_ne_true (list_any is_wildcard t) named.plain) refl

pub name_fits : (t : List ℕ) → IsName t → name.Fits t
name_fits t named = (named.fits, is_named t named)

pub payload_fits : (p : List ℕ) → length p < 2 ^ 28 → payload.Fits p
payload_fits p short = (omega (arith, short), lt-ltb (length p) 268435456 short)

pub qos_fits : (q : Qos) → qos.Fits q
qos_fits AtMostOnce = omega arith
qos_fits AtLeastOnce = omega arith
qos_fits ExactlyOnce = omega arith

pub flag_fits : (b : Bool) → flag.Fits b
flag_fits true = omega arith
flag_fits false = omega arith

pub numbers_fit : (least : ℕ) (ns : List ℕ) → IsTrue (ascends_from least ns) → AllByRecursion (number w32).Fits ns
numbers_fit least [] ascending = tt
numbers_fit least (n ∷ rest) ascending =
    let parts = and_parts (nat_le least n) (nat_lt n 268435456 && ascends_from n rest) ascending in
    let later = and_parts (nat_lt n 268435456) (ascends_from n rest) parts.1 in
    (omega (arith, ltb-true n 268435456 later.0), numbers_fit n rest later.1)
