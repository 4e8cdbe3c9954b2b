-- Messages for another node's clients are read as they are spelled.
use Rattle.std.proofs.Common.{◌≡◌, ◌^◌, ℕ, zero, suc, ◌+◌, ◌<◌, ◌≤◌, nat_lt, List, [], ◌∷◌, length, take, get_or, Result, Ok, Err, refl, ap, length-append, arith}
use Rattle.std.specs.Prelude.{flat_map, IsOk}
use Rattle.std.specs.Int.{w64}
use Rattle.mqtt_fields.specs.declared.fault.FieldFault.{FieldFault}
use Rattle.mqtt_fields.specs.declared.fault.FieldFault.TheVariants.{Malformed}
use Rattle.mqtt_fields.specs.Reading.{◌>>=◌}
use Rattle.mqtt_fields.specs.Field.{IsField, after}
use Rattle.mqtt_fields.specs.Numbers.{number, text}
use Rattle.mqtt_fields.proofs.Laws.{after_is, bind_ok, tested_is, seen_is}
use Rattle.mqtt_fields.proofs.NumberLaws.{number_is, wide64, text_is}
use Rattle.mqtt_message.specs.Spelling.{flag, listed}
use Rattle.mqtt_message.specs.Spellings.{message}
use Rattle.mqtt_message.proofs.SpellingLaws.{flag_is, listed_is}
use Rattle.mqtt_message.proofs.WholeLaws.{message_is}
use Rattle.mqtt_topics.specs.Testing.{is_filter}
use Rattle.replica_bytes.specs.Memory.{HasText}
use Rattle.replica_bytes.specs.Values.{filter}
use Rattle.bridge_frames.specs.declared.pick.Pick.{Pick}
use Rattle.bridge_frames.specs.Forwards.{is_shared, shared_filter, pick, forward_of, forward_parts, forward, got_number, is_lane_number, lane_number, numbered}

filter_is : IsField filter
filter_is = tested_is is_filter Malformed text text_is

shared_filter_is : IsField shared_filter
shared_filter_is = tested_is is_shared Malformed filter filter_is

pub pick_is : IsField pick
pick_is = seen_is (λ x. record { client = x.0; filter = x.1 }) (λ p. (p.client, p.filter)) (after text (λ _. shared_filter)) (λ _. refl) (λ _. refl) (after_is text (λ _. shared_filter) text_is (λ _. shared_filter_is))

pub forward_is : IsField forward
unfolding forward
forward_is = seen_is forward_of forward_parts (after flag (λ _. after (listed pick) (λ _. message))) (λ _. refl) (λ _. refl)
    (after_is flag (λ _. after (listed pick) (λ _. message)) flag_is (λ _. after_is (listed pick) (λ _. message) (listed_is pick pick_is) (λ _. message_is)))

pub got_number_is : IsField got_number
got_number_is = tested_is (λ n. nat_lt n (2 ^ 62)) Malformed (number w64) (number_is w64 wide64)

lane_number_is : IsField lane_number
lane_number_is = tested_is is_lane_number Malformed (number w64) (number_is w64 wide64)

pub numbered_is : IsField numbered
numbered_is = after_is lane_number (λ _. forward) lane_number_is (λ _. forward_is)

-- ---- what was read, and room for what is written
first_ok : {A B : Type 0} (r : Result A FieldFault) (f : A → Result B FieldFault) (x : B) → (r >>= f) ≡ Ok x → IsOk r
first_ok (Ok a) f x e = refl
first_ok (Err fault) f x e = absurd cc

-- the client of a pick that was read
pub pick_begins : (bs : List ℕ) (x : Pick × List ℕ) → pick.at bs ≡ Ok x → HasText bs
pick_begins bs x e =
    let whole = bind_ok _ _ x e in
    first_ok (text.at bs) _ whole.0 whole.1

-- those that were written and one more take no more than all
pub one_more : {A : Type 0} (bytes : A → List ℕ) (xs : List A) (i : ℕ) (x : A) → i < length xs → x ≡ get_or xs i x → length (flat_map bytes (take i xs)) + length (bytes x) ≤ length (flat_map bytes xs)
one_more bytes [] i x inside is = absurd (omega (arith, inside))
one_more bytes (y ∷ ys) zero x inside is =
    let same = ap (λ z. length (bytes z)) is in
    omega (arith, same, length-append (bytes y) (flat_map bytes ys))
one_more bytes (y ∷ ys) (suc i) x inside is =
    let rest = one_more bytes ys i x (omega (arith, inside)) is in
    omega (arith, rest, length-append (bytes y) (flat_map bytes ys), length-append (bytes y) (flat_map bytes (take i ys)))
