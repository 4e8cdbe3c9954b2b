-- What is read is spelled so, and what is spelled so is read again.
use Rattle.std.proofs.Common.{◌≡◌, ℕ, zero, suc, ◌<◌, ◌^◌, ◌++◌, Bool, true, false, List, [], ◌∷◌, length, Option, Some, None, Ok, refl, sym, ap, subst, ◌∙◌, append_assoc}
use Rattle.std.specs.Prelude.{flat_map, ◌==◌}
use Rattle.std.proofs.Common.{◌&&◌, inl, inr}
use Rattle.std.proofs.lemmas.Bool.{cases_Bool, eqb-true, and_parts}
use Rattle.mqtt_fields.specs.declared.options.Qos.{Qos}
use Rattle.mqtt_fields.specs.declared.options.Qos.TheVariants.{AtMostOnce, AtLeastOnce, ExactlyOnce}
use Rattle.std.specs.Int.{w8, w16, w32, w64}
use Rattle.std.specs.List.{AllByRecursion}
use Rattle.mqtt_fields.specs.declared.fault.FieldFault.TheVariants.{Malformed}
use Rattle.mqtt_fields.specs.declared.table.Place.TheVariants as places
use Rattle.mqtt_fields.specs.Block.{properties}
use Rattle.mqtt_fields.specs.Field.{Field, IsField}
use Rattle.mqtt_fields.specs.Numbers.{number, text, long}
use Rattle.mqtt_fields.specs.Options.{qos_number}
use Rattle.mqtt_fields.proofs.Laws.{IsBytes-after, bind_ok, after_is, tested_is, seen_is}
use Rattle.mqtt_fields.proofs.NumberLaws.{number_is, wide8, wide16, wide32, wide64, text_is, long_is}
use Rattle.mqtt_fields.proofs.BlockLaws.{properties_is}
use Rattle.mqtt_message.specs.Spelling.{flag, optional, values_at}
use Rattle.mqtt_message.specs.Parts.{qos, qos_at}
use Rattle.mqtt_message.specs.Spellings.{delivery}
use Rattle.mqtt_message.proofs.WholeLaws.{delivery_is}
use Rattle.mqtt_message.proofs.SpellingLaws.{coded_is, flag_is, optional_is, values_takes}
use Rattle.qos_handshakes.specs.declared.copies.Stage.{Stage}
use Rattle.qos_handshakes.specs.declared.copies.Stage.TheVariants.{Waiting, Published, Released}
use Rattle.session_rows.specs.Fields.{many, closed_at, closed_parts, closed, is_short, payload, will_of, will_parts, will, main_of_parts, main_parts, main, stage_by, stage_at, stage_parts, parts, stage, copy}

values_again : {A : Type 0} (f : Field A) → IsField f → (xs : List A) (rest : List ℕ) → AllByRecursion f.Fits xs → values_at f (length xs) (flat_map f.bytes xs ++ rest) ≡ Ok (xs, rest)
values_again f F [] rest each = refl
values_again f F (x ∷ xs) rest each = rw (append_assoc (f.bytes x) (flat_map f.bytes xs) rest, F.again x (flat_map f.bytes xs ++ rest) each.0, values_again f F xs rest each.1) refl

pub many_is : {A : Type 0} (f : Field A) → IsField f → IsField (many f)
many_is {A} f F = record {
  takes = λ bs x bytes e.
      let n = bind_ok ((number w32).at bs) (λ n. values_at f n.0 n.1) x e in
      let s = (number_is w32 wide32).takes bs n.0 bytes n.1 in
      let t = values_takes f F n.0.0 n.0.1 x (IsBytes-after bs ((number w32).bytes n.0.0) n.0.1 bytes s.0) n.2 in
      let Front : ℕ → Type 0 = λ k. (bs ≡ (number w32).bytes k ++ n.0.1) × (k < 2 ^ 32) in
      let front = subst Front (sym t.count) s in
      (front.0 ∙ ap (λ (r : List ℕ). (number w32).bytes (length x.0) ++ r) t.spelled ∙ sym (append_assoc ((number w32).bytes (length x.0)) (flat_map f.bytes x.0) x.1), (front.1, t.each));
  again = λ xs rest fits.
      rw (append_assoc ((number w32).bytes (length xs)) (flat_map f.bytes xs) rest, (number_is w32 wide32).again (length xs) (flat_map f.bytes xs ++ rest) fits.0) (values_again f F xs rest fits.1);
}

closed_back : (a : Bool × ℕ) (b : Option ℕ) → closed_at a ≡ Some b → closed_parts b ≡ a
closed_back (true, n) None e = absurd cc
closed_back (true, n) (Some m) e = (let same : m ≡ n = sym cc in rw same refl)
closed_back (false, n) b e = elim (cases_Bool (n == 0)) [
  | inl zero_is ↦ (let made = rw zero_is at e in let is : b ≡ None = sym cc in rw (is, eqb-true n 0 zero_is) refl)
  | inr more ↦ (let made = rw more at e in absurd cc)
]

closed_forth : (b : Option ℕ) → closed_at (closed_parts b) ≡ Some b
closed_forth None = refl
closed_forth (Some n) = refl

pub closed_is : IsField closed
closed_is = coded_is closed_at closed_parts _ closed_back closed_forth (after_is flag (λ _. number w64) flag_is (λ _. number_is w64 wide64))

pub payload_is : IsField payload
payload_is = tested_is is_short Malformed long long_is

qos_back : (n : ℕ) (q : Qos) → qos_at n ≡ Some q → qos_number q ≡ n
qos_back zero AtMostOnce e = refl
qos_back zero AtLeastOnce e = absurd cc
qos_back zero ExactlyOnce e = absurd cc
qos_back (suc zero) AtMostOnce e = absurd cc
qos_back (suc zero) AtLeastOnce e = refl
qos_back (suc zero) ExactlyOnce e = absurd cc
qos_back (suc (suc zero)) AtMostOnce e = absurd cc
qos_back (suc (suc zero)) AtLeastOnce e = absurd cc
qos_back (suc (suc zero)) ExactlyOnce e = refl
qos_back (suc (suc (suc n))) q e = absurd cc

qos_forth : (q : Qos) → qos_at (qos_number q) ≡ Some q
qos_forth AtMostOnce = refl
qos_forth AtLeastOnce = refl
qos_forth ExactlyOnce = refl

pub qos_is : IsField qos
qos_is = coded_is qos_at qos_number (number w8) qos_back qos_forth (number_is w8 wide8)

pub will_is : IsField will
unfolding will
will_is = seen_is will_of will_parts _ (λ a. refl) (λ b. refl)
    (after_is text _ text_is (λ _. after_is payload _ payload_is (λ _. after_is (properties places.Will) _ (properties_is places.Will) (λ _. after_is qos _ qos_is (λ _. flag_is)))))

pub main_is : IsField main
unfolding main
main_is = seen_is main_of_parts main_parts _ (λ a. refl) (λ b. refl)
    (after_is (number w32) _ (number_is w32 wide32) (λ _. after_is closed _ closed_is (λ _. after_is (optional will) _ (optional_is will will_is) (λ _. after_is (many (number w16)) _ (many_is (number w16) (number_is w16 wide16)) (λ _. number_is w64 wide64)))))

stage_back : (state id order : ℕ) (s : Stage) → stage_by state id order ≡ Some s → stage_parts s ≡ (id, (state, order))
stage_back zero id order s e = elim (cases_Bool ((id == 0) && (order == 0))) [
  | inl both ↦
      let made = rw both at e in
      let is : s ≡ Waiting = sym cc in
      let zeros = and_parts (id == 0) (order == 0) both in
      rw (is, eqb-true id 0 zeros.0, eqb-true order 0 zeros.1) refl
  | inr more ↦ (let made = rw more at e in absurd cc)
]
stage_back (suc zero) id order s e = elim (cases_Bool (order == 0)) [
  | inl none ↦ (let made = rw none at e in let is : s ≡ Published id = sym cc in rw (is, eqb-true order 0 none) refl)
  | inr more ↦ (let made = rw more at e in absurd cc)
]
stage_back (suc (suc zero)) id order s e = (let is : s ≡ Released id order = sym cc in rw is refl)
stage_back (suc (suc (suc n))) id order s e = absurd cc

stage_forth : (s : Stage) → stage_at (stage_parts s) ≡ Some s
stage_forth Waiting = refl
stage_forth (Published id) = refl
stage_forth (Released id order) = refl

pub parts_is : IsField parts
parts_is = after_is (number w16) _ (number_is w16 wide16) (λ _. after_is (number w8) _ (number_is w8 wide8) (λ _. number_is w64 wide64))

pub stage_is : IsField stage
stage_is = coded_is stage_at stage_parts parts (λ a s e. stage_back a.1.0 a.0 a.1.1 s e) stage_forth parts_is

pub copy_is : IsField copy
unfolding copy
copy_is = after_is stage (λ _. delivery) stage_is (λ _. delivery_is)
