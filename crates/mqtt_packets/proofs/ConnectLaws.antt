-- CONNECT is read as it is spelled.
use Rattle.std.proofs.Common.{◌≡◌, ℕ, zero, suc, ◌+◌, ◌*◌, ◌/◌, ◌%◌, ◌<◌, ◌≤◌, Bool, true, false, cond, List, [], ◌∷◌, ◌++◌, Option, Some, None, Result, Ok, Err, refl, sym, ap, subst, ◌∙◌, append_assoc, ◌^◌, length, arith, rules}
use Rattle.std.specs.Prelude.{IsTrue, ◌==◌, ◌&&◌, codes, option_map, is_some, MatchOption}
use Rattle.std.specs.Int.{w8, w16}
use Rattle.std.specs.Str.{bytes_eq}
use Rattle.std.proofs.lemmas.Option.{same_Some}
use Rattle.std.proofs.lemmas.Bool.{eqb-true, and_parts}
use Rattle.std.proofs.lemmas.Slice.Eq.{bytes_eq-Decides}
use Rattle.std.proofs.lemmas.Str.{IsUtf8-from_ascii}
use Rattle.std.proofs.lemmas.List.{length-append}
use Rattle.mqtt_fields.specs.declared.fault.FieldFault.TheVariants as fields
use Rattle.mqtt_fields.specs.declared.options.Qos.{Qos}
use Rattle.mqtt_fields.specs.declared.value.Property.{Property}
use Rattle.mqtt_fields.specs.declared.table.Place.TheVariants as places
use Rattle.mqtt_fields.specs.Field.{Field, after}
use Rattle.mqtt_fields.specs.Numbers.{number, text, blob}
use Rattle.mqtt_fields.specs.Block.{properties}
use Rattle.mqtt_fields.specs.Options.{qos_number}
use Rattle.mqtt_fields.proofs.Laws.{IsBytes, IsField, after_is, bind_ok, ok_is}
use Rattle.mqtt_fields.proofs.NumberLaws.{wide8, wide16, number_is, text_is, blob_is}
use Rattle.mqtt_fields.proofs.TextLaws.{is_text_from}
use Rattle.mqtt_fields.proofs.BlockLaws.{properties_is}
use Rattle.mqtt_packets.specs.declared.fault.PacketFault.TheVariants.{ProtocolError, WrongVersion}
use Rattle.mqtt_packets.specs.declared.connect.Connect.{Connect}
use Rattle.mqtt_packets.specs.declared.connect.Will.{Will}
use Rattle.mqtt_packets.specs.declared.connect.ConnectFlags.{ConnectFlags}
use Rattle.mqtt_packets.specs.declared.connect.WillFlags.{WillFlags}
use Rattle.mqtt_packets.specs.Reading.{field_at}
use Rattle.mqtt_packets.specs.Body.{only}
use Rattle.mqtt_packets.specs.Optional.{maybe}
use Rattle.mqtt_packets.specs.Measure.{MeasuresField, Measures}
use Rattle.mqtt_packets.specs.Head.{bit, level_of}
use Rattle.mqtt_packets.specs.Connect.{will_bits, flags_byte, will_flags_at, flags_in, flags_at, flags_read, connect_flags, is_mqtt, WillParts, will, login, TailParts, tail, ConnectParts, will_of, will_parts, connect_from, connect_of, will_flags, flags_of, tail_parts, connect_parts, is_valid_connect, connect, connect_end}
use Rattle.mqtt_packets.proofs.HeadLaws.{bit_is, bit_small, bit_back, qos_found, qos_again, qos_small}
use Rattle.mqtt_packets.proofs.BodyLaws.{IsBody, only_is, then_is, given_is, valid_is, as_is}
use Rattle.mqtt_packets.proofs.OptionalLaws.{maybe_is}

-- the flag byte
pub sum_bits : (f a w p u : ℕ) → f < 256 → f % 2 ≡ 0 → a ≡ f / 2 % 2 → w ≡ 4 * (f / 4 % 2) + 8 * (f / 8 % 4) + 32 * (f / 32 % 2) → p ≡ f / 64 % 2 → u ≡ f / 128 % 2 → 2 * a + w + 64 * p + 128 * u ≡ f
sum_bits f a w p u lt even ea ew ep eu = omega arith

with_will : (n : ℕ) (o : Option Qos) (w : Option WillFlags) → n / 4 % 2 ≡ 1 → level_of (n / 8 % 4) ≡ o → option_map (λ q. Some (record { qos = q; retain = n / 32 % 2 == 1 })) o ≡ Some w
    → will_bits w ≡ 4 * (n / 4 % 2) + 8 * (n / 8 % 4) + 32 * (n / 32 % 2)
with_will n None w one q e = absurd cc
with_will n (Some level) w one q e =
    let made : WillFlags = record { qos = level; retain = n / 32 % 2 == 1 } in
    let number : qos_number level ≡ n / 8 % 4 = qos_found (n / 8 % 4) level q in
    let retain : bit (n / 32 % 2 == 1) ≡ n / 32 % 2 = bit_is (n / 32 % 2) (omega arith) in
    ap will_bits (sym (same_Some (Some made) w e)) ∙ omega arith

without_will : (n : ℕ) (t : Bool) (w : Option WillFlags) → (n / 4 % 2 == 1) ≡ false → ((n / 8 % 4 == 0) && (n / 32 % 2 == 0)) ≡ t → cond t (Some None) None ≡ Some w
    → will_bits w ≡ 4 * (n / 4 % 2) + 8 * (n / 8 % 4) + 32 * (n / 32 % 2)
without_will n false w unset g e = absurd cc
without_will n true w unset g e =
    let both = and_parts (n / 8 % 4 == 0) (n / 32 % 2 == 0) g in
    let q : n / 8 % 4 ≡ 0 = eqb-true _ _ both.0 in
    let r : n / 32 % 2 ≡ 0 = eqb-true _ _ both.1 in
    let none : bit (n / 4 % 2 == 1) ≡ 0 = ap bit unset in
    let some : bit (n / 4 % 2 == 1) ≡ n / 4 % 2 = bit_is (n / 4 % 2) (omega arith) in
    ap will_bits (sym (same_Some None w e)) ∙ omega arith

will_case : (n : ℕ) (t : Bool) (w : Option WillFlags) → (n / 4 % 2 == 1) ≡ t
    → cond t (option_map (λ q. Some (record { qos = q; retain = n / 32 % 2 == 1 })) (level_of (n / 8 % 4))) (cond ((n / 8 % 4 == 0) && (n / 32 % 2 == 0)) (Some None) None) ≡ Some w
    → will_bits w ≡ 4 * (n / 4 % 2) + 8 * (n / 8 % 4) + 32 * (n / 32 % 2)
will_case n true w t e = with_will n (level_of (n / 8 % 4)) w (eqb-true _ _ t) refl e
will_case n false w t e = without_will n ((n / 8 % 4 == 0) && (n / 32 % 2 == 0)) w t refl e

some_flags : (n : ℕ) (o : Option (Option WillFlags)) (f : ConnectFlags) → n < 256 → n % 2 ≡ 0 → will_flags_at n ≡ o → option_map (flags_in n) o ≡ Some f → flags_byte f ≡ n
some_flags n None f lt even at e = absurd cc
some_flags n (Some w) f lt even at e =
    ap flags_byte (sym (same_Some (flags_in n w) f e))
    ∙ sum_bits n (bit (n / 2 % 2 == 1)) (will_bits w) (bit (n / 64 % 2 == 1)) (bit (n / 128 % 2 == 1)) lt even (bit_is (n / 2 % 2) (omega arith)) (will_case n (n / 4 % 2 == 1) w refl at) (bit_is (n / 64 % 2) (omega arith)) (bit_is (n / 128 % 2) (omega arith))

even_case : (n : ℕ) (t : Bool) (f : ConnectFlags) → n < 256 → (n % 2 == 0) ≡ t → cond t (option_map (flags_in n) (will_flags_at n)) None ≡ Some f → flags_byte f ≡ n
even_case n true f lt even e = some_flags n (will_flags_at n) f lt (eqb-true _ _ even) refl e
even_case n false f lt even e = absurd cc

flags_found : (n : ℕ) (f : ConnectFlags) → n < 256 → flags_at n ≡ Some f → flags_byte f ≡ n
flags_found n f lt e = even_case n (n % 2 == 0) f lt refl e

bits_back : (f b s q r p u : ℕ) → b < 2 → s < 2 → q < 4 → r < 2 → p < 2 → u < 2 → f ≡ 2 * b + (4 * s + 8 * q + 32 * r) + 64 * p + 128 * u
    → (f < 256) × (f % 2 ≡ 0) × (f / 2 % 2 ≡ b) × (f / 4 % 2 ≡ s) × (f / 8 % 4 ≡ q) × (f / 32 % 2 ≡ r) × (f / 64 % 2 ≡ p) × (f / 128 % 2 ≡ u)
bits_back f b s q r p u lb ls lq lr lp lu e = (omega arith, omega arith, omega arith, omega arith, omega arith, omega arith, omega arith, omega arith)

is_one : (n m : ℕ) (b : Bool) → n ≡ m → m ≡ bit b → (n == 1) ≡ b
is_one n m b e h = ap (λ (k : ℕ). k == 1) (e ∙ h) ∙ bit_back b

flags_same : (c d : Bool) (w v : Option WillFlags) (u x p y : Bool) → c ≡ d → w ≡ v → u ≡ x → p ≡ y
    → ◌≡◌ {A = ConnectFlags} (record { clean_start = c; will = w; user_name = u; password = p }) (record { clean_start = d; will = v; user_name = x; password = y })
flags_same c d w v u x p y a b e f =
    let one : Bool → ConnectFlags = λ z. record { clean_start = z; will = w; user_name = u; password = p } in
    let two : Option WillFlags → ConnectFlags = λ z. record { clean_start = d; will = z; user_name = u; password = p } in
    let three : Bool → ConnectFlags = λ z. record { clean_start = d; will = v; user_name = z; password = p } in
    let four : Bool → ConnectFlags = λ z. record { clean_start = d; will = v; user_name = x; password = z } in
    ap one a ∙ ap two b ∙ ap three e ∙ ap four f

flags_again : (c : Bool) (w : Option WillFlags) (u p : Bool) → (flags_byte (record { clean_start = c; will = w; user_name = u; password = p }) < 256)
    × (flags_at (flags_byte (record { clean_start = c; will = w; user_name = u; password = p })) ≡ Some (record { clean_start = c; will = w; user_name = u; password = p }))
flags_again c None u p =
    let n = 2 * bit c + 0 + 64 * bit p + 128 * bit u in
    let b = bits_back n (bit c) 0 0 0 (bit p) (bit u) (bit_small c) (omega arith) (omega arith) (omega arith) (bit_small p) (bit_small u) (omega arith) in
    (b.0, rw (b.1, b.3, b.4, b.5) (ap (λ (f : ConnectFlags). Some f) (flags_same _ c None None _ u _ p (is_one _ (bit c) c b.2 refl) refl (is_one _ (bit u) u b.7 refl) (is_one _ (bit p) p b.6 refl))))
flags_again c (Some w) u p =
    let n = 2 * bit c + (4 + 8 * qos_number w.qos + 32 * bit w.retain) + 64 * bit p + 128 * bit u in
    let q = qos_small w.qos in
    let b = bits_back n (bit c) 1 (qos_number w.qos) (bit w.retain) (bit p) (bit u) (bit_small c) (omega arith) (omega arith) (bit_small w.retain) (bit_small p) (bit_small u) (omega arith) in
    let retain : WillFlags = record { qos = w.qos; retain = n / 32 % 2 == 1 } in
    let same : Some retain ≡ Some w = ap (λ (z : Bool). Some (record { qos = w.qos; retain = z })) (is_one (n / 32 % 2) (bit w.retain) w.retain b.5 refl) in
    (b.0, rw (b.1, b.3, b.4, qos_again w.qos) (ap (λ (f : ConnectFlags). Some f) (flags_same _ c (Some retain) (Some w) _ u _ p (is_one _ (bit c) c b.2 refl) same (is_one _ (bit u) u b.7 refl) (is_one _ (bit p) p b.6 refl))))

read_case : (x : ℕ × List ℕ) (o : Option ConnectFlags) (y : ConnectFlags × List ℕ) → flags_at x.0 ≡ o → flags_read x o ≡ Ok y → (flags_at x.0 ≡ Some y.0) × (x.1 ≡ y.1)
read_case x None y at e = absurd cc
read_case x (Some f) y at e =
    let made : ConnectFlags × List ℕ = (f, x.1) in
    let same : made ≡ y = ok_is made y e in
    (at ∙ ap (λ (z : ConnectFlags × List ℕ). Some z.0) same, ap (λ (z : ConnectFlags × List ℕ). z.1) same)

byte_is : (n : ℕ) → n < 256 → (number w8).bytes n ≡ n ∷ []
byte_is n lt = let same : n % 256 ≡ n = omega arith in ap (λ (b : ℕ). b ∷ []) same

pub flags_is : IsField connect_flags
unfolding connect_flags
flags_is = record {
  takes = λ bs y fits e.
      let n = bind_ok ((number w8).at bs) (λ n. flags_read n (flags_at n.0)) y e in
      let t = (number_is w8 wide8).takes bs n.0 fits n.1 in
      let c = read_case n.0 (flags_at n.0.0) y refl n.2 in
      let lt : n.0.0 < 256 = t.1 in
      (t.0 ∙ ap (λ (ys : List ℕ). ys ++ n.0.1) (byte_is n.0.0 lt ∙ ap (λ (b : ℕ). b ∷ []) (sym (flags_found n.0.0 y.0 lt c.0))) ∙ ap (λ (r : List ℕ). flags_byte y.0 ∷ r) c.1, tt);
  again = λ f rest fits.
      let b = flags_again f.clean_start f.will f.user_name f.password in
      let lt : flags_byte f < 256 = b.0 in
      let at : (number w8).at (flags_byte f ∷ rest) ≡ Ok (flags_byte f, rest) = ap (λ (ys : List ℕ). (number w8).at (ys ++ rest)) (sym (byte_is (flags_byte f) lt)) ∙ (number_is w8 wide8).again (flags_byte f) rest lt in
      rw (at, b.1) refl;
}

pub will_is : IsField will
unfolding will
will_is = after_is (properties places.Will) (λ _. after text (λ _. blob)) (properties_is places.Will) (λ _. after_is text (λ _. blob) text_is (λ _. blob_is))

login_is : (f : ConnectFlags) → IsField (login f)
unfolding login
login_is f = after_is (maybe f.user_name text) _ (maybe_is f.user_name text text_is) (λ _. maybe_is f.password blob blob_is)

tail_is : (f : ConnectFlags) → IsField (tail f)
unfolding tail
tail_is f = after_is text _ text_is (λ _. after_is (maybe (is_some f.will) will) _ (maybe_is (is_some f.will) will will_is) (λ _. login_is f))

some_is : {A : Type 0} (b : Bool) (f : Field A) (o : Option A) → (maybe b f).Fits o → is_some o ≡ b
some_is true f None h = absurd h
some_is true f (Some a) h = refl
some_is false f None h = refl
some_is false f (Some a) h = absurd h

will_back : (f : Option WillFlags) (o : Option WillParts) → (maybe (is_some f) will).Fits o → (option_map will_flags (will_of f o) ≡ f) × (option_map will_parts (will_of f o) ≡ o)
will_back None None h = (refl, refl)
will_back None (Some w) h = absurd h
will_back (Some f) None h = absurd h
will_back (Some f) (Some w) h = (refl, refl)

parts_same : (n m : List ℕ) (v w : ℕ) (f g : ConnectFlags) (k : ℕ) (ps : List Property) (c : List ℕ) (o q : Option WillParts) (r : Option (List ℕ) × Option (List ℕ)) → n ≡ m → v ≡ w → f ≡ g → o ≡ q
    → ◌≡◌ {A = ConnectParts} (n, (v, (f, (k, (ps, (c, (o, r))))))) (m, (w, (g, (k, (ps, (c, (q, r)))))))
parts_same n m v w f g k ps c o q r a b d e =
    let one : List ℕ → ConnectParts = λ z. (z, (v, (f, (k, (ps, (c, (o, r))))))) in
    let two : ℕ → ConnectParts = λ z. (m, (z, (f, (k, (ps, (c, (o, r))))))) in
    let three : ConnectFlags → ConnectParts = λ z. (m, (w, (z, (k, (ps, (c, (o, r))))))) in
    let four : Option WillParts → ConnectParts = λ z. (m, (w, (g, (k, (ps, (c, (z, r))))))) in
    ap one a ∙ ap two b ∙ ap three d ∙ ap four e

connect_back : (x : ConnectParts) → IsTrue (is_mqtt x.0 x.1.0) → (tail x.1.1.0).Fits x.1.1.1.1.1 → connect_parts (connect_of x) ≡ x
unfolding tail login
connect_back x mqtt t =
    let f = x.1.1.0 in
    let parts = x.1.1.1.1.1 in
    let both = and_parts (bytes_eq x.0 (codes "MQTT")) (x.1.0 == 5) mqtt in
    let name : x.0 ≡ codes "MQTT" = (bytes_eq-Decides x.0 (codes "MQTT")).0 both.0 in
    let version : x.1.0 ≡ 5 = eqb-true _ _ both.1 in
    let w = will_back f.will parts.1.0 t.1.0 in
    let user = some_is f.user_name text parts.1.1.0 t.1.1.0 in
    let password = some_is f.password blob parts.1.1.1 t.1.1.1 in
    let flags : flags_of (connect_of x) ≡ f = flags_same f.clean_start f.clean_start _ f.will _ f.user_name _ f.password refl w.0 user password in
    parts_same (codes "MQTT") x.0 5 x.1.0 _ f x.1.1.1.0 x.1.1.1.1.0 parts.0 _ parts.1.0 parts.1.1 (sym name) (sym version) flags w.1

pub connect_is : IsBody connect
unfolding connect
connect_is = valid_is is_valid_connect ProtocolError _ (as_is connect_of connect_parts _
    (then_is text _ text_is (λ name. then_is (number w8) _ (number_is w8 wide8) (λ version. given_is (is_mqtt name version) WrongVersion _
    (then_is connect_flags _ flags_is
    (λ flags. then_is (number w16) _ (number_is w16 wide16) (λ _. then_is (properties places.Connect) _ (properties_is places.Connect) (λ _. only_is (tail flags) (tail_is flags))))))))
    (λ x h. connect_back x h.1.1.0 h.1.1.1.1.1.1))

-- a packet's parts are its own
will_own : (o : Option Will) → will_of (option_map will_flags o) (option_map will_parts o) ≡ o
will_own None = refl
will_own (Some w) = refl

connect_own : (c : Connect) → connect_of (connect_parts c) ≡ c
connect_own c =
    let f : Option Will → Connect = λ z. record { clean_start = c.clean_start; keep_alive = c.keep_alive; properties = c.properties; client = c.client; will = z; user_name = c.user_name; password = c.password } in
    ap f (will_own c.will)

name_fits : text.Fits (codes "MQTT")
name_fits = (omega arith, is_text_from (codes "MQTT") (IsUtf8-from_ascii (codes "MQTT") (search rules)) refl)

pub connect_fits : (c : Connect) → c.keep_alive < 2 ^ 16 → (properties places.Connect).Fits c.properties → (tail (flags_of c)).Fits (tail_parts c) → IsTrue (is_valid_connect c) → connect.Fits c
unfolding connect connect_flags
connect_fits c k ps t v = (((name_fits, (omega arith, (refl, (tt, (omega arith, (ps, t)))))), connect_own c), v)

pub connect_bytes : (old : List ℕ) (flags : ℕ) (rest : List ℕ)
    → ((old ++ 0 ∷ 4 ∷ 77 ∷ 81 ∷ 84 ∷ 84 ∷ 5 ∷ []) ++ flags ∷ []) ++ rest ≡ old ++ (text.bytes (codes "MQTT") ++ ((number w8).bytes 5 ++ (flags ∷ [] ++ rest)))
connect_bytes old flags rest = append_assoc (old ++ 0 ∷ 4 ∷ 77 ∷ 81 ∷ 84 ∷ 84 ∷ 5 ∷ []) (flags ∷ []) rest ∙ append_assoc old (0 ∷ 4 ∷ 77 ∷ 81 ∷ 84 ∷ 84 ∷ 5 ∷ []) (flags ∷ rest)

connect_length : (c : Connect) → length (connect.bytes c) ≡ 10 + length ((properties places.Connect).bytes c.properties) + length ((tail (flags_of c)).bytes (tail_parts c))
unfolding connect connect_flags
connect_length c = omega (arith, length-append ((properties places.Connect).bytes c.properties) ((tail (flags_of c)).bytes (tail_parts c)))

parts_fit : (c : Connect) → connect.Fits c → (properties places.Connect).Fits c.properties × (tail (flags_of c)).Fits (tail_parts c)
unfolding connect
parts_fit c h = (h.0.0.1.1.1.1.1.0, h.0.0.1.1.1.1.1.1)

-- how long a CONNECT is
pub connect_measured : (c : Connect) (n m : ℕ) (o : Option ℕ) → c.keep_alive < 2 ^ 16 → IsTrue (is_valid_connect c)
    → MeasuresField (properties places.Connect) c.properties (Some n) → MeasuresField (tail (flags_of c)) (tail_parts c) (Some m)
    → MatchOption o (2 ^ 28 ≤ 10 + n + m) (λ k. (k ≡ 10 + n + m) × (10 + n + m < 2 ^ 28)) → Measures connect c o
connect_measured c n m None k v ps t h = λ s. let short = s.1 in absurd (omega (arith, h, connect_length c, ps.1, t.1))
connect_measured c n m (Some i) k v ps t h =
    let len = connect_length c in
    ((connect_fits c k ps.0 t.0 v, omega (arith, h.1, len, ps.1, t.1)), omega (arith, h.0, len, ps.1, t.1))

pub connect_unmeasured : (c : Connect) → ((properties places.Connect).Fits c.properties → ⊥) → Measures connect c None
connect_unmeasured c h s = h (parts_fit c s.0).0

pub tail_unmeasured : (c : Connect) → ((tail (flags_of c)).Fits (tail_parts c) → ⊥) → Measures connect c None
tail_unmeasured c h s = h (parts_fit c s.0).1

refused : (c made : Connect) → c ≡ made → is_valid_connect made ≡ false → cond (is_valid_connect c) (Ok c) (Err ProtocolError) ≡ Err ProtocolError
refused c made e v = let w : is_valid_connect c ≡ false = ap is_valid_connect e ∙ v in rw w refl

-- all is read, and a value isn't allowed
pub invalid : (bs : List ℕ) (name : List ℕ × List ℕ) (version : ℕ × List ℕ) (flags : ConnectFlags × List ℕ) (keep_alive : ℕ × List ℕ) (ps : List Property × List ℕ) (made : Connect)
    → field_at text bs ≡ Ok name → field_at (number w8) name.1 ≡ Ok version → is_mqtt name.0 version.0 ≡ true → field_at connect_flags version.1 ≡ Ok flags → field_at (number w16) flags.1 ≡ Ok keep_alive
    → field_at (properties places.Connect) keep_alive.1 ≡ Ok ps → connect_end flags.0 keep_alive.0 ps.0 ps.1 ≡ Ok made → is_valid_connect made ≡ false → connect.of bs ≡ Err ProtocolError
unfolding connect
invalid bs name version flags keep_alive ps made a b m f k p e v =
    let t = bind_ok ((only (tail flags.0)).of ps.1) (λ t. Ok (connect_from flags.0 keep_alive.0 ps.0 t)) made e in
    let same : connect_from flags.0 keep_alive.0 ps.0 t.0 ≡ made = ok_is (connect_from flags.0 keep_alive.0 ps.0 t.0) made t.2 in
    rw (a, b, m, f, k, p, t.1) (refused (connect_from flags.0 keep_alive.0 ps.0 t.0) made same v)
