-- Messages compare as their encodings do.
use Rattle.std.proofs.Common.{◌≡◌, ℕ, zero, suc, ◌+◌, ◌*◌, ◌/◌, ◌%◌, ◌^◌, ◌<◌, ◌≤◌, Bool, true, false, List, [], ◌∷◌, ◌++◌, length, Option, Some, None, refl, sym, ap, subst, ◌∙◌, inl, inr, append-nil, append_assoc, length-append, arith}
use Rattle.std.proofs.Math.Nat.{mul-le-mul_left}
use Rattle.std.proofs.lemmas.Bool.{cases_lt, and_parts}
use Rattle.std.specs.Prelude.{IsTrue}
use Rattle.std.specs.List.{list_all}
use Rattle.std.specs.Int.{Width, w8, w16, w32, w64, byte_at, bytes_high_first, to_be_bytes}
use Rattle.std.specs.declared.cmp.Ordering.{Ordering}
use Rattle.std.specs.declared.cmp.Ordering.TheVariants.{Less, Equal, Greater}
use Rattle.std.specs.Ordering.{nat_cmp, ordering_then, MatchOrdering}
use Rattle.std.specs.Cmp.{nat_cmp_is, ranked}
use Rattle.std.specs.Cmp.Lexicographic.{slice_cmp}
use Rattle.std.specs.FinMap.{nat_cmp-IsAntisymmetric, slice_cmp-IsAntisymmetric}
use Rattle.mqtt_fields.specs.declared.options.Qos.{Qos}
use Rattle.mqtt_fields.specs.declared.options.Qos.TheVariants.{AtMostOnce, AtLeastOnce, ExactlyOnce}
use Rattle.mqtt_fields.specs.declared.table.Place.TheVariants as places
use Rattle.mqtt_fields.specs.declared.table.ValueKind.{ValueKind}
use Rattle.mqtt_fields.specs.declared.table.ValueKind.TheVariants as kinds
use Rattle.mqtt_fields.specs.declared.value.Property.{Property}
use Rattle.mqtt_fields.specs.declared.value.Value.{Value}
use Rattle.mqtt_fields.specs.declared.value.Value.TheVariants.{Byte, Two, Four, Text, Blob, Pair}
use Rattle.mqtt_fields.specs.Numbers.{groups, counted, vbi, text, long, number}
use Rattle.mqtt_fields.specs.Options.{qos_number}
use Rattle.mqtt_fields.specs.Table.{entry_of}
use Rattle.mqtt_fields.specs.Value.{value, value_bytes}
use Rattle.mqtt_fields.specs.Block.{kind_in, property, MayStand, property_bytes, properties_bytes, properties}
use Rattle.mqtt_packets.specs.Values.{is_valid_property}
use Rattle.mqtt_message.specs.declared.message.Message.{Message}
use Rattle.mqtt_message.specs.OwnProperties.{is_own_id, is_own, is_allowed_own, AreOwn}
use Rattle.mqtt_message.specs.Order.{bytes_cmp, value_cmp, property_cmp, properties_cmp, block_cmp, flag_rank, deadline_rank, message_cmp}
use Rattle.mqtt_message.specs.Encoding.{OrderOfEncodings}
use Rattle.mqtt_message.specs.Spelling.{OptionalFits, optional_bytes, bit_of}
use Rattle.mqtt_message.specs.Parts.{own_properties, tail}
use Rattle.mqtt_message.specs.Spellings.{message}
use Rattle.mqtt_message.proofs.GroupLaws.{then_equal, groups_small, groups_large, small_first, small_second}
use Rattle.mqtt_message.proofs.OwnLaws.{own_cases}
use Rattle.mqtt_message.proofs.OrderLaws.{property_cmp_antisym}

then_assoc : (p q r : Ordering) → ordering_then (ordering_then p q) r ≡ ordering_then p (ordering_then q r)
then_assoc Less q r = refl
then_assoc Equal q r = refl
then_assoc Greater q r = refl

-- The bytes compare so, and what follows them decides only where they are equal.
abbrev Leads : List ℕ → List ℕ → Ordering → Type 0
Leads bs cs r = (us vs : List ℕ) → slice_cmp nat_cmp (bs ++ us) (cs ++ vs) ≡ ordering_then r (slice_cmp nat_cmp us vs)

module _ (bs cs ds es : List ℕ) where
  leads_if : (r s : Ordering) → Leads bs cs r → (r ≡ Equal → Leads ds es s) → Leads (bs ++ ds) (cs ++ es) (ordering_then r s)
  leads_if r s first second us vs =
      (λ i. slice_cmp nat_cmp (append_assoc bs ds us i) (append_assoc cs es vs i)) ∙ first (ds ++ us) (es ++ vs) ∙ rest r second
    where
      rest : (q : Ordering) → (q ≡ Equal → Leads ds es s) → ordering_then q (slice_cmp nat_cmp (ds ++ us) (es ++ vs)) ≡ ordering_then (ordering_then q s) (slice_cmp nat_cmp us vs)
      rest Less k = refl
      rest Equal k = k refl us vs
      rest Greater k = refl

  leads_both : (r s : Ordering) → Leads bs cs r → Leads ds es s → Leads (bs ++ ds) (cs ++ es) (ordering_then r s)
  leads_both r s first second = leads_if r s first (λ _. second)

leads_same_length : (bs cs : List ℕ) → length bs ≡ length cs → Leads bs cs (slice_cmp nat_cmp bs cs)
leads_same_length [] [] e us vs = refl
leads_same_length [] (c ∷ cs) e us vs = absurd (omega (arith, e))
leads_same_length (b ∷ bs) [] e us vs = absurd (omega (arith, e))
leads_same_length (b ∷ bs) (c ∷ cs) e us vs =
    ap (ordering_then (nat_cmp b c)) (leads_same_length bs cs (omega (arith, e)) us vs) ∙ sym (then_assoc (nat_cmp b c) (slice_cmp nat_cmp bs cs) (slice_cmp nat_cmp us vs))

leads_byte : (b c : ℕ) → Leads (b ∷ []) (c ∷ []) (nat_cmp b c)
leads_byte b c us vs = refl

-- ---- integers, the highest byte first

module _ (p a b c d : ℕ) (small_b : b < p) (small_d : d < p) where
  two_digits : ordering_then (nat_cmp a c) (nat_cmp b d) ≡ nat_cmp (p * a + b) (p * c + d)
  two_digits = nat_cmp_is (p * a + b) (p * c + d) (ordering_then (nat_cmp a c) (nat_cmp b d)) (by (nat_cmp a c) (ranked a c (nat_cmp a c) refl))
    where
      low : (r : Ordering) → a ≡ c → MatchOrdering r (b < d) (b ≡ d) (d < b) → MatchOrdering r (p * a + b < p * c + d) (p * a + b ≡ p * c + d) (p * c + d < p * a + b)
      low Less e h = omega (arith, h, ap (λ x. p * x) e)
      low Equal e h = omega (arith, h, ap (λ x. p * x) e)
      low Greater e h = omega (arith, h, ap (λ x. p * x) e)

      by : (r : Ordering) → MatchOrdering r (a < c) (a ≡ c) (c < a) → MatchOrdering (ordering_then r (nat_cmp b d)) (p * a + b < p * c + d) (p * a + b ≡ p * c + d) (p * c + d < p * a + b)
      by Less h = omega (arith, mul-le-mul_left p (let up : a + 1 ≤ c = omega (arith, h) in up))
      by Equal h = low (nat_cmp b d) h (ranked b d (nat_cmp b d) refl)
      by Greater h = omega (arith, mul-le-mul_left p (let up : c + 1 ≤ a = omega (arith, h) in up))

-- the lowest k bytes
abbrev LeadsHigh : ℕ → Type 0
LeadsHigh k = (a b : ℕ) → Leads (bytes_high_first k a) (bytes_high_first k b) (nat_cmp (a % 256 ^ k) (b % 256 ^ k))

more_high : (k : ℕ) → ((n : ℕ) → n % 256 ^ k < 256 ^ k) → ((n : ℕ) → n % 256 ^ suc k ≡ 256 ^ k * byte_at k n + n % 256 ^ k) → LeadsHigh k → LeadsHigh (suc k)
more_high k small split low a b =
    let same = two_digits (256 ^ k) (byte_at k a) (a % 256 ^ k) (byte_at k b) (b % 256 ^ k) (small a) (small b) in
    subst (Leads (bytes_high_first (suc k) a) (bytes_high_first (suc k) b)) (same ∙ (λ i. nat_cmp (sym (split a) i) (sym (split b) i)))
    (leads_both (byte_at k a ∷ []) (byte_at k b ∷ []) (bytes_high_first k a) (bytes_high_first k b) (nat_cmp (byte_at k a) (byte_at k b)) (nat_cmp (a % 256 ^ k) (b % 256 ^ k)) (leads_byte (byte_at k a) (byte_at k b)) (low a b))

high1 : LeadsHigh 1
high1 a b = leads_byte (a % 256) (b % 256)

high2 : LeadsHigh 2
high2 = more_high 1 (λ n. omega arith) (λ n. omega arith) high1

high3 : LeadsHigh 3
high3 = more_high 2 (λ n. omega arith) (λ n. omega arith) high2

high4 : LeadsHigh 4
high4 = more_high 3 (λ n. omega arith) (λ n. omega arith) high3

high5 : LeadsHigh 5
high5 = more_high 4 (λ n. omega arith) (λ n. omega arith) high4

high6 : LeadsHigh 6
high6 = more_high 5 (λ n. omega arith) (λ n. omega arith) high5

high7 : LeadsHigh 7
high7 = more_high 6 (λ n. omega arith) (λ n. omega arith) high6

high8 : LeadsHigh 8
high8 = more_high 7 (λ n. omega arith) (λ n. omega arith) high7

module _ (a b : ℕ) where
  leads_8 : a < 2 ^ 8 → b < 2 ^ 8 → Leads (to_be_bytes w8 a) (to_be_bytes w8 b) (nat_cmp a b)
  leads_8 x y = (let e : a % 256 ^ 1 ≡ a = omega arith in let f : b % 256 ^ 1 ≡ b = omega arith in subst (Leads (to_be_bytes w8 a) (to_be_bytes w8 b)) (λ i. nat_cmp (e i) (f i)) (high1 a b))

  leads_16 : a < 2 ^ 16 → b < 2 ^ 16 → Leads (to_be_bytes w16 a) (to_be_bytes w16 b) (nat_cmp a b)
  leads_16 x y = (let e : a % 256 ^ 2 ≡ a = omega arith in let f : b % 256 ^ 2 ≡ b = omega arith in subst (Leads (to_be_bytes w16 a) (to_be_bytes w16 b)) (λ i. nat_cmp (e i) (f i)) (high2 a b))

  leads_32 : a < 2 ^ 32 → b < 2 ^ 32 → Leads (to_be_bytes w32 a) (to_be_bytes w32 b) (nat_cmp a b)
  leads_32 x y = (let e : a % 256 ^ 4 ≡ a = omega arith in let f : b % 256 ^ 4 ≡ b = omega arith in subst (Leads (to_be_bytes w32 a) (to_be_bytes w32 b)) (λ i. nat_cmp (e i) (f i)) (high4 a b))

  leads_64 : a < 2 ^ 64 → b < 2 ^ 64 → Leads (to_be_bytes w64 a) (to_be_bytes w64 b) (nat_cmp a b)
  leads_64 x y = (let e : a % 256 ^ 8 ≡ a = omega arith in let f : b % 256 ^ 8 ≡ b = omega arith in subst (Leads (to_be_bytes w64 a) (to_be_bytes w64 b)) (λ i. nat_cmp (e i) (f i)) (high8 a b))

-- ---- bytes with their length before them

module _ (w : Width) (xs ys : List ℕ) where
  leads_counted : Leads (to_be_bytes w (length xs)) (to_be_bytes w (length ys)) (nat_cmp (length xs) (length ys)) → Leads ((counted w).bytes xs) ((counted w).bytes ys) (bytes_cmp xs ys)
  leads_counted sizes =
      leads_if (to_be_bytes w (length xs)) (to_be_bytes w (length ys)) xs ys (nat_cmp (length xs) (length ys)) (slice_cmp nat_cmp xs ys) sizes
      (λ e. leads_same_length xs ys (nat_cmp-IsAntisymmetric (length xs) (length ys) e))

leads_text : (xs ys : List ℕ) → length xs < 2 ^ 16 → length ys < 2 ^ 16 → Leads ((counted w16).bytes xs) ((counted w16).bytes ys) (bytes_cmp xs ys)
leads_text xs ys a b = leads_counted w16 xs ys (leads_16 (length xs) (length ys) a b)

leads_long : (xs ys : List ℕ) → length xs < 2 ^ 32 → length ys < 2 ^ 32 → Leads ((counted w32).bytes xs) ((counted w32).bytes ys) (bytes_cmp xs ys)
leads_long xs ys a b = leads_counted w32 xs ys (leads_32 (length xs) (length ys) a b)

-- ---- Variable Byte Integers

leads_groups : (k n m : ℕ) → Leads (groups k n) (groups k m) (slice_cmp nat_cmp (groups k n) (groups k m))
leads_groups zero n m = leads_same_length (n ∷ []) (m ∷ []) refl
leads_groups (suc k) n m =
    elim (cases_lt n 128) [
      | inl a ↦ elim (cases_lt m 128) [
        | inl b ↦ rw (groups_small (suc k) n a, groups_small (suc k) m b) (leads_same_length (n ∷ []) (m ∷ []) refl)
        | inr b ↦ λ us vs. first us vs a b
      ]
      | inr a ↦ elim (cases_lt m 128) [
        | inl b ↦ λ us vs. second us vs a b
        | inr b ↦ rw (groups_large k n a, groups_large k m b)
            (leads_both ((n % 128 + 128) ∷ []) ((m % 128 + 128) ∷ []) (groups k (n / 128)) (groups k (m / 128)) (nat_cmp (n % 128 + 128) (m % 128 + 128)) (slice_cmp nat_cmp (groups k (n / 128)) (groups k (m / 128))) (leads_byte (n % 128 + 128) (m % 128 + 128)) (leads_groups k (n / 128) (m / 128)))
      ]
    ]
  where
    first : (us vs : List ℕ) → n < 128 → 128 ≤ m → slice_cmp nat_cmp (groups (suc k) n ++ us) (groups (suc k) m ++ vs) ≡ ordering_then (slice_cmp nat_cmp (groups (suc k) n) (groups (suc k) m)) (slice_cmp nat_cmp us vs)
    first us vs a b =
        let less : nat_cmp n (m % 128 + 128) ≡ Less = sym (nat_cmp_is n (m % 128 + 128) Less (omega arith)) in
        rw (small_first k n m a b) (rw (groups_small (suc k) n a, groups_large k m b) (ap (λ r. ordering_then r (slice_cmp nat_cmp us (groups k (m / 128) ++ vs))) less))

    second : (us vs : List ℕ) → 128 ≤ n → m < 128 → slice_cmp nat_cmp (groups (suc k) n ++ us) (groups (suc k) m ++ vs) ≡ ordering_then (slice_cmp nat_cmp (groups (suc k) n) (groups (suc k) m)) (slice_cmp nat_cmp us vs)
    second us vs a b =
        let greater : nat_cmp (n % 128 + 128) m ≡ Greater = sym (nat_cmp_is (n % 128 + 128) m Greater (omega arith)) in
        rw (small_second k n m a b) (rw (groups_large k n a, groups_small (suc k) m b) (ap (λ r. ordering_then r (slice_cmp nat_cmp (groups k (n / 128) ++ us) vs)) greater))

head_of : List ℕ → ℕ
head_of [] = 0
head_of (b ∷ bs) = b

tail_of : List ℕ → List ℕ
tail_of [] = []
tail_of (b ∷ bs) = bs

-- a number has one spelling
one_number : (k n m : ℕ) → groups k n ≡ groups k m → n ≡ m
unfolding head_of tail_of
one_number zero n m e = ap head_of e
one_number (suc k) n m e =
    elim (cases_lt n 128) [
      | inl a ↦ elim (cases_lt m 128) [
        | inl b ↦ ap head_of (sym (groups_small (suc k) n a) ∙ e ∙ groups_small (suc k) m b)
        | inr b ↦ (let h : n ≡ m % 128 + 128 = ap head_of (sym (groups_small (suc k) n a) ∙ e ∙ groups_large k m b) in omega (arith, h))
      ]
      | inr a ↦ elim (cases_lt m 128) [
        | inl b ↦ (let h : n % 128 + 128 ≡ m = ap head_of (sym (groups_large k n a) ∙ e ∙ groups_small (suc k) m b) in omega (arith, h))
        | inr b ↦
            let both = sym (groups_large k n a) ∙ e ∙ groups_large k m b in
            let h : n % 128 + 128 ≡ m % 128 + 128 = ap head_of both in
            let t : n / 128 ≡ m / 128 = one_number k (n / 128) (m / 128) (ap tail_of both) in
            omega (arith, h, t)
      ]
    ]

-- ---- properties

is_plain : ValueKind → Bool
is_plain kinds.Vbi = false
is_plain _ = true

plain_own : (id : ℕ) → IsTrue (is_own_id id) → is_plain (kind_in (entry_of id)) ≡ true
unfolding entry_of is_plain
plain_own id mine = (let P : ℕ → Type 0 = λ k. is_plain (kind_in (entry_of k)) ≡ true in own_cases P id mine refl refl refl refl refl)

leads_value : (k : ValueKind) (v w : Value) → is_plain k ≡ true → (value k).Fits v → (value k).Fits w → Leads (value_bytes v) (value_bytes w) (value_cmp v w)
unfolding is_plain
leads_value kinds.Byte (Byte a) (Byte b) p f g = subst (Leads (value_bytes (Byte a)) (value_bytes (Byte b))) (sym (then_equal (nat_cmp a b))) (leads_8 a b f g)
leads_value kinds.Two (Two a) (Two b) p f g = subst (Leads (value_bytes (Two a)) (value_bytes (Two b))) (sym (then_equal (nat_cmp a b))) (leads_16 a b f g)
leads_value kinds.Four (Four a) (Four b) p f g = subst (Leads (value_bytes (Four a)) (value_bytes (Four b))) (sym (then_equal (nat_cmp a b))) (leads_32 a b f g)
leads_value kinds.Text (Text s) (Text t) p f g = subst (Leads (value_bytes (Text s)) (value_bytes (Text t))) (sym (then_equal (bytes_cmp s t))) (leads_text s t f.0 g.0)
leads_value kinds.Blob (Blob s) (Blob t) p f g = subst (Leads (value_bytes (Blob s)) (value_bytes (Blob t))) (sym (then_equal (bytes_cmp s t))) (leads_text s t f g)
leads_value kinds.Pair (Pair a b) (Pair c d) p f g =
    leads_both ((counted w16).bytes a) ((counted w16).bytes c) ((counted w16).bytes b) ((counted w16).bytes d) (bytes_cmp a c) (bytes_cmp b d) (leads_text a c f.0.0 g.0.0) (leads_text b d f.1.0 g.1.0)
leads_value kinds.Vbi v w p f g = cc
leads_value kinds.Byte (Byte a) _ p f g = absurd g
leads_value kinds.Two (Two a) _ p f g = absurd g
leads_value kinds.Four (Four a) _ p f g = absurd g
leads_value kinds.Text (Text s) _ p f g = absurd g
leads_value kinds.Blob (Blob s) _ p f g = absurd g
leads_value kinds.Pair (Pair a b) _ p f g = absurd g
leads_value _ _ _ p f g = absurd f

-- a property that may stand in a message, after some
abbrev Stands : List Property → Property → Type 0
Stands before p = (property places.Publish before).Fits p × (is_own_id p.id ≡ true)

leads_property : (before others : List Property) (p q : Property) → Stands before p → Stands others q → Leads (property_bytes p) (property_bytes q) (property_cmp p q)
unfolding property
leads_property before others p q a b =
    leads_if (p.id ∷ []) (q.id ∷ []) (value_bytes p.value) (value_bytes q.value) (nat_cmp p.id q.id) (value_cmp p.value q.value) (leads_byte p.id q.id)
    (λ e. let same : q.id ≡ p.id = sym (nat_cmp-IsAntisymmetric p.id q.id e) in
    leads_value (kind_in (entry_of p.id)) p.value q.value (plain_own p.id a.1) a.0.1 (subst (λ id. (value (kind_in (entry_of id))).Fits q.value) same b.0.1))

own_first : (p : Property) (ps : List Property) → list_all is_allowed_own (p ∷ ps) ≡ true → (is_own_id p.id ≡ true) × (list_all is_allowed_own ps ≡ true)
own_first p ps h =
    let parts = and_parts (is_allowed_own p) (list_all is_allowed_own ps) h in
    ((and_parts (is_own p) (is_valid_property p) parts.0).0, parts.1)

leads_properties : (before others ps qs : List Property) → MayStand places.Publish before ps → MayStand places.Publish others qs → list_all is_allowed_own ps ≡ true → list_all is_allowed_own qs ≡ true
    → length (properties_bytes ps) ≡ length (properties_bytes qs) → Leads (properties_bytes ps) (properties_bytes qs) (properties_cmp ps qs)
leads_properties before others [] [] a b c d e = λ us vs. refl
leads_properties before others [] (q ∷ qs) a b c d e = absurd (omega (arith, e))
leads_properties before others (p ∷ ps) [] a b c d e = absurd (omega (arith, e))
leads_properties before others (p ∷ ps) (q ∷ qs) a b c d e =
    let mine = own_first p ps c in
    let theirs = own_first q qs d in
    leads_if (property_bytes p) (property_bytes q) (properties_bytes ps) (properties_bytes qs) (property_cmp p q) (properties_cmp ps qs) (leads_property before others p q (a.0, mine.0) (b.0, theirs.0))
    (λ tie. let same : length (property_bytes p) ≡ length (property_bytes q) = ap (λ x. length (property_bytes x)) (property_cmp_antisym p q tie) in
    let rest : length (properties_bytes ps) ≡ length (properties_bytes qs) = omega (arith, e, same, length-append (property_bytes p) (properties_bytes ps), length-append (property_bytes q) (properties_bytes qs)) in
    leads_properties (before ++ p ∷ []) (others ++ q ∷ []) ps qs a.1 b.1 mine.1 theirs.1 rest)

leads_block : (ps qs : List Property) → AreOwn ps → AreOwn qs → Leads ((properties places.Publish).bytes ps) ((properties places.Publish).bytes qs) (block_cmp ps qs)
unfolding properties
leads_block ps qs a b =
    let n = length (properties_bytes ps) in
    let m = length (properties_bytes qs) in
    leads_if (vbi.bytes n) (vbi.bytes m) (properties_bytes ps) (properties_bytes qs) (slice_cmp nat_cmp (vbi.bytes n) (vbi.bytes m)) (properties_cmp ps qs) (leads_groups 3 n m)
    (λ e. leads_properties [] [] ps qs a.fits.1 b.fits.1 a.each b.each (one_number 3 n m (slice_cmp-IsAntisymmetric nat_cmp-IsAntisymmetric (vbi.bytes n) (vbi.bytes m) e)))

-- ---- messages

level_small : (q : Qos) → qos_number q < 2 ^ 8
level_small AtMostOnce = omega arith
level_small AtLeastOnce = omega arith
level_small ExactlyOnce = omega arith

flag_small : (b : Bool) → flag_rank b < 2 ^ 8
flag_small false = omega arith
flag_small true = omega arith

after_one : (a b : ℕ) → nat_cmp a b ≡ nat_cmp (suc a) (suc b)
after_one a b = nat_cmp_is (suc a) (suc b) (nat_cmp a b) (by (nat_cmp a b) (ranked a b (nat_cmp a b) refl))
  where
    by : (r : Ordering) → MatchOrdering r (a < b) (a ≡ b) (b < a) → MatchOrdering r (suc a < suc b) (suc a ≡ suc b) (suc b < suc a)
    by Less h = omega (arith, h)
    by Equal h = omega (arith, h)
    by Greater h = omega (arith, h)

-- a deadline's bytes
abbrev deadline_bytes : Option ℕ → List ℕ
deadline_bytes None = to_be_bytes w8 0
deadline_bytes (Some deadline) = to_be_bytes w8 1 ++ to_be_bytes w64 deadline

leads_deadline : (x y : Option ℕ) → OptionalFits (number w64) x → OptionalFits (number w64) y → Leads (deadline_bytes x) (deadline_bytes y) (nat_cmp (deadline_rank x) (deadline_rank y))
leads_deadline None None a b us vs = refl
leads_deadline None (Some d) a b us vs = ap (λ r. ordering_then r (slice_cmp nat_cmp us vs)) (nat_cmp_is 0 (suc d) Less (omega arith))
leads_deadline (Some d) None a b us vs = ap (λ r. ordering_then r (slice_cmp nat_cmp us vs)) (nat_cmp_is (suc d) 0 Greater (omega arith))
leads_deadline (Some d) (Some e) a b us vs = leads_64 d e a b us vs ∙ ap (λ r. ordering_then r (slice_cmp nat_cmp us vs)) (after_one d e)

-- the ends of an encoding, from each of the fields on
abbrev from_publisher : Message → List ℕ
from_publisher m = text.bytes m.publisher ++ deadline_bytes m.deadline

abbrev from_retain : Message → List ℕ
from_retain m = to_be_bytes w8 (flag_rank m.retain) ++ from_publisher m

abbrev from_qos : Message → List ℕ
from_qos m = to_be_bytes w8 (qos_number m.qos) ++ from_retain m

abbrev from_properties : Message → List ℕ
from_properties m = (properties places.Publish).bytes m.properties ++ from_qos m

abbrev from_payload : Message → List ℕ
from_payload m = long.bytes m.payload ++ from_properties m

abbrev message_bytes : Message → List ℕ
message_bytes m = text.bytes m.topic ++ from_payload m

-- what the fields of a message with an encoding fit
pub record HasEncoding (m : Message) : Type 0 where
  pub topic : length m.topic < 2 ^ 16
  pub payload : length m.payload < 2 ^ 32
  pub properties : AreOwn m.properties
  pub publisher : length m.publisher < 2 ^ 16
  pub deadline : OptionalFits (number w64) m.deadline

same_flag : (b : Bool) → to_be_bytes w8 (flag_rank b) ≡ to_be_bytes w8 (bit_of b)
same_flag false = refl
same_flag true = refl

same_deadline : (d : Option ℕ) → deadline_bytes d ≡ optional_bytes (number w64) d
same_deadline None = refl
same_deadline (Some d) = refl

same_bytes : (m : Message) → message_bytes m ≡ message.bytes m
unfolding message own_properties tail
same_bytes m = λ i. text.bytes m.topic ++ (long.bytes m.payload ++ ((properties places.Publish).bytes m.properties ++ (to_be_bytes w8 (qos_number m.qos)
    ++ (same_flag m.retain i ++ (text.bytes m.publisher ++ same_deadline m.deadline i)))))

has_encoding : (m : Message) → message.Fits m → HasEncoding m
unfolding message own_properties tail
has_encoding m fits = record {
  topic = fits.0.0.0;
  payload = fits.1.0.0;
  properties = record { fits = fits.1.1.0.0; each = fits.1.1.0.1 };
  publisher = fits.1.1.1.1.1.0.0;
  deadline = fits.1.1.1.1.1.1;
}

leads_message : (x y : Message) → HasEncoding x → HasEncoding y → Leads (message_bytes x) (message_bytes y) (message_cmp x y)
leads_message x y a b =
    leads_both (text.bytes x.topic) (text.bytes y.topic) (from_payload x) (from_payload y) _ _ (leads_text x.topic y.topic a.topic b.topic)
    (leads_both (long.bytes x.payload) (long.bytes y.payload) (from_properties x) (from_properties y) _ _ (leads_long x.payload y.payload a.payload b.payload)
    (leads_both ((properties places.Publish).bytes x.properties) ((properties places.Publish).bytes y.properties) (from_qos x) (from_qos y) _ _ (leads_block x.properties y.properties a.properties b.properties)
    (leads_both (to_be_bytes w8 (qos_number x.qos)) (to_be_bytes w8 (qos_number y.qos)) (from_retain x) (from_retain y) _ _ (leads_8 (qos_number x.qos) (qos_number y.qos) (level_small x.qos) (level_small y.qos))
    (leads_both (to_be_bytes w8 (flag_rank x.retain)) (to_be_bytes w8 (flag_rank y.retain)) (from_publisher x) (from_publisher y) _ _ (leads_8 (flag_rank x.retain) (flag_rank y.retain) (flag_small x.retain) (flag_small y.retain))
    (leads_both (text.bytes x.publisher) (text.bytes y.publisher) (deadline_bytes x.deadline) (deadline_bytes y.deadline) _ _ (leads_text x.publisher y.publisher a.publisher b.publisher)
    (leads_deadline x.deadline y.deadline a.deadline b.deadline))))))

pub compared_bytes : (x y : Message) → HasEncoding x → HasEncoding y → message_cmp x y ≡ slice_cmp nat_cmp (message.bytes x) (message.bytes y)
compared_bytes x y a b =
    sym (then_equal (message_cmp x y)) ∙ sym (leads_message x y a b [] [])
    ∙ (λ i. slice_cmp nat_cmp ((append-nil (message_bytes x) ∙ same_bytes x) i) ((append-nil (message_bytes y) ∙ same_bytes y) i))

pub encodings_compare : OrderOfEncodings
encodings_compare x y a b = compared_bytes x y (has_encoding x a) (has_encoding y b)
