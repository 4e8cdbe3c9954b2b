-- Faults and beginnings: which of the three cases any bytes are.
use Rattle.std.proofs.Common.{◌≡◌, ℕ, zero, suc, ◌+◌, ◌-◌, ◌*◌, ◌/◌, ◌%◌, ◌<◌, ◌≤◌, ◌^◌, ◌≢◌, ◌⊎◌, Bool, true, false, cond, ltb, eqb, List, [], ◌∷◌, ◌++◌, length, get_or, take, drop, Option, Some, None, Result, Ok, Err, refl, sym, ap, subst, ◌∙◌, append_assoc, arith, inl, inr}
use Rattle.std.specs.Prelude.{IsTrue, replicate, IfOk, IfNone}
use Rattle.std.proofs.lemmas.Bool.{ltb-false, ltb-true, le-ltb, lt-ltb, cases_lt, eqb-true}
use Rattle.std.proofs.lemmas.List.{append-nil, length-append, length-replicate}
use Rattle.std.proofs.lemmas.Option.{same_Some}
use Rattle.std.proofs.Math.Nat.{pow-succ'}
use Rattle.mqtt_fields.specs.declared.fault.FieldFault.{FieldFault}
use Rattle.mqtt_fields.specs.declared.fault.FieldFault.TheVariants as fields
use Rattle.mqtt_fields.specs.Reading.{◌>>=◌}
use Rattle.mqtt_fields.specs.Field.{IsBytes}
use Rattle.mqtt_fields.specs.Numbers.{vbi, groups, group_at}
use Rattle.mqtt_fields.proofs.Laws.{bind_ok, ok_is}
use Rattle.mqtt_fields.proofs.NumberLaws.{vbi_is}
use Rattle.mqtt_packets.specs.declared.fault.PacketFault.{PacketFault}
use Rattle.mqtt_packets.specs.declared.fault.PacketFault.TheVariants as faults
use Rattle.mqtt_packets.specs.declared.head.Head.{Head}
use Rattle.mqtt_packets.specs.declared.head.Head.TheVariants as heads
use Rattle.mqtt_packets.specs.declared.packet.Packet.{Packet}
use Rattle.mqtt_packets.specs.Reading.{Gives}
use Rattle.mqtt_packets.specs.Head.{first_byte, is_head, head_at}
use Rattle.mqtt_packets.specs.Packet.{body_of}
use Rattle.mqtt_packets.specs.Stream.{Spells, inside_at, with_head, header_after, header_at, body_at, rest_at, packet_at}
use Rattle.mqtt_packets.specs.Faults.{Faulty, IsFronted, IsBeginning, IsOneOfThree}
use Rattle.mqtt_packets.specs.Laws.{NeverSpelled, OneOfThree}
use Rattle.mqtt_packets.proofs.HeadLaws.{head_found, head_again}
use Rattle.mqtt_packets.proofs.StreamLaws.{packet_take, packet_again}
use Rattle.mqtt_packets.proofs.GrowLaws.{GrownOn, on_header, on_packet, header_grows, body_grows}

bind_grows : (bs b : List ℕ) (r s : Result (Option (Head × ℕ × List ℕ)) PacketFault) → GrownOn on_header b r s → GrownOn on_packet b (r >>= body_at) (s >>= body_at)
unfolding GrownOn
bind_grows bs b (Ok None) s g = tt
bind_grows bs b (Ok (Some h)) s g = rw g (body_grows b h)
bind_grows bs b (Err f) s g = rw g refl

packet_grows : (bs b : List ℕ) → GrownOn on_packet b (packet_at bs) (packet_at (bs ++ b))
unfolding packet_at
packet_grows bs b = bind_grows bs b (header_at bs) (header_at (bs ++ b)) (header_grows bs b)

fault_stays : (bs b : List ℕ) (f : PacketFault) (r : Result (Option (Packet × List ℕ)) PacketFault) → packet_at bs ≡ r → r ≡ Err f → GrownOn on_packet b r (packet_at (bs ++ b)) → packet_at (bs ++ b) ≡ Err f
unfolding GrownOn
fault_stays bs b f (Ok None) e h g = absurd cc
fault_stays bs b f (Ok (Some x)) e h g = absurd cc
fault_stays bs b f (Err d) e h g = g ∙ h

pub never_spelled : NeverSpelled
never_spelled bs more front rest f p faulty same s =
    let a : packet_at (bs ++ more) ≡ Err f = fault_stays bs more f (packet_at bs) refl faulty (packet_grows bs more) in
    let b : packet_at (front ++ rest) ≡ Ok (Some (p, rest)) = packet_again front rest p s in
    let c : packet_at (bs ++ more) ≡ Ok (Some (p, rest)) = ap packet_at same ∙ b in
    absurd cc

header_none : (bs more : List ℕ) (h : Head × ℕ × List ℕ) (r : Result (Option (Head × ℕ × List ℕ)) PacketFault) → GrownOn on_header more r (Ok (Some h)) → length h.2 < h.1 + length more → 0 < length more → length h.2 ≤ h.1 → (r >>= body_at) ≡ Ok None
unfolding GrownOn
header_none bs more h (Ok None) g a b c = refl
header_none bs more h (Err f) g a b c = absurd cc
header_none bs more h (Ok (Some k)) g a b c =
    let same : h ≡ on_header more k = same_Some h (on_header more k) (ok_is (Some h) (Some (on_header more k)) g) in
    let n : h.1 ≡ k.1 = ap (λ (x : Head × ℕ × List ℕ). x.1) same in
    let len : length h.2 ≡ length k.2 + length more = ap (λ (x : Head × ℕ × List ℕ). length x.2) same ∙ length-append k.2 more in
    let short : ltb (length k.2) k.1 ≡ true = lt-ltb _ _ (omega arith) in
    rw short refl

-- the beginning of a frame is not whole
pub beginning_waits : (bs : List ℕ) → IsBeginning bs → packet_at bs ≡ Ok None
unfolding packet_at header_at
beginning_waits bs s =
    let n = length s.inside in
    let first : head_at (first_byte s.head) ≡ Some s.head = head_again s.head s.allowed in
    let head : header_at (first_byte s.head ∷ (vbi.bytes n ++ s.inside)) ≡ Ok (Some (s.head, n, s.inside)) = rw (first, vbi_is.again n s.inside s.short) refl in
    let whole : header_at (bs ++ s.more) ≡ Ok (Some (s.head, n, s.inside)) = ap header_at s.frame ∙ head in
    let grown : GrownOn on_header s.more (header_at bs) (Ok (Some (s.head, n, s.inside))) = subst (λ (r : Result (Option (Head × ℕ × List ℕ)) PacketFault). GrownOn on_header s.more (header_at bs) r) whole (header_grows bs s.more) in
    let some = s.some in
    header_none bs s.more (s.head, n, s.inside) (header_at bs) grown (omega arith) some (omega arith)

-- a length that isn't whole, and how it may go on
record GoesOn (k : ℕ) (bs : List ℕ) : Type 0 where
  number : ℕ
  more : List ℕ
  whole : bs ++ more ≡ groups k number
  small : number < 128 ^ suc k
  some : 0 < number
  long : 0 < length more

one_small : (k : ℕ) → 1 < 128 ^ suc k
one_small zero = omega arith
one_small (suc k) = let h = one_small k in let p : 128 ^ suc (suc k) ≡ 128 * 128 ^ suc k = pow-succ' 128 (suc k) in omega arith

last_one : (k : ℕ) → groups k 1 ≡ 1 ∷ []
last_one zero = refl
last_one (suc k) = refl

chosen : {A : Type 0} (t : Bool) (x y z : A) → cond t x y ≡ z → ((t ≡ true) × (x ≡ z)) ⊎ ((t ≡ false) × (y ≡ z))
chosen true x y z e = inl (refl, e)
chosen false x y z e = inr (refl, e)

bind_err : {A B : Type 0} (r : Result A FieldFault) (f : A → Result B FieldFault) → ((a : A) → f a ≡ Err fields.Short → ⊥) → (r >>= f) ≡ Err fields.Short → r ≡ Err fields.Short
bind_err (Ok a) f not e = absurd (not a e)
bind_err (Err d) f not e = let same : d ≡ fields.Short = cc in ap (λ (x : FieldFault). Err x) same

checked_whole : (t : Bool) (x : ℕ × List ℕ) → cond t (Err fields.Malformed) (Ok x) ≡ Err fields.Short → ⊥
checked_whole true x e = absurd cc
checked_whole false x e = absurd cc

goes_on : (k : ℕ) (bs : List ℕ) → IsBytes bs → group_at k bs ≡ Err fields.Short → GoesOn k bs
goes_on k [] fits e = record { number = 1; more = 1 ∷ []; whole = sym (last_one k); small = one_small k; some = omega arith; long = omega arith }
goes_on zero (b ∷ bs) fits e =
    elim (chosen (ltb b 128) (Ok (b, bs)) (Err fields.Malformed) (Err fields.Short) e) [
      | inl h ↦ let no : Ok (b, bs) ≡ Err fields.Short = h.1 in absurd cc
      | inr h ↦ let no : Err fields.Malformed ≡ Err fields.Short = h.1 in absurd cc
    ]
goes_on (suc k) (b ∷ bs) fits e =
    let checked : ℕ × List ℕ → Result (ℕ × List ℕ) FieldFault = λ high. cond (eqb high.0 0) (Err fields.Malformed) (Ok (b - 128 + 128 * high.0, high.1)) in
    elim (chosen (ltb b 128) (Ok (b, bs)) (group_at k bs >>= checked) (Err fields.Short) e) [
      | inl h ↦ let no : Ok (b, bs) ≡ Err fields.Short = h.1 in absurd cc
      | inr h ↦
          let short = bind_err (group_at k bs) checked (λ a. checked_whole (eqb a.0 0) (b - 128 + 128 * a.0, a.1)) h.1 in
          let g = goes_on k bs (λ i. fits (suc i)) short in
          let ge : 128 ≤ b = ltb-false b 128 h.0 in
          let lt : b < 256 = fits 0 in
          let some = g.some in
          let below = g.small in
          let p : 128 ^ suc (suc k) ≡ 128 * 128 ^ suc k = pow-succ' 128 (suc k) in
          let n = b - 128 + 128 * g.number in
          let big : ltb n 128 ≡ false = le-ltb _ _ (omega arith) in
          let low : n % 128 + 128 ≡ b = omega arith in
          let top : n / 128 ≡ g.number = omega arith in
          record { number = n; more = g.more; whole = rw (big, low, top) (ap (λ (r : List ℕ). b ∷ r) g.whole); small = omega arith; some = omega arith; long = g.long }
    ]

short_length : (h : Head) (bs : List ℕ) → IsTrue (is_head h) → GoesOn 3 bs → IsBeginning (first_byte h ∷ bs)
short_length h bs allowed g =
    let zeros : List ℕ = replicate g.number 0 in
    let len : length zeros ≡ g.number = length-replicate g.number 0 in
    let frame : (first_byte h ∷ bs) ++ (g.more ++ zeros) ≡ first_byte h ∷ (vbi.bytes (length zeros) ++ zeros) = ap (λ (r : List ℕ). first_byte h ∷ r) (sym (append_assoc bs g.more zeros) ∙ ap (λ (r : List ℕ). r ++ zeros) (g.whole ∙ ap (groups 3) (sym len))) in
    let small = g.small in
    let long = g.long in
    record { head = h; inside = zeros; more = g.more ++ zeros; frame = frame; allowed = allowed; short = omega arith; some = omega (arith, length-append g.more zeros) }

short_body : (h : Head) (bs : List ℕ) (n : ℕ × List ℕ) → IsTrue (is_head h) → bs ≡ vbi.bytes n.0 ++ n.1 → n.0 < 2 ^ 28 → length n.1 < n.0 → IsBeginning (first_byte h ∷ bs)
short_body h bs n allowed parts small lt =
    let zeros : List ℕ = replicate (n.0 - length n.1) 0 in
    let len : length zeros ≡ n.0 - length n.1 = length-replicate (n.0 - length n.1) 0 in
    let whole : length (n.1 ++ zeros) ≡ n.0 = omega (arith, length-append n.1 zeros) in
    let frame : (first_byte h ∷ bs) ++ zeros ≡ first_byte h ∷ (vbi.bytes (length (n.1 ++ zeros)) ++ (n.1 ++ zeros)) =
    ap (λ (r : List ℕ). first_byte h ∷ r) (ap (λ (r : List ℕ). r ++ zeros) parts ∙ append_assoc (vbi.bytes n.0) n.1 zeros ∙ ap (λ (k : ℕ). vbi.bytes k ++ (n.1 ++ zeros)) (sym whole)) in
    record { head = h; inside = n.1 ++ zeros; more = zeros; frame = frame; allowed = allowed; short = omega arith; some = omega arith }

abbrev with_rest : List ℕ → Packet → Result (Option (Packet × List ℕ)) PacketFault
with_rest rest p = Ok (Some (p, rest))

read_some : (rest : List ℕ) (r : Result Packet PacketFault) → (r >>= with_rest rest) ≡ Ok None → ⊥
read_some rest (Ok p) e = absurd cc
read_some rest (Err f) e = absurd cc

body_case : (t : Bool) (r : Result Packet PacketFault) (rest : List ℕ) → cond t (Ok None) (r >>= with_rest rest) ≡ Ok None → t ≡ true
body_case true r rest e = refl
body_case false r rest e = absurd (read_some rest r e)

length_case : (h : Head) (bs : List ℕ) (r : Result (ℕ × List ℕ) FieldFault) → IsBytes bs → IsTrue (is_head h) → vbi.at bs ≡ r → (inside_at r >>= (λ o. Ok (with_head h o)) >>= body_at) ≡ Ok None → IsBeginning (first_byte h ∷ bs)
length_case h bs (Ok n) fits allowed at e =
    let v = vbi_is.takes bs n fits at in
    let lt : length n.1 < n.0 = ltb-true _ _ (body_case (ltb (length n.1) n.0) (body_of h (take n.0 n.1)) (drop n.0 n.1) e) in
    short_body h bs n allowed v.0 v.1 lt
length_case h bs (Err fields.Short) fits allowed at e = short_length h bs allowed (goes_on 3 bs fits at)
length_case h bs (Err fields.Malformed) fits allowed at e = absurd cc
length_case h bs (Err fields.Repeated) fits allowed at e = absurd cc
length_case h bs (Err fields.NotHere) fits allowed at e = absurd cc
length_case h bs (Err fields.NoMemory) fits allowed at e = absurd cc

head_case : (b : ℕ) (o : Option Head) (bs : List ℕ) → IsBytes bs → head_at b ≡ o → (header_after o bs >>= body_at) ≡ Ok None → IsBeginning (b ∷ bs)
head_case b None bs fits first e = absurd cc
head_case b (Some h) bs fits first e =
    let own = head_found b h first in
    subst (λ (c : ℕ). IsBeginning (c ∷ bs)) (sym own.0) (length_case h bs (vbi.at bs) fits own.1 refl e)

-- and what is not whole is the beginning of a frame
pub waiting_begins : (bs : List ℕ) → IsBytes bs → packet_at bs ≡ Ok None → IsBeginning bs
unfolding packet_at header_at
waiting_begins [] fits e = record { head = heads.Pingreq; inside = []; more = 0xc0 ∷ 0 ∷ []; frame = refl; allowed = refl; short = omega arith; some = omega arith }
waiting_begins (b ∷ bs) fits e = head_case b (head_at b) bs (λ i. fits (suc i)) refl e

one_case : (bs : List ℕ) (r : Result (Option (Packet × List ℕ)) PacketFault) → IsBytes bs → packet_at bs ≡ r → IsFronted bs ⊎ ((f : PacketFault) × Faulty bs f) ⊎ IsBeginning bs
one_case bs (Ok None) fits e = inr (inr (waiting_begins bs fits e))
one_case bs (Err f) fits e = inr (inl (f, e))
one_case bs (Ok (Some x)) fits e = let s = packet_take bs x fits e in inl (record { packet = x.0; front = s.0; rest = x.1; parts = s.1; spelled = s.2 })

fronted : (bs : List ℕ) (s : IsFronted bs) → packet_at bs ≡ Ok (Some (s.packet, s.rest))
fronted bs s = ap packet_at s.parts ∙ packet_again s.front s.rest s.packet s.spelled

pub one_of_three : OneOfThree
one_of_three bs fits = record {
  one = one_case bs (packet_at bs) fits refl;
  no_fault_behind_packet = λ f s h. let a = fronted bs s in let b : packet_at bs ≡ Err f = h in absurd cc;
  no_packet_in_beginning = λ s w. let a = fronted bs s in let b = beginning_waits bs w in absurd cc;
  no_fault_in_beginning = λ f h w. let a : packet_at bs ≡ Err f = h in let b = beginning_waits bs w in absurd cc;
}

-- what a reader answers where it waits
pub is_waiting : (bs : List ℕ) (r : Result (Option (Packet × ℕ)) PacketFault) → IsBytes bs → Gives (rest_at bs) r (packet_at bs) → IfOk r (λ o. IfNone o (IsBeginning bs))
is_waiting bs (Err e) fits h = tt
is_waiting bs (Ok None) fits h = waiting_begins bs fits h
is_waiting bs (Ok (Some x)) fits h = tt
