-- A packet that is read is one that is spelled, and what is spelled is read, whatever follows.
use Rattle.std.proofs.Common.{◌≡◌, ℕ, zero, suc, ◌+◌, ◌-◌, ◌/◌, ◌%◌, ◌<◌, ◌≤◌, ◌^◌, Bool, true, false, cond, ltb, List, [], ◌∷◌, ◌++◌, length, take, drop, Option, Some, None, Result, Ok, Err, refl, sym, ap, subst, ◌∙◌, append_assoc, arith}
use Rattle.std.specs.Prelude.{IfOk, IfSome, IsTrue, nat_lt, ◌==◌}
use Rattle.std.specs.Int.{w8, w16}
use Rattle.std.proofs.lemmas.Option.{same_Some}
use Rattle.std.proofs.lemmas.Bool.{ltb-false, le-ltb}
use Rattle.std.proofs.lemmas.List.{append-nil, length-append, length-drop, take_at, drop_at, take-append-drop, length-take}
use Rattle.mqtt_fields.specs.declared.table.Place.{Place}
use Rattle.mqtt_fields.specs.declared.table.Place.TheVariants as places
use Rattle.mqtt_fields.specs.declared.fault.FieldFault.{FieldFault}
use Rattle.mqtt_fields.specs.declared.fault.FieldFault.TheVariants as fields
use Rattle.mqtt_fields.specs.Reading as field
use Rattle.mqtt_fields.specs.Reading.{◌>>=◌}
use Rattle.mqtt_fields.specs.Numbers.{number, vbi, text}
use Rattle.mqtt_fields.specs.Block.{properties}
use Rattle.mqtt_fields.proofs.Laws.{IsBytes, IsBytes-after, IsField, bind_ok, guard_ok, guard_passed, ok_is}
use Rattle.mqtt_fields.proofs.NumberLaws.{wide8, wide16, number_is, vbi_is, text_is, IsBytes-take}
use Rattle.mqtt_fields.proofs.BlockLaws.{properties_is}
use Rattle.mqtt_packets.specs.declared.fault.PacketFault.{PacketFault}
use Rattle.mqtt_packets.specs.declared.fault.PacketFault.TheVariants.{Malformed, ProtocolError}
use Rattle.mqtt_packets.specs.declared.packet.Packet.{Packet}
use Rattle.mqtt_packets.specs.declared.head.Head.{Head}
use Rattle.mqtt_packets.specs.Reading.{Gives}
use Rattle.mqtt_packets.specs.Head.{first_byte, is_head, head_at}
use Rattle.mqtt_packets.specs.Packet.{head_of, SpellsBody, body_of}
use Rattle.mqtt_packets.specs.Stream.{Spells, inside_at, with_head, header_after, header_at, body_at, rest_at, packet_at}
use Rattle.mqtt_packets.proofs.HeadLaws.{head_found, head_again}
use Rattle.mqtt_packets.proofs.PacketLaws.{body_found, body_reads}

pub late : (e : FieldFault) (r : Result (ℕ × List ℕ) FieldFault) → (e ≡ fields.Short → ⊥) → (e ≡ fields.NoMemory → ⊥) → field.Fails e r → inside_at r ≡ Err Malformed
late fields.Short r ns nm h = absurd (ns refl)
late fields.NoMemory r ns nm h = absurd (nm refl)
late fields.Malformed r ns nm h = ap inside_at h
late fields.Repeated r ns nm h = ap inside_at h
late fields.NotHere r ns nm h = ap inside_at h

pub passed : {A E : Type 0} (b : Bool) (r : Result A E) (d : E) (y : A) → cond b r (Err d) ≡ Ok y → (b ≡ true) × (r ≡ Ok y)
passed true r d y e = (refl, e)
passed false r d y e = absurd cc

pub inside_ok : (r : Result (ℕ × List ℕ) FieldFault) (n : ℕ × List ℕ) → inside_at r ≡ Ok (Some n) → r ≡ Ok n
inside_ok (Ok m) n e = ap (λ (x : ℕ × List ℕ). Ok x) (same_Some m n (ok_is (Some m) (Some n) e))
inside_ok (Err fields.Short) n e = absurd cc
inside_ok (Err fields.Malformed) n e = absurd cc
inside_ok (Err fields.Repeated) n e = absurd cc
inside_ok (Err fields.NotHere) n e = absurd cc
inside_ok (Err fields.NoMemory) n e = absurd cc

enough_at : (t : Bool) (y : Result (Option (Packet × List ℕ)) PacketFault) (x : Packet × List ℕ) → cond t (Ok None) y ≡ Ok (Some x) → (t ≡ false) × (y ≡ Ok (Some x))
enough_at true y x e = absurd cc
enough_at false y x e = (refl, e)

insides : (b : Head) (n : ℕ × List ℕ) (x : Packet × List ℕ) → IsBytes n.1 → body_at (Some (b, n.0, n.1)) ≡ Ok (Some x)
    → (inside : List ℕ) × (n.1 ≡ inside ++ x.1) × (length inside ≡ n.0) × (head_of x.0 ≡ b) × SpellsBody x.0 inside
insides b n x fits e =
    let g = enough_at (ltb (length n.1) n.0) (body_of b (take n.0 n.1) >>= λ p. Ok (Some (p, drop n.0 n.1))) x e in
    let long : n.0 ≤ length n.1 = ltb-false _ _ g.0 in
    let p = bind_ok (body_of b (take n.0 n.1)) (λ p. Ok (Some (p, drop n.0 n.1))) (Some x) g.1 in
    let made : Packet × List ℕ = (p.0, drop n.0 n.1) in
    let same : made ≡ x = same_Some made x (ok_is (Some made) (Some x) p.2) in
    let found = body_found b (take n.0 n.1) p.0 (IsBytes-take n.0 n.1 fits) p.1 in
    subst (λ (y : Packet × List ℕ). (inside : List ℕ) × (n.1 ≡ inside ++ y.1) × (length inside ≡ n.0) × (head_of y.0 ≡ b) × SpellsBody y.0 inside) same
    (take n.0 n.1, sym (take-append-drop n.0 n.1), omega (arith, length-take n.0 n.1), found.0, found.1)

headed : (b : ℕ) (bs : List ℕ) (h : Head) (o : Option (ℕ × List ℕ)) (x : Packet × List ℕ) → IsBytes bs → head_at b ≡ Some h → inside_at (vbi.at bs) ≡ Ok o → body_at (with_head h o) ≡ Ok (Some x) → (front : List ℕ) × (b ∷ bs ≡ front ++ x.1) × Spells front x.0
headed b bs h None x fits first e f = absurd cc
headed b bs h (Some n) x fits first e f =
    let v = vbi_is.takes bs n fits (inside_ok (vbi.at bs) n e) in
    let i = insides h n x (IsBytes-after bs (vbi.bytes n.0) n.1 fits v.0) f in
    let own = head_found b h first in
    let byte : b ≡ first_byte (head_of x.0) = own.0 ∙ ap first_byte (sym i.3) in
    let whole : b ∷ bs ≡ (b ∷ vbi.bytes (length i.0) ++ i.0) ++ x.1 = ap (λ (ys : List ℕ). b ∷ ys) (v.0 ∙ ap (λ (k : ℕ). vbi.bytes k ++ n.1) (sym i.2) ∙ ap (λ (r : List ℕ). vbi.bytes (length i.0) ++ r) i.1 ∙ sym (append_assoc (vbi.bytes (length i.0)) i.0 x.1)) in
    (b ∷ vbi.bytes (length i.0) ++ i.0, whole, record { inside = i.0; whole = ap (λ (c : ℕ). c ∷ vbi.bytes (length i.0) ++ i.0) byte; begins = subst (λ (k : Head). IsTrue (is_head k)) (sym i.3) own.1; short = omega (arith, v.1, i.2); spells = i.4 })

first_case : (b : ℕ) (bs : List ℕ) (o : Option Head) (x : Packet × List ℕ) → IsBytes bs → head_at b ≡ o → (header_after o bs >>= body_at) ≡ Ok (Some x) → (front : List ℕ) × (b ∷ bs ≡ front ++ x.1) × Spells front x.0
first_case b bs None x fits first e = absurd cc
first_case b bs (Some h) x fits first e =
    let head = bind_ok (inside_at (vbi.at bs) >>= λ o. Ok (with_head h o)) body_at (Some x) e in
    let o = bind_ok (inside_at (vbi.at bs)) (λ o. Ok (with_head h o)) head.0 head.1 in
    let same : with_head h o.0 ≡ head.0 = ok_is (with_head h o.0) head.0 o.2 in
    headed b bs h o.0 x fits first o.1 (ap body_at same ∙ head.2)

pub packet_take : (bs : List ℕ) (x : Packet × List ℕ) → IsBytes bs → packet_at bs ≡ Ok (Some x) → (front : List ℕ) × (bs ≡ front ++ x.1) × Spells front x.0
unfolding packet_at header_at
packet_take [] x fits e = absurd cc
packet_take (b ∷ bs) x fits e = first_case b bs (head_at b) x (λ i. fits (suc i)) refl e

pub packet_again : (front rest : List ℕ) (p : Packet) → Spells front p → packet_at (front ++ rest) ≡ Ok (Some (p, rest))
unfolding packet_at header_at
packet_again front rest p s =
    let n = length s.inside in
    let b = first_byte (head_of p) in
    let regrouped : front ++ rest ≡ b ∷ (vbi.bytes n ++ (s.inside ++ rest)) = ap (λ (ys : List ℕ). ys ++ rest) s.whole ∙ append_assoc (b ∷ vbi.bytes n) s.inside rest in
    let first : head_at b ≡ Some (head_of p) = head_again (head_of p) s.begins in
    let long : ltb (length (s.inside ++ rest)) n ≡ false = le-ltb _ _ (omega (arith, length-append s.inside rest)) in
    ap packet_at regrouped ∙ rw (first, vbi_is.again n (s.inside ++ rest) s.short, long, take_at s.inside rest n refl, drop_at s.inside rest n refl, body_reads p s.inside s.spells) refl

pub used : (bs : List ℕ) (x : Packet × List ℕ) → IsBytes bs → packet_at bs ≡ Ok (Some x) → (length x.1 ≤ length bs) × (drop (length bs - length x.1) bs ≡ x.1)
used bs x fits e =
    let s = packet_take bs x fits e in
    let len : length bs ≡ length s.0 + length x.1 = ap length s.1 ∙ length-append s.0 x.1 in
    (omega arith, ap (λ (ys : List ℕ). drop (length bs - length x.1) ys) s.1 ∙ drop_at s.0 x.1 (length bs - length x.1) (omega arith))

pub is_found : (bs : List ℕ) (r : Result (Option (Packet × ℕ)) PacketFault) → IsBytes bs → IfOk r (λ o. IfSome o (λ x. x.1 ≤ length bs)) → Gives (rest_at bs) r (packet_at bs)
    → IfOk r (λ o. IfSome o (λ x. (x.1 ≤ length bs) × Spells (take x.1 bs) x.0))
is_found bs (Err e) fits le h = tt
is_found bs (Ok None) fits le h = tt
is_found bs (Ok (Some x)) fits le h =
    let s = packet_take bs (x.0, drop x.1 bs) fits h in
    let len : length bs ≡ length s.0 + length (drop x.1 bs) = ap length s.1 ∙ length-append s.0 (drop x.1 bs) in
    let front : take x.1 bs ≡ s.0 = ap (take x.1) s.1 ∙ take_at s.0 (drop x.1 bs) x.1 (omega (arith, length-drop x.1 bs)) in
    (le, rw front s.2)

pub is_only : (bs : List ℕ) (r : Result (Option (Packet × ℕ)) PacketFault) → Gives (rest_at bs) r (packet_at bs) → (front rest : List ℕ) (p : Packet) → Spells front p → bs ≡ front ++ rest → Gives (rest_at bs) r (Ok (Some (p, rest)))
is_only bs r h front rest p s e =
    let again : packet_at bs ≡ Ok (Some (p, rest)) = ap packet_at e ∙ packet_again front rest p s in
    subst (λ (y : Result (Option (Packet × List ℕ)) PacketFault). Gives (rest_at bs) r y) again h
