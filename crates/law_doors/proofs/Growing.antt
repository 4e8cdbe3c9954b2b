-- A client's packet stays what it was where more bytes come, and it is one alone too.
use Rattle.std.proofs.Common.{◌≡◌, ℕ, suc, ◌+◌, ◌-◌, ◌<◌, ◌≤◌, Bool, true, false, cond, ltb, List, [], ◌∷◌, ◌++◌, length, take, drop, Option, Some, None, Result, Ok, Err, refl, sym, ap, ◌∙◌, append_assoc, arith}
use Rattle.std.proofs.lemmas.Bool.{ltb-false, le-ltb}
use Rattle.std.proofs.lemmas.List.{length-append, take-append-le, drop-append-le, length-take, take-append-drop, take_all, drop_all}
use Rattle.std.proofs.lemmas.Option.{same_Some}
use Rattle.mqtt_fields.specs.declared.fault.FieldFault.{FieldFault}
use Rattle.mqtt_fields.specs.declared.fault.FieldFault.TheVariants as fields
use Rattle.mqtt_fields.specs.Reading.{◌>>=◌}
use Rattle.mqtt_fields.specs.Field.{IsGrown}
use Rattle.mqtt_fields.specs.Numbers.{vbi}
use Rattle.mqtt_fields.proofs.Laws.{IsBytes, IsBytes-after, bind_ok, ok_is}
use Rattle.mqtt_fields.proofs.NumberLaws.{vbi_is}
use Rattle.mqtt_fields.proofs.SteadyLaws.{vbi_steady}
use Rattle.mqtt_packets.specs.declared.fault.PacketFault.{PacketFault}
use Rattle.mqtt_packets.specs.declared.fault.PacketFault.TheVariants as faults
use Rattle.mqtt_packets.specs.declared.packet.Packet.{Packet}
use Rattle.mqtt_packets.specs.Stream.{inside_at}
use Rattle.mqtt_packets.proofs.StreamLaws.{inside_ok}
use Rattle.mqtt_packets.proofs.GrowLaws.{GrownOn, on_packet}
use Rattle.mqtt3_packets.specs.declared.level.Level.{Level}
use Rattle.mqtt3_packets.specs.Kinds.{kind_of, packet_of}
use Rattle.mqtt3_packets.specs.Stream.{with_kind, header_after, header_at, body_at, packet_at}

-- the kind of a packet, the length of its body, and what follows; K is the type of kinds
abbrev on_header : {K : Type 0} → List ℕ → K × ℕ × List ℕ → K × ℕ × List ℕ
on_header b h = (h.0, h.1, h.2 ++ b)

grown_inside : (x : _) (b : List ℕ) (r s : Result (ℕ × List ℕ) FieldFault) → IsGrown b r s → GrownOn on_header b (inside_at r >>= λ o. Ok (with_kind x o)) (inside_at s >>= λ o. Ok (with_kind x o))
unfolding GrownOn
grown_inside x b (Ok n) s g = rw g refl
grown_inside x b (Err fields.Short) s g = tt
grown_inside x b (Err fields.Malformed) s g = rw g refl
grown_inside x b (Err fields.Repeated) s g = rw g refl
grown_inside x b (Err fields.NotHere) s g = rw g refl
grown_inside x b (Err fields.NoMemory) s g = rw g refl

grown_first : (b : List ℕ) (o : Option _) (bs : List ℕ) → GrownOn on_header b (header_after o bs) (header_after o (bs ++ b))
unfolding GrownOn
grown_first b None bs = refl
grown_first b (Some h) bs = unfold GrownOn in grown_inside h b (vbi.at bs) (vbi.at (bs ++ b)) (vbi_steady bs b)

header_grows : (level : Level) (bs b : List ℕ) → GrownOn on_header b (header_at level bs) (header_at level (bs ++ b))
unfolding header_at
header_grows level [] b = unfold GrownOn in tt
header_grows level (x ∷ bs) b = grown_first b (kind_of level x) bs

grown_read : (b rest : List ℕ) (r : Result Packet PacketFault) → GrownOn on_packet b (r >>= λ p. Ok (Some (p, rest))) (r >>= λ p. Ok (Some (p, rest ++ b)))
unfolding GrownOn
grown_read b rest (Ok p) = refl
grown_read b rest (Err f) = refl

-- what so many bytes are read as, where they are there
abbrev inside : (List ℕ → Result Packet PacketFault) → ℕ → List ℕ → Result (Option (Packet × List ℕ)) PacketFault
inside f n bs = cond (ltb (length bs) n) (Ok None) (f (take n bs) >>= λ p. Ok (Some (p, drop n bs)))

inside_case : (f : List ℕ → Result Packet PacketFault) (b : List ℕ) (n : ℕ) (bs : List ℕ) (t : Bool) → ltb (length bs) n ≡ t
    → GrownOn on_packet b (cond t (Ok None) (f (take n bs) >>= λ p. Ok (Some (p, drop n bs)))) (inside f n (bs ++ b))
unfolding GrownOn
inside_case f b n bs true e = tt
inside_case f b n bs false e =
    let long : n ≤ length bs = ltb-false _ _ e in
    let longer : ltb (length (bs ++ b)) n ≡ false = le-ltb _ _ (omega (arith, length-append bs b)) in
    let front : take n (bs ++ b) ≡ take n bs = take-append-le n bs b long in
    let back : drop n (bs ++ b) ≡ drop n bs ++ b = drop-append-le n bs b long in
    rw (longer, front, back) (grown_read b (drop n bs) (f (take n bs)))

limit_case : (f : List ℕ → Result Packet PacketFault) (b : List ℕ) (n : ℕ) (bs : List ℕ) (t : Bool) → GrownOn on_packet b (cond t (Err faults.TooLarge) (inside f n bs)) (cond t (Err faults.TooLarge) (inside f n (bs ++ b)))
limit_case f b n bs true = unfold GrownOn in refl
limit_case f b n bs false = inside_case f b n bs (ltb (length bs) n) refl

body_grows : (level : Level) (limit : ℕ) (bs b : List ℕ) (r s : Result (Option (_ × ℕ × List ℕ)) PacketFault) → ((h : _ × ℕ × List ℕ) → r ≡ Ok (Some h) → length h.2 ≤ length bs) → GrownOn on_header b r s
    → GrownOn on_packet b (r >>= body_at level limit bs) (s >>= body_at level limit (bs ++ b))
unfolding GrownOn
body_grows level limit bs b (Ok None) s short g = tt
body_grows level limit bs b (Err f) s short g = rw g refl
body_grows level limit bs b (Ok (Some h)) s short g =
    let le = short h refl in
    let same : length (bs ++ b) - length (h.2 ++ b) + h.1 ≡ length bs - length h.2 + h.1 = omega (arith, length-append bs b, length-append h.2 b) in
    rw (g, same) (limit_case (packet_of level h.0) b h.1 h.2 (ltb limit (length bs - length h.2 + h.1)))

-- ---- the parts of a header

framed_ok : (x : _) (o : Option (ℕ × List ℕ)) (k : _) (n : ℕ) (rest : List ℕ) → with_kind x o ≡ Some (k, n, rest) → (x ≡ k) × (o ≡ Some (n, rest))
framed_ok x None k n rest e = absurd cc
framed_ok x (Some m) k n rest e =
    let same : (x, m.0, m.1) ≡ (k, n, rest) = same_Some (x, m.0, m.1) (k, n, rest) e in
    (ap (λ (h : _ × ℕ × List ℕ). h.0) same, ap (λ (h : _ × ℕ × List ℕ). Some (h.1, h.2)) same)

-- a first byte of which this is known, this length, and what follows
abbrev Headed : (ℕ → Type 0) → List ℕ → ℕ → List ℕ → Type 0
Headed Known bs n rest = (first : ℕ) × Known first × (bs ≡ first ∷ (vbi.bytes n ++ rest)) × vbi.Fits n

headed_case : (level : Level) (b : ℕ) (o : Option _) (bs : List ℕ) (k : _) (n : ℕ) (rest : List ℕ) → kind_of level b ≡ o → IsBytes bs → header_after o bs ≡ Ok (Some (k, n, rest)) → Headed (λ f. kind_of level f ≡ Some k) (b ∷ bs) n rest
headed_case level b None bs k n rest is fits e = absurd cc
headed_case level b (Some x) bs k n rest is fits e =
    let o = bind_ok (inside_at (vbi.at bs)) (λ o. Ok (with_kind x o)) (Some (k, n, rest)) e in
    let m = framed_ok x o.0 k n rest (ok_is (with_kind x o.0) (Some (k, n, rest)) o.2) in
    let v : vbi.at bs ≡ Ok (n, rest) = inside_ok (vbi.at bs) (n, rest) (o.1 ∙ ap (λ (y : Option (ℕ × List ℕ)). Ok y) m.1) in
    let t = vbi_is.takes bs (n, rest) fits v in
    (b, is ∙ ap (λ (y : _). Some y) m.0, ap (λ (ys : List ℕ). b ∷ ys) t.0, t.1)

headed : (level : Level) (bs : List ℕ) (k : _) (n : ℕ) (rest : List ℕ) → IsBytes bs → header_at level bs ≡ Ok (Some (k, n, rest)) → Headed (λ f. kind_of level f ≡ Some k) bs n rest
unfolding header_at
headed level [] k n rest fits e = absurd cc
headed level (b ∷ bs) k n rest fits e = headed_case level b (kind_of level b) bs k n rest refl (λ i. fits (suc i)) e

headed_again : (level : Level) (bs : List ℕ) (k : _) (n : ℕ) (rest : List ℕ) → Headed (λ f. kind_of level f ≡ Some k) bs n rest → header_at level bs ≡ Ok (Some (k, n, rest))
unfolding header_at
headed_again level bs k n rest d = ap (header_at level) d.2 ∙ rw (d.1, vbi_is.again n rest d.3) refl

header_short : (level : Level) (bs : List ℕ) → IsBytes bs → (h : _ × ℕ × List ℕ) → header_at level bs ≡ Ok (Some h) → length h.2 ≤ length bs
header_short level bs fits h e =
    let d = headed level bs h.0 h.1 h.2 fits e in
    let len : length bs ≡ suc (length (vbi.bytes h.1 ++ h.2)) = ap length d.2 in
    omega (arith, length-append (vbi.bytes h.1) h.2)

-- what is read of a client's bytes stays so where more come
pub packet_grows : (level : Level) (limit : ℕ) (bs b : List ℕ) → IsBytes bs → GrownOn on_packet b (packet_at level limit bs) (packet_at level limit (bs ++ b))
unfolding packet_at
packet_grows level limit bs b fits = body_grows level limit bs b (header_at level bs) (header_at level (bs ++ b)) (header_short level bs fits) (header_grows level bs b)

-- ---- a packet alone

-- bytes in front that are this packet alone
pub record IsFront (level : Level) (limit : ℕ) (bs : List ℕ) (x : Packet × List ℕ) : Type 0 where
  pub front : List ℕ
  pub whole : bs ≡ front ++ x.1
  pub some : 0 < length front
  pub alone : packet_at level limit front ≡ Ok (Some (x.0, []))

small_case : (t : Bool) (r : Result (Option (Packet × List ℕ)) PacketFault) (x : Packet × List ℕ) → cond t (Err faults.TooLarge) r ≡ Ok (Some x) → (t ≡ false) × (r ≡ Ok (Some x))
small_case true r x e = absurd cc
small_case false r x e = (refl, e)

there_case : (t : Bool) (r : Result (Option (Packet × List ℕ)) PacketFault) (x : Packet × List ℕ) → cond t (Ok None) r ≡ Ok (Some x) → (t ≡ false) × (r ≡ Ok (Some x))
there_case true r x e = absurd cc
there_case false r x e = (refl, e)

body_ok : (level : Level) (limit : ℕ) (bs : List ℕ) (k : _) (n : ℕ) (rest : List ℕ) (x : Packet × List ℕ) → body_at level limit bs (Some (k, n, rest)) ≡ Ok (Some x)
    → (ltb limit (length bs - length rest + n) ≡ false) × (ltb (length rest) n ≡ false) × (packet_of level k (take n rest) ≡ Ok x.0) × (drop n rest ≡ x.1)
body_ok level limit bs k n rest x e =
    let small = small_case (ltb limit (length bs - length rest + n)) (inside (packet_of level k) n rest) x e in
    let there = there_case (ltb (length rest) n) (packet_of level k (take n rest) >>= λ p. Ok (Some (p, drop n rest))) x small.1 in
    let p = bind_ok (packet_of level k (take n rest)) (λ p. Ok (Some (p, drop n rest))) (Some x) there.1 in
    let made : Packet × List ℕ = (p.0, drop n rest) in
    let same : made ≡ x = same_Some made x (ok_is (Some made) (Some x) p.2) in
    (small.0, there.0, p.1 ∙ ap (λ (y : Packet × List ℕ). Ok y.0) same, ap (λ (y : Packet × List ℕ). y.1) same)

front_case : (level : Level) (limit : ℕ) (bs : List ℕ) (o : Option (_ × ℕ × List ℕ)) (x : Packet × List ℕ) → IsBytes bs → header_at level bs ≡ Ok o → body_at level limit bs o ≡ Ok (Some x) → IsFront level limit bs x
unfolding packet_at
front_case level limit bs None x fits e f = absurd cc
front_case level limit bs (Some h) x fits e f =
    let d = headed level bs h.0 h.1 h.2 fits e in
    let k = body_ok level limit bs h.0 h.1 h.2 x f in
    let own : List ℕ = take h.1 h.2 in
    let front : List ℕ = d.0 ∷ (vbi.bytes h.1 ++ own) in
    let long : h.1 ≤ length h.2 = ltb-false _ _ k.1 in
    let n : length own ≡ h.1 = omega (arith, length-take h.1 h.2) in
    let head : header_at level front ≡ Ok (Some (h.0, h.1, own)) = headed_again level front h.0 h.1 own (d.0, d.1, refl, d.3) in
    let len : length bs ≡ suc (length (vbi.bytes h.1 ++ h.2)) = ap length d.2 in
    let size : length front - length own + h.1 ≡ length bs - length h.2 + h.1 = omega (arith, length-append (vbi.bytes h.1) h.2, length-append (vbi.bytes h.1) own) in
    let there : ltb (length own) h.1 ≡ false = le-ltb _ _ (omega arith) in
    let all : take h.1 own ≡ own = take_all h.1 own (omega arith) in
    let none : drop h.1 own ≡ [] = drop_all h.1 own (omega arith) in
    record {
      front = front;
      whole =
          d.2 ∙ ap (λ (ys : List ℕ). d.0 ∷ ys) (ap (λ (ys : List ℕ). vbi.bytes h.1 ++ ys) (sym (take-append-drop h.1 h.2) ∙ ap (λ (ys : List ℕ). own ++ ys) k.3)
          ∙ sym (append_assoc (vbi.bytes h.1) own x.1));
      some = omega arith;
      alone = rw (head, size, k.0, there, all, none, k.2) refl;
    }

pub packet_front : (level : Level) (limit : ℕ) (bs : List ℕ) (x : Packet × List ℕ) → IsBytes bs → packet_at level limit bs ≡ Ok (Some x) → IsFront level limit bs x
unfolding packet_at
packet_front level limit bs x fits e =
    let h = bind_ok (header_at level bs) (body_at level limit bs) (Some x) e in
    front_case level limit bs h.0 x fits h.1 h.2

-- what follows is shorter, and bytes too
pub packet_less : (level : Level) (limit : ℕ) (bs : List ℕ) (x : Packet × List ℕ) → IsBytes bs → packet_at level limit bs ≡ Ok (Some x) → length x.1 < length bs
packet_less level limit bs x fits e =
    let f = packet_front level limit bs x fits e in
    let len : length bs ≡ length f.front + length x.1 = ap length f.whole ∙ length-append f.front x.1 in
    let some : 0 < length f.front = f.some in
    omega arith

pub packet_rest : (level : Level) (limit : ℕ) (bs : List ℕ) (x : Packet × List ℕ) → IsBytes bs → packet_at level limit bs ≡ Ok (Some x) → IsBytes x.1
packet_rest level limit bs x fits e = let f = packet_front level limit bs x fits e in IsBytes-after bs f.front x.1 fits f.whole
