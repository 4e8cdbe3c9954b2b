-- What is read of a stream doesn't depend on where it is cut into pieces.
use Rattle.std.proofs.Common.{◌≡◌, ℕ, zero, suc, ◌+◌, ◌-◌, ◌<◌, ◌≤◌, Bool, true, false, cond, ltb, List, [], ◌∷◌, ◌++◌, length, take, drop, Option, Some, None, Result, Ok, Err, refl, sym, ap, subst, ◌∙◌, append_assoc, arith}
use Rattle.std.proofs.lemmas.Bool.{ltb-false, le-ltb}
use Rattle.std.specs.List.{concat}
use Rattle.std.proofs.lemmas.List.{append-nil, length-append, take-append-le, drop-append-le}
use Rattle.std.proofs.lemmas.Option.{same_Some}
use Rattle.mqtt_fields.specs.declared.fault.FieldFault.{FieldFault}
use Rattle.mqtt_fields.specs.declared.fault.FieldFault.TheVariants as fields
use Rattle.mqtt_fields.specs.Reading.{◌>>=◌}
use Rattle.mqtt_fields.specs.Field.{IsGrown}
use Rattle.mqtt_fields.specs.Numbers.{vbi}
use Rattle.mqtt_fields.proofs.Laws.{IsBytes, IsBytes-after, bind_ok, ok_is, used}
use Rattle.mqtt_fields.proofs.NumberLaws.{vbi_is}
use Rattle.mqtt_fields.proofs.SteadyLaws.{vbi_steady}
use Rattle.mqtt_packets.specs.declared.fault.PacketFault.{PacketFault}
use Rattle.mqtt_packets.specs.declared.fault.PacketFault.TheVariants as faults
use Rattle.mqtt_packets.specs.declared.head.Head.{Head}
use Rattle.mqtt_packets.specs.declared.packet.Packet.{Packet}
use Rattle.mqtt_packets.specs.Head.{head_at}
use Rattle.mqtt_packets.specs.Packet.{body_of}
use Rattle.mqtt_packets.specs.Stream.{inside_at, with_head, header_after, header_at, body_at, packet_at, limited, step_at, Cut, before, cut}
use Rattle.mqtt_packets.specs.Laws.{more_at, more, more_pieces, AnyPieces, OneFront}
use Rattle.mqtt_packets.proofs.StreamLaws.{inside_ok, packet_take, packet_again}
use Rattle.mqtt_packets.proofs.CutLaws.{within_limit, shorter, cut_some, cut_none, cut_err}

pub IsBytes-front : (a b : List ℕ) → IsBytes (a ++ b) → IsBytes a
IsBytes-front [] b h i = omega arith
IsBytes-front (x ∷ a) b h zero = h 0
IsBytes-front (x ∷ a) b h (suc i) = IsBytes-front a b (λ j. h (suc j)) i

pub IsBytes-both : (a b : List ℕ) → IsBytes a → IsBytes b → IsBytes (a ++ b)
IsBytes-both [] b f g i = g i
IsBytes-both (x ∷ a) b f g zero = f 0
IsBytes-both (x ∷ a) b f g (suc i) = IsBytes-both a b (λ j. f (suc j)) g i

-- What is read stays so where more bytes come; of what isn't whole nothing is said.
unfoldable pub GrownOn : {A : Type 0} → (List ℕ → A → A) → List ℕ → Result (Option A) PacketFault → Result (Option A) PacketFault → Type 0
GrownOn on b (Ok None) r = Unit {0}
GrownOn on b (Ok (Some x)) r = r ≡ Ok (Some (on b x))
GrownOn on b (Err f) r = r ≡ Err f

abbrev pub on_header : List ℕ → Head × ℕ × List ℕ → Head × ℕ × List ℕ
on_header b h = (h.0, h.1, h.2 ++ b)

abbrev pub on_packet : List ℕ → Packet × List ℕ → Packet × List ℕ
on_packet b x = (x.0, x.1 ++ b)

abbrev pub framed : Head → Option (ℕ × List ℕ) → Result (Option (Head × ℕ × List ℕ)) PacketFault
framed x o = Ok (with_head x o)

grown_inside : (x : Head) (b : List ℕ) (r s : Result (ℕ × List ℕ) FieldFault) → IsGrown b r s → GrownOn on_header b (inside_at r >>= framed x) (inside_at s >>= framed x)
unfolding GrownOn
grown_inside x b (Ok n) s g = rw g refl
grown_inside x b (Err fields.Short) s g = tt
grown_inside x b (Err fields.Malformed) s g = rw g refl
grown_inside x b (Err fields.Repeated) s g = rw g refl
grown_inside x b (Err fields.NotHere) s g = rw g refl
grown_inside x b (Err fields.NoMemory) s g = rw g refl

grown_first : (b : List ℕ) (o : Option Head) (bs : List ℕ) → GrownOn on_header b (header_after o bs) (header_after o (bs ++ b))
unfolding GrownOn
grown_first b None bs = refl
grown_first b (Some h) bs = unfold GrownOn in grown_inside h b (vbi.at bs) (vbi.at (bs ++ b)) (vbi_steady bs b)

pub header_grows : (bs b : List ℕ) → GrownOn on_header b (header_at bs) (header_at (bs ++ b))
unfolding header_at
header_grows [] b = unfold GrownOn in tt
header_grows (x ∷ bs) b = grown_first b (head_at x) bs

grown_read : (b : List ℕ) (rest : List ℕ) (r : Result Packet PacketFault) → GrownOn on_packet b (r >>= λ p. Ok (Some (p, rest))) (r >>= λ p. Ok (Some (p, rest ++ b)))
unfolding GrownOn
grown_read b rest (Ok p) = refl
grown_read b rest (Err f) = refl

body_case : (b : List ℕ) (h : Head × ℕ × List ℕ) (t : Bool) → ltb (length h.2) h.1 ≡ t
    → GrownOn on_packet b (cond t (Ok None) (body_of h.0 (take h.1 h.2) >>= λ p. Ok (Some (p, drop h.1 h.2)))) (body_at (Some (on_header b h)))
unfolding GrownOn
body_case b h true e = tt
body_case b h false e =
    let long : h.1 ≤ length h.2 = ltb-false _ _ e in
    let longer : ltb (length (h.2 ++ b)) h.1 ≡ false = le-ltb _ _ (omega (arith, length-append h.2 b)) in
    let front : take h.1 (h.2 ++ b) ≡ take h.1 h.2 = take-append-le h.1 h.2 b long in
    let back : drop h.1 (h.2 ++ b) ≡ drop h.1 h.2 ++ b = drop-append-le h.1 h.2 b long in
    rw (longer, front, back) (grown_read b (drop h.1 h.2) (body_of h.0 (take h.1 h.2)))

pub body_grows : (b : List ℕ) (h : Head × ℕ × List ℕ) → GrownOn on_packet b (body_at (Some h)) (body_at (Some (on_header b h)))
body_grows b h = body_case b h (ltb (length h.2) h.1) refl

limit_case : (b : List ℕ) (h : Head × ℕ × List ℕ) (t : Bool) → GrownOn on_packet b (cond t (Err faults.TooLarge) (Ok (Some h)) >>= body_at) (cond t (Err faults.TooLarge) (Ok (Some (on_header b h))) >>= body_at)
limit_case b h true = unfold GrownOn in refl
limit_case b h false = body_grows b h

framed_ok : (x : Head) (o : Option (ℕ × List ℕ)) (h : Head × ℕ × List ℕ) → with_head x o ≡ Some h → o ≡ Some (h.1, h.2)
framed_ok x None h e = absurd cc
framed_ok x (Some n) h e = let same : (x, n.0, n.1) ≡ h = same_Some (x, n.0, n.1) h e in ap (λ (m : Head × ℕ × List ℕ). Some (m.1, m.2)) same

short_case : (o : Option Head) (bs : List ℕ) → IsBytes bs → (h : Head × ℕ × List ℕ) → header_after o bs ≡ Ok (Some h) → length h.2 ≤ length bs
short_case None bs fits h e = absurd cc
short_case (Some x) bs fits h e =
    let o = bind_ok (inside_at (vbi.at bs)) (framed x) (Some h) e in
    let n : o.0 ≡ Some (h.1, h.2) = framed_ok x o.0 h (ok_is (with_head x o.0) (Some h) o.2) in
    let v : vbi.at bs ≡ Ok (h.1, h.2) = inside_ok (vbi.at bs) (h.1, h.2) (o.1 ∙ ap (λ (m : Option (ℕ × List ℕ)). Ok m) n) in
    (used vbi vbi_is bs (h.1, h.2) fits v).0

pub header_short : (bs : List ℕ) → IsBytes bs → (h : Head × ℕ × List ℕ) → header_at bs ≡ Ok (Some h) → length h.2 ≤ length bs
unfolding header_at
header_short [] fits h e = absurd cc
header_short (x ∷ bs) fits h e = let le = short_case (head_at x) bs (λ i. fits (suc i)) h e in omega arith

limit_grows : (limit : ℕ) (bs b : List ℕ) (r s : Result (Option (Head × ℕ × List ℕ)) PacketFault) → ((h : Head × ℕ × List ℕ) → r ≡ Ok (Some h) → length h.2 ≤ length bs) → GrownOn on_header b r s
    → GrownOn on_packet b (r >>= limited limit bs >>= body_at) (s >>= limited limit (bs ++ b) >>= body_at)
unfolding GrownOn
limit_grows limit bs b (Ok None) s short g = tt
limit_grows limit bs b (Err f) s short g = rw g refl
limit_grows limit bs b (Ok (Some h)) s short g =
    let le = short h refl in
    let same : length (bs ++ b) - length (h.2 ++ b) + h.1 ≡ length bs - length h.2 + h.1 = omega (arith, length-append bs b, length-append h.2 b) in
    rw (g, same) (limit_case b h (ltb limit (length bs - length h.2 + h.1)))

pub step_grows : (limit : ℕ) (bs b : List ℕ) → IsBytes bs → GrownOn on_packet b (step_at limit bs) (step_at limit (bs ++ b))
unfolding step_at
step_grows limit bs b fits = limit_grows limit bs b (header_at bs) (header_at (bs ++ b)) (header_short bs fits) (header_grows bs b)

past_case : (limit : ℕ) (a b : List ℕ) (p : Packet) (r : Result (Option (Packet × List ℕ)) PacketFault) → r ≡ Ok (Some (p, [])) → GrownOn on_packet b r (step_at limit (a ++ b)) → step_at limit (a ++ b) ≡ Ok (Some (p, b))
unfolding GrownOn
past_case limit a b p (Ok None) e g = absurd cc
past_case limit a b p (Err f) e g = absurd cc
past_case limit a b p (Ok (Some x)) e g =
    let nothing : List ℕ = [] in
    let same : x ≡ (p, nothing) = same_Some x (p, nothing) (ok_is (Some x) (Some (p, nothing)) e) in
    g ∙ ap (λ (y : Packet × List ℕ). Ok (Some (y.0, y.1 ++ b))) same

-- behind a whole packet the cut goes on
pub goes_past : (limit : ℕ) (a b : List ℕ) (p : Packet) → IsBytes a → IsBytes (a ++ b) → step_at limit a ≡ Ok (Some (p, [])) → cut limit (a ++ b) ≡ before (p ∷ []) (cut limit b)
goes_past limit a b p front fits e = cut_some limit (a ++ b) (p, b) fits (past_case limit a b p (step_at limit a) e (step_grows limit a b front))

before_more : (limit : ℕ) (p : Packet) (c : Cut) (b : List ℕ) (f : Option PacketFault) → more_at limit (p ∷ c.packets) c.rest f b ≡ before (p ∷ []) (more_at limit c.packets c.rest f b)
before_more limit p c b None = refl
before_more limit p c b (Some f) = refl

alike_case : (n limit : ℕ) (a b : List ℕ) (r : Result (Option (Packet × List ℕ)) PacketFault) → step_at limit a ≡ r → GrownOn on_packet b r (step_at limit (a ++ b)) → IsBytes (a ++ b)
    → ((x : Packet × List ℕ) → r ≡ Ok (Some x) → cut limit (x.1 ++ b) ≡ more limit (cut limit x.1) b)
    → cut limit (a ++ b) ≡ more limit (cut limit a) b
unfolding GrownOn
alike_case n limit a b (Ok None) e g fits next = sym (ap (λ (c : Cut). more limit c b) (cut_none limit a e))
alike_case n limit a b (Err f) e g fits next = cut_err limit (a ++ b) f g ∙ sym (ap (λ (c : Cut). more limit c b) (cut_err limit a f e))
alike_case n limit a b (Ok (Some x)) e g fits next =
    let front = IsBytes-front a b fits in
    cut_some limit (a ++ b) (on_packet b x) fits g ∙ ap (before (x.0 ∷ [])) (next x refl) ∙ sym (before_more limit x.0 (cut limit x.1) b (cut limit x.1).fault) ∙ sym (ap (λ (c : Cut). more limit c b) (cut_some limit a x front e))

rest_of : (limit : ℕ) (a b : List ℕ) (x : Packet × List ℕ) → IsBytes (a ++ b) → step_at limit a ≡ Ok (Some x) → IsBytes (x.1 ++ b)
rest_of limit a b x fits e =
    let s = packet_take a x (IsBytes-front a b fits) (within_limit limit a x e) in
    IsBytes-after (a ++ b) s.0 (x.1 ++ b) fits (ap (λ (ys : List ℕ). ys ++ b) s.1 ∙ append_assoc s.0 x.1 b)

alike_within : (n limit : ℕ) (a b : List ℕ) → length a < n → IsBytes (a ++ b) → cut limit (a ++ b) ≡ more limit (cut limit a) b
alike_within zero limit a b lt fits = absurd (omega arith)
alike_within (suc n) limit a b lt fits =
    let front = IsBytes-front a b fits in
    alike_case n limit a b (step_at limit a) refl (step_grows limit a b front) fits
    (λ x e. let less = shorter limit a x front e in alike_within n limit x.1 b (omega arith) (rest_of limit a b x fits e))

-- it doesn't matter where a stream is cut in two
cuts_alike : (limit : ℕ) (a b : List ℕ) → IsBytes (a ++ b) → cut limit (a ++ b) ≡ more limit (cut limit a) b
cuts_alike limit a b fits = alike_within (suc (length a)) limit a b (omega arith) fits

pieces_alike : (limit : ℕ) (a : List ℕ) (pieces : List (List ℕ)) → IsBytes (a ++ concat pieces) → more_pieces limit (cut limit a) pieces ≡ cut limit (a ++ concat pieces)
pieces_alike limit a [] fits = ap (cut limit) (sym (append-nil a))
pieces_alike limit a (b ∷ bs) fits =
    let regrouped : a ++ (b ++ concat bs) ≡ (a ++ b) ++ concat bs = sym (append_assoc a b (concat bs)) in
    let all : IsBytes ((a ++ b) ++ concat bs) = subst IsBytes regrouped fits in
    ap (λ (c : Cut). more_pieces limit c bs) (sym (cuts_alike limit a b (IsBytes-front (a ++ b) (concat bs) all))) ∙ pieces_alike limit (a ++ b) bs all ∙ ap (cut limit) (sym regrouped)

pub any_pieces : AnyPieces
any_pieces limit pieces fits = pieces_alike limit [] pieces fits

pub one_front : OneFront
one_front a b x y p q s t e =
    let first : packet_at (a ++ x) ≡ Ok (Some (p, x)) = packet_again a x p s in
    let second : packet_at (a ++ x) ≡ Ok (Some (q, y)) = ap packet_at e ∙ packet_again b y q t in
    let same : (p, x) ≡ (q, y) = same_Some (p, x) (q, y) (ok_is (Some (p, x)) (Some (q, y)) (sym first ∙ second)) in
    (ap (λ (z : Packet × List ℕ). z.1) same, ap (λ (z : Packet × List ℕ). z.0) same)
