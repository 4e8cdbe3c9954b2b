-- What the first five bytes of a stream say of the packet in front.
use Rattle.std.proofs.Common.{◌≡◌, ℕ, zero, suc, ◌+◌, ◌-◌, ◌*◌, ◌<◌, ◌≤◌, Bool, true, false, cond, ltb, eqb, List, [], ◌∷◌, ◌++◌, length, take, drop, set, get_or, Option, Some, None, Result, Ok, Err, refl, sym, ap, subst, ◌∙◌, arith, add-one, ◌⊎◌, inl, inr, length-append}
use Rattle.std.specs.Prelude.{IsOk}
use Rattle.std.specs.List.{slice_get}
use Rattle.std.proofs.lemmas.List.{append-nil, take-append-drop, take_more_set, take_all}
use Rattle.std.proofs.lemmas.Option.{slice_get_within, get_or_from_slice_get}
use Rattle.std.proofs.Math.Seq.{take-suc}
use Rattle.mqtt_fields.specs.declared.fault.FieldFault.{FieldFault}
use Rattle.mqtt_fields.specs.declared.fault.FieldFault.TheVariants as fields
use Rattle.mqtt_fields.specs.Reading.{◌>>=◌}
use Rattle.mqtt_fields.specs.Numbers.{vbi, group_at}
use Rattle.mqtt_fields.proofs.Laws.{IsBytes, bind_ok}
use Rattle.mqtt_packets.specs.declared.fault.PacketFault.{PacketFault}
use Rattle.mqtt_packets.specs.declared.fault.PacketFault.TheVariants as faults
use Rattle.mqtt_packets.specs.declared.head.Head.{Head}
use Rattle.mqtt_packets.specs.declared.packet.Packet.{Packet}
use Rattle.mqtt_packets.specs.Head.{head_at}
use Rattle.mqtt_packets.specs.Memory.{HasHeader}
use Rattle.mqtt_packets.specs.Stream.{inside_at, header_after, header_at, limited, step_at, cut}
use Rattle.mqtt_packets.proofs.CutLaws.{limited_ok, cut_err}
use Rattle.mqtt_packets.proofs.GrowLaws.{IsBytes-front, GrownOn, on_header, on_packet, framed, header_grows, header_short, step_grows}

-- ---- five bytes have the whole length, or it can't be

not_short : {A : Type 0} (t : Bool) (x : A) → cond t (Err fields.Malformed) (Ok x) ≡ Err fields.Short → ⊥
not_short true x e = cc
not_short false x e = cc

abbrev high_of : ℕ → ℕ × List ℕ → Result (ℕ × List ℕ) FieldFault
high_of b high = let whole : ℕ × List ℕ = (b - 128 + 128 * high.0, high.1) in cond (eqb high.0 0) (Err fields.Malformed) (Ok whole)

high_short : (b : ℕ) (r : Result (ℕ × List ℕ) FieldFault) → (r >>= high_of b) ≡ Err fields.Short → r ≡ Err fields.Short
high_short b (Err f) e = e
high_short b (Ok high) e = let whole : ℕ × List ℕ = (b - 128 + 128 * high.0, high.1) in absurd (not_short (eqb high.0 0) whole e)

last_short : (t : Bool) (x : ℕ × List ℕ) → cond t (Ok x) (Err fields.Malformed) ≡ Err fields.Short → ⊥
last_short true x e = cc
last_short false x e = cc

more_short : (t : Bool) (x : ℕ × List ℕ) (r : Result (ℕ × List ℕ) FieldFault) → cond t (Ok x) r ≡ Err fields.Short → r ≡ Err fields.Short
more_short true x r e = absurd cc
more_short false x r e = e

group_short : (k : ℕ) (bs : List ℕ) → group_at k bs ≡ Err fields.Short → length bs < suc k
group_short zero [] e = omega arith
group_short (suc k) [] e = omega arith
group_short zero (b ∷ rest) e = let one : ℕ × List ℕ = (b, rest) in absurd (last_short (ltb b 128) one e)
group_short (suc k) (b ∷ rest) e =
    let one : ℕ × List ℕ = (b, rest) in
    let high = high_short b (group_at k rest) (more_short (ltb b 128) one (group_at k rest >>= high_of b) e) in
    let less = group_short k rest high in
    omega arith

inside_none : (r : Result (ℕ × List ℕ) FieldFault) → inside_at r ≡ Ok None → r ≡ Err fields.Short
inside_none (Ok n) e = absurd cc
inside_none (Err fields.Short) e = refl
inside_none (Err fields.Malformed) e = absurd cc
inside_none (Err fields.Repeated) e = absurd cc
inside_none (Err fields.NotHere) e = absurd cc
inside_none (Err fields.NoMemory) e = absurd cc

framed_none : (h : Head) (o : Option (ℕ × List ℕ)) → framed h o ≡ Ok None → o ≡ None
framed_none h None e = refl
framed_none h (Some n) e = absurd cc

after_none : (o : Option Head) (bs : List ℕ) → header_after o bs ≡ Ok None → length bs < 4
after_none None bs e = absurd cc
after_none (Some h) bs e =
    let n = bind_ok (inside_at (vbi.at bs)) (framed h) None e in
    let none : n.0 ≡ None = framed_none h n.0 n.2 in
    group_short 3 bs (inside_none (vbi.at bs) (n.1 ∙ ap (λ (m : Option (ℕ × List ℕ)). Ok m) none))

header_none : (bs : List ℕ) → header_at bs ≡ Ok None → length bs < 5
unfolding header_at
header_none [] e = omega arith
header_none (x ∷ bs) e = let less = after_none (head_at x) bs e in omega arith

limited_none : (limit : ℕ) (bs : List ℕ) → (header_at bs >>= limited limit bs) ≡ Ok None → length bs < 5
limited_none limit bs e =
    let h = bind_ok (header_at bs) (limited limit bs) None e in
    header_none bs (h.1 ∙ ap (λ (m : Option (Head × ℕ × List ℕ)). Ok m) (limited_ok limit bs h.0 None h.2))

-- ---- the bytes at the front

-- one more of them
pub front_more : (xs front : List ℕ) (i b : ℕ) → i < length front → take i front ≡ take i xs → slice_get xs i ≡ Some b → take (i + 1) (set front i b) ≡ take (i + 1) xs
front_more xs front i b lt same got =
    let within : i < length xs = slice_get_within xs i b got in
    let is : get_or xs i b ≡ b = get_or_from_slice_get xs i b b got in
    take_more_set front i b lt ∙ ap (λ (ys : List ℕ). ys ++ b ∷ []) same ∙ ap (λ (y : ℕ). take i xs ++ y ∷ []) (sym is) ∙ sym (take-suc xs i b within) ∙ ap (λ (n : ℕ). take n xs) (sym (add-one i))

none_within : (xs : List ℕ) (i : ℕ) → slice_get xs i ≡ None → length xs ≤ i
none_within [] i e = omega arith
none_within (x ∷ xs) zero e = absurd cc
none_within (x ∷ xs) (suc i) e = let le = none_within xs i e in omega arith

-- all of them
pub front_all : (xs : List ℕ) (i : ℕ) → i ≤ 5 → slice_get xs i ≡ None → take i xs ≡ take 5 xs
front_all xs i le e = let l = none_within xs i e in take_all i xs l ∙ sym (take_all 5 xs (omega arith))

-- ---- more bytes change nothing of it

limit_on : (b : List ℕ) (h : Head × ℕ × List ℕ) (t : Bool) → GrownOn on_header b (cond t (Err faults.TooLarge) (Ok (Some h))) (cond t (Err faults.TooLarge) (Ok (Some (on_header b h))))
limit_on b h true = unfold GrownOn in refl
limit_on b h false = unfold GrownOn in refl

limited_on : (limit : ℕ) (bs b : List ℕ) (r s : Result (Option (Head × ℕ × List ℕ)) PacketFault) → ((h : Head × ℕ × List ℕ) → r ≡ Ok (Some h) → length h.2 ≤ length bs) → GrownOn on_header b r s
    → GrownOn on_header b (r >>= limited limit bs) (s >>= limited limit (bs ++ b))
unfolding GrownOn
limited_on limit bs b (Ok None) s short g = tt
limited_on limit bs b (Err f) s short g = rw g refl
limited_on limit bs b (Ok (Some h)) s short g =
    let le = short h refl in
    let same : length (bs ++ b) - length (h.2 ++ b) + h.1 ≡ length bs - length h.2 + h.1 = omega (arith, length-append bs b, length-append h.2 b) in
    rw (g, same) (limit_on b h (ltb limit (length bs - length h.2 + h.1)))

limited_grows : (limit : ℕ) (bs b : List ℕ) → IsBytes bs → GrownOn on_header b (header_at bs >>= limited limit bs) (header_at (bs ++ b) >>= limited limit (bs ++ b))
limited_grows limit bs b fits = limited_on limit bs b (header_at bs) (header_at (bs ++ b)) (header_short bs fits) (header_grows bs b)

header_case : (limit : ℕ) (a b : List ℕ) (r : Result (Option (Head × ℕ × List ℕ)) PacketFault) → (header_at a >>= limited limit a) ≡ r → GrownOn on_header b r (header_at (a ++ b) >>= limited limit (a ++ b)) → IsOk r → (5 ≤ length a) ⊎ (b ≡ []) → HasHeader limit (a ++ b)
unfolding GrownOn
header_case limit a b (Err f) e g ok long = absurd cc
header_case limit a b (Ok (Some h)) e g ok long = rw g refl
header_case limit a b (Ok None) e g ok (inl long) = let less = limited_none limit a e in absurd (omega arith)
header_case limit a b (Ok None) e g ok (inr nothing) =
    let same : a ≡ a ++ b = sym (append-nil a) ∙ ap (λ (ys : List ℕ). a ++ ys) (sym nothing) in
    subst (HasHeader limit) same (rw e refl)

-- the front is five bytes, or all
front_long : (bs : List ℕ) → (5 ≤ length (take 5 bs)) ⊎ (drop 5 bs ≡ [])
front_long [] = inr refl
front_long (a ∷ []) = inr refl
front_long (a ∷ b ∷ []) = inr refl
front_long (a ∷ b ∷ c ∷ []) = inr refl
front_long (a ∷ b ∷ c ∷ d ∷ []) = inr refl
front_long (a ∷ b ∷ c ∷ d ∷ e ∷ bs) = inl (omega arith)

front_fits : (bs : List ℕ) → IsBytes bs → IsBytes (take 5 bs)
front_fits bs fits = IsBytes-front (take 5 bs) (drop 5 bs) (subst IsBytes (sym (take-append-drop 5 bs)) fits)

pub front_header : (limit : ℕ) (bs front : List ℕ) → IsBytes bs → front ≡ take 5 bs → HasHeader limit front → HasHeader limit bs
front_header limit bs front fits same ok =
    let fits5 = front_fits bs fits in
    let ok5 : HasHeader limit (take 5 bs) = subst (HasHeader limit) same ok in
    subst (HasHeader limit) (take-append-drop 5 bs)
    (header_case limit (take 5 bs) (drop 5 bs) (header_at (take 5 bs) >>= limited limit (take 5 bs)) refl (limited_grows limit (take 5 bs) (drop 5 bs) fits5) ok5 (front_long bs))

fault_case : (limit : ℕ) (a b : List ℕ) (f : PacketFault) (r : Result (Option (Packet × List ℕ)) PacketFault) → r ≡ Err f → GrownOn on_packet b r (step_at limit (a ++ b)) → step_at limit (a ++ b) ≡ Err f
unfolding GrownOn
fault_case limit a b f (Err h) e g = g ∙ e
fault_case limit a b f (Ok None) e g = absurd cc
fault_case limit a b f (Ok (Some x)) e g = absurd cc

pub front_faulty : (limit : ℕ) (bs front : List ℕ) (f : PacketFault) → IsBytes bs → front ≡ take 5 bs → step_at limit front ≡ Err f → cut limit bs ≡ record { packets = []; rest = bs; fault = Some f }
front_faulty limit bs front f fits same e =
    let fits5 = front_fits bs fits in
    let e5 : step_at limit (take 5 bs) ≡ Err f = ap (step_at limit) (sym same) ∙ e in
    let grown : step_at limit (take 5 bs ++ drop 5 bs) ≡ Err f = fault_case limit (take 5 bs) (drop 5 bs) f (step_at limit (take 5 bs)) e5 (step_grows limit (take 5 bs) (drop 5 bs) fits5) in
    cut_err limit bs f (ap (step_at limit) (sym (take-append-drop 5 bs)) ∙ grown)
