-- What is cut of a stream doesn't depend on how it came in pieces.
use Rattle.std.proofs.Common.{◌≡◌, ℕ, zero, suc, ◌+◌, ◌-◌, ◌*◌, ◌<◌, ◌≤◌, Bool, true, false, cond, ltb, eqb, List, [], ◌∷◌, ◌++◌, length, take, drop, Result, Ok, Err, refl, sym, ap, subst, ◌∙◌, append_assoc, arith}
use Rattle.std.proofs.lemmas.Bool.{ltb-false, le-ltb}
use Rattle.std.proofs.lemmas.List.{append-nil, length-append, length-drop, length-take, take-append-le, drop-append-le, take-append-drop}
use Rattle.std.specs.List.{AllByRecursion, concat}
use Rattle.mqtt_fields.specs.declared.fault.FieldFault.{FieldFault}
use Rattle.mqtt_fields.specs.declared.fault.FieldFault.TheVariants as fields
use Rattle.mqtt_fields.specs.Reading.{◌>>=◌}
use Rattle.mqtt_fields.specs.Field.{IsBytes, IsGrown}
use Rattle.mqtt_fields.specs.Numbers.{group_at, vbi}
use Rattle.mqtt_fields.proofs.Laws.{IsBytes-after, bind_ok, guard_ok, guard_passed, ok_is}
use Rattle.std.proofs.Math.Seq.{take-append-add}
use Rattle.mqtt_fields.proofs.NumberLaws.{vbi_is}
use Rattle.mqtt_fields.proofs.SteadyLaws.{vbi_steady}
use Rattle.mqtt_bounds.specs.declared.cut.End.{End}
use Rattle.mqtt_bounds.specs.declared.cut.End.TheVariants as ends
use Rattle.mqtt_bounds.specs.declared.front.Front.{Front}
use Rattle.mqtt_bounds.specs.declared.front.Front.TheVariants as fronts
use Rattle.mqtt_bounds.specs.PieceLaws.{AnyPieces, CutIsWhole, IsCut, IsPacket, more, more_at, more_pieces}
use Rattle.mqtt_bounds.specs.Pieces.{Cut, IsUpTo, before, cut, cut_by, cut_within, ends_at, front_at, front_by, front_with}

-- ---- a length that is read leaves fewer bytes

abbrev high_of : ℕ → ℕ × List ℕ → Result (ℕ × List ℕ) FieldFault
high_of b high = cond (eqb high.0 0) (Err fields.Malformed) (Ok (b - 128 + 128 * high.0, high.1))

last_left : (b : ℕ) (bs : List ℕ) (t : Bool) (x : ℕ × List ℕ) → cond t (Ok (b, bs)) (Err fields.Malformed) ≡ Ok x → length x.1 ≤ length bs
last_left b bs true x e = let same : (b, bs) ≡ x = ok_is (b, bs) x e in subst (λ (y : ℕ × List ℕ). length y.1 ≤ length bs) same (omega arith)
last_left b bs false x e = absurd cc

high_left : (b : ℕ) (bs : List ℕ) (high x : ℕ × List ℕ) (t : Bool) → length high.1 ≤ length bs → cond t (Err fields.Malformed) (Ok (b - 128 + 128 * high.0, high.1)) ≡ Ok x → length x.1 ≤ length bs
high_left b bs high x true le e = absurd cc
high_left b bs high x false le e =
    let made : ℕ × List ℕ = (b - 128 + 128 * high.0, high.1) in
    let same : made ≡ x = ok_is made x e in
    subst (λ (y : ℕ × List ℕ). length y.1 ≤ length bs) same le

group_case : (b : ℕ) (bs : List ℕ) (t : Bool) (r : Result (ℕ × List ℕ) FieldFault) (x : ℕ × List ℕ) → ((y : ℕ × List ℕ) → r ≡ Ok y → length y.1 ≤ length bs)
    → cond t (Ok (b, bs)) (r >>= high_of b) ≡ Ok x → length x.1 ≤ length bs
group_case b bs true r x within e = let same : (b, bs) ≡ x = ok_is (b, bs) x e in subst (λ (y : ℕ × List ℕ). length y.1 ≤ length bs) same (omega arith)
group_case b bs false r x within e =
    let a = bind_ok r (high_of b) x e in
    high_left b bs a.0 x (eqb a.0.0 0) (within a.0 a.1) a.2

group_left : (k : ℕ) (bs : List ℕ) (x : ℕ × List ℕ) → group_at k bs ≡ Ok x → length x.1 ≤ length bs
group_left zero [] x e = absurd cc
group_left (suc k) [] x e = absurd cc
group_left zero (b ∷ bs) x e = let le = last_left b bs (ltb b 128) x e in omega arith
group_left (suc k) (b ∷ bs) x e = let le = group_case b bs (ltb b 128) (group_at k bs) x (λ y s. group_left k bs y s) e in omega arith

vbi_left : (bs : List ℕ) (x : ℕ × List ℕ) → vbi.at bs ≡ Ok x → length x.1 ≤ length bs
vbi_left bs x e = group_left 3 bs x e

-- ---- what stands in front

same_whole : (m n : ℕ) → fronts.Whole m ≡ fronts.Whole n → m ≡ n
same_whole m n e = cc

with_case : (limit there total used : ℕ) (s t : Bool) → ltb limit total ≡ s → ltb there total ≡ t → cond s fronts.TooLong (cond t fronts.Waits (fronts.Whole total)) ≡ fronts.Whole used
    → (total ≡ used) × (total ≤ limit) × (total ≤ there)
with_case limit there total used true t p q e = absurd cc
with_case limit there total used false true p q e = absurd cc
with_case limit there total used false false p q e = (same_whole total used e, ltb-false limit total p, ltb-false there total q)

with_whole : (limit there total used : ℕ) → front_with limit there total ≡ fronts.Whole used → (total ≡ used) × (total ≤ limit) × (total ≤ there)
with_whole limit there total used e = with_case limit there total used (ltb limit total) (ltb there total) refl refl e

by_whole : (limit there used : ℕ) (bs : List ℕ) (r : Result (ℕ × List ℕ) FieldFault) → ((x : ℕ × List ℕ) → r ≡ Ok x → length x.1 ≤ length bs) → there ≡ suc (length bs)
    → front_by limit there r ≡ fronts.Whole used → (1 ≤ used) × (used ≤ limit) × (used ≤ there)
by_whole limit there used bs (Ok n) left is e =
    let le = left n refl in
    let w = with_whole limit there (there - length n.1 + n.0) used e in
    (omega (arith, w.0, le, is), omega (arith, w.0, w.1), omega (arith, w.0, w.2))
by_whole limit there used bs (Err fields.Short) left is e = absurd cc
by_whole limit there used bs (Err fields.Malformed) left is e = absurd cc
by_whole limit there used bs (Err fields.Repeated) left is e = absurd cc
by_whole limit there used bs (Err fields.NotHere) left is e = absurd cc
by_whole limit there used bs (Err fields.NoMemory) left is e = absurd cc

pub front_whole : (limit : ℕ) (bs : List ℕ) (used : ℕ) → front_at limit bs ≡ fronts.Whole used → (1 ≤ used) × (used ≤ limit) × (used ≤ length bs)
unfolding front_at
front_whole limit [] used e = absurd cc
front_whole limit (b ∷ bs) used e = by_whole limit (suc (length bs)) used bs (vbi.at bs) (vbi_left bs) refl e

-- what stands there stays, whatever comes behind it; unless more bytes were awaited
unfoldable Stays : Front → Front → Type 0
Stays fronts.Waits longer = Unit {0}
Stays (fronts.Whole used) longer = longer ≡ fronts.Whole used
Stays fronts.TooLong longer = longer ≡ fronts.TooLong
Stays fronts.Broken longer = longer ≡ fronts.Broken

with_stays : (limit there more total : ℕ) (s t : Bool) → ltb limit total ≡ s → ltb there total ≡ t → Stays (cond s fronts.TooLong (cond t fronts.Waits (fronts.Whole total))) (front_with limit (there + more) total)
unfolding Stays
with_stays limit there more total true t p q = rw p refl
with_stays limit there more total false true p q = tt
with_stays limit there more total false false p q =
    let le : total ≤ there = ltb-false there total q in
    let still : ltb (there + more) total ≡ false = le-ltb (there + more) total (omega arith) in
    rw (p, still) refl

by_stays : (limit : ℕ) (bs b : List ℕ) (r longer : Result (ℕ × List ℕ) FieldFault) → ((x : ℕ × List ℕ) → r ≡ Ok x → length x.1 ≤ length bs) → IsGrown b r longer
    → Stays (front_by limit (suc (length bs)) r) (front_by limit (suc (length (bs ++ b))) longer)
by_stays limit bs b (Ok n) longer left g =
    let le = left n refl in
    let there : suc (length (bs ++ b)) ≡ suc (length bs) + length b = omega (arith, length-append bs b) in
    let total : suc (length (bs ++ b)) - length (n.1 ++ b) + n.0 ≡ suc (length bs) - length n.1 + n.0 = omega (arith, length-append bs b, length-append n.1 b, le) in
    rw g (rw (total, there) (with_stays limit (suc (length bs)) (length b) (suc (length bs) - length n.1 + n.0) (ltb limit (suc (length bs) - length n.1 + n.0)) (ltb (suc (length bs)) (suc (length bs) - length n.1 + n.0)) refl refl))
by_stays limit bs b (Err fields.Short) longer left g = unfold Stays in tt
by_stays limit bs b (Err fields.Malformed) longer left g = unfold Stays in rw g refl
by_stays limit bs b (Err fields.Repeated) longer left g = unfold Stays in rw g refl
by_stays limit bs b (Err fields.NotHere) longer left g = unfold Stays in rw g refl
by_stays limit bs b (Err fields.NoMemory) longer left g = unfold Stays in rw g refl

front_stays : (limit : ℕ) (bs b : List ℕ) → Stays (front_at limit bs) (front_at limit (bs ++ b))
unfolding front_at
front_stays limit [] b = unfold Stays in tt
front_stays limit (x ∷ bs) b = by_stays limit bs b (vbi.at bs) (vbi.at (bs ++ b)) (vbi_left bs) (vbi_steady bs b)

-- ---- one packet after another

cut_same : (limit k j : ℕ) (bs : List ℕ) (f : Front) → ((used : ℕ) → f ≡ fronts.Whole used → cut_within limit k (drop used bs) ≡ cut_within limit j (drop used bs))
    → cut_by bs (λ rest. cut_within limit k rest) f ≡ cut_by bs (λ rest. cut_within limit j rest) f
cut_same limit k j bs fronts.Waits next = refl
cut_same limit k j bs (fronts.Whole used) next = ap (before (take used bs ∷ [])) (next used refl)
cut_same limit k j bs fronts.TooLong next = refl
cut_same limit k j bs fronts.Broken next = refl

enough : (limit k j : ℕ) (bs : List ℕ) → length bs < k → length bs < j → cut_within limit k bs ≡ cut_within limit j bs
unfolding cut_within
enough limit zero j bs lk lj = absurd (omega arith)
enough limit (suc k) zero bs lk lj = absurd (omega arith)
enough limit (suc k) (suc j) bs lk lj = cut_same limit k j bs (front_at limit bs)
    (λ used e. let w = front_whole limit bs used e in
    enough limit k j (drop used bs) (omega (arith, w.0, w.2, length-drop used bs)) (omega (arith, w.0, w.2, length-drop used bs)))

pub cut_whole : (limit : ℕ) (bs : List ℕ) (used : ℕ) → front_at limit bs ≡ fronts.Whole used → cut limit bs ≡ before (take used bs ∷ []) (cut limit (drop used bs))
unfolding cut_within
cut_whole limit bs used e =
    let w = front_whole limit bs used e in
    rw e (ap (before (take used bs ∷ [])) (enough limit (length bs) (suc (length (drop used bs))) (drop used bs) (omega (arith, w.0, w.2, length-drop used bs)) (omega arith)))

pub cut_waits : (limit : ℕ) (bs : List ℕ) → front_at limit bs ≡ fronts.Waits → cut limit bs ≡ ends_at ends.Open bs
unfolding cut_within
cut_waits limit bs e = rw e refl

pub cut_long : (limit : ℕ) (bs : List ℕ) → front_at limit bs ≡ fronts.TooLong → cut limit bs ≡ ends_at ends.TooLong bs
unfolding cut_within
cut_long limit bs e = rw e refl

pub cut_broken : (limit : ℕ) (bs : List ℕ) → front_at limit bs ≡ fronts.Broken → cut limit bs ≡ ends_at ends.Broken bs
unfolding cut_within
cut_broken limit bs e = rw e refl

-- ---- as the bytes are read

pub front_read : (limit used n there : ℕ) (bs : List ℕ) (r : Result (ℕ × List ℕ) FieldFault) → r ≡ Ok (n, drop used bs) → used ≤ length bs → there ≡ suc (length bs)
    → front_by limit there r ≡ front_with limit there (1 + used + n)
front_read limit used n there bs r e le is =
    let left : there - length (drop used bs) + n ≡ 1 + used + n = omega (arith, length-drop used bs, le, is) in
    ap (front_by limit there) e ∙ ap (front_with limit there) left

pub more_cut : (limit used : ℕ) (ps : List (List ℕ)) (bs : List ℕ) (total : Cut) → front_at limit bs ≡ fronts.Whole used → total ≡ before ps (cut limit bs)
    → total ≡ before (ps ++ take used bs ∷ []) (cut limit (drop used bs))
more_cut limit used ps bs total e so_far =
    let c = cut limit (drop used bs) in
    so_far ∙ ap (before ps) (cut_whole limit bs used e) ∙ ap (λ (qs : List (List ℕ)). record { packets = qs; rest = c.rest; end = c.end }) (sym (append_assoc ps (take used bs ∷ []) c.packets))

pub loop_more : (limit used : ℕ) (ps qs : List (List ℕ)) (bs x rest : List ℕ) (total : Cut) → front_at limit bs ≡ fronts.Whole used → total ≡ before ps (cut limit bs) → x ≡ take used bs → rest ≡ drop used bs
    → qs ≡ ps ++ x ∷ [] → total ≡ before qs (cut limit rest)
loop_more limit used ps qs bs x rest total e so_far front back more =
    let m = more_cut limit used ps bs total e so_far in
    rw (more, front, back) m

ends_so : (end : End) (limit : ℕ) (ps : List (List ℕ)) (bs : List ℕ) (total : Cut) → cut limit bs ≡ ends_at end bs → total ≡ before ps (cut limit bs)
    → total ≡ record { packets = ps; rest = bs; end = end }
ends_so end limit ps bs total e so_far =
    so_far ∙ ap (before ps) e ∙ ap (λ (qs : List (List ℕ)). record { packets = qs; rest = bs; end = end }) (append-nil ps)

pub waits_cut : (limit : ℕ) (ps : List (List ℕ)) (bs : List ℕ) (total : Cut) → front_at limit bs ≡ fronts.Waits → total ≡ before ps (cut limit bs) → total ≡ record { packets = ps; rest = bs; end = ends.Open }
waits_cut limit ps bs total e so_far = ends_so ends.Open limit ps bs total (cut_waits limit bs e) so_far

pub long_cut : (limit : ℕ) (ps : List (List ℕ)) (bs : List ℕ) (total : Cut) → front_at limit bs ≡ fronts.TooLong → total ≡ before ps (cut limit bs) → total ≡ record { packets = ps; rest = bs; end = ends.TooLong }
long_cut limit ps bs total e so_far = ends_so ends.TooLong limit ps bs total (cut_long limit bs e) so_far

pub broken_cut : (limit : ℕ) (ps : List (List ℕ)) (bs : List ℕ) (total : Cut) → front_at limit bs ≡ fronts.Broken → total ≡ before ps (cut limit bs) → total ≡ record { packets = ps; rest = bs; end = ends.Broken }
broken_cut limit ps bs total e so_far = ends_so ends.Broken limit ps bs total (cut_broken limit bs e) so_far

-- ---- pieces

before_more : (limit : ℕ) (p : List ℕ) (ps : List (List ℕ)) (rest b : List ℕ) (end : End) → more_at limit (p ∷ ps) rest end b ≡ before (p ∷ []) (more_at limit ps rest end b)
before_more limit p ps rest b ends.Open = refl
before_more limit p ps rest b ends.TooLong = refl
before_more limit p ps rest b ends.Broken = refl

alike_case : (limit : ℕ) (a b : List ℕ) (f : Front) → front_at limit a ≡ f → Stays f (front_at limit (a ++ b))
    → ((used : ℕ) → f ≡ fronts.Whole used → cut limit (drop used a ++ b) ≡ more limit (cut limit (drop used a)) b)
    → cut limit (a ++ b) ≡ more limit (cut limit a) b
unfolding Stays
alike_case limit a b fronts.Waits e g next = sym (ap (λ (c : Cut). more limit c b) (cut_waits limit a e))
alike_case limit a b fronts.TooLong e g next = cut_long limit (a ++ b) g ∙ sym (ap (λ (c : Cut). more limit c b) (cut_long limit a e))
alike_case limit a b fronts.Broken e g next = cut_broken limit (a ++ b) g ∙ sym (ap (λ (c : Cut). more limit c b) (cut_broken limit a e))
alike_case limit a b (fronts.Whole used) e g next =
    let w = front_whole limit a used e in
    let front : take used (a ++ b) ≡ take used a = take-append-le used a b w.2 in
    let back : drop used (a ++ b) ≡ drop used a ++ b = drop-append-le used a b w.2 in
    let c = cut limit (drop used a) in
    let split : cut limit (a ++ b) ≡ before (take used (a ++ b) ∷ []) (cut limit (drop used (a ++ b))) = cut_whole limit (a ++ b) used g in
    let kept : before (take used (a ++ b) ∷ []) (cut limit (drop used (a ++ b))) ≡ before (take used a ∷ []) (cut limit (drop used a ++ b)) = rw (front, back) refl in
    split ∙ kept ∙ ap (before (take used a ∷ [])) (next used refl) ∙ sym (before_more limit (take used a) c.packets c.rest b c.end)
    ∙ sym (ap (λ (d : Cut). more limit d b) (cut_whole limit a used e))

alike_within : (n limit : ℕ) (a b : List ℕ) → length a < n → cut limit (a ++ b) ≡ more limit (cut limit a) b
alike_within zero limit a b lt = absurd (omega arith)
alike_within (suc n) limit a b lt = alike_case limit a b (front_at limit a) refl (front_stays limit a b)
    (λ used e. let w = front_whole limit a used e in alike_within n limit (drop used a) b (omega (arith, w.0, w.2, length-drop used a)))

-- it doesn't matter where a stream is cut in two
pub cuts_alike : (limit : ℕ) (a b : List ℕ) → cut limit (a ++ b) ≡ more limit (cut limit a) b
cuts_alike limit a b = alike_within (suc (length a)) limit a b (omega arith)

pieces_alike : (limit : ℕ) (a : List ℕ) (pieces : List (List ℕ)) → more_pieces limit (cut limit a) pieces ≡ cut limit (a ++ concat pieces)
pieces_alike limit a [] = ap (cut limit) (sym (append-nil a))
pieces_alike limit a (b ∷ bs) =
    ap (λ (c : Cut). more_pieces limit c bs) (sym (cuts_alike limit a b)) ∙ pieces_alike limit (a ++ b) bs ∙ ap (cut limit) (append_assoc a b (concat bs))

pub any_pieces : AnyPieces
any_pieces limit pieces = pieces_alike limit [] pieces

-- ---- the parts are the stream

part_by : (limit used x : ℕ) (bs : List ℕ) (r : Result (ℕ × List ℕ) FieldFault) → IsBytes bs → vbi.at bs ≡ r → front_by limit (suc (length bs)) r ≡ fronts.Whole used
    → length (take used (x ∷ bs)) ≤ limit → IsPacket limit (take used (x ∷ bs))
part_by limit used x bs (Err fields.Short) fits e f short = absurd cc
part_by limit used x bs (Err fields.Malformed) fits e f short = absurd cc
part_by limit used x bs (Err fields.Repeated) fits e f short = absurd cc
part_by limit used x bs (Err fields.NotHere) fits e f short = absurd cc
part_by limit used x bs (Err fields.NoMemory) fits e f short = absurd cc
part_by limit used x bs (Ok n) fits e f short =
    let t = vbi_is.takes bs n fits e in
    let w = with_whole limit (suc (length bs)) (suc (length bs) - length n.1 + n.0) used f in
    let len : length bs ≡ length (vbi.bytes n.0) + length n.1 = ap length t.0 ∙ length-append (vbi.bytes n.0) n.1 in
    let is : used ≡ suc (length (vbi.bytes n.0) + n.0) = omega (arith, len, w.0) in
    let enough : n.0 ≤ length n.1 = omega (arith, is, w.0, w.2, len) in
    let inside : length (take n.0 n.1) ≡ n.0 = omega (arith, length-take n.0 n.1, enough) in
    let front : take (length (vbi.bytes n.0) + n.0) bs ≡ vbi.bytes n.0 ++ take n.0 n.1 =
    ap (take (length (vbi.bytes n.0) + n.0)) t.0 ∙ take-append-add (vbi.bytes n.0) n.1 n.0 in
    let made : vbi.bytes n.0 ++ take n.0 n.1 ≡ vbi.bytes (length (take n.0 n.1)) ++ take n.0 n.1 = ap (λ (k : ℕ). vbi.bytes k ++ take n.0 n.1) (sym inside) in
    record {
      first = x;
      inside = take n.0 n.1;
      whole = ap (λ (k : ℕ). take k (x ∷ bs)) is ∙ ap (λ (ys : List ℕ). x ∷ ys) (front ∙ made);
      short = short;
    }

part : (limit : ℕ) (bs : List ℕ) (used : ℕ) → IsBytes bs → front_at limit bs ≡ fronts.Whole used → IsPacket limit (take used bs)
unfolding front_at
part limit [] used fits e = absurd cc
part limit (x ∷ bs) used fits e =
    let w = by_whole limit (suc (length bs)) used bs (vbi.at bs) (vbi_left bs) refl e in
    let short : length (take used (x ∷ bs)) ≤ limit = omega (arith, length-take used (x ∷ bs), w.1) in
    part_by limit used x bs (vbi.at bs) (λ i. fits (suc i)) refl e short

whole_case : (limit : ℕ) (bs : List ℕ) (f : Front) (next : List ℕ → Cut) → IsBytes bs → front_at limit bs ≡ f → ((used : ℕ) → f ≡ fronts.Whole used → IsCut limit (drop used bs) (next (drop used bs)))
    → IsCut limit bs (cut_by bs next f)
whole_case limit bs fronts.Waits next fits e rest = record { whole = refl; packets = tt; ends = e }
whole_case limit bs fronts.TooLong next fits e rest = record { whole = refl; packets = tt; ends = e }
whole_case limit bs fronts.Broken next fits e rest = record { whole = refl; packets = tt; ends = e }
whole_case limit bs (fronts.Whole used) next fits e rest =
    let r = rest used refl in
    let c = next (drop used bs) in
    record {
      whole = sym (take-append-drop used bs) ∙ ap (λ (ys : List ℕ). take used bs ++ ys) r.whole ∙ sym (append_assoc (take used bs) (concat c.packets) c.rest);
      packets = (part limit bs used fits e, r.packets);
      ends = r.ends;
    }

behind : (bs : List ℕ) (used : ℕ) → IsBytes bs → IsBytes (drop used bs)
behind bs used fits = IsBytes-after bs (take used bs) (drop used bs) fits (sym (take-append-drop used bs))

whole_within : (n limit : ℕ) (bs : List ℕ) → IsBytes bs → length bs < n → IsCut limit bs (cut_within limit n bs)
unfolding cut_within
whole_within zero limit bs fits lt = absurd (omega arith)
whole_within (suc n) limit bs fits lt = whole_case limit bs (front_at limit bs) (λ rest. cut_within limit n rest) fits refl
    (λ used e. let w = front_whole limit bs used e in whole_within n limit (drop used bs) (behind bs used fits) (omega (arith, w.0, w.2, length-drop used bs)))

pub cut_is_whole : CutIsWhole
cut_is_whole limit stream fits = whole_within (suc (length stream)) limit stream fits (omega arith)
