-- One field after another, as long as there are bytes.
use Rattle.std.proofs.Common.{◌≡◌, ℕ, zero, suc, ◌+◌, ◌-◌, ◌<◌, ◌≤◌, List, [], ◌∷◌, ◌++◌, length, get_or, Result, Ok, Err, refl, sym, ap, subst, ◌∙◌, append_assoc, arith}
use Rattle.std.specs.Prelude.{flat_map}
use Rattle.std.specs.List.{AllByRecursion}
use Rattle.std.proofs.lemmas.List.{append-nil, length-append}
use Rattle.std.proofs.lemmas.List.Concat.{flat_map-cons}
use Rattle.mqtt_fields.specs.Reading.{◌>>=◌}
use Rattle.mqtt_fields.specs.Field.{Field}
use Rattle.mqtt_fields.proofs.Laws.{IsBytes, IsBytes-after, IsField, bind_ok, ok_is}
use Rattle.mqtt_packets.specs.declared.fault.PacketFault.{PacketFault}
use Rattle.mqtt_packets.specs.declared.fault.PacketFault.TheVariants as faults
use Rattle.mqtt_packets.specs.Reading.{Fails, field_at}
use Rattle.mqtt_packets.specs.Body.{Body, many_at, many}
use Rattle.mqtt_packets.proofs.BodyLaws.{IsBody, field_ok}

-- a field that takes at least one byte
pub record IsLong {A : Type 0} (f : Field A) : Type 0 where
  pub field : IsField f
  pub long : (a : A) → 0 < length (f.bytes a)

pub taken : {A : Type 0} (f : Field A) → IsLong f → (bs : List ℕ) (x : A × List ℕ) → IsBytes bs → field_at f bs ≡ Ok x → (bs ≡ f.bytes x.0 ++ x.1) × f.Fits x.0
taken f F bs x fits e = F.field.takes bs x fits (field_ok (f.at bs) x e)

pub rest_fits : {A : Type 0} (f : Field A) → IsLong f → (bs : List ℕ) (x : A × List ℕ) → IsBytes bs → field_at f bs ≡ Ok x → IsBytes x.1
rest_fits f F bs x fits e = IsBytes-after bs (f.bytes x.0) x.1 fits (taken f F bs x fits e).0

pub shorter : {A : Type 0} (f : Field A) → IsLong f → (bs : List ℕ) (x : A × List ℕ) → IsBytes bs → field_at f bs ≡ Ok x → length x.1 < length bs
shorter f F bs x fits e =
    let t = taken f F bs x fits e in
    let some = F.long x.0 in
    let len : length bs ≡ length (f.bytes x.0) + length x.1 = ap length t.0 ∙ length-append (f.bytes x.0) x.1 in
    omega arith

-- fuel beyond the length changes nothing
enough_step : {A : Type 0} (f : Field A) (F : IsLong f) (k j : ℕ) (before : List A) (b : ℕ) (bs : List ℕ) (r : Result (A × List ℕ) PacketFault) → IsBytes (b ∷ bs) → field_at f (b ∷ bs) ≡ r
    → ((a : A × List ℕ) → IsBytes a.1 → length a.1 ≤ length bs → many_at f k (before ++ a.0 ∷ []) a.1 ≡ many_at f j (before ++ a.0 ∷ []) a.1)
    → (r >>= λ a. many_at f k (before ++ a.0 ∷ []) a.1) ≡ (r >>= λ a. many_at f j (before ++ a.0 ∷ []) a.1)
enough_step f F k j before b bs (Err d) fits e next = refl
enough_step f F k j before b bs (Ok a) fits e next =
    let lt = shorter f F (b ∷ bs) a fits e in
    next a (rest_fits f F (b ∷ bs) a fits e) (omega arith)

enough : {A : Type 0} (f : Field A) (F : IsLong f) (k j : ℕ) (before : List A) (bs : List ℕ) → IsBytes bs → length bs ≤ k → length bs ≤ j → many_at f k before bs ≡ many_at f j before bs
unfolding many_at
enough f F zero zero before bs fits lk lj = refl
enough f F zero (suc j) before [] fits lk lj = refl
enough f F zero (suc j) before (b ∷ bs) fits lk lj = absurd (omega arith)
enough f F (suc k) zero before [] fits lk lj = refl
enough f F (suc k) zero before (b ∷ bs) fits lk lj = absurd (omega arith)
enough f F (suc k) (suc j) before [] fits lk lj = refl
enough f F (suc k) (suc j) before (b ∷ bs) fits lk lj = enough_step f F k j before b bs (field_at f (b ∷ bs)) fits refl (λ a h le. enough f F k j (before ++ a.0 ∷ []) a.1 h (omega arith) (omega arith))

-- a step of the loop
pub goes_on : {A : Type 0} (f : Field A) (F : IsLong f) (before : List A) (bs : List ℕ) (a : A × List ℕ) → IsBytes bs → 0 < length bs → field_at f bs ≡ Ok a
    → many_at f (length bs) before bs ≡ many_at f (length a.1) (before ++ a.0 ∷ []) a.1
unfolding many_at
goes_on f F before [] a fits lt e = absurd (omega arith)
goes_on f F before (b ∷ bs) a fits lt e =
    let less = shorter f F (b ∷ bs) a fits e in
    rw e (enough f F (length bs) (length a.1) (before ++ a.0 ∷ []) a.1 (rest_fits f F (b ∷ bs) a fits e) (omega arith) (omega arith))

faulty : {A : Type 0} (f : Field A) (before : List A) (bs : List ℕ) (d : PacketFault) → 0 < length bs → field_at f bs ≡ Err d → many_at f (length bs) before bs ≡ Err d
unfolding many_at
faulty f before [] d lt e = absurd (omega arith)
faulty f before (b ∷ bs) d lt e = rw e refl

pub stops : {A : Type 0} (f : Field A) (before : List A) (bs : List ℕ) (d : PacketFault) (total : Result (List A) PacketFault) → 0 < length bs → Fails d (field_at f bs)
    → many_at f (length bs) before bs ≡ total → Fails d total
stops f before bs faults.NoMemory total lt e so_far = tt
stops f before bs faults.Malformed total lt e so_far = sym so_far ∙ faulty f before bs faults.Malformed lt e
stops f before bs faults.ProtocolError total lt e so_far = sym so_far ∙ faulty f before bs faults.ProtocolError lt e
stops f before bs faults.TooLarge total lt e so_far = sym so_far ∙ faulty f before bs faults.TooLarge lt e
stops f before bs faults.WrongVersion total lt e so_far = sym so_far ∙ faulty f before bs faults.WrongVersion lt e

pub ends : {A : Type 0} (f : Field A) (before : List A) (bs : List ℕ) → length bs ≡ 0 → many_at f (length bs) before bs ≡ Ok before
unfolding many_at
ends f before [] e = refl
ends f before (b ∷ bs) e = absurd (omega arith)

many_take : {A : Type 0} (f : Field A) (F : IsLong f) (k : ℕ) (before : List A) (bs : List ℕ) (xs : List A) → IsBytes bs → many_at f k before bs ≡ Ok xs
    → (more : List A) × (xs ≡ before ++ more) × (bs ≡ flat_map f.bytes more) × AllByRecursion f.Fits more
unfolding many_at
many_take f F zero before [] xs fits e = ([], sym (ok_is before xs e) ∙ sym (append-nil before), refl, tt)
many_take f F (suc k) before [] xs fits e = ([], sym (ok_is before xs e) ∙ sym (append-nil before), refl, tt)
many_take f F zero before (b ∷ bs) xs fits e = absurd cc
many_take f F (suc k) before (b ∷ bs) xs fits e =
    let a = bind_ok (field_at f (b ∷ bs)) (λ a. many_at f k (before ++ a.0 ∷ []) a.1) xs e in
    let t = taken f F (b ∷ bs) a.0 fits a.1 in
    let m = many_take f F k (before ++ a.0.0 ∷ []) a.0.1 xs (rest_fits f F (b ∷ bs) a.0 fits a.1) a.2 in
    (a.0.0 ∷ m.0, m.1 ∙ append_assoc before (a.0.0 ∷ []) m.0, t.0 ∙ ap (λ (r : List ℕ). f.bytes a.0.0 ++ r) m.2 ∙ sym (flat_map-cons f.bytes a.0.0 m.0), (t.1, m.3))

next_is : {A : Type 0} (f : Field A) (F : IsLong f) (k : ℕ) (before : List A) (a : A) (more bs : List ℕ) → f.Fits a → bs ≡ f.bytes a ++ more → 0 < length bs → many_at f (suc k) before bs ≡ many_at f k (before ++ a ∷ []) more
unfolding many_at
next_is f F k before a more [] fits e lt = absurd (omega arith)
next_is f F k before a more (b ∷ bs) fits e lt =
    let again : f.at (b ∷ bs) ≡ Ok (a, more) = ap f.at e ∙ F.field.again a more fits in
    rw again refl

many_again : {A : Type 0} (f : Field A) (F : IsLong f) (k : ℕ) (before xs : List A) → AllByRecursion f.Fits xs → length (flat_map f.bytes xs) ≤ k → many_at f k before (flat_map f.bytes xs) ≡ Ok (before ++ xs)
many_again f F zero before [] fits le = unfold many_at in ap (λ (x : _). Ok x) (sym (append-nil before))
many_again f F (suc k) before [] fits le = unfold many_at in ap (λ (x : _). Ok x) (sym (append-nil before))
many_again f F zero before (x ∷ xs) fits le =
    let some = F.long x in
    let len : length (flat_map f.bytes (x ∷ xs)) ≡ length (f.bytes x) + length (flat_map f.bytes xs) = ap length (flat_map-cons f.bytes x xs) ∙ length-append (f.bytes x) (flat_map f.bytes xs) in
    absurd (omega arith)
many_again f F (suc k) before (x ∷ xs) fits le =
    let some = F.long x in
    let len : length (flat_map f.bytes (x ∷ xs)) ≡ length (f.bytes x) + length (flat_map f.bytes xs) = ap length (flat_map-cons f.bytes x xs) ∙ length-append (f.bytes x) (flat_map f.bytes xs) in
    next_is f F k before x (flat_map f.bytes xs) (flat_map f.bytes (x ∷ xs)) fits.0 (flat_map-cons f.bytes x xs) (omega arith)
    ∙ many_again f F k (before ++ x ∷ []) xs fits.1 (omega arith) ∙ ap (λ (y : _). Ok y) (append_assoc before (x ∷ []) xs)

pub many_is : {A : Type 0} (f : Field A) → IsLong f → IsBody (many f)
many_is {A} f F = record {
  found = λ bs xs fits e.
      let m = many_take f F (length bs) [] bs xs fits e in
      subst (λ (y : List A). (bs ≡ flat_map f.bytes y) × AllByRecursion f.Fits y) (sym m.1) (m.2, m.3);
  reads = λ bs xs h.
      let again : many_at f (length (flat_map f.bytes xs)) [] (flat_map f.bytes xs) ≡ Ok xs = many_again f F (length (flat_map f.bytes xs)) [] xs h.1 (omega arith) in
      ap (λ (ys : List ℕ). many_at f (length ys) [] ys) h.0 ∙ again;
  fits = λ bs xs h. h.1;
  writes = λ xs h. (refl, h);
  shortest = λ bs xs h. omega (arith, ap length h.0);
}
