-- A version that the first bytes of a client tell stays the same where more come.
use Rattle.std.proofs.Common.{◌≡◌, ℕ, zero, suc, ◌+◌, ◌-◌, ◌<◌, ◌≤◌, Bool, true, false, cond, ltb, List, [], ◌∷◌, ◌++◌, length, take, drop, Option, Some, None, Result, Ok, Err, refl, sym, ap, ◌∙◌, append_assoc, arith, le-ltb, lt-ltb, ltb-false, ltb-true}
use Rattle.std.specs.Prelude.{slice_get, ◌==◌}
use Rattle.std.specs.Str.{bytes_eq}
use Rattle.std.proofs.lemmas.List.{length-append, length-take, take-append-le, take-append-drop, take-take, take_at}
use Rattle.std.proofs.lemmas.Slice.Eq.{bytes_eq-Decides}
use Rattle.mqtt_fields.specs.declared.fault.FieldFault.{FieldFault}
use Rattle.mqtt_fields.specs.declared.fault.FieldFault.TheVariants as fields
use Rattle.mqtt_fields.specs.Field.{IsGrown}
use Rattle.mqtt_fields.specs.Numbers.{vbi}
use Rattle.mqtt_fields.proofs.Laws.{IsBytes, used}
use Rattle.mqtt_fields.proofs.NumberLaws.{vbi_is}
use Rattle.mqtt_fields.proofs.SteadyLaws.{vbi_steady}
use Rattle.mqtt3_packets.specs.Version.{after_length, by_body, mqisdp, mqtt, number_after, number_at, or_mqisdp, or_mqtt, version_of}
use Rattle.mqtt3_packets.specs.declared.version.Version.{Version}
use Rattle.mqtt3_packets.specs.declared.version.Version.TheVariants.{Five}

-- ---- the number behind a name

slice_front : {A : Type 0} (xs ys : List A) (n : ℕ) → n < length xs → slice_get (xs ++ ys) n ≡ slice_get xs n
slice_front [] ys n lt = absurd (omega arith)
slice_front (x ∷ xs) ys zero lt = refl
slice_front (x ∷ xs) ys (suc n) lt = slice_front xs ys n (omega arith)

slice_some : (xs : List ℕ) (n : ℕ) → n < length xs → (d : ℕ) × (slice_get xs n ≡ Some d)
slice_some [] n lt = absurd (omega arith)
slice_some (x ∷ xs) zero lt = (x, refl)
slice_some (x ∷ xs) (suc n) lt = slice_some xs n (omega arith)

-- what stands behind a name, by two tests; another name is what stands in front of 1, and more has to come where nothing is there
abbrev looked : {B : Type 0} → (Option ℕ → B) → B → B → List ℕ → List ℕ → Bool → B
looked at other later name bs t =
    cond t (cond (bytes_eq (take (length name) bs) name) (at (slice_get bs (length name))) other) (cond (bytes_eq (take (length bs) name) bs) later other)

number_is : (name bs : List ℕ) (t : Bool) → ltb (length name) (length bs) ≡ t → number_after name bs ≡ looked number_at (number_after mqtt (1 ∷ [])) (number_after mqtt []) name bs t
unfolding number_after
number_is name bs t e = rw e refl

-- the bytes have a number where the name ends
long_is : (name xs : List ℕ) → length name < length xs
    → (d : ℕ) × (number_after name xs ≡ cond (bytes_eq (take (length name) xs) name) (number_at (Some d)) (number_after mqtt (1 ∷ [])))
long_is name xs lt =
    let one : ltb (length name) (length xs) ≡ true = lt-ltb _ _ lt in
    let d = slice_some xs (length name) lt in
    (d.0, number_is name xs true one ∙ ap (λ (o : Option ℕ). cond (bytes_eq (take (length name) xs) name) (number_at o) (number_after mqtt (1 ∷ []))) d.1)

long_steady : (name xs ys : List ℕ) → length name < length xs → number_after name (xs ++ ys) ≡ number_after name xs
long_steady name xs ys lt =
    let one : ltb (length name) (length xs) ≡ true = lt-ltb _ _ lt in
    let both : ltb (length name) (length (xs ++ ys)) ≡ true = lt-ltb _ _ (omega (arith, length-append xs ys)) in
    let front : take (length name) (xs ++ ys) ≡ take (length name) xs = take-append-le (length name) xs ys (omega arith) in
    let after_it : slice_get (xs ++ ys) (length name) ≡ slice_get xs (length name) = slice_front xs ys (length name) lt in
    number_is name (xs ++ ys) true both
    ∙ ap (λ (zs : List ℕ). cond (bytes_eq zs name) (number_at (slice_get (xs ++ ys) (length name))) (number_after mqtt (1 ∷ []))) front
    ∙ ap (λ (o : Option ℕ). cond (bytes_eq (take (length name) xs) name) (number_at o) (number_after mqtt (1 ∷ []))) after_it
    ∙ sym (number_is name xs true one)

-- other bytes are no beginning of the name
other_case : (b : Bool) → (b ≡ true → ⊥) → b ≡ false
other_case true never = absurd (never refl)
other_case false never = refl

not_true : (b : Bool) → b ≡ false → b ≡ true → ⊥
not_true b e f = cc

front_same : (name xs zs : List ℕ) → length xs ≤ length zs → take (length zs) name ≡ zs → take (length xs) zs ≡ xs → take (length xs) name ≡ xs
front_same name xs zs le e f = sym (take-take (length xs) (length zs) name le) ∙ ap (take (length xs)) e ∙ f

other_long : (name xs ys : List ℕ) → length xs ≤ length name → bytes_eq (take (length xs) name) xs ≡ false → bytes_eq (take (length name) (xs ++ ys)) name ≡ false
other_long name xs ys le other =
    other_case (bytes_eq (take (length name) (xs ++ ys)) name)
    (λ same.
    let whole : take (length name) (xs ++ ys) ≡ name = (bytes_eq-Decides (take (length name) (xs ++ ys)) name).0 same in
    let front : take (length xs) name ≡ xs = ap (take (length xs)) (sym whole) ∙ take-take (length xs) (length name) (xs ++ ys) le ∙ take_at xs ys (length xs) refl in
    not_true (bytes_eq (take (length xs) name) xs) other ((bytes_eq-Decides (take (length xs) name) xs).1 front))

other_short : (name xs ys : List ℕ) → bytes_eq (take (length xs) name) xs ≡ false → bytes_eq (take (length (xs ++ ys)) name) (xs ++ ys) ≡ false
other_short name xs ys other =
    other_case (bytes_eq (take (length (xs ++ ys)) name) (xs ++ ys))
    (λ same.
    let whole : take (length (xs ++ ys)) name ≡ xs ++ ys = (bytes_eq-Decides (take (length (xs ++ ys)) name) (xs ++ ys)).0 same in
    let front : take (length xs) name ≡ xs = front_same name xs (xs ++ ys) (omega (arith, length-append xs ys)) whole (take_at xs ys (length xs) refl) in
    not_true (bytes_eq (take (length xs) name) xs) other ((bytes_eq-Decides (take (length xs) name) xs).1 front))

other_steady : (name xs ys : List ℕ) (t : Bool) → ltb (length name) (length (xs ++ ys)) ≡ t → length xs ≤ length name → bytes_eq (take (length xs) name) xs ≡ false
    → number_after name (xs ++ ys) ≡ number_after mqtt (1 ∷ [])
other_steady name xs ys true e le other =
    number_is name (xs ++ ys) true e ∙ ap (λ (b : Bool). cond b (number_at (slice_get (xs ++ ys) (length name))) (number_after mqtt (1 ∷ []))) (other_long name xs ys le other)
other_steady name xs ys false e le other =
    number_is name (xs ++ ys) false e ∙ ap (λ (b : Bool). cond b (number_after mqtt []) (number_after mqtt (1 ∷ []))) (other_short name xs ys other)

-- the bytes are the beginning of the name, or they aren't
short_is : (name xs : List ℕ) (b : Bool) → ltb (length name) (length xs) ≡ false → bytes_eq (take (length xs) name) xs ≡ b → number_after name xs ≡ cond b (number_after mqtt []) (number_after mqtt (1 ∷ []))
short_is name xs b e f = number_is name xs false e ∙ ap (λ (x : Bool). cond x (number_after mqtt []) (number_after mqtt (1 ∷ []))) f

-- ---- a body

or_other : (m : Bool) → or_mqisdp m (number_after mqtt (1 ∷ [])) ≡ Some Five
unfolding number_after
or_other m = refl

or_later : or_mqisdp true (number_after mqtt []) ≡ None
unfolding number_after
or_later = refl

mqtt_other : (m : Bool) (bs : List ℕ) → or_mqtt m bs (number_after mqtt (1 ∷ [])) ≡ or_mqisdp m (number_after mqisdp bs)
unfolding number_after
mqtt_other m bs = refl

mqtt_later : (bs : List ℕ) → or_mqtt true bs (number_after mqtt []) ≡ None
unfolding number_after
mqtt_later bs = refl

mqisdp_at : (m b : Bool) (d : ℕ) → or_mqisdp m (cond b (number_at (Some d)) (number_after mqtt (1 ∷ []))) ≡ or_mqisdp true (cond b (number_at (Some d)) (number_after mqtt (1 ∷ [])))
mqisdp_at m true d = refl
mqisdp_at m false d = or_other m ∙ sym (or_other true)

mqisdp_short : (xs ys : List ℕ) (v : Version) (m b : Bool) → ltb (length mqisdp) (length xs) ≡ false → bytes_eq (take (length xs) mqisdp) xs ≡ b → or_mqisdp true (number_after mqisdp xs) ≡ Some v
    → or_mqisdp m (number_after mqisdp (xs ++ ys)) ≡ Some v
mqisdp_short xs ys v m true e f h = let nothing : None ≡ Some v = sym (ap (or_mqisdp true) (short_is mqisdp xs true e f) ∙ or_later) ∙ h in absurd cc
mqisdp_short xs ys v m false e f h =
    ap (or_mqisdp m) (other_steady mqisdp xs ys (ltb (length mqisdp) (length (xs ++ ys))) refl (ltb-false _ _ e) f) ∙ or_other m ∙ sym (or_other true) ∙ sym (ap (or_mqisdp true) (short_is mqisdp xs false e f)) ∙ h

mqisdp_case : (xs ys : List ℕ) (v : Version) (m t : Bool) → ltb (length mqisdp) (length xs) ≡ t → or_mqisdp true (number_after mqisdp xs) ≡ Some v → or_mqisdp m (number_after mqisdp (xs ++ ys)) ≡ Some v
mqisdp_case xs ys v m true e h =
    let lt : length mqisdp < length xs = ltb-true _ _ e in
    let d = long_is mqisdp xs lt in
    ap (or_mqisdp m) (long_steady mqisdp xs ys lt ∙ d.1) ∙ mqisdp_at m (bytes_eq (take (length mqisdp) xs) mqisdp) d.0 ∙ sym (ap (or_mqisdp true) d.1) ∙ h
mqisdp_case xs ys v m false e h = mqisdp_short xs ys v m (bytes_eq (take (length xs) mqisdp) xs) e refl h

-- behind another name than "MQTT"
mqisdp_steady : (xs ys : List ℕ) (v : Version) (m : Bool) → or_mqtt true xs (number_after mqtt (1 ∷ [])) ≡ Some v → or_mqtt m (xs ++ ys) (number_after mqtt (1 ∷ [])) ≡ Some v
mqisdp_steady xs ys v m h = mqtt_other m (xs ++ ys) ∙ mqisdp_case xs ys v m (ltb (length mqisdp) (length xs)) refl (sym (mqtt_other true xs) ∙ h)

mqtt_at : (xs ys : List ℕ) (v : Version) (m b : Bool) (d : ℕ) → or_mqtt true xs (cond b (number_at (Some d)) (number_after mqtt (1 ∷ []))) ≡ Some v
    → or_mqtt m (xs ++ ys) (cond b (number_at (Some d)) (number_after mqtt (1 ∷ []))) ≡ Some v
mqtt_at xs ys v m true d h = h
mqtt_at xs ys v m false d h = mqisdp_steady xs ys v m h

mqtt_short : (xs ys : List ℕ) (v : Version) (m b : Bool) → ltb (length mqtt) (length xs) ≡ false → bytes_eq (take (length xs) mqtt) xs ≡ b → or_mqtt true xs (number_after mqtt xs) ≡ Some v
    → or_mqtt m (xs ++ ys) (number_after mqtt (xs ++ ys)) ≡ Some v
mqtt_short xs ys v m true e f h = let nothing : None ≡ Some v = sym (ap (or_mqtt true xs) (short_is mqtt xs true e f) ∙ mqtt_later xs) ∙ h in absurd cc
mqtt_short xs ys v m false e f h =
    ap (or_mqtt m (xs ++ ys)) (other_steady mqtt xs ys (ltb (length mqtt) (length (xs ++ ys))) refl (ltb-false _ _ e) f)
    ∙ mqisdp_steady xs ys v m (sym (ap (or_mqtt true xs) (short_is mqtt xs false e f)) ∙ h)

mqtt_case : (xs ys : List ℕ) (v : Version) (m t : Bool) → ltb (length mqtt) (length xs) ≡ t → or_mqtt true xs (number_after mqtt xs) ≡ Some v → or_mqtt m (xs ++ ys) (number_after mqtt (xs ++ ys)) ≡ Some v
mqtt_case xs ys v m true e h =
    let lt : length mqtt < length xs = ltb-true _ _ e in
    let d = long_is mqtt xs lt in
    ap (or_mqtt m (xs ++ ys)) (long_steady mqtt xs ys lt ∙ d.1) ∙ mqtt_at xs ys v m (bytes_eq (take (length mqtt) xs) mqtt) d.0 (sym (ap (or_mqtt true xs) d.1) ∙ h)
mqtt_case xs ys v m false e h = mqtt_short xs ys v m (bytes_eq (take (length xs) mqtt) xs) e refl h

body_steady : (xs ys : List ℕ) (v : Version) (m : Bool) → by_body xs true ≡ Some v → by_body (xs ++ ys) m ≡ Some v
body_steady xs ys v m h = mqtt_case xs ys v m (ltb (length mqtt) (length xs)) refl h

-- ---- a length

whole_front : (n : ℕ) (xs ys : List ℕ) → length xs ≤ n → n ≤ length (xs ++ ys) → take n (xs ++ ys) ≡ xs ++ take (n - length xs) ys
whole_front n xs ys le there =
    let k = n - length xs in
    let len : length (take k ys) ≡ k = omega (arith, length-take k ys, length-append xs ys) in
    let parts : xs ++ ys ≡ (xs ++ take k ys) ++ drop k ys = ap (λ (zs : List ℕ). xs ++ zs) (sym (take-append-drop k ys)) ∙ sym (append_assoc xs (take k ys) (drop k ys)) in
    ap (take n) parts ∙ take_at (xs ++ take k ys) (drop k ys) n (omega (arith, length-append xs (take k ys)))

more_case : (n : ℕ) (xs ys : List ℕ) (v : Version) (w : Bool) → ltb (length (xs ++ ys)) n ≡ w → length xs ≤ n → by_body xs true ≡ Some v → cond w (by_body (xs ++ ys) true) (by_body (take n (xs ++ ys)) false) ≡ Some v
more_case n xs ys v true e le h = body_steady xs ys v true h
more_case n xs ys v false e le h = rw (whole_front n xs ys le (ltb-false _ _ e)) (body_steady xs (take (n - length xs) ys) v false h)

there_case : (n : ℕ) (xs ys : List ℕ) (v : Version) (u : Bool) → ltb (length xs) n ≡ u → cond u (by_body xs true) (by_body (take n xs) false) ≡ Some v
    → cond (ltb (length (xs ++ ys)) n) (by_body (xs ++ ys) true) (by_body (take n (xs ++ ys)) false) ≡ Some v
there_case n xs ys v true e h = let lt : length xs < n = ltb-true _ _ e in more_case n xs ys v (ltb (length (xs ++ ys)) n) refl (omega arith) h
there_case n xs ys v false e h =
    let le : n ≤ length xs = ltb-false _ _ e in
    let all : ltb (length (xs ++ ys)) n ≡ false = le-ltb _ _ (omega (arith, length-append xs ys)) in
    rw (all, take-append-le n xs ys le) h

size_case : (n : ℕ) (xs ys : List ℕ) (v : Version) (t : Bool) → cond t (Some Five) (cond (ltb (length xs) n) (by_body xs true) (by_body (take n xs) false)) ≡ Some v
    → cond t (Some Five) (cond (ltb (length (xs ++ ys)) n) (by_body (xs ++ ys) true) (by_body (take n (xs ++ ys)) false)) ≡ Some v
size_case n xs ys v true h = h
size_case n xs ys v false h = there_case n xs ys v (ltb (length xs) n) refl h

length_steady : (limit : ℕ) (rest b : List ℕ) (v : Version) (r s : Result (ℕ × List ℕ) FieldFault) → IsGrown b r s → ((x : ℕ × List ℕ) → r ≡ Ok x → length x.1 ≤ length rest)
    → after_length limit rest r ≡ Some v → after_length limit (rest ++ b) s ≡ Some v
length_steady limit rest b v (Err fields.Short) s g short h = absurd cc
length_steady limit rest b v (Err fields.Malformed) s g short h = rw g h
length_steady limit rest b v (Err fields.Repeated) s g short h = rw g h
length_steady limit rest b v (Err fields.NotHere) s g short h = rw g h
length_steady limit rest b v (Err fields.NoMemory) s g short h = rw g h
length_steady limit rest b v (Ok x) s g short h =
    let le = short x refl in
    let same : 1 + (length (rest ++ b) - length (x.1 ++ b)) + x.0 ≡ 1 + (length rest - length x.1) + x.0 = omega (arith, length-append rest b, length-append x.1 b) in
    rw (g, same) (size_case x.0 x.1 b v (ltb limit (1 + (length rest - length x.1) + x.0)) h)

first_case : (limit first : ℕ) (rest b : List ℕ) (v : Version) (t : Bool) → IsBytes rest → cond t (after_length limit rest (vbi.at rest)) (Some Five) ≡ Some v
    → cond t (after_length limit (rest ++ b) (vbi.at (rest ++ b))) (Some Five) ≡ Some v
first_case limit first rest b v true fits h = length_steady limit rest b v (vbi.at rest) (vbi.at (rest ++ b)) (vbi_steady rest b) (λ x e. (used vbi vbi_is rest x fits e).0) h
first_case limit first rest b v false fits h = h

pub version_steady : (limit : ℕ) (bs b : List ℕ) (v : Version) → IsBytes bs → version_of limit bs ≡ Some v → version_of limit (bs ++ b) ≡ Some v
unfolding version_of
version_steady limit [] b v fits h = absurd cc
version_steady limit (first ∷ rest) b v fits h = first_case limit first rest b v (first == 16) (λ i. fits (suc i)) h
