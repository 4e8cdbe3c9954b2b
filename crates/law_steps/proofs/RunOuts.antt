-- The connections whose Keep Alive has run out are just those that stand in the list of them.
use Rattle.std.proofs.Common.{◌≡◌, inl, inr, ℕ, ◌+◌, ◌*◌, ◌<◌, ◌≤◌, ◌&&◌, ◌||◌, nat_lt, nat_le, Bool, true, false, cond, List, [], ◌∷◌, ◌++◌, map as map_list, Option, Some, None, Less, Equal, Greater, is_some, refl, sym, ap, ◌∙◌, subst}
use Rattle.std.proofs.lemmas.Bool.{ltb-true, leb-true, lt-ltb, le-leb}
use Rattle.std.specs.Cmp.{tied_itself}
use Rattle.std.specs.FinMap as map
use Rattle.std.specs.FinMap.Entries.{find}
use Rattle.std.specs.List.{AllByRecursion, flat_map, list_any}
use Rattle.std.specs.Ordering.{is_eq, eq_by_cmp}
use Rattle.std.specs.declared.cmp.Ordering.{Ordering}
use Rattle.law_maps.proofs.Texts.{same_text}
use Rattle.session_table.specs.Dues.{Due, due_cmp, in_order, set_of}
use Rattle.session_table.proofs.Tables.{due_total, due_exact, has_of}
use Rattle.mqtt_sessions.specs.Ending.{has_run_out}
use Rattle.mqtt_sessions.specs.State.{Link}
use Rattle.session_table.specs.Listing.{text_cmp}
use Rattle.session_table.specs.Seats.{Seat, Seats, at_number, by_number, run_outs}
use Rattle.node_work.specs.View.{HeldView}
use Rattle.law_runs.specs.StepSending.{IsIn}
use Rattle.law_runs.proofs.Keeping.{none_some}
use Rattle.law_steps.proofs.Dues.{IsSeated, dues_seated}
use Rattle.law_steps.specs.Due.{HasRunOut, RunOutsAreExact}

-- ---- what stands among others
in_front : {A : Type 0} (x : A) (xs ys : List A) → IsIn x xs → IsIn x (xs ++ ys)
in_front x [] ys i = absurd i
in_front x (y ∷ xs) ys (inl e) = inl e
in_front x (y ∷ xs) ys (inr i) = inr (in_front x xs ys i)

in_back : {A : Type 0} (x : A) (xs ys : List A) → IsIn x ys → IsIn x (xs ++ ys)
in_back x [] ys i = i
in_back x (y ∷ xs) ys i = inr (in_back x xs ys i)

in_flat : {A B : Type 0} (f : A → List B) (x : B) (y : A) (xs : List A) → IsIn y xs → IsIn x (f y) → IsIn x (flat_map f xs)
in_flat f x y [] i j = absurd i
in_flat f x y (z ∷ zs) (inl e) j = in_front x (f z) (flat_map f zs) (subst (λ w. IsIn x (f w)) (sym e) j)
in_flat f x y (z ∷ zs) (inr i) j = in_back x (f z) (flat_map f zs) (in_flat f x y zs i j)

all_in : {A : Type 0} (P : A → Type 0) (x : A) (xs : List A) → AllByRecursion P xs → IsIn x xs → P x
all_in P x [] all i = absurd i
all_in P x (y ∷ ys) all (inl e) = subst P e all.0
all_in P x (y ∷ ys) all (inr i) = all_in P x ys all.1 i

-- ---- what is found is among the entries
module _ {K X : Type 0} (R : K → K → Ordering) (exact : (a b : K) → eq_by_cmp R a b ≡ true → a ≡ b) where
  found_by : (b : Bool) (k : K) (v : X) (x : K × X) (es : List (K × X)) → eq_by_cmp R k x.0 ≡ b → cond b (Some x.1) (find R k es) ≡ Some v → (find R k es ≡ Some v → IsIn (k, v) es) → IsIn (k, v) (x ∷ es)
  found_by true k v x es same f later = inl (let value : x.1 ≡ v = (let z : Some x.1 ≡ Some v = f in cc) in λ i. (sym (exact k x.0 same) i, value i))
  found_by false k v x es same f later = inr (later f)

  found_in : (k : K) (v : X) (es : List (K × X)) → find R k es ≡ Some v → IsIn (k, v) es
  found_in k v [] e = none_some e
  found_in k v (x ∷ es) e = found_by (eq_by_cmp R k x.0) k v x es refl e (found_in k v es)

module _ {K X : Type 0} where
  key_in : (k : K) (v : X) (es : List (K × X)) → IsIn (k, v) es → IsIn k (map_list (λ e. e.0) es)
  key_in k v [] i = absurd i
  key_in k v (x ∷ es) (inl e) = inl (ap (λ (y : K × X). y.0) e)
  key_in k v (x ∷ es) (inr i) = inr (key_in k v es i)

-- ---- dues
is_equal : (r : Ordering) → is_eq r ≡ true → r ≡ Equal
is_equal Less e = absurd (let z : false ≡ true = e in cc)
is_equal Equal e = refl
is_equal Greater e = absurd (let z : false ≡ true = e in cc)

same_due : (a b : Due) → eq_by_cmp due_cmp a b ≡ true → a ≡ b
same_due a b e = due_exact a b (is_equal (due_cmp a b) e)

own_due : (d : Due) → eq_by_cmp due_cmp d d ≡ true
own_due d = ap is_eq (tied_itself due_total d)

or_true : (a b : Bool) → b ≡ true → (a || b) ≡ true
or_true true b e = refl
or_true false b e = e

any_of_in : (d : Due) (ds : List Due) → IsIn d ds → list_any (eq_by_cmp due_cmp d) ds ≡ true
any_of_in d [] i = absurd i
any_of_in d (x ∷ xs) (inl e) = ap (λ b. b || list_any (eq_by_cmp due_cmp d) xs) (ap (eq_by_cmp due_cmp d) e ∙ own_due d)
any_of_in d (x ∷ xs) (inr i) = or_true (eq_by_cmp due_cmp d x) (list_any (eq_by_cmp due_cmp d) xs) (any_of_in d xs i)

some_there : {A : Type 0} (o : Option A) → is_some o ≡ true → (x : A) × (o ≡ Some x)
some_there None e = absurd (let z : false ≡ true = e in cc)
some_there (Some x) e = (x, refl)

-- those in order are all of them
in_order_too : (d : Due) (ds : List Due) → IsIn d ds → IsIn d (in_order ds)
in_order_too d ds i =
    let m = set_of ds in
    let s = some_there (map.get m d) (has_of ds d ∙ any_of_in d ds i) in
    key_in d s.0 (map.entries m) (found_in due_cmp same_due d s.0 (map.entries m) (sym (map.get-entries m d) ∙ s.1))

-- a seat with its number
in_number : (number : Seat → Option ℕ) (seats : Seats) (client : List ℕ) (seat : Seat) (n : ℕ) → map.get seats client ≡ Some seat → number seat ≡ Some n → IsIn (n, client) (by_number number seats)
in_number number seats client seat n found is =
    let there : IsIn (client, seat) (map.entries seats) = found_in text_cmp same_text client seat (map.entries seats) (sym (map.get-entries seats client) ∙ found) in
    let own : IsIn (n, client) (at_number (number seat) client) = subst (λ o. IsIn (n, client) (at_number o client)) (sym is) (inl refl) in
    in_order_too (n, client) (flat_map (λ (e : List ℕ × Seat). at_number (number e.1) e.0) (map.entries seats)) (in_flat (λ (e : List ℕ × Seat). at_number (number e.1) e.0) (n, client) (client, seat) (map.entries seats) there own)

-- ---- Keep Alive
both_true : (a b : Bool) → (a && b) ≡ true → (a ≡ true) × (b ≡ true)
both_true true b e = (refl, e)
both_true false b e = absurd (let z : false ≡ true = e in cc)

pub record IsLate (o : Option Link) (now : ℕ) : Type 0 where
  pub link : Link
  pub linked : o ≡ Some link
  pub counts : 0 < link.keep_alive
  pub late : link.last + 1500 * link.keep_alive ≤ now

late_of : (o : Option Link) (now : ℕ) → has_run_out o now ≡ true → IsLate o now
late_of None now e = absurd (let z : false ≡ true = e in cc)
late_of (Some l) now e =
    let b = both_true (nat_lt 0 l.keep_alive) (nat_le (l.last + 1500 * l.keep_alive) now) e in
    record { link = l; linked = refl; counts = ltb-true 0 l.keep_alive b.0; late = leb-true (l.last + 1500 * l.keep_alive) now b.1 }

is_late : (l : Link) (now : ℕ) → 0 < l.keep_alive → l.last + 1500 * l.keep_alive ≤ now → has_run_out (Some l) now ≡ true
is_late l now counts late =
    ap (λ b. b && nat_le (l.last + 1500 * l.keep_alive) now) (lt-ltb 0 l.keep_alive counts) ∙ le-leb (l.last + 1500 * l.keep_alive) now late

taken_by : (b : Bool) (o : Option ℕ) (n : ℕ) → cond b o None ≡ Some n → (b ≡ true) × (o ≡ Some n)
taken_by true o n e = (refl, e)
taken_by false o n e = none_some e

abbrev number_at : ℕ → Seat → Option ℕ
number_at now s = cond (has_run_out s.session.link now) s.connection None

run_out_of : (h : HeldView) (d : Due) → IsSeated (number_at h.at) h.sessions d → HasRunOut h d.0 d.1
run_out_of h d s =
    let t = taken_by (has_run_out s.0.session.link h.at) s.0.connection d.0 s.2 in
    let l = late_of s.0.session.link h.at t.0 in
    record { seat = s.0; found = s.1; on = t.1; link = l.link; linked = l.linked; counts = l.counts; late = l.late }

has_number : (h : HeldView) (c : ℕ) (client : List ℕ) (o : HasRunOut h c client) → number_at h.at o.seat ≡ Some c
has_number h c client o =
    let out : has_run_out o.seat.session.link h.at ≡ true = ap (λ (l : Option Link). has_run_out l h.at) o.linked ∙ is_late o.link h.at o.counts o.late in
    ap (λ b. cond b o.seat.connection None) out ∙ o.on

pub run_outs_are_exact : RunOutsAreExact
run_outs_are_exact = λ h d. (
  λ i. run_out_of h d (all_in (IsSeated (number_at h.at) h.sessions) d (run_outs h.sessions h.at) (dues_seated (number_at h.at) h.sessions) i),
  λ o. in_number (number_at h.at) h.sessions d.1 o.seat d.0 o.found (has_number h d.0 d.1 o),
)
