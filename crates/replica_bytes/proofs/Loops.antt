-- Values read and written one after another.
use Rattle.std.proofs.Common.{◌≡◌, ◌⊎◌, inl, inr, ℕ, zero, suc, ◌+◌, ◌-◌, ◌<◌, ◌≤◌, List, [], ◌∷◌, ◌++◌, length, take, Result, Ok, Err, refl, sym, ap, subst, ◌∙◌, append_assoc, length-append, arith}
use Rattle.std.specs.Prelude.{flat_map, IsOk, OnOk}
use Rattle.std.specs.List.{AllByRecursion}
use Rattle.mqtt_fields.specs.declared.fault.FieldFault.{FieldFault}
use Rattle.mqtt_fields.specs.Reading.{◌>>=◌, Fails}
use Rattle.mqtt_fields.specs.Field.{Field}
use Rattle.mqtt_fields.specs.Numbers.{text}
use Rattle.mqtt_fields.proofs.Laws.{bind_ok, ok_is}
use Rattle.mqtt_message.specs.Spelling.{values_at}
use Rattle.mqtt_message.proofs.NumbersLaws.{onto, onto_more, onto_stops, onto_none}
use Rattle.causal_context.specs.Dots.{Dot}
use Rattle.subscription_set.specs.declared.entry.Entry.{Entry}
use Rattle.replica_store.specs.declared.kept.Kept.{Kept}
use Rattle.replica_bytes.specs.Values.{dot, entry, dot_entry, topic_entry}
use Rattle.replica_bytes.specs.Memory.{EntryWants, HasText, WantsSome}

-- ---- writing

-- what begins with what begins so
pub begins_so : (old now new : List ℕ) → take (length old) now ≡ old → take (length now) new ≡ now → take (length old) new ≡ old
begins_so [] now new a b = refl
begins_so (x ∷ old) [] new a b = absurd (cc)
begins_so (x ∷ old) (y ∷ now) [] a b = absurd (cc)
begins_so (x ∷ old) (y ∷ now) (z ∷ new) a b =
    let rest = begins_so old now new (tails _ _ a) (tails _ _ b) in
    let first : z ≡ x = heads _ _ b ∙ heads _ _ a in
    λ i. first i ∷ rest i
  where
    head_of : List ℕ → ℕ
    head_of [] = 0
    head_of (n ∷ ns) = n

    tail_of : List ℕ → List ℕ
    tail_of [] = []
    tail_of (n ∷ ns) = ns

    heads : (ns ms : List ℕ) → ns ≡ ms → head_of ns ≡ head_of ms
    heads ns ms e = ap head_of e

    tails : (ns ms : List ℕ) → ns ≡ ms → tail_of ns ≡ tail_of ms
    tails ns ms e = ap tail_of e

-- what is written so far, and what is left
pub record IsWritten {A : Type 0} (bytes : A → List ℕ) (all left : List A) (old now : List ℕ) : Type 0 where
  pub items : now ++ flat_map bytes left ≡ old ++ flat_map bytes all
  pub begins : take (length old) now ≡ old

take_all : (xs : List ℕ) → take (length xs) xs ≡ xs
take_all [] = refl
take_all (x ∷ xs) = ap (λ ys. x ∷ ys) (take_all xs)

pub none_written : {A : Type 0} (bytes : A → List ℕ) (all left : List A) (old : List ℕ) → left ≡ all → IsWritten bytes all left old old
none_written bytes all left old is = record { items = ap (λ xs. old ++ flat_map bytes xs) is; begins = take_all old }

pub take_front : (xs ys : List ℕ) → take (length xs) (xs ++ ys) ≡ xs
take_front [] ys = refl
take_front (x ∷ xs) ys = ap (λ zs. x ∷ zs) (take_front xs ys)

pub one_written : {A : Type 0} (bytes : A → List ℕ) (all left rest : List A) (x : A) (old now new : List ℕ) → left ≡ x ∷ rest → new ≡ now ++ bytes x → IsWritten bytes all left old now → IsWritten bytes all rest old new
one_written bytes all left rest x old now new is more w = record {
  items = ap (λ xs. xs ++ flat_map bytes rest) more ∙ append_assoc now (bytes x) (flat_map bytes rest) ∙ sym (ap (λ xs. now ++ flat_map bytes xs) is) ∙ w.items;
  begins = begins_so old now new w.begins (ap (take (length now)) more ∙ take_front now (bytes x));
}

append_none : (xs : List ℕ) → xs ++ [] ≡ xs
append_none [] = refl
append_none (x ∷ xs) = ap (λ ys. x ∷ ys) (append_none xs)

pub all_written : {A : Type 0} (bytes : A → List ℕ) (all left : List A) (old now : List ℕ) → left ≡ [] → IsWritten bytes all left old now → now ≡ old ++ flat_map bytes all
all_written bytes all left old now is w = sym (append_none now) ∙ sym (ap (λ xs. now ++ flat_map bytes xs) is) ∙ w.items

-- where one more doesn't fit, all of them don't
pub no_room : {A : Type 0} (bytes : A → List ℕ) (all left rest : List A) (x : A) (old now : List ℕ) (len capacity len' capacity' : ℕ)
    → left ≡ x ∷ rest → IsWritten bytes all left old now → len ≡ length old → len' ≡ length now → capacity ≤ capacity' → capacity' < len' + length (bytes x) → capacity < len + length (flat_map bytes all)
no_room bytes all left rest x old now len capacity len' capacity' is w old_len now_len grown full =
    let whole : now ++ (bytes x ++ flat_map bytes rest) ≡ old ++ flat_map bytes all = sym (ap (λ xs. now ++ flat_map bytes xs) is) ∙ w.items in
    omega (arith, ap length whole, length-append now (bytes x ++ flat_map bytes rest), length-append (bytes x) (flat_map bytes rest), length-append old (flat_map bytes all))

-- those that were written fit, and so do all, if the rest do
pub all_by : {A : Type 0} (P : A → Type 0) (left rest : List A) (x : A) → left ≡ x ∷ rest → AllByRecursion P left → P x × AllByRecursion P rest
all_by P left rest x is all = subst (AllByRecursion P) is all

-- ---- reading

pub left_to_read : (count i : ℕ) → i + 1 ≤ count → count - i ≡ suc (count - (i + 1))
left_to_read count i more = omega arith

nothing_off : (n : ℕ) → n ≡ n - 0
nothing_off n = omega arith

module _ {A : Type 0} (f : Field A) (count : ℕ) (bs : List ℕ) where
  -- so many values have been read
  abbrev pub AreRead : ℕ → List A → List ℕ → Type 0
  AreRead i before rest = (values_at f (count - i) rest >>= λ more. onto before more) ≡ values_at f count bs

  pub none_read : AreRead 0 [] bs
  none_read = subst (λ k. (values_at f k bs >>= λ more. onto [] more) ≡ values_at f count bs) (nothing_off count) (onto_none (values_at f count bs))

  at_step : (i : ℕ) (before : List A) (rest : List ℕ) → i < count → AreRead i before rest → (values_at f (suc (count - (i + 1))) rest >>= λ more. onto before more) ≡ values_at f count bs
  at_step i before rest inside read = subst (λ k. (values_at f k rest >>= λ more. onto before more) ≡ values_at f count bs) (left_to_read count i (omega (arith, inside))) read

  pub one_read : (i : ℕ) (before : List A) (rest : List ℕ) (x : A × List ℕ) → i < count → f.at rest ≡ Ok x → AreRead i before rest → AreRead (i + 1) (before ++ x.0 ∷ []) x.1
  one_read i before rest x inside at read = sym (onto_more f before (count - (i + 1)) rest x at) ∙ at_step i before rest inside read

  pub stops : (i : ℕ) (before : List A) (rest : List ℕ) (fault : FieldFault) → i < count → Fails fault (f.at rest) → AreRead i before rest → Fails fault (values_at f count bs)
  stops i before rest fault inside fails read = onto_stops f before (count - (i + 1)) rest fault (values_at f count bs) fails (at_step i before rest inside read)

  pub all_read : (i : ℕ) (before : List A) (rest : List ℕ) → count - i ≡ 0 → AreRead i before rest → values_at f count bs ≡ Ok (before, rest)
  all_read i before rest done read = sym (subst (λ k. (values_at f k rest >>= λ more. onto before more) ≡ values_at f count bs) done read) ∙ same before rest
    where
      same : (before : List A) (rest : List ℕ) → onto before ([], rest) ≡ Ok (before, rest)
      same before rest = ap (λ xs. Ok (xs, rest)) (nothing before)
        where
          nothing : (xs : List A) → xs ++ [] ≡ xs
          nothing [] = refl
          nothing (x ∷ xs) = ap (λ ys. x ∷ ys) (nothing xs)

-- nothing has been read yet, or a first value has, and it wanted memory
abbrev pub HasBegun : (List ℕ → Type 0) → ℕ → List ℕ → List ℕ → Type 0
HasBegun Wants i bs rest = ((i ≡ 0) × (rest ≡ bs)) ⊎ Wants bs

pub begun : (Wants : List ℕ → Type 0) (i : ℕ) (bs rest : List ℕ) → HasBegun Wants i bs rest → Wants rest → Wants bs
begun Wants i bs rest (inl h) wants = subst Wants h.1 wants
begun Wants i bs rest (inr h) wants = h

first_ok : {A B : Type 0} (r : Result A FieldFault) (f : A → Result B FieldFault) (x : B) → (r >>= f) ≡ Ok x → IsOk r
first_ok (Ok a) f x e = refl
first_ok (Err fault) f x e = absurd cc

entry_begins : (bs : List ℕ) (x : Entry × List ℕ) → entry.at bs ≡ Ok x → IsOk (text.at bs)
unfolding entry
entry_begins bs x e =
    let whole = bind_ok _ _ x e in
    first_ok (text.at bs) _ whole.0 whole.1

pub dot_entry_begins : (bs : List ℕ) (x : (Dot × Entry) × List ℕ) → dot_entry.at bs ≡ Ok x → EntryWants bs
dot_entry_begins bs x e =
    let d = bind_ok (dot.at bs) _ x e in
    let c = bind_ok (entry.at d.0.1) _ x d.2 in
    record { value = d.0.0; rest = d.0.1; read = d.1; wants = entry_begins d.0.1 c.0 c.1 }

pub topic_entry_begins : (bs : List ℕ) (x : (List ℕ × Kept) × List ℕ) → topic_entry.at bs ≡ Ok x → HasText bs
topic_entry_begins bs x e =
    let whole = bind_ok _ _ x e in
    first_ok (text.at bs) _ whole.0 whole.1

pub ruleset beginnings = (dot_entry_begins, topic_entry_begins)

pub no_items : {A : Type 0} (xs : List A) → length xs ≡ 0 → xs ≡ []
no_items [] e = refl
no_items (x ∷ xs) e = absurd (omega arith)

-- of values that were read there is a first, and it wanted memory
pub read_some : {A : Type 0} (f : Field A) (Wants : List ℕ → Type 0) → ((bs : List ℕ) (x : A × List ℕ) → f.at bs ≡ Ok x → Wants bs)
    → (count : ℕ) (bs : List ℕ) (x : List A × List ℕ) → values_at f count bs ≡ Ok x → 0 < length x.0 → WantsSome Wants count bs
read_some {A} f Wants begins zero bs x e some =
    let made : List A × List ℕ = ([], bs) in
    let none : 0 < length {A = A} [] = subst (λ (y : List A × List ℕ). 0 < length y.0) (sym (ok_is made x e)) some in
    absurd (omega (arith, none))
read_some f Wants begins (suc n) bs x e some =
    let a = bind_ok (f.at bs) (λ a. values_at f n a.1 >>= λ more. Ok (a.0 ∷ more.0, more.1)) x e in
    (omega arith, begins bs a.0 a.1)

pub on_ok : {X E P Q : Type 0} (r : Result X E) → (P → Q) → OnOk r P → OnOk r Q
on_ok (Ok x) f p = f p
on_ok (Err e) f p = tt

-- what is put after what was put
pub put_after : (old mid new one two whole : List ℕ) → mid ≡ old ++ one → one ++ two ≡ whole → new ≡ mid ++ two → new ≡ old ++ whole
put_after old mid new one two whole first both second = second ∙ ap (λ xs. xs ++ two) first ∙ append_assoc old one two ∙ ap (λ xs. old ++ xs) both

pub put_begins : (old mid one : List ℕ) → mid ≡ old ++ one → take (length old) mid ≡ old
put_begins old mid one is = ap (take (length old)) is ∙ take_front old one
