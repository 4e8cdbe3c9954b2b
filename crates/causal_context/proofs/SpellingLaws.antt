-- A set of dots is read as it is spelled, and each set has one spelling.
use Rattle.std.proofs.Common.{◌≡◌, ℕ, zero, suc, ◌+◌, ◌-◌, ◌*◌, ◌<◌, ◌≤◌, ◌^◌, Bool, true, false, cond, ◌&&◌, ◌==◌, List, [], ◌∷◌, ◌++◌, length, get_or, take, drop, Option, Some, None, Result, Ok, Err, refl, sym, ap, subst, ◌∙◌, append_assoc, inl, inr, ◌⊎◌, arith}
use Rattle.std.specs.Prelude.{nat_le, nat_lt, OnOk}
use Rattle.std.proofs.lemmas.Result.{IfOk-at_ok}
use Rattle.std.specs.Int.{to_be_bytes, w16, w32, w64}
use Rattle.std.specs.List.{flat_map}
use Rattle.std.specs.Cmp.{first_so, second_so}
use Rattle.std.proofs.lemmas.Bool.{leb-true, le-leb, eq-eqb, eqb-true, ltb-true, lt-ltb, cases_order}
use Rattle.std.proofs.lemmas.List.{take_at, length-append, take_all, take_more, flat_map_more, append-nil}
use Rattle.mqtt_fields.specs.declared.fault.FieldFault.{FieldFault}
use Rattle.mqtt_fields.specs.declared.fault.FieldFault.TheVariants.{Short, Malformed, Repeated, NotHere, NoMemory}
use Rattle.mqtt_fields.specs.Reading.{◌>>=◌, Fails}
use Rattle.mqtt_fields.specs.Field.{after}
use Rattle.mqtt_fields.specs.Numbers.{number}
use Rattle.mqtt_fields.proofs.Laws.{IsBytes, IsBytes-after, IsField, bind_ok, ok_is, after_is, seen_is, used}
use Rattle.mqtt_fields.proofs.NumberLaws.{wide16, wide32, wide64, number_is}
use Rattle.causal_context.specs.Dots.{Dots}
use Rattle.causal_context.specs.declared.ranges.Range.{Range}
use Rattle.causal_context.specs.Ranges.{IsFine, IsSound, IsApart, IsContext, set_of}
use Rattle.causal_context.specs.Spelling.{range, ranges, context, ranges_bytes, ranges_of, with_first, ranges_at, is_of_dots, stands_before, may_follow, Spells, HasSpelling, HasOneSpelling, HasFirst}
use Rattle.causal_context.proofs.RangeLemmas.{or_cases, or_left, or_right}
use Rattle.causal_context.proofs.Runs.{sound_none, sound_cons, ranges_of-set_of}

pub range_is : IsField range
range_is = seen_is (λ x. record { node = x.0; first = x.1.0; last = x.1.1 }) (λ r. (r.node, (r.first, r.last))) (after (number w16) (λ _. after (number w64) (λ _. number w64))) (λ a. refl) (λ b. refl)
    (after_is (number w16) (λ _. after (number w64) (λ _. number w64)) (number_is w16 wide16) (λ _. after_is (number w64) (λ _. number w64) (number_is w64 wide64) (λ _. number_is w64 wide64)))

-- a range that may come next, by the facts that the tests stand for
pub record IsNext (before : Option Range) (r : Range) : Type 0 where
  pub from : 1 ≤ r.first
  pub not_empty : r.first ≤ r.last
  pub below : r.last < 2 ^ 62
  pub apart : (p : Range) → before ≡ Some p → IsApart p r

and_true : (a b : Bool) → a ≡ true → b ≡ true → (a && b) ≡ true
and_true true b p q = q
and_true false b p q = cc

some_is : {A : Type 0} (x y : A) → Some x ≡ Some y → x ≡ y
some_is x y e = cc

stands_before-true : (a b : Range) → stands_before a b ≡ true → IsApart a b
stands_before-true a b e = elim (or_cases (nat_lt a.node b.node) ((a.node == b.node) && nat_lt (a.last + 1) b.first) e) [
  | inl l ↦ (let lt = ltb-true a.node b.node l in record { nodes = omega arith; numbers = λ h. absurd (omega arith) })
  | inr r ↦ (let same = eqb-true a.node b.node (first_so (a.node == b.node) (nat_lt (a.last + 1) b.first) r) in let lt = ltb-true (a.last + 1) b.first (second_so (a.node == b.node) (nat_lt (a.last + 1) b.first) r) in
      record { nodes = omega arith; numbers = λ h. lt })
]

true-stands_before : (a b : Range) → IsApart a b → stands_before a b ≡ true
true-stands_before a b apart = elim (cases_order a.node b.node) [
  | inl same ↦ or_right (nat_lt a.node b.node) ((a.node == b.node) && nat_lt (a.last + 1) b.first) (and_true (a.node == b.node) (nat_lt (a.last + 1) b.first) (eq-eqb a.node b.node same) (lt-ltb (a.last + 1) b.first (apart.numbers same)))
  | inr (inl less) ↦ or_left (nat_lt a.node b.node) ((a.node == b.node) && nat_lt (a.last + 1) b.first) (lt-ltb a.node b.node less)
  | inr (inr more) ↦ absurd (omega (arith, apart.nodes))
]

next_of : (before : Option Range) (r : Range) → is_of_dots r ≡ true → ((p : Range) → before ≡ Some p → IsApart p r) → IsNext before r
next_of before r e apart =
    let rest = second_so (nat_le 1 r.first) (nat_le r.first r.last && nat_lt r.last (2 ^ 62)) e in
    record {
      from = leb-true 1 r.first (first_so (nat_le 1 r.first) (nat_le r.first r.last && nat_lt r.last (2 ^ 62)) e);
      not_empty = leb-true r.first r.last (first_so (nat_le r.first r.last) (nat_lt r.last (2 ^ 62)) rest);
      below = ltb-true r.last (2 ^ 62) (second_so (nat_le r.first r.last) (nat_lt r.last (2 ^ 62)) rest);
      apart = apart;
    }

pub may_follow-true : (before : Option Range) (r : Range) → may_follow before r ≡ true → IsNext before r
may_follow-true None r e = next_of None r e (λ p h. cc)
may_follow-true (Some b) r e = next_of (Some b) r (first_so (is_of_dots r) (stands_before b r) e)
    (λ p h. subst (λ x. IsApart x r) (some_is b p h) (stands_before-true b r (second_so (is_of_dots r) (stands_before b r) e)))

of_dots : (r : Range) → IsFine r → is_of_dots r ≡ true
of_dots r fine = and_true (nat_le 1 r.first) (nat_le r.first r.last && nat_lt r.last (2 ^ 62)) (le-leb 1 r.first fine.from) (and_true (nat_le r.first r.last) (nat_lt r.last (2 ^ 62)) (le-leb r.first r.last fine.not_empty) (lt-ltb r.last (2 ^ 62) fine.below))

pub true-may_follow : (before : Option Range) (r : Range) → IsFine r → ((p : Range) → before ≡ Some p → IsApart p r) → may_follow before r ≡ true
true-may_follow None r fine apart = of_dots r fine
true-may_follow (Some b) r fine apart = and_true (is_of_dots r) (stands_before b r) (of_dots r fine) (true-stands_before b r (apart b refl))

-- sound ranges that stand after the one before
pub record AreNext (before : Option Range) (rs : List Range) : Type 0 where
  pub sound : IsSound rs
  pub apart : (p : Range) → before ≡ Some p → (d : Range) → 0 < length rs → IsApart p (get_or rs 0 d)

none_next : (before : Option Range) → AreNext before []
none_next before = record { sound = sound_none; apart = λ p e d lt. absurd (omega arith) }

one_next : (before : Option Range) (r : Range) (rs : List Range) → r.node < 2 ^ 16 → IsNext before r → AreNext (Some r) rs → AreNext before (r ∷ rs)
one_next before r rs node next rest = record {
  sound = sound_cons r rs (record { node = node; from = next.from; not_empty = next.not_empty; below = next.below }) rest.sound (λ d lt. rest.apart r refl d lt);
  apart = λ p e d lt. next.apart p e;
}

passed : {A : Type 0} (b : Bool) (f : FieldFault) (r : Result A FieldFault) (y : A) → cond b r (Err f) ≡ Ok y → (b ≡ true) × (r ≡ Ok y)
passed true f r y e = (refl, e)
passed false f r y e = absurd cc

-- what n ranges that were read are
record AreRead (n : ℕ) (before : Option Range) (bs : List ℕ) (x : List Range × List ℕ) : Type 0 where
  bytes : bs ≡ flat_map range.bytes x.0 ++ x.1
  next : AreNext before x.0
  count : length x.0 ≡ n

are_read : (n : ℕ) (before : Option Range) (bs : List ℕ) (x : List Range × List ℕ) → IsBytes bs → ranges_at n before bs ≡ Ok x → AreRead n before bs x
are_read zero before bs x fits e =
    let made : List Range × List ℕ = ([], bs) in
    subst (AreRead zero before bs) (ok_is made x e) (record { bytes = refl; next = none_next before; count = refl })
are_read (suc n) before bs x fits e =
    let a = bind_ok (range.at bs) (λ a. cond (may_follow before a.0) (ranges_at n (Some a.0) a.1 >>= with_first a.0) (Err Malformed)) x e in
    let r = a.0.0 in
    let front = range_is.takes bs a.0 fits a.1 in
    let test = passed (may_follow before r) Malformed (ranges_at n (Some r) a.0.1 >>= with_first r) x a.2 in
    let b = bind_ok (ranges_at n (Some r) a.0.1) (with_first r) x test.1 in
    let later = are_read n (Some r) a.0.1 b.0 (IsBytes-after bs (range.bytes r) a.0.1 fits front.0) b.1 in
    let made : List Range × List ℕ = (r ∷ b.0.0, b.0.1) in
    subst (AreRead (suc n) before bs) (ok_is made x b.2) (record {
      bytes = front.0 ∙ ap (λ (ys : List ℕ). range.bytes r ++ ys) later.bytes ∙ sym (append_assoc (range.bytes r) (flat_map range.bytes b.0.0) b.0.1);
      next = one_next before r b.0.0 (omega (arith, front.1.0)) (may_follow-true before r test.0) later.next;
      count = omega (arith, later.count);
    })

tail_next : (before : Option Range) (r : Range) (rs : List Range) → AreNext before (r ∷ rs) → AreNext (Some r) rs
tail_next before r rs next = record {
  sound = record { fine = λ k d lt. next.sound.fine (suc k) d (omega arith); apart = λ i j d lt in_range. next.sound.apart (suc i) (suc j) d (omega arith) (omega arith) };
  apart = λ p e d lt. subst (λ (x : Range). IsApart x (get_or rs 0 d)) (some_is r p e) (next.sound.apart 0 1 d (omega arith) (omega arith));
}

read_again : (rs : List Range) (before : Option Range) (rest : List ℕ) → AreNext before rs → ranges_at (length rs) before (flat_map range.bytes rs ++ rest) ≡ Ok (rs, rest)
read_again [] before rest next = refl
read_again (r ∷ rs) before rest next =
    let fine = next.sound.fine 0 r (omega arith) in
    let one = range_is.again r (flat_map range.bytes rs ++ rest) (omega (arith, fine.node), (omega (arith, fine.not_empty, fine.below), omega (arith, fine.below))) in
    let test = true-may_follow before r fine (λ p e. next.apart p e r (omega arith)) in
    let later = read_again rs (Some r) rest (tail_next before r rs next) in
    ap (ranges_at (suc (length rs)) before) (append_assoc (range.bytes r) (flat_map range.bytes rs) rest) ∙ rw (one, test, later) refl

-- ranges before those that were read
abbrev pub after_done : List Range → Result (List Range × List ℕ) FieldFault → Result (List Range × List ℕ) FieldFault
after_done done (Ok x) = Ok (done ++ x.0, x.1)
after_done done (Err e) = Err e

-- the first i of n ranges are read, and the rest is still to be read
pub record AreReadUpTo (n : ℕ) (bs : List ℕ) (i : ℕ) (done : List Range) (before : Option Range) (rest : List ℕ) : Type 0 where
  pub so_far : ranges_at n None bs ≡ after_done done (ranges_at (n - i) before rest)

nothing_done : (r : Result (List Range × List ℕ) FieldFault) → r ≡ after_done [] r
nothing_done (Ok x) = refl
nothing_done (Err e) = refl

pub none_read : (n : ℕ) (bs : List ℕ) → AreReadUpTo n bs 0 [] None bs
none_read n bs = record { so_far = nothing_done (ranges_at n None bs) ∙ ap (λ k. after_done [] (ranges_at k None bs)) {x = n} {y = n - 0} (omega arith) }

done_more : (done : List Range) (r : Range) (more : Result (List Range × List ℕ) FieldFault) → after_done done (more >>= with_first r) ≡ after_done (done ++ r ∷ []) more
done_more done r (Ok x) = ap (λ (rs : List Range). Ok (rs, x.1)) (sym (append_assoc done (r ∷ []) x.0))
done_more done r (Err e) = refl

module _ (n : ℕ) (bs : List ℕ) (i : ℕ) (done : List Range) (before : Option Range) (rest : List ℕ) (lt : i < n) (so_far : AreReadUpTo n bs i done before rest) where
  here : ranges_at n None bs ≡ after_done done (ranges_at (suc (n - (i + 1))) before rest)
  here = so_far.so_far ∙ ap (λ k. after_done done (ranges_at k before rest)) {x = n - i} {y = suc (n - (i + 1))} (omega arith)

  pub one_read : (r : Range) (after : List ℕ) → range.at rest ≡ Ok (r, after) → may_follow before r ≡ true → AreReadUpTo n bs (i + 1) (done ++ r ∷ []) (Some r) after
  one_read r after e test = record { so_far = here ∙ rw (e, test) (done_more done r (ranges_at (n - (i + 1)) (Some r) after)) }

  pub read_fails : (f : FieldFault) → range.at rest ≡ Err f → ranges_at n None bs ≡ Err f
  read_fails f e = here ∙ rw e refl

  pub read_fails_so : (f : FieldFault) → Fails f (range.at rest) → Fails f (ranges_at n None bs)
  read_fails_so Short e = read_fails Short e
  read_fails_so Malformed e = read_fails Malformed e
  read_fails_so Repeated e = read_fails Repeated e
  read_fails_so NotHere e = read_fails NotHere e
  read_fails_so NoMemory e = tt

  pub read_malformed : (r : Range) (after : List ℕ) → range.at rest ≡ Ok (r, after) → may_follow before r ≡ false → ranges_at n None bs ≡ Err Malformed
  read_malformed r after e test = here ∙ rw (e, test) refl

pub all_read : (n : ℕ) (bs : List ℕ) (i : ℕ) (done : List Range) (before : Option Range) (rest : List ℕ) → n ≤ i → AreReadUpTo n bs i done before rest → ranges_at n None bs ≡ Ok (done, rest)
all_read n bs i done before rest past so_far =
    so_far.so_far ∙ ap (λ k. after_done done (ranges_at k before rest)) {x = n - i} {y = 0} (omega arith) ∙ ap (λ (rs : List Range). Ok (rs, rest)) (append-nil done)

-- nothing has been read yet, or a first range
abbrev pub HasBegun : ℕ → List ℕ → Option Range → List ℕ → Type 0
HasBegun n bs before rest = ((rest ≡ bs) × (before ≡ None)) ⊎ HasFirst n bs

pub first_read : (n : ℕ) (bs : List ℕ) (before : Option Range) (rest : List ℕ) → HasBegun n bs before rest → 0 < n → (r : Range) (after : List ℕ) → range.at rest ≡ Ok (r, after) → may_follow before r ≡ true → HasFirst n bs
first_read n bs before rest (inr h) some r after e test = h
first_read n bs before rest (inl start) some r after e test = record {
  some = some;
  first = r;
  rest = after;
  read = ap range.at (sym start.0) ∙ e;
  fine = ap (λ (b : Option Range). may_follow b r) (sym start.1) ∙ test;
}

-- the bytes of the first i ranges are written
pub record AreWrittenUpTo (old : List ℕ) (rs : List Range) (i : ℕ) (new : List ℕ) : Type 0 where
  pub items : new ≡ (old ++ to_be_bytes w32 (length rs)) ++ flat_map range.bytes (take i rs)

pub none_written : (old new : List ℕ) (rs : List Range) → new ≡ old ++ to_be_bytes w32 (length rs) → AreWrittenUpTo old rs 0 new
none_written old new rs e = record { items = e ∙ sym (append-nil (old ++ to_be_bytes w32 (length rs))) }

pub one_written : (old mid new : List ℕ) (rs : List Range) (i : ℕ) (r : Range) → i < length rs → r ≡ get_or rs i r → AreWrittenUpTo old rs i mid → new ≡ mid ++ range.bytes r → AreWrittenUpTo old rs (i + 1) new
one_written old mid new rs i r lt is so_far e = record {
  items = e ∙ ap (λ (xs : List ℕ). xs ++ range.bytes r) so_far.items ∙ flat_map_more range.bytes (old ++ to_be_bytes w32 (length rs)) (take i rs) r
      ∙ ap (λ (xs : List Range). (old ++ to_be_bytes w32 (length rs)) ++ flat_map range.bytes xs) (ap (λ (x : Range). take i rs ++ x ∷ []) is ∙ sym (take_more rs i r lt));
}

pub all_written : (old new : List ℕ) (rs : List Range) (i : ℕ) → length rs ≤ i → AreWrittenUpTo old rs i new → new ≡ old ++ ranges_bytes rs
unfolding ranges_bytes
all_written old new rs i past so_far =
    so_far.items ∙ ap (λ (xs : List Range). (old ++ to_be_bytes w32 (length rs)) ++ flat_map range.bytes xs) (take_all i rs past) ∙ append_assoc old (to_be_bytes w32 (length rs)) (flat_map range.bytes rs)

-- what holds at an Ok that is known
pub at_ok : {T E P : Type 0} (r : Result T E) (x : T) → r ≡ Ok x → OnOk r P → P
at_ok {P = P} r x e h = IfOk-at_ok (λ _. P) e h

-- three parts after one another
pub three_parts : (old one two three a b c : List ℕ) → one ≡ old ++ a → two ≡ one ++ b → three ≡ two ++ c → three ≡ old ++ (a ++ (b ++ c))
three_parts old one two three a b c p q r = r ∙ ap (λ (xs : List ℕ). xs ++ c) (q ∙ ap (λ (xs : List ℕ). xs ++ b) p) ∙ append_assoc (old ++ a) b c ∙ append_assoc old a (b ++ c)

pub ranges_is : IsField ranges
unfolding ranges ranges_bytes
ranges_is = record {
  takes = λ bs x fits e.
      let n = bind_ok ((number w32).at bs) (λ n. ranges_at n.0 None n.1) x e in
      let count = (number_is w32 wide32).takes bs n.0 fits n.1 in
      let read = are_read n.0.0 None n.0.1 x (IsBytes-after bs (to_be_bytes w32 n.0.0) n.0.1 fits count.0) n.2 in (
        count.0 ∙ ap (λ (ys : List ℕ). to_be_bytes w32 n.0.0 ++ ys) read.bytes ∙ sym (append_assoc (to_be_bytes w32 n.0.0) (flat_map range.bytes x.0) x.1)
            ∙ ap (λ (k : ℕ). (to_be_bytes w32 k ++ flat_map range.bytes x.0) ++ x.1) (sym read.count),
        record { sound = read.next.sound; few = omega (arith, count.1, read.count) },
      );
  again = λ rs rest fits.
      let count = (number_is w32 wide32).again (length rs) (flat_map range.bytes rs ++ rest) (omega (arith, fits.few)) in
      ap ranges.at (append_assoc (to_be_bytes w32 (length rs)) (flat_map range.bytes rs) rest) ∙ rw count (read_again rs None rest (record { sound = fits.sound; apart = λ p e d lt. cc }));
}

pub held : (rs : List Range) → ranges.Fits rs → IsContext rs
unfolding ranges
held rs fits = fits

taken_bytes : (bs : List ℕ) (rs : List Range) (rest : List ℕ) → bs ≡ ranges.bytes rs ++ rest → IsSound rs → bs ≡ ranges_bytes (ranges_of (set_of rs)) ++ rest
unfolding ranges
taken_bytes bs rs rest e sound = e ∙ ap (λ (xs : List Range). ranges_bytes xs ++ rest) (sym (ranges_of-set_of rs sound))

read_set : (rs : List Range) (rest : List ℕ) → IsContext rs → context.at (ranges_bytes rs ++ rest) ≡ Ok (set_of rs, rest)
unfolding ranges context
read_set rs rest held = rw (ranges_is.again rs rest held) refl

-- what is read is the set's spelling, and what is spelled is read again, whatever follows
pub context_is : IsField context
unfolding context
context_is = record {
  takes = λ bs x fits e.
      let rs = bind_ok (ranges.at bs) (λ y. Ok (set_of y.0, y.1)) x e in
      let taken = ranges_is.takes bs rs.0 fits rs.1 in
      let made : Dots × List ℕ = (set_of rs.0.0, rs.0.1) in
      subst (λ (y : Dots × List ℕ). (bs ≡ ranges_bytes (ranges_of y.0) ++ y.1) × HasSpelling y.0) (ok_is made x rs.2)
      (taken_bytes bs rs.0.0 rs.0.1 taken.0 (held rs.0.0 taken.1).sound, record { ranges = rs.0.0; context = held rs.0.0 taken.1; set = refl });
  again = λ s rest fits.
      let same : ranges_of s ≡ fits.ranges = ap ranges_of (sym fits.set) ∙ ranges_of-set_of fits.ranges fits.context.sound in
      ap (λ (rs : List Range). context.at (ranges_bytes rs ++ rest)) same ∙ read_set fits.ranges rest fits.context ∙ ap (λ (t : Dots). Ok (t, rest)) fits.set;
}

-- the spelling of a set that has one
pub bytes_spell : (s : Dots) → HasSpelling s → Spells (context.bytes s) s
unfolding context
bytes_spell s has = record {
  ranges = has.ranges;
  context = has.context;
  set = has.set;
  is = ap ranges_bytes (ap ranges_of (sym has.set) ∙ ranges_of-set_of has.ranges has.context.sound);
}

spelled : (front : List ℕ) (s : Dots) → Spells front s → front ≡ context.bytes s
unfolding context
spelled front s spells = spells.is ∙ ap ranges_bytes (sym (ap ranges_of (sym spells.set) ∙ ranges_of-set_of spells.ranges spells.context.sound))

pub one_spelling_each : HasOneSpelling
one_spelling_each a b s p q = spelled a s p ∙ sym (spelled b s q)

has_fits : (s : Dots) → HasSpelling s → context.Fits s
unfolding context
has_fits s has = has

fits_has : (s : Dots) → context.Fits s → HasSpelling s
unfolding context
fits_has s fits = fits

-- what is spelled is read, whatever follows
pub spelled_at : (front rest : List ℕ) (s : Dots) → Spells front s → context.at (front ++ rest) ≡ Ok (s, rest)
spelled_at front rest s spells = ap (λ (xs : List ℕ). context.at (xs ++ rest)) (spelled front s spells) ∙ context_is.again s rest (has_fits s (record { ranges = spells.ranges; context = spells.context; set = spells.set }))

-- what is read is spelled by the bytes that it took
pub read_spells : (bs : List ℕ) (s : Dots) (rest : List ℕ) → IsBytes bs → context.at bs ≡ Ok (s, rest) → (length rest ≤ length bs) × (drop (length bs - length rest) bs ≡ rest) × Spells (take (length bs - length rest) bs) s
read_spells bs s rest fits e =
    let taken = context_is.takes bs (s, rest) fits e in
    let u = used context context_is bs (s, rest) fits e in
    let len : length bs ≡ length (context.bytes s) + length rest = ap length taken.0 ∙ length-append (context.bytes s) rest in
    let front : take (length bs - length rest) bs ≡ context.bytes s = ap (take (length bs - length rest)) taken.0 ∙ take_at (context.bytes s) rest (length bs - length rest) (omega arith) in
    (u.0, u.1, subst (λ (xs : List ℕ). Spells xs s) (sym front) (bytes_spell s (fits_has s taken.1)))

-- the ranges of a context are those of its set
pub ranges_same : (rs : List Range) (s : Dots) → IsContext rs → set_of rs ≡ s → rs ≡ ranges_of s
ranges_same rs s held is = sym (ranges_of-set_of rs held.sound) ∙ ap ranges_of is

pub bytes_same : (rs : List Range) (s : Dots) → IsContext rs → set_of rs ≡ s → ranges_bytes rs ≡ context.bytes s
unfolding context
bytes_same rs s held is = ap ranges_bytes (ranges_same rs s held is)

length_ranges : (rs : List Range) → length (flat_map range.bytes rs) ≡ 18 * length rs
length_ranges [] = refl
length_ranges (r ∷ rs) = length-append (range.bytes r) (flat_map range.bytes rs) ∙ ap (λ (n : ℕ). 18 + n) (length_ranges rs) ∙ sym (eighteen (length rs))
  where
    eighteen : (n : ℕ) → 18 * suc n ≡ 18 + 18 * n
    eighteen n = omega arith

pub length-ranges_bytes : (rs : List Range) → length (ranges_bytes rs) ≡ 4 + 18 * length rs
unfolding ranges_bytes
length-ranges_bytes rs = length-append (to_be_bytes w32 (length rs)) (flat_map range.bytes rs) ∙ ap (λ (n : ℕ). 4 + n) (length_ranges rs)
