-- Clients by the numbers of their seats, and the lists of them.
use Rattle.std.proofs.Common.{◌≡◌, ℕ, ◌+◌, ◌*◌, ◌^◌, ◌<◌, Bool, true, false, cond, ◌&&◌, ◌||◌, T, List, [], ◌∷◌, ◌++◌, Option, Some, None, is_some, nat_cmp, nat_le, nat_lt, Ordering, Less, Equal, Greater, refl, sym, ap, subst, ◌∙◌, arith}
use Rattle.std.proofs.lemmas.Bool.Decides.{nat_tests}
use Rattle.std.specs.Cmp.{nat_cmp_total, tied_itself, Equal-is}
use Rattle.std.specs.FinMap.{find, nat_cmp-IsAntisymmetric}
use Rattle.std.specs.FinMap.Entries.{below_all, is_sorted}
use Rattle.std.specs.FinMap as map
use Rattle.std.specs.List.{filter, flat_map, list_any}
use Rattle.std.specs.Option.{option_map}
use Rattle.std.specs.Ordering.{is_eq, is_lt, eq_by_cmp}
use Rattle.session_table.specs.Dues.{Due, Dues, due_cmp, in_order, set_of}
use Rattle.session_table.proofs.Tables.{due_exact, has_of, in_order_some, same_dues}
use Rattle.mqtt_sessions.specs.Ending.{has_run_out, in_time, runs_out_at}
use Rattle.mqtt_sessions.specs.State.{Link, State}
use Rattle.session_table.specs.Seats.{Seat, Seats, at_number, by_number, come, run_outs}
use Rattle.session_table.specs.Listing.{Table, seat_of, seats_in, text_cmp, is_moment, moments_of, no_moments, listed_in, run_out_in, IsAt, AllRun, connection_in, on_connection}
use Rattle.session_table.specs.declared.moments.Moments.{Moments}
use Rattle.session_table.specs.declared.seated.Seated.{Seated}
use Rattle.session_table.proofs.Calling.{same_state}
use Rattle.session_table.proofs.Lists.{tied, and_false, and_true}
use Rattle.law_maps.proofs.Texts.{itself, same_text}
use Rattle.session_table.proofs.SeatMaps.{get_seat}

any_both : {X : Type 0} (t : X → Bool) (xs ys : List X) → list_any t (xs ++ ys) ≡ (list_any t xs || list_any t ys)
any_both t [] ys = refl
any_both t (x ∷ xs) ys = elim (t x) as (λ b. (b || list_any t (xs ++ ys)) ≡ ((b || list_any t xs) || list_any t ys)) [ true ↦ refl | false ↦ any_both t xs ys ]

or_false : (b : Bool) → (b || false) ≡ b
or_false true = refl
or_false false = refl

or_true : (b : Bool) → (b || true) ≡ true
or_true true = refl
or_true false = refl

not_both : (b : Bool) → b ≡ true → b ≡ false → ⊥
not_both b t f = (let z : true ≡ false = sym t ∙ f in cc)

first_part : (a b : Bool) → T (a && b) → T a
first_part true b h = tt
first_part false b h = h

second_part : (a b : Bool) → T (a && b) → T b
second_part true b h = h
second_part false b h = absurd h

same_pair : (q d : Due) → eq_by_cmp due_cmp q d ≡ true → q ≡ d
same_pair q d t = due_exact q d ((Equal-is (due_cmp q d)).0 t)

same_number : (n m : ℕ) → eq_by_cmp nat_cmp n m ≡ true → n ≡ m
same_number n m t = nat_cmp-IsAntisymmetric n m ((Equal-is (nat_cmp n m)).0 t)

number_itself : (n : ℕ) → eq_by_cmp nat_cmp n n ≡ true
number_itself n = ap is_eq (tied_itself nat_cmp_total n)

-- ---- clients by a number
has_number : (q : Due) (n : Option ℕ) (c : List ℕ) → list_any (eq_by_cmp due_cmp q) (at_number n c) ≡ (is_moment n q.0 && eq_by_cmp text_cmp q.1 c)
has_number q None c = refl
has_number q (Some n) c = or_false (eq_by_cmp due_cmp q (n, c)) ∙ tied q (n, c)

abbrev number_in : (Seat → Option ℕ) → Option Seat → Option ℕ
number_in f None = None
number_in f (Some s) = f s

less_apart : (r : Ordering) → T (is_lt r) → is_eq r ≡ false
less_apart Less h = refl
less_apart Equal h = absurd h
less_apart Greater h = absurd h

found_none : {X : Type 0} (q : List ℕ) (es : List (List ℕ × X)) → T (below_all text_cmp q es) → find text_cmp q es ≡ None
found_none q [] h = refl
found_none q (e ∷ es) h = ap (λ b. cond b (Some e.1) (find text_cmp q es)) (less_apart (text_cmp q e.0) (first_part _ _ h)) ∙ found_none q es (second_part _ _ h)

any_seat : (f : Seat → Option ℕ) (es : List (List ℕ × Seat)) → T (is_sorted text_cmp es) → (q : Due)
    → list_any (eq_by_cmp due_cmp q) (flat_map (λ e. at_number (f e.1) e.0) es) ≡ is_moment (number_in f (find text_cmp q.1 es)) q.0
any_seat f [] h q = refl
any_seat f (e ∷ es) h q =
    any_both (eq_by_cmp due_cmp q) (at_number (f e.1) e.0) (flat_map (λ x. at_number (f x.1) x.0) es)
    ∙ (λ i. has_number q (f e.1) e.0 i || any_seat f es (second_part _ _ h) q i) ∙ by (eq_by_cmp text_cmp q.1 e.0) refl
  where
    by : (b : Bool) → eq_by_cmp text_cmp q.1 e.0 ≡ b → ((is_moment (f e.1) q.0 && b) || is_moment (number_in f (find text_cmp q.1 es)) q.0) ≡ is_moment (number_in f (cond b (Some e.1) (find text_cmp q.1 es))) q.0
    by true t =
        (let none : find text_cmp q.1 es ≡ None = found_none q.1 es (subst (λ c. T (below_all text_cmp c es)) (sym (same_text q.1 e.0 t)) (first_part _ _ h)) in
        (λ i. and_true (is_moment (f e.1) q.0) i || is_moment (number_in f (none i)) q.0) ∙ or_false (is_moment (f e.1) q.0))
    by false t = ap (λ b. b || is_moment (number_in f (find text_cmp q.1 es)) q.0) (and_false (is_moment (f e.1) q.0))

has_by_number : (f : Seat → Option ℕ) (seats : Seats) (q : Due) → map.contains_key (set_of (flat_map (λ e. at_number (f e.1) e.0) (map.entries seats))) q ≡ is_moment (number_in f (map.get seats q.1)) q.0
has_by_number f seats q =
    has_of (flat_map (λ e. at_number (f e.1) e.0) (map.entries seats)) q ∙ any_seat f (map.entries seats) (map.entries_sorted seats) q
    ∙ ap (λ g. is_moment (number_in f g) q.0) (sym (map.get-entries seats q.1))

any_some : (p : Due → Bool) (q : Due) (ds : List Due) → list_any (eq_by_cmp due_cmp q) (filter p ds) ≡ (p q && list_any (eq_by_cmp due_cmp q) ds)
any_some p q [] = sym (and_false (p q))
any_some p q (d ∷ ds) = by (any_some p q ds) (p d) refl (eq_by_cmp due_cmp q d) refl
  where
    by : list_any (eq_by_cmp due_cmp q) (filter p ds) ≡ (p q && list_any (eq_by_cmp due_cmp q) ds) → (b : Bool) → p d ≡ b → (t : Bool) → eq_by_cmp due_cmp q d ≡ t → list_any (eq_by_cmp due_cmp q) (cond b (d ∷ filter p ds) (filter p ds)) ≡ (p q && (t || list_any (eq_by_cmp due_cmp q) ds))
    by so true e true f =
        ap (λ b. b || list_any (eq_by_cmp due_cmp q) (filter p ds)) f ∙ sym (and_true (p q) ∙ ap p (same_pair q d f) ∙ e)
    by so true e false f = ap (λ b. b || list_any (eq_by_cmp due_cmp q) (filter p ds)) f ∙ so
    by so false e true f =
        (let no : p q ≡ false = ap p (same_pair q d f) ∙ e in
        so ∙ ap (λ b. b && list_any (eq_by_cmp due_cmp q) ds) no ∙ sym (and_true (p q) ∙ no))
    by so false e false f = so

-- those of a list that pass are the clients by the number, where they are the same
by_number_is : (f : Seat → Option ℕ) (seats : Seats) (m : Dues) (p : Due → Bool) → ((q : Due) → (p q && map.contains_key m q) ≡ is_moment (number_in f (map.get seats q.1)) q.0)
    → filter p (map.keys m) ≡ by_number f seats
by_number_is f seats m p h =
    sym (in_order_some p m)
    ∙ ap map.keys (same_dues (set_of (filter p (map.keys m))) (set_of (flat_map (λ e. at_number (f e.1) e.0) (map.entries seats)))
    (λ q. has_of (filter p (map.keys m)) q ∙ any_some p q (map.keys m) ∙ ap (λ b. p q && b) (sym (map.contains_key-keys m q)) ∙ h q ∙ sym (has_by_number f seats q)))

come_is : (now : ℕ) (m : Option ℕ) (n : ℕ) → (nat_le n now && is_moment m n) ≡ is_moment (come now m) n
come_is now None n = and_false (nat_le n now)
come_is now (Some at) n = by (eq_by_cmp nat_cmp n at) refl (nat_le at now) refl
  where
    by : (t : Bool) → eq_by_cmp nat_cmp n at ≡ t → (b : Bool) → nat_le at now ≡ b → (nat_le n now && eq_by_cmp nat_cmp n at) ≡ is_moment (cond b (Some at) None) n
    by true t true e = ap (λ k. nat_le k now && eq_by_cmp nat_cmp n at) (same_number n at t) ∙ ap (λ b. b && eq_by_cmp nat_cmp n at) e
    by true t false e = ap (λ k. nat_le k now && eq_by_cmp nat_cmp n at) (same_number n at t) ∙ ap (λ b. b && eq_by_cmp nat_cmp n at) e
    by false t true e = ap (λ b. nat_le n now && b) t ∙ and_false (nat_le n now) ∙ sym t
    by false t false e = ap (λ b. nat_le n now && b) t ∙ and_false (nat_le n now)

-- ---- wills and ends
pub due_is : (now : ℕ) (of : State → Option ℕ) (pick : Moments → Option ℕ) (t : Table) (dues : Dues) → ((c : List ℕ) → IsAt dues c (pick (listed_in (map.get t c)))) → AllRun t
    → pick no_moments ≡ None → ((s : State) (connection : Option ℕ) → pick (moments_of s connection) ≡ of s)
    → filter (λ d. nat_le d.0 now) (map.keys dues) ≡ by_number (λ s. come now (of s.session)) (seats_in t)
due_is now of pick t dues at runs none are =
    by_number_is (λ s. come now (of s.session)) (seats_in t) dues (λ d. nat_le d.0 now)
    (λ q. ap (λ b. nat_le q.0 now && b) (at q.1 q.0) ∙ by q (map.get t q.1) refl ∙ ap (λ g. is_moment (number_in (λ s. come now (of s.session)) g) q.0) (sym (get_seat t q.1)))
  where
    by : (q : Due) (g : Option Seated) → map.get t q.1 ≡ g → (nat_le q.0 now && is_moment (pick (listed_in g)) q.0) ≡ is_moment (number_in (λ s. come now (of s.session)) (option_map seat_of g)) q.0
    by q None e = ap (λ m. nat_le q.0 now && is_moment m q.0) none ∙ and_false (nat_le q.0 now)
    by q (Some x) e =
        (let run = runs q.1 x e in
        let is : pick x.listed ≡ of (seat_of x).session = ap pick run.2 ∙ are run.0 x.connection ∙ ap of (sym (same_state x run.0 run.1)) in
        ap (λ m. nat_le q.0 now && is_moment m q.0) is ∙ come_is now (of (seat_of x).session) q.0)

-- ---- run out
ran_out : (now : ℕ) (l : Option Link) → now < 2 ^ 64 → is_some (come now (in_time (runs_out_at l))) ≡ has_run_out l now
ran_out now None fits = refl
ran_out now (Some l) fits = by (nat_lt 0 l.keep_alive) (l.last + 1500 * l.keep_alive)
  where
    come_when : (at : ℕ) (b : Bool) → is_some (cond b (Some at) None) ≡ b
    come_when at true = refl
    come_when at false = refl

    in_the : (at : ℕ) (b : Bool) → nat_lt at (2 ^ 64) ≡ b → is_some (come now (cond b (Some at) None)) ≡ nat_le at now
    in_the at true e = come_when at (nat_le at now)
    in_the at false e = sym (late at e)
      where
        late : (at : ℕ) → nat_lt at (2 ^ 64) ≡ false → nat_le at now ≡ false
        late at e = grind (arith, nat_tests)

    by : (b : Bool) (at : ℕ) → is_some (come now (in_time (cond b (Some at) None))) ≡ (b && nat_le at now)
    by true at = in_the at (nat_lt at (2 ^ 64)) refl
    by false at = refl

any_connection : (t : Table) (q : Due) (ds : List Due)
    → list_any (eq_by_cmp due_cmp q) (flat_map (on_connection t) ds) ≡ (list_any (λ d. eq_by_cmp text_cmp q.1 d.1) ds && is_moment (connection_in (map.get t q.1)) q.0)
any_connection t q [] = refl
any_connection t q (d ∷ ds) =
    any_both (eq_by_cmp due_cmp q) (on_connection t d) (flat_map (on_connection t) ds)
    ∙ (λ i. has_number q (connection_in (map.get t d.1)) d.1 i || any_connection t q ds i) ∙ by (eq_by_cmp text_cmp q.1 d.1) refl
  where
    same : (m l : Bool) → ((m && true) || (l && m)) ≡ m
    same true l = refl
    same false true = refl
    same false false = refl

    by : (b : Bool) → eq_by_cmp text_cmp q.1 d.1 ≡ b
        → ((is_moment (connection_in (map.get t d.1)) q.0 && b) || (list_any (λ x. eq_by_cmp text_cmp q.1 x.1) ds && is_moment (connection_in (map.get t q.1)) q.0))
        ≡ ((b || list_any (λ x. eq_by_cmp text_cmp q.1 x.1) ds) && is_moment (connection_in (map.get t q.1)) q.0)
    by true e =
        ap (λ c. (is_moment (connection_in (map.get t c)) q.0 && true) || (list_any (λ x. eq_by_cmp text_cmp q.1 x.1) ds && is_moment (connection_in (map.get t q.1)) q.0)) (sym (same_text q.1 d.1 e))
        ∙ same (is_moment (connection_in (map.get t q.1)) q.0) (list_any (λ x. eq_by_cmp text_cmp q.1 x.1) ds)
    by false e = ap (λ b. b || (list_any (λ x. eq_by_cmp text_cmp q.1 x.1) ds && is_moment (connection_in (map.get t q.1)) q.0)) (and_false (is_moment (connection_in (map.get t d.1)) q.0))

abbrev HasPair : (Due → Bool) → List ℕ → List Due → Type 0
HasPair p c ds = list_any (λ d. eq_by_cmp text_cmp c d.1) (filter p ds) ≡ true → (at : ℕ) × (p (at, c) ≡ true) × (list_any (eq_by_cmp due_cmp (at, c)) ds ≡ true)

-- a client stands among those that pass where a pair of it does
pair_of : (p : Due → Bool) (c : List ℕ) (ds : List Due) → list_any (λ d. eq_by_cmp text_cmp c d.1) (filter p ds) ≡ true → (at : ℕ) × (p (at, c) ≡ true) × (list_any (eq_by_cmp due_cmp (at, c)) ds ≡ true)
pair_of p c [] h = absurd (not_both false h refl)
pair_of p c (d ∷ ds) h = by (pair_of p c ds) (p d) refl (eq_by_cmp text_cmp c d.1) refl h
  where
    later : HasPair p c ds → list_any (λ x. eq_by_cmp text_cmp c x.1) (filter p ds) ≡ true → (at : ℕ) × (p (at, c) ≡ true) × ((eq_by_cmp due_cmp (at, c) d || list_any (eq_by_cmp due_cmp (at, c)) ds) ≡ true)
    later so k = (let r = so k in (r.0, r.1, ap (λ b. eq_by_cmp due_cmp (r.0, c) d || b) r.2 ∙ or_true (eq_by_cmp due_cmp (r.0, c) d)))

    by : HasPair p c ds → (b : Bool) → p d ≡ b → (e : Bool) → eq_by_cmp text_cmp c d.1 ≡ e → list_any (λ x. eq_by_cmp text_cmp c x.1) (cond b (d ∷ filter p ds) (filter p ds)) ≡ true
        → (at : ℕ) × (p (at, c) ≡ true) × ((eq_by_cmp due_cmp (at, c) d || list_any (eq_by_cmp due_cmp (at, c)) ds) ≡ true)
    by so true t true e k =
        (let same : c ≡ d.1 = same_text c d.1 e in
        (d.0, ap (λ x. p (d.0, x)) same ∙ t, ap (λ b. b || list_any (eq_by_cmp due_cmp (d.0, c)) ds) (tied (d.0, c) d ∙ (λ i. number_itself d.0 i && e i))))
    by so true t false e k = later so (sym (ap (λ b. b || list_any (λ x. eq_by_cmp text_cmp c x.1) (filter p ds)) e) ∙ k)
    by so false t e f k = later so k

client_of : (p : Due → Bool) (c : List ℕ) (at : ℕ) (ds : List Due) → p (at, c) ≡ true → list_any (eq_by_cmp due_cmp (at, c)) ds ≡ true → list_any (λ d. eq_by_cmp text_cmp c d.1) (filter p ds) ≡ true
client_of p c at [] has h = h
client_of p c at (d ∷ ds) has h = by (client_of p c at ds has) (eq_by_cmp due_cmp (at, c) d) refl (p d) refl h
  where
    by : (list_any (eq_by_cmp due_cmp (at, c)) ds ≡ true → list_any (λ x. eq_by_cmp text_cmp c x.1) (filter p ds) ≡ true) → (e : Bool) → eq_by_cmp due_cmp (at, c) d ≡ e → (b : Bool) → p d ≡ b → (e || list_any (eq_by_cmp due_cmp (at, c)) ds) ≡ true
        → list_any (λ x. eq_by_cmp text_cmp c x.1) (cond b (d ∷ filter p ds) (filter p ds)) ≡ true
    by so true e true t k =
        ap (λ b. b || list_any (λ x. eq_by_cmp text_cmp c x.1) (filter p ds)) (ap (λ (x : Due). eq_by_cmp text_cmp c x.1) (sym (same_pair (at, c) d e)) ∙ itself c)
    by so true e false t k = absurd (not_both (p d) (ap p (sym (same_pair (at, c) d e)) ∙ has) t)
    by so false e true t k = ap (λ b. eq_by_cmp text_cmp c d.1 || b) (so k) ∙ or_true (eq_by_cmp text_cmp c d.1)
    by so false e false t k = so k

both_ways : (a b : Bool) → (a ≡ true → b ≡ true) → (b ≡ true → a ≡ true) → a ≡ b
both_ways true b f g = sym (f refl)
both_ways false true f g = g refl
both_ways false false f g = refl

some_come : (now : ℕ) (c : List ℕ) (dues : Dues) (m : Option ℕ) → IsAt dues c m → list_any (λ d. eq_by_cmp text_cmp c d.1) (filter (λ d. nat_le d.0 now) (map.keys dues)) ≡ is_some (come now m)
some_come now c dues m at = both_ways _ _ to (from m at)
  where
    stands : (n : ℕ) → list_any (eq_by_cmp due_cmp (n, c)) (map.keys dues) ≡ is_moment m n
    stands n = sym (map.contains_key-keys dues (n, c)) ∙ at n

    has_come : (o : Option ℕ) (n : ℕ) → nat_le n now ≡ true → is_moment o n ≡ true → is_some (come now o) ≡ true
    has_come None n le is = is
    has_come (Some k) n le is = ap (λ b. is_some (cond b (Some k) None)) (ap (λ j. nat_le j now) (sym (same_number n k is)) ∙ le)

    to : list_any (λ d. eq_by_cmp text_cmp c d.1) (filter (λ d. nat_le d.0 now) (map.keys dues)) ≡ true → is_some (come now m) ≡ true
    to h = (let r = pair_of (λ d. nat_le d.0 now) c (map.keys dues) h in has_come m r.0 r.1 (sym (stands r.0) ∙ r.2))

    from : (o : Option ℕ) → IsAt dues c o → is_some (come now o) ≡ true → list_any (λ d. eq_by_cmp text_cmp c d.1) (filter (λ d. nat_le d.0 now) (map.keys dues)) ≡ true
    from None is h = absurd (not_both false h refl)
    from (Some k) is h = by (nat_le k now) refl h
      where
        by : (b : Bool) → nat_le k now ≡ b → is_some (cond b (Some k) None) ≡ true → list_any (λ d. eq_by_cmp text_cmp c d.1) (filter (λ d. nat_le d.0 now) (map.keys dues)) ≡ true
        by true le h = client_of (λ d. nat_le d.0 now) c k (map.keys dues) le (sym (map.contains_key-keys dues (k, c)) ∙ is k ∙ number_itself k)
        by false le h = absurd (not_both false h refl)

abbrev runs_at : ℕ → Seat → Option ℕ
runs_at now s = cond (has_run_out s.session.link now) s.connection None

module _ (now : ℕ) (fits : now < 2 ^ 64) (t : Table) (dues : Dues) (at : (c : List ℕ) → IsAt dues c (listed_in (map.get t c)).run_out) (runs : AllRun t) where
  has_connection : (q : Due) → map.contains_key (set_of (flat_map (on_connection t) (filter (λ d. nat_le d.0 now) (map.keys dues)))) q ≡ is_moment (number_in (runs_at now) (map.get (seats_in t) q.1)) q.0
  has_connection q =
      has_of (flat_map (on_connection t) (filter (λ d. nat_le d.0 now) (map.keys dues))) q ∙ any_connection t q (filter (λ d. nat_le d.0 now) (map.keys dues))
      ∙ ap (λ b. b && is_moment (connection_in (map.get t q.1)) q.0) (some_come now q.1 dues (listed_in (map.get t q.1)).run_out (at q.1))
      ∙ by (map.get t q.1) refl ∙ ap (λ g. is_moment (number_in (runs_at now) g) q.0) (sym (get_seat t q.1))
    where
      none_twice : (b : Bool) → is_moment (cond b None None) q.0 ≡ false
      none_twice true = refl
      none_twice false = refl

      when : (b : Bool) (n : ℕ) → (b && eq_by_cmp nat_cmp q.0 n) ≡ is_moment (cond b (Some n) None) q.0
      when true n = refl
      when false n = refl

      on : (s : State) (o : Option ℕ) → (is_some (come now (run_out_in s o)) && is_moment o q.0) ≡ is_moment (cond (has_run_out s.link now) o None) q.0
      on s None = sym (none_twice (has_run_out s.link now))
      on s (Some n) = ap (λ b. b && eq_by_cmp nat_cmp q.0 n) (ran_out now s.link fits) ∙ when (has_run_out s.link now) n

      by : (g : Option Seated) → map.get t q.1 ≡ g → (is_some (come now (listed_in g).run_out) && is_moment (connection_in g) q.0) ≡ is_moment (number_in (runs_at now) (option_map seat_of g)) q.0
      by None e = refl
      by (Some x) e =
          (let run = runs q.1 x e in
          ap (λ (m : Moments). is_some (come now m.run_out) && is_moment x.connection q.0) run.2 ∙ on run.0 x.connection
          ∙ ap (λ (s : State). is_moment (cond (has_run_out s.link now) x.connection None) q.0) (sym (same_state x run.0 run.1)))

  pub run_outs_are : in_order (flat_map (on_connection t) (filter (λ d. nat_le d.0 now) (map.keys dues))) ≡ run_outs (seats_in t) now
  run_outs_are = ap map.keys (same_dues _ _ (λ q. has_connection q ∙ sym (has_by_number (runs_at now) (seats_in t) q)))

  -- each that is listed is on a connection
  pub none_listed : run_outs (seats_in t) now ≡ [] → filter (λ d. nat_le d.0 now) (map.keys dues) ≡ []
  none_listed none = by (filter (λ d. nat_le d.0 now) (map.keys dues)) refl
    where
      absent : (q : Due) → map.contains_key (set_of (flat_map (on_connection t) (filter (λ d. nat_le d.0 now) (map.keys dues)))) q ≡ false
      absent q = map.contains_key-keys _ q ∙ ap (list_any (eq_by_cmp due_cmp q)) (run_outs_are ∙ none)

      on : (s : State) (o : Option ℕ) → is_some (come now (run_out_in s o)) ≡ true → (n : ℕ) × (o ≡ Some n)
      on s None h = absurd (not_both false h refl)
      on s (Some n) h = (n, refl)

      is_on : (c : List ℕ) (g : Option Seated) → map.get t c ≡ g → is_some (come now (listed_in g).run_out) ≡ true → (n : ℕ) × (is_moment (connection_in g) n ≡ true)
      is_on c None e h = absurd (not_both false h refl)
      is_on c (Some x) e h =
          (let run = runs c x e in
          let o = on run.0 x.connection (sym (ap (λ (m : Moments). is_some (come now m.run_out)) run.2) ∙ h) in
          (o.0, ap (λ m. is_moment m o.0) o.1 ∙ number_itself o.0))

      by : (ds : List Due) → filter (λ d. nat_le d.0 now) (map.keys dues) ≡ ds → ds ≡ []
      by [] e = refl
      by (d ∷ ds) e =
          (let there : list_any (λ x. eq_by_cmp text_cmp d.1 x.1) (filter (λ x. nat_le x.0 now) (map.keys dues)) ≡ true =
          ap (list_any (λ (x : Due). eq_by_cmp text_cmp d.1 x.1)) e ∙ ap (λ b. b || list_any (λ (x : Due). eq_by_cmp text_cmp d.1 x.1) ds) (itself d.1) in
          let o = is_on d.1 (map.get t d.1) refl (sym (some_come now d.1 dues (listed_in (map.get t d.1)).run_out (at d.1)) ∙ there) in
          absurd (not_both _
          (has_of (flat_map (on_connection t) (filter (λ x. nat_le x.0 now) (map.keys dues))) (o.0, d.1) ∙ any_connection t (o.0, d.1) (filter (λ x. nat_le x.0 now) (map.keys dues)) ∙ (λ i. there i && o.1 i))
          (absent (o.0, d.1))))
