-- The clients of each shared filter, in step with the entries; and which of them has its turn.
use Rattle.std.proofs.Common.{◌≡◌, ◌⊎◌, ℕ, ◌%◌, Bool, true, false, cond, ◌||◌, ◌&&◌, not, List, [], ◌∷◌, slice_get, MatchOption, Bor, Option, Some, None, is_some, Result, Ok, Err, OnOk, OnErr, inl, inr, refl, sym, ap, subst, ◌∙◌, arith}
use Rattle.std.specs.List.{list_any}
use Rattle.std.specs.List.Sorted.{IsStrictlySortedBy}
use Rattle.std.specs.Cmp.{IsTotalOrder, Equal-is}
use Rattle.std.specs.Cmp.Lexicographic.{bytes_decides}
use Rattle.std.specs.Ordering.{eq_by_cmp, is_eq}
use Rattle.std.specs.FinMap as map
use Rattle.std.specs.FinSet as set
use Rattle.std.proofs.lemmas.Cmp.{tied_itself}
use Rattle.law_maps.proofs.Tables.{get_inserted, remove_absent}
use Rattle.causal_context.specs.Dots.{Dot, Dots, dot_cmp, dot_cmp_total, dot_cmp_antisym}
use Rattle.mqtt_topics.specs.Topics.{IsShared}
use Rattle.subscription_set.specs.Entries.{Entry, is_of, same_text}
use Rattle.subscription_set.specs.Filing.{IsGroup, pair_cmp, text_cmp}
use Rattle.subscription_set.specs.Indexing.{ByDot, IsStanding, Stands, alone, stands_as}
use Rattle.subscription_set.specs.Members.{AreSeated, Clients, IsInTurn, IsTaken, Seats}
use Rattle.subscription_set.proofs.Alone.{stands_at}
use Rattle.subscription_set.proofs.Latest.{text_eq}
use Rattle.subscription_set.proofs.Seating.{none_rises}
use Rattle.subscription_set.proofs.Spreading.{text_total, text_anti, pair_total, pair_eq}

and_first : (a b : Bool) → (a && b) ≡ true → a ≡ true
and_first true b e = refl
and_first false b e = cc

and_second : (a b : Bool) → (a && b) ≡ true → b ≡ true
and_second true b e = e
and_second false b e = cc

not_true : (a : Bool) → not a ≡ true → a ≡ false
not_true true e = cc
not_true false e = refl

either : (b : Bool) → (b || true) ≡ true
either true = refl
either false = refl

clash : (b : Bool) → b ≡ true → b ≡ false → ⊥
clash b t f = (let z : true ≡ false = sym t ∙ f in cc)

tied : (d x : Dot) → eq_by_cmp dot_cmp d x ≡ true → d ≡ x
tied d x t = dot_cmp_antisym d x ((Equal-is (dot_cmp d x)).0 t)

seats_total : IsTotalOrder (pair_cmp text_cmp text_cmp)
seats_total = pair_total text_total text_anti text_total text_anti

-- a filter and a client are those of the entry
is_entry : (f c : List ℕ) (e : Entry) → eq_by_cmp (pair_cmp text_cmp text_cmp) (f, c) (e.filter, e.client) ≡ true → (f ≡ e.filter) × (c ≡ e.client)
is_entry f c e t =
    let both = sym (pair_eq text_total text_anti text_total text_anti f e.filter c e.client) ∙ t in
    (text_anti f e.filter ((Equal-is (text_cmp f e.filter)).0 (and_first _ _ both)), text_anti c e.client ((Equal-is (text_cmp c e.client)).0 (and_second _ _ both)))

entry_is : (f c : List ℕ) (e : Entry) → f ≡ e.filter → c ≡ e.client → eq_by_cmp (pair_cmp text_cmp text_cmp) (f, c) (e.filter, e.client) ≡ true
entry_is f c e a b = (λ i. eq_by_cmp (pair_cmp text_cmp text_cmp) (a i, b i) (e.filter, e.client)) ∙ ap is_eq (tied_itself seats_total (e.filter, e.client))

of_entry : (f c : List ℕ) (e : Entry) → is_of c (Some f) e ≡ true → (f ≡ e.filter) × (c ≡ e.client)
of_entry f c e t = ((bytes_decides f e.filter).0 (and_second _ _ t), (bytes_decides c e.client).0 (and_first _ _ t))

entry_of : (f c : List ℕ) (e : Entry) → f ≡ e.filter → c ≡ e.client → is_of c (Some f) e ≡ true
entry_of f c e a b = (λ i. (bytes_decides c e.client).1 b i && (bytes_decides f e.filter).1 a i)

-- ---- one more entry

module _ (m : ByDot) (d : Dot) (e : Entry) (none : map.get m d ≡ None) where
  at_put : (q : Dot) (b : Bool) → eq_by_cmp dot_cmp q d ≡ b → map.get (map.insert m d e) q ≡ cond b (Some e) (map.get m q)
  at_put q b t = map.get-insert dot_cmp_total m d e q ∙ ap (λ a. cond a (Some e) (map.get m q)) t

  from_put : (f c : List ℕ) → Stands (map.insert m d e) c (Some f) → (is_of c (Some f) e ≡ true) ⊎ Stands m c (Some f)
  from_put f c (q, s) = by (eq_by_cmp dot_cmp q d) refl
    where
      by : (b : Bool) → eq_by_cmp dot_cmp q d ≡ b → (is_of c (Some f) e ≡ true) ⊎ Stands m c (Some f)
      by true t = inl (ap (stands_as c (Some f)) (sym (at_put q true t)) ∙ s)
      by false t = inr (q, ap (stands_as c (Some f)) (sym (at_put q false t)) ∙ s)

  put_old : (f c : List ℕ) → Stands m c (Some f) → Stands (map.insert m d e) c (Some f)
  put_old f c (q, s) = by (eq_by_cmp dot_cmp q d) refl
    where
      by : (b : Bool) → eq_by_cmp dot_cmp q d ≡ b → Stands (map.insert m d e) c (Some f)
      by true t = absurd (let no : stands_as c (Some f) None ≡ true = ap (stands_as c (Some f)) (sym (ap (map.get m) (tied q d t) ∙ none)) ∙ s in cc)
      by false t = (q, ap (stands_as c (Some f)) (at_put q false t) ∙ s)

  put_new : (f c : List ℕ) → is_of c (Some f) e ≡ true → Stands (map.insert m d e) c (Some f)
  put_new f c h = (d, ap (stands_as c (Some f)) (get_inserted dot_cmp_total m d e) ∙ h)

  module _ (v : Seats) (at : AreSeated m v) where
    pub seated_put : IsShared e.filter → AreSeated (map.insert m d e) (set.insert v (e.filter, e.client))
    seated_put shared f c = (
      (λ h. (let split = sym (set.contains-insert seats_total v (e.filter, e.client) (f, c)) ∙ h in there (eq_by_cmp (pair_cmp text_cmp text_cmp) (f, c) (e.filter, e.client)) refl split)),
      (λ h. set.contains-insert seats_total v (e.filter, e.client) (f, c) ∙ here h.0 (from_put f c h.1)),
    )
      where
        there : (b : Bool) → eq_by_cmp (pair_cmp text_cmp text_cmp) (f, c) (e.filter, e.client) ≡ b → (b || set.contains v (f, c)) ≡ true → IsShared f × Stands (map.insert m d e) c (Some f)
        there true t h = (let is = is_entry f c e t in (subst IsShared (sym is.0) shared, put_new f c (entry_of f c e is.0 is.1)))
        there false t h = (let old = (at f c).0 h in (old.0, put_old f c old.1))

        here : IsShared f → (is_of c (Some f) e ≡ true) ⊎ Stands m c (Some f) → (eq_by_cmp (pair_cmp text_cmp text_cmp) (f, c) (e.filter, e.client) || set.contains v (f, c)) ≡ true
        here sh (inl h) = (let is = of_entry f c e h in ap (λ b. b || set.contains v (f, c)) (entry_is f c e is.0 is.1))
        here sh (inr s) = ap (λ b. eq_by_cmp (pair_cmp text_cmp text_cmp) (f, c) (e.filter, e.client) || b) ((at f c).1 (sh, s)) ∙ either (eq_by_cmp (pair_cmp text_cmp text_cmp) (f, c) (e.filter, e.client))

    pub seated_beside : (IsShared e.filter → ⊥) → AreSeated (map.insert m d e) v
    seated_beside plain f c = (
      (λ h. (let old = (at f c).0 h in (old.0, put_old f c old.1))),
      (λ h. here h.0 (from_put f c h.1)),
    )
      where
        here : IsShared f → (is_of c (Some f) e ≡ true) ⊎ Stands m c (Some f) → set.contains v (f, c) ≡ true
        here sh (inl h) = absurd (plain (subst IsShared (of_entry f c e h).0 sh))
        here sh (inr s) = (at f c).1 (sh, s)

  -- it is taken back
  pub put_back : map.remove (map.insert m d e) d ≡ m
  put_back = map.same_map dot_cmp_total dot_cmp_antisym _ _ (λ q. map.get-remove dot_cmp_total (map.insert m d e) d q ∙ by q (eq_by_cmp dot_cmp q d) refl)
    where
      by : (q : Dot) (b : Bool) → eq_by_cmp dot_cmp q d ≡ b → cond b None (map.get (map.insert m d e) q) ≡ map.get m q
      by q true t = sym (ap (map.get m) (tied q d t) ∙ none)
      by q false t = at_put q false t

-- ---- one less

module _ (m : ByDot) (d : Dot) (e : Entry) (there : map.get m d ≡ Some e) where
  at_take : (q : Dot) (b : Bool) → eq_by_cmp dot_cmp q d ≡ b → map.get (map.remove m d) q ≡ cond b None (map.get m q)
  at_take q b t = map.get-remove dot_cmp_total m d q ∙ ap (λ a. cond a None (map.get m q)) t

  from_take : (f c : List ℕ) → Stands (map.remove m d) c (Some f) → Stands m c (Some f)
  from_take f c (q, s) = by (eq_by_cmp dot_cmp q d) refl
    where
      by : (b : Bool) → eq_by_cmp dot_cmp q d ≡ b → Stands m c (Some f)
      by true t = absurd (let no : stands_as c (Some f) None ≡ true = ap (stands_as c (Some f)) (sym (at_take q true t)) ∙ s in cc)
      by false t = (q, ap (stands_as c (Some f)) (sym (at_take q false t)) ∙ s)

  take_old : (f c : List ℕ) → Stands m c (Some f) → (is_of c (Some f) e ≡ true) ⊎ Stands (map.remove m d) c (Some f)
  take_old f c (q, s) = by (eq_by_cmp dot_cmp q d) refl
    where
      by : (b : Bool) → eq_by_cmp dot_cmp q d ≡ b → (is_of c (Some f) e ≡ true) ⊎ Stands (map.remove m d) c (Some f)
      by true t = inl (ap (stands_as c (Some f)) (sym (ap (map.get m) (tied q d t) ∙ there)) ∙ s)
      by false t = inr (q, ap (stands_as c (Some f)) (at_take q false t) ∙ s)

  module _ (v : Seats) (at : AreSeated m v) where
    -- nothing else stands of the client and to the filter
    pub seated_gone : (Stands (map.remove m d) e.client (Some e.filter) → ⊥) → AreSeated (map.remove m d) (set.remove v (e.filter, e.client))
    seated_gone last f c = (
      (λ h. (let split = sym (set.contains-remove seats_total v (e.filter, e.client) (f, c)) ∙ h in
          let old = (at f c).0 (and_second _ _ split) in (old.0, stays (not_true _ (and_first _ _ split)) (take_old f c old.1)))),
      (λ h. set.contains-remove seats_total v (e.filter, e.client) (f, c) ∙ here h.1 (eq_by_cmp (pair_cmp text_cmp text_cmp) (f, c) (e.filter, e.client)) refl ((at f c).1 (h.0, from_take f c h.1))),
    )
      where
        stays : eq_by_cmp (pair_cmp text_cmp text_cmp) (f, c) (e.filter, e.client) ≡ false → (is_of c (Some f) e ≡ true) ⊎ Stands (map.remove m d) c (Some f) → Stands (map.remove m d) c (Some f)
        stays apart (inl h) = (let is = of_entry f c e h in absurd (clash _ (entry_is f c e is.0 is.1) apart))
        stays apart (inr s) = s

        here : Stands (map.remove m d) c (Some f) → (b : Bool) → eq_by_cmp (pair_cmp text_cmp text_cmp) (f, c) (e.filter, e.client) ≡ b → set.contains v (f, c) ≡ true → (not b && set.contains v (f, c)) ≡ true
        here s true t h = (let is = is_entry f c e t in absurd (last (subst (λ (x : List ℕ × List ℕ). Stands (map.remove m d) x.1 (Some x.0)) (λ i. (is.0 i, is.1 i)) s)))
        here s false t h = h

    -- something else does, or the filter is a plain one
    pub seated_left : (IsShared e.filter → ⊥) ⊎ Stands (map.remove m d) e.client (Some e.filter) → AreSeated (map.remove m d) v
    seated_left other f c = (
      (λ h. (let old = (at f c).0 h in (old.0, stays other old.0 (take_old f c old.1)))),
      (λ h. (at f c).1 (h.0, from_take f c h.1)),
    )
      where
        stays : (IsShared e.filter → ⊥) ⊎ Stands (map.remove m d) e.client (Some e.filter) → IsShared f → (is_of c (Some f) e ≡ true) ⊎ Stands (map.remove m d) c (Some f) → Stands (map.remove m d) c (Some f)
        stays other sh (inr s) = s
        stays (inl plain) sh (inl h) = absurd (plain (subst IsShared (of_entry f c e h).0 sh))
        stays (inr s) sh (inl h) = (let is = of_entry f c e h in subst (λ (x : List ℕ × List ℕ). Stands (map.remove m d) x.1 (Some x.0)) (λ i. (sym is.0 i, sym is.1 i)) s)

-- there is none to take
pub seated_none : (m : ByDot) (d : Dot) (v : Seats) → map.get m d ≡ None → AreSeated m v → AreSeated (map.remove m d) v
seated_none m d v none at = subst (λ x. AreSeated x v) (sym (remove_absent dot_cmp_total dot_cmp_antisym m d none)) at

none_stands : (m : ByDot) (c f : List ℕ) → m ≡ map.empty → Stands m c (Some f) → ⊥
none_stands m c f empty (d, s) = (let no : stands_as c (Some f) None ≡ true = ap (stands_as c (Some f)) (sym (ap (λ x. map.get x d) empty ∙ map.get-empty dot_cmp d)) ∙ s in cc)

pub seated_new : (m : ByDot) (v : Seats) → m ≡ map.empty → v ≡ set.empty → AreSeated m v
seated_new m v a b f c = (
  (λ h. absurd (clash _ h (ap (λ s. set.contains s (f, c)) b ∙ set.contains-empty (pair_cmp text_cmp text_cmp) (f, c)))),
  (λ h. absurd (none_stands m c f a h.1)),
)

-- ---- what the code does

-- a plain one is put in, or memory is refused
pub seated_by : {A E : Type 0} (r : Result A E) (m n : ByDot) (d : Dot) (e : Entry) (v : Seats) → map.get m d ≡ None → (IsShared e.filter → ⊥) → OnOk r (n ≡ map.insert m d e) → OnErr r (n ≡ m) → AreSeated m v → AreSeated n v
seated_by (Ok a) m n d e v none plain ok err at = subst (λ x. AreSeated x v) (sym ok) (seated_beside m d e none v at plain)
seated_by (Err a) m n d e v none plain ok err at = subst (λ x. AreSeated x v) (sym err) at

module _ (m : ByDot) (c f : List ℕ) where
  pub stood_none : (r : Option (Bor Dots)) → MatchOption r ((d : Dot) → stands_as c (Some f) (map.get m d) ≡ false) (λ s. IsStanding m c (Some f) s.now) → is_some r ≡ false → Stands m c (Some f) → ⊥
  stood_none None h e s = clash _ s.1 (h s.0)
  stood_none (Some x) h e s = (let no : true ≡ false = e in cc)

  pub stood_some : (r : Option (Bor Dots)) → MatchOption r ((d : Dot) → stands_as c (Some f) (map.get m d) ≡ false) (λ s. IsStanding m c (Some f) s.now) → is_some r ≡ true → Stands m c (Some f)
  stood_some None h e = cc
  stood_some (Some x) h e = h.some

-- ---- whose turn it is

one_rises : (c : List ℕ) → IsStrictlySortedBy text_cmp (c ∷ [])
unfolding IsStrictlySortedBy
one_rises c = (tt, tt)

-- nothing stands to the filter
pub nobody : (m : ByDot) (f : List ℕ) (turn : ℕ) → ((c : List ℕ) → Stands m c (Some f) → ⊥) → IsInTurn m f turn None
nobody m f turn none = record { clients = []; rise = none_rises text_total text_anti; same = λ c. ((λ h. cc), (λ s. absurd (none c s))); place = refl }

pub nobody_at_all : (f : List ℕ) (turn : ℕ) → IsInTurn map.empty f turn None
nobody_at_all f turn = nobody map.empty f turn (λ c s. none_stands map.empty c f refl s)

module _ (m : ByDot) (v : Seats) (at : AreSeated m v) (f : List ℕ) (shared : IsShared f) where
  pub none_seated : (turn : ℕ) → ((c : List ℕ) → set.contains v (f, c) ≡ false) → IsInTurn m f turn None
  none_seated turn none = nobody m f turn (λ c s. clash _ ((at f c).1 (shared, s)) (none c))

  pub some_seated : (s : Clients) (turn : ℕ) (client : Option (List ℕ)) → IsGroup text_cmp text_cmp v f s → IsTaken s turn client → IsInTurn m f turn client
  some_seated s turn client g t =
      let is : (c : List ℕ) → list_any (eq_by_cmp text_cmp c) t.clients ≡ set.contains v (f, c) = λ c. sym (set.contains-from_list text_total t.clients c) ∙ ap (λ x. set.contains x c) t.same ∙ g.same c in
      record {
        clients = t.clients;
        rise = t.rise;
        same = λ c. ((λ h. ((at f c).0 (sym (is c) ∙ h)).1), (λ st. is c ∙ (at f c).1 (shared, st)));
        place = t.place;
      }

-- ---- one entry

module _ (x : Dot × Entry) (f : List ℕ) where
  pub alone_not_in_turn : (turn : ℕ) → same_text f x.1.filter ≡ false → IsInTurn (alone x) f turn None
  alone_not_in_turn turn other = nobody (alone x) f turn (λ c s. clash _ (and_second _ _ (and_second _ _ (sym (stands_at x c (Some f) s.0) ∙ s.1))) other)

  pub alone_in_turn : (turn : ℕ) → same_text f x.1.filter ≡ true → IsInTurn (alone x) f turn (Some x.1.client)
  alone_in_turn turn own = record {
    clients = x.1.client ∷ [];
    rise = one_rises x.1.client;
    same = λ c. (
      (λ h. (x.0, stands_at x c (Some f) x.0 ∙ (λ i. is_eq (tied_itself dot_cmp_total x.0 i) && (is c h i && own i)))),
      (λ s. back c (and_first _ _ (and_second _ _ (sym (stands_at x c (Some f) s.0) ∙ s.1)))),
    );
    place = ap (slice_get (x.1.client ∷ [])) (first turn);
  }
    where
      or_false : (b : Bool) → (b || false) ≡ b
      or_false true = refl
      or_false false = refl

      is : (c : List ℕ) → (eq_by_cmp text_cmp c x.1.client || false) ≡ true → same_text c x.1.client ≡ true
      is c h = sym (text_eq c x.1.client) ∙ sym (or_false (eq_by_cmp text_cmp c x.1.client)) ∙ h

      back : (c : List ℕ) → same_text c x.1.client ≡ true → (eq_by_cmp text_cmp c x.1.client || false) ≡ true
      back c h = or_false (eq_by_cmp text_cmp c x.1.client) ∙ text_eq c x.1.client ∙ h

      first : (turn : ℕ) → 0 ≡ turn % 1
      first turn = omega arith
