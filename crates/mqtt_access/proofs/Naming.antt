-- One rule more of a user.
use Rattle.std.proofs.Common.{◌≡◌, ℕ, zero, suc, get_or, ◌<◌, Bool, true, false, ◌||◌, ◌&&◌, cond, List, [], ◌∷◌, ◌++◌, length, take, drop, set, Option, Some, None, Vec, refl, sym, ap, subst, ◌∙◌, arith}
use Rattle.std.specs.Prelude.{◌==◌, slice_get}
use Rattle.std.specs.declared.alloc.Global.{Global}
use Rattle.std.proofs.Math.Seq.{drop-cons}
use Rattle.std.proofs.lemmas.Bool.{eqb-true}
use Rattle.std.proofs.lemmas.Option.{slice_get-get_or}
use Rattle.std.specs.List.{remove}
use Rattle.std.specs.Str.{bytes_eq}
use Rattle.mqtt_topics.specs.Levels.{levels}
use Rattle.mqtt_access.specs.Named.{IsAddedFor, IsJoined, IsTaken, among, first_named, number_of, rules_of, users_at}
use Rattle.mqtt_access.specs.Own.{IsAdded, own_forbids, own_gives}
use Rattle.mqtt_access.specs.Rules.{Asked, is_deny, meets_asked, passes, suits}
use Rattle.mqtt_access.specs.declared.named.NamedRules.{NamedRules}
use Rattle.mqtt_access.specs.declared.named.UserRules.{UserRules}
use Rattle.mqtt_access.specs.declared.own.OwnRules.{OwnRules}
use Rattle.mqtt_access.specs.declared.rule.Access.{Access}
use Rattle.mqtt_access.proofs.Tests.{by_test, same, tests_same}

-- ---- the first of a name is taken out

keeps : (name other : List ℕ) → bytes_eq name other ≡ false → (own : List ℕ) → bytes_eq own name ≡ true → bytes_eq own other ≡ false
keeps name other apart own is = subst (λ (x : List ℕ). bytes_eq x other ≡ false) (sym (same own name is)) apart

without : (i : ℕ) (us : List UserRules) (d : UserRules) (name other : List ℕ) → i < length us → bytes_eq (get_or us i d).name name ≡ true → bytes_eq name other ≡ false
    → first_named other (take i us ++ drop (suc i) us) ≡ first_named other us
without i [] d name other lt is apart = absurd (omega (arith, lt))
without zero (u ∷ us) d name other lt is apart = sym (ap (λ (b : Bool). cond b (Some u.rules) (first_named other us)) (keeps name other apart u.name is))
without (suc i) (u ∷ us) d name other lt is apart = ap (λ (o : Option OwnRules). cond (bytes_eq u.name other) (Some u.rules) o) (without i us d name other (omega (arith, lt)) is apart)

pub taken_none : (name : List ℕ) (us us' : List UserRules) → us' ≡ us → None ≡ first_named name us → IsTaken name us us' None
taken_none name us us' stays found = record { found = found; others = λ other apart. ap (first_named other) stays }

pub taken_some : (name : List ℕ) (us us' : List UserRules) (i : ℕ) (u : UserRules) → i < length us → bytes_eq (get_or us i u).name name ≡ true → u ≡ get_or us i u → us' ≡ remove us i → first_named name (drop i us) ≡ first_named name us
    → IsTaken name us us' (Some u.rules)
taken_some name us us' i u lt is taken rest same_here =
    let one : first_named name (drop i us) ≡ Some (get_or us i u).rules =
    ap (first_named name) (drop-cons us i u lt) ∙ ap (λ (b : Bool). cond b (Some (get_or us i u).rules) (first_named name (drop (suc i) us))) is in
    record {
      found = sym (sym same_here ∙ one ∙ ap (λ (x : UserRules). Some x.rules) (sym taken));
      others = λ other apart. ap (first_named other) rest ∙ without i us u name other lt is apart;
    }

at_same : (i : ℕ) (us : List UserRules) (a b : UserRules) → i < length us → get_or us i a ≡ get_or us i b
at_same i [] a b lt = absurd (omega (arith, lt))
at_same zero (u ∷ us) a b lt = refl
at_same (suc i) (u ∷ us) a b lt = at_same i us a b (omega (arith, lt))

pub taken_at : (name : List ℕ) (us us' : List UserRules) (i : ℕ) (u v : UserRules) → i < length us → v ≡ get_or us i v → bytes_eq v.name name ≡ true → u ≡ get_or us i u → us' ≡ remove us i → first_named name (drop i us) ≡ first_named name us
    → IsTaken name us us' (Some u.rules)
taken_at name us us' i u v lt at is taken rest same_here =
    let here : v ≡ get_or us i u = at ∙ at_same i us v u lt in
    taken_some name us us' i u lt (subst (λ (x : UserRules). bytes_eq x.name name ≡ true) here is) taken rest same_here

-- ---- one rule more is put in front

joined : (name : List ℕ) (access : Access) (filter : List ℕ) (us vs : List UserRules) (o : Option OwnRules) (rules : OwnRules) → IsTaken name us vs o → IsAdded access filter o (Some rules)
    → IsJoined name access filter us (record { name = name; rules = rules } ∷ vs)
joined name access filter us vs o rules t is = record {
  here =
      subst (λ (x : Option OwnRules). IsAdded access filter x (first_named name (record { name = name; rules = rules } ∷ vs))) t.found
      (subst (λ (x : Option OwnRules). IsAdded access filter o x) (sym (ap (λ (b : Bool). cond b (Some rules) (first_named name vs)) (tests_same name name refl))) is);
  there = λ other apart. ap (λ (b : Bool). cond b (Some rules) (first_named other vs)) apart ∙ t.others other apart;
}

first_put : (access : Access) (filter : List ℕ) (g g' : OwnRules) → ((asked : Asked) → own_gives g asked ≡ false) → ((asked : Asked) → own_forbids g asked ≡ false) → IsAdded access filter (Some g) (Some g') → IsAdded access filter None (Some g')
first_put access filter g g' none_gives none_forbids is = record {
  gives = λ asked. is.gives asked ∙ ap (λ (b : Bool). b || (suits access asked && passes (levels filter) asked)) (none_gives asked);
  forbids = λ asked. is.forbids asked ∙ ap (λ (b : Bool). b || (is_deny access && meets_asked (levels filter) asked)) (none_forbids asked);
}

pub joined_some : (name : List ℕ) (access : Access) (filter : List ℕ) (us vs ws : List UserRules) (g g' : OwnRules) → IsTaken name us vs (Some g) → IsAdded access filter (Some g) (Some g') → ws ≡ record { name = name; rules = g' } ∷ vs
    → IsJoined name access filter us ws
joined_some name access filter us vs ws g g' t is e = subst (λ (xs : List UserRules). IsJoined name access filter us xs) (sym e) (joined name access filter us vs (Some g) g' t is)

pub joined_none : (name : List ℕ) (access : Access) (filter : List ℕ) (us vs ws : List UserRules) (g g' : OwnRules) → IsTaken name us vs None → ((asked : Asked) → own_gives g asked ≡ false) → ((asked : Asked) → own_forbids g asked ≡ false)
    → IsAdded access filter (Some g) (Some g') → ws ≡ record { name = name; rules = g' } ∷ vs → IsJoined name access filter us ws
joined_none name access filter us vs ws g g' t none_gives none_forbids is e =
    subst (λ (xs : List UserRules). IsJoined name access filter us xs) (sym e) (joined name access filter us vs None g' t (first_put access filter g g' none_gives none_forbids is))

-- ---- among those whose names have the same number

get_same : {X : Type 0} (xs : List X) (i : ℕ) (x : X) → i < length xs → slice_get (set xs i x) i ≡ Some x
get_same [] i x lt = absurd (omega (arith, lt))
get_same (y ∷ ys) zero x lt = refl
get_same (y ∷ ys) (suc i) x lt = get_same ys i x (omega (arith, lt))

get_other : {X : Type 0} (xs : List X) (i j : ℕ) (x : X) → (i == j) ≡ false → slice_get (set xs i x) j ≡ slice_get xs j
get_other [] i j x apart = refl
get_other (y ∷ ys) zero zero x apart = absurd cc
get_other (y ∷ ys) zero (suc j) x apart = refl
get_other (y ∷ ys) (suc i) zero x apart = refl
get_other (y ∷ ys) (suc i) (suc j) x apart = get_other ys i j x (pred_apart i j apart)
  where
    pred_apart : (i j : ℕ) → (suc i == suc j) ≡ false → (i == j) ≡ false
    pred_apart i j e = grind arith

empty_more : (xs : List (Vec UserRules Global)) (v : Vec UserRules Global) (n : ℕ) → v.items ≡ [] → among (slice_get (xs ++ v ∷ []) n) ≡ among (slice_get xs n)
empty_more [] v zero none = none
empty_more [] v (suc n) none = refl
empty_more (x ∷ xs) v zero none = refl
empty_more (x ∷ xs) v (suc n) none = empty_more xs v n none

-- an empty place more
pub still_same : (t u : NamedRules) (v : Vec UserRules Global) (n : ℕ) → v.items ≡ [] → u.users.items ≡ t.users.items ++ v ∷ [] → users_at u n ≡ users_at t n
still_same t u v n none more = ap (λ (xs : List (Vec UserRules Global)). among (slice_get xs n)) more ∙ empty_more t.users.items v n none

pub added : (name : List ℕ) (access : Access) (filter : List ℕ) (t u v : NamedRules) (n : ℕ) (before after : Vec UserRules Global) → n ≡ number_of name → ((k : ℕ) → users_at u k ≡ users_at t k) → n < length u.users.items
    → before ≡ get_or u.users.items n before → v.users.items ≡ set u.users.items n after → IsJoined name access filter before.items after.items → IsAddedFor name access filter t v
added name access filter t u v n before after is same lt was now j =
    let xs : List (Vec UserRules Global) = u.users.items in
    let there : users_at u n ≡ before.items = ap among (slice_get-get_or xs n before lt ∙ ap Some (sym was)) in
    let here : users_at v n ≡ after.items = ap (λ (ys : List (Vec UserRules Global)). among (slice_get ys n)) now ∙ ap among (get_same xs n after lt) in
    let first : rules_of t name ≡ first_named name before.items = ap (first_named name) (ap (users_at t) (sym is) ∙ sym (same n) ∙ there) in
    let last : rules_of v name ≡ first_named name after.items = ap (first_named name) (ap (users_at v) (sym is) ∙ here) in
    record {
      here = subst (λ (o : Option OwnRules). IsAdded access filter o (rules_of v name)) (sym first) (subst (λ (o : Option OwnRules). IsAdded access filter (first_named name before.items) o) (sym last) j.here);
      there = λ other apart. by_test (n == number_of other) (rules_of v other ≡ rules_of t other)
          (λ same_number.
          let it : n ≡ number_of other = eqb-true n (number_of other) same_number in
          ap (λ (k : ℕ). first_named other (users_at v k)) (sym it) ∙ ap (first_named other) here ∙ j.there other apart ∙ ap (first_named other) (sym there ∙ same n) ∙ ap (λ (k : ℕ). first_named other (users_at t k)) it)
          (λ other_number. ap (first_named other) (ap (λ (ys : List (Vec UserRules Global)). among (slice_get ys (number_of other))) now ∙ ap among (get_other xs n (number_of other) after other_number) ∙ same (number_of other)));
    }
