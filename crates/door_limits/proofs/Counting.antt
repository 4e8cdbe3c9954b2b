-- How many connections are open.
use Rattle.std.proofs.Common.{◌≡◌, ◌≤◌, ◌+◌, ◌-◌, ◌==◌, ◌&&◌, ◌||◌, ℕ, zero, suc, Bool, true, false, cond, not, List, [], ◌∷◌, Option, Some, None, is_some, nat_cmp, refl, sym, ap, ◌∙◌, length, arith}
use Rattle.std.specs.Cmp.{nat_cmp_total, unsigned_tied}
use Rattle.std.specs.FinMap as map
use Rattle.std.specs.List.{AllByRecursion}
use Rattle.std.specs.Ordering.{eq_by_cmp}
use Rattle.broker_sockets.specs.declared.events.EventKind.{EventKind}
use Rattle.broker_sockets.specs.declared.events.EventKind.TheVariants.{Started, Opened, Piece, Room, Closed, Tick}
use Rattle.broker_sockets.specs.declared.events.Output.{Output}
use Rattle.broker_sockets.specs.declared.events.Output.TheVariants.{Send, Close}
use Rattle.door_limits.specs.Answering.{met_kind}
use Rattle.door_limits.specs.Calls.{AreApart, open_by, open_past}
use Rattle.door_limits.specs.Connected.{Connected, after, after_one, answered, answered_if}

-- ---- fewer, or as many

at_most_one : (b : Bool) (n : ℕ) → cond b n (n + 1) ≤ n + 1
at_most_one true n = omega arith
at_most_one false n = omega arith

pub added_len : (known : Connected) (c : ℕ) (v : Option ℕ) → map.len (map.insert known c v) ≤ map.len known + 1
added_len known c v =
    let is : map.len (map.insert known c v) ≡ cond (map.contains_key known c) (map.len known) (map.len known + 1) = map.len-insert nat_cmp_total known c v in
    let most : cond (map.contains_key known c) (map.len known) (map.len known + 1) ≤ map.len known + 1 = at_most_one (map.contains_key known c) (map.len known) in
    omega (arith, is, most)

no_more : (b : Bool) (n : ℕ) → cond b (n - 1) n ≤ n
no_more true n = omega arith
no_more false n = omega arith

pub removed_len : (known : Connected) (c : ℕ) → map.len (map.remove known c) ≤ map.len known
removed_len known c =
    let is : map.len (map.remove known c) ≡ cond (map.contains_key known c) (map.len known - 1) (map.len known) = map.len-remove nat_cmp_total known c in
    let most : cond (map.contains_key known c) (map.len known - 1) (map.len known) ≤ map.len known = no_more (map.contains_key known c) (map.len known) in
    omega (arith, is, most)

pub answered_len : (known : Connected) (c : ℕ) → map.len (answered c known) ≡ map.len known
answered_len known c = by (map.get known c) refl
  where
    by : (r : Option (Option ℕ)) → map.get known c ≡ r → map.len (answered_if r c known) ≡ map.len known
    by None is = refl
    by (Some None) is = refl
    by (Some (Some since)) is =
        map.len-insert nat_cmp_total known c None ∙ ap (λ b. cond b (map.len known) (map.len known + 1)) (ap is_some is)

one_len : (output : Output) (known : Connected) → map.len (after_one output known) ≤ map.len known
one_len (Send connection bytes) known = let same : map.len (answered connection known) ≡ map.len known = answered_len known connection in omega (arith, same)
one_len (Close connection) known = removed_len known connection

pub after_len : (outputs : List Output) (known : Connected) → map.len (after outputs known) ≤ map.len known
after_len [] known = omega arith
after_len (output ∷ more) known =
    let first : map.len (after_one output known) ≤ map.len known = one_len output known in
    let rest : map.len (after more (after_one output known)) ≤ map.len (after_one output known) = after_len more (after_one output known) in
    omega (arith, first, rest)

-- one that is open is one
pub some_open : (known : Connected) (c : ℕ) → map.contains_key known c ≡ true → 1 ≤ map.len known
some_open known c there = by (map.len known) refl
  where
    by : (n : ℕ) → map.len known ≡ n → 1 ≤ map.len known
    by zero none =
        let empty : known ≡ map.empty = map.empty_of_len known none in
        let nobody : map.contains_key known c ≡ false = ap (λ (m : Connected). map.contains_key m c) empty ∙ ap is_some (map.get-empty nat_cmp c) in
        absurd (let z : true ≡ false = sym there ∙ nobody in cc)
    by (suc n) is = omega (arith, is)

pub left_len : (known : Connected) (c : ℕ) → map.contains_key known c ≡ true → map.len (map.remove known c) + 1 ≡ map.len known
left_len known c there =
    let is : map.len (map.remove known c) ≡ map.len known - 1 =
    map.len-remove nat_cmp_total known c ∙ ap (λ b. cond b (map.len known - 1) (map.len known)) there in
    let some : 1 ≤ map.len known = some_open known c there in
    omega (arith, is, some)

-- ---- which are open

some_or : (b : Bool) (x : Option ℕ) (t : Option (Option ℕ)) → is_some (cond b (Some x) t) ≡ (b || is_some t)
some_or true x t = refl
some_or false x t = refl

pub open_added : (known : Connected) (k : ℕ) (v : Option ℕ) (c : ℕ) → map.contains_key (map.insert known k v) c ≡ ((c == k) || map.contains_key known c)
open_added known k v c =
    ap is_some (map.get-insert nat_cmp_total known k v c) ∙ some_or (eq_by_cmp nat_cmp c k) v (map.get known c)
    ∙ ap (λ b. b || map.contains_key known c) (unsigned_tied c k)

none_or : (b : Bool) (t : Option (Option ℕ)) → is_some (cond b None t) ≡ (not b && is_some t)
none_or true t = refl
none_or false t = refl

pub open_removed : (known : Connected) (k c : ℕ) → map.contains_key (map.remove known k) c ≡ (not (c == k) && map.contains_key known c)
open_removed known k c =
    ap is_some (map.get-remove nat_cmp_total known k c) ∙ none_or (eq_by_cmp nat_cmp c k) (map.get known c)
    ∙ ap (λ b. not b && map.contains_key known c) (unsigned_tied c k)

either : (b d : Bool) → (b ≡ true → d ≡ true) → (b || d) ≡ d
either true d so = sym (so refl)
either false d so = refl

same_key : (known : Connected) (k c : ℕ) → map.contains_key known k ≡ true → (c == k) ≡ true → map.contains_key known c ≡ true
same_key known k c there tied = ap (map.contains_key known) (the_same c k tied) ∙ there
  where
    the_same : (a b : ℕ) → (a == b) ≡ true → a ≡ b
    the_same a b e = grind (arith, e)

pub open_answered : (known : Connected) (k c : ℕ) → map.contains_key (answered k known) c ≡ map.contains_key known c
open_answered known k c = by (map.get known k) refl
  where
    by : (r : Option (Option ℕ)) → map.get known k ≡ r → map.contains_key (answered_if r k known) c ≡ map.contains_key known c
    by None is = refl
    by (Some None) is = refl
    by (Some (Some since)) is = open_added known k None c ∙ either (c == k) (map.contains_key known c) (same_key known k c (ap is_some is))

pub open_through : (outputs : List Output) (known : Connected) (c : ℕ) → map.contains_key (after outputs known) c ≡ open_past c outputs (map.contains_key known c)
open_through [] known c = refl
open_through (Send connection bytes ∷ more) known c = open_through more (answered connection known) c ∙ ap (open_past c more) (open_answered known connection c)
open_through (Close connection ∷ more) known c = open_through more (map.remove known connection) c ∙ ap (open_past c more) (open_removed known connection c)

pub open_met : (at : ℕ) (kind : EventKind) (known : Connected) (c : ℕ) → map.contains_key (met_kind at kind known) c ≡ open_by c kind (map.contains_key known c)
open_met at Started known c = refl
open_met at (Opened connection) known c = open_added known connection (Some at) c
open_met at (Piece connection bytes) known c = refl
open_met at (Room connection bytes) known c = refl
open_met at (Closed connection) known c = open_removed known connection c
open_met at Tick known c = refl

-- ---- no more are open than are counted

kept : (b d : Bool) → b ≡ false → d ≡ true → (not b && d) ≡ true
kept true d off on = absurd (cc)
kept false d off on = on

rest_open : (known : Connected) (c : ℕ) (cs : List ℕ) → AllByRecursion (λ x. (x == c) ≡ false) cs → AllByRecursion (λ x. map.contains_key known x ≡ true) cs
    → AllByRecursion (λ x. map.contains_key (map.remove known c) x ≡ true) cs
rest_open known c [] apart there = tt
rest_open known c (x ∷ cs) apart there = (open_removed known c x ∙ kept (x == c) (map.contains_key known x) apart.0 there.0, rest_open known c cs apart.1 there.1)

pub apart_len : (known : Connected) (cs : List ℕ) → AreApart cs → AllByRecursion (λ c. map.contains_key known c ≡ true) cs → length cs ≤ map.len known
apart_len known [] apart there = omega arith
apart_len known (c ∷ cs) apart there =
    let less : length cs ≤ map.len (map.remove known c) = apart_len (map.remove known c) cs apart.1 (rest_open known c cs apart.0 there.1) in
    let one : map.len (map.remove known c) + 1 ≡ map.len known = left_len known c there.0 in
    grind (arith, less, one)
