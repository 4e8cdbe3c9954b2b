-- Those that wait are kept just as they are known.
use Rattle.std.proofs.Common.{◌≡◌, ◌≤◌, ◌<◌, ◌+◌, ℕ, Bool, true, false, cond, List, [], Option, Some, None, nat_cmp, Less, Equal, Greater, refl, sym, ap, ◌∙◌, arith, IsTrue}
use Rattle.std.proofs.lemmas.Bool.Decides.{nat_tests}
use Rattle.std.specs.Cmp.{Equal-is, nat_cmp_total, tied_itself}
use Rattle.std.specs.FinMap.{nat_cmp-IsAntisymmetric}
use Rattle.std.specs.FinMap as map
use Rattle.std.specs.List.{list_any}
use Rattle.std.specs.Map.{lookup}
use Rattle.std.specs.Ordering.{is_eq, is_gt, ordering_then}
use Rattle.std.specs.declared.cmp.Ordering.{Ordering}
use Rattle.law_maps.proofs.Tables.{get_table}
use Rattle.door_limits.specs.Connected.{AreWaiting, IsLate, NoneIsLate, by_moment, waits_since}

abbrev pub has : List (ℕ × ℕ) → ℕ × ℕ → Bool
has waiting q = list_any (λ p. is_eq (by_moment q p)) waiting

abbrev pub state : List (ℕ × Option ℕ) → ℕ → Option (Option ℕ)
state known connection = lookup (λ q. is_eq (nat_cmp connection q)) known

same_number : (a b : ℕ) → is_eq (nat_cmp a b) ≡ true → a ≡ b
same_number a b is = nat_cmp-IsAntisymmetric a b ((Equal-is (nat_cmp a b)).0 is)

itself : (a : ℕ) → is_eq (nat_cmp a a) ≡ true
itself a = ap is_eq (tied_itself nat_cmp_total a)

-- ---- one is put in

put_in : (at since : ℕ) (o p : Ordering) (h : Bool) (t : Option (Option ℕ)) → is_eq o ≡ waits_since at (Some (Some since)) → h ≡ waits_since at t
    → (is_eq p ≡ true → waits_since at t ≡ false) → cond (is_eq (ordering_then o p)) true h ≡ waits_since at (cond (is_eq p) (Some (Some since)) t)
put_in at since Less Less h t first so none = so
put_in at since Less Equal h t first so none = so ∙ none refl ∙ first
put_in at since Less Greater h t first so none = so
put_in at since Equal Less h t first so none = so
put_in at since Equal Equal h t first so none = first
put_in at since Equal Greater h t first so none = so
put_in at since Greater Less h t first so none = so
put_in at since Greater Equal h t first so none = so ∙ none refl ∙ first
put_in at since Greater Greater h t first so none = so

pub waits_more : (known known' : List (ℕ × Option ℕ)) (waiting waiting' : List (ℕ × ℕ)) (connection since : ℕ) → AreWaiting known waiting
    → ((at : ℕ) → waits_since at (state known connection) ≡ false)
    → ((q : ℕ × ℕ) → has waiting' q ≡ cond (is_eq (by_moment (since, connection) q)) true (has waiting q))
    → ((q : ℕ) → state known' q ≡ cond (is_eq (nat_cmp connection q)) (Some (Some since)) (state known q)) → AreWaiting known' waiting'
waits_more known known' waiting waiting' connection since are none put is at q =
    put (at, q)
    ∙ put_in at since (nat_cmp since at) (nat_cmp connection q) (has waiting (at, q)) (state known q) refl (are at q)
    (λ tied. ap (λ k. waits_since at (state known k)) (sym (same_number connection q tied)) ∙ none at)
    ∙ ap (waits_since at) (sym (is q))

-- ---- one is taken out

taken_out : (at since : ℕ) (o p : Ordering) (h : Bool) (t x : Option (Option ℕ)) → is_eq o ≡ waits_since at (Some (Some since)) → h ≡ waits_since at t
    → (is_eq p ≡ true → t ≡ Some (Some since)) → waits_since at x ≡ false → cond (is_eq (ordering_then o p)) false h ≡ waits_since at (cond (is_eq p) x t)
taken_out at since Less Less h t x first so is none = so
taken_out at since Less Equal h t x first so is none = so ∙ ap (waits_since at) (is refl) ∙ sym first ∙ sym none
taken_out at since Less Greater h t x first so is none = so
taken_out at since Equal Less h t x first so is none = so
taken_out at since Equal Equal h t x first so is none = sym none
taken_out at since Equal Greater h t x first so is none = so
taken_out at since Greater Less h t x first so is none = so
taken_out at since Greater Equal h t x first so is none = so ∙ ap (waits_since at) (is refl) ∙ sym first ∙ sym none
taken_out at since Greater Greater h t x first so is none = so

-- x: what is known of it from then on
pub waits_less : (known known' : List (ℕ × Option ℕ)) (waiting waiting' : List (ℕ × ℕ)) (connection since : ℕ) (x : Option (Option ℕ)) → AreWaiting known waiting
    → state known connection ≡ Some (Some since) → ((at : ℕ) → waits_since at x ≡ false)
    → ((q : ℕ × ℕ) → has waiting' q ≡ cond (is_eq (by_moment (since, connection) q)) false (has waiting q))
    → ((q : ℕ) → state known' q ≡ cond (is_eq (nat_cmp connection q)) x (state known q)) → AreWaiting known' waiting'
waits_less known known' waiting waiting' connection since x are was none left is at q =
    left (at, q)
    ∙ taken_out at since (nat_cmp since at) (nat_cmp connection q) (has waiting (at, q)) (state known q) x refl (are at q)
    (λ tied. ap (state known) (sym (same_number connection q tied)) ∙ was) (none at)
    ∙ ap (waits_since at) (sym (is q))

-- ---- one doesn't wait before and after

unmoved : (at : ℕ) (p : Ordering) (h : Bool) (t x : Option (Option ℕ)) → h ≡ waits_since at t → (is_eq p ≡ true → waits_since at t ≡ false) → waits_since at x ≡ false
    → h ≡ waits_since at (cond (is_eq p) x t)
unmoved at Less h t x so none then = so
unmoved at Equal h t x so none then = so ∙ none refl ∙ sym then
unmoved at Greater h t x so none then = so

pub waits_same : (known known' : List (ℕ × Option ℕ)) (waiting : List (ℕ × ℕ)) (connection : ℕ) (x : Option (Option ℕ)) → AreWaiting known waiting
    → ((at : ℕ) → waits_since at (state known connection) ≡ false) → ((at : ℕ) → waits_since at x ≡ false)
    → ((q : ℕ) → state known' q ≡ cond (is_eq (nat_cmp connection q)) x (state known q)) → AreWaiting known' waiting
waits_same known known' waiting connection x are none then is at q =
    unmoved at (nat_cmp connection q) (has waiting (at, q)) (state known q) x (are at q)
    (λ tied. ap (λ k. waits_since at (state known k)) (sym (same_number connection q tied)) ∙ none at) (then at)
    ∙ ap (waits_since at) (sym (is q))

-- ---- who is late

waits_there : (at : ℕ) (t : Option (Option ℕ)) → waits_since at t ≡ true → t ≡ Some (Some at)
waits_there at None is = cc
waits_there at (Some None) is = cc
waits_there at (Some (Some since)) is = ap (λ n. Some (Some n)) (same_number since at is)

-- the first of those that wait, if it waits for long enough
pub first_late : (known : List (ℕ × Option ℕ)) (waiting : List (ℕ × ℕ)) (within at : ℕ) (p : ℕ × ℕ) → AreWaiting known waiting → has waiting p ≡ true
    → p.0 + within ≤ at → IsLate (Some within) at (map.from_entries known) p.1
first_late known waiting within at p are there long = (p.0, get_table nat_cmp_total known p.1 ∙ waits_there p.0 (state known p.1) (sym (are p.0 p.1) ∙ there), long)

late_there : (known : List (ℕ × Option ℕ)) (waiting : List (ℕ × ℕ)) (connection since : ℕ) → AreWaiting known waiting
    → map.get {R = nat_cmp} (map.from_entries known) connection ≡ Some (Some since) → has waiting (since, connection) ≡ true
late_there known waiting connection since are is =
    are since connection ∙ ap (waits_since since) (sym (get_table nat_cmp_total known connection) ∙ is) ∙ itself since

-- nobody waits
pub none_waits : (known : List (ℕ × Option ℕ)) (waiting : List (ℕ × ℕ)) (within at : ℕ) → AreWaiting known waiting → waiting ≡ []
    → NoneIsLate (Some within) at (map.from_entries known)
none_waits known waiting within at are none connection late =
    let there : has waiting (late.0, connection) ≡ true = late_there known waiting connection late.0 are late.1 in
    let nobody : has waiting (late.0, connection) ≡ false = ap (λ w. has w (late.0, connection)) none in
    cc

not_after : (p q : ℕ × ℕ) → is_gt (by_moment p q) ≡ false → p.0 ≤ q.0
not_after p q is = by (nat_cmp p.0 q.0) refl is
  where
    by : (o : Ordering) → nat_cmp p.0 q.0 ≡ o → is_gt (ordering_then o (nat_cmp p.1 q.1)) ≡ false → p.0 ≤ q.0
    by Less e g = grind (arith, nat_tests)
    by Equal e g = grind (arith, nat_tests)
    by Greater e g = absurd (let z : true ≡ false = g in cc)

-- the first of those that wait doesn't wait for long enough, so that none does
pub first_early : (known : List (ℕ × Option ℕ)) (waiting : List (ℕ × ℕ)) (within at : ℕ) (p : ℕ × ℕ) → AreWaiting known waiting
    → ((q : ℕ × ℕ) → IsTrue (has waiting q) → is_gt (by_moment p q) ≡ false) → at < p.0 + within → NoneIsLate (Some within) at (map.from_entries known)
first_early known waiting within at p are least early connection late =
    let there : has waiting (late.0, connection) ≡ true = late_there known waiting connection late.0 are late.1 in
    let before : p.0 ≤ late.0 = not_after p (late.0, connection) (least (late.0, connection) there) in
    let long : late.0 + within ≤ at = late.2 in
    omega (arith, before, long, early)
