-- Sessions read one after the other.
use Rattle.std.proofs.Common.{◌≡◌, ℕ, Bool, true, false, cond, T, List, [], ◌∷◌, ◌++◌, Option, Some, None, Ordering, Less, Equal, Greater, refl, sym, ap, subst, ◌∙◌, append_assoc, append-nil, inl, inr}
use Rattle.std.specs.Cmp.{tied_itself}
use Rattle.std.specs.Cmp.Lexicographic.{slice_cmp, nat_list_cmp_total}
use Rattle.std.specs.FinMap.{is_sorted}
use Rattle.std.specs.FinMap as map
use Rattle.std.specs.List.{AllByRecursion}
use Rattle.std.specs.Option.{option_map}
use Rattle.std.specs.Ordering.{nat_cmp, ordering_then}
use Rattle.std.proofs.lemmas.Bool.{cases_Bool}
use Rattle.row_store.specs.Rows.{Key, key_cmp, Plain}
use Rattle.session_rows.specs.Durable.{Durable, IsDurable}
use Rattle.session_rows.specs.Rows.{main_key, copy_rows, rows_of}
use Rattle.session_table.specs.Seats.{Seats}
use Rattle.node_rows.specs.Sessions.{AreRead, AreSeated, AreSessions, IsOf, NoSession, NoSessions, StartsApart, own_row, own_rows, all_copies, opened_seat, session_at}
use Rattle.node_rows.proofs.Lists.{IsAbove, all_both, all_turned, sorted_back, sorted_head, sorted_tail}
use Rattle.node_rows.proofs.Clients.{IsAfter, client_is, clients_above, copies_of, same_client}

-- ---- rows of one client, and then of others
tail_of : Plain → List Plain → List Plain
tail_of first [] = []
tail_of first (e ∷ es) = es

head_of : Plain → List Plain → Plain
head_of first [] = first
head_of first (e ∷ es) = e

heads : (x y : Plain) (xs ys : List Plain) → x ∷ xs ≡ y ∷ ys → x ≡ y
unfolding head_of
heads x y xs ys is = ap (head_of x) is

tails : (x y : Plain) (xs ys : List Plain) → x ∷ xs ≡ y ∷ ys → xs ≡ ys
unfolding tail_of
tails x y xs ys is = ap (tail_of x) is

starts : (client : List ℕ) (e : Plain) (es ys : List Plain) → e ∷ es ≡ ys → IsOf client e → StartsApart client ys → ⊥
starts client e es [] is own apart = absurd (cc)
starts client e es (y ∷ ys) is own apart = apart (ap (λ (f : Plain). f.0.1.0) (sym (heads e y es ys is)) ∙ own)

cut_once : (client : List ℕ) (xs ys mine others : List Plain) → xs ++ ys ≡ mine ++ others → AllByRecursion (IsOf client) xs → AllByRecursion (IsOf client) mine → StartsApart client ys → StartsApart client others → (xs ≡ mine) × (ys ≡ others)
cut_once client [] ys [] others is a b c d = (refl, is)
cut_once client [] ys (m ∷ mine) others is a b c d = absurd (starts client m (mine ++ others) ys (sym is) b.0 c)
cut_once client (x ∷ xs) ys [] others is a b c d = absurd (starts client x (xs ++ ys) others is a.0 d)
cut_once client (x ∷ xs) ys (m ∷ mine) others is a b c d =
    let more = cut_once client xs ys mine others (tails x m (xs ++ ys) (mine ++ others) is) a.1 b.1 c d in
    ((λ i. heads x m (xs ++ ys) (mine ++ others) is i ∷ more.0 i), more.1)

-- ---- one more session
own_last : (ds : List Durable) (d : Durable) → own_rows (ds ++ d ∷ []) ≡ own_rows ds ++ own_row d ∷ []
own_last [] d = refl
own_last (x ∷ ds) d = ap (λ (es : List Plain). own_row x ∷ es) (own_last ds d)

copies_last : (ds : List Durable) (d : Durable) → all_copies (ds ++ d ∷ []) ≡ all_copies ds ++ copy_rows d.client d.copies
copies_last [] d = append-nil (copy_rows d.client d.copies)
copies_last (x ∷ ds) d = ap (λ (es : List Plain). copy_rows x.client x.copies ++ es) (copies_last ds d) ∙ sym (append_assoc (copy_rows x.client x.copies) (all_copies ds) (copy_rows d.client d.copies))

all_last : (ds : List Durable) (d : Durable) → AllByRecursion IsDurable ds → IsDurable d → AllByRecursion IsDurable (ds ++ d ∷ [])
all_last [] d are is = (is, tt)
all_last (x ∷ ds) d are is = (are.0, all_last ds d are.1 is)

session_last : (q : List ℕ) (ds : List Durable) (d : Durable) → session_at ds d.client ≡ None → session_at (ds ++ d ∷ []) q ≡ cond (same_client q d.client) (Some d) (session_at ds q)
session_last q [] d none = refl
session_last q (x ∷ ds) d none = elim (cases_Bool (same_client q x.client)) [
  | inl t ↦ elim (cases_Bool (same_client q d.client)) [
    | inl s ↦
        let same : d.client ≡ q = sym (client_is q d.client s) in
        absurd (let other : Some x ≡ None = rw (same, t) at none in cc)
    | inr s ↦ rw (t, s) refl
  ]
  | inr f ↦ rw f (session_last q ds d (after (same_client d.client x.client) x (session_at ds d.client) none))
]
  where
    after : (b : Bool) (x : Durable) (o : Option Durable) → cond b (Some x) o ≡ None → o ≡ None
    after true x o h = absurd cc
    after false x o h = h

-- ---- those before are of other clients
abbrev IsBefore : Key → Plain → Type 0
IsBefore k e = key_cmp e.0 k ≡ Less

all_before : (before : List Plain) (e : Plain) (left : List Plain) → T (is_sorted key_cmp (before ++ e ∷ left)) → AllByRecursion (IsBefore e.0) before
all_before [] e left up = tt
all_before (x ∷ before) e left up = (at before e left (sorted_head x (before ++ e ∷ left) up), all_before before e left (sorted_tail x (before ++ e ∷ left) up))
  where
    at : (before : List Plain) (e : Plain) (left : List Plain) → AllByRecursion (IsAbove x.0) (before ++ e ∷ left) → IsAbove x.0 e
    at [] e left all = all.0
    at (y ∷ before) e left all = at before e left all.1

none_before : (client : List ℕ) (ds : List Durable) → AllByRecursion (IsBefore (main_key client)) (own_rows ds) → session_at ds client ≡ None
none_before client [] all = refl
none_before client (d ∷ ds) all = elim (cases_Bool (same_client client d.client)) [
  | inl t ↦
      let same : client ≡ d.client = client_is client d.client t in
      absurd (let other : Equal ≡ Less = sym (tied_itself nat_list_cmp_total d.client) ∙ sym (ap (λ c. slice_cmp nat_cmp d.client c) same) ∙ less (slice_cmp nat_cmp d.client client) all.0 in cc)
  | inr f ↦ rw f (none_before client ds all.1)
]
  where
    less : (o : Ordering) → ordering_then o Equal ≡ Less → o ≡ Less
    less Less h = refl
    less Equal h = absurd cc
    less Greater h = absurd cc

-- ---- the sessions of the rows before, and what is left of all
pub record IsWalked (own copies before left rest : List Plain) (seats : Seats) : Type 0 where
  pub all : own ≡ before ++ left
  pub ds : List Durable
  pub durable : AllByRecursion IsDurable ds
  pub own_are : own_rows ds ≡ before
  pub copies_are : all_copies ds ++ rest ≡ copies
  pub seated : AreSeated seats ds
  pub others : (es : List Durable) → AreSessions own copies es → (fs : List Durable) × AreSessions left rest fs

pub walk_begins : (own copies : List Plain) → IsWalked own copies [] own copies map.empty
walk_begins own copies = record {
  all = refl;
  ds = [];
  durable = tt;
  own_are = refl;
  copies_are = refl;
  seated = λ client. map.get-empty (slice_cmp nat_cmp) client;
  others = λ es are. (es, are);
}

owners_after : (client : List ℕ) (ds : List Durable) → AllByRecursion (IsAfter client) ds → AllByRecursion (λ e. slice_cmp nat_cmp client e.0.1.0 ≡ Less) (all_copies ds)
owners_after client [] all = tt
owners_after client (d ∷ ds) all =
    all_both _ (copy_rows d.client d.copies) (all_copies ds) (all_turned _ _ (copy_rows d.client d.copies) (λ e h. ap (slice_cmp nat_cmp client) h.1 ∙ all.0) (copies_of d.client d.copies)) (owners_after client ds all.1)

starts_after : (client : List ℕ) (es : List Plain) → AllByRecursion (λ e. slice_cmp nat_cmp client e.0.1.0 ≡ Less) es → StartsApart client es
starts_after client [] all = tt
starts_after client (e ∷ es) all = λ same. (let other : Equal ≡ Less = sym (tied_itself nat_list_cmp_total client) ∙ ap (slice_cmp nat_cmp client) (sym same) ∙ all.0 in cc)

-- the next session has just these rows
record IsNext (e : Plain) (left mine others : List Plain) (fs : List Durable) : Type 0 where
  pub d : Durable
  pub ds : List Durable
  pub is : IsDurable d
  pub rows : rows_of d ≡ e ∷ mine
  pub rest : AreSessions left others ds

next_one : (e : Plain) (left mine others : List Plain) (fs : List Durable) → T (is_sorted key_cmp (e ∷ left)) → AllByRecursion (IsOf e.0.1.0) mine → StartsApart e.0.1.0 others → AreSessions (e ∷ left) (mine ++ others) fs → IsNext e left mine others fs
next_one e left mine others [] up own apart are = absurd (let none : [] ≡ e ∷ left = are.own_are in cc)
next_one e left mine others (d ∷ ds) up own apart are =
    let first : own_row d ≡ e = heads (own_row d) e (own_rows ds) left are.own_are in
    let more : own_rows ds ≡ left = tails (own_row d) e (own_rows ds) left are.own_are in
    let client : d.client ≡ e.0.1.0 = ap (λ (f : Plain). f.0.1.0) first in
    let above : AllByRecursion (IsAbove (main_key d.client)) (own_rows ds) = subst (AllByRecursion (IsAbove (main_key d.client))) (sym more) (subst (λ (f : Plain). AllByRecursion (IsAbove f.0) left) (sym first) (sorted_head e left up)) in
    let after = clients_above d.client ds above in
    let far : StartsApart e.0.1.0 (all_copies ds) = subst (λ (c : List ℕ). StartsApart c (all_copies ds)) client (starts_after d.client (all_copies ds) (owners_after d.client ds after)) in
    let cut = cut_once e.0.1.0 (copy_rows d.client d.copies) (all_copies ds) mine others are.copies_are (all_turned _ _ (copy_rows d.client d.copies) (λ f h. h.1 ∙ client) (copies_of d.client d.copies)) own far apart in
    record { d = d; ds = ds; is = are.durable.0; rows = (λ i. first i ∷ cut.0 i); rest = record { durable = are.durable.1; own_are = more; copies_are = cut.1 } }

rest_of : (own copies before : List Plain) (e : Plain) (left rest mine others : List Plain) (seats : Seats) → T (is_sorted key_cmp own) → IsWalked own copies before (e ∷ left) rest seats → rest ≡ mine ++ others
    → AllByRecursion (IsOf e.0.1.0) mine → StartsApart e.0.1.0 others → (es : List Durable) → AreSessions own copies es → (fs : List Durable) × IsNext e left mine others fs
rest_of own copies before e left rest mine others seats up walk is theirs apart es are =
    let fs = walk.others es are in
    let rise = sorted_back before (e ∷ left) (subst (λ (x : List Plain). T (is_sorted key_cmp x)) walk.all up) in
    (fs.0, next_one e left mine others fs.0 rise theirs apart (subst (λ (x : List Plain). AreSessions (e ∷ left) x fs.0) is fs.1))

pub walk_on : (own copies before : List Plain) (e : Plain) (left rest mine others : List Plain) (seats new : Seats) (d : Durable) → T (is_sorted key_cmp own) → IsWalked own copies before (e ∷ left) rest seats → rest ≡ mine ++ others
    → AllByRecursion (IsOf e.0.1.0) mine → StartsApart e.0.1.0 others → IsDurable d → rows_of d ≡ e ∷ mine → new ≡ map.insert seats d.client (opened_seat d) → IsWalked own copies (before ++ e ∷ []) left others new
walk_on own copies before e left rest mine others seats new d up walk is theirs apart durable rows put =
    let first : own_row d ≡ e = heads (own_row d) e (copy_rows d.client d.copies) mine rows in
    let copied : copy_rows d.client d.copies ≡ mine = tails (own_row d) e (copy_rows d.client d.copies) mine rows in
    let low = all_before before e left (subst (λ (x : List Plain). T (is_sorted key_cmp x)) walk.all up) in
    let lower : AllByRecursion (IsBefore (main_key d.client)) (own_rows walk.ds) = subst (AllByRecursion (IsBefore (main_key d.client))) (sym walk.own_are) (subst (λ (f : Plain). AllByRecursion (IsBefore f.0) before) (sym first) low) in
    let fresh = none_before d.client walk.ds lower in
    record {
      all = walk.all ∙ sym (append_assoc before (e ∷ []) left);
      ds = walk.ds ++ d ∷ [];
      durable = all_last walk.ds d walk.durable durable;
      own_are = own_last walk.ds d ∙ (λ i. walk.own_are i ++ first i ∷ []);
      copies_are = ap (λ (x : List Plain). x ++ others) (copies_last walk.ds d) ∙ append_assoc (all_copies walk.ds) (copy_rows d.client d.copies) others
          ∙ (λ i. all_copies walk.ds ++ (copied i ++ others)) ∙ ap (λ (x : List Plain). all_copies walk.ds ++ x) (sym is) ∙ walk.copies_are;
      seated = λ q. ap (λ m. map.get m q) put ∙ map.get-insert nat_list_cmp_total seats d.client (opened_seat d) q ∙ ap (cond (same_client q d.client) (Some (opened_seat d))) (walk.seated q)
          ∙ sym (chosen (same_client q d.client) d (session_at walk.ds q)) ∙ ap (option_map opened_seat) (sym (session_last q walk.ds d fresh));
      others = λ es are. (let next = rest_of own copies before e left rest mine others seats up walk is theirs apart es are in (next.1.ds, next.1.rest));
    }
  where
    chosen : (b : Bool) (d : Durable) (o : Option Durable) → option_map opened_seat (cond b (Some d) o) ≡ cond b (Some (opened_seat d)) (option_map opened_seat o)
    chosen true d o = refl
    chosen false d o = refl

pub walk_stops : (own copies before : List Plain) (e : Plain) (left rest mine others : List Plain) (seats : Seats) → T (is_sorted key_cmp own) → IsWalked own copies before (e ∷ left) rest seats → rest ≡ mine ++ others
    → AllByRecursion (IsOf e.0.1.0) mine → StartsApart e.0.1.0 others → NoSession (e ∷ mine) → NoSessions own copies
walk_stops own copies before e left rest mine others seats up walk is theirs apart none es are =
    let next = rest_of own copies before e left rest mine others seats up walk is theirs apart es are in
    none next.1.d next.1.is next.1.rows

pub walk_ends : (own copies before rest : List Plain) (seats : Seats) → IsWalked own copies before [] rest seats → rest ≡ [] → AreRead own copies seats
walk_ends own copies before rest seats walk is =
    (walk.ds, record { durable = walk.durable; own_are = walk.own_are ∙ sym (append-nil before) ∙ sym walk.all; copies_are = sym (append-nil (all_copies walk.ds)) ∙ ap (λ (x : List Plain). all_copies walk.ds ++ x) (sym is) ∙ walk.copies_are }, walk.seated)

pub walk_leaves : (own copies before rest : List Plain) (seats : Seats) → IsWalked own copies before [] rest seats → (rest ≡ [] → ⊥) → NoSessions own copies
walk_leaves own copies before rest seats walk some es are = (let fs = walk.others es are in empty fs.0 fs.1.own_are fs.1.copies_are)
  where
    empty : (fs : List Durable) → own_rows fs ≡ [] → all_copies fs ≡ rest → ⊥
    empty [] no_own is = some (sym is)
    empty (d ∷ fs) no_own is = cc
