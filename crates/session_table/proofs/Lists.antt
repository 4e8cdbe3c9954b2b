-- One client in the lists, and all of them.
use Rattle.std.proofs.Common.{◌≡◌, ℕ, Bool, true, false, cond, ◌&&◌, List, Option, Some, None, nat_cmp, Ordering, Less, Equal, Greater, refl, sym, ap, subst, ◌∙◌}
use Rattle.std.specs.Ordering.{is_eq, eq_by_cmp, ordering_then}
use Rattle.std.specs.FinMap as map
use Rattle.session_table.specs.Dues.{Due, Dues, due_cmp}
use Rattle.session_table.proofs.Tables.{has_inserted, has_removed}
use Rattle.session_table.specs.Listing.{Table, text_cmp, IsAt, KeepsOthers, IsListedAt, Relists, IsListed, listed_in, no_moments}
use Rattle.session_table.specs.declared.listing.Listing.{Listing}
use Rattle.session_table.specs.declared.moments.Moments.{Moments}
use Rattle.session_table.specs.declared.seated.Seated.{Seated}
use Rattle.law_maps.proofs.Texts.{same_text, itself, get_inserted, get_apart, get_removed, get_left}

then_eq : (a b : Ordering) → is_eq (ordering_then a b) ≡ (is_eq a && is_eq b)
then_eq Less b = refl
then_eq Equal b = refl
then_eq Greater b = refl

pub tied : (d e : Due) → eq_by_cmp due_cmp d e ≡ (eq_by_cmp nat_cmp d.0 e.0 && eq_by_cmp text_cmp d.1 e.1)
tied d e = then_eq (nat_cmp d.0 e.0) (text_cmp d.1 e.1)

pub and_true : (b : Bool) → (b && true) ≡ b
and_true true = refl
and_true false = refl

pub and_false : (b : Bool) → (b && false) ≡ false
and_false true = refl
and_false false = refl

-- of one client, pairs tie where the moments do; those of two clients don't
tied_here : (at n : ℕ) (client : List ℕ) → eq_by_cmp due_cmp (at, client) (n, client) ≡ eq_by_cmp nat_cmp at n
tied_here at n client = tied (at, client) (n, client) ∙ ap (λ b. eq_by_cmp nat_cmp at n && b) (itself client) ∙ and_true (eq_by_cmp nat_cmp at n)

tied_apart : (d : Due) (n : ℕ) (client : List ℕ) → eq_by_cmp text_cmp d.1 client ≡ false → eq_by_cmp due_cmp d (n, client) ≡ false
tied_apart d n client apart = tied d (n, client) ∙ ap (λ b. eq_by_cmp nat_cmp d.0 n && b) apart ∙ and_false (eq_by_cmp nat_cmp d.0 n)

gone : (b : Bool) → cond b false b ≡ false
gone true = refl
gone false = refl

only : (b : Bool) → cond b true false ≡ b
only true = refl
only false = refl

-- ---- one list
pub others_same : (client : List ℕ) (old : Dues) → KeepsOthers client old old
others_same client old d apart = refl

pub others_then : (client : List ℕ) (a b c : Dues) → KeepsOthers client a b → KeepsOthers client b c → KeepsOthers client a c
others_then client a b c p q d apart = q d apart ∙ p d apart

pub taken_at : (old new : Dues) (client : List ℕ) (n : ℕ) → IsAt old client (Some n) → new ≡ map.remove old (n, client) → IsAt new client None
taken_at old new client n h e at =
    ap (λ m. map.contains_key m (at, client)) e ∙ has_removed old (n, client) (at, client)
    ∙ (λ i. cond (tied_here at n client i) false (h at i)) ∙ gone (eq_by_cmp nat_cmp at n)

pub taken_others : (old new : Dues) (client : List ℕ) (n : ℕ) → new ≡ map.remove old (n, client) → KeepsOthers client old new
taken_others old new client n e d apart =
    ap (λ m. map.contains_key m d) e ∙ has_removed old (n, client) d ∙ ap (λ b. cond b false (map.contains_key old d)) (tied_apart d n client apart)

pub put_at : (old new : Dues) (client : List ℕ) (n : ℕ) → IsAt old client None → new ≡ map.insert old (n, client) tt → IsAt new client (Some n)
put_at old new client n h e at =
    ap (λ m. map.contains_key m (at, client)) e ∙ has_inserted old (n, client) (at, client)
    ∙ (λ i. cond (tied_here at n client i) true (h at i)) ∙ only (eq_by_cmp nat_cmp at n)

pub put_others : (old new : Dues) (client : List ℕ) (n : ℕ) → new ≡ map.insert old (n, client) tt → KeepsOthers client old new
put_others old new client n e d apart =
    ap (λ m. map.contains_key m d) e ∙ has_inserted old (n, client) d ∙ ap (λ b. cond b true (map.contains_key old d)) (tied_apart d n client apart)

-- ---- all lists
pub relists_then : (client : List ℕ) (a b c : Listing) → Relists client a b → Relists client b c → Relists client a c
relists_then client a b c p q = record {
  run_outs = others_then client _ _ _ p.run_outs q.run_outs;
  wills = others_then client _ _ _ p.wills q.wills;
  ends = others_then client _ _ _ p.ends q.ends;
}

-- a client that isn't the one that is listed anew
still : (client q : List ℕ) (old new : Listing) (m : Moments) → Relists client old new → eq_by_cmp text_cmp q client ≡ false → IsListedAt old q m → IsListedAt new q m
still client q old new m r apart h = record {
  run_out = λ at. r.run_outs (at, q) apart ∙ h.run_out at;
  will = λ at. r.wills (at, q) apart ∙ h.will at;
  end = λ at. r.ends (at, q) apart ∙ h.end at;
}

-- the table agrees with another but at one client, which is listed as its seat says
pub listed_again : (client : List ℕ) (s t : Table) (k l : Listing) → IsListed s k → Relists client k l
    → ((q : List ℕ) → eq_by_cmp text_cmp q client ≡ false → map.get t q ≡ map.get s q) → IsListedAt l client (listed_in (map.get t client)) → IsListed t l
listed_again client s t k l h r same here q = by (eq_by_cmp text_cmp q client) refl
  where
    by : (b : Bool) → eq_by_cmp text_cmp q client ≡ b → IsListedAt l q (listed_in (map.get t q))
    by true e = (let P : List ℕ → Type 0 = λ c. IsListedAt l c (listed_in (map.get t c)) in subst P (sym (same_text q client e)) here)
    by false e = (let P : Option Seated → Type 0 = λ g. IsListedAt l q (listed_in g) in subst P (sym (same q e)) (still client q k l _ r e (h q)))

pub listed_put : (client : List ℕ) (s t : Table) (k l : Listing) (x : Seated) → IsListed s k → Relists client k l → t ≡ map.insert s client x → IsListedAt l client x.listed → IsListed t l
listed_put client s t k l x h r e here =
    (let there : map.get t client ≡ Some x = ap (λ m. map.get m client) e ∙ get_inserted s client x in
    let P : Option Seated → Type 0 = λ g. IsListedAt l client (listed_in g) in
    listed_again client s t k l h r (λ q apart. ap (λ m. map.get m q) e ∙ get_apart s client x q apart) (subst P (sym there) here))

pub listed_out : (client : List ℕ) (s t : Table) (k l : Listing) → IsListed s k → Relists client k l → t ≡ map.remove s client → IsListedAt l client no_moments → IsListed t l
listed_out client s t k l h r e here =
    (let there : map.get t client ≡ None = ap (λ m. map.get m client) e ∙ get_removed s client in
    let P : Option Seated → Type 0 = λ g. IsListedAt l client (listed_in g) in
    listed_again client s t k l h r (λ q apart. ap (λ m. map.get m q) e ∙ get_left s client q apart) (subst P (sym there) here))

-- ---- what holds of each seat
module _ (P : List ℕ → Seated → Type 0) where
  abbrev Each : Table → Type 0
  Each t = (q : List ℕ) (x : Seated) → map.get t q ≡ Some x → P q x

  pub each_put : (client : List ℕ) (s t : Table) (x : Seated) → Each s → t ≡ map.insert s client x → P client x → Each t
  each_put client s t x h e here q y is = by (eq_by_cmp text_cmp q client) refl
    where
      by : (b : Bool) → eq_by_cmp text_cmp q client ≡ b → P q y
      by true a =
          (let same : Some x ≡ Some y = sym (get_inserted s client x) ∙ ap (map.get (map.insert s client x)) (sym (same_text q client a)) ∙ ap (λ m. map.get m q) (sym e) ∙ is in
          let one : x ≡ y = cc in
          let Q : List ℕ → Type 0 = λ c. P c x in
          subst (P q) one (subst Q (sym (same_text q client a)) here))
      by false a = h q y (sym (get_apart s client x q a) ∙ ap (λ m. map.get m q) (sym e) ∙ is)

  pub each_but : (client : List ℕ) (s t : Table) → Each s → map.get t client ≡ None → ((q : List ℕ) → eq_by_cmp text_cmp q client ≡ false → map.get t q ≡ map.get s q) → Each t
  each_but client s t h none same q y is = by (eq_by_cmp text_cmp q client) refl
    where
      by : (b : Bool) → eq_by_cmp text_cmp q client ≡ b → P q y
      by true a = (let no : None ≡ Some y = sym none ∙ ap (map.get t) (sym (same_text q client a)) ∙ is in cc)
      by false a = h q y (sym (same q a) ∙ is)

  pub each_out : (client : List ℕ) (s t : Table) → Each s → t ≡ map.remove s client → Each t
  each_out client s t h e = each_but client s t h (ap (λ m. map.get m client) e ∙ get_removed s client) (λ q apart. ap (λ m. map.get m q) e ∙ get_left s client q apart)
