-- What a node keeps of its lanes, by what it put in and what it took.
use Rattle.std.proofs.Common.{◌≡◌, ◌≢◌, ℕ, suc, ◌+◌, ◌≤◌, ◌<◌, Bool, true, false, nat_eq, cond, List, [], ◌∷◌, ◌++◌, Some, refl, sym, ap, ◌∙◌, inl, inr, ◌⊎◌, subst, length, drop, length-append, arith, eq-eqb, eqb→eq}
use lib.Dec.{T}
use Rattle.std.proofs.lemmas.Bool.{cases_lt}
use Rattle.std.proofs.lemmas.List.{append-nil, drop-append-le, drop-drop}
use Rattle.std.specs.List.{slice_get}
use Rattle.std.proofs.Math.ListN.{set}
use Rattle.bridge_lanes.specs.Lanes.{LaneView, Lanes, LaneAct, Put, Took, Got, lane_of, new_lane, with_put, with_took, with_got, up_to, DoesLane, Waits, puts_in, takes_in, Begins, IsNumbered}
use Rattle.bridge_lanes.proofs.LaneLists.{begins_more, get-drop}
use Rattle.bridge_lanes.proofs.Tables.{lane_here, lane_there}

nat_cases : (i j : ℕ) → (i ≡ j) ⊎ (i ≢ j)
nat_cases i j = elim (cases_lt i j) [ inl a ↦ inr (λ e. omega arith) | inr b ↦ elim (cases_lt j i) [ inl a ↦ inr (λ e. omega arith) | inr c ↦ inl (omega arith) ] ]

other_test : (b : Bool) (i j : ℕ) → nat_eq i j ≡ b → i ≢ j → b ≡ false
other_test true i j e ne = absurd (ne (eqb→eq i j (subst T (sym e) tt)))
other_test false i j e ne = refl

-- of the lanes to and from one other node: put has all that was put in, gone of them are gone, of which the other node has
-- taken all, and the rest wait; took has all that was taken, and other what the other node has taken
pub record IsKept {A : Type 0} (l : LaneView A) (put took other : List A) : Type 0 where
  pub waits : l.waiting ≡ drop l.gone put
  pub gone : l.gone ≤ length other
  pub taken : l.took ≡ length took

pub kept_new : {A : Type 0} (other : List A) → IsKept {A = A} new_lane [] [] other
kept_new other = record { waits = refl; gone = omega arith; taken = refl }

-- the other node goes on
pub kept_later : {A : Type 0} (l : LaneView A) (put took other other' : List A) → length other ≤ length other' → IsKept l put took other → IsKept l put took other'
kept_later l put took other other' le k = record { waits = k.waits; gone = (let g = k.gone in omega arith); taken = k.taken }

-- what waits under a number was put in with it
pub waits_numbered : {A : Type 0} (l : LaneView A) (put took other : List A) (number : ℕ) (m : A) → IsKept l put took other → Waits l number m → IsNumbered put number m
waits_numbered l put took other number m k w = (l.gone + w.0, w.1, sym (get-drop l.gone put w.0) ∙ ap (λ xs. slice_get xs w.0) (sym k.waits) ∙ w.2)

module _ {A : Type 0} (l : LaneView A) (put took other : List A) (k : IsKept l put took other) where
  kept_put : (m : A) → length other ≤ length put → IsKept (with_put m l) (put ++ m ∷ []) took other
  kept_put m le = record {
    waits = ap (λ xs. xs ++ m ∷ []) k.waits ∙ sym (drop-append-le l.gone put (m ∷ []) (let g = k.gone in omega arith));
    gone = k.gone;
    taken = k.taken;
  }

  kept_took : (number : ℕ) (m : A) → number ≡ suc l.took → IsKept (with_took number l) put (took ++ m ∷ []) other
  kept_took number m next = record {
    waits = k.waits;
    gone = k.gone;
    taken = (let t = k.taken in let n : length (took ++ m ∷ []) ≡ length took + 1 = length-append took (m ∷ []) in omega arith);
  }

  kept_got : (number : ℕ) → number ≤ length other → IsKept (with_got number l) put took other
  kept_got number le = record {
    waits = ap (drop (up_to number l)) k.waits ∙ drop-drop (up_to number l) l.gone put;
    gone = (let g = k.gone in omega arith);
    taken = k.taken;
  }

-- what an act takes of another node: a message under its number among those that were put in there, or a number up to
-- which that node has taken
abbrev pub IsBrought : {A : Type 0} → (ℕ → List A) → (ℕ → List A) → LaneAct A → Type 0
IsBrought puts others (Put peer m) = Unit {0}
IsBrought puts others (Took peer number m) = IsNumbered (puts peer) number m
IsBrought puts others (Got peer number) = number ≤ length (others peer)

abbrev pub AreKept : {A : Type 0} → Lanes A → (ℕ → List A) → (ℕ → List A) → (ℕ → List A) → Type 0
AreKept lanes put took other = (j : ℕ) → IsKept (lane_of lanes j) (put j) (took j) (other j)

-- one lane changes
module _ {A : Type 0} (lanes : Lanes A) (put took other : ℕ → List A) (k : AreKept lanes put took other) (p : ℕ) (below : p < length lanes) (l : LaneView A) where
  changed : (put' took' : ℕ → List A) → IsKept l (put' p) (took' p) (other p) → ((j : ℕ) → p ≢ j → put' j ≡ put j) → ((j : ℕ) → p ≢ j → took' j ≡ took j) → AreKept (set lanes p l) put' took' other
  changed put' took' here puts tooks j = elim (nat_cases p j) [
    | inl e ↦ subst (λ n. IsKept (lane_of (set lanes p l) n) (put' n) (took' n) (other n)) e (subst (λ v. IsKept v (put' p) (took' p) (other p)) (sym (lane_here lanes p l below)) here)
    | inr ne ↦ subst (λ v. IsKept v (put' j) (took' j) (other j)) (sym (lane_there lanes p l j ne))
        (subst (λ xs. IsKept (lane_of lanes j) xs (took' j) (other j)) (sym (puts j ne)) (subst (λ xs. IsKept (lane_of lanes j) (put j) xs (other j)) (sym (tooks j ne)) (k j)))
  ]

added_here : {A : Type 0} (p : ℕ) (xs ys : List A) → xs ++ cond (nat_eq p p) ys [] ≡ xs ++ ys
added_here p xs ys = ap (λ b. xs ++ cond b ys []) (eq-eqb p p refl)

added_there : {A : Type 0} (p j : ℕ) (xs ys : List A) → p ≢ j → xs ++ cond (nat_eq p j) ys [] ≡ xs
added_there p j xs ys ne = ap (λ b. xs ++ cond b ys []) (other_test (nat_eq p j) p j refl ne) ∙ append-nil xs

-- an act keeps what is kept
pub act_keeps : {A : Type 0} (lanes lanes' : Lanes A) (put took other puts : ℕ → List A) (a : LaneAct A) → AreKept lanes put took other
    → ((j : ℕ) → length (other j) ≤ length (put j)) → IsBrought puts other a → DoesLane lanes a lanes'
    → AreKept lanes' (λ j. put j ++ puts_in j a) (λ j. took j ++ takes_in j a) other
act_keeps lanes lanes' put took other puts (Put p m) k le b d =
    subst (λ v. AreKept v (λ j. put j ++ puts_in j (Put p m)) (λ j. took j ++ []) other) (sym d.1)
    (changed lanes put took other k p d.0 (with_put m (lane_of lanes p)) _ _
    (subst (λ xs. IsKept (with_put m (lane_of lanes p)) xs (took p ++ []) (other p)) (sym (added_here p (put p) (m ∷ [])))
    (subst (λ ys. IsKept (with_put m (lane_of lanes p)) (put p ++ m ∷ []) ys (other p)) (sym (append-nil (took p)))
    (kept_put (lane_of lanes p) (put p) (took p) (other p) (k p) m (le p))))
    (λ j ne. added_there p j (put j) (m ∷ []) ne) (λ j ne. append-nil (took j)))
act_keeps lanes lanes' put took other puts (Took p number m) k le b d =
    subst (λ v. AreKept v (λ j. put j ++ []) (λ j. took j ++ takes_in j (Took p number m)) other) (sym d.2)
    (changed lanes put took other k p d.0 (with_took number (lane_of lanes p)) _ _
    (subst (λ xs. IsKept (with_took number (lane_of lanes p)) xs (took p ++ takes_in p (Took p number m)) (other p)) (sym (append-nil (put p)))
    (subst (λ ys. IsKept (with_took number (lane_of lanes p)) (put p) ys (other p)) (sym (added_here p (took p) (m ∷ [])))
    (kept_took (lane_of lanes p) (put p) (took p) (other p) (k p) number m d.1)))
    (λ j ne. append-nil (put j)) (λ j ne. added_there p j (took j) (m ∷ []) ne))
act_keeps lanes lanes' put took other puts (Got p number) k le b d =
    subst (λ v. AreKept v (λ j. put j ++ []) (λ j. took j ++ []) other) (sym d.1)
    (changed lanes put took other k p d.0 (with_got number (lane_of lanes p)) _ _
    (subst (λ xs. IsKept (with_got number (lane_of lanes p)) xs (took p ++ []) (other p)) (sym (append-nil (put p)))
    (subst (λ ys. IsKept (with_got number (lane_of lanes p)) (put p) ys (other p)) (sym (append-nil (took p)))
    (kept_got (lane_of lanes p) (put p) (took p) (other p) (k p) number b)))
    (λ j ne. append-nil (put j)) (λ j ne. append-nil (took j)))

-- and what was taken still begins what was put in
pub act_begins : {A : Type 0} (lanes lanes' : Lanes A) (put took other puts : ℕ → List A) (a : LaneAct A) → AreKept lanes put took other
    → IsBrought puts other a → DoesLane lanes a lanes' → ((j : ℕ) → Begins (took j) (puts j)) → (j : ℕ) → Begins (took j ++ takes_in j a) (puts j)
act_begins lanes lanes' put took other puts (Put p m) k b d begins j = subst (λ xs. Begins xs (puts j)) (sym (append-nil (took j))) (begins j)
act_begins lanes lanes' put took other puts (Got p number) k b d begins j = subst (λ xs. Begins xs (puts j)) (sym (append-nil (took j))) (begins j)
act_begins lanes lanes' put took other puts (Took p number m) k b d begins j = elim (nat_cases p j) [
  | inl e ↦ subst (λ n. Begins (took n ++ takes_in n (Took p number m)) (puts n)) e
      (subst (λ xs. Begins xs (puts p)) (sym (added_here p (took p) (m ∷ [])))
      (begins_more (took p) (puts p) m (begins p) (let next = d.1 in let is = b.1 in let t = (k p).taken in let same : b.0 ≡ length (took p) = omega arith in subst (λ n. slice_get (puts p) n ≡ Some m) same b.2)))
  | inr ne ↦ subst (λ xs. Begins xs (puts j)) (sym (added_there p j (took j) (m ∷ []) ne)) (begins j)
]
