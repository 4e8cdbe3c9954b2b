-- The steps of a merge of two lists of ranges.
use Rattle.std.proofs.Common.{◌≡◌, ℕ, ◌+◌, ◌<◌, ◌≤◌, Bool, true, false, ◌||◌, List, [], length, get_or, take, refl, sym, ap, subst, ◌∙◌, arith}
use Rattle.std.proofs.lemmas.List.{take_all, get_or_default}
use Rattle.std.proofs.lemmas.List.Folds.{list_any_more}
use Rattle.causal_context.specs.Dots.{Dot}
use Rattle.causal_context.specs.declared.ranges.Range.{Range}
use Rattle.causal_context.specs.Ranges.{covers, covered, IsSound}
use Rattle.causal_context.specs.RangeSteps.{StartsUpTo, AllStartUpTo, IsJoined, IsUnion}

-- out has the dots of the first i ranges of a and the first j of b, and starts no later than the next of each
pub record IsMergedUpTo (a b : List Range) (i j : ℕ) (out : List Range) : Type 0 where
  pub i_in : i ≤ length a
  pub j_in : j ≤ length b
  pub sound : IsSound out
  pub members : (q : Dot) → covered q out ≡ (covered q (take i a) || covered q (take j b))
  pub before_a : (d : Range) → i < length a → AllStartUpTo out (get_or a i d)
  pub before_b : (d : Range) → j < length b → AllStartUpTo out (get_or b j d)

starts_trans : (x y z : Range) → StartsUpTo x y → StartsUpTo y z → StartsUpTo x z
starts_trans x y z p q = record { nodes = omega (arith, p.nodes, q.nodes); numbers = λ e. (let n = p.nodes in let m = q.nodes in let u = p.numbers (omega arith) in let v = q.numbers (omega arith) in omega arith) }

-- of sound ranges, each starts no later than the next
next_starts : (a : List Range) (i : ℕ) (d : Range) → IsSound a → i + 1 < length a → StartsUpTo (get_or a i d) (get_or a (i + 1) d)
next_starts a i d sound lt =
    let apart = sound.apart i (i + 1) d (omega arith) lt in
    let fine = sound.fine i d (omega arith) in
    record { nodes = apart.nodes; numbers = λ e. omega (arith, apart.numbers e, fine.not_empty) }

or_swap_last : (a b c : Bool) → ((a || b) || c) ≡ ((a || c) || b)
or_swap_last true b c = refl
or_swap_last false true true = refl
or_swap_last false true false = refl
or_swap_last false false true = refl
or_swap_last false false false = refl

or_group : (a b c : Bool) → ((a || b) || c) ≡ (a || (b || c))
or_group true b c = refl
or_group false b c = refl

all_up_to : (out : List Range) (r s : Range) → AllStartUpTo out r → StartsUpTo r s → AllStartUpTo out s
all_up_to out r s all p k d lt = starts_trans _ r s (all k d lt) p

pub take_a : (a b : List Range) (i j : ℕ) (out new : List Range) (r : Range) → IsSound a → IsMergedUpTo a b i j out → i < length a → r ≡ get_or a i r
    → ((d : Range) → j < length b → StartsUpTo r (get_or b j d)) → IsJoined out r new → IsMergedUpTo a b (i + 1) j new
take_a a b i j out new r sound m lt is first joined = record {
  i_in = omega arith;
  j_in = m.j_in;
  sound = joined.sound;
  members = λ q. joined.members q ∙ ap (λ x. x || covers q r) (m.members q) ∙ or_swap_last (covered q (take i a)) (covered q (take j b)) (covers q r)
      ∙ ap (λ x. x || covered q (take j b)) (ap (λ y. covered q (take i a) || covers q y) is ∙ sym (list_any_more (covers q) a i r lt));
  before_a = λ d in_a. all_up_to new r (get_or a (i + 1) d) joined.starts (subst (λ x. StartsUpTo x (get_or a (i + 1) d)) (sym (is ∙ get_or_default a i r d lt)) (next_starts a i d sound in_a));
  before_b = λ d in_b. all_up_to new r (get_or b j d) joined.starts (first d in_b);
}

pub take_b : (a b : List Range) (i j : ℕ) (out new : List Range) (r : Range) → IsSound b → IsMergedUpTo a b i j out → j < length b → r ≡ get_or b j r
    → ((d : Range) → i < length a → StartsUpTo r (get_or a i d)) → IsJoined out r new → IsMergedUpTo a b i (j + 1) new
take_b a b i j out new r sound m lt is first joined = record {
  i_in = m.i_in;
  j_in = omega arith;
  sound = joined.sound;
  members = λ q. joined.members q ∙ ap (λ x. x || covers q r) (m.members q) ∙ or_group (covered q (take i a)) (covered q (take j b)) (covers q r)
      ∙ ap (λ x. covered q (take i a) || x) (ap (λ y. covered q (take j b) || covers q y) is ∙ sym (list_any_more (covers q) b j r lt));
  before_a = λ d in_a. all_up_to new r (get_or a i d) joined.starts (first d in_a);
  before_b = λ d in_b. all_up_to new r (get_or b (j + 1) d) joined.starts (subst (λ x. StartsUpTo x (get_or b (j + 1) d)) (sym (is ∙ get_or_default b j r d lt)) (next_starts b j d sound in_b));
}

pub none_taken : (a b : List Range) (out : List Range) → out ≡ [] → IsMergedUpTo a b 0 0 out
none_taken a b out e = subst (IsMergedUpTo a b 0 0) (sym e) (record {
  i_in = omega arith;
  j_in = omega arith;
  sound = record { fine = λ k d lt. absurd (omega arith); apart = λ i j d p lt. absurd (omega arith) };
  members = λ q. refl;
  before_a = λ d p k e lt. absurd (omega arith);
  before_b = λ d p k e lt. absurd (omega arith);
})

pub all_taken : (a b : List Range) (i j : ℕ) (out : List Range) → IsMergedUpTo a b i j out → length a ≤ i → length b ≤ j → IsUnion a b out
all_taken a b i j out m past_a past_b = record {
  sound = m.sound;
  members = λ q. m.members q ∙ (λ x. covered q (take_all i a past_a x) || covered q (take_all j b past_b x));
}
