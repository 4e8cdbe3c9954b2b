-- What changes leave without those whose row a later one names, and without removals of rows that aren't there.
use Rattle.std.proofs.Common.{◌≡◌, ◌≢◌, ◌⊎◌, inl, inr, ℕ, zero, suc, ◌+◌, ◌<◌, ◌≤◌, Bool, true, false, cond, List, [], ◌∷◌, ◌++◌, Option, Some, None, length, drop, get_or, set, arith, refl, sym, ap, subst, ◌∙◌, append_assoc}
use Rattle.std.specs.Ordering.{eq_by_cmp}
use Rattle.std.proofs.lemmas.Bool.{cases_eq}
use Rattle.std.proofs.lemmas.Grind.{get_or-set_at}
use Rattle.std.proofs.lemmas.List.{append-nil, at_drop_more, drop_all, get_or-set_other, length-set}
use Rattle.row_store.proofs.Keys.{exact_keys, equal_is}
use Rattle.row_store.proofs.Leaving.{else_none, second_is_last}
use Rattle.row_store.specs.declared.row.Change.{Change}
use Rattle.row_store.specs.Rows.{Key, key_cmp}
use Rattle.row_store.specs.Leading.{IsNamed, key_in, value_in, left_by, left_by_one, or_else}
use Rattle.row_store.specs.Noted.{pair_of}
use Rattle.row_journal.specs.Repeats.{AreMarked, place_in}
use Rattle.row_journal.specs.Tops.{IsIdle, IsNumbered, Leaves, Tops, may_have}

tied : (q k : Key) → eq_by_cmp key_cmp q k ≡ true → q ≡ k
tied q k tie = exact_keys q k (equal_is (key_cmp q k) tie)

-- a change among others names its row
pub named_there : (ys : List Change) (n : ℕ) (d : Change) (k : Key) → n < length ys → eq_by_cmp key_cmp k (key_in (get_or ys n d)) ≡ true → IsNamed ys k
named_there [] n d k low tie = absurd (omega (arith, low))
named_there (y ∷ ys) zero d k low tie = λ none. absurd (let e : Some (value_in y) ≡ None = sym (ap (λ b. cond b (Some (value_in y)) None) tie) ∙ (else_none (left_by ys k) (left_by_one y k) none).1 in cc)
named_there (y ∷ ys) (suc n) d k low tie = λ none. named_there ys n d k (omega (arith, low)) tie (else_none (left_by ys k) (left_by_one y k) none).0

kept_or : (b : Bool) (l : Option (Option (List ℕ))) (v : Option (List ℕ)) → (b ≡ true → l ≢ None) → or_else l (cond b (Some v) None) ≡ l
kept_or b (Some left) v named = refl
kept_or false None v named = refl
kept_or true None v named = absurd (named refl refl)

-- one whose row others behind it name leaves nothing
named_skip : (x : Change) (ys : List Change) → IsNamed ys (key_in x) → (q : Key) → left_by (x ∷ ys) q ≡ left_by ys q
named_skip x ys named q = kept_or (eq_by_cmp key_cmp q (key_in x)) (left_by ys q) (value_in x) (λ tie none. named (ap (left_by ys) (sym (tied q (key_in x) tie)) ∙ none))

pub skipped : (tops : Tops) (out : List Change) (x : Change) (ys : List Change) → IsNamed ys (key_in x) → Leaves tops (out ++ ys) (out ++ x ∷ ys)
skipped tops out x ys named = record {
  each = λ q. inl (second_is_last out ys q ∙ ap (λ l. or_else l (left_by out q)) (sym (named_skip x ys named q)) ∙ sym (second_is_last out (x ∷ ys) q));
}

-- a copy leaves what the change does
pub pushed : (tops : Tops) (out : List Change) (copy x : Change) (ys : List Change) → pair_of copy ≡ pair_of x → Leaves tops ((out ++ copy ∷ []) ++ ys) (out ++ x ∷ ys)
pushed tops out copy x ys is = record {
  each = λ q. inl (ap (λ zs. left_by zs q) (append_assoc out (copy ∷ []) ys) ∙ second_is_last out (copy ∷ ys) q
      ∙ ap (λ p. or_else (or_else (left_by ys q) (cond (eq_by_cmp key_cmp q p.0) (Some p.1) None)) (left_by out q)) is ∙ sym (second_is_last out (x ∷ ys) q));
}

-- a removal of a row that isn't there, and that none before it names
pub passed : (tops : Tops) (out : List Change) (x : Change) (ys : List Change) → IsIdle tops x → left_by out (key_in x) ≡ None → Leaves tops (out ++ ys) (out ++ x ∷ ys)
passed tops out x ys idle none = record { each = λ q. by q (eq_by_cmp key_cmp q (key_in x)) refl (left_by ys q) refl }
  where
    by : (q : Key) (b : Bool) → eq_by_cmp key_cmp q (key_in x) ≡ b → (l : Option (Option (List ℕ))) → left_by ys q ≡ l
        → (left_by (out ++ ys) q ≡ left_by (out ++ x ∷ ys) q) ⊎ ((left_by (out ++ x ∷ ys) q ≡ Some None) × (left_by (out ++ ys) q ≡ None) × IsNumbered q × (may_have tops q ≡ false))
    by q b tie (Some v) is = inl (second_is_last out ys q ∙ ap (λ l. or_else l (left_by out q)) is ∙ sym (second_is_last out (x ∷ ys) q ∙ ap (λ l. or_else (or_else l (left_by_one x q)) (left_by out q)) is))
    by q false other None is = inl (second_is_last out ys q ∙ ap (λ l. or_else l (left_by out q)) is ∙ sym (second_is_last out (x ∷ ys) q ∙ (λ i. or_else (or_else (is i) (cond (other i) (Some (value_in x)) None)) (left_by out q))))
    by q true tie None is =
        let same = tied q (key_in x) tie in
        inr (
          second_is_last out (x ∷ ys) q ∙ (λ i. or_else (or_else (is i) (cond (tie i) (Some (value_in x)) None)) (left_by out q)) ∙ ap (λ v. Some v) idle.0,
          second_is_last out ys q ∙ ap (λ l. or_else l (left_by out q)) is ∙ ap (left_by out) same ∙ none,
          subst IsNumbered (sym same) idle.1,
          ap (may_have tops) same ∙ idle.2,
        )

-- one after the other
pub leaves_on : (tops : Tops) (xs ys zs : List Change) → Leaves tops xs ys → Leaves tops ys zs → Leaves tops xs zs
leaves_on tops xs ys zs first second = record { each = λ q. by q (first.each q) (second.each q) }
  where
    by : (q : Key) → (left_by xs q ≡ left_by ys q) ⊎ ((left_by ys q ≡ Some None) × (left_by xs q ≡ None) × IsNumbered q × (may_have tops q ≡ false))
        → (left_by ys q ≡ left_by zs q) ⊎ ((left_by zs q ≡ Some None) × (left_by ys q ≡ None) × IsNumbered q × (may_have tops q ≡ false))
        → (left_by xs q ≡ left_by zs q) ⊎ ((left_by zs q ≡ Some None) × (left_by xs q ≡ None) × IsNumbered q × (may_have tops q ≡ false))
    by q (inl a) (inl b) = inl (a ∙ b)
    by q (inl a) (inr b) = inr (b.0, a ∙ b.1, b.2, b.3)
    by q (inr a) (inl b) = inr (sym b ∙ a.0, a.1, a.2, a.3)
    by q (inr a) (inr b) = absurd (let e : Some None ≡ None = sym a.0 ∙ b.1 in cc)

pub leaves_same_as : (tops : Tops) (xs ys : List Change) → ((q : Key) → left_by xs q ≡ left_by ys q) → Leaves tops xs ys
leaves_same_as tops xs ys same = record { each = λ q. inl (same q) }

-- ---- over a list

pub begun : (tops : Tops) (out changes : List Change) → out ≡ [] → Leaves tops (out ++ drop 0 changes) changes
begun tops out changes none = record { each = λ q. inl (ap (λ xs. left_by (xs ++ changes) q) none) }

pub gone_on : (tops : Tops) (before after changes : List Change) (x : Change) (i : ℕ) → i < length changes → x ≡ get_or changes i x
    → Leaves tops (after ++ drop (i + 1) changes) (before ++ x ∷ drop (i + 1) changes) → Leaves tops (before ++ drop i changes) changes → Leaves tops (after ++ drop (i + 1) changes) changes
gone_on tops before after changes x i low at step so =
    leaves_on tops (after ++ drop (i + 1) changes) (before ++ x ∷ drop (i + 1) changes) changes step
    (subst (λ ys. Leaves tops (before ++ ys) changes) (at_drop_more (λ ys. ys) changes i x low ∙ ap (λ y. y ∷ drop (i + 1) changes) (sym at)) so)

pub done : (tops : Tops) (out changes : List Change) (i : ℕ) → length changes ≤ i → Leaves tops (out ++ drop i changes) changes → Leaves tops out changes
done tops out changes i all so = subst (λ ys. Leaves tops ys changes) (ap (λ ys. out ++ ys) (drop_all i changes all) ∙ append-nil out) so

-- ---- marks

pub unmarked : (marks : List ℕ) (out : List Change) (k : Key) → AreMarked marks out → get_or marks (place_in (length marks) k) 0 ≡ 0 → left_by out k ≡ None
unmarked marks out k marked is = by (left_by out k) refl
  where
    by : (l : Option (Option (List ℕ))) → left_by out k ≡ l → left_by out k ≡ None
    by None e = e
    by (Some v) e = absurd (let one : get_or marks (place_in (length marks) k) 0 ≡ 1 = marked k (λ none. absurd (let z : Some v ≡ None = sym e ∙ none in cc)) in omega (arith, one, is))

pub none_marked : (marks : List ℕ) (out : List Change) → out ≡ [] → AreMarked marks out
none_marked marks out none q named = absurd (named (ap (λ xs. left_by xs q) none))

stays : (marks : List ℕ) (n m : ℕ) → n < length marks → get_or marks m 0 ≡ 1 → get_or (set marks n 1) m 0 ≡ 1
stays marks n m low one = elim (cases_eq m n) [
  | inl same ↦ get_or-set_at marks n m 1 0 same low
  | inr other ↦ get_or-set_other marks n m 1 0 other ∙ one
]

pub marked_more : (marks : List ℕ) (out : List Change) (copy x : Change) (n : ℕ) → n ≡ place_in (length marks) (key_in x) → n < length marks → AreMarked marks out → pair_of copy ≡ pair_of x → AreMarked (set marks n 1) (out ++ copy ∷ [])
marked_more marks out copy x n at low marked is q named =
    ap (λ len. get_or (set marks n 1) (place_in len q) 0) (length-set marks n 1) ∙ by (eq_by_cmp key_cmp q (key_in copy)) refl
  where
    by : (b : Bool) → eq_by_cmp key_cmp q (key_in copy) ≡ b → get_or (set marks n 1) (place_in (length marks) q) 0 ≡ 1
    by true tie = get_or-set_at marks n (place_in (length marks) q) 1 0 (ap (place_in (length marks)) (tied q (key_in copy) tie ∙ ap (λ p. p.0) is) ∙ sym at) low
    by false other = stays marks n (place_in (length marks) q) low (marked q (λ none. named (second_is_last out (copy ∷ []) q ∙ (λ i. or_else (cond (other i) (Some (value_in copy)) None) (none i)))))
