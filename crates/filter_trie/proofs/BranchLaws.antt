-- Facts on the branches that filters for a name go through.
use Rattle.std.proofs.Common.{◌≡◌, ◌⊎◌, ◌&&◌, arith, ℕ, Bool, true, false, cond, not, List, [], ◌∷◌, ◌++◌, Option, Some, None, Bor, inl, inr, refl, sym, ap, subst, ◌∙◌, append_assoc, Ordering, Less, Equal, Greater}
use Rattle.std.specs.Prelude.{codes}
use Rattle.std.specs.Ordering.{match_ordering, is_lt}
use Rattle.std.specs.BTreeMap.{insert_entry}
use Rattle.std.specs.BTreeMap.Range.{entries_between, range_contains}
use Rattle.std.specs.declared.ops.Bound.TheVariants.{Excluded, Unbounded}
use Rattle.mqtt_topics.specs.Levels.{levels, rest_levels, single_level, multi_level}
use Rattle.mqtt_topics.specs.Matching.{LevelsMatch, Matches}
use Rattle.filter_trie.specs.declared.ends.Branch.{Branch}
use Rattle.filter_trie.specs.declared.seeks.Onward.{Onward}
use Rattle.filter_trie.specs.declared.seeks.Onward.TheVariants.{Next, From, End}
use Rattle.filter_trie.specs.Search.Onward.{Leads}
use Rattle.filter_trie.specs.Search.Branching.{Holds, Awaits, Waits, AfterShare}
use Rattle.filter_trie.specs.Search.Seeking.{IsBefore, IsCut, IsNext}
use Rattle.law_maps.proofs.Texts.{text_cmp}
use Rattle.filter_trie.proofs.Order.{order_is, asymmetric, transitive, after_front}
use Rattle.filter_trie.proofs.LevelLaws.{cut, levels_alone, levels_first, levels_some}
use Rattle.filter_trie.proofs.FilterWalk.{levels_cut}
use Rattle.filter_trie.proofs.CountLaws.{alike}
use Rattle.filter_trie.proofs.Jumping.{After, Rises}
use Rattle.filter_trie.proofs.ShareLaws.{plain_or_shared}

-- a key that is put in is there, with the others
pub holds_insert : {X : Type 0} (es : List (List ℕ × X)) (k : List ℕ) (v : X) (f : List ℕ) → Holds es f ⊎ (f ≡ k) → Holds (insert_entry text_cmp es k v) f
holds_insert [] k v f (inl h) = absurd h
holds_insert [] k v f (inr e) = inl (sym e)
holds_insert {X} (e ∷ es) k v f h = by (text_cmp k e.0) refl h (holds_insert es k v f)
  where
    by : (r : Ordering) → text_cmp k e.0 ≡ r → ((e.0 ≡ f) ⊎ Holds es f) ⊎ (f ≡ k) → (Holds es f ⊎ (f ≡ k) → Holds (insert_entry text_cmp es k v) f)
        → Holds (match_ordering r ((k, v) ∷ e ∷ es) ((e.0, v) ∷ es) (e ∷ insert_entry text_cmp es k v)) f
    by Less p (inl q) r = inr q
    by Less p (inr q) r = inl (sym q)
    by Equal p (inl q) r = q
    by Equal p (inr q) r = inl (sym (alike k e.0 p) ∙ sym q)
    by Greater p (inl (inl q)) r = inl q
    by Greater p (inl (inr q)) r = inr (r (inl q))
    by Greater p (inr q) r = inr (r (inr q))

pub waits_push : (bs : List Branch) (b : Branch) (f : List ℕ) → Waits bs f ⊎ Awaits b f → Waits (bs ++ b ∷ []) f
waits_push [] b f (inl h) = absurd h
waits_push [] b f (inr h) = inl h
waits_push (c ∷ bs) b f (inl (inl h)) = inl h
waits_push (c ∷ bs) b f (inl (inr h)) = inr (waits_push bs b f (inl h))
waits_push (c ∷ bs) b f (inr h) = inr (waits_push bs b f (inr h))

pub waits_pop : (bs : List Branch) (b : Branch) (f : List ℕ) → Waits (bs ++ b ∷ []) f → Waits bs f ⊎ Awaits b f
waits_pop [] b f (inl h) = inr h
waits_pop [] b f (inr h) = absurd h
waits_pop (c ∷ bs) b f (inl h) = inl (inl h)
waits_pop (c ∷ bs) b f (inr h) = elim (waits_pop bs b f h) [ inl g ↦ inl (inr g) | inr g ↦ inr g ]

-- what goes on from a text whose name has ended is `#`
pub at_end : (g : List ℕ) → LevelsMatch (levels g) [] → g ≡ multi_level
at_end g m = elim (cut g) [
  | inl alone ↦ (let L : List (List ℕ) → Type 0 = λ ls. LevelsMatch ls [] in (subst L (levels_alone g alone) m).0)
  | inr (c, t, e, fine) ↦ (let L : List (List ℕ) → Type 0 = λ ls. LevelsMatch ls [] in absurd (levels_some t (subst L (ap levels e ∙ levels_first c t fine) m).1))
]

none_left : (later : Option (Bor (List ℕ))) → LevelsMatch [] (rest_levels later) → later ≡ None
none_left None m = refl
none_left (Some t) m = absurd (by (levels t.now) refl m)
  where
    by : (ls : List (List ℕ)) → levels t.now ≡ ls → LevelsMatch [] ls → ⊥
    by [] e k = levels_some t.now e
    by (l ∷ ls) e k = k

-- the ways on from a branch
abbrev pub Ways : List ℕ → Option (Bor (List ℕ)) → List ℕ → Type 0
Ways own later g = (g ≡ multi_level) ⊎ (((g ≡ single_level) ⊎ (g ≡ own)) × (later ≡ None))
    ⊎ ((c : List ℕ) × (t : List ℕ) × ((c ≡ single_level) ⊎ (c ≡ own)) × (g ≡ c ++ 47 ∷ t) × LevelsMatch (levels t) (rest_levels later))

pub ways_on : (rest own : List ℕ) (later : Option (Bor (List ℕ))) (g : List ℕ) → IsCut rest own later → LevelsMatch (levels g) (levels rest) → Ways own later g
ways_on rest own later g parts m =
    let L : List (List ℕ) → Type 0 = LevelsMatch (levels g) in
    let k : LevelsMatch (levels g) (own ∷ rest_levels later) = subst L (levels_cut rest own later parts) m in
    let K : List (List ℕ) → Type 0 = λ ls. LevelsMatch ls (own ∷ rest_levels later) in
    elim (cut g) [
      | inl alone ↦ last (subst K (levels_alone g alone) k)
      | inr (c, t, e, fine) ↦ more c t e (subst K (ap levels e ∙ levels_first c t fine) k)
    ]
  where
    last : LevelsMatch (g ∷ []) (own ∷ rest_levels later) → Ways own later g
    last (inl h) = inl h.0
    last (inr h) = inr (inl (h.0, none_left later h.1))

    more : (c t : List ℕ) → g ≡ c ++ 47 ∷ t → LevelsMatch (c ∷ levels t) (own ∷ rest_levels later) → Ways own later g
    more c t e (inl h) = absurd (levels_some t h.1)
    more c t e (inr h) = inr (inr (c, t, h.0, e, h.1))

-- the keys after one
is_after : List ℕ → List ℕ → Bool
is_after k q = range_contains text_cmp (Excluded k) Unbounded q

sides : (k q : List ℕ) → (IsBefore k q × (is_after k q ≡ true)) ⊎ ((IsBefore k q → ⊥) × (is_after k q ≡ false))
unfolding is_after
sides k q = by (text_cmp k q) refl
  where
    by : (o : Ordering) → text_cmp k q ≡ o → (IsBefore k q × ((is_lt o && not false) ≡ true)) ⊎ ((IsBefore k q → ⊥) × ((is_lt o && not false) ≡ false))
    by Less e = inl ((order_is k q).0 e, refl)
    by Equal e = inr ((λ h. let f : Equal ≡ Less = sym e ∙ (order_is k q).1 h in cc), refl)
    by Greater e = inr ((λ h. let f : Greater ≡ Less = sym e ∙ (order_is k q).1 h in cc), refl)

module _ {X : Type 0} where
  abbrev pub past_key : List ℕ → List (List ℕ × X) → List (List ℕ × X)
  past_key k es = entries_between text_cmp (Excluded k) Unbounded es

  drops : (k : List ℕ) (e : List ℕ × X) (es : List (List ℕ × X)) → is_after k e.0 ≡ false → past_key k (e ∷ es) ≡ past_key k es
  unfolding is_after
  drops k e es h = ap (λ t. cond t (e ∷ past_key k es) (past_key k es)) h

  keeps : (k : List ℕ) (e : List ℕ × X) (es : List (List ℕ × X)) → is_after k e.0 ≡ true → past_key k (e ∷ es) ≡ e ∷ past_key k es
  unfolding is_after
  keeps k e es h = ap (λ t. cond t (e ∷ past_key k es) (past_key k es)) h

  pub after_holds : (k : List ℕ) (es : List (List ℕ × X)) (q : List ℕ) → After k es → Holds es q → IsBefore k q
  after_holds k [] q a h = absurd h
  after_holds k (e ∷ es) q a (inl h) = let B : List ℕ → Type 0 = IsBefore k in subst B h a.0
  after_holds k (e ∷ es) q a (inr h) = after_holds k es q a.1 h

  -- no key is after the last
  pub none_past : (k : List ℕ) (es : List (List ℕ × X)) → past_key k es ≡ [] → (q : List ℕ) → Holds es q → IsBefore k q → ⊥
  none_past k [] e q h b = h
  none_past k (x ∷ es) e q h b = elim (sides k x.0) [
    | inl s ↦ (let f : x ∷ past_key k es ≡ [] = sym (keeps k x es s.1) ∙ e in cc)
    | inr s ↦ by s (λ p. none_past k es (sym (drops k x es s.1) ∙ e) q p b) h
  ]
    where
      by : (IsBefore k x.0 → ⊥) × (is_after k x.0 ≡ false) → (Holds es q → ⊥) → (x.0 ≡ q) ⊎ Holds es q → ⊥
      by s r (inl p) = let B : List ℕ → Type 0 = IsBefore k in s.0 (subst B (sym p) b)
      by s r (inr p) = r p

  -- the first key after one
  pub first_past : (k : List ℕ) (es : List (List ℕ × X)) (x : List ℕ × X) (xs : List (List ℕ × X)) → Rises es → past_key k es ≡ x ∷ xs
      → IsNext (Holds es) k (Some x.0)
  unfolding Rises
  first_past k [] x xs r e = absurd (let f : [] ≡ x ∷ xs = e in cc)
  first_past k (y ∷ es) x xs r e = elim (sides k y.0) [
    | inl s ↦
        let f : y ∷ past_key k es ≡ x ∷ xs = sym (keeps k y es s.1) ∙ e in
        let same : y ≡ x = cc in
        let N : List ℕ × X → Type 0 = λ z. IsNext (Holds (y ∷ es)) k (Some z.0) in
        subst N same (s.0, λ q h after low. first q h low)
    | inr s ↦
        let n = first_past k es x xs r.1 (sym (drops k y es s.1) ∙ e) in
        (n.0, λ q h after low. later s n q h after low)
  ]
    where
      first : (q : List ℕ) → (y.0 ≡ q) ⊎ Holds es q → IsBefore q y.0 → ⊥
      first q (inl p) low = let B : List ℕ → Type 0 = λ z. IsBefore z y.0 in let l = subst B (sym p) low in asymmetric y.0 y.0 l l
      first q (inr p) low = asymmetric q y.0 low (after_holds y.0 es q r.0 p)

      later : (IsBefore k y.0 → ⊥) × (is_after k y.0 ≡ false) → IsNext (Holds es) k (Some x.0) → (q : List ℕ) → (y.0 ≡ q) ⊎ Holds es q → IsBefore k q → IsBefore q x.0 → ⊥
      later s n q (inl p) after low = let B : List ℕ → Type 0 = IsBefore k in s.0 (subst B (sym p) after)
      later s n q (inr p) after low = n.1 q p after low

-- what is next of the ends is next of the filters, where shared ones aren't passed over
module _ {X : Type 0} (es : List (List ℕ × X)) (name : List ℕ) (Filed : List ℕ → Type 0) (key : List ℕ)
    (plain : (f : List ℕ) → Filed f → LevelsMatch (levels f) (levels name) → Holds es f)
    (share : (f : List ℕ) → Filed f → AfterShare f → Holds es (codes "$share")) where
  abbrev pub Sought : List ℕ → Type 0
  Sought f = Matches f name × Filed f

  after_share : (f : List ℕ) → AfterShare f → IsBefore (codes "$share") f
  after_share f (t, e) = let B : List ℕ → Type 0 = IsBefore (codes "$share") in subst B (sym e) (after_front (codes "$share") [] (47 ∷ t) tt)

  below_end : (f : List ℕ) → AfterShare f → IsBefore f (codes "$share0")
  below_end f (t, e) = let B : List ℕ → Type 0 = λ x. IsBefore x (codes "$share0") in subst B (sym e) (after_front (codes "$share") (47 ∷ t) (48 ∷ []) (inl (omega arith)))

  pub before_share : (b : Option (List ℕ)) → IsBefore key (codes "$share") → IsNext (Holds es) key b → IsNext Sought key b
  before_share None low n = (
    n.0,
    λ f s after. elim (plain_or_shared f name s.0) [
      | inl p ↦ n.1 f (plain f s.1 p) after
      | inr t ↦ n.1 (codes "$share") (share f s.1 t) low
    ],
  )
  before_share (Some b) low n = (
    n.0,
    λ f s after h. elim (plain_or_shared f name s.0) [
      | inl p ↦ n.1 f (plain f s.1 p) after h
      | inr t ↦ n.1 (codes "$share") (share f s.1 t) low (transitive (codes "$share") f b (after_share f t) h)
    ],
  )

  pub past_share : (b : Option (List ℕ)) → (IsBefore key (codes "$share0") → ⊥) → IsNext (Holds es) key b → IsNext Sought key b
  past_share b high n = (
    n.0,
    λ f s after. elim (plain_or_shared f name s.0) [
      | inl p ↦ n.1 f (plain f s.1 p) after
      | inr t ↦ absurd (high (transitive key f (codes "$share0") after (below_end f t)))
    ],
  )

-- what leads past no key with P leads past none with a narrower Q
pub leads_narrow : (P Q : List ℕ → Type 0) (key : List ℕ) (r : Onward (List ℕ)) → ((f : List ℕ) → Q f → P f) → Leads (λ f. f) P key r → Leads (λ f. f) Q key r
leads_narrow P Q key Next m n = tt
leads_narrow P Q key (From b) m n = (n.0, λ f q after. n.1 f (m f q) after)
leads_narrow P Q key End m n = (n.0, λ f q after. n.1 f (m f q) after)

module _ {X : Type 0} (es : List (List ℕ × X)) (name : List ℕ) (Filed : List ℕ → Type 0) (key : List ℕ)
    (plain : (f : List ℕ) → Filed f → LevelsMatch (levels f) (levels name) → Holds es f)
    (share : (f : List ℕ) → Filed f → AfterShare f → Holds es (codes "$share")) where
  pub leads_before : (r : Onward (List ℕ)) → IsBefore key (codes "$share") → Leads (λ f. f) (Holds es) key r → Leads (λ f. f) (λ f. Matches f name × Filed f) key r
  leads_before Next low n = tt
  leads_before (From b) low n = before_share es name Filed key plain share (Some b) low n
  leads_before End low n = before_share es name Filed key plain share None low n

  pub leads_past : (r : Onward (List ℕ)) → (IsBefore key (codes "$share0") → ⊥) → Leads (λ f. f) (Holds es) key r → Leads (λ f. f) (λ f. Matches f name × Filed f) key r
  leads_past Next high n = tt
  leads_past (From b) high n = past_share es name Filed key plain share (Some b) high n
  leads_past End high n = past_share es name Filed key plain share None high n

-- on from a branch: to what ends after it, or to a longer branch
pub ways_taken : {E0 E1 E2 E3 W0 W1 W2 F : Type 0} (text own rest f : List ℕ) (later : Option (Bor (List ℕ))) → IsCut rest own later
    → (E0 ⊎ (F × (f ≡ text ++ multi_level)) → E1)
    → (E1 ⊎ (F × (f ≡ text ++ single_level) × (later ≡ None)) → E2)
    → (E2 ⊎ (F × (f ≡ text ++ own) × (later ≡ None)) → E3)
    → (W0 ⊎ (F × ((g : List ℕ) × (f ≡ text ++ (single_level ++ 47 ∷ g)) × LevelsMatch (levels g) (rest_levels later))) → W1)
    → (W1 ⊎ (F × ((g : List ℕ) × (f ≡ text ++ (own ++ 47 ∷ g)) × LevelsMatch (levels g) (rest_levels later))) → W2)
    → F → E0 ⊎ W0 ⊎ ((g : List ℕ) × (f ≡ text ++ g) × LevelsMatch (levels g) (levels rest)) → E3 ⊎ W2
ways_taken text own rest f later parts a b c d e filed (inl h) = inl (c (inl (b (inl (a (inl h))))))
ways_taken text own rest f later parts a b c d e filed (inr (inl w)) = inr (e (inl (d (inl w))))
ways_taken {E0} {E1} {E2} {E3} {W0} {W1} {W2} {F} text own rest f later parts a b c d e filed (inr (inr (g, is, m))) = by (ways_on rest own later g parts m)
  where
    at : (x : List ℕ) → g ≡ x → f ≡ text ++ x
    at x p = is ∙ ap (λ y. text ++ y) p

    by : Ways own later g → E3 ⊎ W2
    by (inl p) = inl (c (inl (b (inl (a (inr (filed, at multi_level p)))))))
    by (inr (inl (inl p, n))) = inl (c (inl (b (inr (filed, at single_level p, n)))))
    by (inr (inl (inr p, n))) = inl (c (inr (filed, at own p, n)))
    by (inr (inr (k, t, inl s, q, l))) = inr (e (inl (d (inr (filed, (t, at (single_level ++ 47 ∷ t) (q ∙ ap (λ z. z ++ 47 ∷ t) s), l))))))
    by (inr (inr (k, t, inr s, q, l))) = inr (e (inr (filed, (t, at (own ++ 47 ∷ t) (q ∙ ap (λ z. z ++ 47 ∷ t) s), l))))

pub way_ended : {E0 E1 W F : Type 0} (text f : List ℕ) → (E0 ⊎ (F × (f ≡ text ++ multi_level)) → E1) → F
    → E0 ⊎ W ⊎ ((g : List ℕ) × (f ≡ text ++ g) × LevelsMatch (levels g) []) → E1 ⊎ W
way_ended text f a filed (inl h) = inl (a (inl h))
way_ended text f a filed (inr (inl w)) = inr w
way_ended text f a filed (inr (inr (g, is, m))) = inl (a (inr (filed, is ∙ ap (λ y. text ++ y) (at_end g m))))

pub longer : (text level g whole : List ℕ) → whole ≡ (text ++ level) ++ 47 ∷ [] → text ++ (level ++ 47 ∷ g) ≡ whole ++ g
longer text level g whole is = sym (append_assoc text level (47 ∷ g)) ∙ sym (append_assoc (text ++ level) (47 ∷ []) g) ∙ ap (λ x. x ++ g) (sym is)
