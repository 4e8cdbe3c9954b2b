-- What is surely alike matches.
use Rattle.std.proofs.Common.{◌≡◌, ◌⊎◌, inl, inr, ℕ, Bool, true, false, cond, arith, ◌||◌, ◌&&◌, List, [], ◌∷◌, length, Option, Some, None, refl, sym, ◌∙◌, ap, subst}
use Rattle.std.specs.Prelude.{◌==◌, not}
use Rattle.std.specs.List.{onto_first}
use Rattle.std.specs.Option.{option_map_or}
use Rattle.std.specs.Str.{bytes_eq}
use Rattle.std.proofs.lemmas.Bool.{eqb-true, eqb-false}
use Rattle.std.proofs.lemmas.List.Splits.{slice_split-cons_no, slice_split-cons_yes}
use Rattle.mqtt_topics.specs.Levels.{is_separator, is_wildcard, levels, multi_level, single_level}
use Rattle.mqtt_access.specs.Comparing.{after_level, begins_with_dollar, behind_same, is_multi, is_single, is_surely, is_wild, matches_topic, name_matches, nothing}
use Rattle.mqtt_access.specs.Filled.{filled_places, filter_levels, first_level}
use Rattle.mqtt_access.specs.declared.filled.RuleFilter.{RuleFilter}
use Rattle.mqtt_access.proofs.FirstLevels.{after, has_first}
use Rattle.mqtt_access.proofs.Tests.{and_both, and_first, and_second, by_test, first_false, never, or_either, or_left, or_right, same, second_false, tests_same, true_not}

-- the first levels are the same, and the others match
record IsAlike (fs ts : List ℕ) : Type 0 where
  first : List ℕ
  rules : List (List ℕ)
  names : List (List ℕ)
  filter : levels fs ≡ first ∷ rules
  topic : levels ts ≡ first ∷ names
  rest : name_matches rules names ≡ true

alike_match : (fs ts : List ℕ) → IsAlike fs ts → name_matches (levels fs) (levels ts) ≡ true
alike_match fs ts h =
    ap (λ ls. name_matches ls (levels ts)) h.filter ∙ ap (λ ls. name_matches (h.first ∷ h.rules) ls) h.topic
    ∙ or_right (is_multi h.first) _ (and_both (is_single h.first || bytes_eq h.first h.first) (name_matches h.rules h.names) (or_right (is_single h.first) _ (tests_same h.first h.first refl)) h.rest)

no_bytes : (bs : List ℕ) → nothing bs ≡ true → bs ≡ []
no_bytes [] e = refl
no_bytes (b ∷ bs) e = absurd (let bad : length (b ∷ bs) ≡ 0 = eqb-true (length (b ∷ bs)) 0 e in omega (arith, bad))

-- its first byte is no wildcard
abbrev IsPlainHead : List ℕ → Type 0
IsPlainHead [] = Unit {0}
IsPlainHead (f ∷ fs) = is_wildcard f ≡ false

head_case : (p q x : Bool) (o : Option (List ℕ)) (k : List ℕ → Bool) → cond p (false && x) (option_map_or k (cond q None o) false) ≡ true → (p || q) ≡ false
head_case true q x o k e = never e
head_case false true x o k e = never e
head_case false false x o k e = refl

plain_head : (fs ts : List ℕ) → is_surely false fs ts ≡ true → IsPlainHead fs
plain_head [] ts e = tt
plain_head (f ∷ fs) ts e = head_case (f == 35) (f == 43) (nothing fs) (behind_same f ts) (is_surely (is_separator f) fs) e

-- a byte that is no `#` is a `+` behind a separator, or one that the topic has too
step_case : (p q b u : Bool) (past : List ℕ) (o : Option (List ℕ)) (k : List ℕ → Bool) → p ≡ false → cond p u (option_map_or k (cond q (cond b (Some past) None) o) false) ≡ true
    → ((q ≡ true) × (k past ≡ true)) ⊎ ((q ≡ false) × (option_map_or k o false ≡ true))
step_case true q b u past o k n e = never (sym n)
step_case false true true u past o k n e = inl (refl, e)
step_case false true false u past o k n e = never e
step_case false false b u past o k n e = inr (refl, e)

record IsSame (f : ℕ) (ts : List ℕ) (k : List ℕ → Bool) : Type 0 where
  later : List ℕ
  is : ts ≡ f ∷ later
  holds : k later ≡ true

same_case : (f : ℕ) (ts : List ℕ) (k : List ℕ → Bool) → option_map_or k (behind_same f ts) false ≡ true → IsSame f ts k
same_case f [] k e = never e
same_case f (t ∷ ts) k e = by_test (f == t) (IsSame f (t ∷ ts) k)
    (λ is. record {
      later = ts;
      is = ap (λ (x : ℕ). x ∷ ts) (sym (eqb-true f t is));
      holds = sym (ap (λ (b : Bool). option_map_or k (cond b (Some ts) None) false) is) ∙ e;
    })
    (λ no. never (sym (ap (λ (b : Bool). option_map_or k (cond b (Some ts) None) false) no) ∙ e))

record IsWalked (fs ts : List ℕ) : Type 0 where
  matches : name_matches (levels fs) (levels ts) ≡ true
  alike : IsPlainHead fs → IsAlike fs ts

hash_matches : (ts : List ℕ) → name_matches (levels (35 ∷ [])) (levels ts) ≡ true
hash_matches ts = let h = has_first ts in ap (λ ls. name_matches ((35 ∷ []) ∷ []) ls) h.is

last_hash : (p q v : Bool) → p ≡ true → cond p q v ≡ true → q ≡ true
last_hash true q v is e = e
last_hash false q v is e = never is

by_hash : (b : Bool) (f : ℕ) (fs ts : List ℕ) → (f == 35) ≡ true → (b && nothing fs) ≡ true → IsWalked (f ∷ fs) ts
by_hash b f fs ts is e =
    let none : fs ≡ [] = no_bytes fs (and_second b (nothing fs) e) in
    let hash : f ≡ 35 = eqb-true f 35 is in
    record {
      matches = subst (λ (x : ℕ). name_matches (levels (x ∷ fs)) (levels ts) ≡ true) (sym hash) (subst (λ (xs : List ℕ). name_matches (levels (35 ∷ xs)) (levels ts) ≡ true) (sym none) (hash_matches ts));
      alike = λ plain. never (sym plain ∙ or_left (f == 35) (f == 43) is);
    }

longer : (f : ℕ) (fs ts : List ℕ) → is_separator f ≡ false → IsAlike fs ts → IsAlike (f ∷ fs) (f ∷ ts)
longer f fs ts on h = record {
  first = f ∷ h.first;
  rules = h.rules;
  names = h.names;
  filter = slice_split-cons_no is_separator f fs on ∙ ap (onto_first f) h.filter;
  topic = slice_split-cons_no is_separator f ts on ∙ ap (onto_first f) h.topic;
  rest = h.rest;
}

parted : (f : ℕ) (fs ts : List ℕ) → is_separator f ≡ true → name_matches (levels fs) (levels ts) ≡ true → IsAlike (f ∷ fs) (f ∷ ts)
parted f fs ts at matches = record {
  first = [];
  rules = levels fs;
  names = levels ts;
  filter = slice_split-cons_yes is_separator f fs at;
  topic = slice_split-cons_yes is_separator f ts at;
  rest = matches;
}

walked : (fs ts : List ℕ) → IsAlike fs ts → IsWalked fs ts
walked fs ts h = record { matches = alike_match fs ts h; alike = λ plain. h }

-- the levels of a topic where those behind its first level are known
record IsPast (ts first : List ℕ) (names : List (List ℕ)) : Type 0 where
  none : first ≡ []
  own : List ℕ
  is : levels ts ≡ own ∷ names

heads : (a b : List ℕ) (xs ys : List (List ℕ)) → a ∷ xs ≡ b ∷ ys → b ≡ a
heads a b xs ys e = cc

past : (ts first : List ℕ) (names : List (List ℕ)) → levels (after_level ts) ≡ first ∷ names → IsPast ts first names
past [] first names e = record { none = heads [] first [] names e; own = first; is = e }
past (t ∷ ts) first names e = by_test (is_separator t) (IsPast (t ∷ ts) first names)
    (λ at.
    let now : levels (t ∷ ts) ≡ first ∷ names = sym (ap (λ (b : Bool). levels (cond b (t ∷ ts) (after_level ts))) at) ∙ e in
    record { none = heads [] first (levels ts) names (sym (slice_split-cons_yes is_separator t ts at) ∙ now); own = first; is = now })
    (λ on.
    let now : levels (after_level ts) ≡ first ∷ names = sym (ap (λ (b : Bool). levels (cond b (t ∷ ts) (after_level ts))) on) ∙ e in
    let p = past ts first names now in
    record { none = p.none; own = t ∷ p.own; is = slice_split-cons_no is_separator t ts on ∙ ap (onto_first t) p.is })

single_alone : (f : ℕ) (first : List ℕ) → f ≡ 43 → first ≡ [] → f ∷ first ≡ 43 ∷ []
single_alone f first is none = cc

-- a `+`, and what follows it
passed : (f : ℕ) (fs ts : List ℕ) → (f == 43) ≡ true → is_surely (is_separator f) fs (after_level ts) ≡ true → IsWalked fs (after_level ts) → IsWalked (f ∷ fs) ts
passed f fs ts single later next =
    let is : f ≡ 43 = eqb-true f 43 single in
    let on : is_separator f ≡ false = ap is_separator is in
    let h : IsAlike fs (after_level ts) = next.alike (plain_head fs (after_level ts) (subst (λ (x : Bool). is_surely x fs (after_level ts) ≡ true) on later)) in
    let p = past ts h.first h.names h.topic in
    let rule : levels (f ∷ fs) ≡ (43 ∷ []) ∷ h.rules = slice_split-cons_no is_separator f fs on ∙ ap (onto_first f) h.filter ∙ ap (λ (l : List ℕ). l ∷ h.rules) (single_alone f h.first is p.none) in
    record {
      matches = ap (λ ls. name_matches ls (levels ts)) rule ∙ ap (λ ls. name_matches ((43 ∷ []) ∷ h.rules) ls) p.is ∙ h.rest;
      alike = λ plain. never (sym plain ∙ or_right (f == 35) (f == 43) single);
    }

-- a byte that the topic has too
followed : (f : ℕ) (fs ts : List ℕ) → is_surely (is_separator f) fs ts ≡ true → IsWalked fs ts → IsWalked (f ∷ fs) (f ∷ ts)
followed f fs ts later next = by_test (is_separator f) (IsWalked (f ∷ fs) (f ∷ ts))
    (λ at. walked (f ∷ fs) (f ∷ ts) (parted f fs ts at next.matches))
    (λ on. walked (f ∷ fs) (f ∷ ts) (longer f fs ts on (next.alike (plain_head fs ts (subst (λ (x : Bool). is_surely x fs ts ≡ true) on later)))))

walk : (b : Bool) (fs ts : List ℕ) → is_surely b fs ts ≡ true → IsWalked fs ts
walk b [] ts e = subst (λ (xs : List ℕ). IsWalked [] xs) (sym (no_bytes ts e)) (walked [] [] (record { first = []; rules = []; names = []; filter = refl; topic = refl; rest = refl }))
walk b (f ∷ fs) ts e = by_test (f == 35) (IsWalked (f ∷ fs) ts)
    (λ is. by_hash b f fs ts is (last_hash (f == 35) (b && nothing fs) _ is e))
    (λ no.
    elim (step_case (f == 35) (f == 43) b (b && nothing fs) (after_level ts) (behind_same f ts) (is_surely (is_separator f) fs) no e) [
      | inl h ↦ passed f fs ts h.0 h.1 (walk (is_separator f) fs (after_level ts) h.1)
      | inr h ↦ let s = same_case f ts (is_surely (is_separator f) fs) h.1 in
          subst (λ (xs : List ℕ). IsWalked (f ∷ fs) xs) (sym s.is) (followed f fs s.later s.holds (walk (is_separator f) fs s.later s.holds))
    ])

-- its first level is no wildcard
wild_no : (f : ℕ) (first : List ℕ) → (f == 35) ≡ false → (f == 43) ≡ false → is_wild (f ∷ first) ≡ true → ⊥
wild_no f first no_multi no_single e =
    elim (or_either (is_multi (f ∷ first)) (is_single (f ∷ first)) e) [
      | inl m ↦ eqb-false f 35 no_multi (starts f 35 first (same (f ∷ first) multi_level m))
      | inr s ↦ eqb-false f 43 no_single (starts f 43 first (same (f ∷ first) single_level s))
    ]
  where
    starts : (x y : ℕ) (first : List ℕ) → x ∷ first ≡ y ∷ [] → x ≡ y
    starts x y first e = cc

first_plain : (fs ts : List ℕ) → is_surely false fs ts ≡ true → is_wild (first_level (levels fs)) ≡ true → ⊥
first_plain [] ts e wild = never wild
first_plain (f ∷ fs) ts e wild =
    let plain : is_wildcard f ≡ false = plain_head (f ∷ fs) ts e in
    by_test (is_separator f) _
    (λ at. never (sym (ap (λ ls. is_wild (first_level ls)) (slice_split-cons_yes is_separator f fs at)) ∙ wild))
    (λ on. let a = after f fs on in wild_no f a.first (first_false (f == 35) (f == 43) plain) (second_false (f == 35) (f == 43) plain) (sym (ap (λ ls. is_wild (first_level ls)) a.is) ∙ wild))

-- a filter without names in it matches what it is surely alike
pub surely : (rule : RuleFilter) (topic : List ℕ) → rule.names ≡ None → is_surely false rule.filter.now topic ≡ true → matches_topic (filter_levels rule) topic ≡ true
surely rule topic plain e =
    let same_levels : filter_levels rule ≡ levels rule.filter.now = ap (λ names. filled_places names (levels rule.filter.now)) plain in
    let ls : List (List ℕ) = levels rule.filter.now in
    let one : name_matches ls (levels topic) ≡ true = (walk false rule.filter.now topic e).matches in
    let two : not (is_wild (first_level ls) && begins_with_dollar topic) ≡ true = true_not (is_wild (first_level ls) && begins_with_dollar topic) (λ both. first_plain rule.filter.now topic e (and_first (is_wild (first_level ls)) (begins_with_dollar topic) both)) in
    ap (λ ks. matches_topic ks topic) same_levels ∙ and_both (name_matches ls (levels topic)) (not (is_wild (first_level ls) && begins_with_dollar topic)) one two
