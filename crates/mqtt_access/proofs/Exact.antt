-- What covers and meets say, over all topics.
use Rattle.std.proofs.Common.{◌≡◌, ◌≢◌, ◌⊎◌, inl, inr, ℕ, Bool, true, false, not, ◌&&◌, ◌||◌, List, [], ◌∷◌, ◌++◌, refl, sym, ◌∙◌, ap, subst, IsTrue, arith}
use Rattle.std.specs.Prelude.{nat_eq, codes, if◌then◌else◌}
use Rattle.std.specs.Str.{bytes_eq}
use Rattle.std.specs.List.{All, join_with_byte, list_any, starts_with}
use Rattle.std.proofs.lemmas.Bool.{false_from_ne_true}
use Rattle.std.proofs.lemmas.Bool.Decides.{nat_tests}
use Rattle.std.proofs.lemmas.List.Elements.{All-cons, All-nil}
use Rattle.std.proofs.lemmas.List.Splits.{slice_split-cons_yes, slice_split_at, slice_split_none}
use Rattle.mqtt_topics.specs.Levels.{ArePlaced, HasWildcard, is_separator, is_wildcard, levels, multi_level, single_level}
use Rattle.mqtt_topics.specs.Matching.{BeginsWithDollar, BeginsWithWildcard, LevelsMatch, Matches, PlainMatches}
use Rattle.mqtt_topics.specs.Topics.{filter_part}
use Rattle.mqtt_access.specs.Comparing.{begins_with_dollar, cover, covers, is_multi, is_single, is_wild, meet, meets, name_matches, opened}
use Rattle.mqtt_access.specs.Filled.{first_level}
use Rattle.mqtt_access.specs.Laws.{CoversAllMatched, FiltersMatchAlike, MeetsSomeMatched, RuleMatches, TopicsAreMatched}
use Rattle.mqtt_access.proofs.Covering.{matched}
use Rattle.mqtt_access.proofs.FirstLevels.{after, dollar_alike, has_first, wild_text}
use Rattle.mqtt_access.proofs.Reading.{covers_matched, matched_meets, not_wild}
use Rattle.mqtt_access.proofs.Samples.{AreApart, ArePlain, Heads, TwoHeads, common, has_some, last_level, missing, sample}
use Rattle.mqtt_access.proofs.Tests.{and_both, and_first, and_second, by_test, false_or_true, first_false, neither, never, not_false, not_true, or_either, or_left, or_right, same, second_false, tests_same, true_not}

-- the relation has what the test passes
tested : (ls ns : List (List ℕ)) → ArePlaced ls → name_matches ls ns ≡ true → LevelsMatch ls ns
tested [] [] placed m = tt
tested [] (n ∷ ns) placed m = never m
tested (l ∷ ls) [] placed m = (same l multi_level m, last_level l ls placed.0 m)
tested (l ∷ ls) (n ∷ ns) placed m =
    elim (or_either (is_multi l) _ m) [
      | inl e ↦ inl (same l multi_level e, last_level l ls placed.0 e)
      | inr e ↦ inr (one (and_first (is_single l || bytes_eq l n) (name_matches ls ns) e), tested ls ns placed.1 (and_second (is_single l || bytes_eq l n) (name_matches ls ns) e))
    ]
  where
    one : (is_single l || bytes_eq l n) ≡ true → (l ≡ single_level) ⊎ (l ≡ n)
    one e = elim (or_either (is_single l) (bytes_eq l n) e) [ inl f ↦ inl (same l single_level f) | inr f ↦ inr (same l n f) ]

pub topics_are_matched : TopicsAreMatched
topics_are_matched rule topic placed = (
  λ m. (
    tested rule (levels topic) placed (and_first (name_matches rule (levels topic)) _ m),
    λ wild dollar. not_true _ (and_second (name_matches rule (levels topic)) _ m) (and_both (is_wild (first_level rule)) (begins_with_dollar topic) wild dollar),
  ),
  λ r. and_both (name_matches rule (levels topic)) _ (matched rule (levels topic) r.0)
      (true_not (is_wild (first_level rule) && begins_with_dollar topic) (λ both. r.1 (and_first (is_wild (first_level rule)) (begins_with_dollar topic) both) (and_second (is_wild (first_level rule)) (begins_with_dollar topic) both))),
)

first_byte : (x y : ℕ) (xs : List ℕ) → IsTrue (starts_with nat_eq (x ∷ xs) (y ∷ [])) → x ≡ y
first_byte x y xs e = grind (arith, nat_tests)

begins : (x : ℕ) (xs : List ℕ) (y : ℕ) → is_wildcard y ≡ true → is_separator y ≡ false → x ≡ y → ArePlaced (levels (x ∷ xs)) → is_wild (first_level (levels (x ∷ xs))) ≡ true
begins x xs y wild fails e placed =
    let a = after x xs (ap is_separator e ∙ fails) in
    ap (λ ls. is_wild (first_level ls)) a.is ∙ fills (x ∷ a.first) a.rest (or_left (is_wildcard x) (list_any is_wildcard a.first) (ap is_wildcard e ∙ wild)) (subst ArePlaced a.is placed)
  where
    fills : (level : List ℕ) (rest : List (List ℕ)) → list_any is_wildcard level ≡ true → ArePlaced (level ∷ rest) → is_wild level ≡ true
    fills level rest has placed =
        elim placed.0 [ inl none ↦ absurd (none has) | inr (inl f) ↦ or_right (is_multi level) (is_single level) (tests_same level single_level f) | inr (inr f) ↦ or_left (is_multi level) (is_single level) (tests_same level multi_level f.0) ]

-- a text that begins with a wildcard has one as its first level, where wildcards fill their levels
wild_level : (text : List ℕ) → ArePlaced (levels text) → BeginsWithWildcard text → is_wild (first_level (levels text)) ≡ true
wild_level [] placed (inl e) = never e
wild_level [] placed (inr e) = never e
wild_level (x ∷ xs) placed (inl e) = begins x xs 35 refl refl (first_byte x 35 xs e) placed
wild_level (x ∷ xs) placed (inr e) = begins x xs 43 refl refl (first_byte x 43 xs e) placed

pub filters_match_alike : FiltersMatchAlike
filters_match_alike filter topic f plain =
    let part : filter_part filter ≡ filter = rw (false_from_ne_true (starts_with nat_eq filter (codes "$share/")) plain) refl in
    let placed = subst (λ text. ArePlaced (levels text)) part f.placed in (
      λ r. subst (λ text. PlainMatches text topic) (sym part) (r.0, λ wild. r.1 (wild_level filter placed wild)),
      λ m. let n = subst (λ text. PlainMatches text topic) part m in (n.0, λ wild. n.1 (wild_text filter wild)),
    )

-- the levels of a text have no separator
apart_levels : (text : List ℕ) → AreApart (levels text)
apart_levels [] = (refl, tt)
apart_levels (x ∷ xs) = by_test (is_separator x) (AreApart (levels (x ∷ xs)))
    (λ holds. subst AreApart (sym (slice_split-cons_yes is_separator x xs holds)) (refl, apart_levels xs))
    (λ fails. let a = after x xs fails in
    let others = subst AreApart a.of (apart_levels xs) in
    subst AreApart (sym a.is) (neither (is_separator x) (list_any is_separator a.first) fails others.0, others.1))

all_apart : (n : List ℕ) → list_any is_separator n ≡ false → All (λ b. is_separator b ≡ false) n
all_apart [] e = All-nil (λ b. is_separator b ≡ false)
all_apart (b ∷ bs) e = All-cons (λ b. is_separator b ≡ false) b bs (first_false (is_separator b) (list_any is_separator bs) e) (all_apart bs (second_false (is_separator b) (list_any is_separator bs) e))

-- the text of levels has them
pub levels_join : (n : List ℕ) (ns : List (List ℕ)) → AreApart (n ∷ ns) → levels (join_with_byte 47 (n ∷ ns)) ≡ n ∷ ns
levels_join n [] apart = slice_split_none is_separator n (all_apart n apart.0)
levels_join n (m ∷ ns) apart = slice_split_at is_separator n 47 (join_with_byte 47 (m ∷ ns)) (all_apart n apart.0) refl ∙ ap (λ ls. n ∷ ls) (levels_join m ns apart.1)

-- a topic that has these levels
pub record TextOf (ns : List (List ℕ)) : Type 0 where
  pub text : List ℕ
  pub is : levels text ≡ ns
  pub plain : HasWildcard text → ⊥
  pub dollar : begins_with_dollar text ≡ begins_with_dollar (first_level ns)

any_append : (p : ℕ → Bool) (xs ys : List ℕ) → list_any p xs ≡ false → list_any p ys ≡ false → list_any p (xs ++ ys) ≡ false
any_append p [] ys e f = f
any_append p (x ∷ xs) ys e f = neither (p x) (list_any p (xs ++ ys)) (first_false (p x) (list_any p xs) e) (any_append p xs ys (second_false (p x) (list_any p xs) e) f)

no_wildcards : (n : List ℕ) (ns : List (List ℕ)) → ArePlain (n ∷ ns) → list_any is_wildcard (join_with_byte 47 (n ∷ ns)) ≡ false
no_wildcards n [] plain = plain.0.0
no_wildcards n (m ∷ ns) plain = any_append is_wildcard n (47 ∷ join_with_byte 47 (m ∷ ns)) plain.0.0 (no_wildcards m ns plain.1)

are_apart : (ns : List (List ℕ)) → ArePlain ns → AreApart ns
are_apart [] plain = tt
are_apart (n ∷ ns) plain = (plain.0.1, are_apart ns plain.1)

text_of : (ns : List (List ℕ)) → has_some ns ≡ true → ArePlain ns → TextOf ns
text_of [] some plain = never some
text_of (n ∷ ns) some plain =
    let text = join_with_byte 47 (n ∷ ns) in
    let is = levels_join n ns (are_apart (n ∷ ns) plain) in
    record { text = text; is = is; plain = λ has. false_or_true (list_any is_wildcard text) (no_wildcards n ns plain) has; dollar = dollar_alike text ∙ ap (λ ls. begins_with_dollar (first_level ls)) is }

-- `opened` of one level, by whether that is `#`
abbrev cond_opened : List ℕ → Bool → List (List ℕ)
cond_opened a multi = if multi then single_level ∷ multi_level ∷ [] else a ∷ []

opened_keeps : (P : List (List ℕ) → Type 0) (asked : List (List ℕ)) → P asked → P (single_level ∷ multi_level ∷ []) → P (opened asked)
opened_keeps P [] p q = p
opened_keeps P (a ∷ b ∷ later) p q = p
opened_keeps P (a ∷ []) p q = by_test (is_multi a) (P (opened (a ∷ []))) (λ e. rw e q) (λ e. rw e p)

not_both : single_level ≡ multi_level → ⊥
not_both e = false_or_true (bytes_eq single_level multi_level) refl (tests_same single_level multi_level e)

-- what `+/#` in the place of `#` matches has a level
opened_some : (asked ns : List (List ℕ)) → has_some asked ≡ true → LevelsMatch (opened asked) ns → has_some ns ≡ true
opened_some asked (n ∷ ns) some m = refl
opened_some [] [] some m = never some
opened_some (a ∷ b ∷ later) [] some m = absurd (no_more m.1)
  where
    no_more : b ∷ later ≡ [] → ⊥
    no_more e = false_or_true (has_some []) refl (sym (ap has_some e))
opened_some (a ∷ []) [] some m = by_test (is_multi a) (has_some [] ≡ true)
    (λ e. absurd (not_both (one a e m)))
    (λ e. absurd (false_or_true (is_multi a) e (tests_same a multi_level (two a e m))))
  where
    one : (a : List ℕ) → is_multi a ≡ true → LevelsMatch (opened (a ∷ [])) [] → single_level ≡ multi_level
    one a e m = (subst (λ (b : Bool). LevelsMatch (cond_opened a b) []) e m).0

    two : (a : List ℕ) → is_multi a ≡ false → LevelsMatch (opened (a ∷ [])) [] → a ≡ multi_level
    two a e m = (subst (λ (b : Bool). LevelsMatch (cond_opened a b) []) e m).0

unopened : (asked ns : List (List ℕ)) → has_some ns ≡ true → LevelsMatch (opened asked) ns → LevelsMatch asked ns
unopened asked [] some m = never some
unopened [] (n ∷ ns) some m = m
unopened (a ∷ b ∷ later) (n ∷ ns) some m = m
unopened (a ∷ []) (n ∷ ns) some m = by_test (is_multi a) (LevelsMatch (a ∷ []) (n ∷ ns))
    (λ e. inl (same a multi_level e, refl))
    (λ e. subst (λ (b : Bool). LevelsMatch (cond_opened a b) (n ∷ ns)) e m)

opened_heads : (asked ns : List (List ℕ)) → Heads (opened asked) ns → is_wild (first_level asked) ≡ true → begins_with_dollar (first_level ns) ≡ false
opened_heads asked [] heads wild = refl
opened_heads [] (n ∷ ns) heads wild = never wild
opened_heads (a ∷ b ∷ later) (n ∷ ns) heads wild = heads.0 wild
opened_heads (a ∷ []) (n ∷ ns) heads wild = by_test (is_multi a) (begins_with_dollar n ≡ false)
    (λ e. (subst (λ (b : Bool). Heads (cond_opened a b) (n ∷ ns)) e heads).0 refl)
    (λ e. (subst (λ (b : Bool). Heads (cond_opened a b) (n ∷ ns)) e heads).0 wild)

wild_heads : (asked ns : List (List ℕ)) → Heads asked ns → is_wild (first_level asked) ≡ true → begins_with_dollar (first_level ns) ≡ false
wild_heads asked [] heads wild = refl
wild_heads [] (n ∷ ns) heads wild = never wild
wild_heads (a ∷ later) (n ∷ ns) heads wild = heads.0 wild

own_heads : (asked ns : List (List ℕ)) → has_some ns ≡ true → has_some asked ≡ true → Heads asked ns → is_wild (first_level asked) ≡ false → first_level ns ≡ first_level asked
own_heads asked [] some more heads fails = never some
own_heads [] (n ∷ ns) some more heads fails = never more
own_heads (a ∷ later) (n ∷ ns) some more heads fails = heads.1 fails

some_levels : (text : List ℕ) → has_some (levels text) ≡ true
some_levels text = ap has_some (has_first text).is

-- a rule that covers a filter matches each topic of it; one that doesn't misses one
pub covers_all_matched : CoversAllMatched
covers_all_matched rule filter placed f = (
  λ c topic plain m. (topics_are_matched rule topic placed).0 (covers_matched rule part topic c m),
  λ all. by_test (covers rule asked) (covers rule asked ≡ true) (λ e. e) (λ fails. absurd (by_test (cover rule (opened asked)) ⊥ (at_dollar all fails) (at_levels all))),
)
  where
    part : List ℕ
    part = filter_part filter

    asked : List (List ℕ)
    asked = levels part

    at_levels : ((topic : List ℕ) → (HasWildcard topic → ⊥) → Matches filter topic → RuleMatches rule topic) → cover rule (opened asked) ≡ false → ⊥
    at_levels all fails =
        let w = missing rule (opened asked) (opened_keeps ArePlaced asked f.placed (inr (inl refl), (inr (inr (refl, refl)), tt))) (opened_keeps AreApart asked (apart_levels part) (refl, (refl, tt))) fails in
        let some = opened_some asked w.ns (some_levels part) w.matched in
        let t = text_of w.ns some w.plain in
        let mild : BeginsWithWildcard part → begins_with_dollar t.text ≡ false = λ wild. t.dollar ∙ opened_heads asked w.ns w.heads (wild_level part f.placed wild) in
        let r = all t.text t.plain (subst (LevelsMatch asked) (sym t.is) (unopened asked w.ns some w.matched), λ wild dollar. false_or_true (begins_with_dollar t.text) (mild wild) dollar) in
        w.missed (subst (LevelsMatch rule) t.is r.0)

    at_dollar : ((topic : List ℕ) → (HasWildcard topic → ⊥) → Matches filter topic → RuleMatches rule topic) → covers rule asked ≡ false → cover rule (opened asked) ≡ true → ⊥
    at_dollar all fails holds =
        let s = sample asked f.placed (apart_levels part) in
        let some = s.some ∙ some_levels part in
        let t = text_of s.ns some s.plain in
        let both = not_false (is_wild (first_level rule) && begins_with_dollar (first_level asked)) (later (cover rule (opened asked)) _ holds fails) in
        let dollar = and_second (is_wild (first_level rule)) (begins_with_dollar (first_level asked)) both in
        let tame : is_wild (first_level asked) ≡ true → ⊥ = λ wild. not_wild (first_level asked) wild dollar in
        let own = own_heads asked s.ns some (some_levels part) s.heads (by_test (is_wild (first_level asked)) (is_wild (first_level asked) ≡ false) (λ e. absurd (tame e)) (λ e. e)) in
        let r = all t.text t.plain (subst (LevelsMatch asked) (sym t.is) s.matched, λ wild _. tame (wild_level part f.placed wild)) in
        r.1 (and_first (is_wild (first_level rule)) (begins_with_dollar (first_level asked)) both) (t.dollar ∙ ap begins_with_dollar own ∙ dollar)
      where
        later : (x y : Bool) → x ≡ true → (x && y) ≡ false → y ≡ false
        later true y e g = g
        later false y e g = never e

-- the first levels of two filters that have some
pub record FirstOfTwo (rule asked ns : List (List ℕ)) : Type 0 where
  pub some : has_some ns ≡ true
  pub mild : is_wild (first_level rule) ≡ true → is_wild (first_level asked) ≡ true → begins_with_dollar (first_level ns) ≡ false
  pub first : is_wild (first_level rule) ≡ false → first_level ns ≡ first_level rule
  pub second : is_wild (first_level asked) ≡ false → first_level ns ≡ first_level asked

first_of_two : (rule asked ns : List (List ℕ)) → has_some rule ≡ true → has_some asked ≡ true → TwoHeads rule asked ns → FirstOfTwo rule asked ns
first_of_two [] asked ns r a heads = never r
first_of_two (r ∷ rs) [] ns e a heads = never a
first_of_two (r ∷ rs) (a ∷ later) [] e f heads = absurd heads
first_of_two (r ∷ rs) (a ∷ later) (n ∷ ns) e f heads = record { some = refl; mild = heads.0; first = heads.1; second = heads.2 }

some_of : (ls : List (List ℕ)) → ls ≢ [] → has_some ls ≡ true
some_of [] fails = absurd (fails refl)
some_of (l ∷ ls) fails = refl

pub meets_some_matched : MeetsSomeMatched
meets_some_matched rule filter is f = (
  found,
  λ x. matched_meets rule part x.0 ((topics_are_matched rule x.0 is.placed).1 x.3) x.2,
)
  where
    part : List ℕ
    part = filter_part filter

    asked : List (List ℕ)
    asked = levels part

    found : meets rule asked ≡ true → (topic : List ℕ) × (HasWildcard topic → ⊥) × Matches filter topic × RuleMatches rule topic
    found m =
        let plain = not (is_wild (first_level rule) && begins_with_dollar (first_level asked)) in
        let tame = not (begins_with_dollar (first_level rule) && is_wild (first_level asked)) in
        let met = and_first (meet rule asked && plain) tame m in
        let one = and_second (meet rule asked) plain met in
        let two = and_second (meet rule asked && plain) tame m in
        let b = common rule asked is.placed is.apart f.placed (apart_levels part) (and_first (meet rule asked) plain met) in
        let h = first_of_two rule asked b.ns (some_of rule is.some) (some_levels part) b.heads in
        let t = text_of b.ns h.some b.plain in
        let rule_first : is_wild (first_level rule) ≡ true → BeginsWithDollar t.text → ⊥ = λ wild dollar.
        by_test (is_wild (first_level asked)) ⊥
        (λ also. false_or_true (begins_with_dollar t.text) (t.dollar ∙ h.mild wild also) dollar)
        (λ own. not_true _ one (and_both (is_wild (first_level rule)) (begins_with_dollar (first_level asked)) wild (sym (ap begins_with_dollar (h.second own)) ∙ (sym t.dollar ∙ dollar)))) in
        let asked_first : BeginsWithWildcard part → BeginsWithDollar t.text → ⊥ = λ begins dollar.
        let also = wild_level part f.placed begins in
        by_test (is_wild (first_level rule)) ⊥
        (λ wild. false_or_true (begins_with_dollar t.text) (t.dollar ∙ h.mild wild also) dollar)
        (λ own. not_true _ two (and_both (begins_with_dollar (first_level rule)) (is_wild (first_level asked)) (sym (ap begins_with_dollar (h.first own)) ∙ (sym t.dollar ∙ dollar)) also)) in
        (t.text, t.plain, (subst (LevelsMatch asked) (sym t.is) b.second, asked_first), (subst (LevelsMatch rule) (sym t.is) b.first, rule_first))
