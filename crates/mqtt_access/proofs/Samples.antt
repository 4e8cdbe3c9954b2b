-- Topics that a filter matches, and that show where another one doesn't.
use Rattle.std.proofs.Common.{◌≡◌, ◌≢◌, inl, inr, ℕ, Bool, true, false, not, ◌&&◌, ◌||◌, List, [], ◌∷◌, refl, sym, ◌∙◌, ap}
use Rattle.std.specs.List.{AllByRecursion, list_any}
use Rattle.std.specs.Str.{bytes_eq}
use Rattle.mqtt_topics.specs.Levels.{ArePlaced, HasWildcard, IsPlaced, is_separator, is_wildcard, multi_level, single_level}
use Rattle.mqtt_topics.specs.Matching.{LevelsMatch}
use Rattle.mqtt_access.specs.Comparing.{begins_with_dollar, cover, is_multi, is_single, is_wild, meet}
use Rattle.mqtt_access.proofs.Tests.{and_first, and_second, by_test, false_of, false_or_true, first_false, neither, never, or_left, or_right, same, second_false, tests_same}

-- a level of a topic: no wildcard, and no separator
abbrev pub IsPlain : List ℕ → Type 0
IsPlain n = (list_any is_wildcard n ≡ false) × (list_any is_separator n ≡ false)

abbrev pub ArePlain : List (List ℕ) → Type 0
ArePlain ns = AllByRecursion IsPlain ns

abbrev pub AreApart : List (List ℕ) → Type 0
AreApart ls = AllByRecursion (λ level. list_any is_separator level ≡ false) ls

-- the first level is a filter's own, or doesn't begin with `$` where the filter's is a wildcard
abbrev pub Heads : List (List ℕ) → List (List ℕ) → Type 0
Heads [] ns = Unit {0}
Heads (a ∷ later) [] = Unit {0}
Heads (a ∷ later) (n ∷ ns) = (is_wild a ≡ true → begins_with_dollar n ≡ false) × (is_wild a ≡ false → n ≡ a)

abbrev pub has_some : List (List ℕ) → Bool
has_some [] = false
has_some (n ∷ ns) = true

abbrev pub x_level : List ℕ
x_level = 120 ∷ []

abbrev pub y_level : List ℕ
y_level = 121 ∷ []

no_wildcard : (level : List ℕ) → (HasWildcard level → ⊥) → list_any is_wildcard level ≡ false
no_wildcard level fails = false_of (list_any is_wildcard level) fails

-- a level that is no wildcard has none
plain_level : (a : List ℕ) (later : List (List ℕ)) → IsPlaced a later → is_multi a ≡ false → is_single a ≡ false → list_any is_wildcard a ≡ false
plain_level a later (inl none) m s = no_wildcard a none
plain_level a later (inr (inl e)) m s = absurd (false_or_true (is_single a) s (tests_same a single_level e))
plain_level a later (inr (inr last)) m s = absurd (false_or_true (is_multi a) m (tests_same a multi_level last.0))

-- `#` is the last level
pub last_level : (a : List ℕ) (later : List (List ℕ)) → IsPlaced a later → is_multi a ≡ true → later ≡ []
last_level a later (inl none) m = absurd (none (ap (list_any is_wildcard) (same a multi_level m)))
last_level a later (inr (inl e)) m = absurd (false_or_true (is_multi a) (ap is_multi e) m)
last_level a later (inr (inr last)) m = last.1

pub record Sampled (asked : List (List ℕ)) : Type 0 where
  pub ns : List (List ℕ)
  pub matched : LevelsMatch asked ns
  pub plain : ArePlain ns
  pub heads : Heads asked ns
  pub some : has_some ns ≡ has_some asked

-- a filter matches some topic
pub sample : (asked : List (List ℕ)) → ArePlaced asked → AreApart asked → Sampled asked
sample [] placed apart = record { ns = []; matched = tt; plain = tt; heads = tt; some = refl }
sample (a ∷ later) placed apart =
    let rest = sample later placed.1 apart.1 in
    by_test (is_multi a) (Sampled (a ∷ later))
    (λ multi. record {
      ns = x_level ∷ [];
      matched = inl (same a multi_level multi, last_level a later placed.0 multi);
      plain = ((refl, refl), tt);
      heads = (λ _. refl, λ fails. never (sym fails ∙ or_left (is_multi a) (is_single a) multi));
      some = refl;
    })
    (λ not_multi. by_test (is_single a) (Sampled (a ∷ later))
    (λ single. record {
      ns = x_level ∷ rest.ns;
      matched = inr (inl (same a single_level single), rest.matched);
      plain = ((refl, refl), rest.plain);
      heads = (λ _. refl, λ fails. never (sym fails ∙ or_right (is_multi a) (is_single a) single));
      some = refl;
    })
    (λ not_single. record {
      ns = a ∷ rest.ns;
      matched = inr (inr refl, rest.matched);
      plain = ((plain_level a later placed.0 not_multi not_single, apart.0), rest.plain);
      heads = (λ wild. never (sym (neither (is_multi a) (is_single a) not_multi not_single) ∙ wild), λ _. refl);
      some = refl;
    }))

-- a topic that a filter matches, and a rule doesn't
pub record Shown (rule asked : List (List ℕ)) : Type 0 where
  pub ns : List (List ℕ)
  pub matched : LevelsMatch asked ns
  pub missed : LevelsMatch rule ns → ⊥
  pub plain : ArePlain ns
  pub heads : Heads asked ns

pub record Other (r : List ℕ) : Type 0 where
  pub level : List ℕ
  pub differs : r ≢ level
  pub plain : IsPlain level
  pub mild : begins_with_dollar level ≡ false

-- a level that isn't this one
other : (r : List ℕ) → Other r
other r = by_test (bytes_eq r x_level) (Other r)
    (λ holds. record { level = y_level; differs = λ e. x_not_y (sym (same r x_level holds) ∙ e); plain = (refl, refl); mild = refl })
    (λ fails. record { level = x_level; differs = λ e. false_or_true (bytes_eq r x_level) fails (tests_same r x_level e); plain = (refl, refl); mild = refl })
  where
    x_not_y : x_level ≡ y_level → ⊥
    x_not_y e = false_or_true (bytes_eq x_level y_level) refl (tests_same x_level y_level e)

nothing_matches_more : (ns : List (List ℕ)) → has_some ns ≡ true → LevelsMatch [] ns → ⊥
nothing_matches_more [] e m = never e
nothing_matches_more (n ∷ ns) e m = m

pub missing : (rule asked : List (List ℕ)) → ArePlaced asked → AreApart asked → cover rule asked ≡ false → Shown rule asked
missing [] [] placed apart c = never (sym c)
missing [] (a ∷ later) placed apart c =
    let s = sample (a ∷ later) placed apart in
    record { ns = s.ns; matched = s.matched; missed = nothing_matches_more s.ns s.some; plain = s.plain; heads = s.heads }
missing (r ∷ rs) [] placed apart c = record { ns = []; matched = tt; missed = λ m. false_or_true (is_multi r) c (tests_same r multi_level m.0); plain = tt; heads = tt }
missing (r ∷ rs) (a ∷ later) placed apart c =
    let not_r = first_false (is_multi r) _ c in
    let fit = is_single r || bytes_eq r a in
    by_test (is_multi a) (Shown (r ∷ rs) (a ∷ later))
    (λ multi. record { ns = []; matched = (same a multi_level multi, last_level a later placed.0 multi); missed = λ m. false_or_true (is_multi r) not_r (tests_same r multi_level m.0); plain = tt; heads = tt })
    (λ not_multi. by_test fit (Shown (r ∷ rs) (a ∷ later))
    (λ fits. let rest = missing rs later placed.1 apart.1 (left (is_multi a) fit (cover rs later) not_multi fits (second_false (is_multi r) _ c)) in goes_on not_r not_multi rest)
    (λ fails. differs not_r not_multi (first_false (is_single r) (bytes_eq r a) fails) (second_false (is_single r) (bytes_eq r a) fails)))
  where
    left : (x y z : Bool) → x ≡ false → y ≡ true → (not (x || not y) && z) ≡ false → z ≡ false
    left true y z e f h = never (sym e)
    left false true z e f h = h
    left false false z e f h = never f

    goes_on : is_multi r ≡ false → is_multi a ≡ false → Shown rs later → Shown (r ∷ rs) (a ∷ later)
    goes_on not_r not_multi rest = by_test (is_single a) (Shown (r ∷ rs) (a ∷ later))
        (λ single. record {
          ns = x_level ∷ rest.ns;
          matched = inr (inl (same a single_level single), rest.matched);
          missed = misses x_level;
          plain = ((refl, refl), rest.plain);
          heads = (λ _. refl, λ fails. never (sym fails ∙ or_right (is_multi a) (is_single a) single));
        })
        (λ not_single. record {
          ns = a ∷ rest.ns;
          matched = inr (inr refl, rest.matched);
          missed = misses a;
          plain = ((plain_level a later placed.0 not_multi not_single, apart.0), rest.plain);
          heads = (λ wild. never (sym (neither (is_multi a) (is_single a) not_multi not_single) ∙ wild), λ _. refl);
        })
      where
        misses : (n : List ℕ) → LevelsMatch (r ∷ rs) (n ∷ rest.ns) → ⊥
        misses n (inl m) = false_or_true (is_multi r) not_r (tests_same r multi_level m.0)
        misses n (inr m) = rest.missed m.1

    differs : is_multi r ≡ false → is_multi a ≡ false → is_single r ≡ false → bytes_eq r a ≡ false → Shown (r ∷ rs) (a ∷ later)
    differs not_r not_multi not_single unlike =
        let rest = sample later placed.1 apart.1 in
        by_test (is_single a) (Shown (r ∷ rs) (a ∷ later))
        (λ single. let o = other r in
        record {
          ns = o.level ∷ rest.ns;
          matched = inr (inl (same a single_level single), rest.matched);
          missed = misses o.level rest.ns o.differs;
          plain = (o.plain, rest.plain);
          heads = (λ _. o.mild, λ fails. never (sym fails ∙ or_right (is_multi a) (is_single a) single));
        })
        (λ plain_a. record {
          ns = a ∷ rest.ns;
          matched = inr (inr refl, rest.matched);
          missed = misses a rest.ns (λ e. false_or_true (bytes_eq r a) unlike (tests_same r a e));
          plain = ((plain_level a later placed.0 not_multi plain_a, apart.0), rest.plain);
          heads = (λ wild. never (sym (neither (is_multi a) (is_single a) not_multi plain_a) ∙ wild), λ _. refl);
        })
      where
        misses : (n : List ℕ) (ns : List (List ℕ)) → r ≢ n → LevelsMatch (r ∷ rs) (n ∷ ns) → ⊥
        misses n ns unlike_n (inl m) = false_or_true (is_multi r) not_r (tests_same r multi_level m.0)
        misses n ns unlike_n (inr (inl e, rest)) = false_or_true (is_single r) not_single (tests_same r single_level e)
        misses n ns unlike_n (inr (inr e, rest)) = unlike_n e

-- the first level, of two filters
abbrev pub TwoHeads : List (List ℕ) → List (List ℕ) → List (List ℕ) → Type 0
TwoHeads (r ∷ rs) (a ∷ later) (n ∷ ns) = (is_wild r ≡ true → is_wild a ≡ true → begins_with_dollar n ≡ false) × (is_wild r ≡ false → n ≡ r) × (is_wild a ≡ false → n ≡ a)
TwoHeads (r ∷ rs) (a ∷ later) [] = ⊥
TwoHeads [] asked ns = Unit {0}
TwoHeads (r ∷ rs) [] ns = Unit {0}

-- a topic that two filters match
pub record Both (rule asked : List (List ℕ)) : Type 0 where
  pub ns : List (List ℕ)
  pub first : LevelsMatch rule ns
  pub second : LevelsMatch asked ns
  pub plain : ArePlain ns
  pub heads : TwoHeads rule asked ns

any_match : (r : List ℕ) (rs ns : List (List ℕ)) → r ≡ multi_level → rs ≡ [] → LevelsMatch (r ∷ rs) ns
any_match r rs [] e f = (e, f)
any_match r rs (n ∷ ns) e f = inl (e, f)

pub common : (rule asked : List (List ℕ)) → ArePlaced rule → AreApart rule → ArePlaced asked → AreApart asked → meet rule asked ≡ true → Both rule asked
common [] [] rp ra ap ad m = record { ns = []; first = tt; second = tt; plain = tt; heads = tt }
common [] (a ∷ later) rp ra ap ad m = record { ns = []; first = tt; second = (same a multi_level m, last_level a later ap.0 m); plain = tt; heads = tt }
common (r ∷ rs) [] rp ra ap ad m = record { ns = []; first = (same r multi_level m, last_level r rs rp.0 m); second = tt; plain = tt; heads = tt }
common (r ∷ rs) (a ∷ later) rp ra ap ad m =
    by_test (is_multi r) (Both (r ∷ rs) (a ∷ later))
    (λ multi. by_rule multi (sample (a ∷ later) ap ad))
    (λ not_r. by_test (is_multi a) (Both (r ∷ rs) (a ∷ later))
    (λ multi. by_asked multi (sample (r ∷ rs) rp ra))
    (λ not_a.
    let both = past (is_multi r) (is_multi a) not_r not_a m in
    let rest = common rs later rp.1 ra.1 ap.1 ad.1 (and_second ((is_single r || is_single a) || bytes_eq r a) (meet rs later) both) in
    one not_r not_a (and_first ((is_single r || is_single a) || bytes_eq r a) (meet rs later) both) rest))
  where
    past : (x y : Bool) {z : Bool} → x ≡ false → y ≡ false → (x || (y || z)) ≡ true → z ≡ true
    past true y e f h = never (sym e)
    past false true e f h = never (sym f)
    past false false e f h = h

    by_rule : is_multi r ≡ true → Sampled (a ∷ later) → Both (r ∷ rs) (a ∷ later)
    by_rule multi s = made s.ns s.matched s.plain s.heads s.some
      where
        made : (ns : List (List ℕ)) → LevelsMatch (a ∷ later) ns → ArePlain ns → Heads (a ∷ later) ns → has_some ns ≡ true → Both (r ∷ rs) (a ∷ later)
        made [] matched plain heads some = never some
        made (n ∷ ns) matched plain heads some = record {
          ns = n ∷ ns;
          first = any_match r rs (n ∷ ns) (same r multi_level multi) (last_level r rs rp.0 multi);
          second = matched;
          plain = plain;
          heads = (λ _ wild. heads.0 wild, λ fails. never (sym fails ∙ or_left (is_multi r) (is_single r) multi), heads.1);
        }

    by_asked : is_multi a ≡ true → Sampled (r ∷ rs) → Both (r ∷ rs) (a ∷ later)
    by_asked multi s = made s.ns s.matched s.plain s.heads s.some
      where
        made : (ns : List (List ℕ)) → LevelsMatch (r ∷ rs) ns → ArePlain ns → Heads (r ∷ rs) ns → has_some ns ≡ true → Both (r ∷ rs) (a ∷ later)
        made [] matched plain heads some = never some
        made (n ∷ ns) matched plain heads some = record {
          ns = n ∷ ns;
          first = matched;
          second = any_match a later (n ∷ ns) (same a multi_level multi) (last_level a later ap.0 multi);
          plain = plain;
          heads = (λ wild _. heads.0 wild, heads.1, λ fails. never (sym fails ∙ or_left (is_multi a) (is_single a) multi));
        }

    one : is_multi r ≡ false → is_multi a ≡ false → ((is_single r || is_single a) || bytes_eq r a) ≡ true → Both rs later → Both (r ∷ rs) (a ∷ later)
    one not_r not_a fit rest =
        by_test (is_single r) (Both (r ∷ rs) (a ∷ later))
        (λ single. by_test (is_single a) (Both (r ∷ rs) (a ∷ later))
        (λ also. record {
          ns = x_level ∷ rest.ns;
          first = inr (inl (same r single_level single), rest.first);
          second = inr (inl (same a single_level also), rest.second);
          plain = ((refl, refl), rest.plain);
          heads = (λ _ _. refl, λ fails. never (sym fails ∙ or_right (is_multi r) (is_single r) single), λ fails. never (sym fails ∙ or_right (is_multi a) (is_single a) also));
        })
        (λ plain_a. record {
          ns = a ∷ rest.ns;
          first = inr (inl (same r single_level single), rest.first);
          second = inr (inr refl, rest.second);
          plain = ((plain_level a later ap.0 not_a plain_a, ad.0), rest.plain);
          heads = (λ _ wild. never (sym (neither (is_multi a) (is_single a) not_a plain_a) ∙ wild), λ fails. never (sym fails ∙ or_right (is_multi r) (is_single r) single), λ _. refl);
        }))
        (λ plain_r. by_test (is_single a) (Both (r ∷ rs) (a ∷ later))
        (λ also. record {
          ns = r ∷ rest.ns;
          first = inr (inr refl, rest.first);
          second = inr (inl (same a single_level also), rest.second);
          plain = ((plain_level r rs rp.0 not_r plain_r, ra.0), rest.plain);
          heads = (λ wild _. never (sym (neither (is_multi r) (is_single r) not_r plain_r) ∙ wild), λ _. refl, λ fails. never (sym fails ∙ or_right (is_multi a) (is_single a) also));
        })
        (λ plain_a. let e = same r a (last (is_single r) (is_single a) plain_r plain_a fit) in record {
          ns = r ∷ rest.ns;
          first = inr (inr refl, rest.first);
          second = inr (inr (sym e), rest.second);
          plain = ((plain_level r rs rp.0 not_r plain_r, ra.0), rest.plain);
          heads = (λ wild _. never (sym (neither (is_multi r) (is_single r) not_r plain_r) ∙ wild), λ _. refl, λ _. e);
        }))
      where
        last : (x y : Bool) {z : Bool} → x ≡ false → y ≡ false → ((x || y) || z) ≡ true → z ≡ true
        last true y e f h = never (sym e)
        last false true e f h = never (sym f)
        last false false e f h = h
