-- Who may subscribe to a filter may read what it matches.
use Rattle.std.proofs.Common.{◌≡◌, ◌⊎◌, inl, inr, ℕ, Bool, true, false, ◌&&◌, List, [], ◌∷◌, Option, Some, None, refl, sym, ◌∙◌, ap}
use Rattle.std.specs.List.{list_any}
use Rattle.std.specs.Option.{option_map_or}
use Rattle.mqtt_topics.specs.Levels.{levels}
use Rattle.mqtt_topics.specs.Matching.{Matches, PlainMatches}
use Rattle.mqtt_topics.specs.Topics.{filter_part}
use Rattle.mqtt_access.specs.declared.rule.Access.{Access}
use Rattle.mqtt_access.specs.declared.rule.Access.TheVariants.{Read, Write, ReadWrite, Deny}
use Rattle.mqtt_access.specs.declared.rule.TopicRule.{TopicRule}
use Rattle.mqtt_access.specs.Comparing.{begins_with_dollar, cover, covers, is_multi, is_single, is_wild, matches_topic, meet, meets, name_matches, opened}
use Rattle.mqtt_access.specs.Filled.{first_level}
use Rattle.mqtt_access.specs.Laws.{SubscribersMayRead}
use Rattle.mqtt_access.specs.Rules.{allows, denies, is_deny, is_unfit, meets_asked, passes, rule_levels, suits}
use Rattle.mqtt_access.specs.Rules.Asked.{ToRead, ToSubscribe}
use Rattle.mqtt_access.proofs.Covering.{both_meet, covered, matched, opened_matches}
use Rattle.mqtt_access.proofs.FirstLevels.{dollar_alike, has_first, wild_text}
use Rattle.mqtt_access.proofs.Tests.{and_both, and_first, and_second, false_or_true, never, not_true, or_either, or_left, or_right, same, true_not}

-- where a filter matches a topic that begins with `$`, its first level does too, or is a wildcard
firsts : (asked ns : List (List ℕ)) → name_matches asked ns ≡ true → begins_with_dollar (first_level ns) ≡ true → (is_wild (first_level asked) ≡ true) ⊎ (begins_with_dollar (first_level asked) ≡ true)
firsts asked [] m d = never d
firsts [] (n ∷ ns) m d = never m
firsts (a ∷ later) (n ∷ ns) m d =
    elim (or_either (is_multi a) _ m) [
      | inl e ↦ inl (or_left (is_multi a) (is_single a) e)
      | inr e ↦ elim (or_either (is_single a) _ (and_first _ (name_matches later ns) e)) [
        | inl f ↦ inl (or_right (is_multi a) (is_single a) f)
        | inr f ↦ inr (ap begins_with_dollar (same a n f) ∙ d)
      ]
    ]

-- a level that is a wildcard doesn't begin with `$`
pub not_wild : (level : List ℕ) → is_wild level ≡ true → begins_with_dollar level ≡ true → ⊥
not_wild level w d =
    elim (or_either (is_multi level) (is_single level) w) [
      | inl e ↦ false_or_true _ refl (sym (ap begins_with_dollar (same level _ e)) ∙ d)
      | inr e ↦ false_or_true _ refl (sym (ap begins_with_dollar (same level _ e)) ∙ d)
    ]

-- the other way round: a first level that begins with `$` is that of each topic
firsts_back : (asked ns : List (List ℕ)) → name_matches asked ns ≡ true → begins_with_dollar (first_level asked) ≡ true → begins_with_dollar (first_level ns) ≡ true
firsts_back [] ns m d = never d
firsts_back (a ∷ later) [] m d = absurd (not_wild a (or_left (is_multi a) (is_single a) m) d)
firsts_back (a ∷ later) (n ∷ ns) m d =
    elim (or_either (is_multi a) _ m) [
      | inl e ↦ absurd (not_wild a (or_left (is_multi a) (is_single a) e) d)
      | inr e ↦ elim (or_either (is_single a) _ (and_first _ (name_matches later ns) e)) [
        | inl f ↦ absurd (not_wild a (or_right (is_multi a) (is_single a) f) d)
        | inr f ↦ sym (ap begins_with_dollar (same a n f)) ∙ d
      ]
    ]

pub covers_matched : (rule : List (List ℕ)) (part topic : List ℕ) → covers rule (levels part) ≡ true → PlainMatches part topic → matches_topic rule topic ≡ true
covers_matched rule part topic c m =
    let asked = matched (levels part) (levels topic) m.0 in
    let first = has_first topic in
    let names : name_matches (opened (levels part)) (levels topic) ≡ true = opened_too (levels part) (levels topic) first.first first.rest first.is asked in
    and_both (name_matches rule (levels topic)) _ (covered rule (opened (levels part)) (levels topic) names (and_first (cover rule (opened (levels part))) _ c))
    (true_not (is_wild (first_level rule) && begins_with_dollar topic) (λ both.
    let wild = and_first (is_wild (first_level rule)) (begins_with_dollar topic) both in
    let dollar = and_second (is_wild (first_level rule)) (begins_with_dollar topic) both in
    elim (firsts (levels part) (levels topic) asked (sym (dollar_alike topic) ∙ dollar)) [
      | inl e ↦ m.1 (wild_text part e) dollar
      | inr e ↦ not_true _ (and_second (cover rule (opened (levels part))) _ c) (and_both (is_wild (first_level rule)) _ wild e)
    ]))
  where
    opened_too : (asked ns : List (List ℕ)) (n : List ℕ) (rest : List (List ℕ)) → ns ≡ n ∷ rest → name_matches asked ns ≡ true → name_matches (opened asked) ns ≡ true
    opened_too asked ns n rest is m = ap (name_matches (opened asked)) is ∙ opened_matches asked n rest (sym (ap (name_matches asked) is) ∙ m)

pub matched_meets : (rule : List (List ℕ)) (part topic : List ℕ) → matches_topic rule topic ≡ true → PlainMatches part topic → meets rule (levels part) ≡ true
matched_meets rule part topic r m =
    let asked = matched (levels part) (levels topic) m.0 in
    let names = and_first (name_matches rule (levels topic)) _ r in
    let plain = and_second (name_matches rule (levels topic)) _ r in
    let one = true_not (is_wild (first_level rule) && begins_with_dollar (first_level (levels part))) (λ both.
    let dollar = firsts_back (levels part) (levels topic) asked (and_second (is_wild (first_level rule)) _ both) in
    not_true _ plain (and_both (is_wild (first_level rule)) (begins_with_dollar topic) (and_first (is_wild (first_level rule)) _ both) (dollar_alike topic ∙ dollar))) in
    let other = true_not (begins_with_dollar (first_level rule) && is_wild (first_level (levels part))) (λ both.
    let dollar = firsts_back rule (levels topic) names (and_first (begins_with_dollar (first_level rule)) _ both) in
    m.1 (wild_text part (and_second (begins_with_dollar (first_level rule)) _ both)) (dollar_alike topic ∙ dollar)) in
    all (meet rule (levels part)) _ _ (both_meet rule (levels part) (levels topic) names asked) one other
  where
    all : (a b c : Bool) → a ≡ true → b ≡ true → c ≡ true → (a && b && c) ≡ true
    all true true true e f g = refl
    all true true false e f g = g
    all true false c e f g = never f
    all false b c e f g = never e

any_too : (p q : TopicRule → Bool) → ((rule : TopicRule) → p rule ≡ true → q rule ≡ true) → (rules : List TopicRule) → list_any p rules ≡ true → list_any q rules ≡ true
any_too p q h [] e = e
any_too p q h (rule ∷ rules) e =
    elim (or_either (p rule) (list_any p rules) e) [
      | inl f ↦ or_left (q rule) (list_any q rules) (h rule f)
      | inr f ↦ or_right (q rule) (list_any q rules) (any_too p q h rules f)
    ]

suits_too : (access : Access) (filter topic : List ℕ) → suits access (ToSubscribe filter) ≡ true → suits access (ToRead topic) ≡ true
suits_too Read filter topic e = refl
suits_too Write filter topic e = never e
suits_too ReadWrite filter topic e = refl
suits_too Deny filter topic e = never e

levels_pass : (o : Option (List (List ℕ))) (filter topic : List ℕ) → Matches filter topic → option_map_or (λ ls. passes ls (ToSubscribe filter)) o false ≡ true → option_map_or (λ ls. passes ls (ToRead topic)) o false ≡ true
levels_pass None filter topic m e = never e
levels_pass (Some ls) filter topic m e = covers_matched ls (filter_part filter) topic e m

levels_meet : (o : Option (List (List ℕ))) (unfit : Bool) (filter topic : List ℕ) → Matches filter topic → option_map_or (λ ls. meets_asked ls (ToRead topic)) o unfit ≡ true → option_map_or (λ ls. meets_asked ls (ToSubscribe filter)) o unfit ≡ true
levels_meet None unfit filter topic m e = e
levels_meet (Some ls) unfit filter topic m e = matched_meets ls (filter_part filter) topic e m

pub subscribers_may_read : SubscribersMayRead
subscribers_may_read rules user client filter topic subscribes m =
    let gives : (rule : TopicRule) → allows rule user client (ToSubscribe filter) ≡ true → allows rule user client (ToRead topic) ≡ true = λ rule e.
    and_both (suits rule.access (ToRead topic)) _ (suits_too rule.access filter topic (and_first (suits rule.access (ToSubscribe filter)) _ e))
    (levels_pass (rule_levels rule user client) filter topic m (and_second (suits rule.access (ToSubscribe filter)) _ e)) in
    let forbids : (rule : TopicRule) → denies rule user client (ToRead topic) ≡ true → denies rule user client (ToSubscribe filter) ≡ true = λ rule e.
    and_both (is_deny rule.access) _ (and_first (is_deny rule.access) _ e)
    (levels_meet (rule_levels rule user client) (is_unfit rule.scope (levels rule.filter) user client) filter topic m (and_second (is_deny rule.access) _ e)) in
    let given = λ (rule : TopicRule). allows rule user client (ToSubscribe filter) in
    let denied = λ (rule : TopicRule). denies rule user client (ToSubscribe filter) in
    let reads = λ (rule : TopicRule). allows rule user client (ToRead topic) in
    let unread = λ (rule : TopicRule). denies rule user client (ToRead topic) in
    and_both (list_any reads rules) _ (any_too given reads gives rules (and_first (list_any given rules) _ subscribes))
    (true_not (list_any unread rules) (λ e. not_true (list_any denied rules) (and_second (list_any given rules) _ subscribes) (any_too unread denied forbids rules e)))
