-- One rule more, where it is put.
use Rattle.std.proofs.Common.{◌≡◌, ℕ, Bool, true, false, ◌||◌, ◌&&◌, cond, List, [], ◌∷◌, ◌++◌, Option, Some, None, refl, sym, ap, ◌∙◌, subst}
use Rattle.std.specs.List.{list_any}
use Rattle.std.specs.Option.{option_map_or}
use Rattle.std.specs.Str.{bytes_eq}
use Rattle.mqtt_topics.specs.Levels.{levels}
use Rattle.mqtt_access.specs.Index.{HasMore, IsMorePatterns, forbids, forbids_in, gives, gives_in, own}
use Rattle.mqtt_access.specs.Named.{IsAddedFor, rules_of}
use Rattle.mqtt_access.specs.Own.{IsAdded, forbids_at, gives_at, own_forbids, own_gives}
use Rattle.mqtt_access.specs.Rules.{Asked, allows, denies, is_deny, meets_asked, passes, suits}
use Rattle.mqtt_access.specs.declared.index.RuleIndex.{RuleIndex}
use Rattle.mqtt_access.specs.declared.named.NamedRules.{NamedRules}
use Rattle.mqtt_access.specs.declared.own.OwnRules.{OwnRules}
use Rattle.mqtt_access.specs.declared.patterns.Patterns.{Patterns}
use Rattle.mqtt_access.specs.declared.rule.Access.{Access}
use Rattle.mqtt_access.specs.declared.rule.Access.TheVariants.{Read, Write, ReadWrite, Deny}
use Rattle.mqtt_access.specs.declared.rule.Scope.{Scope}
use Rattle.mqtt_access.specs.declared.rule.Scope.TheVariants.{Nameless, User}
use Rattle.mqtt_access.specs.declared.rule.TopicRule.{TopicRule}
use Rattle.mqtt_access.proofs.Owning.{any_more, no_more}
use Rattle.mqtt_access.proofs.Tests.{by_test, false_of, false_or_true, same, tests_same}

-- ---- what kinds of rules don't do

gives_nothing : (rule : TopicRule) (access : Access) (user : Option (List ℕ)) (client : List ℕ) (asked : Asked) → rule.access ≡ access → is_deny access ≡ true → allows rule user client asked ≡ false
gives_nothing rule Deny user client asked is e = ap (λ (a : Access). allows (record rule { access = a }) user client asked) is
gives_nothing rule Read user client asked is e = absurd cc
gives_nothing rule Write user client asked is e = absurd cc
gives_nothing rule ReadWrite user client asked is e = absurd cc

forbids_nothing : (rule : TopicRule) (access : Access) (user : Option (List ℕ)) (client : List ℕ) (asked : Asked) → rule.access ≡ access → is_deny access ≡ false → denies rule user client asked ≡ false
forbids_nothing rule Deny user client asked is e = absurd cc
forbids_nothing rule Read user client asked is e = ap (λ (a : Access). denies (record rule { access = a }) user client asked) is
forbids_nothing rule Write user client asked is e = ap (λ (a : Access). denies (record rule { access = a }) user client asked) is
forbids_nothing rule ReadWrite user client asked is e = ap (λ (a : Access). denies (record rule { access = a }) user client asked) is

-- ---- a pattern joins those that give, or those that forbid

pub put_giving : (rule : TopicRule) (g g' : Patterns) → is_deny rule.access ≡ false → g'.giving.items ≡ g.giving.items ++ rule ∷ [] → g'.denying.items ≡ g.denying.items → IsMorePatterns rule g g'
put_giving rule g g' gives_some more same = record {
  gives = λ user client asked.
      ap (list_any (λ r. allows r user client asked)) more ∙ any_more (λ r. allows r user client asked) g.giving.items rule;
  forbids = λ user client asked.
      ap (list_any (λ r. denies r user client asked)) same ∙ no_more (forbids g user client asked)
      ∙ ap (λ (b : Bool). forbids g user client asked || b) (sym (forbids_nothing rule rule.access user client asked refl gives_some));
}

pub put_denying : (rule : TopicRule) (g g' : Patterns) → is_deny rule.access ≡ true → g'.denying.items ≡ g.denying.items ++ rule ∷ [] → g'.giving.items ≡ g.giving.items → IsMorePatterns rule g g'
put_denying rule g g' denied more same = record {
  gives = λ user client asked.
      ap (list_any (λ r. allows r user client asked)) same ∙ no_more (gives g user client asked)
      ∙ ap (λ (b : Bool). gives g user client asked || b) (sym (gives_nothing rule rule.access user client asked refl denied));
  forbids = λ user client asked.
      ap (list_any (λ r. denies r user client asked)) more ∙ any_more (λ r. denies r user client asked) g.denying.items rule;
}

-- ---- no rules

pub none_given : (x : RuleIndex) → ((asked : Asked) → own_gives x.nameless asked ≡ false) → ((name : List ℕ) → rules_of x.named name ≡ None)
    → ((user : Option (List ℕ)) (client : List ℕ) (asked : Asked) → gives x.patterns user client asked ≡ false) → (user : Option (List ℕ)) (client : List ℕ) (asked : Asked) → gives_in x user client asked ≡ false
none_given x nameless named patterns None client asked = ap (λ (b : Bool). b || gives x.patterns None client asked) (nameless asked) ∙ patterns None client asked
none_given x nameless named patterns (Some user) client asked = ap (λ (o : Option OwnRules). gives_at o asked || gives x.patterns (Some user) client asked) (named user) ∙ patterns (Some user) client asked

pub none_forbidden : (x : RuleIndex) → ((asked : Asked) → own_forbids x.nameless asked ≡ false) → ((name : List ℕ) → rules_of x.named name ≡ None)
    → ((user : Option (List ℕ)) (client : List ℕ) (asked : Asked) → forbids x.patterns user client asked ≡ false) → (user : Option (List ℕ)) (client : List ℕ) (asked : Asked) → forbids_in x user client asked ≡ false
none_forbidden x nameless named patterns None client asked = ap (λ (b : Bool). b || forbids x.patterns None client asked) (nameless asked) ∙ patterns None client asked
none_forbidden x nameless named patterns (Some user) client asked = ap (λ (o : Option OwnRules). forbids_at o asked || forbids x.patterns (Some user) client asked) (named user) ∙ patterns (Some user) client asked

-- ---- whose rule it is

beside : (a b c : Bool) → ((a || c) || b) ≡ ((a || b) || c)
beside true b c = refl
beside false true true = refl
beside false true false = refl
beside false false true = refl
beside false false false = refl

behind : (a b c : Bool) → (a || (b || c)) ≡ ((a || b) || c)
behind true b c = refl
behind false b c = refl

never_both : (a : Bool) → (a && false) ≡ false
never_both true = refl
never_both false = refl

-- a rule says nothing of this user
record IsNot (rule : TopicRule) (user : Option (List ℕ)) : Type 0 where
  gives : (client : List ℕ) (asked : Asked) → allows rule user client asked ≡ false
  forbids : (client : List ℕ) (asked : Asked) → denies rule user client asked ≡ false

nameless_not : (rule : TopicRule) (name : List ℕ) → rule.scope ≡ Nameless → IsNot rule (Some name)
nameless_not rule name is = record {
  gives = λ client asked. ap (λ (s : Scope). allows (record rule { scope = s }) (Some name) client asked) is ∙ never_both (suits rule.access asked);
  forbids = λ client asked. ap (λ (s : Scope). denies (record rule { scope = s }) (Some name) client asked) is ∙ never_both (is_deny rule.access);
}

user_not : (rule : TopicRule) (owner : List ℕ) → rule.scope ≡ User owner → IsNot rule None
user_not rule owner is = record {
  gives = λ client asked. ap (λ (s : Scope). allows (record rule { scope = s }) None client asked) is ∙ never_both (suits rule.access asked);
  forbids = λ client asked. ap (λ (s : Scope). denies (record rule { scope = s }) None client asked) is ∙ never_both (is_deny rule.access);
}

other_not : (rule : TopicRule) (owner name : List ℕ) → rule.scope ≡ User owner → bytes_eq name owner ≡ false → IsNot rule (Some name)
other_not rule owner name is other = record {
  gives = λ client asked. ap (λ (s : Scope). allows (record rule { scope = s }) (Some name) client asked) is
      ∙ ap (λ (b : Bool). suits rule.access asked && option_map_or (λ ls. passes ls asked) (cond b (Some (levels rule.filter)) None) false) other ∙ never_both (suits rule.access asked);
  forbids = λ client asked. ap (λ (s : Scope). denies (record rule { scope = s }) (Some name) client asked) is
      ∙ ap (λ (b : Bool). is_deny rule.access && option_map_or (λ ls. meets_asked ls asked) (cond b (Some (levels rule.filter)) None) false) other ∙ never_both (is_deny rule.access);
}

-- what the rules of one kind of clients come to for one of them, where a rule joins them or isn't for it
record IsMore (rule : TopicRule) (user : Option (List ℕ)) (x x' : RuleIndex) : Type 0 where
  gives : (client : List ℕ) (asked : Asked) → gives_in x' user client asked ≡ (gives_in x user client asked || allows rule user client asked)
  forbids : (client : List ℕ) (asked : Asked) → forbids_in x' user client asked ≡ (forbids_in x user client asked || denies rule user client asked)

-- a rule is for this user, whatever its kind
record IsFor (rule : TopicRule) (user : Option (List ℕ)) : Type 0 where
  gives : (client : List ℕ) (asked : Asked) → (suits rule.access asked && passes (levels rule.filter) asked) ≡ allows rule user client asked
  forbids : (client : List ℕ) (asked : Asked) → (is_deny rule.access && meets_asked (levels rule.filter) asked) ≡ denies rule user client asked

nameless_for : (rule : TopicRule) → rule.scope ≡ Nameless → IsFor rule None
nameless_for rule is = record {
  gives = λ client asked. ap (λ (s : Scope). allows (record rule { scope = s }) None client asked) (sym is);
  forbids = λ client asked. ap (λ (s : Scope). denies (record rule { scope = s }) None client asked) (sym is);
}

user_for : (rule : TopicRule) (owner : List ℕ) → rule.scope ≡ User owner → IsFor rule (Some owner)
user_for rule owner is = record {
  gives = λ client asked.
      ap (λ (b : Bool). suits rule.access asked && option_map_or (λ ls. passes ls asked) (cond b (Some (levels rule.filter)) None) false) (sym (tests_same owner owner refl))
      ∙ ap (λ (s : Scope). allows (record rule { scope = s }) (Some owner) client asked) (sym is);
  forbids = λ client asked.
      ap (λ (b : Bool). is_deny rule.access && option_map_or (λ ls. meets_asked ls asked) (cond b (Some (levels rule.filter)) None) false) (sym (tests_same owner owner refl))
      ∙ ap (λ (s : Scope). denies (record rule { scope = s }) (Some owner) client asked) (sym is);
}

joins_own : (rule : TopicRule) (user : Option (List ℕ)) (x x' : RuleIndex) → IsFor rule user → IsAdded rule.access rule.filter (own x user) (own x' user) → x'.patterns ≡ x.patterns → IsMore rule user x x'
joins_own rule user x x' here is same = record {
  gives = λ client asked.
      ap (λ (b : Bool). b || gives x'.patterns user client asked) (is.gives asked ∙ ap (λ (b : Bool). gives_at (own x user) asked || b) (here.gives client asked))
      ∙ ap (λ (g : Patterns). (gives_at (own x user) asked || allows rule user client asked) || gives g user client asked) same
      ∙ beside (gives_at (own x user) asked) (gives x.patterns user client asked) (allows rule user client asked);
  forbids = λ client asked.
      ap (λ (b : Bool). b || forbids x'.patterns user client asked) (is.forbids asked ∙ ap (λ (b : Bool). forbids_at (own x user) asked || b) (here.forbids client asked))
      ∙ ap (λ (g : Patterns). (forbids_at (own x user) asked || denies rule user client asked) || forbids g user client asked) same
      ∙ beside (forbids_at (own x user) asked) (forbids x.patterns user client asked) (denies rule user client asked);
}

not_for : (rule : TopicRule) (user : Option (List ℕ)) (x x' : RuleIndex) → IsNot rule user → own x' user ≡ own x user → x'.patterns ≡ x.patterns → IsMore rule user x x'
not_for rule user x x' none here all = record {
  gives = λ client asked.
      ap (λ (g : Option OwnRules). gives_at g asked || gives x'.patterns user client asked) here
      ∙ ap (λ (g : Patterns). gives_at (own x user) asked || gives g user client asked) all
      ∙ no_more (gives_in x user client asked) ∙ ap (λ (b : Bool). gives_in x user client asked || b) (sym (none.gives client asked));
  forbids = λ client asked.
      ap (λ (g : Option OwnRules). forbids_at g asked || forbids x'.patterns user client asked) here
      ∙ ap (λ (g : Patterns). forbids_at (own x user) asked || forbids g user client asked) all
      ∙ no_more (forbids_in x user client asked) ∙ ap (λ (b : Bool). forbids_in x user client asked || b) (sym (none.forbids client asked));
}

joins_all : (rule : TopicRule) (user : Option (List ℕ)) (x x' : RuleIndex) → IsMorePatterns rule x.patterns x'.patterns → own x' user ≡ own x user → IsMore rule user x x'
joins_all rule user x x' is here = record {
  gives = λ client asked.
      ap (λ (g : Option OwnRules). gives_at g asked || gives x'.patterns user client asked) here
      ∙ ap (λ (b : Bool). gives_at (own x user) asked || b) (is.gives user client asked)
      ∙ behind (gives_at (own x user) asked) (gives x.patterns user client asked) (allows rule user client asked);
  forbids = λ client asked.
      ap (λ (g : Option OwnRules). forbids_at g asked || forbids x'.patterns user client asked) here
      ∙ ap (λ (b : Bool). forbids_at (own x user) asked || b) (is.forbids user client asked)
      ∙ behind (forbids_at (own x user) asked) (forbids x.patterns user client asked) (denies rule user client asked);
}

-- ---- an index with one rule more

whole : (rule : TopicRule) (x x' : RuleIndex) → ((user : Option (List ℕ)) → IsMore rule user x x') → x'.clients.items ≡ x.clients.items → HasMore rule x x'
whole rule x x' each same = record {
  gives = λ user client asked. (each user).gives client asked;
  forbids = λ user client asked. (each user).forbids client asked;
  clients = same;
}

pub more_nameless : (rule : TopicRule) (x : RuleIndex) (g : OwnRules) → rule.scope ≡ Nameless → IsAdded rule.access rule.filter (Some x.nameless) (Some g) → HasMore rule x (record x { nameless = g })
more_nameless rule x g is added = whole rule x (record x { nameless = g }) each refl
  where
    each : (user : Option (List ℕ)) → IsMore rule user x (record x { nameless = g })
    each None = joins_own rule None x (record x { nameless = g }) (nameless_for rule is) added refl
    each (Some name) = not_for rule (Some name) x (record x { nameless = g }) (nameless_not rule name is) refl refl

pub more_pattern : (rule : TopicRule) (x : RuleIndex) (g : Patterns) → IsMorePatterns rule x.patterns g → HasMore rule x (record x { patterns = g })
more_pattern rule x g added = whole rule x (record x { patterns = g }) each refl
  where
    each : (user : Option (List ℕ)) → IsMore rule user x (record x { patterns = g })
    each None = joins_all rule None x (record x { patterns = g }) added refl
    each (Some name) = joins_all rule (Some name) x (record x { patterns = g }) added refl

pub more_user : (rule : TopicRule) (x : RuleIndex) (t : NamedRules) (owner : List ℕ) → rule.scope ≡ User owner → IsAddedFor owner rule.access rule.filter x.named t → HasMore rule x (record x { named = t })
more_user rule x t owner is added = whole rule x (record x { named = t }) each refl
  where
    each : (user : Option (List ℕ)) → IsMore rule user x (record x { named = t })
    each None = not_for rule None x (record x { named = t }) (user_not rule owner is) refl refl
    each (Some name) = by_test (bytes_eq owner name) _
        (λ same_name. subst (λ (n : List ℕ). IsMore rule (Some n) x (record x { named = t })) (same owner name same_name)
        (joins_own rule (Some owner) x (record x { named = t }) (user_for rule owner is) added.here refl))
        (λ other. not_for rule (Some name) x (record x { named = t })
        (other_not rule owner name is (false_of (bytes_eq name owner) (λ e. false_or_true (bytes_eq owner name) other (tests_same owner name (sym (same name owner e))))))
        (added.there name other) refl)
