-- An alias stands for the topic to which it was given last.
use Rattle.std.proofs.Common.{◌≡◌, ℕ, Bool, true, false, cond, List, [], ◌∷◌, Option, Some, None, refl, sym, ap, ◌∙◌}
use Rattle.std.specs.Prelude.{◌==◌, ◌&&◌, ◌||◌, not}
use Rattle.std.specs.Cmp.{nat_cmp_total, unsigned_tied}
use Rattle.std.specs.FinSet as set
use Rattle.std.specs.Ordering.{eq_by_cmp, nat_cmp}
use Rattle.mqtt_packets.specs.declared.publish.Publish.{Publish}
use Rattle.door_packets.specs.Laws.{AliasesAreFollowed, is_alias, may_write_given, refused_after, topic_given}
use Rattle.door_packets.specs.Packets.{Aliases, alias_of, aliases_after, aliases_by, aliases_with, has_topic, is_alias_allowed, is_allowed}
use Rattle.door_packets.specs.Rights.{Rights}
use Rattle.door_packets.specs.declared.access.Login.{Login}

-- ---- one alias more, or less

without : (b c : Bool) → (not b && c) ≡ cond b false c
without true c = refl
without false c = refl

beside : (b c : Bool) → (b || c) ≡ cond b true c
beside true c = refl
beside false c = refl

with_alias : (allowed : Bool) (x a : ℕ) (refused : Aliases) → set.contains (aliases_with allowed x refused) a ≡ cond (a == x) (not allowed) (set.contains refused a)
with_alias true x a refused =
    set.contains-remove nat_cmp_total refused x a ∙ ap (λ (b : Bool). not b && set.contains refused a) (unsigned_tied a x) ∙ without (a == x) (set.contains refused a)
with_alias false x a refused =
    set.contains-insert nat_cmp_total refused x a ∙ ap (λ (b : Bool). b || set.contains refused a) (unsigned_tied a x) ∙ beside (a == x) (set.contains refused a)

-- ---- one PUBLISH after another

module _ (r : Rights) (l : Login) (a : ℕ) where
  abbrev is_refused : Option (List ℕ) → Bool
  is_refused topic = not (may_write_given r l topic)

  chosen : (b : Bool) (topic : List ℕ) (o : Option (List ℕ)) → cond b (not (r.may_write l topic)) (is_refused o) ≡ is_refused (cond b (Some topic) o)
  chosen true topic o = refl
  chosen false topic o = refl

  -- behind a PUBLISH to a topic
  by_alias : (topic : List ℕ) (given : Option ℕ) (refused : Aliases) (o : Option (List ℕ)) → set.contains refused a ≡ is_refused o
      → set.contains (aliases_by (r.may_write l topic) given refused) a ≡ is_refused (cond (is_alias a given) (Some topic) o)
  by_alias topic None refused o is = is
  by_alias topic (Some x) refused o is =
      with_alias (r.may_write l topic) x a refused ∙ ap (λ (c : Bool). cond (a == x) (not (r.may_write l topic)) c) is ∙ chosen (a == x) topic o

  abbrev after_by : Publish → Aliases → Bool → Aliases
  after_by p refused b = cond b (aliases_by (cond b (r.may_write l p.topic) (is_alias_allowed refused (alias_of p))) (alias_of p) refused) refused

  abbrev given_by : Publish → Option (List ℕ) → Bool → Option (List ℕ)
  given_by p o b = cond (b && is_alias a (alias_of p)) (Some p.topic) o

  one_more : (p : Publish) (refused : Aliases) (o : Option (List ℕ)) (b : Bool) → set.contains refused a ≡ is_refused o → set.contains (after_by p refused b) a ≡ is_refused (given_by p o b)
  one_more p refused o true is = by_alias p.topic (alias_of p) refused o is
  one_more p refused o false is = is

  behind : (earlier : List Publish) → set.contains (refused_after r l earlier) a ≡ is_refused (topic_given a earlier)
  behind [] = set.contains-empty nat_cmp a
  behind (p ∷ earlier) = one_more p (refused_after r l earlier) (topic_given a earlier) (has_topic p) (behind earlier)

twice : (b : Bool) → not (not b) ≡ b
twice true = refl
twice false = refl

pub followed : AliasesAreFollowed
followed r l earlier p a untopical is =
    let refused : Aliases = refused_after r l earlier in
    ap (λ (b : Bool). cond b (r.may_write l p.topic) (is_alias_allowed refused (alias_of p))) untopical ∙ ap (is_alias_allowed refused) is ∙ ap not (behind r l a earlier)
    ∙ twice (may_write_given r l (topic_given a earlier))
