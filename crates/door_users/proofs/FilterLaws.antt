-- Filters of rules.
use Rattle.std.proofs.Common.{◌≡◌, ◌⊎◌, inl, inr, ℕ, Bool, true, false, not, ◌&&◌, List, refl, sym}
use Rattle.std.specs.Prelude.{Ok, Err, if◌then◌else◌}
use Rattle.mqtt_fields.specs.Numbers.{IsText}
use Rattle.mqtt_topics.proofs.Testing.{decides_filter, passes}
use Rattle.mqtt_topics.proofs.VerdictLaws.{filters_or_faults}
use Rattle.mqtt_topics.specs.declared.fault.TopicFault.{TopicFault}
use Rattle.mqtt_topics.specs.declared.fault.TopicFault.TheVariants.{NoMemory}
use Rattle.mqtt_topics.specs.Testing.{is_filter, is_shared}
use Rattle.mqtt_topics.specs.Topics.{IsFilter, IsFilterFault, IsShared}
use Rattle.mqtt_access.proofs.Tests.{false_of, never}
use Rattle.door_users.specs.declared.fault.LineFlaw.TheVariants.{BadFilter}
use Rattle.door_users.specs.RuleLines.{plain_in}

picks : (a b : Bool) (text : List ℕ) → a ≡ true → b ≡ false → (if a && not b then Ok text else Err BadFilter) ≡ Ok text
picks a b text e f = rw (e, f) refl

drops : (a b : Bool) (text : List ℕ) → (a && not b) ≡ false → (if a && not b then Ok text else Err BadFilter) ≡ Err BadFilter
drops a b text e = rw e refl

plain : (text : List ℕ) → IsFilter text → (IsShared text → ⊥) → plain_in text ≡ Ok text
plain text f apart = picks (is_filter text) (is_shared text) text (passes text f) (false_of (is_shared text) apart)

shared : (text : List ℕ) → IsShared text → plain_in text ≡ Err BadFilter
shared text is = drops (is_filter text) (is_shared text) text (none (is_filter text) (is_shared text) is)
  where
    none : (a b : Bool) → b ≡ true → (a && not b) ≡ false
    none true true e = refl
    none false b e = refl
    none true false e = sym e

-- a filter that was read from a text
pub plain_filter : (text filter : List ℕ) → filter ≡ text → IsFilter text → (IsShared filter → ⊥) → plain_in text ≡ Ok filter
plain_filter text filter same f not_shared = rw same (plain text f (rw same at not_shared))

pub shared_filter : (text filter : List ℕ) → filter ≡ text → IsShared filter → plain_in text ≡ Err BadFilter
shared_filter text filter same is = shared text (rw same at is)

pub no_filter : (text : List ℕ) (fault : TopicFault) → IsText text → (fault ≡ NoMemory → ⊥) → IsFilterFault text fault ⊎ ((fault ≡ NoMemory) × IsFilter text) → plain_in text ≡ Err BadFilter
no_filter text fault fits other (inr x) = absurd (other x.0)
no_filter text fault fits other (inl bad) = drops (is_filter text) (is_shared text) text (none (is_filter text) (is_shared text) not_one)
  where
    not_one : is_filter text ≡ false
    not_one = false_of (is_filter text) (λ e. (filters_or_faults text fits).1 ((decides_filter text fits).0 e) fault bad)

    none : (a b : Bool) → a ≡ false → (a && not b) ≡ false
    none false b e = refl
    none true b e = never (sym e)
