-- The test of topic filters tells which texts are filters.
use Rattle.std.proofs.Common.{◌≡◌, ◌≢◌, ◌⊎◌, inl, inr, ℕ, Bool, true, false, not, ◌&&◌, ◌||◌, IsTrue, List, [], ◌∷◌, length, refl, sym, ◌∙◌, true≢false}
use Rattle.std.specs.Bool.{Decides}
use Rattle.std.specs.List.{list_any}
use Rattle.std.specs.Str.{bytes_eq}
use Rattle.std.proofs.Math.Dec.{eqb-suc-zero}
use Rattle.std.proofs.lemmas.Slice.Eq.{bytes_eq-Decides}
use Rattle.mqtt_fields.specs.Numbers.{IsText}
use Rattle.mqtt_topics.specs.Levels.{levels, is_wildcard, IsPlaced, ArePlaced, single_level, multi_level}
use Rattle.mqtt_topics.specs.Testing.{has_none, has_wildcard, is_placed, are_placed, is_shared, is_share, is_filter}
use Rattle.mqtt_topics.specs.Topics.{IsFilter, IsShared, IsShare, share_name, share_filter, filter_part}

-- the test tells whether P holds
pub record Tells (b : Bool) (P : Type 0) : Type 0 where
  pub holds : b ≡ true → P
  pub fails : b ≡ false → P → ⊥

tells : (b : Bool) → Tells b (IsTrue b)
tells b = record { holds = λ e. e; fails = λ e p. true≢false (sym p ∙ e) }

tells_not : (b : Bool) {P : Type 0} → Tells b P → Tells (not b) (P → ⊥)
tells_not true t = record { holds = λ e. absurd (true≢false (sym e)); fails = λ e no. no (t.holds refl) }
tells_not false t = record { holds = λ e. t.fails refl; fails = λ e. absurd (true≢false e) }

tells_and : (a b : Bool) {P Q : Type 0} → Tells a P → Tells b Q → Tells (a && b) (P × Q)
tells_and true b s t = record { holds = λ e. (s.holds refl, t.holds e); fails = λ e both. t.fails e both.1 }
tells_and false b s t = record { holds = λ e. absurd (true≢false (sym e)); fails = λ e both. s.fails refl both.0 }

tells_or : (a b : Bool) {P Q : Type 0} → Tells a P → Tells b Q → Tells (a || b) (P ⊎ Q)
tells_or true b s t = record { holds = λ e. inl (s.holds refl); fails = λ e. absurd (true≢false e) }
tells_or false b s t = record { holds = λ e. inr (t.holds e); fails = λ e either. elim either [ inl p ↦ s.fails refl p | inr q ↦ t.fails e q ] }

tells_if : (a b : Bool) {P Q : Type 0} → Tells a P → Tells b Q → Tells (not a || b) (P → Q)
tells_if true b s t = record { holds = λ e _. t.holds e; fails = λ e f. t.fails e (f (s.holds refl)) }
tells_if false b s t = record { holds = λ e p. absurd (s.fails refl p); fails = λ e. absurd (true≢false e) }

tells_none : {X : Type 0} (xs : List X) → Tells (has_none xs) (xs ≡ [])
tells_none [] = record { holds = λ e. refl; fails = λ e. absurd (true≢false e) }
tells_none (x ∷ xs) = record { holds = λ e. absurd (true≢false (sym e ∙ eqb-suc-zero (length xs))); fails = λ e p. cc }

tells_same : (xs ys : List ℕ) → Tells (bytes_eq xs ys) (xs ≡ ys)
tells_same xs ys = let d = bytes_eq-Decides xs ys in record { holds = d.0; fails = λ e p. true≢false (sym (d.1 p) ∙ e) }

tells_placed : (level : List ℕ) (later : List (List ℕ)) → Tells (is_placed level later) (IsPlaced level later)
tells_placed level later =
    let wild = tells_not (has_wildcard level) (tells (list_any is_wildcard level)) in
    let last = tells_and (bytes_eq level multi_level) (has_none later) (tells_same level multi_level) (tells_none later) in
    tells_or _ _ wild (tells_or _ _ (tells_same level single_level) last)

all_placed : (ls : List (List ℕ)) → Tells (are_placed ls) (ArePlaced ls)
all_placed [] = record { holds = λ e. tt; fails = λ e. absurd (true≢false e) }
all_placed (level ∷ later) = tells_and (is_placed level later) (are_placed later) (tells_placed level later) (all_placed later)

tells_share : (text : List ℕ) → Tells (is_share text) (IsShare text)
tells_share text =
    let name = tells_not (has_none (share_name text)) (tells_none (share_name text)) in
    let plain = tells_not (has_wildcard (share_name text)) (tells (list_any is_wildcard (share_name text))) in
    let rest = tells_not (has_none (share_filter text)) (tells_none (share_filter text)) in
    let later = tells_and _ _ plain rest in
    let all = tells_and _ _ name later in
    record { holds = λ e. let h = all.holds e in (h.0, h.1.0, h.1.1); fails = λ e h. all.fails e (h.0, (h.1, h.2)) }

pub tells_filter : (text : List ℕ) → Tells (is_filter text) ((text ≢ []) × ((IsShared text → IsShare text) × ArePlaced (levels (filter_part text))))
unfolding is_filter
tells_filter text =
    let some = tells_not (has_none text) (tells_none text) in
    let share = tells_if (is_shared text) (is_share text) (tells (is_shared text)) (tells_share text) in
    tells_and _ _ some (tells_and _ _ share (all_placed (levels (filter_part text))))

pub by_test : (b : Bool) (P : Type 0) → (b ≡ true → P) → (b ≡ false → P) → P
by_test true P passed failed = passed refl
by_test false P passed failed = failed refl

pub passes : (text : List ℕ) → IsFilter text → is_filter text ≡ true
passes text f = by_test (is_filter text) _ (λ e. e) (λ e. absurd ((tells_filter text).fails e (f.some, (f.share, f.placed))))

pub decides_filter : (text : List ℕ) → IsText text → Decides (is_filter text) (IsFilter text)
decides_filter text fits = (λ e. let h = (tells_filter text).holds e in record { fits = fits; some = h.0; share = h.1.0; placed = h.1.1 }, passes text)
