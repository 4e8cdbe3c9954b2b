-- The answer, by a walk over the topics that match.
use Rattle.std.proofs.Common.{◌≡◌, ℕ, true, false, MatchOption, List, [], ◌∷◌, ◌++◌, map, Option, Some, None, inl, inr, refl, sym, ap, subst, ◌∙◌}
use Rattle.std.specs.Option.{is_some}
use Rattle.filter_trie.specs.Selected.{IsSelected}
use Rattle.filter_trie.proofs.Jumping.{Walked, At, walked_none, walked_with, walked_without}
use Rattle.mqtt_message.specs.declared.message.Message.{Message}
use Rattle.mqtt_topics.specs.Matching.{Matches}
use Rattle.mqtt_topics.specs.Topics.{IsShared}
use Rattle.replica_store.specs.declared.kept.Kept.{Kept}
use Rattle.replica_store.specs.Retained.{HasAlive}
use Rattle.replica_store.specs.Answers.{Answers, IsAnswer}

abbrev pub Entries : Type 0
Entries = List (List ℕ × Kept)

-- a shared filter has no answer
pub none_of_shared : (filter : List ℕ) (now : ℕ) (es : Entries) → IsShared filter → IsAnswer filter now es []
none_of_shared filter now [] shared = refl
none_of_shared filter now (e ∷ es) shared = inr ((λ m a. a.plain shared), none_of_shared filter now es shared)

-- where no topic has the answer, an entry hasn't
pub silent_at : (filter : List ℕ) (now : ℕ) (front : Entries) (e : List ℕ × Kept) (es : Entries) → IsAnswer filter now (front ++ e ∷ es) [] → (m : Message) → ¬ Answers filter now e.0 e.1 m
silent_at filter now [] e es a = elim a [ inl x ↦ absurd (let z = x.3 in cc) | inr x ↦ x.0 ]
silent_at filter now (y ∷ front) e es a = elim a [ inl x ↦ absurd (let z = x.3 in cc) | inr x ↦ silent_at filter now front e es x.1 ]

-- the topics that match answer for all of them
pub answer_selected : (filter : List ℕ) (now : ℕ) (es chosen : Entries) (out : List Message) → IsSelected (At (λ t. Matches filter t)) es chosen → IsAnswer filter now chosen out → IsAnswer filter now es out
answer_selected filter now [] chosen out s a = subst (λ l. IsAnswer filter now l out) s a
answer_selected filter now (e ∷ es) chosen out (inl has) a =
    let b : IsAnswer filter now (e ∷ has.1.0) out = subst (λ l. IsAnswer filter now l out) has.1.1 a in
    elim b [
      | inl x ↦ inl (x.0, x.1, x.2, x.3, answer_selected filter now es has.1.0 x.1 has.1.2 x.4)
      | inr x ↦ inr (x.0, answer_selected filter now es has.1.0 out has.1.2 x.1)
    ]
answer_selected filter now (e ∷ es) chosen out (inr lacks) a = inr ((λ m b. lacks.0 b.matches), answer_selected filter now es chosen out lacks.1 a)

-- one more that matches
pub answer_more : (filter : List ℕ) (now : ℕ) (es : Entries) (e : List ℕ × Kept) (out : List Message) (m : Message) → Answers filter now e.0 e.1 m → IsAnswer filter now es out → IsAnswer filter now (es ++ e ∷ []) (out ++ m ∷ [])
answer_more filter now [] e out m is a = subst (λ l. IsAnswer filter now (e ∷ []) (l ++ m ∷ [])) (sym a) (inl (m, [], is, refl, refl))
answer_more filter now (x ∷ es) e out m is (inl a) =
    inl (a.0, a.1 ++ m ∷ [], a.2, ap (λ l. l ++ m ∷ []) a.3, answer_more filter now es e a.1 m is a.4)
answer_more filter now (x ∷ es) e out m is (inr a) = inr (a.0, answer_more filter now es e out m is a.1)

pub answer_same : (filter : List ℕ) (now : ℕ) (es : Entries) (e : List ℕ × Kept) (out : List Message) → ((m : Message) → ¬ Answers filter now e.0 e.1 m) → IsAnswer filter now es out → IsAnswer filter now (es ++ e ∷ []) out
answer_same filter now [] e out none a = inr (none, a)
answer_same filter now (x ∷ es) e out none (inl a) = inl (a.0, a.1, a.2, a.3, answer_same filter now es e a.1 none a.4)
answer_same filter now (x ∷ es) e out none (inr a) = inr (a.0, answer_same filter now es e out none a.1)

-- ---- how far the walk has come: what matched so far, and what that answers
abbrev pub itself : List ℕ × Kept → List ℕ × Kept
itself e = e

pub record Answered (filter : List ℕ) (now : ℕ) (all left : Entries) (out : List Message) : Type 0 where
  pub chosen : Entries
  pub walk : Walked (At (λ t. Matches filter t)) all left (map itself chosen)
  pub answer : IsAnswer filter now chosen out

module _ (filter : List ℕ) (now : ℕ) (all : Entries) where
  abbrev pub Q : List ℕ → Type 0
  Q t = Matches filter t

  pub answered_none : (left : Entries) (out : List Message) → left ≡ all → out ≡ [] → Answered filter now all left out
  answered_none left out same none = record { chosen = []; walk = walked_none Q all left [] same refl; answer = none }

  module _ (s t : Entries) (e : List ℕ × Kept) (step : s ≡ e ∷ t) (out : List Message) (w : Answered filter now all s out) where
    -- an entry that matches, with its message or without one
    pub answered_with : (m : Message) → ¬ IsShared filter → Q e.0 → HasAlive (Some e.1) now m → (new : List Message) → new ≡ out ++ m ∷ [] → Answered filter now all t new
    answered_with m plain has alive new is = record {
      chosen = w.chosen ++ e ∷ [];
      walk = walked_with Q all s t (map itself w.chosen) e step w.walk itself e w.chosen (w.chosen ++ e ∷ []) refl refl refl has;
      answer = subst (IsAnswer filter now (w.chosen ++ e ∷ [])) (sym is) (answer_more filter now w.chosen e out m (record { plain = plain; matches = has; kept = alive }) w.answer);
    }

    pub answered_past : Q e.0 → ((m : Message) → ¬ HasAlive (Some e.1) now m) → Answered filter now all t out
    answered_past has none = record {
      chosen = w.chosen ++ e ∷ [];
      walk = walked_with Q all s t (map itself w.chosen) e step w.walk itself e w.chosen (w.chosen ++ e ∷ []) refl refl refl has;
      answer = answer_same filter now w.chosen e out (λ m a. none m a.kept) w.answer;
    }

    pub answered_without : ¬ (Q e.0) → Answered filter now all t out
    answered_without lacks = record { chosen = w.chosen; walk = walked_without Q all s t (map itself w.chosen) e step w.walk lacks; answer = w.answer }

    -- where nothing answers, the entry's message doesn't
    pub answered_silent : IsAnswer filter now all [] → (m : Message) → ¬ Answers filter now e.0 e.1 m
    answered_silent a = silent_at filter now w.walk.front e t (subst (λ l. IsAnswer filter now l []) (w.walk.parts ∙ ap (λ l. w.walk.front ++ l) step) a)

  itself_all : (es : Entries) → map itself es ≡ es
  itself_all [] = refl
  itself_all (e ∷ es) = ap (λ l. e ∷ l) (itself_all es)

  pub answered_so : (chosen : Entries) (out : List Message) → IsSelected (At Q) all (map itself chosen) → IsAnswer filter now chosen out → IsAnswer filter now all out
  answered_so chosen out s a = answer_selected filter now all chosen out (subst (IsSelected (At Q) all) (itself_all chosen) s) a

-- ---- whether a filter is shared
pub shared_of : {T : Type 0} (filter : List ℕ) (Is : T → Type 0) (g : Option T) → MatchOption g (IsShared filter → ⊥) (λ x. IsShared filter × Is x) → is_some g ≡ true → IsShared filter
shared_of filter Is None h e = absurd (let z : false ≡ true = e in cc)
shared_of filter Is (Some x) h e = h.0

pub plain_of : {T : Type 0} (filter : List ℕ) (Is : T → Type 0) (g : Option T) → MatchOption g (IsShared filter → ⊥) (λ x. IsShared filter × Is x) → is_some g ≡ false → ¬ IsShared filter
plain_of filter Is None h e = h
plain_of filter Is (Some x) h e = absurd (let z : true ≡ false = e in cc)
