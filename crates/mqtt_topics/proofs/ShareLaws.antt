-- A shared filter matches as its filter part.
use Rattle.std.proofs.Common.{◌≡◌, ℕ, false, List, ◌∷◌, ◌++◌, length, refl, sym, ◌∙◌, subst, arith, length-append}
use Rattle.std.specs.Prelude.{codes, nat_eq}
use Rattle.std.specs.List.{All, position_or_len, after_first, starts_with}
use Rattle.std.proofs.lemmas.List.Sums.{position_or_len_is}
use Rattle.std.proofs.Math.Seq.{get_or-append_seam, drop-append-add}
use Rattle.std.proofs.lemmas.List.{get_or_append_left}
use Rattle.std.proofs.lemmas.Bool.{false_from_ne_true}
use Rattle.mqtt_topics.specs.Levels.{is_separator}
use Rattle.mqtt_topics.specs.Topics.{filter_part, IsShared}
use Rattle.mqtt_topics.specs.Matching.{PlainMatches}
use Rattle.mqtt_topics.specs.Laws.{SharedMatchesAlike}

separator_at : (share filter : List ℕ) → All (λ b. is_separator b ≡ false) share → position_or_len is_separator (share ++ 47 ∷ filter) ≡ length share
separator_at share filter none =
    position_or_len_is is_separator (share ++ 47 ∷ filter) (length share) 0
    (omega (arith, length-append share (47 ∷ filter)))
    (λ k below. rw (get_or_append_left share (47 ∷ filter) 0 k below) (none k 0 below))
    (λ _. rw (get_or-append_seam share 47 filter 0) refl)

after_share : (share filter : List ℕ) → All (λ b. is_separator b ≡ false) share → after_first is_separator (share ++ 47 ∷ filter) ≡ filter
after_share share filter none =
    rw (separator_at share filter none) (drop-append-add share (47 ∷ filter) 1)

plain_part : (filter : List ℕ) → (IsShared filter → ⊥) → filter_part filter ≡ filter
plain_part filter plain = rw (false_from_ne_true (starts_with nat_eq filter (codes "$share/")) plain) refl

pub shared_matches_alike : SharedMatchesAlike
shared_matches_alike share filter name none plain =
    let P : List ℕ → Type 0 = λ part. PlainMatches part name in
    let part : filter_part (codes "$share/" ++ share ++ 47 ∷ filter) ≡ filter_part filter = after_share share filter none ∙ sym (plain_part filter plain) in
    (λ matches. subst P part matches, λ matches. subst P (sym part) matches)
