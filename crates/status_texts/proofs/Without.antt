-- What stands nowhere in a text, by looking at each place.
use Rattle.std.proofs.Common.{◌≡◌, ℕ, Bool, true, false, cond, eqb, ◌&&◌, List, [], ◌∷◌, ◌++◌, refl, sym, ap, ◌∙◌, true≢false, eq-eqb}
use Rattle.std.specs.Prelude.{codes}
use Rattle.std.proofs.lemmas.Bool.{and_from}
use Rattle.status_texts.specs.declared.page.TheConstants.{HEAD, STYLE, SCRIPT}
use Rattle.status_texts.specs.Elsewhere.{HeadLookAndScriptNameNoHost, IsWithout}

begins : List ℕ → List ℕ → Bool
begins [] text = true
begins (b ∷ bytes) [] = false
begins (b ∷ bytes) (c ∷ text) = eqb b c && begins bytes text

has : List ℕ → List ℕ → Bool
has bytes [] = begins bytes []
has bytes (c ∷ text) = cond (begins bytes (c ∷ text)) true (has bytes text)

begins_so : (bytes after : List ℕ) → begins bytes (bytes ++ after) ≡ true
unfolding begins
begins_so [] after = refl
begins_so (b ∷ bytes) after = and_from (eqb b b) (begins bytes (bytes ++ after)) (eq-eqb b b refl) (begins_so bytes after)

has_in_front : (bytes text : List ℕ) → begins bytes text ≡ true → has bytes text ≡ true
unfolding has begins
has_in_front bytes [] h = h
has_in_front bytes (c ∷ text) h = ap (λ (here : Bool). cond here true (has bytes text)) h

either_way : (here : Bool) → cond here true true ≡ true
either_way true = refl
either_way false = refl

found : (bytes before after : List ℕ) → has bytes (before ++ bytes ++ after) ≡ true
unfolding has begins
found bytes [] after = has_in_front bytes (bytes ++ after) (begins_so bytes after)
found bytes (c ∷ before) after =
    let here : Bool = begins bytes (c ∷ (before ++ bytes ++ after)) in
    ap (λ (later : Bool). cond here true later) (found bytes before after) ∙ either_way here

without : (bytes text : List ℕ) → has bytes text ≡ false → IsWithout bytes text
without bytes text none before after e = true≢false (sym (found bytes before after) ∙ ap (has bytes) (sym e) ∙ none)

pub head_look_and_script_name_no_host : HeadLookAndScriptNameNoHost
unfolding has begins
head_look_and_script_name_no_host = (
  (without (codes "http") HEAD.now refl, without (codes "//") HEAD.now refl),
  (without (codes "http") STYLE.now refl, without (codes "//") STYLE.now refl),
  (without (codes "http") SCRIPT.now refl, without (codes "//") SCRIPT.now refl),
)
