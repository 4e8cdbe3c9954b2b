-- Steps one after another, and one more.
use Rattle.std.proofs.Common.{◌≡◌, ◌<◌, ◌+◌, ℕ, List, [], ◌∷◌, ◌++◌, Bool, true, false, refl, sym, ◌∙◌, subst, ap, add-one, if◌then◌else◌, ◌||◌}
use Rattle.broker_turns.specs.Steps.{AreLetIn, Each, EachBelow, EachTells, with_if}

pub Each-more : {W : Type 0} (step : ℕ → W → W → Type 0) (keys : List ℕ) (key : ℕ) (w m w' : W) → Each step keys w m → step key m w' → Each step (keys ++ key ∷ []) w w'
Each-more step [] key w m w' e s = (w', rw (← e) s, refl)
Each-more step (k ∷ keys) key w m w' e s = (e.0, e.1, Each-more step keys key e.0 m w' e.2 s)

pub EachBelow-more : {W : Type 0} (step : ℕ → W → W → Type 0) (n : ℕ) (w m w' : W) → EachBelow step n w m → step n m w' → EachBelow step (n + 1) w w'
EachBelow-more step n w m w' e s =
    let P : ℕ → Type 0 = λ k. EachBelow step k w w' in
    subst P (sym (add-one n)) (m, e, s)

pub counted : {W : Type 0} (step : ℕ → W → W → Type 0) (n m : ℕ) (w w' : W) → n ≡ m → EachBelow step n w w' → EachBelow step m w w'
counted step n m w w' same each =
    let P : ℕ → Type 0 = λ k. EachBelow step k w w' in
    subst P same each

-- a number that is noted, or none
abbrev pub noted : Bool → ℕ → List ℕ
noted more key = if more then key ∷ [] else []

noted-alone : (more : Bool) (key : ℕ) → noted more key ≡ with_if more key []
noted-alone true key = refl
noted-alone false key = refl

with_if-append : (more : Bool) (key : ℕ) (xs ys : List ℕ) → with_if more key xs ++ ys ≡ with_if more key (xs ++ ys)
with_if-append true key xs ys = refl
with_if-append false key xs ys = refl

pub EachTells-more : {W : Type 0} (step : ℕ → W → Bool → W → Type 0) (keys : List ℕ) (key : ℕ) (w m w' : W) (found : List ℕ) (more : Bool)
    → EachTells step keys w found m → step key m more w' → EachTells step (keys ++ key ∷ []) w (found ++ noted more key) w'
EachTells-more step [] key w m w' found more e s =
    (w', more, [], rw (← e.0) s, (refl, refl), ap (λ t. t ++ noted more key) e.1 ∙ noted-alone more key)
EachTells-more step (k ∷ keys) key w m w' found more e s =
    (e.0, e.1, e.2 ++ noted more key, e.3, EachTells-more step keys key e.0 m w' e.2 more e.4 s, ap (λ t. t ++ noted more key) e.5 ∙ with_if-append e.1 k e.2 (noted more key))

-- whether there may be more of either
pub either-first : (a b r : Bool) → a ≡ true → r ≡ a → r ≡ (a || b)
either-first true b r is more = more
either-first false b r is more = absurd (cc)

pub either-second : (a b r : Bool) → a ≡ false → r ≡ b → r ≡ (a || b)
either-second true b r is more = absurd (cc)
either-second false b r is more = more

-- nobody came any more
pub let_in-all : {W : Type 0} (comes nobody : W → W → Type 0) (most n : ℕ) (w m w' : W) → n < most → EachBelow (λ _. comes) n w m → nobody m w' → AreLetIn comes nobody most w false w'
let_in-all comes nobody most n w m w' fewer each last = record { count = n; between = m; each = each; enough = (fewer, last) }

-- the most came
pub let_in-most : {W : Type 0} (comes nobody : W → W → Type 0) (most n : ℕ) (w w' : W) → n ≡ most → EachBelow (λ _. comes) n w w' → AreLetIn comes nobody most w true w'
let_in-most comes nobody most n w w' full each = record { count = n; between = w'; each = each; enough = (full, refl) }
