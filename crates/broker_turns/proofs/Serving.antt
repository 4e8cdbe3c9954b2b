-- Turns one after another, and what comes before the first.
use Rattle.std.proofs.Common.{◌≡◌, inr, ℕ, ◌+◌, Result, Ok, Err, sym, subst, add-one}
use Rattle.std.specs.Result.{OnOk, IfErr, IsErrAnd}
use Rattle.std.proofs.lemmas.Result.{err_from_is_err_and}
use Rattle.broker_turns.specs.Serving.{IsTurns, IsNext, IsServed, IsStopped, IsUnserved}

-- a fault that is handed on
pub failed : {U F : Type 0} (r : Result U F) (x : F) (P : F → Type 0) → IsErrAnd r (λ e. e ≡ x) → P x → IfErr r P
failed r x P is holds =
    let p = err_from_is_err_and r is in
    subst (λ q. IfErr q P) (sym p.1) (subst P (sym p.2) holds)

module _ {C W : Type 0} (tells : C → ℕ → C → Type 0) (turn : ℕ → W → W → Type 0) where
  -- one more turn
  pub turns-more : (n at : ℕ) (c d c' : C) (w m w' : W) → IsTurns tells turn n c w d m → tells d at c' → turn at m w' → IsTurns tells turn (n + 1) c w c' w'
  turns-more n at c d c' w m w' before told made =
      let Counted : ℕ → Type 0 = λ k. IsTurns tells turn k c w c' w' in
      let next : IsNext tells turn d m c' w' = record { at = at; told = told; made = made } in
      subst Counted (sym (add-one n)) (d, m, before, next)

module _ {C W : Type 0} (tells : C → ℕ → C → Type 0) (start turn : ℕ → W → W → Type 0) where
  -- the turns after the start
  pub served : {U F : Type 0} (r : Result U F) (turns : ℕ) (c d c' : C) (w m w' : W) → IsNext tells start c w d m → OnOk r (IsTurns tells turn turns d m c' w') → OnOk r (IsServed tells start turn turns c w c' w')
  served (Ok x) turns c d c' w m w' started made = (d, m, started, made)
  served (Err e) turns c d c' w m w' started made = tt

  -- a stop after the start
  pub unserved : {U F : Type 0} (unstarted broken : ℕ → W → F → Type 0) (r : Result U F) (turns : ℕ) (c d c' : C) (w m : W) → IsNext tells start c w d m
      → IfErr r (λ fault. IsStopped tells turn broken turns d m c' fault) → IfErr r (λ fault. IsUnserved tells start turn unstarted broken turns c w c' fault)
  unserved unstarted broken (Ok x) turns c d c' w m started stopped = tt
  unserved unstarted broken (Err e) turns c d c' w m started stopped = inr (d, m, started, stopped)
