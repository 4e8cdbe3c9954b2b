-- Bytes that are carried, turn by turn.
use Rattle.std.proofs.Common.{◌≡◌, ◌≤◌, ◌<◌, ◌+◌, ℕ, List, [], ◌∷◌, ◌++◌, length, take, Result, Ok, Err, sym, ◌∙◌, ap, subst, add-one, arith, inl, inr}
use Rattle.std.specs.Result.{IsErrAnd}
use Rattle.std.proofs.lemmas.List.{length-take-le, take-append-le}
use Rattle.std.proofs.lemmas.Result.{err_from_is_err_and}
use Rattle.std.proofs.Math.Seq.{take-append-add}
use borrow.Rule.Slice.PartMut.{put_mid, post_of}
use Rattle.broker_sockets.specs.declared.network.Answer.{Answer}
use Rattle.script_loopback.specs.declared.fault.WireFault.{WireFault}
use Rattle.script_loopback.specs.declared.fault.WireFault.TheVariants.{Socket}
use Rattle.script_loopback.specs.Carrying.{CarriesInto, Ends, IsCut, IsFilled, IsOffered, IsTurn, IsTurns, Way, way}

-- what was read into the rest of a buffer stands behind what was there
pub take-put_rest : (a k n : ℕ) (xs ys : List ℕ) → a ≤ length xs → n ≤ length ys → take (a + n) (put_mid a k xs ys) ≡ take a xs ++ take n ys
take-put_rest a k n xs ys within most =
    let rest = post_of a k xs in
    let At : ℕ → Type 0 = λ m. take (m + n) (take a xs ++ (ys ++ rest)) ≡ take a xs ++ take n ys in
    subst At (length-take-le a xs within) (take-append-add (take a xs) (ys ++ rest) n ∙ ap (λ t. take a xs ++ t) (take-append-le n ys rest most))

module _ {S T : Type 0} (reads : S → T → Answer → List ℕ → S → T → Type 0) (writes : S → T → List ℕ → Answer → S → T → Type 0) where
  -- one more turn
  pub turns-more : (whole n : ℕ) (w m w' : Way S T) → IsTurns reads writes whole n w m → IsTurn reads writes whole m w' → IsTurns reads writes whole (n + 1) w w'
  turns-more whole n w m w' before next =
      let Counted : ℕ → Type 0 = λ k. IsTurns reads writes whole k w w' in
      subst Counted (sym (add-one n)) (m, before, next)

  -- a turn over a buffer of which so much is filled
  pub turn-of : (whole filled count : ℕ) (s between s' : S) (near near' far far' : T) (left rest came came' : List ℕ)
      → length came ≡ whole → filled ≤ whole → (filled ≡ whole → ⊥) → IsOffered writes s near left between near' rest
      → IsFilled reads (length came) between far (take filled came) s' far' (take count came')
      → IsTurn reads writes whole (way (s, near, far) left (take filled came)) (way (s', near', far') rest (take count came'))
  turn-of whole filled count s between s' near near' far far' left rest came came' sized within more offered filling =
      let At : ℕ → Type 0 = λ n. IsFilled reads n between far (take filled came) s' far' (take count came') in
      let taken : length (take filled came) ≡ filled = length-take-le filled came (omega arith) in
      record { missing = omega arith; between = between; offered = offered; filled = subst At sized filling }

  -- a stream was gone
  pub cut-of : (bytes came : List ℕ) (e e' : Ends S T) (r : Result (Unit {0}) WireFault) (fault : WireFault)
      → IsErrAnd r (λ x. x ≡ fault) → fault ≡ Socket → IsCut reads writes bytes e e' → CarriesInto reads writes bytes e came r e'
  cut-of bytes came e e' r fault failed is cut =
      let p = err_from_is_err_and r failed in
      let At : Result (Unit {0}) WireFault → Type 0 = λ q. CarriesInto reads writes bytes e came q e' in
      let Of : WireFault → Type 0 = λ x. CarriesInto reads writes bytes e came (Err x) e' in
      subst At (sym p.1) (subst Of (sym (p.2 ∙ is)) cut)
