-- Over honest streams what comes is what was given.
use Rattle.std.proofs.Common.{◌≡◌, ◌≤◌, ◌<◌, ◌+◌, ℕ, zero, suc, List, [], ◌∷◌, ◌++◌, length, drop, take, Bool, true, Option, Some, None, Vec, Ok, refl, sym, ◌∙◌, ap, subst, append_assoc, append-nil, length-append, arith}
use Rattle.std.proofs.lemmas.List.{take-append-drop}
use Rattle.std.specs.declared.alloc.Global.{Global}
use Rattle.broker_sockets.specs.declared.network.Answer.{Answer}
use Rattle.broker_sockets.specs.declared.network.Answer.TheVariants.{Later, Bytes, Gone}
use Rattle.broker_sockets.specs.Answers.{carried}
use Rattle.script_loopback.specs.Carrying.{Carries, Ends, IsFilled, IsLeft, IsOffered, IsOfferedBy, IsTurn, IsTurns, Way, way}
use Rattle.script_loopback.specs.Honest.{AreHonest, CarriesWhatIsGiven}

-- what was taken and what is left are what was offered
left-whole : (answer : Answer) (left rest : List ℕ) → IsLeft answer left rest → carried answer left ++ rest ≡ left
left-whole Later left rest is = is
left-whole (Bytes n) left rest is = ap (λ t. take n left ++ t) is ∙ take-append-drop n left
left-whole Gone left rest is = absurd is

-- lists without bytes
none-of : (xs ys : List ℕ) → length (xs ++ ys) ≡ 0 → (xs ≡ []) × (ys ≡ [])
none-of [] [] e = (refl, refl)
none-of [] (y ∷ ys) e = absurd (omega (arith, e))
none-of (x ∷ xs) ys e = absurd (omega (arith, e))

module _ {S T : Type 0} (reads : S → T → Answer → List ℕ → S → T → Type 0) (writes : S → T → List ℕ → Answer → S → T → Type 0) (joined : Ends S T → Bool) (waiting : Ends S T → List ℕ) (honest : AreHonest reads writes joined waiting) where
  abbrev ends : Way S T → Ends S T
  ends w = (w.sockets, w.near, w.far)

  -- the streams are joined; what came, what is on the way and what isn't written yet are the bytes
  abbrev Holds : List ℕ → Way S T → Type 0
  Holds bytes w = (joined (ends w) ≡ true) × (w.came ++ (waiting (ends w) ++ w.left) ≡ bytes)

  offered-by : (answer : Option Answer) (s s' : S) (near near' far : T) (left rest : List ℕ) → joined (s, near, far) ≡ true → IsOfferedBy writes answer s near left s' near' rest
      → (joined (s', near', far) ≡ true) × (waiting (s', near', far) ++ rest ≡ waiting (s, near, far) ++ left)
  offered-by None s s' near near' far left rest are is =
      let At : S → T → Type 0 = λ s0 near0. (joined (s0, near0, far) ≡ true) × (waiting (s0, near0, far) ++ rest ≡ waiting (s, near, far) ++ left) in
      let same : waiting (s, near, far) ++ rest ≡ waiting (s, near, far) ++ left = ap (λ t. waiting (s, near, far) ++ t) (is.3 ∙ sym is.0) in
      subst (λ (s0 : S). At s0 near') (sym is.1) (subst (λ (near0 : T). At s near0) (sym is.2) (are, same))
  offered-by (Some answer) s s' near near' far left rest are is =
      let put = honest.puts s s' near near' far left answer are is.1 in (
        put.0,
        ap (λ t. t ++ rest) put.1 ∙ append_assoc (waiting (s, near, far)) (carried answer left) rest ∙ ap (λ t. waiting (s, near, far) ++ t) (left-whole answer left rest is.2),
      )

  turn-holds : (bytes : List ℕ) (w w' : Way S T) → Holds bytes w → IsTurn reads writes (length bytes) w w' → Holds bytes w'
  turn-holds bytes w w' holds turn =
      let put = offered-by turn.offered.answer w.sockets turn.between w.near w'.near w.far w.left w'.left holds.0 turn.offered.by_answer in
      let given = honest.gives turn.between w'.sockets w'.near w.far w'.far turn.filled.taken.answer turn.filled.bytes put.0 turn.filled.taken.asked in
      let front = turn.filled.bytes in
      let waits = waiting (ends w') in (
        given.0,
        ap (λ t. t ++ (waits ++ w'.left)) turn.filled.behind
            ∙ append_assoc w.came front (waits ++ w'.left)
            ∙ ap (λ t. w.came ++ t) (sym (append_assoc front waits w'.left) ∙ ap (λ t. t ++ w'.left) given.1 ∙ put.1)
            ∙ holds.1,
      )

  turns-hold : (n : ℕ) (bytes : List ℕ) (w w' : Way S T) → Holds bytes w → IsTurns reads writes (length bytes) n w w' → Holds bytes w'
  turns-hold zero bytes w w' holds is = subst (λ (m : Way S T). Holds bytes m) (sym is) holds
  turns-hold (suc n) bytes w w' holds is = turn-holds bytes is.0 w' (turns-hold n bytes w is.0 holds is.1) is.2

  -- what came is all there is
  pub whole-came : (bytes came : List ℕ) (left : List ℕ) (e e' : Ends S T) (n : ℕ) → joined e ≡ true → waiting e ≡ [] → IsTurns reads writes (length bytes) n (way e bytes []) (way e' left came) → length came ≡ length bytes
      → (came ≡ bytes) × (waiting e' ≡ []) × (joined e' ≡ true)
  whole-came bytes came left e e' n are none turns whole =
      let begun : Holds bytes (way e bytes []) = (are, ap (λ t. t ++ bytes) none) in
      let holds = turns-hold n bytes (way e bytes []) (way e' left came) begun turns in
      let counts = length-append came (waiting e' ++ left) in
      let all = ap length holds.1 in
      let rest = none-of (waiting e') left (omega arith) in
      let back : came ++ (waiting e' ++ left) ≡ came = ap (λ t. came ++ t) (ap (λ t. t ++ left) rest.0 ∙ rest.1) ∙ append-nil came in
      (sym back ∙ holds.1, rest.0, holds.0)

pub carries_what_is_given : {S T : Type 0} (reads : S → T → Answer → List ℕ → S → T → Type 0) (writes : S → T → List ℕ → Answer → S → T → Type 0) → CarriesWhatIsGiven reads writes
carries_what_is_given reads writes joined waiting honest bytes e e' came are none is =
    whole-came reads writes joined waiting honest bytes came.items is.left e e' is.made are none is.turns is.whole
