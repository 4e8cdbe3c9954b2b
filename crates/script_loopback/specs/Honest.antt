-- Streams that give out what was put in.
use Rattle.std.specs.Prelude.{◌≡◌, ◌++◌, ℕ, List, [], Bool, true, Ok, Vec}
use Rattle.std.specs.declared.alloc.Global.{Global}
use Rattle.broker_sockets.specs.declared.network.Answer.{Answer}
use Rattle.broker_sockets.specs.Answers.{carried}
use Rattle.script_loopback.specs.Carrying.{Carries, Ends}

module _ {S T : Type 0} (reads : S → T → Answer → List ℕ → S → T → Type 0) (writes : S → T → List ℕ → Answer → S → T → Type 0) where
  -- streams that are joined, and the bytes on the way from the one to the other: what is written joins them at their end, and what
  -- is read is taken from their front
  pub record AreHonest (joined : Ends S T → Bool) (waiting : Ends S T → List ℕ) : Type 0 where
    pub puts : (s s' : S) (near near' far : T) (offered : List ℕ) (answer : Answer) → joined (s, near, far) ≡ true → writes s near offered answer s' near'
        → (joined (s', near', far) ≡ true) × (waiting (s', near', far) ≡ waiting (s, near, far) ++ carried answer offered)
    pub gives : (s s' : S) (near far far' : T) (answer : Answer) (bytes : List ℕ) → joined (s, near, far) ≡ true → reads s far answer bytes s' far'
        → (joined (s', near, far') ≡ true) × (bytes ++ waiting (s', near, far') ≡ waiting (s, near, far))

  -- where nothing is on the way, what comes is what was given, in order, and nothing is on the way then
  abbrev pub CarriesWhatIsGiven : Type 0
  CarriesWhatIsGiven =
      (joined : Ends S T → Bool) (waiting : Ends S T → List ℕ) → AreHonest joined waiting
      → (bytes : List ℕ) (e e' : Ends S T) (came : Vec ℕ Global) → joined e ≡ true → waiting e ≡ [] → Carries reads writes bytes e (Ok came) e'
      → (came.items ≡ bytes) × (waiting e' ≡ []) × (joined e' ≡ true)
