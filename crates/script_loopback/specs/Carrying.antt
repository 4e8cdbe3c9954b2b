-- Bytes that are carried from one stream to another, in turns.
use Rattle.std.specs.Prelude.{◌≡◌, ◌≤◌, ◌<◌, ◌⊎◌, ◌++◌, ℕ, zero, suc, List, [], length, drop, Option, Some, None, Result, Ok, Err, Vec}
use Rattle.std.specs.declared.alloc.Global.{Global}
use Rattle.broker_sockets.specs.declared.network.Answer.{Answer}
use Rattle.broker_sockets.specs.declared.network.Answer.TheVariants.{Later, Bytes, Gone}
use Rattle.script_loopback.specs.declared.fault.WireFault.{WireFault}
use Rattle.script_loopback.specs.declared.fault.WireFault.TheVariants.{NoMemory, Socket, Turns}

-- a stream that answers so isn't gone
abbrev pub GoesOn : Answer → Type 0
GoesOn Later = Unit {0}
GoesOn (Bytes n) = Unit {0}
GoesOn Gone = ⊥

-- what isn't written after a stream's answer
abbrev pub IsLeft : Answer → List ℕ → List ℕ → Type 0
IsLeft Later left rest = rest ≡ left
IsLeft (Bytes n) left rest = rest ≡ drop n left
IsLeft Gone left rest = ⊥

module _ {S T : Type 0} (writes : S → T → List ℕ → Answer → S → T → Type 0) where
  abbrev pub IsOfferedBy : Option Answer → S → T → List ℕ → S → T → List ℕ → Type 0
  IsOfferedBy None s near left s' near' rest = (left ≡ []) × (s' ≡ s) × (near' ≡ near) × (rest ≡ [])
  IsOfferedBy (Some answer) s near left s' near' rest = (0 < length left) × writes s near left answer s' near' × IsLeft answer left rest

  -- a stream is offered all that isn't written yet, exactly where there is any, and isn't gone
  pub record IsOffered (s : S) (near : T) (left : List ℕ) (s' : S) (near' : T) (rest : List ℕ) : Type 0 where
    pub answer : Option Answer
    pub by_answer : IsOfferedBy answer s near left s' near' rest

-- a stream is asked for bytes, these came, and it isn't gone
pub record IsTaken {S T : Type 0} (reads : S → T → Answer → List ℕ → S → T → Type 0) (s : S) (far : T) (bytes : List ℕ) (s' : S) (far' : T) : Type 0 where
  pub answer : Answer
  pub asked : reads s far answer bytes s' far'
  pub goes_on : GoesOn answer

-- it is asked for what hasn't come of so many bytes
pub record IsFilled {S T : Type 0} (reads : S → T → Answer → List ℕ → S → T → Type 0) (whole : ℕ) (s : S) (far : T) (came : List ℕ) (s' : S) (far' : T) (came' : List ℕ) : Type 0 where
  pub bytes : List ℕ
  pub taken : IsTaken reads s far bytes s' far'
  pub behind : came' ≡ came ++ bytes
  pub most : length came' ≤ whole

-- it is asked, and is gone
abbrev pub IsGone : {S T : Type 0} → (S → T → Answer → List ℕ → S → T → Type 0) → S → T → S → T → Type 0
IsGone reads s far s' far' = reads s far Gone [] s' far'

-- the sockets, the stream that is written and the one that is read, what isn't written yet, and what has come
pub record Way (S T : Type 0) : Type 0 where
  pub sockets : S
  pub near : T
  pub far : T
  pub left : List ℕ
  pub came : List ℕ

-- the sockets, the stream that is written and the one that is read
abbrev pub Ends : Type 0 → Type 0 → Type 0
Ends S T = S × T × T

abbrev pub way : {S T : Type 0} → Ends S T → List ℕ → List ℕ → Way S T
way e left came = record { sockets = e.0; near = e.1; far = e.2; left = left; came = came }

module _ {S T : Type 0} (reads : S → T → Answer → List ℕ → S → T → Type 0) (writes : S → T → List ℕ → Answer → S → T → Type 0) where
  -- one turn of the carrying of so many bytes: some haven't come; what isn't written is offered, and what hasn't come is asked for
  pub record IsTurn (whole : ℕ) (w w' : Way S T) : Type 0 where
    pub missing : length w.came < whole
    pub between : S
    pub offered : IsOffered writes w.sockets w.near w.left between w'.near w'.left
    pub filled : IsFilled reads whole between w.far w.came w'.sockets w'.far w'.came

  -- so many turns, one after another
  abbrev pub IsTurns : ℕ → ℕ → Way S T → Way S T → Type 0
  IsTurns whole zero w w' = w' ≡ w
  IsTurns whole (suc n) w w' = (m : Way S T) × IsTurns whole n w m × IsTurn whole m w'

  -- all has come, in at most 1,000,000 turns
  pub record IsCarried (bytes : List ℕ) (e : Ends S T) (came : List ℕ) (e' : Ends S T) : Type 0 where
    pub made : ℕ
    pub few : made ≤ 1000000
    pub left : List ℕ
    pub turns : IsTurns (length bytes) made (way e bytes []) (way e' left came)
    pub whole : length came ≡ length bytes

  -- 1,000,000 turns were made, and all hasn't come
  pub record IsLate (bytes : List ℕ) (e e' : Ends S T) : Type 0 where
    pub made : ℕ
    pub all : made ≡ 1000000
    pub left : List ℕ
    pub came : List ℕ
    pub turns : IsTurns (length bytes) made (way e bytes []) (way e' left came)
    pub short : length came < length bytes

  -- the stream that is written is gone, or it isn't, and the one that is read is
  abbrev pub IsBroken : Way S T → Ends S T → Type 0
  IsBroken w e' =
      (writes w.sockets w.near w.left Gone e'.0 e'.1 × (e'.2 ≡ w.far))
      ⊎ ((between : S) × (rest : List ℕ) × IsOffered writes w.sockets w.near w.left between e'.1 rest × IsGone reads between w.far e'.0 e'.2)

  -- a stream was gone in a turn, before all had come
  pub record IsCut (bytes : List ℕ) (e e' : Ends S T) : Type 0 where
    pub made : ℕ
    pub few : made < 1000000
    pub reached : Way S T
    pub turns : IsTurns (length bytes) made (way e bytes []) reached
    pub missing : length reached.came < length bytes
    pub broken : IsBroken reached e'

  -- what comes of bytes that are to be carried into a buffer
  abbrev pub CarriesInto : List ℕ → Ends S T → List ℕ → Result (Unit {0}) WireFault → Ends S T → Type 0
  CarriesInto bytes e came (Ok done) e' = IsCarried bytes e came e'
  CarriesInto bytes e came (Err NoMemory) e' = ⊥
  CarriesInto bytes e came (Err Socket) e' = IsCut bytes e e'
  CarriesInto bytes e came (Err Turns) e' = IsLate bytes e e'

  -- what comes of bytes that are to be carried; want of memory leaves all as it was
  abbrev pub Carries : List ℕ → Ends S T → Result (Vec ℕ Global) WireFault → Ends S T → Type 0
  Carries bytes e (Ok came) e' = IsCarried bytes e came.items e'
  Carries bytes e (Err NoMemory) e' = e' ≡ e
  Carries bytes e (Err Socket) e' = IsCut bytes e e'
  Carries bytes e (Err Turns) e' = IsLate bytes e e'
