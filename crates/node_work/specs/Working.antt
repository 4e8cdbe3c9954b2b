-- Work: relations on the acts of a piece of work, by what it came to. `Some x` is its answer, and `None` says that it
-- stopped after these acts, at a number that can't be had.
use Rattle.std.specs.Prelude.{◌≡◌, ℕ, Bool, cond, List, [], ◌∷◌, ◌++◌, Option, Some, None, Result, Ok, Err, ◌⊎◌}
use Rattle.node_work.specs.declared.fault.NodeFault.{NodeFault}
use Rattle.node_work.specs.declared.fault.NodeFault.TheVariants.{NoMemory, NumbersAtEnd, Stopped}
use Rattle.node_work.specs.Lasting.{NamesAltered, StillBegin, TellsItsRows}
use Rattle.node_work.specs.View.{Place, HeldView, WorkView}
use Rattle.node_work.specs.Acts.{Act, Runs, gather, output_in}

-- acts of a node, by its place, from what it holds
abbrev pub Doing : Type 1
Doing = Place → HeldView → List Act → Type 0

-- ---- how relations are put together

-- nothing is done
abbrev pub Returns : {A : Type 0} → A → Option A → Doing
Returns x out p h acts = (out ≡ Some x) × (acts ≡ [])

-- a number can't be had
abbrev pub Stops : {A : Type 0} → Option A → Doing
Stops out p h acts = (out ≡ None) × (acts ≡ [])

-- one act
abbrev pub Acting : (Place → HeldView → Act) → Option (Unit {0}) → Doing
Acting a out p h acts = (out ≡ Some tt) × (acts ≡ a p h ∷ [])

-- one act, unless its number can't be had
abbrev pub Numbered : (Place → HeldView → Bool) → (Place → HeldView → Act) → Option (Unit {0}) → Doing
Numbered at_end a out p h acts = cond (at_end p h) ((out ≡ None) × (acts ≡ [])) (Acting a out p h acts)

-- by what the node holds
abbrev pub Looks : {A B : Type 0} → (Place → HeldView → A) → (A → Option B → Doing) → Option B → Doing
Looks see P out p h acts = P (see p h) out p h acts

-- by what is so of what the node holds
abbrev pub FindsWhere : {A B : Type 0} → (Place → HeldView → A → Type 0) → (A → Option B → Doing) → Option B → Doing
FindsWhere {A} Is P out p h acts = (x : A) × Is p h x × P x out p h acts

-- by a test
abbrev pub If : {A : Type 0} → Bool → (Option A → Doing) → (Option A → Doing) → Option A → Doing
If b P Q out p h acts = cond b (P out p h acts) (Q out p h acts)

-- by whether something holds
abbrev pub Where : {A : Type 0} → Type 0 → (Option A → Doing) → (Option A → Doing) → Option A → Doing
Where X P Q out p h acts = (X × P out p h acts) ⊎ ((¬ X) × Q out p h acts)

-- one after the other, at the state that the first leaves; where the first stops, so does the whole
abbrev pub Then : {A B : Type 0} → (Option A → Doing) → (A → Option B → Doing) → Option B → Doing
Then {A} P Q out p h acts =
    ((out ≡ None) × P None p h acts)
    ⊎ ((x : A) × (own : List Act) × (mid : HeldView) × (rest : List Act)
    × P (Some x) p h own × Runs p h own mid × Q x out p mid rest × (acts ≡ own ++ rest))

-- each of a list in turn, with the answers, after those given before
abbrev pub InTurn : {A B : Type 0} → (A → Option B → Doing) → List A → List B → Option (List B) → Doing
InTurn One [] given = Returns given
InTurn One (x ∷ xs) given = Then (One x) (λ y. InTurn One xs (given ++ y ∷ []))

-- each of a list in turn
abbrev pub Each : {A : Type 0} → (A → Option (Unit {0}) → Doing) → List A → Option (Unit {0}) → Doing
Each One [] = Returns tt
Each One (x ∷ xs) = Then (One x) (λ _. Each One xs)

-- ---- contracts

-- acts of a kind, with the outputs and the changes of rows that they add
pub record Did (w w' : WorkView) (P : Doing) : Type 0 where
  pub acts : List Act
  pub does : P w.place w.held acts
  pub runs : Runs w.place w.held acts w'.held
  pub given : w'.outputs ≡ w.outputs ++ gather output_in acts
  pub tells : TellsItsRows w w'
  pub begins : StillBegin w w'
  pub names : NamesAltered w w' acts
  pub place : w'.place ≡ w.place

-- work of a kind with its result; where a number can't be had nothing is said of what is left, and where memory is wanting
-- nothing at all
abbrev pub ComesTo : {T A : Type 0} → (T → A) → Result T NodeFault → WorkView → WorkView → (Option A → Doing) → Type 0
ComesTo see (Ok x) w w' P = Did w w' (P (Some (see x)))
ComesTo see (Err NumbersAtEnd) w w' P = (left : WorkView) × Did w left (P None)
ComesTo see (Err NoMemory) w w' P = Unit {0}
ComesTo see (Err Stopped) w w' P = ⊥

-- it succeeds, and so asked for no memory
abbrev pub Succeeds : {T A : Type 0} → (T → A) → A → Result T NodeFault → Type 0
Succeeds {T} see answer result = (x : T) × (result ≡ Ok x) × (see x ≡ answer)
