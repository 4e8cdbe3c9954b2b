-- What changes leave, alone and one list after another.
use Rattle.std.specs.Prelude.{◌≡◌, ℕ, Bool, List, ◌++◌}
use Rattle.std.specs.FinMap.{get}
use Rattle.row_store.specs.declared.row.Change.{Change}
use Rattle.row_store.specs.Rows.{Key, Content, after_all}
use Rattle.row_store.specs.Leading.{Rows, or_else, left_by, left_or, Lead, LeadWithin, Begin, Differ}
use Rattle.row_store.specs.Gathered.{Settle}

-- what a store of rows has at each key after changes
abbrev pub ChangesLeave : Type 0
ChangesLeave = (c : Content) (changes : List Change) (key : Key) → get (after_all c changes) key ≡ left_or (left_by changes key) (get c key)

-- of two lists of changes the second one has the last word
abbrev pub SecondIsLast : Type 0
SecondIsLast = (xs ys : List Change) (key : Key) → left_by (xs ++ ys) key ≡ or_else (left_by ys key) (left_by xs key)

-- changes that lead on from where others led
abbrev pub LeadOn : Type 0
LeadOn = (a b c : Rows) (xs ys : List Change) → Lead a b xs → Lead b c ys → Lead a c (xs ++ ys)

abbrev pub LeadOnWithin : Type 0
LeadOnWithin = (mine : ℕ → Bool) (a b c : Rows) (xs ys : List Change) → LeadWithin mine a b xs → LeadWithin mine b c ys → LeadWithin mine a c (xs ++ ys)

-- a store that has the old rows has the new ones after changes that lead to them
abbrev pub ContentFollows : Type 0
ContentFollows = (c : Content) (old new : Rows) (changes : List Change) → ((key : Key) → get c key ≡ old key) → Lead old new changes → (key : Key) → get (after_all c changes) key ≡ new key

-- changes that begin with what was there, after others that do
abbrev pub BeginOn : Type 0
BeginOn = (kind : ℕ) (a b : Rows) (xs ys : List Change) → ((key : Key) → key.0 ≡ kind → b key ≡ left_or (left_by xs key) (a key)) → Begin kind a xs → Begin kind b ys → Begin kind a (xs ++ ys)

-- what settles changes that begin with what was there leads the same way, and names a row of the kind only where it changes
abbrev pub SettledLead : Type 0
SettledLead = (kind : ℕ) (old new : Rows) (these those : List Change) → Settle kind these those → Begin kind old those → Lead old new those → Lead old new these × Differ kind old these
