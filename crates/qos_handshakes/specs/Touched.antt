-- The places whose entries have changed since they were last asked for.
use Rattle.std.specs.Prelude.{◌≡◌, ◌≢◌, ℕ, ◌+◌, ◌<◌, ◌≤◌, ◌==◌, ◌||◌, ◌⊎◌, Bool, true, false, cond, nat_lt, List, [], ◌∷◌, Option, Some, None}
use Rattle.std.specs.BTreeMap.{is_at}
use Rattle.std.specs.Map.{keys_of, remove_entry}
use Rattle.std.specs.Ordering.{nat_cmp}
use Rattle.std.specs.List.Sorted.{IsStrictlySortedBy}
use Rattle.qos_handshakes.specs.declared.copies.Entry.{Entry}
use Rattle.qos_handshakes.specs.declared.copies.Stage.{Stage}
use Rattle.qos_handshakes.specs.declared.copies.Stage.TheVariants.{Waiting, Published, Released}
use Rattle.qos_handshakes.specs.Entries.{Entries, at_place, AllPlacesBelow, find_id, drop_id, write_id, write_at}
use Rattle.qos_handshakes.specs.Outbox.{Outbox, IsCounted}

-- an outbox, and the places touched since they were last asked for
pub record Watched : Type 0 where
  pub box : Outbox
  pub touched : List ℕ

abbrev pub is_in : ℕ → List ℕ → Bool
is_in p [] = false
is_in p (q ∷ qs) = (q == p) || is_in p qs

-- what is durable of what stands at a place
abbrev pub durable : Option Entry → Option Entry
durable None = None
durable (Some x) = Some (record x { here = false })

-- Each place where what is durable has changed is touched, and no other; and what was touched before is so still.
pub record Touches (es : Entries) (ts : List ℕ) (es' : Entries) (ts' : List ℕ) : Type 0 where
  pub still : (p : ℕ) → is_in p ts ≡ true → is_in p ts' ≡ true
  pub changed : (p : ℕ) → (durable (at_place p es) ≡ durable (at_place p es')) ⊎ (is_in p ts' ≡ true)
  pub only : (p : ℕ) → is_in p ts' ≡ true → (is_in p ts ≡ true) ⊎ (durable (at_place p es) ≢ durable (at_place p es'))

-- the places of the copies rise, below the next place
pub record ArePlaced (o : Outbox) : Type 0 where
  pub rise : IsStrictlySortedBy nat_cmp (keys_of o.copies)
  pub below : AllPlacesBelow o.copies o.next_place

-- how far what stands at a place has come: nothing stood there yet, it waits, was published, was released, is gone
abbrev pub stage_progress : Stage → ℕ
stage_progress Waiting = 1
stage_progress (Published id) = 2
stage_progress (Released id order) = 3

abbrev pub progress_of : Bool → Option Entry → ℕ
progress_of used None = cond used 4 0
progress_of used (Some x) = stage_progress x.stage

abbrev pub progress : ℕ → ℕ → Entries → ℕ
progress p next es = progress_of (nat_lt p next) (at_place p es)

-- what is durable at a place stays, or comes further
abbrev pub Advances : ℕ → Entries → ℕ → Entries → Type 0
Advances next es next' es' = (p : ℕ) → ((durable (at_place p es) ≡ durable (at_place p es')) × (progress p next es ≡ progress p next' es')) ⊎ (progress p next es < progress p next' es')

abbrev pub TouchesChanged : Watched → Watched → Type 0
TouchesChanged old new = Touches old.box.copies old.touched new.box.copies new.touched × Advances old.box.next_place old.box.copies new.box.next_place new.box.copies

abbrev pub HasAll : List ℕ → List ℕ → Type 0
HasAll ps ts = (p : ℕ) → is_in p ps ≡ is_in p ts

-- the places by rising order, each once
pub record AreListed (ts : List ℕ) (places : List ℕ) : Type 0 where
  pub rise : IsStrictlySortedBy nat_cmp places
  pub same : HasAll places ts

-- ---- how the code keeps it
-- places, and for how many more there is room
pub record Marked : Type 0 where
  pub places : List ℕ
  pub room : ℕ

-- how often what stands at a place may yet be touched: it is sent, released, and ends
abbrev pub stage_credits : Stage → ℕ
stage_credits Waiting = 3
stage_credits (Published id) = 2
stage_credits (Released id order) = 1

abbrev pub credits : Entries → ℕ
credits [] = 0
credits (e ∷ es) = stage_credits e.1.stage + credits es

abbrev pub credits_of : Option Entry → ℕ
credits_of None = 0
credits_of (Some x) = stage_credits x.stage

-- there is room for it, and it is done less often from then on
pub record Marks (es : Entries) (l : Marked) (es' : Entries) (l' : Marked) : Type 0 where
  pub touches : Touches es l.places es' l'.places
  pub less : (p : ℕ) → credits_of (at_place p es') ≤ credits_of (at_place p es)
  pub moves : (p : ℕ) → (durable (at_place p es) ≡ durable (at_place p es')) ⊎ (credits_of (at_place p es') < credits_of (at_place p es))
  pub spent : (p : ℕ) → is_in p l'.places ≡ true → (is_in p l.places ≡ true) ⊎ (credits_of (at_place p es') < credits_of (at_place p es))
  pub room : credits es ≤ l.room → credits es' ≤ l'.room

pub record IsWatched (es : Entries) (first flight next from left : ℕ) : Type 0 where
  pub counted : IsCounted es first flight next from
  pub room : credits es ≤ left

-- the exchange of an identifier stands at a place
pub record IsPlaceOf (es : Entries) (id place : ℕ) : Type 0 where
  pub at : at_place place es ≡ find_id id es
  pub dropped : drop_id id es ≡ remove_entry (is_at (nat_cmp place)) es
  pub written : (f : Entry → Entry) → write_id f id es ≡ write_at f place es
