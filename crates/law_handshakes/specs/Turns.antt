-- Which copies go when the next PUBLISH is asked for (MQTT 5.0, 4.4, 4.6 and 4.9).
use Rattle.std.specs.Prelude.{◌≡◌, ◌↔◌, ℕ, ◌<◌, ◌≤◌, Bool, true, false, not, ◌∷◌, ◌++◌, Option, Some, None}
use Rattle.std.specs.List.{AllByRecursion, filter}
use Rattle.qos_handshakes.specs.declared.copies.Entry.{Entry}
use Rattle.qos_handshakes.specs.Entries.{Entries, find_id, as_here, as_published, IsLeastFree, NoneFree}
use Rattle.qos_handshakes.specs.Outbox.{Outbox, Sent, waits, in_flight, is_owed, fits, is_sendable, resent, NextStep}

-- Some of the entries have their turn: the first of these that may go is changed, and those of them that stand before it leave.
pub record GoesFirst (turn may : Entry → Bool) (old : Entries) (x changed : Entry) (new : Entries) : Type 0 where
  pub left : Entries
  pub place : ℕ
  pub right : Entries
  pub is : old ≡ left ++ (place, x) ∷ right
  pub its : turn x ≡ true
  pub goes : may x ≡ true
  pub none_before : AllByRecursion (λ e. turn e.1 ≡ true → may e.1 ≡ false) left
  pub stay : new ≡ filter (λ e. not (turn e.1)) left ++ (place, changed) ∷ right

-- none of them may go, and all of them leave
pub record NoneGoes (turn may : Entry → Bool) (old new : Entries) : Type 0 where
  pub none : AllByRecursion (λ e. turn e.1 ≡ true → may e.1 ≡ false) old
  pub stay : new ≡ filter (λ e. not (turn e.1)) old

-- what an earlier connection sent and nobody answered may go unless it is too long
abbrev pub may_go_again : ℕ → ℕ → Entry → Bool
may_go_again now limit x = fits now limit x.delivery

-- what waits
abbrev pub is_queued : Entry → Bool
is_queued x = waits x.stage

-- may go unless it is too long or its deadline has passed
abbrev pub may_go : ℕ → ℕ → Entry → Bool
may_go now limit x = is_sendable now limit x.delivery

-- some identifier is free
abbrev pub SomeFree : Entries → Type 0
SomeFree es = (id : ℕ) × (1 ≤ id) × (id ≤ 65535) × (find_id id es ≡ None)

-- Receive Maximum PUBLISHes of this connection are unfinished; one is sent again; no identifier is free; the first of the queue is
-- sent, under an identifier; there is nothing to send
pub data Turn : Type 0 where
  full : Turn
  again : Entry → Turn
  unnumbered : Turn
  first : Entry → ℕ → Turn
  idle : Turn

abbrev pub answer_of : Turn → Option Sent
answer_of full = None
answer_of (again x) = Some (resent x)
answer_of unnumbered = None
answer_of (first x id) = Some (record { id = id; dup = false; copy = x.delivery })
answer_of idle = None

-- the queue has its turn once nothing is to be sent again
pub record HasQueue (now limit : ℕ) (old : Outbox) (queued : Entries) : Type 0 where
  pub quota : in_flight old.copies < old.maximum
  pub none_again : NoneGoes is_owed (may_go_again now limit) old.copies queued

-- what each leaves of the copies
abbrev pub Leaves : ℕ → ℕ → Turn → Outbox → Entries → Type 0
Leaves now limit full old left = (old.maximum ≤ in_flight old.copies) × (left ≡ old.copies)
Leaves now limit (again x) old left = (in_flight old.copies < old.maximum) × GoesFirst is_owed (may_go_again now limit) old.copies x (as_here x) left
Leaves now limit unnumbered old left = HasQueue now limit old left × NoneFree left
Leaves now limit (first x id) old left = (queued : Entries) × HasQueue now limit old queued × IsLeastFree queued id × GoesFirst is_queued (may_go now limit) queued x (as_published id x) left
Leaves now limit idle old left = (queued : Entries) × HasQueue now limit old queued × SomeFree queued × NoneGoes is_queued (may_go now limit) queued left

pub record IsTurn (now limit : ℕ) (turn : Turn) (old : Outbox) (answer : Option Sent) (new : Outbox) : Type 0 where
  pub left : Entries
  pub leaves : Leaves now limit turn old left
  pub answers : answer ≡ answer_of turn
  pub is : new ≡ record old { copies = left }

abbrev pub NextIsATurn : Type 0
NextIsATurn = (now limit : ℕ) (old : Outbox) (answer : Option Sent) (new : Outbox) → NextStep now limit old answer new ↔ ((turn : Turn) × IsTurn now limit turn old answer new)
