-- Changes lead from the rows that were told last to those of a session.
use Rattle.std.specs.Prelude.{◌≡◌, ◌≢◌, ℕ, ◌≤◌, ◌^◌, List, [], ◌∷◌, Option, Some, None, option_map, IfSome, map}
use Rattle.std.specs.FinMap.{from_entries, get, insert, remove}
use Rattle.std.specs.List.{AllByRecursion}
use Rattle.qos_handshakes.specs.Entries.{Entries, AllPlacesBelow}
use Rattle.qos_handshakes.specs.Outbox.{away}
use Rattle.qos_handshakes.specs.Touched.{Watched, AreListed}
use Rattle.row_store.specs.declared.row.Change.{Change}
use Rattle.row_store.specs.Rows.{Key, Content, after_all}
use Rattle.session_rows.specs.Changes.{PlainChange, Told, Follows, changes_of, plain_of}
use Rattle.session_rows.specs.Durable.{Durable}
use Rattle.session_rows.specs.Fields.{Main, main}
use Rattle.session_rows.specs.Rows.{rows_of}

-- a content after a change, and after each of several in turn
abbrev pub after_plain : Content → PlainChange → Content
after_plain c (k, None) = remove c k
after_plain c (k, Some value) = insert c k value

abbrev pub after_plains : Content → List PlainChange → Content
after_plains c [] = c
after_plains c (p ∷ ps) = after_plains (after_plain c p) ps

-- ---- what was told last, if anything was
abbrev pub told_rows : Option Durable → List (Key × List ℕ)
told_rows None = []
told_rows (Some d) = rows_of d

abbrev pub told_copies : Option Durable → Entries
told_copies None = []
told_copies (Some d) = d.copies

abbrev pub told_next : Option Durable → ℕ
told_next None = 1
told_next (Some d) = d.main.next_place

abbrev pub told_box : Option Durable → Watched
told_box last = record { box = record { copies = told_copies last; next_place = told_next last; next_order = 1; maximum = 0 }; touched = [] }

-- what is noted of it, and the copies since then
pub record IsSince (last : Option Durable) (told : Told) (client : List ℕ) (now : Watched) : Type 0 where
  pub value : told.value ≡ option_map (λ d. main.bytes d.main) last
  pub next : told.next_place ≡ told_next last
  pub owner : IfSome last (λ d. d.client ≡ client)
  pub then_below : AllPlacesBelow (told_copies last) (told_next last)
  pub then_small : told_next last ≤ 2 ^ 64
  pub now_below : AllPlacesBelow now.box.copies now.box.next_place
  pub now_small : now.box.next_place ≤ 2 ^ 64
  pub follows : Follows (told_box last) now

-- the changes lead from the rows that were told last to those of now
abbrev pub ChangesLead : Type 0
ChangesLead = (last : Option Durable) (told : Told) (client : List ℕ) (m : Main) (now : Watched) (places : List ℕ) → IsSince last told client now → AreListed now.touched places
    → after_plains (from_entries (told_rows last)) (changes_of told client m now.box.copies places) ≡ from_entries (rows_of (record { client = client; main = m; copies = away now.box.copies }))

-- no two of them name one key
abbrev pub NameApart : List PlainChange → Type 0
NameApart [] = Unit {0}
NameApart (p ∷ ps) = AllByRecursion (λ q. p.0 ≢ q.0) ps × NameApart ps

-- each changes what is there
abbrev pub AreDifferent : Content → List PlainChange → Type 0
AreDifferent c ps = AllByRecursion (λ p. get c p.0 ≢ p.1) ps

-- each row that differs is named once, and no other
pub record AreExact (last : Option Durable) (changes : List PlainChange) : Type 0 where
  pub once : NameApart changes
  pub differ : AreDifferent (from_entries (told_rows last)) changes

abbrev pub ChangesAreExact : Type 0
ChangesAreExact = (last : Option Durable) (told : Told) (client : List ℕ) (m : Main) (now : Watched) (places : List ℕ) → IsSince last told client now → AreListed now.touched places
    → AreExact last (changes_of told client m now.box.copies places)

-- as a store of rows makes them
abbrev pub ChangesAreMade : Type 0
ChangesAreMade = (c : Content) (changes : List Change) → after_all c changes ≡ after_plains c (map plain_of changes)

-- one state of the copies follows another that follows a third
abbrev pub FollowsOn : Type 0
FollowsOn = (a b c : Watched) → Follows a b → Follows b c → Follows a c
