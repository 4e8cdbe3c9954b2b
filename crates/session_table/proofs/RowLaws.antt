-- What a telling leads to.
use Rattle.std.proofs.Common.{◌≡◌, ◌≢◌, ◌<◌, ◌^◌, ℕ, Vec, Bool, true, false, cond, List, [], ◌∷◌, ◌++◌, map as map_list, Option, Some, None, Ok, IfSome, unwrap_or, refl, sym, ap, subst, ◌∙◌, inl, inr, arith}
use Rattle.std.specs.Prelude.{nat_lt}
use Rattle.std.specs.FinMap as map
use Rattle.std.specs.List.{AllByRecursion}
use Rattle.std.specs.Map.{keys_of}
use Rattle.std.specs.Option.{option_map}
use Rattle.std.specs.Cmp.{tied_itself}
use Rattle.std.specs.Ordering.{eq_by_cmp, is_eq}
use Rattle.std.proofs.lemmas.Bool.{cases_Bool, false≢true}
use Rattle.std.proofs.lemmas.List.{append-nil, append_assoc}
use Rattle.mqtt_fields.specs.Numbers.{IsText}
use Rattle.qos_handshakes.specs.declared.copies.Entry.{Entry}
use Rattle.qos_handshakes.specs.Entries.{Entries, at_place}
use Rattle.qos_handshakes.specs.Outbox.{away}
use Rattle.row_store.specs.declared.row.Change.{Change}
use Rattle.row_store.specs.declared.row.Change.TheVariants.{Put, Remove}
use Rattle.row_store.specs.Rows.{Key, Content, key_cmp}
use Rattle.row_store.proofs.Keys.{keys_total, exact_keys, equal_is}
use Rattle.row_store.specs.Leading.{Rows, Begin, Lead, LeadWithin, OthersDiffer, first_by, key_in, left_by, left_by_one, left_or, or_else, value_in}
use Rattle.row_store.proofs.Leaving.{begin_on, changes_leave, lead_on, lead_on_within, named_either}
use Rattle.session_rows.specs.Changes.{PlainChange, Told, plain_of, own_change, own_change_by, is_told, copy_change, copy_changes, changes_of}
use Rattle.session_rows.specs.Durable.{Durable, IsDurable}
use Rattle.session_rows.specs.Fields.{Main, main, copy, copy_of}
use Rattle.session_rows.specs.Rows.{main_key, rows_of}
use Rattle.law_sessions.specs.Leading.{AreDifferent, ChangesAreMade, after_plains, told_rows}
use Rattle.mqtt_sessions.specs.Reaction.{Reaction}
use Rattle.mqtt_sessions.specs.Removed.{RemovesIf, gone_of, own_removal, own_told, removals_of, removed_before}
use Rattle.mqtt_sessions.specs.Saved.{Appends, Saved, Notes, NotesIf, Tells, TellsIf, begun_session, durable_of, main_of, own_before, reopened, state_in, state_of, told_before}
use Rattle.mqtt_sessions.specs.State.{State, new_session}
use Rattle.mqtt_sessions.proofs.SavedLaws.{main-back}
use Rattle.law_sessions.specs.Runs.{Event, Reacts}
use Rattle.law_sessions.specs.Histories.{Point, Move, calls, tells, Moves, TellsAt, History, Begins, begun, opened_point, durable_at}
use Rattle.law_sessions.specs.Sound.{BeginsSound, IsSoundEvent, IsSoundMove, StaysDurable}
use Rattle.law_sessions.specs.Told.{StaysSince, ToldChangesLead, RemovalsLeaveNone, Empties}
use Rattle.session_table.specs.Seats.{Seat, Seats, begun as begun_seat}
use Rattle.session_table.specs.Calls.{IsTurned}
use Rattle.session_table.specs.Listing.{AllTold, Table, seat_of, seats_in, session_in, text_cmp}
use Rattle.session_table.specs.declared.seated.Seated.{Seated}
use Rattle.session_table.specs.Rows.{AllDurable, IsAllTold, IsOf, IsTold, LeadsOn, OwnLead, OwnLeadsOn, BeginTells, CallTells, RemovalLeaves, TellsAgain, TellsOn, is_session_kind, no_row, own_kind, row_in, rows_for, saved_row, seat_row, told_point}
use Rattle.law_maps.proofs.Texts.{get_apart, get_inserted, get_left, get_removed, itself, remove_absent, same_text}
use Rattle.session_table.specs.Wants.{leaves_rows}
use Rattle.session_table.proofs.Keeping.{event_still}
use Rattle.session_table.proofs.SeatMaps.{get_seat, seats_insert, seats_remove}

-- ---- histories
history-then : (a : Point) (ms : List Move) (b : Point) (m : Move) (c : Point) → History a ms b → Moves b m c → History a (ms ++ m ∷ []) c
history-then a [] b m c h n = (c, subst (λ (x : Point). Moves x m c) h n, refl)
history-then a (x ∷ ms) b m c h n = (h.0, h.1, history-then h.0 ms b m c h.2 n)

sound-then : (ms : List Move) (m : Move) → AllByRecursion IsSoundMove ms → IsSoundMove m → AllByRecursion IsSoundMove (ms ++ m ∷ [])
sound-then [] m h s = (s, tt)
sound-then (x ∷ ms) m h s = (h.0, sound-then ms m h.1 s)

begins-of : (p : Point) → BeginsSound p → Begins p
begins-of p (inl b) = inl (b.0, b.2)
begins-of p (inr b) = inr b

itself-key : (key : Key) → eq_by_cmp key_cmp key key ≡ true
itself-key key = ap is_eq (tied_itself keys_total key)

-- ---- whose rows the changes are; no own row is named of a client whose value was told
abbrev IsMine : List ℕ → Bool → PlainChange → Type 0
IsMine client is_told p = (is_session_kind p.0.0 ≡ true) × (p.0.1.0 ≡ client) × (p.0.0 ≡ own_kind → (is_told ≡ false) × (p.0 ≡ main_key client))

all-both : {A : Type 0} (P : A → Type 0) (xs ys : List A) → AllByRecursion P xs → AllByRecursion P ys → AllByRecursion P (xs ++ ys)
all-both P [] ys h k = k
all-both P (x ∷ xs) ys h k = (h.0, all-both P xs ys h.1 k)

mine-own : (client value : List ℕ) (b : Bool) → AllByRecursion (IsMine client b) (own_change_by b client value)
mine-own client value true = tt
mine-own client value false = ((refl, refl, λ is. (refl, refl)), tt)

mine-before : (client : List ℕ) (b : Bool) (value : Option (List ℕ)) → AllByRecursion (IsMine client b) (own_before b client value)
mine-before client true value = tt
mine-before client false value = ((refl, refl, λ is. (refl, refl)), tt)

no-own : 3 ≡ own_kind → ⊥
no-own is = omega (arith, is)

mine-copy : (client : List ℕ) (b : Bool) (next place : ℕ) (o : Option Entry) → AllByRecursion (IsMine client b) (copy_change client next place o)
mine-copy client b next place (Some x) = ((refl, refl, λ is. absurd (no-own is)), tt)
mine-copy client b next place None = elim (cases_Bool (nat_lt place next)) [
  | inl t ↦ rw t ((refl, refl, λ is. absurd (no-own is)), tt)
  | inr f ↦ rw f tt
]

mine-copies : (client : List ℕ) (b : Bool) (next : ℕ) (es : Entries) (ps : List ℕ) → AllByRecursion (IsMine client b) (copy_changes client next es ps)
mine-copies client b next es [] = tt
mine-copies client b next es (p ∷ ps) =
    all-both (IsMine client b) (copy_change client next p (at_place p es)) (copy_changes client next es ps) (mine-copy client b next p (at_place p es)) (mine-copies client b next es ps)

mine-changes : (told : Told) (client : List ℕ) (m : Main) (es : Entries) (ps : List ℕ) → AllByRecursion (IsMine client (is_told told.value (main.bytes m))) (changes_of told client m es ps)
mine-changes told client m es ps =
    let b = is_told told.value (main.bytes m) in
    all-both (IsMine client b) (own_change told.value client (main.bytes m)) (copy_changes client told.next_place es ps) (mine-own client (main.bytes m) b) (mine-copies client b told.next_place es ps)

mine-removal : (client : List ℕ) (o : Option (List ℕ)) → AllByRecursion (IsMine client false) (own_removal o client)
mine-removal client None = tt
mine-removal client (Some value) = ((refl, refl, λ is. (refl, refl)), tt)

mine-removals : (told : Told) (client : List ℕ) (es : Entries) (ps : List ℕ) → AllByRecursion (IsMine client false) (removals_of told client es ps)
mine-removals told client es ps =
    let places = keys_of es ++ gone_of es ps in
    all-both (IsMine client false) (copy_changes client told.next_place [] places) (own_removal told.value client) (mine-copies client false told.next_place [] places) (mine-removal client told.value)

is-of : (client : List ℕ) (b : Bool) (change : Change) → IsMine client b (plain_of change) → IsOf client change
is-of client b (Put row) h = record { kind = h.0; owner = h.1 }
is-of client b (Remove kind owner place) h = record { kind = h.0; owner = h.1 }

are-of : (client : List ℕ) (b : Bool) (changes : List Change) → AllByRecursion (IsMine client b) (map_list plain_of changes) → AllByRecursion (IsOf client) changes
are-of client b [] h = tt
are-of client b (c ∷ cs) h = (is-of client b c h.0, are-of client b cs h.1)

-- ---- what goes before changes that name a session's own row
plain-key : (c : Change) → key_in c ≡ (plain_of c).0
plain-key (Put row) = refl
plain-key (Remove kind owner place) = refl

plain-value : (c : Change) → value_in c ≡ (plain_of c).1
plain-value (Put row) = refl
plain-value (Remove kind owner place) = refl

named-key : (key : Key) (c : Change) → eq_by_cmp key_cmp key (key_in c) ≡ true → key ≡ key_in c
named-key key c t = exact_keys key (key_in c) (equal_is (key_cmp key (key_in c)) t)

-- its own row is named only where it wasn't told, and no other of its kind
unbegun : (client : List ℕ) (b : Bool) (key : Key) (cs : List Change) → AllByRecursion (IsMine client b) (map_list plain_of cs) → key.0 ≡ own_kind → (b ≡ false → key ≡ main_key client → ⊥) → first_by cs key ≡ None
unbegun client b key [] h kind apart = refl
unbegun client b key (c ∷ cs) h kind apart = elim (cases_Bool (eq_by_cmp key_cmp key (key_in c))) [
  | inl t ↦
      let same : key ≡ (plain_of c).0 = named-key key c t ∙ plain-key c in
      let own = h.0.2 (ap (λ (k : Key). k.0) (sym same) ∙ kind) in
      absurd (apart own.0 (same ∙ own.1))
  | inr f ↦ rw f (unbegun client b key cs h.1 kind apart)
]

-- a change that leaves what is there
module _ (client : List ℕ) (value : Option (List ℕ)) (rows : Rows) (c : Change) (was : rows (main_key client) ≡ value) (same : plain_of c ≡ (main_key client, value)) where
  its-key : key_in c ≡ main_key client
  its-key = plain-key c ∙ ap (λ (p : PlainChange). p.0) same

  leaves-it : (key : Key) → eq_by_cmp key_cmp key (key_in c) ≡ true → value_in c ≡ rows key
  leaves-it key t = plain-value c ∙ ap (λ (p : PlainChange). p.1) same ∙ sym was ∙ ap rows (sym (named-key key c t ∙ its-key))

  one-stays : (key : Key) → rows key ≡ left_or (left_by (c ∷ []) key) (rows key)
  one-stays key = elim (cases_Bool (eq_by_cmp key_cmp key (key_in c))) [ inl t ↦ rw t (sym (leaves-it key t)) | inr f ↦ rw f refl ]

  one-begins : (own : List Change) → AllByRecursion (IsMine client false) (map_list plain_of own) → Begin own_kind rows (c ∷ own)
  one-begins own mine key kind = elim (cases_Bool (eq_by_cmp key_cmp key (key_in c))) [
    | inl t ↦ rw t (leaves-it key t)
    | inr f ↦
        let apart : key ≡ main_key client → ⊥ = λ is. false≢true (sym f ∙ ap (λ (k : Key). eq_by_cmp key_cmp key k) (its-key ∙ sym is) ∙ itself-key key) in
        rw (f, unbegun client false key own mine kind (λ _. apart)) tt
  ]

stays : (client : List ℕ) (b : Bool) (value : Option (List ℕ)) (rows : Rows) (first : List Change) → rows (main_key client) ≡ value → map_list plain_of first ≡ own_before b client value → Lead rows rows first
stays client true value rows [] was is key = refl
stays client true value rows (c ∷ cs) was is key = absurd (cc is)
stays client false value rows [] was is key = absurd (cc is)
stays client false value rows (c ∷ []) was is key = (let same : plain_of c ≡ (main_key client, value) = cc in one-stays client value rows c was same key)
stays client false value rows (c ∷ d ∷ cs) was is key = absurd (cc is)

begins : (client : List ℕ) (b : Bool) (value : Option (List ℕ)) (rows : Rows) (first own : List Change) → rows (main_key client) ≡ value → map_list plain_of first ≡ own_before b client value → AllByRecursion (IsMine client b) (map_list plain_of own)
    → Begin own_kind rows (first ++ own)
begins client true value rows [] own was is mine key kind = rw (unbegun client true key own mine kind (λ no same. false≢true (sym no))) tt
begins client true value rows (c ∷ cs) own was is mine key kind = absurd (cc is)
begins client false value rows [] own was is mine key kind = absurd (cc is)
begins client false value rows (c ∷ []) own was is mine key kind = (let same : plain_of c ≡ (main_key client, value) = cc in one-begins client value rows c was same own mine key kind)
begins client false value rows (c ∷ d ∷ cs) own was is mine key kind = absurd (cc is)

-- and names no other row
no-other : (client : List ℕ) (b : Bool) (value : Option (List ℕ)) (first : List Change) (key : Key) → map_list plain_of first ≡ own_before b client value → key.0 ≢ own_kind → left_by first key ≡ None
no-other client true value [] key is kind = refl
no-other client true value (c ∷ cs) key is kind = absurd (cc is)
no-other client false value [] key is kind = absurd (cc is)
no-other client false value (c ∷ []) key is kind = elim (cases_Bool (eq_by_cmp key_cmp key (key_in c))) [
  | inl t ↦
      let same : plain_of c ≡ (main_key client, value) = cc in
      absurd (kind (ap (λ (k : Key). k.0) (named-key key c t ∙ plain-key c ∙ ap (λ (p : PlainChange). p.0) same)))
  | inr f ↦ rw f refl
]
no-other client false value (c ∷ d ∷ cs) key is kind = absurd (cc is)

differ-after : (client : List ℕ) (b : Bool) (value : Option (List ℕ)) (old new : Rows) (first own : List Change) → map_list plain_of first ≡ own_before b client value → OthersDiffer own_kind old new own → OthersDiffer own_kind old new (first ++ own)
differ-after client b value old new first own is differ key kind named = elim (named_either first own key named) [
  | inl before ↦ absurd (before (no-other client b value first key is kind))
  | inr here ↦ differ key kind here
]

after-before : (client : List ℕ) (b : Bool) (value : Option (List ℕ)) (old new : Rows) (first own : List Change) → old (main_key client) ≡ value → map_list plain_of first ≡ own_before b client value → AllByRecursion (IsMine client b) (map_list plain_of own) → Lead old new own
    → OthersDiffer own_kind old new own → OwnLead client old new (first ++ own)
after-before client b value old new first own was is mine lead differ = record {
  own = all-both (IsOf client) first own (are-of client b first (subst (λ (ps : List PlainChange). AllByRecursion (IsMine client b) ps) (sym is) (mine-before client b value))) (are-of client b own mine);
  lead = lead_on old old new first own (stays client b value old first was is) lead;
  begins = begins client b value old first own was is mine;
  differ = differ-after client b value old new first own is differ;
}

-- ---- rows
rows-before : Option Durable → Rows
rows-before last key = map.get {R = key_cmp} (map.from_entries (told_rows last)) key

none-before : (key : Key) → rows-before None key ≡ None
unfolding rows-before
none-before key = map.get-from_entries keys_total [] key

-- a session's own row
own-row : (s : State) → rows_for s (main_key s.kept.client) ≡ Some (main.bytes (main_of s))
own-row s = map.get-from_entries keys_total (rows_of (durable_of s)) (main_key s.kept.client) ∙ rw (itself-key (main_key s.kept.client)) refl

-- ---- a session that is told
same-tracked : (old : Saved) (own : List Change) (new : Saved) → Tells old own new → new.tracked.state ≡ old.tracked.state
same-tracked old own new t = ap (λ x. x.state) t.state

told-next : (start : Point) (moves : List Move) (old : Point) (own : List Change) (new : Saved) → BeginsSound start → AllByRecursion IsSoundMove moves → History start moves old → Tells old.session own new → IsTold old.session.tracked.state.kept.client new
told-next start moves old own new b s h t =
    let at : TellsAt old own (told_point new) = record { tells = t; last = ap (λ s. Some (durable_of s)) (same-tracked old.session own new t) } in
    record {
      start = start;
      moves = moves ++ tells own ∷ [];
      begins = b;
      sound = sound-then moves (tells own) s tt;
      history = history-then start moves old (tells own) (told_point new) h at;
      owner = ap (λ s. s.kept.client) (same-tracked old.session own new t);
    }

own-next : (old : Saved) (own : List Change) (new : Saved) → Tells old own new → AllByRecursion (IsMine old.tracked.state.kept.client (is_told old.told.value (main.bytes (main_of old.tracked.state)))) (map_list plain_of own)
own-next old own new t =
    let s = old.tracked.state in
    subst (λ (ps : List PlainChange). AllByRecursion (IsMine s.kept.client (is_told old.told.value (main.bytes (main_of s)))) ps) (sym t.named) (mine-changes old.told s.kept.client (main_of s) s.outbox.copies t.places)

-- ---- by the laws
made : ChangesAreMade
made c [] = refl
made c (Put row ∷ more) = made (map.insert c (key_in (Put row)) row.value.items) more
made c (Remove kind owner place ∷ more) = made (map.remove c (key_in (Remove kind owner place))) more

-- a store that has the rows makes the changes
made-lead : (last : Option Durable) (own : List Change) (rows : List (Key × List ℕ)) → after_plains (map.from_entries (told_rows last)) (map_list plain_of own) ≡ map.from_entries rows
    → Lead (rows-before last) (λ key. map.get {R = key_cmp} (map.from_entries rows) key) own
unfolding rows-before
made-lead last own rows h key =
    ap (λ (c : Content). map.get c key) (sym (made (map.from_entries (told_rows last)) own ∙ h)) ∙ changes_leave (map.from_entries (told_rows last)) own key

-- changes that differ from what is there leave other rows
left-other : (c : Content) (cs : List Change) (key : Key) (l : Option (List ℕ)) → AreDifferent c (map_list plain_of cs) → left_by cs key ≡ Some l → map.get c key ≢ l
left-other c [] key l h e = absurd (let z : None ≡ Some l = e in cc)
left-other c (x ∷ xs) key l h e = by (left_by xs key) refl (left-other c xs key l h.1) e
  where
    by : (last : Option (Option (List ℕ))) → left_by xs key ≡ last → (left_by xs key ≡ Some l → map.get c key ≢ l) → or_else last (left_by_one x key) ≡ Some l → map.get c key ≢ l
    by (Some v) is rest f = rest (is ∙ f)
    by None is rest f = elim (cases_Bool (eq_by_cmp key_cmp key (key_in x))) [
      | inl t ↦
          let s : Some (value_in x) ≡ Some l = sym (ap (λ b. cond b (Some (value_in x)) None) t) ∙ f in
          let value : value_in x ≡ l = cc in
          λ same. h.0 (ap (map.get c) (sym (named-key key x t ∙ plain-key x)) ∙ same ∙ sym value ∙ plain-value x)
      | inr n ↦ absurd (let s : None ≡ Some l = sym (ap (λ b. cond b (Some (value_in x)) None) n) ∙ f in cc)
    ]

made-differ : (last : Option Durable) (own : List Change) (new : Rows) → AreDifferent (map.from_entries (told_rows last)) (map_list plain_of own) → Lead (rows-before last) new own → OthersDiffer own_kind (rows-before last) new own
unfolding rows-before
made-differ last own new differ lead key kind named same = by (left_by own key) refl
  where
    by : (left : Option (Option (List ℕ))) → left_by own key ≡ left → ⊥
    by None e = named e
    by (Some l) e = left-other (map.from_entries (told_rows last)) own key l differ e (sym same ∙ lead key ∙ ap (λ o. left_or o (rows-before last key)) e)

-- what differs from some rows differs from the same
differs-from : (a b new : Rows) (own : List Change) → ((key : Key) → a key ≡ b key) → OthersDiffer own_kind a new own → OthersDiffer own_kind b new own
differs-from a b new own same differ key kind named e = differ key kind named (e ∙ sym (same key))

module _ (lead : ToldChangesLead) where
  lead-next : (start : Point) (moves : List Move) (old : Point) (own : List Change) (new : Saved) → Begins start → History start moves old → Tells old.session own new → Lead (rows-before old.last) (rows_for new.tracked.state) own
  lead-next start moves old own new b h t =
      let at : TellsAt old own (told_point new) = record { tells = t; last = ap (λ s. Some (durable_of s)) (same-tracked old.session own new t) } in
      let led = (lead start moves old own (told_point new) b h at).lead in
      subst (λ (s : State). Lead (rows-before old.last) (rows_for s) own) (sym (same-tracked old.session own new t)) (made-lead old.last own (rows_of (durable_at old)) led)

  differ-next : (start : Point) (moves : List Move) (old : Point) (own : List Change) (new : Saved) → Begins start → History start moves old → Tells old.session own new → OthersDiffer own_kind (rows-before old.last) (rows_for new.tracked.state) own
  differ-next start moves old own new b h t =
      let at : TellsAt old own (told_point new) = record { tells = t; last = ap (λ s. Some (durable_of s)) (same-tracked old.session own new t) } in
      made-differ old.last own (rows_for new.tracked.state) (lead start moves old own (told_point new) b h at).exact.differ (lead-next start moves old own new b h t)

  -- after a call
  pub call-tells : StaysSince → CallTells
  unfolding rows-before
  call-tells since client e r old mid first own new sound told reacts notes before t =
      let p : Point = record { session = mid; last = Some (durable_of old.tracked.state) } in
      let h = history-then told.start told.moves (told_point old) (calls e r) p told.history (record { reacts = reacts; notes = notes; last = refl }) in
      let ms = told.moves ++ calls e r ∷ [] in
      let began = begins-of told.start told.begins in
      let k = mid.tracked.state.kept.client in
      let now = since told.start ms p began h in
      let is : k ≡ client = sym now.owner ∙ told.owner in
      let was : rows_for old.tracked.state (main_key k) ≡ mid.told.value = ap (λ (c : List ℕ). rows_for old.tracked.state (main_key c)) (sym now.owner) ∙ own-row old.tracked.state ∙ sym now.value in
      let b = is_told mid.told.value (main.bytes (main_of mid.tracked.state)) in (
        subst (λ (c : List ℕ). IsTold c new) is (told-next told.start ms p own new told.begins (sound-then told.moves (calls e r) told.sound sound) h t),
        subst (λ (c : List ℕ). OwnLead c (rows_for old.tracked.state) (rows_for new.tracked.state) (first ++ own)) is
            (after-before k b mid.told.value (rows_for old.tracked.state) (rows_for new.tracked.state) first own was before (own-next mid own new t) (lead-next told.start ms p own new began h t) (differ-next told.start ms p own new began h t)),
      )

  -- its making
  pub begin-tells : BeginTells
  begin-tells client first own new text before t = (
    told-next (begun client) [] (begun client) own new (inl (client, text, refl)) tt refl t,
    after-before client false None no_row (rows_for new.tracked.state) first own refl before (own-next (begun_session client) own new t)
        (λ key. lead-next (begun client) [] (begun client) own new (inl (client, refl)) refl t key ∙ ap (left_or (left_by own key)) (none-before key))
        (differs-from (rows-before None) no_row (rows_for new.tracked.state) own none-before (differ-next (begun client) [] (begun client) own new (inl (client, refl)) refl t)),
  )

-- its end
there : (client value : List ℕ) (o : Option (List ℕ)) → o ≡ Some value → own_told o client ≡ own_before false client o
there client value None is = absurd (cc is)
there client value (Some v) is = refl

pub removal-leaves : RemovalsLeaveNone → StaysSince → RemovalLeaves
unfolding rows-before
removal-leaves removal since client s first own told before r =
    let k = s.tracked.state.kept.client in
    let began = begins-of told.start told.begins in
    let e : Empties (Some (durable_of s.tracked.state)) own = removal told.start told.moves (told_point s) own began told.history r in
    let now = since told.start told.moves (told_point s) began told.history in
    let named = mine-removals s.told k s.tracked.state.outbox.copies r.places in
    let mine = subst (λ (ps : List PlainChange). AllByRecursion (IsMine k false) ps) (sym r.named) named in
    let leaves-none : Lead (rows-before (Some (durable_of s.tracked.state))) no_row own = λ key. sym (none-before key) ∙ made-lead (Some (durable_of s.tracked.state)) own [] e.none key in
    subst (λ (c : List ℕ). OwnLead c (rows_for s.tracked.state) no_row (first ++ own)) told.owner
    (after-before k false s.told.value (rows_for s.tracked.state) no_row first own (own-row s.tracked.state ∙ sym now.value) (before ∙ there k (main.bytes (main_of s.tracked.state)) s.told.value now.value) mine
    leaves-none (made-differ (Some (durable_of s.tracked.state)) own no_row e.exact.differ leaves-none))

-- ---- rows of all sessions
unnamed : (client : List ℕ) (key : Key) (cs : List Change) → AllByRecursion (IsOf client) cs → ((c : Change) → IsOf client c → key ≡ key_in c → ⊥) → left_by cs key ≡ None
unnamed client key [] h apart = refl
unnamed client key (c ∷ cs) h apart = ap (λ l. or_else l (left_by_one c key)) (unnamed client key cs h.1 apart) ∙ elim (cases_Bool (eq_by_cmp key_cmp key (key_in c))) [
  | inl t ↦ absurd (apart c h.0 (exact_keys key (key_in c) (equal_is (key_cmp key (key_in c)) t)))
  | inr f ↦ rw f refl
]

-- a client's changes lead from all rows to all rows, where each other client has what it had
within : (client : List ℕ) (old new : Seats) (a b : Rows) (own : List Change) → OwnLead client a b own → ((key : Key) → row_in (map.get old client) key ≡ a key) → ((key : Key) → row_in (map.get new client) key ≡ b key)
    → ((q : List ℕ) → eq_by_cmp text_cmp q client ≡ false → map.get new q ≡ map.get old q) → LeadWithin is_session_kind (seat_row old) (seat_row new) own
within client old new a b own lead was is others = record {
  own = λ key kind. by key (eq_by_cmp text_cmp key.1.0 client) refl;
  others = λ key not. unnamed client key own lead.own (λ c of e. false≢true (sym not ∙ ap (λ (k : Key). is_session_kind k.0) e ∙ of.kind));
}
  where
    by : (key : Key) (same : Bool) → eq_by_cmp text_cmp key.1.0 client ≡ same → seat_row new key ≡ left_or (left_by own key) (seat_row old key)
    by key true t =
        (let P : List ℕ → Type 0 = λ q. row_in (map.get new q) key ≡ left_or (left_by own key) (row_in (map.get old q) key) in
        subst P (sym (same_text key.1.0 client t)) (is key ∙ lead.lead key ∙ ap (left_or (left_by own key)) (sym (was key))))
    by key false f =
        (let apart : (c : Change) → IsOf client c → key ≡ key_in c → ⊥ = λ c of e. false≢true (sym f ∙ ap (λ (q : List ℕ). eq_by_cmp text_cmp q client) (ap (λ (k : Key). k.1.0) e ∙ of.owner) ∙ itself client) in
        ap (λ g. row_in g key) (others key.1.0 f) ∙ ap (λ l. left_or l (seat_row old key)) (sym (unnamed client key own lead.own apart)))

-- changes that begin with what a client had begin with what all had
unnamed-first : (client : List ℕ) (key : Key) (cs : List Change) → AllByRecursion (IsOf client) cs → ((c : Change) → IsOf client c → key ≡ key_in c → ⊥) → first_by cs key ≡ None
unnamed-first client key [] h apart = refl
unnamed-first client key (c ∷ cs) h apart = elim (cases_Bool (eq_by_cmp key_cmp key (key_in c))) [
  | inl t ↦ absurd (apart c h.0 (named-key key c t))
  | inr f ↦ rw f (unnamed-first client key cs h.1 apart)
]

begin-within : (client : List ℕ) (old : Seats) (a b : Rows) (own : List Change) → OwnLead client a b own → ((key : Key) → row_in (map.get old client) key ≡ a key) → Begin own_kind (seat_row old) own
begin-within client old a b own lead was key kind = by (eq_by_cmp text_cmp key.1.0 client) refl
  where
    by : (same : Bool) → eq_by_cmp text_cmp key.1.0 client ≡ same → IfSome (first_by own key) (λ left. left ≡ seat_row old key)
    by true t =
        (let P : List ℕ → Type 0 = λ q. IfSome (first_by own key) (λ left. left ≡ row_in (map.get old q) key) in
        subst P (sym (same_text key.1.0 client t)) (subst (λ (o : Option (List ℕ)). IfSome (first_by own key) (λ left. left ≡ o)) (sym (was key)) (lead.begins key kind)))
    by false f =
        (let apart : (c : Change) → IsOf client c → key ≡ key_in c → ⊥ = λ c of e. false≢true (sym f ∙ ap (λ (q : List ℕ). eq_by_cmp text_cmp q client) (ap (λ (k : Key). k.1.0) e ∙ of.owner) ∙ itself client) in
        rw (unnamed-first client key own lead.own apart) tt)

differ-within : (client : List ℕ) (old new : Seats) (a b : Rows) (own : List Change) → OwnLead client a b own → ((key : Key) → row_in (map.get old client) key ≡ a key) → ((key : Key) → row_in (map.get new client) key ≡ b key)
    → OthersDiffer own_kind (seat_row old) (seat_row new) own
differ-within client old new a b own lead was is key kind named = by (eq_by_cmp text_cmp key.1.0 client) refl
  where
    by : (same : Bool) → eq_by_cmp text_cmp key.1.0 client ≡ same → seat_row new key ≢ seat_row old key
    by true t =
        (let P : List ℕ → Type 0 = λ q. row_in (map.get new q) key ≢ row_in (map.get old q) key in
        subst P (sym (same_text key.1.0 client t)) (λ e. lead.differ key kind named (sym (is key) ∙ e ∙ was key)))
    by false f =
        (let apart : (c : Change) → IsOf client c → key ≡ key_in c → ⊥ = λ c of e. false≢true (sym f ∙ ap (λ (q : List ℕ). eq_by_cmp text_cmp q client) (ap (λ (k : Key). k.1.0) e ∙ of.owner) ∙ itself client) in
        absurd (named (unnamed client key own lead.own apart)))

within-on : (client : List ℕ) (old new : Seats) (a b : Rows) (before after : List Change) → OwnLeadsOn client a before after b → ((key : Key) → row_in (map.get old client) key ≡ a key) → ((key : Key) → row_in (map.get new client) key ≡ b key)
    → ((q : List ℕ) → eq_by_cmp text_cmp q client ≡ false → map.get new q ≡ map.get old q) → LeadsOn old before after new
within-on client old new a b before after l was is others = (l.0, l.1, within client old new a b l.0 l.2 was is others, begin-within client old a b l.0 l.2 was, differ-within client old new a b l.0 l.2 was is)

-- where nothing changes
pub still : (old new : Seats) (xs : List Change) → new ≡ old → LeadsOn old xs xs new
still old new xs same = ([], sym (append-nil xs), record { own = λ key kind. ap (λ s. seat_row s key) same; others = λ key not. refl }, λ key kind. tt, λ key kind named. absurd (named refl))

-- of two one after the other the second names no other row
differ-then : (a b c : Seats) (xs ys zs : List Change) (first : LeadsOn a xs ys b) (second : LeadsOn b ys zs c) → ((key : Key) → key.0 ≢ own_kind → left_by second.0 key ≡ None) → OthersDiffer own_kind (seat_row a) (seat_row c) (first.0 ++ second.0)
differ-then a b c xs ys zs first second quiet key kind named = elim (named_either first.0 second.0 key named) [
  | inr after ↦ absurd (after (quiet key kind))
  | inl before ↦ elim (cases_Bool (is_session_kind key.0)) [
    | inl own ↦
        let same : seat_row c key ≡ seat_row b key = second.2.own key own ∙ ap (λ o. left_or o (seat_row b key)) (quiet key kind) in
        λ e. first.4 key kind before (sym same ∙ e)
    | inr not ↦ absurd (before (first.2.others key not))
  ]
]

-- one after the other
leads-then : (a b c : Seats) (xs ys zs : List Change) (first : LeadsOn a xs ys b) (second : LeadsOn b ys zs c) → ((key : Key) → key.0 ≢ own_kind → left_by second.0 key ≡ None) → LeadsOn a xs zs c
leads-then a b c xs ys zs first second quiet = (
  first.0 ++ second.0,
  second.1 ∙ ap (λ l. l ++ second.0) first.1 ∙ append_assoc xs first.0 second.0,
  lead_on_within is_session_kind (seat_row a) (seat_row b) (seat_row c) first.0 second.0 first.2 second.2,
  begin_on own_kind (seat_row a) (seat_row b) first.0 second.0 (λ key kind. first.2.own key (ap is_session_kind kind)) first.3 second.3,
  differ-then a b c xs ys zs first second quiet,
)

row-state : (o : Option Saved) (s : State) → state_of o ≡ Some s → (key : Key) → saved_row o key ≡ rows_for s key
row-state None s e key = absurd (cc e)
row-state (Some x) s e key = (let same : x.tracked.state ≡ s = cc in ap (λ (z : State). rows_for z key) same)

row-seat : (client : List ℕ) (x : Seated) → IsAllTold client x.session → (key : Key) → row_in (Some (seat_of x)) key ≡ saved_row x.session key
row-seat client x told key = by x.session told
  where
    by : (o : Option Saved) → IsAllTold client o → rows_for (unwrap_or (state_of o) (new_session [])) key ≡ saved_row o key
    by None h = absurd h
    by (Some s) h = refl

row-here : (client : List ℕ) (t : Table) (x : Seated) → map.get t client ≡ Some x → IsAllTold client x.session → (key : Key) → row_in (map.get (seats_in t) client) key ≡ saved_row x.session key
row-here client t x is told key = ap (λ g. row_in g key) (get_seat t client ∙ ap (option_map seat_of) is) ∙ row-seat client x told key

-- ---- calls of the table
pub called-leads : (client : List ℕ) (t u : Table) (x y : Seated) (before after : List Change) → map.get t client ≡ Some x → u ≡ map.insert t client y → x.key.1 ≡ client → AllTold t
    → TellsAgain x.key.1 x.session before after y.session → LeadsOn (seats_in t) before after (seats_in u)
called-leads client t u x y before after is written name all again =
    let mine : TellsAgain client x.session before after y.session = subst (λ (c : List ℕ). TellsAgain c x.session before after y.session) name again in
    within-on client (seats_in t) (seats_in u) (saved_row x.session) (saved_row y.session) before after mine.leads (row-here client t x is (all client x is))
    (row-here client u y (ap (λ m. map.get m client) written ∙ get_inserted t client y) mine.told)
    (λ q apart. ap (λ m. map.get (seats_in m) q) written ∙ ap (λ m. map.get m q) (seats_insert t client y) ∙ get_apart (seats_in t) client (seat_of y) q apart)

-- ---- a client that is taken out
pub session-told : (client : List ℕ) (t : Table) (session : Option Saved) → Some session ≡ session_in (map.get t client) → AllTold t → IsAllTold client session
session-told client t session is all = by (map.get t client) refl is
  where
    by : (g : Option Seated) → map.get t client ≡ g → Some session ≡ session_in g → IsAllTold client session
    by None here e = absurd (cc e)
    by (Some x) here e = (let same : session ≡ x.session = cc in subst (λ (s : Option Saved). IsAllTold client s) (sym same) (all client x here))

pub no-session : (client : List ℕ) (t : Table) (session : Option Saved) → Some session ≡ session_in (map.get t client) → map.get (seats_in t) client ≡ None → ⊥
no-session client t session is none = by (map.get t client) is (sym (get_seat t client) ∙ none)
  where
    by : (g : Option Seated) → Some session ≡ session_in g → option_map seat_of g ≡ None → ⊥
    by None e n = cc e
    by (Some x) e n = cc n

pub none-leads : (client : List ℕ) (t u : Table) (xs : List Change) → None ≡ session_in (map.get t client) → u ≡ map.remove t client → LeadsOn (seats_in t) xs xs (seats_in u)
none-leads client t u xs is gone = still (seats_in t) (seats_in u) xs (ap seats_in (gone ∙ remove_absent t client (by (map.get t client) is)))
  where
    by : (g : Option Seated) → None ≡ session_in g → g ≡ None
    by None e = refl
    by (Some x) e = absurd (cc e)

pub gone-leads : (client : List ℕ) (t u : Table) (session : Option Saved) (before after : List Change) → Some session ≡ session_in (map.get t client) → u ≡ map.remove t client → AllTold t
    → OwnLeadsOn client (saved_row session) before after no_row → LeadsOn (seats_in t) before after (seats_in u)
gone-leads client t u session before after is gone all leads = by (map.get t client) refl is
  where
    none : (key : Key) → row_in (map.get (seats_in u) client) key ≡ no_row key
    none key = ap (λ m. row_in (map.get (seats_in m) client) key) gone ∙ ap (λ m. row_in (map.get m client) key) (seats_remove t client) ∙ ap (λ g. row_in g key) (get_removed (seats_in t) client)

    by : (g : Option Seated) → map.get t client ≡ g → Some session ≡ session_in g → LeadsOn (seats_in t) before after (seats_in u)
    by None here e = absurd (cc e)
    by (Some x) here e =
        (let same : session ≡ x.session = cc in
        let led : OwnLeadsOn client (saved_row x.session) before after no_row = subst (λ (s : Option Saved). OwnLeadsOn client (saved_row s) before after no_row) same leads in
        within-on client (seats_in t) (seats_in u) (saved_row x.session) no_row before after led (row-here client t x here (all client x here)) none
        (λ q apart. ap (λ m. map.get (seats_in m) q) gone ∙ ap (λ m. map.get m q) (seats_remove t client) ∙ get_left (seats_in t) client q apart))

-- a new session has a row of its own alone
one-row : (client : List ℕ) (key : Key) → key.0 ≢ own_kind → rows_for (new_session client) key ≡ None
one-row client key kind = map.get-from_entries keys_total (rows_of (durable_of (new_session client))) key ∙ elim (cases_Bool (eq_by_cmp key_cmp key (main_key client))) [
  | inl t ↦ absurd (kind (ap (λ (k : Key). k.0) (exact_keys key (main_key client) (equal_is (key_cmp key (main_key client)) t))))
  | inr f ↦ rw f refl
]

begun-names : (client : List ℕ) (session : Option Saved) (own : List Change) → OwnLead client no_row (saved_row session) own → state_of session ≡ Some (new_session client) → (key : Key) → key.0 ≢ own_kind → left_by own key ≡ None
begun-names client session own lead is key kind = by (left_by own key) refl
  where
    by : (left : Option (Option (List ℕ))) → left_by own key ≡ left → left_by own key ≡ None
    by None e = e
    by (Some l) e = absurd (lead.differ key kind (λ none. absurd (let z : Some l ≡ None = sym e ∙ none in cc)) (row-state session (new_session client) is key ∙ one-row client key kind))

-- a session is put in after the one before it is taken out
pub begun-leads : (client : List ℕ) (old mid new : Seats) (session : Option Saved) (a b c : List Change) → mid ≡ map.remove old client → LeadsOn old a b mid → OwnLeadsOn client no_row b c (saved_row session)
    → state_of session ≡ Some (new_session client) → new ≡ map.insert mid client (begun_seat client) → LeadsOn old a c new
unfolding within-on
begun-leads client old mid new session a b c gone first own is put =
    leads-then old mid new a b c first
    (within-on client mid new no_row (saved_row session) b c own (λ key. ap (λ m. row_in (map.get m client) key) gone ∙ ap (λ g. row_in g key) (get_removed old client))
    (λ key. ap (λ m. row_in (map.get m client) key) put ∙ ap (λ g. row_in g key) (get_inserted mid client (begun_seat client)) ∙ sym (row-state session (new_session client) is key))
    (λ q apart. ap (λ m. map.get m q) put ∙ get_apart mid client (begun_seat client) q apart))
    (begun-names client session own.0 own.2 is)

-- ---- one session's calls
module _ (call : CallTells) where
  pub turn-tells : (e : Event) (r : Reaction) (old mid new : Option Saved) (before after : List Change) (client : List ℕ) → IsSoundEvent e → IfSome (state_of old) (λ s. IsTurned e s (Ok r) (state_of mid)) → NotesIf old mid → TellsOn mid before after new
      → IsAllTold client old → TellsAgain client old before after new
  turn-tells e r None mid new before after client sound h n t told = absurd told
  turn-tells e r (Some s) None new before after client sound h n t told = absurd t
  turn-tells e r (Some s) (Some m) None before after client sound h n t told = absurd t
  turn-tells e r (Some s) (Some m) (Some x) before after client sound h n t told =
      let is : h.0 ≡ m.tracked.state = (let same : Some m.tracked.state ≡ Some h.0 = h.1 in cc) in
      let reacts : Reacts s.tracked.state e r m.tracked.state = subst (λ (z : State). Reacts s.tracked.state e r z) is h.2 in
      let done = call client e r s m t.0 t.1 x sound told reacts n t.3 t.4 in
      record { told = done.0; leads = (t.0 ++ t.1, t.2, done.1) }

-- a call that leaves them, of which nothing is told
own-still : (client : List ℕ) (s t : State) → durable_of t ≡ durable_of s → OwnLead client (rows_for s) (rows_for t) []
own-still client s t same = record {
  own = tt;
  lead = λ key. ap (λ (d : Durable). map.get {R = key_cmp} (map.from_entries (rows_of d)) key) same;
  begins = λ key kind. tt;
  differ = λ key other named. absurd (named refl);
}

told-still : (client : List ℕ) (e : Event) (r : Reaction) (old new : Saved) → IsSoundEvent e → IsTold client old → Reacts old.tracked.state e r new.tracked.state → Notes old new → durable_of new.tracked.state ≡ durable_of old.tracked.state
    → IsTold client new
told-still client e r old new sound told reacts notes same = record {
  start = told.start;
  moves = told.moves ++ calls e r ∷ [];
  begins = told.begins;
  sound = sound-then told.moves (calls e r) told.sound sound;
  history = history-then told.start told.moves (told_point old) (calls e r) (told_point new) told.history (record { reacts = reacts; notes = notes; last = ap (λ (d : Durable). Some d) same });
  owner = ap (λ (d : Durable). d.client) same ∙ told.owner;
}

pub turn-leaves : (e : Event) (r : Reaction) (old new : Option Saved) (xs : List Change) (client : List ℕ) → IsSoundEvent e → IfSome (state_of old) (λ s. IsTurned e s (Ok r) (state_of new)) → NotesIf old new
    → IfSome (state_of old) (λ s. leaves_rows e s r ≡ true) → IsAllTold client old → TellsAgain client old xs xs new
turn-leaves e r None new xs client sound h n leaves told = absurd told
turn-leaves e r (Some s) None xs client sound h n leaves told = absurd (let no : None ≡ Some h.0 = h.1 in cc)
turn-leaves e r (Some s) (Some m) xs client sound h n leaves told =
    let is : h.0 ≡ m.tracked.state = (let same : Some m.tracked.state ≡ Some h.0 = h.1 in cc) in
    let reacts : Reacts s.tracked.state e r m.tracked.state = subst (λ (z : State). Reacts s.tracked.state e r z) is h.2 in
    let same = event_still e s.tracked.state r m.tracked.state leaves reacts in
    record { told = told-still client e r s m sound told reacts n same; leads = ([], sym (append-nil xs), own-still client s.tracked.state m.tracked.state same) }

pub told-begun : BeginTells → (client : List ℕ) (before after : List Change) (old new : Option Saved) → IsText client → old ≡ Some (begun_session client) → TellsOn old before after new → IsAllTold client new × OwnLeadsOn client no_row before after (saved_row new)
told-begun begin client before after old new text is t = by new (subst (λ (o : Option Saved). TellsOn o before after new) is t)
  where
    by : (o : Option Saved) → TellsOn (Some (begun_session client)) before after o → IsAllTold client o × OwnLeadsOn client no_row before after (saved_row o)
    by None t = absurd t
    by (Some x) t = (let done = begin client t.0 t.1 x text t.3 t.4 in (done.0, (t.0 ++ t.1, t.2, done.1)))

pub tells-on : {A : Type 0} (old new : Option Saved) (own : Vec Change A) (before mid after : List Change) → TellsIf old (Ok own) new → IfSome old (λ s. Appends (told_before s) before mid) → after ≡ mid ++ own.items → TellsOn old before after new
tells-on None new own before mid after t a is = absurd t
tells-on (Some s) None own before mid after t a is = absurd (let none : None ≡ Some t.0 = t.1 in cc)
tells-on (Some s) (Some x) own before mid after t a is =
    let both : Some x ≡ Some t.0 = t.1 in
    let same : x ≡ t.0 = cc in
    (a.0, own.items, is ∙ ap (λ l. l ++ own.items) a.1 ∙ append_assoc before a.0 own.items, a.2, subst (λ (y : Saved). Tells s own.items y) (sym same) t.2)

pub left-on : {A : Type 0} → RemovalLeaves → (client : List ℕ) (old : Option Saved) (own : Vec Change A) (before mid after : List Change) → RemovesIf old (Ok own) → IfSome old (λ s. Appends (removed_before s) before mid) → IsAllTold client old → after ≡ mid ++ own.items
    → OwnLeadsOn client (saved_row old) before after no_row
left-on leave client None own before mid after r a told is = absurd told
left-on leave client (Some s) own before mid after r a told is = (a.0 ++ own.items, is ∙ ap (λ l. l ++ own.items) a.1 ∙ append_assoc before a.0 own.items, leave client s a.0 own.items told a.2 r)

-- ---- a session that was opened from its rows
copies-again : (es : Entries) → AllByRecursion (λ (e : ℕ × Entry). (e.0 < 2 ^ 64) × (e.1.here ≡ false) × copy.Fits (copy_of e.1)) es → away es ≡ es
copies-again [] h = refl
copies-again (e ∷ es) h = λ i. (e.0, record e.1 { here = sym h.0.1 i }) ∷ copies-again es h.1 i

-- its rows are those
pub durable-again : (d : Durable) → IsDurable d → durable_of (state_in d) ≡ d
durable-again d is = λ i. record {
  client = d.client;
  main = main-back d i;
  copies = copies-again d.copies is.form.copies i;
}

-- and they were told
pub opened-told : (d : Durable) → IsDurable d → IsAllTold d.client (Some (reopened d))
opened-told d is = record { start = opened_point d; moves = []; begins = inr (d, is, refl); sound = tt; history = λ i. record { session = reopened d; last = Some (durable-again d is i) }; owner = refl }

-- ---- rows that open each session again
abbrev IsDurableOf : List ℕ → State → Type 0
IsDurableOf client s = IsDurable (durable_of s) × ((durable_of s).client ≡ client)

durable-told : StaysDurable → (client : List ℕ) (o : Option Saved) → IsAllTold client o → IsDurableOf client (unwrap_or (state_of o) (new_session []))
durable-told stays client None told = absurd told
durable-told stays client (Some s) told = ((stays told.start told.moves (told_point s) told.begins told.sound told.history).now, told.owner)

pub all-durable : StaysDurable → (t : Table) (seats : Seats) → seats_in t ≡ seats → AllTold t → AllDurable seats
all-durable stays t seats is all client seat here = by (map.get t client) refl (sym (get_seat t client) ∙ ap (λ m. map.get m client) is ∙ here)
  where
    by : (g : Option Seated) → map.get t client ≡ g → option_map seat_of g ≡ Some seat → IsDurableOf client seat.session
    by None found e = absurd (cc e)
    by (Some x) found e =
        (let same : seat_of x ≡ seat = cc in
        subst (λ (y : Seat). IsDurableOf client y.session) same (durable-told stays client x.session (all client x found)))
