-- Changes of rows, one part of a node's work after the other.
use Rattle.std.proofs.Common.{◌≡◌, ◌≢◌, ℕ, Bool, true, false, cond, ◌||◌, List, [], ◌∷◌, ◌++◌, Option, Some, None, unwrap_or, refl, sym, ap, subst, ◌∙◌, inl, inr, append_assoc, eqb→eq}
use Rattle.std.specs.Prelude.{◌==◌, ◌⊎◌, T, IfSome, option_map}
use Rattle.std.proofs.lemmas.Bool.{cases_Bool, false≢true}
use Rattle.std.proofs.lemmas.List.{append-nil}
use Rattle.std.specs.Cmp.{tied_itself}
use Rattle.std.specs.FinMap as map
use Rattle.std.specs.List.{AllByRecursion}
use Rattle.std.specs.Ordering.{eq_by_cmp, is_eq}
use Rattle.mqtt_sessions.specs.Saved.{durable_of}
use Rattle.replica_store.specs.States.{State}
use Rattle.row_store.specs.Leading.{AllDiffer, IsNamed, Rows, Lead, LeadWithin, Begin, OthersDiffer, first_by, left_by, left_by_one, left_or, or_else, key_in, value_in}
use Rattle.row_store.proofs.Leaving.{begin_on, lead_on, named_either}
use Rattle.row_store.specs.declared.row.Row.{Row}
use Rattle.row_store.specs.declared.row.Change.{Change}
use Rattle.row_store.specs.declared.row.Change.TheVariants.{Put, Remove}
use Rattle.row_store.specs.Rows.{Key, key_cmp, key_of}
use Rattle.row_store.proofs.Keys.{exact_keys, equal_is, keys_total}
use Rattle.session_table.specs.Rows.{LeadsOn, is_session_kind, own_kind, row_in, seat_row}
use Rattle.session_table.specs.Seats.{Seat, Seats}
use Rattle.replica_rows.specs.Changes.{AreChanges, IsNeeded, IsRight, names}
use Rattle.replica_rows.specs.Rows.{row_at}
use Rattle.bridge_lanes.specs.Changes.{is_lane_kind}
use Rattle.bridge_lanes.specs.Rows as lane_rows
use Rattle.node_bridge.specs.View.{LanesTell}
use Rattle.node_rows.specs.Rows.{Lasting, mark, mark_at, mark_key, node_row, session_row}
use Rattle.node_work.specs.Acts.{Act, Runs, next}
use Rattle.node_work.specs.Lasting.{Alter, NamesAltered, StillBegin, StoreTells, TellsItsRows, held_row, is_store_kind, lasting, work_row}
use Rattle.node_work.specs.View.{Place, HeldView, WorkView}

-- changes are appended that lead from the rows before to those after, and begin at sessions' own rows with what was there; each other
-- row that they name differs
abbrev pub TellsFrom : Rows → List Change → List Change → Rows → Type 0
TellsFrom old before after new = (own : List Change) × (after ≡ before ++ own) × Lead old new own × Begin own_kind old own × OthersDiffer own_kind old new own

abbrev pub Tell : WorkView → WorkView → Type 0
Tell w w' = TellsFrom (work_row w) w.changes w'.changes (work_row w')

pub tells_of : (w w' : WorkView) → Tell w w' → TellsItsRows w w'
tells_of w w' t = (t.0, t.1, t.2)

pub still_begin : (w w' : WorkView) → Tell w w' → StillBegin w w'
still_begin w w' t old lead begins = subst (λ (cs : List Change). Begin own_kind old cs) (sym t.1) (begin_on own_kind old (work_row w) w.changes t.0 (λ key own. lead key) begins t.3)

-- nothing is told where nothing that lasts has changed
pub told_none : (w w' : WorkView) → w'.changes ≡ w.changes → work_row w' ≡ work_row w → Tell w w'
told_none w w' same rows = ([], same ∙ sym (append-nil w.changes), (λ key. (λ i. rows i key)), (λ key own. tt), (λ key kind named. absurd (named refl)))

pub tells_none : (w w' : WorkView) → w'.changes ≡ w.changes → work_row w' ≡ work_row w → TellsItsRows w w'
tells_none w w' same rows = tells_of w w' (told_none w w' same rows)

pub begins_same : (w w' : WorkView) → w'.changes ≡ w.changes → StillBegin w w'
begins_same w w' same old lead begins = subst (λ (cs : List Change). Begin own_kind old cs) (sym same) begins

pub tells_then : (a b c : WorkView) → TellsItsRows a b → TellsItsRows b c → TellsItsRows a c
tells_then a b c first second = (
  first.0 ++ second.0,
  second.1 ∙ ap (λ l. l ++ second.0) first.1 ∙ append_assoc a.changes first.0 second.0,
  lead_on (work_row a) (work_row b) (work_row c) first.0 second.0 first.2 second.2,
)

pub begins_then : (a b c : WorkView) → TellsItsRows a b → StillBegin a b → StillBegin b c → StillBegin a c
begins_then a b c t first second old lead begins =
    second old (subst (λ (cs : List Change). Lead old (work_row b) cs) (sym t.1) (lead_on old (work_row a) (work_row b) a.changes t.0 lead t.2)) (first old lead begins)

-- ---- rows that are named
pub no_names : (w w' : WorkView) (acts : List Act) → w'.changes ≡ w.changes → NamesAltered w w' acts
no_names w w' acts same key kind still named = subst (λ (cs : List Change). IsNamed cs key) same named

pub names_told : (w w' : WorkView) (acts : List Act) → Tell w w' → ((key : Key) → work_row w' key ≢ work_row w key → Alter w.place.id w.held acts key) → NamesAltered w w' acts
names_told w w' acts t alters key kind still named = elim (named_either w.changes t.0 key (subst (λ (cs : List Change). IsNamed cs key) t.1 named)) [
  | inl before ↦ before
  | inr own ↦ absurd (still (alters key (t.4 key kind own)))
]

-- the acts leave the rows as they were
pub names_quiet : (w w' : WorkView) (acts : List Act) → Tell w w' → w'.place ≡ w.place → w'.held ≡ w.held → NamesAltered w w' acts
names_quiet w w' acts t place held = names_told w w' acts t (λ key other. absurd (other (λ i. held_row (place i).id (held i) key)))

-- one act
pub names_one : (w w' : WorkView) (a : Act) → Tell w w' → w'.place ≡ w.place → w'.held ≡ next w.held a → NamesAltered w w' (a ∷ [])
names_one w w' a t place held = names_told w w' (a ∷ []) t (λ key other. inl (λ same. other ((λ i. held_row (place i).id (held i) key) ∙ same)))

alter_front : (id : ℕ) (xs ys : List Act) (h : HeldView) (key : Key) → Alter id h xs key → Alter id h (xs ++ ys) key
alter_front id [] ys h key a = absurd a
alter_front id (x ∷ xs) ys h key (inl here) = inl here
alter_front id (x ∷ xs) ys h key (inr more) = inr (alter_front id xs ys (next h x) key more)

alter_back : (p : Place) (id : ℕ) (xs ys : List Act) (h mid : HeldView) (key : Key) → Runs p h xs mid → Alter id mid ys key → Alter id h (xs ++ ys) key
alter_back p id [] ys h mid key r a = subst (λ (v : HeldView). Alter id v ys key) r a
alter_back p id (x ∷ xs) ys h mid key r a = inr (alter_back p id xs ys (next h x) mid key (subst (λ (v : HeldView). Runs p v xs mid) r.1.1 r.2) a)

pub names_then : (w m w' : WorkView) (xs ys : List Act) → m.place ≡ w.place → Runs w.place w.held xs m.held → NamesAltered w m xs → NamesAltered m w' ys → NamesAltered w w' (xs ++ ys)
names_then w m w' xs ys place runs first second key kind still named =
    first key kind (λ a. still (alter_front w.place.id xs ys w.held key a))
    (second key kind (λ a. still (alter_back w.place w.place.id xs ys w.held m.held key runs (subst (λ (p : Place). Alter p.id m.held ys key) place a))) named)

-- ---- changes that name no session's own row begin with what was there
or-none : (a b : Option (Option (List ℕ))) → or_else a b ≡ None → (a ≡ None) × (b ≡ None)
or-none None b e = (refl, e)
or-none (Some x) b e = absurd (let z : Some x ≡ None = e in cc)

first-none : (cs : List Change) (key : Key) → left_by cs key ≡ None → first_by cs key ≡ None
first-none [] key e = refl
first-none (c ∷ cs) key e = let p = or-none (left_by cs key) (left_by_one c key) e in ap (λ l. or_else l (first_by cs key)) p.1 ∙ first-none cs key p.0

begins-none : (cs : List Change) → ((key : Key) → key.0 ≡ own_kind → left_by cs key ≡ None) → (old : Rows) → Begin own_kind old cs
begins-none cs none old key own = subst (λ (f : Option (Option (List ℕ))). IfSome f (λ left. left ≡ old key)) (sym (first-none cs key (none key own))) tt

-- ---- rows of one part

-- of a session, as the table of sessions tells them
session-row : (g : Option Seat) (key : Key) → session_row (option_map (λ (s : Seat). durable_of s.session) g) key ≡ row_in g key
session-row None key = refl
session-row (Some s) key = refl

is-one : (n : ℕ) → n == 1 ≡ true → n ≡ 1
is-one n e = eqb→eq n 1 (subst T (sym e) tt)

-- what is so of both kinds of rows of sessions
by_session : (f : ℕ → Bool) (n : ℕ) (b : Bool) → f 2 ≡ b → f 3 ≡ b → is_session_kind n ≡ true → f n ≡ b
by_session f n b two three e = elim (cases_Bool (n == 2)) [
  | inl is ↦ ap f (eqb→eq n 2 (subst T (sym is) tt)) ∙ two
  | inr not ↦ ap f (eqb→eq n 3 (subst T (sym ((λ i. sym not i || (n == 3)) ∙ e)) tt)) ∙ three
]

-- a row by its kind
abbrev pub row-by : (one session lane : Bool) → Option (List ℕ) → Option (List ℕ) → Option (List ℕ) → Option (List ℕ) → Option (List ℕ)
row-by one session lane m s l r = cond one m (cond session s (cond lane l r))

unsaid : (changes : Option (Option (List ℕ))) (o : Option (List ℕ)) → changes ≡ None → o ≡ left_or changes o
unsaid changes o none = ap (λ c. left_or c o) (sym none)

-- the parts of a row of a node
module _ (id : ℕ) (h : HeldView) (key : Key) where
  abbrev mark-part : Option (List ℕ)
  mark-part = mark_at (mark id h.named) key.1.0 key.1.1

  abbrev session-part : Option (List ℕ)
  session-part = session_row ((lasting h).sessions key.1.0) key

  abbrev lane-part : Option (List ℕ)
  lane-part = lane_rows.row_at h.bridge.lanes key

  abbrev row-of : (one session lane : Bool) → Option (List ℕ)
  row-of one session lane = row-by one session lane mark-part session-part lane-part (row_at h.store key)

module _ (id : ℕ) (h h' : HeldView) (own : List Change) where
  -- what changes leave of a row, by its kind
  abbrev LeadAt : Key → (one session lane : Bool) → Type 0
  LeadAt key one session lane = row-of id h' key one session lane ≡ left_or (left_by own key) (row-of id h key one session lane)

  sessions-lead : h'.named ≡ h.named → h'.store ≡ h.store → h'.bridge.lanes ≡ h.bridge.lanes → LeadWithin is_session_kind (seat_row h.sessions) (seat_row h'.sessions) own → Lead (held_row id h) (held_row id h') own
  sessions-lead named store lanes lead key = by (key.0 == 1) (is_session_kind key.0) (is_lane_kind key.0) refl refl
    where
      by : (one session lane : Bool) → (key.0 == 1) ≡ one → is_session_kind key.0 ≡ session → LeadAt key one session lane
      by true session lane o s =
          ap (λ n. mark_at (mark id n) key.1.0 key.1.1) named ∙ unsaid (left_by own key) _ (lead.others key (ap is_session_kind (is-one key.0 o)))
      by false true lane o s = session-row (map.get h'.sessions key.1.0) key ∙ lead.own key s ∙ ap (left_or (left_by own key)) (sym (session-row (map.get h.sessions key.1.0) key))
      by false false true o s = ap (λ t. lane_rows.row_at t key) lanes ∙ unsaid (left_by own key) _ (lead.others key s)
      by false false false o s = ap (λ t. row_at t key) store ∙ unsaid (left_by own key) _ (lead.others key s)

  lanes-lead : h'.named ≡ h.named → h'.sessions ≡ h.sessions → h'.store ≡ h.store → LeadWithin is_lane_kind (lane_rows.row_at h.bridge.lanes) (lane_rows.row_at h'.bridge.lanes) own → Lead (held_row id h) (held_row id h') own
  lanes-lead named sessions store lead key = by (key.0 == 1) (is_session_kind key.0) (is_lane_kind key.0) refl refl refl
    where
      by : (one session lane : Bool) → (key.0 == 1) ≡ one → is_session_kind key.0 ≡ session → is_lane_kind key.0 ≡ lane → LeadAt key one session lane
      by true session lane o s l =
          ap (λ n. mark_at (mark id n) key.1.0 key.1.1) named ∙ unsaid (left_by own key) _ (lead.others key (ap is_lane_kind (is-one key.0 o)))
      by false true lane o s l =
          ap (λ t. session_row (option_map (λ (x : Seat). durable_of x.session) (map.get t key.1.0)) key) sessions ∙ unsaid (left_by own key) _ (lead.others key (by_session is_lane_kind key.0 false refl refl s))
      by false false true o s l = lead.own key l
      by false false false o s l = ap (λ t. row_at t key) store ∙ unsaid (left_by own key) _ (lead.others key l)

-- what is so of both kinds of rows of lanes, and of the three of the replicated state
by_lane : (f : ℕ → Bool) (n : ℕ) (b : Bool) → f 7 ≡ b → f 8 ≡ b → is_lane_kind n ≡ true → f n ≡ b
by_lane f n b seven eight e = elim (cases_Bool (n == 7)) [
  | inl is ↦ ap f (eqb→eq n 7 (subst T (sym is) tt)) ∙ seven
  | inr not ↦ ap f (eqb→eq n 8 (subst T (sym ((λ i. sym not i || (n == 8)) ∙ e)) tt)) ∙ eight
]

by_store : (f : ℕ → Bool) (n : ℕ) (b : Bool) → f 4 ≡ b → f 5 ≡ b → f 6 ≡ b → is_store_kind n ≡ true → f n ≡ b
by_store f n b four five six e = elim (cases_Bool (n == 4)) [
  | inl is ↦ ap f (eqb→eq n 4 (subst T (sym is) tt)) ∙ four
  | inr not ↦ elim (cases_Bool (n == 5)) [
    | inl is ↦ ap f (eqb→eq n 5 (subst T (sym is) tt)) ∙ five
    | inr other ↦ ap f (eqb→eq n 6 (subst T (sym ((λ i. sym not i || sym other i || (n == 6)) ∙ e)) tt)) ∙ six
  ]
]

-- a row of a node is that of its part
session-at : (id : ℕ) (h : HeldView) (key : Key) → is_session_kind key.0 ≡ true → held_row id h key ≡ seat_row h.sessions key
session-at id h key s = (λ i. row-of id h key (by_session (λ n. n == 1) key.0 false refl refl s i) (s i) (is_lane_kind key.0)) ∙ session-row (map.get h.sessions key.1.0) key

lane-at : (id : ℕ) (h : HeldView) (key : Key) → is_lane_kind key.0 ≡ true → held_row id h key ≡ lane_rows.row_at h.bridge.lanes key
lane-at id h key l = λ i. row-of id h key (by_lane (λ n. n == 1) key.0 false refl refl l i) (by_lane is_session_kind key.0 false refl refl l i) (l i)

store-at : (id : ℕ) (h : HeldView) (key : Key) → is_store_kind key.0 ≡ true → held_row id h key ≡ row_at h.store key
store-at id h key s = λ i. row-of id h key (by_store (λ n. n == 1) key.0 false refl refl refl s i) (by_store is_session_kind key.0 false refl refl refl s i) (by_store is_lane_kind key.0 false refl refl refl s i)

-- a row that is named is of a kind of its part
named-kind : (mine : ℕ → Bool) (old new : Rows) (own : List Change) (key : Key) → LeadWithin mine old new own → IsNamed own key → mine key.0 ≡ true
named-kind mine old new own key lead named = elim (cases_Bool (mine key.0)) [
  | inl is ↦ is
  | inr not ↦ absurd (named (lead.others key not))
]

-- a session's own row of a node is that of its table of sessions
own-row : (id : ℕ) (h : HeldView) (key : Key) → key.0 ≡ own_kind → held_row id h key ≡ seat_row h.sessions key
own-row id h key own = ap (λ n. row-of id h key (n == 1) (is_session_kind n) (is_lane_kind n)) own ∙ session-row (map.get h.sessions key.1.0) key

pub sessions_tell : (id : ℕ) (h h' : HeldView) (s : Seats) (before after : List Change) → h' ≡ record h { sessions = s } → LeadsOn h.sessions before after h'.sessions → TellsFrom (held_row id h) before after (held_row id h')
sessions_tell id h h' s before after is l = (l.0, l.1, sessions-lead id h h' l.0 (ap (λ (v : HeldView). v.named) is) (ap (λ (v : HeldView). v.store) is) (ap (λ (v : HeldView). v.bridge.lanes) is) l.2, begins, differ)
  where
    differ : OthersDiffer own_kind (held_row id h) (held_row id h') l.0
    differ key kind named same =
        (let session = named-kind is_session_kind (seat_row h.sessions) (seat_row h'.sessions) l.0 key l.2 named in
        l.4 key kind named (sym (session-at id h' key session) ∙ same ∙ session-at id h key session))

    begins : Begin own_kind (held_row id h) l.0
    begins key own = subst (λ (o : Option (List ℕ)). IfSome (first_by l.0 key) (λ left. left ≡ o)) (sym (own-row id h key own)) (l.3 key own)

-- lanes change, and what else is kept for other nodes
pub lanes_tell : (id : ℕ) (h h' : HeldView) (before after : List Change) → h'.named ≡ h.named → h'.sessions ≡ h.sessions → h'.store ≡ h.store → LanesTell h.bridge.lanes before after h'.bridge.lanes → TellsFrom (held_row id h) before after (held_row id h')
lanes_tell id h h' before after named sessions store l = (l.0, l.1, lanes-lead id h h' l.0 named sessions store l.2, begins-none l.0 (λ key own. l.2.others key (ap is_lane_kind own)) (held_row id h), differ)
  where
    differ : OthersDiffer own_kind (held_row id h) (held_row id h') l.0
    differ key kind named same =
        (let lane = named-kind is_lane_kind (lane_rows.row_at h.bridge.lanes) (lane_rows.row_at h'.bridge.lanes) l.0 key l.2 named in
        l.3 key named (sym (lane-at id h' key lane) ∙ same ∙ lane-at id h key lane))

-- ---- the mark
itself : (key : Key) → eq_by_cmp key_cmp key key ≡ true
itself key = ap is_eq (tied_itself keys_total key)

-- beside the mark's key nothing depends on it
unmarked : (old new : List ℕ) (n : ℕ) (owner place : List ℕ) → n ≡ 1 → eq_by_cmp key_cmp (n, (owner, place)) mark_key ≡ false → mark_at new owner place ≡ mark_at old owner place
unmarked old new n [] [] e off = absurd (false≢true (sym off ∙ ap (λ m. eq_by_cmp key_cmp (m, ([], [])) mark_key) e ∙ itself mark_key))
unmarked old new n [] (b ∷ place) e off = refl
unmarked old new n (b ∷ owner) place e off = refl

pub name_tells : (id : ℕ) (h h' : HeldView) (row : Row) (before after : List Change) → key_of row ≡ mark_key → row.value.items ≡ mark id h'.named → after ≡ before ++ Put row ∷ [] → h'.sessions ≡ h.sessions → h'.store ≡ h.store → h'.bridge.lanes ≡ h.bridge.lanes
    → mark id h'.named ≢ mark id h.named → TellsFrom (held_row id h) before after (held_row id h')
name_tells id h h' row before after named value is sessions store lanes other = (Put row ∷ [], is, lead, begins-none (Put row ∷ []) apart (held_row id h), differ)
  where
    left : (key : Key) (b : Bool) → eq_by_cmp key_cmp key mark_key ≡ b → left_by (Put row ∷ []) key ≡ cond b (Some (Some (mark id h'.named))) None
    left key b e = ap (λ k. cond (eq_by_cmp key_cmp key k) (Some (Some row.value.items)) None) named ∙ (λ i. cond (e i) (Some (Some (value i))) None)

    differ : OthersDiffer own_kind (held_row id h) (held_row id h') (Put row ∷ [])
    differ key kind some same = elim (cases_Bool (eq_by_cmp key_cmp key mark_key)) [
      | inl e ↦
          let at : key ≡ mark_key = exact_keys key mark_key (equal_is (key_cmp key mark_key) e) in
          let marks : Some (mark id h'.named) ≡ Some (mark id h.named) = sym (ap (held_row id h') at) ∙ same ∙ ap (held_row id h) at in
          other (ap (λ (o : Option (List ℕ)). unwrap_or o []) marks)
      | inr e ↦ some (left key false e)
    ]

    rest : (key : Key) (one session lane : Bool) → (key.0 == 1) ≡ one → eq_by_cmp key_cmp key mark_key ≡ false → row-of id h' key one session lane ≡ row-of id h key one session lane
    rest key true session lane o off = unmarked (mark id h.named) (mark id h'.named) key.0 key.1.0 key.1.1 (is-one key.0 o) off
    rest key false true lane o off = ap (λ t. session_row (option_map (λ (x : Seat). durable_of x.session) (map.get t key.1.0)) key) sessions
    rest key false false true o off = ap (λ t. lane_rows.row_at t key) lanes
    rest key false false false o off = ap (λ t. row_at t key) store

    lead : Lead (held_row id h) (held_row id h') (Put row ∷ [])
    lead key = elim (cases_Bool (eq_by_cmp key_cmp key mark_key)) [
      | inl e ↦ ap (held_row id h') (exact_keys key mark_key (equal_is (key_cmp key mark_key) e)) ∙ ap (λ l. left_or l (held_row id h key)) (sym (left key true e))
      | inr e ↦ rest key (key.0 == 1) (is_session_kind key.0) (is_lane_kind key.0) refl e ∙ ap (λ l. left_or l (held_row id h key)) (sym (left key false e))
    ]

    apart : (key : Key) → key.0 ≡ own_kind → left_by (Put row ∷ []) key ≡ None
    apart key own = elim (cases_Bool (eq_by_cmp key_cmp key mark_key)) [
      | inl e ↦ absurd (let z : own_kind ≡ 1 = sym own ∙ ap (λ (k : Key). k.0) (exact_keys key mark_key (equal_is (key_cmp key mark_key) e)) in cc)
      | inr e ↦ left key false e
    ]

-- ---- the replicated state
-- a right change leaves what the state has there
right-left : (t : State) (c : Change) → IsRight t c → Some (value_in c) ≡ Some (row_at t (key_in c))
right-left t (Put row) r = ap (λ v. Some v) (sym r)
right-left t (Remove kind owner place) r = ap (λ v. Some v) (sym r)

here-left : (t : State) (c : Change) (key : Key) → IsRight t c → eq_by_cmp key_cmp key (key_in c) ≡ true → left_by_one c key ≡ Some (row_at t key)
here-left t c key r e =
    let same : key ≡ key_in c = exact_keys key (key_in c) (equal_is (key_cmp key (key_in c)) e) in
    ap (λ b. cond b (Some (value_in c)) None) e ∙ right-left t c r ∙ ap (λ k. Some (row_at t k)) (sym same)

away-left : (c : Change) (key : Key) → eq_by_cmp key_cmp key (key_in c) ≡ false → left_by_one c key ≡ None
away-left c key e = ap (λ b. cond b (Some (value_in c)) None) e

-- what right changes leave is what the state has
abbrev pub Leaves : State → Option (Option (List ℕ)) → Key → Type 0
Leaves t l key = (l ≡ None) ⊎ (l ≡ Some (row_at t key))

else-leaves : (t : State) (key : Key) (last first : Option (Option (List ℕ))) → Leaves t last key → Leaves t first key → Leaves t (or_else last first) key
else-leaves t key last first (inl none) f = subst (λ l. Leaves t (or_else l first) key) (sym none) f
else-leaves t key last first (inr some) f = inr (ap (λ l. or_else l first) some)

all-leave : (s t : State) (cs : List Change) (key : Key) → AllByRecursion (IsNeeded s t) cs → Leaves t (left_by cs key) key
all-leave s t [] key h = inl refl
all-leave s t (c ∷ cs) key h = else-leaves t key (left_by cs key) (left_by_one c key) (all-leave s t cs key h.1) (elim (cases_Bool (eq_by_cmp key_cmp key (key_in c))) [
  | inl e ↦ inr (here-left t c key h.0.right e)
  | inr e ↦ inl (away-left c key e)
])

-- a change that names the key leaves something there
else-some : (last first : Option (Option (List ℕ))) → (last ≡ None → first ≢ None) → or_else last first ≢ None
else-some None first f e = f refl e
else-some (Some l) first f e = cc

named-left : (s t : State) (cs : List Change) (key : Key) → AllByRecursion (IsNeeded s t) cs → names key cs ≡ true → left_by cs key ≢ None
named-left s t [] key h e = λ n. absurd (let z : false ≡ true = e in cc)
named-left s t (c ∷ cs) key h e = by (eq_by_cmp key_cmp key (key_in c)) (λ more. named-left s t cs key h.1 more) refl e
  where
    by : (b : Bool) → (names key cs ≡ true → left_by cs key ≢ None) → eq_by_cmp key_cmp key (key_in c) ≡ b → (b || names key cs) ≡ true → left_by (c ∷ cs) key ≢ None
    by true rest is more =
        else-some (left_by cs key) (left_by_one c key) (λ _ n. (let z : None ≡ Some (row_at t key) = sym n ∙ here-left t c key h.0.right is in cc))
    by false rest is more = else-some (left_by cs key) (left_by_one c key) (λ none. absurd (rest more none))

-- outside the state's kinds there is no row
no-row : (s : State) (key : Key) → is_store_kind key.0 ≡ false → row_at s key ≡ None
no-row s key e = by (key.0 == 4) (key.0 == 5) (key.0 == 6) refl refl refl
  where
    by : (a b c : Bool) → (key.0 == 4) ≡ a → (key.0 == 5) ≡ b → (key.0 == 6) ≡ c → row_at s key ≡ None
    by true b c x y z = absurd (false≢true (sym e ∙ (λ i. x i || (key.0 == 5) || (key.0 == 6))))
    by false true c x y z = absurd (false≢true (sym e ∙ (λ i. x i || y i || (key.0 == 6))))
    by false false true x y z = absurd (false≢true (sym e ∙ (λ i. x i || y i || z i)))
    by false false false x y z = rw x (rw y (rw z refl))

none-outside : (s t : State) (cs : List Change) (key : Key) → AllByRecursion (IsNeeded s t) cs → is_store_kind key.0 ≡ false → left_by cs key ≡ None
none-outside s t [] key h e = refl
none-outside s t (c ∷ cs) key h e =
    ap (λ l. or_else l (left_by_one c key)) (none-outside s t cs key h.1 e) ∙ elim (cases_Bool (eq_by_cmp key_cmp key (key_in c))) [
      | inl same ↦ (let k : key ≡ key_in c = exact_keys key (key_in c) (equal_is (key_cmp key (key_in c)) same) in
          absurd (h.0.differs (subst (λ (q : Key). row_at s q ≡ row_at t q) k (no-row s key e ∙ sym (no-row t key e)))))
      | inr other ↦ away-left c key other
    ]

pub changes_within : (s t : State) (cs : List Change) → AreChanges s t cs → LeadWithin is_store_kind (row_at s) (row_at t) cs
changes_within s t cs a = record {
  own = λ key kind. by key (left_by cs key) (all-leave s t cs key a.needed) (a.complete key);
  others = λ key kind. none-outside s t cs key a.needed kind;
}
  where
    by : (key : Key) (l : Option (Option (List ℕ))) → Leaves t (left_by cs key) key → (row_at s key ≡ row_at t key) ⊎ (names key cs ≡ true) → row_at t key ≡ left_or (left_by cs key) (row_at s key)
    by key l (inr some) c = ap (λ z. left_or z (row_at s key)) (sym some)
    by key l (inl none) (inl same) = sym same ∙ ap (λ z. left_or z (row_at s key)) (sym none)
    by key l (inl none) (inr named) = absurd (named-left s t cs key a.needed named none)

lane-apart : (n : ℕ) → is_lane_kind n ≡ true → is_store_kind n ≡ false
lane-apart n e = by_lane is_store_kind n false refl refl e

-- where the states have one row, none is named
unnamed-where : (s t : State) (cs : List Change) (key : Key) → AllByRecursion (IsNeeded s t) cs → row_at t key ≡ row_at s key → left_by cs key ≡ None
unnamed-where s t [] key h same = refl
unnamed-where s t (c ∷ cs) key h same =
    ap (λ l. or_else l (left_by_one c key)) (unnamed-where s t cs key h.1 same) ∙ elim (cases_Bool (eq_by_cmp key_cmp key (key_in c))) [
      | inl is ↦ (let k : key ≡ key_in c = exact_keys key (key_in c) (equal_is (key_cmp key (key_in c)) is) in
          absurd (h.0.differs (subst (λ (q : Key). row_at s q ≡ row_at t q) k (sym same))))
      | inr other ↦ away-left c key other
    ]

pub changes_differ : (s t : State) (cs : List Change) → AreChanges s t cs → AllDiffer (row_at s) (row_at t) cs
changes_differ s t cs a key named same = named (unnamed-where s t cs key a.needed same)

pub store_tells : (id : ℕ) (h h' : HeldView) (before after : List Change) → h'.named ≡ h.named → h'.sessions ≡ h.sessions → h'.bridge.lanes ≡ h.bridge.lanes → StoreTells h.store before after h'.store → TellsFrom (held_row id h) before after (held_row id h')
store_tells id h h' before after named sessions lanes told = (told.0, told.1, lead, begins-none told.0 (λ key kind. told.2.others key (ap is_store_kind kind)) (held_row id h), differ)
  where
    differ : OthersDiffer own_kind (held_row id h) (held_row id h') told.0
    differ key kind named same =
        (let state = named-kind is_store_kind (row_at h.store) (row_at h'.store) told.0 key told.2 named in
        told.3 key named (sym (store-at id h' key state) ∙ same ∙ store-at id h key state))

    own : List Change
    own = told.0

    lead : Lead (held_row id h) (held_row id h') own
    lead key = by (key.0 == 1) (is_session_kind key.0) (is_lane_kind key.0) refl refl refl
      where
        by : (one session lane : Bool) → (key.0 == 1) ≡ one → is_session_kind key.0 ≡ session → is_lane_kind key.0 ≡ lane → LeadAt id h h' own key one session lane
        by true session lane o s l = ap (λ n. mark_at (mark id n) key.1.0 key.1.1) named ∙ unsaid (left_by own key) _ (told.2.others key (ap is_store_kind (is-one key.0 o)))
        by false true lane o s l =
            ap (λ t. session_row (option_map (λ (x : Seat). durable_of x.session) (map.get t key.1.0)) key) sessions ∙ unsaid (left_by own key) _ (told.2.others key (by_session is_store_kind key.0 false refl refl s))
        by false false true o s l = ap (λ t. lane_rows.row_at t key) lanes ∙ unsaid (left_by own key) _ (told.2.others key (lane-apart key.0 l))
        by false false false o s l = elim (cases_Bool (is_store_kind key.0)) [
          | inl e ↦ told.2.own key e
          | inr e ↦ no-row h'.store key e ∙ sym (no-row h.store key e) ∙ unsaid (left_by own key) _ (told.2.others key e)
        ]
