-- What all rows say, and the store that it makes.
use Rattle.std.proofs.Common.{◌≡◌, ◌⊎◌, inl, inr, ℕ, zero, suc, ◌+◌, ◌<◌, ◌≤◌, Bool, true, false, cond, ◌&&◌, if◌then◌else◌, T, map as map_list, List, [], ◌∷◌, length, drop, get_or, Option, Some, None, is_some, Result, Ok, Err, refl, sym, ap, subst, ◌∙◌, true≢false, arith}
use Rattle.std.specs.Prelude.{◌==◌, IfErr, IfOk, IsSome, option_map}
use Rattle.std.specs.Cmp.{unsigned_Decides}
use Rattle.std.specs.List.{AllByRecursion}
use Rattle.std.specs.List.Sorted.{IsStrictlySortedBy}
use Rattle.std.specs.Map.{keys_of}
use Rattle.std.specs.Ordering.{eq_by_cmp, is_eq}
use Rattle.std.specs.FinSet as set
use Rattle.std.specs.FinMap as map
use Rattle.std.specs.FinMap.Entries.{is_sorted, find}
use Rattle.std.proofs.Math.Seq.{drop-cons}
use Rattle.std.proofs.lemmas.Cmp.{tied_itself}
use Rattle.causal_context.specs.Dots.{Dot, Dots, dot_cmp, dot_cmp_total}
use Rattle.causal_context.specs.SetLattice.{IsSubset}
use Rattle.causal_context.specs.Spelling.{context, HasSpelling}
use Rattle.causal_context.proofs.RangeSets.{set_of_none}
use Rattle.causal_context.proofs.SpellingLaws.{context_is}
use Rattle.mqtt_fields.specs.declared.fault.FieldFault.{FieldFault}
use Rattle.mqtt_fields.specs.declared.fault.FieldFault.TheVariants.{NoMemory}
use Rattle.subscription_set.specs.declared.entry.Entry.{Entry}
use Rattle.subscription_set.specs.Indexing.{ByDot}
use Rattle.subscription_set.specs.Merging.{IsSet}
use Rattle.subscription_set.specs.Sorted.{first_of}
use Rattle.subscription_set.specs.Standing.{find_entry, seen_of}
use Rattle.subscription_set.proofs.Seen.{get-statuses, seen_of-statuses, contains-seen_of}
use Rattle.subscription_set.specs.Statuses.{Status}
use Rattle.subscription_set.proofs.Indexing.{entries_table}
use Rattle.replica_store.specs.declared.kept.Kept.{Kept}
use Rattle.replica_store.specs.Retained.{topic_cmp}
use Rattle.replica_store.specs.States.{State}
use Rattle.replica_store.proofs.Views.{tied_is, at_head, none_after}
use Rattle.row_store.specs.declared.row.Row.{Row}
use Rattle.row_store.specs.Rows.{Key, key_cmp, entry_of, Plain}
use Rattle.row_store.proofs.Keys.{keys_total, exact_keys}
use Rattle.replica_bytes.specs.Values.{dot}
use Rattle.replica_rows.specs.Rows.{spelled, subscription_of, subscription_at, kept_of, retained_at, context_at, dots_value, row_at}
use Rattle.replica_rows.specs.Steps.{subscription_key}
use Rattle.replica_rows.specs.ReadingSteps.{Said, IsSaid, standing_at, topic_at, dots_at, row_of, SaysMore, Contradicts, AreSaid, state_of, AreSeenThere}
use Rattle.replica_rows.specs.Reading.{IsStore, AreAllRowsOf, AreOfNone}
use Rattle.replica_rows.proofs.Keyed.{one_value, at_dot}
use Rattle.replica_rows.proofs.Saying.{by_bool, no_value, picked}
use Rattle.replica_rows.proofs.Refused.{said_row, value_of}

some_is : {A : Type 0} (a b : A) → Some a ≡ Some b → a ≡ b
some_is a b e = cc

-- ---- no rows say nothing

abbrev pub blank : Said
blank = record { taken = set.empty; seen = set.empty; standing = map.from_entries []; retained = map.empty }

none_spelled : HasSpelling set.empty
none_spelled = record {
  ranges = [];
  context = record { sound = record { fine = λ k d lt. absurd (omega (arith, lt)); apart = λ i j d lt less. absurd (omega (arith, less)) }; few = omega arith };
  set = set_of_none [] refl;
}

no_dots : dots_value set.empty ≡ None
no_dots = ap (λ n. if n == 0 then None else Some (context.bytes set.empty)) (set.len-empty dot_cmp)

none_stands : (q : Dot) → map.get blank.standing q ≡ None
none_stands q = map.get-from_entries dot_cmp_total [] q

blank_standing : (client : List ℕ) (o : Option Dot) → standing_at blank.standing client o ≡ None
blank_standing client None = refl
blank_standing client (Some q) = ap (λ o. subscription_of client (option_map (λ y. Some y) o)) (none_stands q)

blank_topic : (topic place : List ℕ) → topic_at blank.retained topic place ≡ None
blank_topic topic [] = ap (kept_of topic) (map.get-empty {X = Kept} topic_cmp topic)
blank_topic topic (b ∷ place) = refl

either_none : (a b : Bool) → (if a then dots_value set.empty else if b then dots_value set.empty else None) ≡ None
either_none true b = no_dots
either_none false true = no_dots
either_none false false = refl

blank_dots : (owner place : List ℕ) → dots_at set.empty set.empty owner place ≡ None
blank_dots [] place = either_none _ _
blank_dots (b ∷ owner) place = refl

abbrev nothing : Option (List ℕ)
nothing = None

none_picked : (a b c : Bool) → (if a then nothing else if b then nothing else if c then nothing else None) ≡ nothing
none_picked true b c = refl
none_picked false true c = refl
none_picked false false true = refl
none_picked false false false = refl

blank_row : (key : Key) → row_of blank key ≡ None
blank_row key =
    picked key.0 _ nothing _ nothing _ nothing (λ _. blank_standing key.1.0 (spelled dot key.1.1)) (λ _. blank_topic key.1.0 key.1.1) (λ _. blank_dots key.1.0 key.1.1) ∙ none_picked (key.0 == 4) (key.0 == 5) (key.0 == 6)

blank_sound : IsSaid blank
blank_sound = record {
  taken = none_spelled;
  seen = none_spelled;
  dots = λ q e is. no_value _ e (none_stands q) is;
  clients = λ q e is. no_value _ e (none_stands q) is;
  entries = λ q e is. no_value _ e (none_stands q) is;
  topics = λ topic k is. no_value _ k (map.get-empty {X = Kept} topic_cmp topic) is;
  kept = λ topic k is. no_value _ k (map.get-empty {X = Kept} topic_cmp topic) is;
}

-- ---- one row after another

pub record IsGathered (all left : List Plain) (x : Said) : Type 0 where
  pub sound : IsSaid x
  pub rows : (key : Key) → find key_cmp key all ≡ first_of (row_of x key) (find key_cmp key left)
  pub rises : T (is_sorted key_cmp left)
  pub fresh : AllByRecursion (λ (r : Plain). row_of x r.0 ≡ None) left

all_fresh : (x : Said) (left : List Plain) → ((key : Key) → row_of x key ≡ None) → AllByRecursion (λ (r : Plain). row_of x r.0 ≡ None) left
all_fresh x [] none = tt
all_fresh x (r ∷ left) none = (none r.0, all_fresh x left none)

pub none_gathered : (all : List Plain) (x : Said) → x ≡ blank → T (is_sorted key_cmp all) → IsGathered all all x
none_gathered all x is up = subst (IsGathered all all) (sym is) (record {
  sound = blank_sound;
  rows = λ key. sym (ap (λ o. first_of o (find key_cmp key all)) (blank_row key));
  rises = up;
  fresh = all_fresh blank all blank_row;
})

later : (a b : Bool) → T (a && b) → T b
later true b h = h
later false b h = absurd h

key_tie : (key : Key) → eq_by_cmp key_cmp key key ≡ true
key_tie key = ap is_eq (tied_itself keys_total key)

find_here : (r : Plain) (rest : List Plain) → find key_cmp r.0 (r ∷ rest) ≡ Some r.1
find_here r rest = at_head keys_total exact_keys r.0 r rest true (key_tie r.0)

-- a key of the later rows isn't the first one's
apart_from : (r y : Plain) (rest : List Plain) → T (is_sorted key_cmp (r ∷ rest)) → find key_cmp y.0 rest ≡ Some y.1 → eq_by_cmp key_cmp y.0 r.0 ≡ false
apart_from r y rest up there = by_bool (eq_by_cmp key_cmp y.0 r.0) (λ t. no_value _ y.1 (none_after keys_total exact_keys y.0 r rest up t) there) (λ f. f)

step_row : (b : Bool) (v : List ℕ) (o w : Option (List ℕ)) → (b ≡ true → o ≡ None) → first_of o (cond b (Some v) w) ≡ first_of (cond b (Some v) o) w
step_row true v o w none = ap (λ y. first_of y (Some v)) (none refl)
step_row false v o w none = refl

pub one_gathered : (all left rest : List Plain) (r : Plain) (x new : Said) → left ≡ r ∷ rest → (row_of x r.0 ≡ None → SaysMore r x new) → IsGathered all left x → IsGathered all rest new
one_gathered all left rest r x new is more before =
    let g = subst (λ l. IsGathered all l x) is before in
    let says = more g.fresh.0 in
    record {
      sound = says.sound g.sound;
      rows = λ key.
          g.rows key ∙ step_row (eq_by_cmp key_cmp key r.0) r.1 (row_of x key) (find key_cmp key rest) (λ t. ap (row_of x) (exact key r.0 t) ∙ g.fresh.0)
          ∙ sym (ap (λ o. first_of o (find key_cmp key rest)) (says.rows key));
      rises = later _ _ g.rises;
      fresh = still rest (λ y there. says.rows y.0 ∙ ap (λ b. cond b (Some r.1) (row_of x y.0)) (apart_from r y rest g.rises there)) (later _ _ g.rises) g.fresh.1;
    }
  where
    exact : (a b : Key) → eq_by_cmp key_cmp a b ≡ true → a ≡ b
    exact a b t = tied_is {R = key_cmp} exact_keys a b t

    still : (ys : List Plain) → ((y : Plain) → find key_cmp y.0 ys ≡ Some y.1 → row_of new y.0 ≡ row_of x y.0) → T (is_sorted key_cmp ys)
        → AllByRecursion (λ (y : Plain). row_of x y.0 ≡ None) ys → AllByRecursion (λ (y : Plain). row_of new y.0 ≡ None) ys
    still [] same up none = tt
    still (y ∷ ys) same up none = (
      same y (find_here y ys) ∙ none.0,
      still ys (λ z there. same z (at_head keys_total exact_keys z.0 y ys false (apart_from y z ys up there) ∙ there)) (later _ _ up) none.1,
    )

first_some : (o : Option (List ℕ)) → first_of o None ≡ o
first_some None = refl
first_some (Some v) = refl

pub all_gathered : (all left : List Plain) (x : Said) → left ≡ [] → IsGathered all left x → AreSaid all x
all_gathered all left x is g = record { sound = g.sound; rows = λ key. g.rows key ∙ ap (λ l. first_of (row_of x key) (find key_cmp key l)) is ∙ first_some (row_of x key) }

-- a store of the rows has what is found in them
at_key : (rows : List Row) (s : State) → AreAllRowsOf rows s → (key : Key) → row_at s key ≡ find key_cmp key (map_list entry_of rows)
at_key rows s are key = sym (are.are key) ∙ map.get-from_entries keys_total (map_list entry_of rows) key

pub row_refused : (rows : List Row) (left rest : List Plain) (r : Plain) (x : Said) → left ≡ r ∷ rest → Contradicts r x → IsGathered (map_list entry_of rows) left x → AreOfNone rows
row_refused rows left rest r x is against before =
    let g = subst (λ l. IsGathered (map_list entry_of rows) l x) is before in
    λ s store are. against g.fresh.0 s store
    (λ key v there. at_key rows s are key ∙ g.rows key ∙ ap (λ o. first_of o (find key_cmp key (r ∷ rest))) there)
    (at_key rows s are r.0 ∙ g.rows r.0 ∙ ap (λ o. first_of o (find key_cmp r.0 (r ∷ rest))) g.fresh.0 ∙ find_here r rest)

pub not_rising : (rows : List Row) → (T (is_sorted key_cmp (map_list entry_of rows)) → ⊥) → AreOfNone rows
not_rising rows falls = λ s store are. falls are.rise

-- ---- rows by their place in a list

pub next_row : (rows : List Row) (i : ℕ) (r : Row) → i < length rows → r ≡ get_or rows i r → map_list entry_of (drop i rows) ≡ entry_of r ∷ map_list entry_of (drop (i + 1) rows)
next_row rows i r lt at =
    let front : drop i rows ≡ r ∷ drop (suc i) rows = drop-cons rows i r lt ∙ ap (λ y. y ∷ drop (suc i) rows) (sym at) in
    let one : suc i ≡ i + 1 = omega arith in
    ap (map_list entry_of) front ∙ ap (λ n. entry_of r ∷ map_list entry_of (drop n rows)) one

pub no_rows : (rows : List Row) (i : ℕ) → length rows ≤ i → map_list entry_of (drop i rows) ≡ []
no_rows [] i end = nothing i
  where
    nothing : (n : ℕ) → map_list entry_of (drop n []) ≡ []
    nothing zero = refl
    nothing (suc n) = refl
no_rows (r ∷ rows) zero end = absurd (omega (arith, end))
no_rows (r ∷ rows) (suc i) end = no_rows rows i (omega (arith, end))

-- ---- the store that they make

by_status : (client : List ℕ) (b : Bool) (o : Option Entry) → (is_some o ≡ true → b ≡ true) → subscription_of client (cond b (Some o) None) ≡ subscription_of client (option_map (λ y. Some y) o)
by_status client true None seen = refl
by_status client false None seen = refl
by_status client true (Some e) seen = refl
by_status client false (Some e) seen = absurd (true≢false (sym (seen refl)))

find_is : (m : ByDot) (q : Dot) → find_entry q (map.entries m) ≡ map.get m q
find_is m q = sym (map.get-entries m q)

module _ (x : Said) (seen : AreSeenThere x) where
  abbrev s : State
  s = state_of x

  is_seen : (q : Dot) → is_some (map.get x.standing q) ≡ true → set.contains x.seen q ≡ true
  is_seen q some = seen.standing q (ap is_some (find_is x.standing q) ∙ some)

  status : (q : Dot) → map.get s.subscriptions q ≡ cond (set.contains x.seen q) (Some (map.get x.standing q)) None
  status q = get-statuses x.seen (map.entries x.standing) q ∙ ap (λ o. cond (set.contains x.seen q) (Some o) None) (find_is x.standing q)

  same_standing : (client : List ℕ) (o : Option Dot) → subscription_at s client o ≡ standing_at x.standing client o
  same_standing client None = refl
  same_standing client (Some q) = ap (subscription_of client) (status q) ∙ by_status client (set.contains x.seen q) (map.get x.standing q) (is_seen q)

  same_topic : (topic place : List ℕ) → retained_at s topic place ≡ topic_at x.retained topic place
  same_topic topic [] = refl
  same_topic topic (b ∷ place) = refl

  same_seen : seen_of s.subscriptions ≡ x.seen
  same_seen = seen_of-statuses x.seen (map.entries x.standing)

  same_dots : (owner place : List ℕ) → context_at s owner place ≡ dots_at x.taken x.seen owner place
  same_dots [] place = ap (λ d. dots_at x.taken d [] place) same_seen
  same_dots (b ∷ owner) place = refl

  same_row : (key : Key) → row_at s key ≡ row_of x key
  same_row key = picked key.0 _ _ _ _ _ _ (λ _. same_standing key.1.0 (spelled dot key.1.1)) (λ _. same_topic key.1.0 key.1.1) (λ _. same_dots key.1.0 key.1.1)

  stands : (q : Dot) (e : Entry) → map.get s.subscriptions q ≡ Some (Some e) → map.get x.standing q ≡ Some e
  stands q e is = by_bool (set.contains x.seen q)
      (λ t. some_is (map.get x.standing q) (Some e) (sym (status q ∙ ap (λ b. cond b (Some (map.get x.standing q)) None) t) ∙ is))
      (λ f. no_value (map.get s.subscriptions q) (Some e) (status q ∙ ap (λ b. cond b (Some (map.get x.standing q)) None) f) is)

  pub made_rows : (rows : List Row) → T (is_sorted key_cmp (map_list entry_of rows)) → AreSaid (map_list entry_of rows) x → AreAllRowsOf rows s
  made_rows rows up said = record { rise = up; are = λ key. map.get-from_entries keys_total (map_list entry_of rows) key ∙ said.rows key ∙ sym (same_row key) }

  pub made_store : IsSaid x → IsStore s
  made_store sound = record {
    all_seen = λ q there. ap (λ d. set.contains d q) same_seen ∙ seen.taken q there;
    taken = sound.taken;
    seen = subst HasSpelling (sym same_seen) sound.seen;
    dots = λ q e is. sound.dots q e (stands q e is);
    clients = λ q e is. sound.clients q e (stands q e is);
    entries = λ q e is. sound.entries q e (stands q e is);
    topics = sound.topics;
    kept = sound.kept;
  }

-- ---- dots that stand and weren't seen

pub one_set : (a b : Dots) → HasSpelling a → HasSpelling b → dots_value a ≡ dots_value b → a ≡ b
unfolding context
one_set a b x y same = by_bool (set.len a == 0)
    (λ t. by_bool (set.len b == 0)
    (λ u. set.empty_of_len a ((unsigned_Decides (set.len a) 0).0 t) ∙ sym (set.empty_of_len b ((unsigned_Decides (set.len b) 0).0 u)))
    (λ f. no_value (dots_value b) (context.bytes b) (sym same ∙ ap (λ c. if c then None else Some (context.bytes a)) t) (ap (λ c. if c then None else Some (context.bytes b)) f)))
    (λ f. one_value context context_is a b x y (value_of b (context.bytes a) (sym same ∙ ap (λ c. if c then None else Some (context.bytes a)) f)).1)

there_is : (client : List ℕ) (o : Option Status) (v : List ℕ) → subscription_of client o ≡ Some v → is_some o ≡ true
there_is client None v h = absurd (cc)
there_is client (Some y) v h = refl

pub unseen : (rows : List Row) (x : Said) → AreSaid (map_list entry_of rows) x → (AreSeenThere x → ⊥) → AreOfNone rows
unseen rows x said none = λ s store are. none (record {
  standing = λ q some. each s store are q (map.get x.standing q) refl (sym (ap is_some (find_is x.standing q)) ∙ some);
  taken = all_taken s store are;
})
  where
    all_taken : (s : State) → IsStore s → AreAllRowsOf rows s → IsSubset x.taken x.seen
    all_taken s store are q there =
        let at : (key : Key) → row_at s key ≡ row_of x key = λ key. at_key rows s are key ∙ said.rows key in
        let taken = one_set s.taken x.taken store.taken said.sound.taken (at (6, ([], 1 ∷ []))) in
        let same = one_set (seen_of s.subscriptions) x.seen store.seen said.sound.seen (at (6, ([], 2 ∷ []))) in
        ap (λ d. set.contains d q) (sym same) ∙ store.all_seen q (ap (λ d. set.contains d q) taken ∙ there)

    each : (s : State) → IsStore s → AreAllRowsOf rows s → (q : Dot) (o : Option Entry) → map.get x.standing q ≡ o → is_some (map.get x.standing q) ≡ true → set.contains x.seen q ≡ true
    each s store are q None is some = absurd (true≢false (sym some ∙ ap is_some is))
    each s store are q (Some e) is some =
        let at : (key : Key) → row_at s key ≡ row_of x key = λ key. at_key rows s are key ∙ said.rows key in
        let fits = said.sound.dots q e is in
        let row = sym (at_dot s e.client q fits) ∙ at (subscription_key e q) ∙ said_row x.standing q e fits is in
        let same = one_set (seen_of s.subscriptions) x.seen store.seen said.sound.seen (at (6, ([], 2 ∷ []))) in
        ap (λ d. set.contains d q) (sym same) ∙ contains-seen_of s.subscriptions q ∙ there_is e.client (map.get s.subscriptions q) _ row

-- ---- how reading ends

pub row_stops : {X : Type 0} (rows : List Row) (left rest : List Plain) (r : Plain) (x : Said) → left ≡ r ∷ rest → IsGathered (map_list entry_of rows) left x
    → (result : Result X FieldFault) (e f : FieldFault) → result ≡ Err f → f ≡ e → (e ≡ NoMemory) ⊎ Contradicts r x → IfErr result (λ g. (g ≡ NoMemory) ⊎ AreOfNone rows)
row_stops rows left rest r x is g result e f at same why = subst (λ y. IfErr y (λ g. (g ≡ NoMemory) ⊎ AreOfNone rows)) (sym at) (elim why as (λ _. (f ≡ NoMemory) ⊎ AreOfNone rows) [
  | inl memory ↦ inl (same ∙ memory)
  | inr against ↦ inr (row_refused rows left rest r x is against g)
])

pub made_by : (r : Result State FieldFault) (P : State → Type 0) (x : Said) → IfOk r (λ s. (s ≡ state_of x) × AreSeenThere x) → (AreSeenThere x → P (state_of x)) → IfOk r P
made_by (Ok s) P x made holds = subst P (sym made.0) (holds made.1)
made_by (Err e) P x made holds = tt

pub refused_by : (r : Result State FieldFault) (rows : List Row) (x : Said) → IfErr r (λ f. (f ≡ NoMemory) ⊎ (AreSeenThere x → ⊥)) → AreSaid (map_list entry_of rows) x → IfErr r (λ f. (f ≡ NoMemory) ⊎ AreOfNone rows)
refused_by (Ok s) rows x why said = tt
refused_by (Err e) rows x (inl memory) said = inl memory
refused_by (Err e) rows x (inr none) said = inr (unseen rows x said none)

pub in_order : (entries fs : List (Dot × Entry)) → IsStrictlySortedBy dot_cmp (keys_of fs) → entries ≡ fs → entries ≡ map.entries (map.from_entries {R = dot_cmp} fs)
in_order entries fs up is = is ∙ sym (entries_table fs up)

pub not_made : {X : Type 0} (x : Said) (entries : List (Dot × Entry)) (made : Option X) → entries ≡ map.entries x.standing → (IsSet x.seen entries → IsSome made) → made ≡ None → AreSeenThere x → ⊥
not_made x entries made is some none seen = nothing_made made none (some (subst (IsSet x.seen) (sym is) (record { seen = seen.standing; rises = map.entries_sorted x.standing })))
  where
    nothing_made : {Y : Type 0} (o : Option Y) → o ≡ None → IsSome o → ⊥
    nothing_made None e h = absurd (cc)
    nothing_made (Some y) e h = absurd (cc)
