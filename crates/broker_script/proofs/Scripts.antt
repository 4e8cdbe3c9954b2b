-- A script's lines, one after another.
use Rattle.std.proofs.Common.{◌≡◌, ◌<◌, ◌≤◌, ◌+◌, ℕ, Bool, List, [], ◌∷◌, ◌++◌, length, get_or, take, map, refl, sym, ◌∙◌, ap, subst, arith, inl, inr, true, false, ◌&&◌, rules, zero, suc, ◌⊎◌}
use Rattle.std.specs.Prelude.{Result, Ok, Err, IfOk, IfErr, MatchResult, filter, None, IsTrue, ◌↔◌}
use Rattle.std.specs.List.{AllByRecursion, list_all}
use Rattle.std.proofs.lemmas.Bool.{false≢true, cases_lt}
use Rattle.std.proofs.lemmas.List.{get_or-map, take_more, take_all, map_push, map-append}
use Rattle.std.proofs.lemmas.List.Elements.{filter-append}
use Rattle.broker_script.specs.Line.{Word, lines, words, event_words, line_words, spelling, is_kept, kept_words, IsInRange}
use Rattle.broker_script.specs.Script.{IsText, count_in, FitsAll, prefix_in, may_precede, AreInTurn, IsOrdered, IsSound, IsScript, Begins, Reads, Refuses, StopsAt, FaultsAt}
use Rattle.broker_script.specs.declared.command.Command.{Command}
use Rattle.broker_script.specs.declared.command.Command.TheVariants.{Nodes, Home, Event, CrashBefore, CrashAfter, Restart, Deliver}
use Rattle.broker_script.specs.declared.event.NodeEvent.{NodeEvent}
use Rattle.broker_script.specs.declared.event.NodeEvent.TheVariants.{Start, Open, Bytes, Close, Ship, Link, Tick, Evict, Move}
use Rattle.broker_script.specs.declared.fault.ScriptFault.{ScriptFault}
use Rattle.broker_script.specs.declared.fault.ScriptFault.TheVariants.{Line, NoMemory}
use Rattle.broker_script.proofs.Words.{heads, tails}
use Rattle.broker_script.proofs.Commands.{same_words}
use denote.Ref.{Bor}

abbrev pub nowhere : Bor (List ℕ)
nowhere = record { ref_ptr = (0, 0); now = [] }

pub line_at : (text : List ℕ) (ls : List (Bor (List ℕ))) (d : Bor (List ℕ)) (i : ℕ) → i < length ls
    → map (λ w. w.now) ls ≡ lines text → get_or (lines text) i [] ≡ (get_or ls i d).now
line_at text ls d i h e = ap (λ xs. get_or xs i []) (sym e) ∙ get_or-map (λ w. w.now) ls i d [] h

-- the words of kept lines, with one line more and others after it
pub kept_one : (before : List (List ℕ)) (line : List ℕ) (after : List (List ℕ)) → is_kept line ≡ true
    → kept_words (before ++ line ∷ after) ≡ kept_words before ++ words line ∷ kept_words after
kept_one before line after kept =
    let last : filter is_kept (line ∷ after) ≡ line ∷ filter is_kept after = rw kept refl in
    ap (map words) (filter-append is_kept before (line ∷ after) ∙ ap (λ xs. filter is_kept before ++ xs) last)
    ∙ map-append words (filter is_kept before) (line ∷ filter is_kept after)

pub kept_skip : (before : List (List ℕ)) (line : List ℕ) → is_kept line ≡ false
    → kept_words (before ++ line ∷ []) ≡ kept_words before
kept_skip before line skipped =
    let last : filter is_kept (line ∷ []) ≡ [] = rw skipped refl in
    ap (map words) (filter-append is_kept before (line ∷ []) ∙ ap (λ xs. filter is_kept before ++ xs) last ∙ search rules)

-- each of the elements, and one more
pub all_push : {A : Type 0} (P : A → Type 0) (xs : List A) (y : A) → AllByRecursion P xs → P y → AllByRecursion P (xs ++ y ∷ [])
all_push P [] y h k = (k, tt)
all_push P (x ∷ xs) y h k = (h.0, all_push P xs y h.1 k)

pub all_front : {A : Type 0} (P : A → Type 0) (xs : List A) (y : A) (ys : List A) → AllByRecursion P (xs ++ y ∷ ys)
    → AllByRecursion P xs × P y
all_front P [] y ys h = (tt, h.0)
all_front P (x ∷ xs) y ys h = let rest = all_front P xs y ys h.1 in ((h.0, rest.0), rest.1)

abbrev pub MayPrecede : List Word → List Word → Type 0
MayPrecede line later = may_precede (prefix_in line) (prefix_in later) ≡ true

-- lines in turn: those at the front, and one more after each of them
pub turn_front : (xs : List (List Word)) (y : List Word) (ys : List (List Word)) → AreInTurn (xs ++ y ∷ ys) → AreInTurn (xs ++ y ∷ [])
turn_front [] y ys t = (tt, tt)
turn_front (x ∷ xs) y ys t =
    let parts = all_front (MayPrecede x) xs y ys t.0 in (all_push (MayPrecede x) xs y parts.0 parts.1, turn_front xs y ys t.1)

turn_push : (xs : List (List Word)) (y : List Word) → AreInTurn xs → AllByRecursion (λ x. MayPrecede x y) xs → AreInTurn (xs ++ y ∷ [])
turn_push [] y t a = (tt, tt)
turn_push (x ∷ xs) y t a = (all_push (MayPrecede x) xs y t.0 a.0, turn_push xs y t.1 a.1)

turn_last : (xs : List (List Word)) (y : List Word) → AreInTurn (xs ++ y ∷ []) → AllByRecursion (λ x. MayPrecede x y) xs
turn_last [] y t = tt
turn_last (x ∷ xs) y t = ((all_front (MayPrecede x) xs y [] t.0).1, turn_last xs y t.1)

both_true : (a b : Bool) → a ≡ true → b ≡ true → (a && b) ≡ true
both_true a b e f = λ n. e n && f n

first_true : (a b : Bool) → (a && b) ≡ true → (a ≡ true) × (b ≡ true)
first_true true b h = (refl, h)
first_true false b h = absurd (false≢true h)

-- each command may precede one that is tested against all of them
all_may : (c : Command) (cs : List Command) → list_all (λ x. may_precede (prefix_in (line_words x)) (prefix_in (line_words c))) cs ≡ true
    → AllByRecursion (λ x. MayPrecede x (line_words c)) (map line_words cs)
all_may c [] h = tt
all_may c (x ∷ cs) h = let both = first_true _ _ h in (both.0, all_may c cs both.1)

may_all : (c : Command) (cs : List Command) → AllByRecursion (λ x. MayPrecede x (line_words c)) (map line_words cs)
    → list_all (λ x. may_precede (prefix_in (line_words x)) (prefix_in (line_words c))) cs ≡ true
may_all c [] h = refl
may_all c (x ∷ cs) h = both_true _ _ h.0 (may_all c cs h.1)

-- an event has no prefix, and no other line than a home has one
event_has_no_prefix : (e : NodeEvent) → prefix_in (event_words e) ≡ None
event_has_no_prefix (Start _ _) = refl
event_has_no_prefix (Open _ _ _) = refl
event_has_no_prefix (Bytes _ _ _ _) = refl
event_has_no_prefix (Close _ _ _) = refl
event_has_no_prefix (Ship _ _ _) = refl
event_has_no_prefix (Link _ _ _) = refl
event_has_no_prefix (Tick _ _) = refl
event_has_no_prefix (Evict _ _ _) = refl
event_has_no_prefix (Move _ _ _ _ _) = refl

pub no_home : (c : Command) → ((prefix : _) (node : ℕ) → c ≡ Home prefix node → ⊥) → prefix_in (line_words c) ≡ None
no_home (Nodes _) h = refl
no_home (Home p n) h = absurd (h p n refl)
no_home (Event e) h = event_has_no_prefix e
no_home (CrashBefore _) h = refl
no_home (CrashAfter _) h = refl
no_home (Restart _) h = refl
no_home (Deliver _ _) h = refl

-- any line may stand before one that is no home
pub precedes_none : (c : Command) (cs : List Command) → prefix_in (line_words c) ≡ None → true ≡ list_all (λ x. may_precede (prefix_in (line_words x)) (prefix_in (line_words c))) cs
precedes_none c [] none = refl
precedes_none c (x ∷ cs) none = λ n. may_precede (prefix_in (line_words x)) (sym none n) && precedes_none c cs none n

-- the first of lines in order are in order
pub ordered_front : (xs : List (List Word)) (y : List Word) (ys : List (List Word)) → IsOrdered (xs ++ y ∷ ys) → IsOrdered (xs ++ y ∷ [])
ordered_front [] y ys s = (s.0, s.1, tt, tt)
ordered_front (x ∷ xs) y ys s =
    let parts = all_front _ xs y ys s.2 in (s.0, s.1, all_push _ xs y parts.0 parts.1, turn_front xs y ys s.3)

-- whether one more command is in order, by the first and the others
pub follows : (cs rest : List Command) (x c : Command) (n : ℕ) (fits comes : Bool) → cs ≡ x ∷ rest → n ≡ count_in (line_words x)
    → (IsTrue fits ↔ FitsAll n (line_words c)) → comes ≡ list_all (λ y. may_precede (prefix_in (line_words y)) (prefix_in (line_words c))) rest
    → IsSound cs → IsTrue (fits && comes) ↔ IsSound (cs ++ c ∷ [])
follows cs rest x c n fits comes e count fit after sound =
    let P : List Word → Type 0 = FitsAll (count_in (line_words x)) in
    let tail = map_push line_words rest c in
    let here : IsSound (x ∷ rest) = subst IsSound e sound in
    subst (λ xs. IsTrue (fits && comes) ↔ IsSound (xs ++ c ∷ [])) (sym e) (
      λ yes. (let both = first_true fits comes yes in
          let one : P (line_words c) = subst (λ m. FitsAll m (line_words c)) count (fit.0 both.0) in (
            here.0,
            here.1,
            subst (AllByRecursion P) (sym tail) (all_push P (map line_words rest) (line_words c) here.2 one),
            subst AreInTurn (sym tail) (turn_push (map line_words rest) (line_words c) here.3 (all_may c rest (sym after ∙ both.1))),
          )),
      λ s. (let one = (all_front P (map line_words rest) (line_words c) [] (subst (AllByRecursion P) tail s.2)).1 in
          let turn = turn_last (map line_words rest) (line_words c) (subst AreInTurn tail s.3) in
          both_true fits comes (fit.1 (subst (λ m. FitsAll m (line_words c)) (sym count) one)) (after ∙ may_all c rest turn)),
    )

pub begins_skip : (text : List ℕ) (i : ℕ) (cs : List Command) → i < length (lines text) → Begins text i cs
    → is_kept (get_or (lines text) i []) ≡ false → Begins text (i + 1) cs
begins_skip text i cs h b e = record {
  spelled = ap kept_words (take_more (lines text) i [] h) ∙ kept_skip (take i (lines text)) _ e ∙ b.spelled;
  in_range = b.in_range;
  sound = b.sound;
}

pub begins_more : (text : List ℕ) (i : ℕ) (cs : List Command) (c : Command) → i < length (lines text) → Begins text i cs
    → is_kept (get_or (lines text) i []) ≡ true → words (get_or (lines text) i []) ≡ spelling c → IsInRange c
    → IsSound (cs ++ c ∷ []) → Begins text (i + 1) (cs ++ c ∷ [])
begins_more text i cs c h b e s range sound =
    let left = ap kept_words (take_more (lines text) i [] h) ∙ kept_one (take i (lines text)) _ [] e in
    let right = map_push spelling cs c in
    let middle : kept_words (take i (lines text)) ++ words (get_or (lines text) i []) ∷ [] ≡ map spelling cs ++ spelling c ∷ [] = rw (b.spelled, s) refl in
    record { spelled = left ∙ middle ∙ sym right; in_range = all_push _ cs c b.in_range range; sound = sound }

pub begins_next : (text line : List ℕ) (i : ℕ) (old new : List Command) → i < length (lines text)
    → get_or (lines text) i [] ≡ line → Begins text i old → Reads line old new → Begins text (i + 1) new
begins_next text line i old new h at b (inl r) =
    subst (Begins text (i + 1)) (sym r.1) (begins_skip text i old h b (ap is_kept at ∙ r.0))
begins_next text line i old new h at b (inr r) =
    subst (Begins text (i + 1)) (sym r.4)
    (begins_more text i old r.1 h b (ap is_kept at ∙ r.0) (ap words at ∙ r.2) r.3 (subst IsSound r.4 r.5))

pub stops_at : (text line : List ℕ) (i : ℕ) (cs : List Command) → get_or (lines text) i [] ≡ line → Begins text i cs
    → Refuses line cs → StopsAt text (i + 1)
stops_at text line i cs at b r = inl (i, cs, refl, b, subst (λ l. Refuses l cs) (sym at) r)

-- what commands say is known by their spellings
pub same_all : (as' bs : List Command) → AllByRecursion IsInRange as' → AllByRecursion IsInRange bs
    → map spelling as' ≡ map spelling bs → map line_words as' ≡ map line_words bs
same_all [] [] h k e = refl
same_all [] (b ∷ bs) h k e = absurd (cc)
same_all (a ∷ as') [] h k e = absurd (cc)
same_all (a ∷ as') (b ∷ bs) h k e =
    let first = same_words a b h.0 k.0 (heads _ _ _ _ e) in
    let rest = same_all as' bs h.1 k.1 (tails _ _ _ _ e) in
    ap (λ w. w ∷ map line_words as') first ∙ ap (λ ws. line_words b ∷ ws) rest

-- one more command, of the same words
pub same_push : (as' bs : List Command) (a b : Command) → map line_words as' ≡ map line_words bs → line_words a ≡ line_words b
    → IsSound (as' ++ a ∷ []) → IsSound (bs ++ b ∷ [])
same_push as' bs a b e same sound =
    let left = map_push line_words as' a in
    let right = map_push line_words bs b in
    let middle : map line_words as' ++ line_words a ∷ [] ≡ map line_words bs ++ line_words b ∷ [] = rw (e, same) refl in
    subst IsOrdered (left ∙ middle ∙ sym right) sound

-- the line is refused, where the one command that it spells may not follow
pub refuses_other : (line : List ℕ) (cs : List Command) (c : Command) → is_kept line ≡ true → IsInRange c
    → words line ≡ spelling c → (IsSound (cs ++ c ∷ []) → ⊥) → Refuses line cs
refuses_other line cs c kept r e none =
    (kept, λ other q o s. none (same_push cs cs other c refl (same_words other c q r (sym o ∙ e)) s))

-- commands, cut where other commands of the same spelling end
record Cut (as' : List Command) (w : List (List ℕ)) (bs : List Command) : Type 0 where
  front : List Command
  next : Command
  back : List Command
  whole : bs ≡ front ++ next ∷ back
  before : map spelling as' ≡ map spelling front
  word : w ≡ spelling next

cut : (as' : List Command) (w : List (List ℕ)) (rest : List (List (List ℕ))) (bs : List Command)
    → map spelling as' ++ w ∷ rest ≡ map spelling bs → Cut as' w bs
cut [] w rest [] e = absurd (cc)
cut [] w rest (b ∷ bs) e = record { front = []; next = b; back = bs; whole = refl; before = refl; word = heads _ _ _ _ e }
cut (a ∷ as') w rest [] e = absurd (cc)
cut (a ∷ as') w rest (b ∷ bs) e =
    let more = cut as' w rest bs (tails _ _ _ _ e) in
    record {
      front = b ∷ more.front;
      next = more.next;
      back = more.back;
      whole = ap (λ cs. b ∷ cs) more.whole;
      before = ap (λ x. x ∷ map spelling as') (heads _ _ _ _ e) ∙ ap (λ xs. spelling b ∷ xs) more.before;
      word = more.word;
    }

-- what stands after a line that is below an end
after_line : {A : Type 0} (ls : List A) (d : A) (i j : ℕ) → i < j → j ≤ length ls
    → (rest : List A) × (take j ls ≡ take i ls ++ get_or ls i d ∷ rest)
after_line [] d i j low high = absurd (omega arith)
after_line (x ∷ ls) d i zero low high = absurd (omega arith)
after_line (x ∷ ls) d zero (suc j) low high = (take j ls, refl)
after_line (x ∷ ls) d (suc i) (suc j) low high =
    let more = after_line ls d i j (omega arith) (omega arith) in (more.0, ap (λ xs. x ∷ xs) more.1)

-- a line that is kept is one of the lines
pub kept_inside : (ls : List (List ℕ)) (i : ℕ) → is_kept (get_or ls i []) ≡ true → i < length ls
kept_inside [] i h = absurd (false≢true h)
kept_inside (x ∷ ls) zero h = omega arith
kept_inside (x ∷ ls) (suc i) h = let more = kept_inside ls i h in omega arith

-- where a line is refused, no more lines can begin a script
pub no_later : (text : List ℕ) (i j : ℕ) (as' bs : List Command) → i < j → j ≤ length (lines text) → Begins text i as'
    → kept_words (take j (lines text)) ≡ map spelling bs → AllByRecursion IsInRange bs → IsSound bs
    → Refuses (get_or (lines text) i []) as' → ⊥
no_later text i j as' bs low high b spelled range sound refused =
    let rest = after_line (lines text) [] i j low high in
    let all = sym (kept_one (take i (lines text)) (get_or (lines text) i []) rest.0 refused.0) ∙ ap kept_words (sym rest.1) ∙ spelled in
    let parts = cut as' (words (get_or (lines text) i [])) (kept_words rest.0) bs (rw b.spelled at all) in
    let ranges = all_front IsInRange parts.front parts.next parts.back (subst (AllByRecursion IsInRange) parts.whole range) in
    let same = same_all as' parts.front b.in_range ranges.0 parts.before in
    let whole : map line_words bs ≡ map line_words parts.front ++ line_words parts.next ∷ map line_words parts.back =
    ap (map line_words) parts.whole ∙ map-append line_words parts.front (parts.next ∷ parts.back) in
    let front = ordered_front _ (line_words parts.next) _ (subst IsOrdered whole sound) in
    let fits : IsSound (parts.front ++ parts.next ∷ []) = subst IsOrdered (sym (map_push line_words parts.front parts.next)) front in
    refused.1 parts.next ranges.1 parts.word (same_push parts.front as' parts.next parts.next (sym same) refl fits)

-- a text that stops is no script
pub stops_no_script : (text : List ℕ) (k : ℕ) (cs : List Command) → StopsAt text k → IsScript text cs → ⊥
stops_no_script text k cs (inl s) script =
    let inside = kept_inside (lines text) s.0 s.4.0 in
    let whole = ap kept_words (take_all (length (lines text)) (lines text) (omega arith)) ∙ script.spelled in
    no_later text s.0 (length (lines text)) s.1 cs inside (omega arith) s.3 whole script.in_range script.sound s.4
stops_no_script text k [] (inr s) script = absurd (omega (arith, script.some))
stops_no_script text k (c ∷ cs) (inr s) script = let e = sym script.spelled ∙ s.1 in cc e

-- a text where each line is skipped is refused at no line
skipped_no_stop : (text : List ℕ) (i : ℕ) (cs : List Command) → kept_words (lines text) ≡ [] → Begins text i cs
    → Refuses (get_or (lines text) i []) cs → ⊥
skipped_no_stop text i cs none b refused =
    let inside = kept_inside (lines text) i refused.0 in
    let whole = ap kept_words (take_all (length (lines text)) (lines text) (omega arith)) ∙ none in
    no_later text i (length (lines text)) cs [] inside (omega arith) b whole tt tt refused

-- a text stops at one line
pub stops_once : (text : List ℕ) (j k : ℕ) → StopsAt text j → StopsAt text k → j ≡ k
stops_once text j k (inl s) (inl t) = elim (cases_lt s.0 t.0) [
  | inl low ↦ absurd (no_later text s.0 t.0 s.1 t.1 low (let h = kept_inside (lines text) t.0 t.4.0 in omega arith) s.3 t.3.spelled t.3.in_range t.3.sound s.4)
  | inr high ↦ elim (cases_lt t.0 s.0) [
    | inl low ↦ absurd (no_later text t.0 s.0 t.1 s.1 low (let h = kept_inside (lines text) s.0 s.4.0 in omega arith) t.3 s.3.spelled s.3.in_range s.3.sound t.4)
    | inr low ↦ omega arith
  ]
]
stops_once text j k (inl s) (inr t) = absurd (skipped_no_stop text s.0 s.1 t.1 s.3 s.4)
stops_once text j k (inr s) (inl t) = absurd (skipped_no_stop text t.0 t.1 s.1 t.3 t.4)
stops_once text j k (inr s) (inr t) = s.0 ∙ sym t.0

-- two readings of a script say the same
pub one_reading : (text : List ℕ) (as' bs : List Command) → IsScript text as' → IsScript text bs → map line_words as' ≡ map line_words bs
one_reading text as' bs a b = same_all as' bs a.in_range b.in_range (sym a.spelled ∙ b.spelled)

-- all lines that begin a script are a script
pub script_of : (text : List ℕ) (cs : List Command) → IsText text → Begins text (length (lines text)) cs → 0 < length cs → IsScript text cs
script_of text cs ascii b some = record {
  text = ascii;
  spelled = ap kept_words (sym (take_all (length (lines text)) (lines text) (omega arith))) ∙ b.spelled;
  in_range = b.in_range;
  sound = b.sound;
  some = some;
}

-- where no line was kept, the text stops at line 1
pub skipped_stops : (text : List ℕ) (i : ℕ) (cs : List Command) → Begins text i cs → length (lines text) ≤ i → length cs ≡ 0 → StopsAt text 1
skipped_stops text i [] b long none = inr (refl, ap kept_words (sym (take_all i (lines text) long)) ∙ b.spelled)
skipped_stops text i (c ∷ cs) b long none = absurd (omega (arith, none))

-- what a reader answers that finds all lines or the one where a text stops
abbrev pub Answers : {V : Type 0} → (V → List Command) → List ℕ → Result V ScriptFault → Type 0
Answers items text r =
    IfOk r (λ v. Begins text (length (lines text)) (items v) × (0 < length (items v)))
    × IfErr r (λ fault. (fault ≡ NoMemory) ⊎ ((k : ℕ) × (fault ≡ Line k) × StopsAt text k))

-- it answers a script's commands
pub answers_script : {V : Type 0} (items : V → List Command) (text : List ℕ) (cs : List Command) (r : Result V ScriptFault)
    → Answers items text r → IsScript text cs
    → MatchResult r (λ v. map line_words (items v) ≡ map line_words cs) (λ fault. fault ≡ NoMemory)
answers_script items text cs (Ok v) h s = one_reading text (items v) cs (script_of text (items v) s.text h.0.0 h.0.1) s
answers_script items text cs (Err fault) h s = elim h.1 [
  | inl memory ↦ memory
  | inr stop ↦ absurd (stops_no_script text stop.0 cs stop.2 s)
]

-- it answers a text's fault
pub answers_fault : {V : Type 0} (items : V → List Command) (text : List ℕ) (k : ℕ) (r : Result V ScriptFault)
    → Answers items text r → FaultsAt text k → (r ≡ Err (Line k)) ⊎ (r ≡ Err NoMemory)
answers_fault items text k (Ok v) h f =
    absurd (stops_no_script text k (items v) f.stops (script_of text (items v) f.text h.0.0 h.0.1))
answers_fault items text k (Err fault) h f = elim h.1 [
  | inl memory ↦ inr (ap Err memory)
  | inr stop ↦ inl (ap Err (stop.1 ∙ ap Line (stops_once text stop.0 k stop.2 f.stops)))
]
