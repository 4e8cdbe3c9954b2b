-- A command's line: the words that spell it, and no other command. A new event adds a case to `same_event_words`, `event_keywords`,
-- `not_event`, `no_event` and `event_length`, and another line one to `same_words` and `no_other`.
use Rattle.std.proofs.Common.{◌≡◌, ◌<◌, ◌^◌, ℕ, List, [], ◌∷◌, ◌++◌, length, map, refl, sym, subst, ap, arith, codes, Bool, true, false, ◌&&◌}
use Rattle.std.specs.Prelude.{not}
use Rattle.std.proofs.lemmas.Bool.{false≢true}
use Rattle.std.specs.List.{All, AllByRecursion, list_all}
use Rattle.std.specs.Str.{bytes_eq}
use Rattle.std.specs.Fmt.{decimal}
use Rattle.std.proofs.lemmas.List.{same_from_push}
use Rattle.hex.specs.Hex.{encode_lower, IsBytes}
use Rattle.broker_script.specs.Line.{event_words, line_words, event_spelling, spelling, IsEventInRange, IsInRange, IsPlain}
use Rattle.broker_script.specs.declared.command.Command.{Command}
use Rattle.broker_script.specs.declared.command.Command.TheVariants.{Nodes, Home, Event, CrashBefore, CrashAfter, Restart, Deliver}
use Rattle.broker_script.specs.declared.event.NodeEvent.{NodeEvent}
use Rattle.broker_script.specs.declared.event.NodeEvent.TheVariants.{Start, Open, Bytes, Close, Ship, Link, Tick, Evict, Move}
use Rattle.broker_script.proofs.Words.{apart, heads, tails, same_line, all_none, all_cons}

-- an event's spelling tells what the event says
pub same_event_words : (a b : NodeEvent) → IsEventInRange a → IsEventInRange b → event_spelling a ≡ event_spelling b
    → event_words a ≡ event_words b
same_event_words (Start _ _) (Start _ _) h k e = same_line _ _ h k (refl, (refl, (refl, tt))) e
same_event_words (Start _ _) _ h k e = absurd (apart _ _ _ _ refl e)
same_event_words (Open _ _ _) (Open _ _ _) h k e = same_line _ _ h k (refl, (refl, (refl, (refl, tt)))) e
same_event_words (Open _ _ _) _ h k e = absurd (apart _ _ _ _ refl e)
same_event_words (Bytes _ _ _ _) (Bytes _ _ _ _) h k e = same_line _ _ h k (refl, (refl, (refl, (refl, (refl, tt))))) e
same_event_words (Bytes _ _ _ _) _ h k e = absurd (apart _ _ _ _ refl e)
same_event_words (Close _ _ _) (Close _ _ _) h k e = same_line _ _ h k (refl, (refl, (refl, (refl, tt)))) e
same_event_words (Close _ _ _) _ h k e = absurd (apart _ _ _ _ refl e)
same_event_words (Tick _ _) (Tick _ _) h k e = same_line _ _ h k (refl, (refl, (refl, tt))) e
same_event_words (Tick _ _) _ h k e = absurd (apart _ _ _ _ refl e)
same_event_words (Ship _ _ _) (Ship _ _ _) h k e = same_line _ _ h k (refl, (refl, (refl, (refl, tt)))) e
same_event_words (Ship _ _ _) _ h k e = absurd (apart _ _ _ _ refl e)
same_event_words (Link _ _ _) (Link _ _ _) h k e = same_line _ _ h k (refl, (refl, (refl, (refl, tt)))) e
same_event_words (Link _ _ _) _ h k e = absurd (apart _ _ _ _ refl e)
same_event_words (Evict _ _ _) (Evict _ _ _) h k e = same_line _ _ h k (refl, (refl, (refl, (refl, tt)))) e
same_event_words (Evict _ _ _) _ h k e = absurd (apart _ _ _ _ refl e)
same_event_words (Move _ _ _ _ _) (Move _ _ _ _ _) h k e = same_line _ _ h k (refl, (refl, (refl, (refl, (refl, (refl, tt)))))) e
same_event_words (Move _ _ _ _ _) _ h k e = absurd (apart _ _ _ _ refl e)

-- the keywords of events
abbrev pub event_keywords : List (List ℕ)
event_keywords =
    codes "start" ∷ codes "open" ∷ codes "bytes" ∷ codes "close" ∷ codes "tick" ∷ codes "ship" ∷ codes "evict" ∷ codes "link" ∷ codes "move" ∷ []

apart_first : (a b : Bool) → (not a && b) ≡ true → (a ≡ false) × (b ≡ true)
apart_first false b h = (refl, h)
apart_first true b h = absurd (false≢true h)

apart_each : (word : List ℕ) (keywords : List (List ℕ)) → list_all (λ k. not (bytes_eq word k)) keywords ≡ true
    → AllByRecursion (λ k. bytes_eq word k ≡ false) keywords
apart_each word [] h = tt
apart_each word (k ∷ ks) h = let both = apart_first _ _ h in (both.0, apart_each word ks both.1)

-- a word that no event begins with
abbrev pub IsNoKeyword : List ℕ → Type 0
IsNoKeyword word = list_all (λ k. not (bytes_eq word k)) event_keywords ≡ true

pub not_event : (word : List ℕ) (rest : List (List ℕ)) (e : NodeEvent) → IsNoKeyword word → word ∷ rest ≡ event_spelling e → ⊥
not_event word rest (Start _ _) n h = apart _ _ _ _ (apart_each word event_keywords n).0 h
not_event word rest (Open _ _ _) n h = apart _ _ _ _ (apart_each word event_keywords n).1.0 h
not_event word rest (Bytes _ _ _ _) n h = apart _ _ _ _ (apart_each word event_keywords n).1.1.0 h
not_event word rest (Close _ _ _) n h = apart _ _ _ _ (apart_each word event_keywords n).1.1.1.0 h
not_event word rest (Tick _ _) n h = apart _ _ _ _ (apart_each word event_keywords n).1.1.1.1.0 h
not_event word rest (Ship _ _ _) n h = apart _ _ _ _ (apart_each word event_keywords n).1.1.1.1.1.0 h
not_event word rest (Evict _ _ _) n h = apart _ _ _ _ (apart_each word event_keywords n).1.1.1.1.1.1.0 h
not_event word rest (Link _ _ _) n h = apart _ _ _ _ (apart_each word event_keywords n).1.1.1.1.1.1.1.0 h
not_event word rest (Move _ _ _ _ _) n h = apart _ _ _ _ (apart_each word event_keywords n).1.1.1.1.1.1.1.1.0 h

-- a spelling tells what its command says
pub same_words : (a b : Command) → IsInRange a → IsInRange b → spelling a ≡ spelling b → line_words a ≡ line_words b
same_words (Nodes _) (Nodes _) h k e = same_line _ _ h k (refl, (refl, tt)) e
same_words (Nodes _) (Event b) h k e = absurd (not_event _ _ b refl e)
same_words (Nodes _) _ h k e = absurd (apart _ _ _ _ refl e)
same_words (Home _ _) (Home _ _) h k e = same_line _ _ h k (refl, (refl, (refl, tt))) e
same_words (Home _ _) (Event b) h k e = absurd (not_event _ _ b refl e)
same_words (Home _ _) _ h k e = absurd (apart _ _ _ _ refl e)
same_words (Event a) (Event b) h k e = same_event_words a b h k e
same_words (Event a) (Nodes _) h k e = absurd (not_event _ _ a refl (sym e))
same_words (Event a) (Home _ _) h k e = absurd (not_event _ _ a refl (sym e))
same_words (Event a) (CrashBefore _) h k e = absurd (not_event _ _ a refl (sym e))
same_words (Event a) (CrashAfter _) h k e = absurd (not_event _ _ a refl (sym e))
same_words (Event a) (Restart _) h k e = absurd (not_event _ _ a refl (sym e))
same_words (Event a) (Deliver _ _) h k e = absurd (not_event _ _ a refl (sym e))
same_words (CrashBefore a) (CrashBefore b) h k e =
    let same = same_event_words a b h.1.1 k.1.1 (tails _ _ _ _ (tails _ _ _ _ e)) in cc
same_words (CrashBefore a) (CrashAfter b) h k e = absurd (apart _ _ _ _ refl (tails _ _ _ _ e))
same_words (CrashBefore a) (Event b) h k e = absurd (not_event _ _ b refl e)
same_words (CrashBefore a) _ h k e = absurd (apart _ _ _ _ refl e)
same_words (CrashAfter a) (CrashAfter b) h k e =
    let same = same_event_words a b h.1.1 k.1.1 (tails _ _ _ _ (tails _ _ _ _ e)) in cc
same_words (CrashAfter a) (CrashBefore b) h k e = absurd (apart _ _ _ _ refl (tails _ _ _ _ e))
same_words (CrashAfter a) (Event b) h k e = absurd (not_event _ _ b refl e)
same_words (CrashAfter a) _ h k e = absurd (apart _ _ _ _ refl e)
same_words (Restart _) (Restart _) h k e = same_line _ _ h k (refl, (refl, tt)) e
same_words (Restart _) (Event b) h k e = absurd (not_event _ _ b refl e)
same_words (Restart _) _ h k e = absurd (apart _ _ _ _ refl e)
same_words (Deliver _ _) (Deliver _ _) h k e = same_line _ _ h k (refl, (refl, (refl, tt))) e
same_words (Deliver _ _) (Event b) h k e = absurd (not_event _ _ b refl e)
same_words (Deliver _ _) _ h k e = absurd (apart _ _ _ _ refl e)

-- the words spell no k nodes and n numbers after them
abbrev pub NoFields : ℕ → ℕ → List (List ℕ) → Type 0
NoFields k n rest = (ks ns : List ℕ) → length ks ≡ k → All (λ x. x < 2 ^ 16) ks → length ns ≡ n → All (λ x. x < 2 ^ 64) ns
    → rest ≡ map decimal ks ++ map decimal ns → ⊥

-- some nodes, or numbers, are in range
pub none_in : (limit : ℕ) → All (λ x. x < limit) []
none_in limit = all_none limit

pub one_in : (limit a : ℕ) → a < limit → All (λ x. x < limit) (a ∷ [])
one_in limit a h = all_cons limit a [] h (all_none limit)

pub two_in : (limit a b : ℕ) → a < limit → b < limit → All (λ x. x < limit) (a ∷ b ∷ [])
two_in limit a b h k = all_cons limit a (b ∷ []) h (one_in limit b k)

-- what the words after `bytes` spell: a node, two numbers and some bytes
pub not_bytes : (ws : List (List ℕ)) (w : List ℕ)
    → ((ks ns xs : List ℕ) → length ks ≡ 1 → All (λ x. x < 2 ^ 16) ks → length ns ≡ 2 → All (λ x. x < 2 ^ 64) ns
    → 0 < length xs → IsBytes xs → ws ≡ map decimal ks ++ map decimal ns → w ≡ encode_lower xs → ⊥)
    → (event : NodeEvent) → IsEventInRange event → codes "bytes" ∷ (ws ++ w ∷ []) ≡ event_spelling event → ⊥
not_bytes ws w none (Bytes a b d xs) r h =
    let parts = same_from_push ws (map decimal (a ∷ b ∷ d ∷ [])) w (encode_lower xs.items) (tails _ _ _ _ h) in
    none (a ∷ []) (b ∷ d ∷ []) xs.items refl (one_in _ a r.1.0) refl (two_in _ b d r.1.1.0 r.1.1.1.0)
    r.1.1.1.1.0.0 r.1.1.1.1.0.1 parts.0 parts.1
not_bytes ws w none _ r h = absurd (apart _ _ _ _ refl h)

-- the keyword and the words after it spell no event
abbrev pub SpellsNoEvent : List ℕ → List (List ℕ) → Type 0
SpellsNoEvent keyword rest = (e : NodeEvent) → IsEventInRange e → keyword ∷ rest ≡ event_spelling e → ⊥

-- the third of the words after `move` is a prefix
pub not_move : (a b w : List ℕ) (rest : List (List ℕ)) → (IsPlain 255 w → ⊥) → SpellsNoEvent (codes "move") (a ∷ b ∷ w ∷ rest)
not_move a b w rest none (Move _ _ p _ _) r h =
    let same = heads _ _ _ _ (tails _ _ _ _ (tails _ _ _ _ (tails _ _ _ _ h))) in
    none (subst (IsPlain 255) (sym same) r.1.1.1.0)
not_move a b w rest none _ r h = absurd (apart _ _ _ _ refl h)

-- the events of nodes and numbers alone: where their words aren't those, they spell nothing
pub no_start : (rest : List (List ℕ)) → NoFields 1 1 rest → SpellsNoEvent (codes "start") rest
no_start rest none (Start a b) r h = none (a ∷ []) (b ∷ []) refl (one_in _ a r.1.0) refl (one_in _ b r.1.1.0) (tails _ _ _ _ h)
no_start rest none _ r h = absurd (apart _ _ _ _ refl h)

pub no_open : (rest : List (List ℕ)) → NoFields 1 2 rest → SpellsNoEvent (codes "open") rest
no_open rest none (Open a b d) r h =
    none (a ∷ []) (b ∷ d ∷ []) refl (one_in _ a r.1.0) refl (two_in _ b d r.1.1.0 r.1.1.1.0) (tails _ _ _ _ h)
no_open rest none _ r h = absurd (apart _ _ _ _ refl h)

pub no_close : (rest : List (List ℕ)) → NoFields 1 2 rest → SpellsNoEvent (codes "close") rest
no_close rest none (Close a b d) r h =
    none (a ∷ []) (b ∷ d ∷ []) refl (one_in _ a r.1.0) refl (two_in _ b d r.1.1.0 r.1.1.1.0) (tails _ _ _ _ h)
no_close rest none _ r h = absurd (apart _ _ _ _ refl h)

pub no_tick : (rest : List (List ℕ)) → NoFields 1 1 rest → SpellsNoEvent (codes "tick") rest
no_tick rest none (Tick a b) r h = none (a ∷ []) (b ∷ []) refl (one_in _ a r.1.0) refl (one_in _ b r.1.1.0) (tails _ _ _ _ h)
no_tick rest none _ r h = absurd (apart _ _ _ _ refl h)

pub no_ship : (rest : List (List ℕ)) → NoFields 2 1 rest → SpellsNoEvent (codes "ship") rest
no_ship rest none (Ship a b d) r h =
    none (a ∷ b ∷ []) (d ∷ []) refl (two_in _ a b r.1.0 r.1.1.0) refl (one_in _ d r.1.1.1.0) (tails _ _ _ _ h)
no_ship rest none _ r h = absurd (apart _ _ _ _ refl h)

pub no_link : (rest : List (List ℕ)) → NoFields 2 1 rest → SpellsNoEvent (codes "link") rest
no_link rest none (Link a b d) r h =
    none (a ∷ b ∷ []) (d ∷ []) refl (two_in _ a b r.1.0 r.1.1.0) refl (one_in _ d r.1.1.1.0) (tails _ _ _ _ h)
no_link rest none _ r h = absurd (apart _ _ _ _ refl h)

-- another keyword spells no event
pub no_event : (word : List ℕ) (rest : List (List ℕ)) → (word ≡ codes "start" → ⊥) → (word ≡ codes "open" → ⊥)
    → (word ≡ codes "ship" → ⊥) → (word ≡ codes "bytes" → ⊥) → (word ≡ codes "evict" → ⊥) → (word ≡ codes "close" → ⊥)
    → (word ≡ codes "tick" → ⊥) → (word ≡ codes "link" → ⊥) → (word ≡ codes "move" → ⊥) → SpellsNoEvent word rest
no_event word rest s o h b v q t l m (Start _ _) r e = s (heads _ _ _ _ e)
no_event word rest s o h b v q t l m (Open _ _ _) r e = o (heads _ _ _ _ e)
no_event word rest s o h b v q t l m (Ship _ _ _) r e = h (heads _ _ _ _ e)
no_event word rest s o h b v q t l m (Bytes _ _ _ _) r e = b (heads _ _ _ _ e)
no_event word rest s o h b v q t l m (Evict _ _ _) r e = v (heads _ _ _ _ e)
no_event word rest s o h b v q t l m (Close _ _ _) r e = q (heads _ _ _ _ e)
no_event word rest s o h b v q t l m (Tick _ _) r e = t (heads _ _ _ _ e)
no_event word rest s o h b v q t l m (Link _ _ _) r e = l (heads _ _ _ _ e)
no_event word rest s o h b v q t l m (Move _ _ _ _ _) r e = m (heads _ _ _ _ e)

-- the keyword and the words after it spell no command
abbrev pub SpellsNone : List ℕ → List (List ℕ) → Type 0
SpellsNone keyword rest = (c : Command) → IsInRange c → keyword ∷ rest ≡ spelling c → ⊥

-- the lines of nodes and numbers alone
pub no_nodes : (rest : List (List ℕ)) → NoFields 1 0 rest → SpellsNone (codes "nodes") rest
no_nodes rest none (Nodes a) r h = none (a ∷ []) [] refl (one_in _ a r.1.0) refl (none_in _) (tails _ _ _ _ h)
no_nodes rest none (Event e) r h = not_event _ _ e refl h
no_nodes rest none _ r h = absurd (apart _ _ _ _ refl h)

pub no_restart : (rest : List (List ℕ)) → NoFields 1 0 rest → SpellsNone (codes "restart") rest
no_restart rest none (Restart a) r h = none (a ∷ []) [] refl (one_in _ a r.1.0) refl (none_in _) (tails _ _ _ _ h)
no_restart rest none (Event e) r h = not_event _ _ e refl h
no_restart rest none _ r h = absurd (apart _ _ _ _ refl h)

pub no_deliver : (rest : List (List ℕ)) → NoFields 0 2 rest → SpellsNone (codes "deliver") rest
no_deliver rest none (Deliver a b) r h =
    none [] (a ∷ b ∷ []) refl (none_in _) refl (two_in _ a b r.1.0 r.1.1.0) (tails _ _ _ _ h)
no_deliver rest none (Event e) r h = not_event _ _ e refl h
no_deliver rest none _ r h = absurd (apart _ _ _ _ refl h)

-- an event is spelled by two words at least
event_length : (e : NodeEvent) → 1 < length (event_spelling e)
event_length (Start _ _) = omega arith
event_length (Open _ _ _) = omega arith
event_length (Bytes _ _ _ _) = omega arith
event_length (Close _ _ _) = omega arith
event_length (Ship _ _ _) = omega arith
event_length (Link _ _ _) = omega arith
event_length (Tick _ _) = omega arith
event_length (Evict _ _ _) = omega arith
event_length (Move _ _ _ _ _) = omega arith

-- a crash line has the side and an event after its keyword
pub no_crash_of_few : (rest : List (List ℕ)) → length rest < 2 → SpellsNone (codes "crash") rest
no_crash_of_few rest few (CrashBefore e) r h = let long = event_length e in
    let same = ap length (tails _ _ _ _ h) in absurd (omega (arith, few, long, same))
no_crash_of_few rest few (CrashAfter e) r h = let long = event_length e in
    let same = ap length (tails _ _ _ _ h) in absurd (omega (arith, few, long, same))
no_crash_of_few rest few (Event e) r h = not_event _ _ e refl h
no_crash_of_few rest few _ r h = absurd (apart _ _ _ _ refl h)

-- no event after the side
pub no_crash_event : (side keyword : List ℕ) (rest : List (List ℕ)) → SpellsNoEvent keyword rest
    → SpellsNone (codes "crash") (side ∷ keyword ∷ rest)
no_crash_event side keyword rest none (CrashBefore e) r h = none e r.1.1 (tails _ _ _ _ (tails _ _ _ _ h))
no_crash_event side keyword rest none (CrashAfter e) r h = none e r.1.1 (tails _ _ _ _ (tails _ _ _ _ h))
no_crash_event side keyword rest none (Event e) r h = not_event _ _ e refl h
no_crash_event side keyword rest none _ r h = absurd (apart _ _ _ _ refl h)

-- another side
pub no_crash_side : (side : List ℕ) (rest : List (List ℕ)) → (side ≡ codes "before" → ⊥) → (side ≡ codes "after" → ⊥)
    → SpellsNone (codes "crash") (side ∷ rest)
no_crash_side side rest before after (CrashBefore e) r h = before (heads _ _ _ _ (tails _ _ _ _ h))
no_crash_side side rest before after (CrashAfter e) r h = after (heads _ _ _ _ (tails _ _ _ _ h))
no_crash_side side rest before after (Event e) r h = not_event _ _ e refl h
no_crash_side side rest before after _ r h = absurd (apart _ _ _ _ refl h)

-- another keyword, and no event
pub no_other : (word : List ℕ) (rest : List (List ℕ)) → (word ≡ codes "nodes" → ⊥) → (word ≡ codes "home" → ⊥)
    → (word ≡ codes "crash" → ⊥) → (word ≡ codes "restart" → ⊥) → (word ≡ codes "deliver" → ⊥) → SpellsNoEvent word rest
    → SpellsNone word rest
no_other word rest n m k s d none (Nodes _) r e = n (heads _ _ _ _ e)
no_other word rest n m k s d none (Home _ _) r e = m (heads _ _ _ _ e)
no_other word rest n m k s d none (Event event) r e = none event r e
no_other word rest n m k s d none (CrashBefore _) r e = k (heads _ _ _ _ e)
no_other word rest n m k s d none (CrashAfter _) r e = k (heads _ _ _ _ e)
no_other word rest n m k s d none (Restart _) r e = s (heads _ _ _ _ e)
no_other word rest n m k s d none (Deliver _ _) r e = d (heads _ _ _ _ e)
