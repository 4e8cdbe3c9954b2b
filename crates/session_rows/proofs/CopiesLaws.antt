-- Rows of copies read one after another.
use Rattle.std.proofs.Common.{◌≡◌, ℕ, suc, ◌<◌, ◌≤◌, List, [], ◌∷◌, ◌++◌, map, length, drop, Option, Some, None, refl, sym, ◌∙◌, ap, append_assoc, subst, add-one, get_or, ◌+◌, take, arith}
use Rattle.std.proofs.lemmas.List.{take_all, take_more}
use Rattle.std.specs.List.{AllByRecursion}
use Rattle.std.specs.Prelude.{option_map}
use Rattle.qos_handshakes.specs.declared.copies.Entry.{Entry}
use Rattle.qos_handshakes.specs.Entries.{Entries}
use Rattle.std.proofs.Math.Seq.{drop-cons}
use Rattle.row_store.specs.declared.row.Row.{Row}
use Rattle.row_store.specs.Rows.{Key, entry_of}
use Rattle.session_rows.specs.Reading.{copy_in, copies_in, HasBytes}

-- what is read, after what was read before
abbrev pub onto : Entries → Option Entries → Option Entries
onto before more = option_map (λ xs. before ++ xs) more

pub onto_none : (o : Option Entries) → onto [] o ≡ o
onto_none None = refl
onto_none (Some xs) = refl

pub onto_end : (before : Entries) → onto before (Some []) ≡ Some (before ++ [])
onto_end before = refl

push : (before : Entries) (x : ℕ × Entry) (o : Option Entries) → onto before (option_map (λ xs. x ∷ xs) o) ≡ onto (before ++ x ∷ []) o
push before x None = refl
push before x (Some xs) = rw (append_assoc before (x ∷ []) xs) refl

pub onto_more : (client : List ℕ) (before : Entries) (e : Key × List ℕ) (es : List (Key × List ℕ)) (x : ℕ × Entry) → copy_in client e ≡ Some x
    → onto before (copies_in client (e ∷ es)) ≡ onto (before ++ x ∷ []) (copies_in client es)
onto_more client before e es x is = rw is (push before x (copies_in client es))

pub onto_stops : (client : List ℕ) (before : Entries) (e : Key × List ℕ) (es : List (Key × List ℕ)) → copy_in client e ≡ None → onto before (copies_in client (e ∷ es)) ≡ None
onto_stops client before e es is = rw is refl

pub onto_next : (client : List ℕ) (rs : List Row) (i : ℕ) (r : Row) (copies new : Entries) (x : ℕ × Entry) (total : Option Entries) → i < length rs → r ≡ get_or rs i r → copy_in client (entry_of r) ≡ Some x → new ≡ copies ++ x ∷ []
    → onto copies (copies_in client (map entry_of (drop i rs))) ≡ total → onto new (copies_in client (map entry_of (drop (i + 1) rs))) ≡ total
onto_next client rs i r copies new x total lt at is made so_far =
    let front : drop i rs ≡ r ∷ drop (suc i) rs = drop-cons rs i r lt ∙ ap (λ y. y ∷ drop (suc i) rs) (sym at) in
    let With : List Row → Type 0 = λ ys. onto copies (copies_in client (map entry_of ys)) ≡ total in
    rw (made, add-one) (sym (onto_more client copies (entry_of r) (map entry_of (drop (suc i) rs)) x is) ∙ subst With front so_far)

bytes_last : (es : List Row) (r : Row) → AllByRecursion HasBytes (map entry_of es) → HasBytes (entry_of r) → AllByRecursion HasBytes (map entry_of (es ++ r ∷ []))
bytes_last [] r h last = (last, tt)
bytes_last (e ∷ es) r h last = (h.0, bytes_last es r h.1 last)

pub bytes_next : (rs : List Row) (i : ℕ) (r : Row) → i < length rs → r ≡ get_or rs i r → HasBytes (entry_of r) → AllByRecursion HasBytes (map entry_of (take i rs)) → AllByRecursion HasBytes (map entry_of (take (i + 1) rs))
bytes_next rs i r lt at one so_far =
    let more : take (i + 1) rs ≡ take i rs ++ r ∷ [] = take_more rs i r lt ∙ ap (λ y. take i rs ++ y ∷ []) (sym at) in
    rw more (bytes_last (take i rs) r so_far one)

pub bytes_all : (rs : List Row) (i : ℕ) → length rs ≤ i → AllByRecursion HasBytes (map entry_of (take i rs)) → AllByRecursion HasBytes (map entry_of rs)
bytes_all rs i end h = (let all : take i rs ≡ rs = take_all i rs (omega arith) in rw (← all) h)
