-- Rows of a journal that are read one after another.
use Rattle.std.proofs.Common.{◌≡◌, ◌<◌, ◌+◌, ◌^◌, ℕ, zero, suc, length, get_or, true, false, cond, None, Result, Ok, Err, IfOk, OnOk, List, [], ◌∷◌, ◌++◌, map, take, drop, refl, sym, ap, subst, ◌∙◌, arith, eq-eqb, nat_eq}
use Rattle.std.specs.List.{AllByRecursion}
use Rattle.std.specs.FinMap.{entries, entries_sorted, get-entries}
use Rattle.std.specs.FinMap.Entries.{find-where_key, is_sorted-where_key}
use Rattle.row_store.proofs.Keys.{exact_keys}
use Rattle.row_store.proofs.Sorted.{entries_are}
use Rattle.std.proofs.lemmas.List.Elements.{filter-append}
use Rattle.std.proofs.lemmas.List.{map-append, take-append-drop, take_more}
use Rattle.row_store.specs.declared.row.Change.{Change}
use Rattle.row_store.specs.declared.row.Row.{Row}
use Rattle.row_store.specs.declared.store.RowFault.{RowFault}
use Rattle.row_store.specs.Rows.{Key, Plain, Content, entry_of, key_cmp}
use Rattle.row_store.specs.Noted.{Pair, pair_of}
use Rattle.std.specs.Int.{w64}
use Rattle.std.specs.Prelude.{IsTrue}
use Rattle.std.proofs.lemmas.Bool.{eqb-true}
use Rattle.mqtt_fields.specs.Field.{IsBytes}
use Rattle.mqtt_fields.specs.Numbers.{number}
use Rattle.mqtt_fields.proofs.NumberLaws.{number_is, wide64}
use Rattle.mqtt_fields.proofs.Whole.{IsWhole, one_value, whole_found, whole_same}
use Rattle.row_journal.proofs.TurnLaws.{turn_is}
use Rattle.row_journal.specs.Spelling.{turn}
use Rattle.row_journal.specs.Journal.{AreOthers, IsJournaled, IsNoted, after_pairs, entry_key, is_entry, journal, names, others}
use Rattle.row_journal.specs.Reading.{AreTurns, IsEntry, IsRead, entries_in, numbered}
use Rattle.row_journal.proofs.JournalLaws.{flat_more, length_more, all_more}
use Rattle.row_journal.proofs.ShownLaws.{get_journal, journal_rows, rows_are}

pub entries_are_those : (c : Content) → entries (journal c) ≡ entries_in (entries c)
entries_are_those c = entries_are (journal c) (entries_in (entries c)) (is_sorted-where_key key_cmp is_entry (entries c) (entries_sorted c))
    (λ q. get_journal c q ∙ ap (λ o. cond (is_entry q) o None) (get-entries c q) ∙ sym (find-where_key key_cmp is_entry q (λ x e. ap is_entry (sym (exact_keys q x e))) (entries c)))

-- ---- what was read

pub nothing_read : IsRead [] [] 0
nothing_read = record { turns = []; counted = refl; rows_are = refl; fit = tt; are = refl; plain = tt }

-- a row of another kind
pub other_read : (rows : List Plain) (row : Plain) (noted : List Change) (count : ℕ) → is_entry row.0 ≡ false → IsRead rows noted count → IsRead (rows ++ row ∷ []) noted count
other_read rows row noted count other r = record {
  turns = r.turns;
  counted = r.counted;
  rows_are = filter-append (λ x. is_entry x.0) rows (row ∷ []) ∙ ap (λ b. entries_in rows ++ cond b (row ∷ []) []) other ∙ unappended (entries_in rows) ∙ r.rows_are;
  fit = r.fit;
  are = r.are;
  plain = r.plain;
}
  where
    unappended : (xs : List Plain) → xs ++ [] ≡ xs
    unappended [] = refl
    unappended (x ∷ xs) = ap (λ ys. x ∷ ys) (unappended xs)

numbered_more : (n : ℕ) (ts : List (List Pair)) (t : List Pair) → numbered n (ts ++ t ∷ []) ≡ numbered n ts ++ (entry_key (n + length ts), turn.bytes t) ∷ []
numbered_more n [] t = ap (λ k. (entry_key k, turn.bytes t) ∷ []) (none n)
  where
    none : (k : ℕ) → k ≡ k + 0
    none k = omega arith
numbered_more n (x ∷ ts) t = ap (λ rows. (entry_key n, turn.bytes x) ∷ rows) (numbered_more (suc n) ts t ∙ ap (λ k. numbered (suc n) ts ++ (entry_key k, turn.bytes t) ∷ []) (one n (length ts)))
  where
    one : (k l : ℕ) → suc k + l ≡ k + suc l
    one k l = omega arith

both_plain : (us vs : List Pair) → AreOthers us → AreOthers vs → AreOthers (us ++ vs)
both_plain [] vs a b = b
both_plain (u ∷ us) vs a b = (a.0, both_plain us vs a.1 b)

-- the next row of the journal
pub entry_read : (rows : List Plain) (row : Plain) (noted more : List Change) (count : ℕ) (changes : List Pair) → IsRead rows noted count → IsEntry row count changes
    → map pair_of more ≡ map pair_of noted ++ changes → IsRead (rows ++ row ∷ []) more (count + 1)
entry_read rows row noted more count changes r e are = record {
  turns = r.turns ++ changes ∷ [];
  counted = length_more r.turns changes ∙ ap (λ k. k + 1) r.counted;
  rows_are = filter-append (λ x. is_entry x.0) rows (row ∷ []) ∙ ap (λ b. entries_in rows ++ cond b (row ∷ []) []) (ap (λ (x : Plain). is_entry x.0) e.is)
      ∙ (λ i. r.rows_are i ++ e.is i ∷ []) ∙ ap (λ k. numbered 0 r.turns ++ (entry_key k, turn.bytes changes) ∷ []) (sym r.counted ∙ from_0 (length r.turns)) ∙ sym (numbered_more 0 r.turns changes);
  fit = all_more turn.Fits r.turns changes r.fit e.fits;
  are = are ∙ ap (λ ps. ps ++ changes) r.are ∙ sym (flat_more r.turns changes);
  plain = subst AreOthers (sym are) (both_plain (map pair_of noted) changes r.plain e.plain);
}
  where
    from_0 : (k : ℕ) → k ≡ 0 + k
    from_0 k = omega arith

-- ---- the next row of a journal can be read

at_end : {A : Type 0} (xs : List A) (x d : A) (ys : List A) → get_or ((xs ++ x ∷ []) ++ ys) (length xs) d ≡ x
at_end [] x d ys = refl
at_end (z ∷ xs) x d ys = at_end xs x d ys

numbered_at : (n k : ℕ) (ts : List (List Pair)) (d : Plain) → k < length ts → get_or (numbered n ts) k d ≡ (entry_key (n + k), turn.bytes (get_or ts k []))
numbered_at n k [] d low = absurd (omega (arith, low))
numbered_at n zero (t ∷ ts) d low = ap (λ k. (entry_key k, turn.bytes t)) (none n)
  where
    none : (k : ℕ) → k ≡ k + 0
    none k = omega arith
numbered_at n (suc k) (t ∷ ts) d low = numbered_at (suc n) k ts d (omega (arith, low)) ∙ ap (λ m. (entry_key m, turn.bytes (get_or ts k []))) (one n k)
  where
    one : (k l : ℕ) → suc k + l ≡ k + suc l
    one k l = omega arith

length_numbered : (n : ℕ) (ts : List (List Pair)) → length (numbered n ts) ≡ length ts
length_numbered n [] = refl
length_numbered n (t ∷ ts) = ap suc (length_numbered (suc n) ts)

all_at : (P : List Pair → Type 0) (ts : List (List Pair)) (k : ℕ) → AllByRecursion P ts → k < length ts → P (get_or ts k [])
all_at P [] k all low = absurd (omega (arith, low))
all_at P (t ∷ ts) zero all low = all.0
all_at P (t ∷ ts) (suc k) all low = all_at P ts k all.1 (omega (arith, low))

long : {A : Type 0} (xs ys : List A) (x : A) → length xs < length ((xs ++ x ∷ []) ++ ys)
long [] ys x = omega arith
long (z ∷ xs) ys x = omega (arith, long xs ys x)

pub next_entry : (rows rest : List Plain) (row : Plain) (noted : List Change) (count : ℕ) → IsRead rows noted count → is_entry row.0 ≡ true
    → (a : AreTurns ((rows ++ row ∷ []) ++ rest)) → IsEntry row count (get_or a.turns count [])
next_entry rows rest row noted count r is a =
    let before = entries_in rows in
    let after = entries_in rest in
    let split : (before ++ row ∷ []) ++ after ≡ numbered 0 a.turns =
    sym (filter-append (λ x. is_entry x.0) (rows ++ row ∷ []) rest ∙ ap (λ xs. xs ++ after) (filter-append (λ x. is_entry x.0) rows (row ∷ []) ∙ ap (λ b. before ++ cond b (row ∷ []) []) is)) ∙ a.rows_are in
    let many : length before ≡ count = ap length r.rows_are ∙ length_numbered 0 r.turns ∙ r.counted in
    let low : count < length a.turns = omega (arith, long before after row, ap length split, length_numbered 0 a.turns, many) in
    record {
      is = sym (at_end before row row after) ∙ ap (λ xs. get_or xs (length before) row) split ∙ ap (λ k. get_or (numbered 0 a.turns) k row) many
          ∙ numbered_at 0 count a.turns row low ∙ ap (λ k. (entry_key k, turn.bytes (get_or a.turns count []))) (from_0 count);
      fits = all_at turn.Fits a.turns count a.fit low;
      plain = all_at AreOthers a.turns count a.plain low;
    }
  where
    from_0 : (k : ℕ) → 0 + k ≡ k
    from_0 k = omega arith

-- ---- the rows of a store

pub read_noted : (c : Content) (rows : List Plain) (noted : List Change) (count : ℕ) → rows ≡ entries c → count < 2 ^ 64 → IsRead rows noted count → IsNoted c noted count
read_noted c rows noted count are few r = record {
  turns = r.turns;
  few = omega (arith, few);
  has = rows_are c r.turns (omega (arith, few, r.counted)) r.fit (entries_are_those c ∙ ap entries_in (sym are) ∙ r.rows_are);
  counted = r.counted;
  leave = ap (after_pairs (others c)) r.are;
  named = λ q is. ap (λ ps. names ps q) (sym r.are) ∙ is;
  plain = r.plain;
}

pub journaled_turns : (c : Content) (rows : List Plain) → rows ≡ entries c → IsJournaled c → AreTurns rows
journaled_turns c rows are j = record {
  turns = j.turns;
  rows_are = ap entries_in are ∙ sym (entries_are_those c) ∙ journal_rows c j.turns (omega (arith, j.few)) j.has;
  fit = j.has.fit;
  plain = j.plain;
}

-- ---- numbers that take all of some bytes

pub is_number : (bs : List ℕ) (m : ℕ) (rest : List ℕ) (n : ℕ) → n < 2 ^ 64 → IsBytes bs → (number w64).at bs ≡ Ok (m, rest) → length rest ≡ 0
    → (IsTrue (nat_eq m n) → bs ≡ (number w64).bytes n) × (bs ≡ (number w64).bytes n → IsTrue (nat_eq m n))
is_number bs m rest n small bytes at none = (
  λ tie. (whole_found (number w64) (number_is w64 wide64) bs (m, rest) bytes at none).0 ∙ ap (number w64).bytes (eqb-true m n tie),
  λ is. eq-eqb m n (ap (λ x. x.0) (whole_same (number w64) (number_is w64 wide64) bs (m, rest) at n (is, omega (arith, small)))),
)

-- ---- a row

pub an_entry : (key : Key) (value : List ℕ) (number : ℕ) (changes : List Pair) → key ≡ entry_key number → IsWhole turn turn_is value changes → AreOthers changes → IsEntry (key, value) number changes
an_entry key value number changes is whole plain = record { is = λ i. (is i, whole.0 i); fits = whole.1; plain = plain }

-- of a row of the journal the key is that number's, and the bytes are its changes
pub entry_whole : (key : Key) (value : List ℕ) (number : ℕ) (changes : List Pair) → IsEntry (key, value) number changes → (key ≡ entry_key number) × IsWhole turn turn_is value changes
entry_whole key value number changes e = (ap (λ (x : Plain). x.0) e.is, (ap (λ (x : Plain). x.1) e.is, e.fits))

-- bytes that are changes of which one names the journal's kind are no row of it
pub not_plain : (key : Key) (value : List ℕ) (number : ℕ) (these changes : List Pair) → IsWhole turn turn_is value these → (AreOthers these → ⊥) → IsEntry (key, value) number changes → ⊥
not_plain key value number these changes whole other e =
    let w = (entry_whole key value number changes e).1 in
    other (subst AreOthers (sym (one_value turn turn_is these changes whole.1 e.fits (sym whole.0 ∙ w.0))) e.plain)

-- ---- one row after another

pub entry_step : (result : Result (Unit {0}) RowFault) (row : Plain) (noted more : List Change) (count next : ℕ)
    → OnOk result ((changes : List Pair) × IsEntry row count changes × (map pair_of more ≡ map pair_of noted ++ changes)) → OnOk result (next ≡ count + 1)
    → OnOk result ((rows : List Plain) → IsRead rows noted count → IsRead (rows ++ row ∷ []) more next)
entry_step (Ok x) row noted more count next read is = λ rows r. subst (λ k. IsRead (rows ++ row ∷ []) more k) (sym is) (entry_read rows row noted more count read.0 r read.1 read.2)
entry_step (Err f) row noted more count next read is = tt

pub taken_more : (rows : List Row) (i : ℕ) (row : Row) → i < length rows → row ≡ get_or rows i row → map entry_of (take (i + 1) rows) ≡ map entry_of (take i rows) ++ entry_of row ∷ []
taken_more rows i row low is = ap (map entry_of) (take_more rows i row low) ∙ map-append entry_of (take i rows) (get_or rows i row ∷ []) ∙ ap (λ x. map entry_of (take i rows) ++ entry_of x ∷ []) (sym is)

-- all rows, cut behind one
pub cut_behind : (rows : List Row) (i : ℕ) (row : Row) → i < length rows → row ≡ get_or rows i row
    → map entry_of rows ≡ (map entry_of (take i rows) ++ entry_of row ∷ []) ++ map entry_of (drop (i + 1) rows)
cut_behind rows i row low is = ap (map entry_of) (sym (take-append-drop (i + 1) rows)) ∙ map-append entry_of (take (i + 1) rows) (drop (i + 1) rows)
    ∙ ap (λ xs. xs ++ map entry_of (drop (i + 1) rows)) (taken_more rows i row low is)

pub both_ok : {X Y : Type 0} (r : Result X Y) (P Q : X → Type 0) → IfOk r P → IfOk r Q → IfOk r (λ x. P x × Q x)
both_ok (Ok x) P Q p q = (p, q)
both_ok (Err e) P Q p q = tt

fault_in : {X : Type 0} → RowFault → Result X RowFault → RowFault
fault_in d (Ok x) = d
fault_in d (Err f) = f

pub same_fault : {X : Type 0} (f g : RowFault) → ◌≡◌ {A = Result X RowFault} (Err f) (Err g) → f ≡ g
unfolding fault_in
same_fault f g is = ap (fault_in f) is
