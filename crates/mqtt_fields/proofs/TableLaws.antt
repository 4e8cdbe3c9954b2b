-- Looking an identifier up by the index finds its line of the table.
use Rattle.std.proofs.Common.{◌≡◌, ℕ, zero, suc, ◌+◌, ◌<◌, true, eqb, ltb, ◌&&◌, List, [], ◌∷◌, length, get_or, Some, None, inl, inr, refl, sym, arith}
use Rattle.std.specs.Prelude.{IsTrue, find, ◌==◌, slice_index}
use Rattle.std.proofs.lemmas.Bool.{eqb-true, eq-eqb, ltb-true, and_parts, cases_Bool}
use Rattle.mqtt_fields.specs.declared.table.Entry.{Entry}
use Rattle.mqtt_fields.specs.Table.{is_indexed}

record IsLine (k : ℕ) (lines : List ℕ) (id : ℕ) : Type 0 where
  within : id < length lines
  line : slice_index lines id ≡ k

first_line : (k : ℕ) (e : Entry) (es : List Entry) (lines : List ℕ) → IsTrue (is_indexed k (e ∷ es) lines) → IsLine k lines e.id
first_line k e es lines h =
    let parts = and_parts (ltb e.id (length lines) && eqb (slice_index lines e.id) k) (is_indexed (suc k) es lines) h in
    let own = and_parts (ltb e.id (length lines)) (eqb (slice_index lines e.id) k) parts.0 in
    record { within = ltb-true e.id (length lines) own.0; line = eqb-true (slice_index lines e.id) k own.1 }

later_lines : (k : ℕ) (e : Entry) (es : List Entry) (lines : List ℕ) → IsTrue (is_indexed k (e ∷ es) lines) → IsTrue (is_indexed (suc k) es lines)
later_lines k e es lines h =
    (and_parts (ltb e.id (length lines) && eqb (slice_index lines e.id) k) (is_indexed (suc k) es lines) h).1

line_at : (k : ℕ) (table : List Entry) (lines : List ℕ) (i : ℕ) (d : Entry) → IsTrue (is_indexed k table lines) → i < length table → slice_index lines (get_or table i d).id ≡ k + i
line_at k [] lines i d h lt = absurd (omega arith)
line_at k (e ∷ es) lines zero d h lt = omega (arith, (first_line k e es lines h).line)
line_at k (e ∷ es) lines (suc i) d h lt = omega (arith, line_at (suc k) es lines i d (later_lines k e es lines h) (omega arith))

-- the line that an index names, if it is the identifier's
pub found_from : (k : ℕ) (table : List Entry) (lines : List ℕ) (i id : ℕ) (d : Entry) → IsTrue (is_indexed k table lines) → i < length table → (get_or table i d).id ≡ id
    → find (λ e. e.id == id) table ≡ Some (get_or table i d)
found_from k [] lines i id d h lt same = absurd (omega arith)
found_from k (e ∷ es) lines zero id d h lt same = let t : eqb e.id id ≡ true = eq-eqb e.id id same in rw t refl
found_from k (e ∷ es) lines (suc i) id d h lt same =
    elim (cases_Bool (eqb e.id id)) [
      | inl t ↦
          let at_first : slice_index lines id ≡ k = rw (sym (eqb-true e.id id t)) ((first_line k e es lines h).line) in
          let at_last : slice_index lines id ≡ suc k + i = rw (sym same) (line_at (suc k) es lines i d (later_lines k e es lines h) (omega arith)) in
          absurd (omega arith)
      | inr f ↦ rw f (found_from (suc k) es lines i id d (later_lines k e es lines h) (omega arith) same)
    ]

-- no line, if the index names none that is the identifier's
pub none_from : (k : ℕ) (table : List Entry) (lines : List ℕ) (id : ℕ) (d : Entry) → IsTrue (is_indexed k table lines)
    → ((i : ℕ) → i < length table → id < length lines → slice_index lines id ≡ k + i → (get_or table i d).id ≡ id → ⊥)
    → find (λ e. e.id == id) table ≡ None
none_from k [] lines id d h never = refl
none_from k (e ∷ es) lines id d h never =
    elim (cases_Bool (eqb e.id id)) [
      | inl t ↦
          let same = eqb-true e.id id t in
          let own = first_line k e es lines h in
          absurd (never 0 (omega arith) (rw (sym same) own.within) (rw (sym same) (omega (arith, own.line))) same)
      | inr f ↦ rw f (none_from (suc k) es lines id d (later_lines k e es lines h) (λ i lt inside line same. never (suc i) (omega arith) inside (omega (arith, line)) same))
    ]
