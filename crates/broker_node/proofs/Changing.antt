-- What a step changes differs, where two of its acts don't alter it.
use Rattle.std.proofs.Common.{◌≡◌, ◌≢◌, inl, inr, ℕ, List, [], ◌∷◌, Option, Some, None, refl, sym, ap, subst, ◌∙◌}
use Rattle.std.specs.Prelude.{IfSome}
use Rattle.std.proofs.lemmas.Bool.{cases_eq}
use Rattle.node_work.specs.Acts.{Act, Runs, next}
use Rattle.node_work.specs.Lasting.{Alter, AlterTwice, held_row}
use Rattle.node_work.specs.View.{Place, HeldView}
use Rattle.row_store.specs.Leading.{IsNamed, left_by, left_or}
use Rattle.row_store.specs.Rows.{Key}
use Rattle.session_table.specs.Rows.{own_kind}
use Rattle.broker_node.specs.Changes.{ChangesDiffer}
use Rattle.broker_node.proofs.Altering.{same_rows}

-- a row that no act alters stays
stays : (p : Place) (id : ℕ) (acts : List Act) (h h' : HeldView) (key : Key) → Runs p h acts h' → (Alter id h acts key → ⊥) → held_row id h' key ≡ held_row id h key
stays p id [] h h' key r none = ap (λ (v : HeldView). held_row id v key) r
stays p id (a ∷ rest) h h' key r none = elim (same_rows (held_row id (next h a) key) (held_row id h key)) [
  | inl same ↦ stays p id rest (next h a) h' key (subst (λ (v : HeldView). Runs p v rest h') r.1.1 r.2) (λ more. none (inr more)) ∙ same
  | inr other ↦ absurd (none (inl other))
]

-- one that just one act alters is another one afterwards
differs : (p : Place) (id : ℕ) (acts : List Act) (h h' : HeldView) (key : Key) → Runs p h acts h' → Alter id h acts key → (AlterTwice id h acts key → ⊥) → held_row id h' key ≢ held_row id h key
differs p id [] h h' key r a once = absurd a
differs p id (x ∷ rest) h h' key r (inl here) once =
    let runs : Runs p (next h x) rest h' = subst (λ (v : HeldView). Runs p v rest h') r.1.1 r.2 in
    λ same. here (sym (stays p id rest (next h x) h' key runs (λ more. once (inl (here, more)))) ∙ same)
differs p id (x ∷ rest) h h' key r (inr more) once =
    let runs : Runs p (next h x) rest h' = subst (λ (v : HeldView). Runs p v rest h') r.1.1 r.2 in
    elim (same_rows (held_row id (next h x) key) (held_row id h key)) [
      | inl same ↦ λ e. differs p id rest (next h x) h' key runs more (λ twice. once (inr twice)) (e ∙ sym same)
      | inr other ↦ absurd (once (inl (other, more)))
    ]

pub changes_differ : ChangesDiffer
changes_differ n e outputs changes n' d key once = by (left_by changes key) refl
  where
    alone : key.0 ≢ own_kind → AlterTwice n.place.id d.before d.acts key → ⊥
    alone other = elim once [ inl own ↦ absurd (other own) | inr o ↦ o ]

    by : (l : Option (Option (List ℕ))) → left_by changes key ≡ l → IfSome l (λ left. left ≢ held_row n.place.id d.before key)
    by None is = tt
    by (Some left) is = elim (cases_eq key.0 own_kind) [
      | inl own ↦ subst (λ l. IfSome l (λ x. x ≢ held_row n.place.id d.before key)) is (d.differ key own)
      | inr other ↦
          let named : IsNamed changes key = λ none. (let z : Some left ≡ None = sym is ∙ none in cc) in
          let leads : held_row n.place.id d.after key ≡ left = d.leads key ∙ ap (λ l. left_or l (held_row n.place.id d.before key)) is in
          λ same. differs n.place n.place.id d.acts d.before d.after key d.steps.runs (d.altered key other named) (alone other) (leads ∙ same)
    ]
