-- What rows say, one after another.
use Rattle.std.proofs.Common.{◌≡◌, ◌⊎◌, inl, inr, ℕ, Bool, true, false, cond, List, Option, Some, None, is_some, Err, refl, sym, ap, ◌∙◌, true≢false}
use Rattle.std.specs.Ordering.{is_eq}
use Rattle.std.specs.Map.{lookup}
use Rattle.std.specs.FinMap as map
use Rattle.mqtt_fields.specs.declared.fault.FieldFault.{FieldFault}
use Rattle.mqtt_fields.specs.declared.fault.FieldFault.TheVariants.{Short, Malformed, Repeated, NotHere, NoMemory}
use Rattle.causal_context.specs.Dots.{Dot, Dots, dot_cmp, dot_cmp_total, dot_cmp_antisym}
use Rattle.subscription_set.specs.declared.entry.Entry.{Entry}
use Rattle.law_maps.proofs.Tables.{get_table, insert_table}
use Rattle.replica_bytes.specs.Values.{dot}
use Rattle.replica_bytes.proofs.Wholes.{dot_is}
use Rattle.mqtt_fields.specs.Reading.{Finds}
use Rattle.row_store.specs.Rows.{Plain}
use Rattle.replica_rows.specs.ReadingSteps.{IsDots, IsSubscription, NoDots, NoSubscription, TakesSubscription}
use Rattle.replica_rows.proofs.Keyed.{one_value}

abbrev pub Pairs : Type 0
Pairs = List (Dot × Entry)

-- a row has one dot
pub one_dot : (row : Plain) (x y : Dot × Entry) → IsSubscription row x → IsSubscription row y → x.0 ≡ y.0
one_dot row x y a b = one_value dot dot_is x.0 y.0 a.dot b.dot (ap (λ (r : Plain). r.0.1.1) (sym a.is ∙ b.is))

none_some : {A : Type 0} (o : Option A) → o ≡ None → is_some o ≡ true → ⊥
none_some None e h = absurd (true≢false (sym h))
none_some (Some a) e h = cc

not_some : {A : Type 0} (o : Option A) → is_some o ≡ false → o ≡ None
not_some None e = refl
not_some (Some a) e = absurd (true≢false e)

abbrev pub looked : Dot → Pairs → Option Entry
looked q es = lookup (λ k. is_eq (dot_cmp q k)) es

pub taken_twice : (row : Plain) (es : Pairs) (x : Dot × Entry) (old : Option Entry) (there : Bool) → IsSubscription row x → old ≡ looked x.0 es → there ≡ is_some old → there ≡ true → NoSubscription row (map.from_entries es)
taken_twice row es x old there is was t so = λ y says fresh.
    none_some old (was ∙ ap (λ q. looked q es) (one_dot row x y is says) ∙ sym (get_table dot_cmp_total es y.0) ∙ fresh) (sym t ∙ so)

pub taken_once : (row : Plain) (es fs : Pairs) (x : Dot × Entry) (old : Option Entry) (there : Bool) → IsSubscription row x → old ≡ looked x.0 es → there ≡ is_some old → there ≡ false
    → ((q : Dot) → looked q fs ≡ cond (is_eq (dot_cmp x.0 q)) (Some x.1) (looked q es)) → TakesSubscription row (map.from_entries es) (map.from_entries fs)
taken_once row es fs x old there is was t so updates = record {
  value = x;
  says = is;
  fresh = get_table dot_cmp_total es x.0 ∙ sym was ∙ not_some old (sym t ∙ so);
  is = insert_table dot_cmp_total dot_cmp_antisym es fs x.0 x.1 updates;
}

-- ---- dots

no_such : (row : Plain) → ((x : ℕ × Dots) → IsDots row x → ⊥) → NoDots row
no_such row none = λ d either. elim either [ inl is ↦ none (1, d) is | inr is ↦ none (2, d) is ]

pub no_dots : (row : Plain) (at : ℕ) (e : FieldFault) → Finds {X = Dots} {A = ℕ × Dots} (λ d. (at, d)) (IsDots row) (Err e) → (e ≡ NoMemory) ⊎ NoDots row
no_dots row at NoMemory none = inl refl
no_dots row at Short none = inr (no_such row none)
no_dots row at Malformed none = inr (no_such row none)
no_dots row at Repeated none = inr (no_such row none)
no_dots row at NotHere none = inr (no_such row none)
