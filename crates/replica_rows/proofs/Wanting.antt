-- Which rows want memory.
use Rattle.std.proofs.Common.{◌≡◌, ◌≢◌, ◌⊎◌, inl, inr, ℕ, zero, suc, ◌<◌, ◌≤◌, ◌^◌, if◌then◌else◌, List, [], ◌∷◌, length, get_or, None, Some, Result, Ok, Err, sym, ap, subst, ◌∙◌, arith}
use Rattle.std.specs.Prelude.{IsUtf8, Contains, ◌==◌, not}
use Rattle.std.specs.Int.{w32}
use Rattle.std.specs.List.{list_all}
use Rattle.std.specs.FinSet as set
use Rattle.mqtt_fields.specs.declared.fault.FieldFault.{FieldFault}
use Rattle.mqtt_fields.specs.declared.fault.FieldFault.TheVariants.{Malformed, NoMemory}
use Rattle.mqtt_fields.specs.Reading.{◌>>=◌}
use Rattle.mqtt_fields.specs.Numbers.{number, IsText}
use Rattle.mqtt_fields.proofs.Laws.{bind_ok, ok_is}
use Rattle.mqtt_fields.proofs.TextLaws.{is_text_from, some_zero}
use Rattle.mqtt_fields.proofs.Whole.{err_ok, whole_only}
use Rattle.causal_context.specs.Dots.{Dot, Dots}
use Rattle.causal_context.specs.declared.ranges.Range.{Range}
use Rattle.causal_context.specs.Ranges.{set_of}
use Rattle.causal_context.specs.Spelling.{context, range, ranges, ranges_at, may_follow, with_first, is_of_dots, HasFirst, WantsMemory}
use Rattle.causal_context.proofs.RangeSets.{set_of_none}
use Rattle.causal_context.proofs.SpellingLaws.{context_is}
use Rattle.subscription_set.specs.declared.entry.Entry.{Entry}
use Rattle.row_store.specs.declared.row.Row.{Row}
use Rattle.row_store.specs.Rows.{Plain, entry_of}
use Rattle.replica_rows.specs.Memory.{FirstWants, RowWants}
use Rattle.replica_rows.specs.ReadingSteps.{IsDots, IsSubscription, IsTopic, Topic}
use Rattle.replica_rows.proofs.Saying.{by_bool}

-- ---- dots

abbrev Read : Type 0
Read = List Range × List ℕ

no_ranges : (rs : List Range) (ds : Dots) → ds ≡ set_of rs → rs ≡ [] → ds ≡ set.empty
no_ranges rs ds made none = made ∙ set_of_none rs none

-- of so many ranges that were read there is a first
first_of_them : (n : ℕ) (bs : List ℕ) (x : Read) → ranges_at n None bs ≡ Ok x → (x.0 ≡ [] → ⊥) → HasFirst n bs
first_of_them zero bs x e some = absurd (some (sym (ap (λ (y : Read). y.0) (ok_is ([], bs) x e))))
first_of_them (suc n) bs x e some =
    let r = bind_ok (range.at bs) (λ y. if may_follow None y.0 then (ranges_at n (Some y.0) y.1 >>= with_first y.0) else Err Malformed) x e in
    record {
      some = omega arith;
      first = r.0.0;
      rest = r.0.1;
      read = r.1;
      fine = by_bool (is_of_dots r.0.0) (λ t. t) (λ f. absurd (err_ok Malformed x (sym (ap (λ b. if b then (ranges_at n (Some r.0.0) r.0.1 >>= with_first r.0.0) else Err Malformed) f) ∙ r.2)));
    }

context_wants : (bs : List ℕ) (x : Dots × List ℕ) → context.at bs ≡ Ok x → x.0 ≢ set.empty → WantsMemory bs
unfolding context ranges
context_wants bs x e some =
    let rs = bind_ok (ranges.at bs) (λ y. Ok (set_of y.0, y.1)) x e in
    let n = bind_ok ((number w32).at bs) (λ n. ranges_at n.0 None n.1) rs.0 rs.1 in
    let made : Dots × List ℕ = (set_of rs.0.0, rs.0.1) in
    record {
      count = n.0.0;
      more = n.0.1;
      counted = n.1;
      first = first_of_them n.0.0 n.0.1 rs.0 n.2 (λ none. some (no_ranges rs.0.0 x.0 (sym (ap (λ (y : Dots × List ℕ). y.0) (ok_is made x rs.2))) none));
    }

pub dots_want : (row : Plain) (x : ℕ × Dots) → IsDots row x → RowWants row
unfolding context
dots_want row x is =
    let read = whole_only context context_is row.1 x.1 (ap (λ (r : Plain). r.1) is.is, is.spelled) in
    inr (inr (ap (λ (r : Plain). r.0.0) is.is, ap (λ (r : Plain). r.0.1.0) is.is, context_wants row.1 (x.1, []) read is.some))

-- ---- subscriptions and topics

pub subscription_wants : (row : Plain) (x : Dot × Entry) → IsSubscription row x → RowWants row
subscription_wants row x is = inl (ap (λ (r : Plain). r.0.0) is.is, subst IsText (sym (ap (λ (r : Plain). r.0.1.0) is.is)) is.client)

pub topic_wants : (row : Plain) (x : Topic) → IsTopic row x → RowWants row
topic_wants row x is = inr (inl (ap (λ (r : Plain). r.0.0) is.is, ap (λ (r : Plain). r.0.1.1) is.is, subst IsText (sym (ap (λ (r : Plain). r.0.1.0) is.is)) is.topic.0))

-- ---- the first row

pub first_wants : (rows : List Row) (i : ℕ) (r : Row) → i < length rows → r ≡ get_or rows i r → (i ≡ 0) ⊎ FirstWants rows → RowWants (entry_of r) → FirstWants rows
first_wants [] i r lt at so wants = absurd (omega (arith, lt))
first_wants (x ∷ rows) i r lt at (inr h) wants = h
first_wants (x ∷ rows) i r lt at (inl none) wants = subst (λ y. RowWants (entry_of y)) (at ∙ ap (λ n. get_or (x ∷ rows) n r) none) wants

-- all rows have been read
pub all_begun : (rows : List Row) (i : ℕ) → length rows ≤ i → (i ≡ 0) ⊎ FirstWants rows → 0 < length rows → FirstWants rows
all_begun rows i end (inr h) some = h
all_begun rows i end (inl none) some = absurd (omega (arith, end, none, some))

-- ---- texts

pub fits_text : (bs : List ℕ) → IsUtf8 bs → (((2 ^ 16 ≤ length bs) ⊎ Contains bs 0) → ⊥) → IsText bs
fits_text bs utf8 fine = (
  (let short : 2 ^ 16 ≤ length bs → ⊥ = λ long. fine (inl long) in omega (arith, short)),
  is_text_from bs utf8 (by_bool (list_all (λ b. not (b == 0)) bs) (λ t. t) (λ f. absurd (fine (inr (some_zero bs f))))),
)

pub one_fault : {A : Type 0} (r : Result A FieldFault) → r ≡ Err Malformed → r ≡ Err NoMemory → ⊥
one_fault r a b = (let both = sym a ∙ b in cc)
