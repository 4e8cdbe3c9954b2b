-- The rows of sessions that are edited are those of what is left of the sessions.
use Rattle.std.proofs.Common.{◌≡◌, ◌≢◌, inl, inr, ℕ, ◌<◌, ◌^◌, Bool, true, false, cond, not, ◌&&◌, List, [], ◌∷◌, Option, Some, None, Less, arith, refl, sym, ap, subst, ◌∙◌}
use Rattle.std.specs.Prelude.{nat_le, ◌==◌, option_map, if◌then◌else◌}
use Rattle.std.specs.Cmp.{tied_itself}
use Rattle.std.specs.Cmp.Lexicographic.{nat_list_cmp_total}
use Rattle.std.specs.FinMap.{find, get-from_entries}
use Rattle.std.specs.List.{AllByRecursion}
use Rattle.std.specs.Option.{option_and_then}
use Rattle.std.specs.Str.{bytes_eq}
use Rattle.std.proofs.lemmas.Bool.{and_parts, cases_Bool, ltb-true}
use Rattle.std.proofs.lemmas.Slice.Eq.{bytes_eq-Decides}
use Rattle.bridge_lanes.proofs.Numbers.{bytes_rise}
use Rattle.bridge_lanes.proofs.Order.{IsAbove, Rises, all_turned}
use Rattle.mqtt_message.specs.declared.delivery.Delivery.{Delivery}
use Rattle.node_rows.specs.Rows.{Lasting, session_row}
use Rattle.qos_handshakes.specs.declared.copies.Entry.{Entry}
use Rattle.qos_handshakes.specs.declared.copies.Stage.{Stage}
use Rattle.qos_handshakes.specs.declared.copies.Stage.TheVariants.{Waiting, Published, Released}
use Rattle.qos_handshakes.specs.Entries.{Entries}
use Rattle.qos_handshakes.specs.Outbox.{waits}
use Rattle.qos_handshakes.specs.Restored.{agree, first_place}
use Rattle.row_store.specs.Leading.{left_or}
use Rattle.row_store.specs.Rows.{Key, key_cmp, Plain}
use Rattle.row_store.proofs.Keys.{keys_total}
use Rattle.session_rows.specs.Durable.{Durable, IsDurable}
use Rattle.session_rows.specs.Fields.{Main, copy, copy_of, main}
use Rattle.session_rows.specs.Rows.{copy_key, copy_row, copy_rows, main_key, rows_of}
use Rattle.row_drops.specs.Dropping.{at_client, ended, ended_value, exchanges, is_waiting, queue_edit, session_edit, without_queue}
use Rattle.row_drops.specs.Editing.{Edit, edited, edited_rows, with_row}
use Rattle.row_drops.proofs.Edited.{found_edited, stays}

itself : (client : List ℕ) → bytes_eq client client ≡ true
itself client = (bytes_eq-Decides client client).1 refl

-- ---- the rows of a session rise
places_above : (p next : ℕ) (es : Entries) → p < first_place next es → agree next es ≡ true → AllByRecursion (λ e. p < e.0) es
places_above p next [] low is = tt
places_above p next (e ∷ es) low is =
    let parts = and_parts _ (agree next es) is in
    let below : e.0 < first_place next es = ltb-true _ _ (and_parts _ _ (and_parts (nat_le 1 e.0) _ parts.0).1).0 in
    (low, places_above p next es (omega (arith, low, below)) parts.1)

copy_above : (client : List ℕ) (p q : ℕ) → p < q → q < 2 ^ 64 → key_cmp (copy_key client p) (copy_key client q) ≡ Less
copy_above client p q low small = rw (tied_itself nat_list_cmp_total client) (bytes_rise p q low small)

abbrev AreSmall : Entries → Type 0
AreSmall es = AllByRecursion (λ e. e.0 < 2 ^ 64) es

copies_above : (client : List ℕ) (p : ℕ) (es : Entries) → AllByRecursion (λ e. p < e.0) es → AreSmall es → AllByRecursion (IsAbove (copy_key client p)) (copy_rows client es)
copies_above client p [] above small = tt
copies_above client p (e ∷ es) above small = (copy_above client p e.0 above.0 small.0, copies_above client p es above.1 small.1)

copies_rise : (client : List ℕ) (next : ℕ) (es : Entries) → AreSmall es → agree next es ≡ true → Rises (copy_rows client es)
copies_rise client next [] small is = tt
copies_rise client next (e ∷ es) small is =
    let parts = and_parts _ (agree next es) is in
    let below : e.0 < first_place next es = ltb-true _ _ (and_parts _ _ (and_parts (nat_le 1 e.0) _ parts.0).1).0 in
    (copies_above client e.0 es (places_above e.0 next es below parts.1) small.1, copies_rise client next es small.1 parts.1)

main_below : (client : List ℕ) (es : Entries) → AllByRecursion (IsAbove (main_key client)) (copy_rows client es)
main_below client [] = tt
main_below client (e ∷ es) = (refl, main_below client es)

rows_rise : (d : Durable) → IsDurable d → Rises (rows_of d)
rows_rise d is = (main_below d.client d.copies, copies_rise d.client d.main.next_place d.copies (all_turned _ (λ e. e.0 < 2 ^ 64) d.copies (λ e h. h.0) is.form.copies) is.agree)

-- ---- without those that wait
staged : (s : Stage) (d : Delivery) → is_waiting (copy.bytes (s, d)) ≡ waits s
unfolding copy
staged Waiting d = refl
staged (Published id) d = refl
staged (Released id order) d = refl

queue_at : (client : List ℕ) (e : ℕ × Entry) → queue_edit client (copy_key client e.0) (copy.bytes (copy_of e.1)) ≡ (if waits e.1.stage then Some None else None)
queue_at client e = λ i. if itself client i && staged e.1.stage e.1.delivery i then Some None else None

queue_copies : (client : List ℕ) (es : Entries) → edited_rows (queue_edit client) (copy_rows client es) ≡ copy_rows client (exchanges es)
queue_copies client [] = refl
queue_copies client (e ∷ es) = by (waits e.1.stage) refl (queue_copies client es)
  where
    by : (b : Bool) → waits e.1.stage ≡ b → edited_rows (queue_edit client) (copy_rows client es) ≡ copy_rows client (exchanges es)
        → with_row (copy_key client e.0) (copy.bytes (copy_of e.1)) (queue_edit client (copy_key client e.0) (copy.bytes (copy_of e.1))) (edited_rows (queue_edit client) (copy_rows client es)) ≡ copy_rows client (cond (not b) (e ∷ exchanges es) (exchanges es))
    by true is rest =
        ap (λ o. with_row (copy_key client e.0) (copy.bytes (copy_of e.1)) o (edited_rows (queue_edit client) (copy_rows client es))) (queue_at client e ∙ ap (λ b. if b then Some None else None) is)
        ∙ rest
    by false is rest =
        ap (λ o. with_row (copy_key client e.0) (copy.bytes (copy_of e.1)) o (edited_rows (queue_edit client) (copy_rows client es))) (queue_at client e ∙ ap (λ b. if b then Some None else None) is)
        ∙ ap (λ rows. copy_row client e ∷ rows) rest

pub queue_rows : (d : Durable) → edited_rows (queue_edit d.client) (rows_of d) ≡ rows_of (without_queue d)
queue_rows d = ap (λ rows. (main_key d.client, main.bytes d.main) ∷ rows) (queue_copies d.client d.copies)

-- ---- over
ended_main : (m : Main) → ended_value (main.bytes m) ≡ main.bytes (record m { expiry = 0; closed = Some 0 })
unfolding main
ended_main m = refl

gone_copies : (client : List ℕ) (es : Entries) → edited_rows (session_edit client) (copy_rows client es) ≡ []
gone_copies client [] = refl
gone_copies client (e ∷ es) = rw (itself client) (gone_copies client es)

pub ended_rows : (d : Durable) → edited_rows (session_edit d.client) (rows_of d) ≡ rows_of (ended d)
ended_rows d = rw (itself d.client) (λ i. (main_key d.client, ended_main d.main i) ∷ gone_copies d.client d.copies i)

-- ---- the sessions of a node
module _ (f : List ℕ → Edit) (g : Durable → Durable) (rows : (d : Durable) → edited_rows (f d.client) (rows_of d) ≡ rows_of (g d))
    (others : (client : List ℕ) (q : Key) (v : List ℕ) → bytes_eq q.1.0 client ≡ false → f client q v ≡ None)
    (sessions : List ℕ → Option Durable) (last : (client : List ℕ) (d : Durable) → sessions client ≡ Some d → IsDurable d × (d.client ≡ client)) where
  one : (d : Durable) → IsDurable d → (q : Key) → session_row (Some (g d)) q ≡ left_or (option_and_then (f d.client q) (session_row (Some d) q)) (session_row (Some d) q)
  one d is q =
      get-from_entries keys_total (rows_of (g d)) q
      ∙ ap (find key_cmp q) (sym (rows d))
      ∙ found_edited (f d.client) (rows_of d) (rows_rise d is) q
      ∙ sym (ap (λ o. left_or (option_and_then (f d.client q) o) o) (get-from_entries keys_total (rows_of d) q))

  here : (client : List ℕ) (q : Key) (o : Option Durable) → sessions q.1.0 ≡ o → bytes_eq q.1.0 client ≡ true
      → session_row (option_map g o) q ≡ left_or (option_and_then (f client q) (session_row o q)) (session_row o q)
  here client q None is t = refl
  here client q (Some d) is t =
      let lasts = last q.1.0 d is in
      let same : d.client ≡ client = lasts.1 ∙ (bytes_eq-Decides q.1.0 client).0 t in
      subst (λ c. session_row (Some (g d)) q ≡ left_or (option_and_then (f c q) (session_row (Some d) q)) (session_row (Some d) q)) same (one d lasts.0 q)

  pub sessions_lead : (client : List ℕ) (q : Key)
      → session_row (at_client client g sessions q.1.0) q ≡ left_or (option_and_then (f client q) (session_row (sessions q.1.0) q)) (session_row (sessions q.1.0) q)
  sessions_lead client q = elim (cases_Bool (bytes_eq q.1.0 client)) [
    | inl t ↦ ap (λ b. session_row (if b then option_map g (sessions q.1.0) else sessions q.1.0) q) t ∙ here client q (sessions q.1.0) refl t
    | inr other ↦
        ap (λ b. session_row (if b then option_map g (sessions q.1.0) else sessions q.1.0) q) other ∙ stays (f client) q (session_row (sessions q.1.0) q) (λ v. others client q v other)
  ]

  -- where each can last, so do those that there are then
  pub sessions_last : ((d : Durable) → IsDurable d → IsDurable (g d)) → ((d : Durable) → (g d).client ≡ d.client) → (client c : List ℕ) (d : Durable) → at_client client g sessions c ≡ Some d
      → IsDurable d × (d.client ≡ c)
  sessions_last lasts same client c d is = elim (cases_Bool (bytes_eq c client)) [
    | inl t ↦ from (sessions c) refl (sym (ap (λ b. if b then option_map g (sessions c) else sessions c) t) ∙ is)
    | inr other ↦ last c d (sym (ap (λ b. if b then option_map g (sessions c) else sessions c) other) ∙ is)
  ]
    where
      from : (o : Option Durable) → sessions c ≡ o → option_map g o ≡ Some d → IsDurable d × (d.client ≡ c)
      from None at e = absurd (cc)
      from (Some x) at e =
          let made : g x ≡ d = cc in
          let lasting = last c x at in
          subst (λ y. IsDurable y × (y.client ≡ c)) made (lasts x lasting.0, same x ∙ lasting.1)

and_false : (a b : Bool) → b ≡ false → (a && b) ≡ false
and_false true b e = e
and_false false b e = refl

pub queue_others : (client : List ℕ) (q : Key) (v : List ℕ) → bytes_eq q.1.0 client ≡ false → queue_edit client q v ≡ None
queue_others client q v other = ap (λ b. if b then Some None else None) (and_false (q.0 == 3) _ (ap (λ b. b && is_waiting v) other))

pub session_others : (client : List ℕ) (q : Key) (v : List ℕ) → bytes_eq q.1.0 client ≡ false → session_edit client q v ≡ None
session_others client q v other =
    ap (λ b. if b then Some None else if (q.0 == 2) && bytes_eq q.1.0 client then Some (Some (ended_value v)) else None) (and_false (q.0 == 3) _ other)
    ∙ ap (λ b. if b then Some (Some (ended_value v)) else None) (and_false (q.0 == 2) _ other)
