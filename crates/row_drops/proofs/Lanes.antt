-- The rows of lanes that are edited are those of the lanes in which messages are for nobody.
use Rattle.std.proofs.Common.{◌≡◌, ◌≢◌, inl, inr, ℕ, zero, suc, ◌+◌, ◌<◌, ◌≤◌, ◌^◌, Bool, true, false, cond, eq-eqb, eqb-true, ◌&&◌, List, [], ◌∷◌, ◌++◌, map, length, Option, Some, None, arith, rules, refl, sym, ap, subst, ◌∙◌}
use Rattle.std.specs.Prelude.{◌==◌, get_or, if◌then◌else◌}
use Rattle.std.specs.List.{AllByRecursion}
use Rattle.std.specs.Str.{bytes_eq}
use Rattle.std.proofs.lemmas.Bool.{cases_Bool}
use Rattle.std.proofs.lemmas.List.{length-map}
use Rattle.std.proofs.lemmas.Slice.Eq.{bytes_eq-Decides}
use Rattle.std.proofs.lemmas.Str.{IsUtf8-from_ascii}
use Rattle.bridge_frames.specs.declared.forward.Forward.{Forward}
use Rattle.bridge_frames.specs.Forwards.{forward}
use Rattle.bridge_lanes.specs.Lanes.{Lanes, lane_of, new_lane}
use Rattle.bridge_lanes.specs.Reading.{AreLanes, IsLane}
use Rattle.bridge_lanes.specs.Rows.{Messages, each, last_put, message_key, message_rows, numbers_of, numbers_rows, owner, rows_of, waiting_of}
use Rattle.bridge_lanes.proofs.Keys.{one_owner}
use Rattle.bridge_lanes.proofs.Leading.{IsOf, each_all, numbers_are}
use Rattle.bridge_lanes.proofs.Order.{all_turned}
use Rattle.mqtt_fields.proofs.TextLaws.{is_text_from}
use Rattle.mqtt_fields.specs.Block.{properties}
use Rattle.mqtt_fields.specs.Numbers.{is_text}
use Rattle.mqtt_message.specs.Parts.{own_properties, tail}
use Rattle.mqtt_message.specs.Spellings.{message}
use Rattle.row_store.specs.Rows.{Key, Plain}
use Rattle.row_drops.specs.Dropping.{for_nobody, lane_edit, nobody_value, unheard, unheard_at}
use Rattle.row_drops.specs.Editing.{edited_rows, with_row}
use Rattle.row_drops.proofs.Edited.{all_stay, edited_both}

-- ---- a message for nobody
nobody_bytes : forward.bytes for_nobody ≡ nobody_value
unfolding forward message own_properties properties tail
nobody_bytes = refl

dash_is_text : is_text (45 ∷ []) ≡ true
dash_is_text = is_text_from (45 ∷ []) (IsUtf8-from_ascii (45 ∷ []) (search rules)) refl

none_is_text : is_text [] ≡ true
none_is_text = is_text_from [] (IsUtf8-from_ascii [] (search rules)) refl

nobody_fits : forward.Fits for_nobody
unfolding forward message own_properties properties tail
nobody_fits = (omega arith, ((omega arith, tt), (((omega arith, dash_is_text), refl), ((omega arith, refl), (((omega arith, tt), refl), (omega arith, (omega arith, ((omega arith, none_is_text), tt))))))))

all_fit : (ms : List Forward) → AllByRecursion forward.Fits (map (λ _. for_nobody) ms)
all_fit [] = tt
all_fit (m ∷ ms) = (nobody_fits, all_fit ms)

-- ---- messages
heard : (node p n : ℕ) (ms : List Forward) → bytes_eq (owner p) (owner node) ≡ true → edited_rows (lane_edit node) (message_rows p n ms) ≡ message_rows p n (map (λ _. for_nobody) ms)
heard node p n [] same = refl
heard node p n (m ∷ ms) same =
    ap (λ b. with_row (message_key p n) (forward.bytes m) (if b then Some (Some nobody_value) else None) (edited_rows (lane_edit node) (message_rows p (suc n) ms))) same
    ∙ λ i. (message_key p n, sym nobody_bytes i) ∷ heard node p (suc n) ms same i

apart : (node p n : ℕ) (ms : List Forward) → bytes_eq (owner p) (owner node) ≡ false → edited_rows (lane_edit node) (message_rows p n ms) ≡ message_rows p n ms
apart node p n [] other = refl
apart node p n (m ∷ ms) other =
    ap (λ b. with_row (message_key p n) (forward.bytes m) (if b then Some (Some nobody_value) else None) (edited_rows (lane_edit node) (message_rows p (suc n) ms))) other
    ∙ ap (λ rows. (message_key p n, forward.bytes m) ∷ rows) (apart node p (suc n) ms other)

differs : (node p : ℕ) → p < 2 ^ 16 → node < 2 ^ 16 → (p == node) ≡ false → (b : Bool) → bytes_eq (owner p) (owner node) ≡ b → bytes_eq (owner p) (owner node) ≡ false
differs node p small few f true is =
    let same = one_owner p node small few ((bytes_eq-Decides (owner p) (owner node)).0 is) in
    let other : true ≡ false = sym (eq-eqb p node same) ∙ f in cc
differs node p small few f false is = is

lane_rows : (node p : ℕ) (l : Messages) → p < 2 ^ 16 → node < 2 ^ 16 → edited_rows (lane_edit node) (waiting_of p l) ≡ waiting_of p (cond (p == node) (unheard l) l)
lane_rows node p l small few = elim (cases_Bool (p == node)) [
  | inl t ↦
      heard node p (suc l.gone) l.waiting ((bytes_eq-Decides (owner p) (owner node)).1 (ap owner (eqb-true p node t)))
      ∙ sym (ap (λ b. waiting_of p (cond b (unheard l) l)) t)
  | inr f ↦ apart node p (suc l.gone) l.waiting (differs node p small few f (bytes_eq (owner p) (owner node)) refl) ∙ sym (ap (λ b. waiting_of p (cond b (unheard l) l)) f)
]

waiting_rows : (node p : ℕ) (lanes : Lanes Forward) → p + length lanes ≤ 2 ^ 16 → node < 2 ^ 16 → edited_rows (lane_edit node) (each waiting_of p lanes) ≡ each waiting_of p (unheard_at node p lanes)
waiting_rows node p [] small few = refl
waiting_rows node p (l ∷ lanes) small few =
    edited_both (lane_edit node) (waiting_of p l) (each waiting_of (suc p) lanes)
    ∙ λ i. lane_rows node p l (omega (arith, small)) few i ++ waiting_rows node (suc p) lanes (omega (arith, small)) few i

-- ---- numbers
last_same : (l : Messages) → last_put (unheard l) ≡ last_put l
last_same l = ap (λ n. l.gone + n) (length-map l.waiting (λ _. for_nobody))

numbers_same : (b : Bool) (p : ℕ) (l : Messages) → numbers_of p (cond b (unheard l) l) ≡ numbers_of p l
numbers_same true p l = ap (λ n. numbers_rows p n l.took) (last_same l)
numbers_same false p l = refl

numbers_stay : (node p : ℕ) (lanes : Lanes Forward) → each numbers_of p lanes ≡ each numbers_of p (unheard_at node p lanes)
numbers_stay node p [] = refl
numbers_stay node p (l ∷ lanes) = λ i. sym (numbers_same (p == node) p l) i ++ numbers_stay node (suc p) lanes i

eight_stays : (node : ℕ) (e : Plain) → e.0.0 ≡ 8 → lane_edit node e.0 e.1 ≡ None
eight_stays node e is = ap (λ k. if (k == 7) && bytes_eq e.0.1.0 (owner node) then Some (Some nobody_value) else None) is

pub lanes_rows : (node : ℕ) (lanes : Lanes Forward) → length lanes ≤ 2 ^ 16 → node < 2 ^ 16 → edited_rows (lane_edit node) (rows_of lanes) ≡ rows_of (unheard_at node 0 lanes)
lanes_rows node lanes small few =
    edited_both (lane_edit node) (each waiting_of 0 lanes) (each numbers_of 0 lanes)
    ∙ λ i. waiting_rows node 0 lanes (omega (arith, small)) few i ++ (all_stay (lane_edit node) (each numbers_of 0 lanes)
    (each_all (λ e. lane_edit node e.0 e.1 ≡ None) numbers_of (λ p l. all_turned (IsOf 8 p) (λ e. lane_edit node e.0 e.1 ≡ None) (numbers_of p l) (λ e h. eight_stays node e h.0) (numbers_are p (last_put l) l.took)) 0 lanes)
    ∙ numbers_stay node 0 lanes) i

-- ---- such lanes can last
lane_lasts : (l : Messages) → IsLane l → IsLane (unheard l)
lane_lasts l is = record {
  few = subst (λ n. n ≤ 65536) (sym (length-map l.waiting (λ _. for_nobody))) is.few;
  below = subst (λ n. n < 2 ^ 62) (sym (last_same l)) is.below;
  took = is.took;
  spelled = all_fit l.waiting;
}

lane_lasts_if : (b : Bool) (l : Messages) → IsLane l → IsLane (cond b (unheard l) l)
lane_lasts_if true l is = lane_lasts l is
lane_lasts_if false l is = is

all_last : (node p : ℕ) (lanes : Lanes Forward) → AllByRecursion IsLane lanes → AllByRecursion IsLane (unheard_at node p lanes)
all_last node p [] all = tt
all_last node p (l ∷ lanes) all = (lane_lasts_if (p == node) l all.0, all_last node (suc p) lanes all.1)

same_length : (node p : ℕ) (lanes : Lanes Forward) → length (unheard_at node p lanes) ≡ length lanes
same_length node p [] = refl
same_length node p (l ∷ lanes) = ap suc (same_length node (suc p) lanes)

pub lanes_last : (node nodes : ℕ) (lanes : Lanes Forward) → AreLanes nodes lanes → AreLanes nodes (unheard_at node 0 lanes)
lanes_last node nodes lanes are = record { count = same_length node 0 lanes ∙ are.count; sound = all_last node 0 lanes are.sound }

new_same : (b : Bool) (l : Messages) → l ≡ new_lane → cond b (unheard l) l ≡ new_lane
new_same true l is = ap unheard is
new_same false l is = is

none_stays : (node p i : ℕ) (lanes : Lanes Forward) → get_or lanes i new_lane ≡ new_lane → get_or (unheard_at node p lanes) i new_lane ≡ new_lane
none_stays node p i [] is = is
none_stays node p zero (l ∷ lanes) is = new_same (p == node) l is
none_stays node p (suc i) (l ∷ lanes) is = none_stays node (suc p) i lanes is

pub no_lane : (node id : ℕ) (lanes : Lanes Forward) → lane_of lanes id ≡ new_lane → lane_of (unheard_at node 0 lanes) id ≡ new_lane
no_lane node id lanes is = none_stays node 0 id lanes is
