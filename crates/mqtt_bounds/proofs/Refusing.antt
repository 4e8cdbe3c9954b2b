-- With which code what breaks a limit is refused.
use Rattle.std.proofs.Common.{◌≡◌, ◌≢◌, ◌≤◌, ◌<◌, ◌+◌, ◌⊎◌, ℕ, zero, suc, Bool, true, false, cond, not, ◌&&◌, ◌||◌, eqb, List, [], ◌∷◌, ◌++◌, length, take, drop, map, Option, Some, None, is_none, is_some, refl, sym, ap, subst, ◌∙◌, inl, inr, arith}
use Rattle.std.specs.List.{filter, list_all}
use Rattle.std.proofs.lemmas.Bool.{eq-eqb, lt-ltb, ltb-true, ne_eqb}
use Rattle.std.proofs.lemmas.Option.{same_Some}
use Rattle.mqtt_fields.specs.Properties.{first_two}
use Rattle.mqtt_packets.specs.declared.packet.Packet.{Packet}
use Rattle.mqtt_packets.specs.declared.packet.Packet.TheVariants as packets
use Rattle.mqtt_packets.specs.declared.publish.Publish.{Publish}
use Rattle.mqtt_packets.specs.declared.reasons.Reasons.{Reasons}
use Rattle.mqtt_packets.specs.declared.subscribe.Subscribe.{Subscribe}
use Rattle.mqtt_packets.specs.declared.subscribe.SubscribeFilter.{SubscribeFilter}
use Rattle.mqtt_bounds.specs.Bounded.{all_refused, bounded, codes_of, ends_if_refused, filter_code, fitting, is_asked, is_repeat_at, mended, merged, publish_by, publish_code, refusal, sets_alias, smaller, suback_mended, user_properties}
use Rattle.mqtt_bounds.specs.Bounds.{is_above, levels}
use Rattle.mqtt_bounds.specs.Refusing.{AreCodes, AreWithin, BreaksWith, FilterBreaksWith, IsFilterWithin, IsOver, IsRefusedWith, PublishIsRefused, SetsNone, SubscribeIsRefused}
use Rattle.mqtt_bounds.specs.declared.bounds.Bounds.{Bounds}
use Rattle.mqtt_bounds.specs.declared.verdict.Mend.{Mend}
use Rattle.mqtt_bounds.specs.declared.verdict.Mend.TheVariants as mends
use Rattle.mqtt_bounds.specs.declared.verdict.Verdict.{Verdict}
use Rattle.mqtt_bounds.specs.declared.verdict.Verdict.TheVariants as verdicts
use Rattle.mqtt_bounds.proofs.Within.{becomes_case, becomes_full, not_above, up_to}

-- ---- counts

over_above : (most : Option ℕ) (count : ℕ) → IsOver most count → is_above most count ≡ true
over_above None count over = absurd over
over_above (Some most) count over = lt-ltb most count over

above_over : (most : Option ℕ) (count : ℕ) → is_above most count ≡ true → IsOver most count
above_over None count e = absurd cc
above_over (Some most) count e = ltb-true most count e

-- ---- PUBLISH

or_second : (x y : Bool) → y ≡ true → (x || y) ≡ true
or_second true y e = refl
or_second false y e = e

breaks_code : (b : Bounds) (full : Bool) (p : Publish) (code : ℕ) → BreaksWith b full p code → publish_code b full p ≡ Some code
breaks_code b full p code breaks = elim breaks [
  | inl x ↦
      let first : (full || is_above b.most_properties (user_properties p.properties)) ≡ true = elim (x.1) [
        | inl room ↦ rw room refl
        | inr over ↦ or_second full (is_above b.most_properties (user_properties p.properties)) (over_above b.most_properties (user_properties p.properties) over)
      ] in
      let same : Some 151 ≡ Some code = ap (λ (c : ℕ). Some c) (sym x.0) in
      rw first same
  | inr x ↦
      let room : full ≡ false = x.1 in
      let one : is_above b.most_properties (user_properties p.properties) ≡ false = not_above b.most_properties (user_properties p.properties) x.2 in
      let two : is_above b.most_levels (levels p.topic) ≡ true = over_above b.most_levels (levels p.topic) x.3 in
      let same : Some 144 ≡ Some code = ap (λ (c : ℕ). Some c) (sym x.0) in
      rw (room, one, two) same
]

there : (xs : List ℕ) → xs ≢ [] → not (eqb (length xs) 0) ≡ true
there [] ne = absurd (ne refl)
there (x ∷ xs) ne = ap not (ne_eqb (suc (length xs)) 0 (λ e. omega (arith, e)))

none_second : (x : Bool) (o : Option ℕ) → o ≡ None → (x && is_some o) ≡ false
none_second true o e = rw e refl
none_second false o e = refl

sets_none : (p : Publish) → SetsNone p → sets_alias p ≡ false
sets_none p none = elim none [
  | inl e ↦ rw e refl
  | inr e ↦ none_second (not (eqb (length p.topic) 0)) (first_two 35 p.properties) e
]

sets_one : (p : Publish) (a : ℕ) → p.topic ≢ [] → first_two 35 p.properties ≡ Some a → sets_alias p ≡ true
sets_one p a named e =
    let one : not (eqb (length p.topic) 0) ≡ true = there p.topic named in
    rw (one, e) refl

refused_with : (b : Bounds) (full : Bool) (p : Publish) (code : ℕ) → publish_code b full p ≡ Some code → IsRefusedWith p code (bounded b full (packets.Publish p))
refused_with b full p code e =
    let v : bounded b full (packets.Publish p) ≡ cond (ends_if_refused p) (verdicts.Ends code) (verdicts.Refused (refusal p code)) = ap (publish_by p) e in
    let ended : ends_if_refused p ≡ true → bounded b full (packets.Publish p) ≡ verdicts.Ends code =
    λ ends. v ∙ ap (λ (t : Bool). cond t (verdicts.Ends code) (verdicts.Refused (refusal p code))) ends in
    let answered : ends_if_refused p ≡ false → bounded b full (packets.Publish p) ≡ verdicts.Refused (refusal p code) =
    λ goes. v ∙ ap (λ (t : Bool). cond t (verdicts.Ends code) (verdicts.Refused (refusal p code))) goes in
    record {
      again = λ qos dup. ended (rw (qos, dup) refl);
      alias = λ a named is. ended (or_second (is_repeat_at p.qos p.dup) (sets_alias p) (sets_one p a named is));
      at_0 = λ none qos. let off : sets_alias p ≡ false = sets_none p none in answered (rw (qos, off) refl) ∙ rw qos refl;
      at_1 = λ none qos. let off : sets_alias p ≡ false = sets_none p none in answered (rw (qos, off) refl) ∙ rw qos refl;
      at_2 = λ none qos dup. let off : sets_alias p ≡ false = sets_none p none in answered (rw (qos, dup, off) refl) ∙ rw qos refl;
    }

pub publish_is_refused : PublishIsRefused
publish_is_refused b full p code breaks = refused_with b full p code (breaks_code b full p code breaks)

-- ---- the codes of filters by their places

abbrev code_at : Bounds → Bool → ℕ → SubscribeFilter → Option ℕ
code_at b full before f = cond full (Some 151) (cond (is_above b.most_filters (suc before)) (Some 151) (cond (is_above b.most_levels (levels f.filter)) (Some 143) None))

abbrev codes_from : Bounds → Bool → ℕ → List SubscribeFilter → List (Option ℕ)
codes_from b full before [] = []
codes_from b full before (f ∷ fs) = code_at b full before f ∷ codes_from b full (suc before) fs

-- so many of the filters from a place on may be there
record Fits (b : Bounds) (before count len : ℕ) : Type 0 where
  front : (i : ℕ) → before ≤ i → i < before + count → is_above b.most_filters (suc i) ≡ false
  behind : (i : ℕ) → before + count ≤ i → i < before + len → is_above b.most_filters (suc i) ≡ true

fits_one : (b : Bounds) (before len : ℕ) → Fits b before zero (suc len) → Fits b (suc before) zero len
fits_one b before len fits = record {
  front = λ i low high. fits.front i (omega arith) (absurd (omega arith));
  behind = λ i low high. fits.behind i (omega arith) (omega arith);
}

fits_next : (b : Bounds) (before count len : ℕ) → Fits b before (suc count) (suc len) → Fits b (suc before) count len
fits_next b before count len fits = record {
  front = λ i low high. fits.front i (omega arith) (omega arith);
  behind = λ i low high. fits.behind i (omega arith) (omega arith);
}

full_first : (full : Bool) (o : Option ℕ) → o ≡ Some 151 → cond full (Some 151) o ≡ Some 151
full_first true o e = refl
full_first false o e = e

codes_parts : (b : Bounds) (full : Bool) (before count : ℕ) (fs : List SubscribeFilter) → Fits b before count (length fs)
    → map (filter_code b full) (take count fs) ++ map (filter_code b true) (drop count fs) ≡ codes_from b full before fs
codes_parts b full before zero [] fits = refl
codes_parts b full before (suc count) [] fits = refl
codes_parts b full before zero (f ∷ fs) fits =
    let above : is_above b.most_filters (suc before) ≡ true = fits.behind before (omega arith) (omega arith) in
    let here : code_at b full before f ≡ Some 151 = full_first full (cond (is_above b.most_filters (suc before)) (Some 151) (cond (is_above b.most_levels (levels f.filter)) (Some 143) None)) (rw above refl) in
    let rest : map (filter_code b true) fs ≡ codes_from b full (suc before) fs = codes_parts b full (suc before) zero fs (fits_one b before (length fs) fits) in
    ap (λ (o : Option ℕ). o ∷ map (filter_code b true) fs) (sym here) ∙ ap (λ (cs : List (Option ℕ)). code_at b full before f ∷ cs) rest
codes_parts b full before (suc count) (f ∷ fs) fits =
    let above : is_above b.most_filters (suc before) ≡ false = fits.front before (omega arith) (omega arith) in
    let here : filter_code b full f ≡ code_at b full before f = rw above refl in
    let rest = codes_parts b full (suc before) count fs (fits_next b before count (length fs) fits) in
    ap (λ (o : Option ℕ). o ∷ (map (filter_code b full) (take count fs) ++ map (filter_code b true) (drop count fs))) here ∙ ap (λ (cs : List (Option ℕ)). code_at b full before f ∷ cs) rest

fits_all : (b : Bounds) (most : Option ℕ) (len : ℕ) → b.most_filters ≡ most → Fits b 0 (fitting most len) len
fits_all b None len e = record {
  front = λ i low high. rw e refl;
  behind = λ i low high. absurd (omega arith);
}
fits_all b (Some m) len e = record {
  front = λ i low high. let le : suc i ≤ m = omega arith in let off : is_above (Some m) (suc i) ≡ false = not_above (Some m) (suc i) le in rw e off;
  behind = λ i low high. let lt : m < suc i = omega arith in let on : is_above (Some m) (suc i) ≡ true = over_above (Some m) (suc i) lt in rw e on;
}

fits : (b : Bounds) (fs : List SubscribeFilter) → Fits b 0 (fitting b.most_filters (length fs)) (length fs)
fits b fs = fits_all b b.most_filters (length fs) refl

codes_by_place : (b : Bounds) (full : Bool) (fs : List SubscribeFilter) → codes_of b full fs ≡ codes_from b full 0 fs
codes_by_place b full fs = codes_parts b full 0 (fitting b.most_filters (length fs)) fs (fits b fs)

-- ---- what a code says

code_case : (x y z : Bool) (c : ℕ) → cond x (Some 151) (cond y (Some 151) (cond z (Some 143) None)) ≡ Some c
    → ((c ≡ 151) × ((x ≡ true) ⊎ (y ≡ true))) ⊎ ((c ≡ 143) × (x ≡ false) × (y ≡ false) × (z ≡ true))
code_case true y z c e = inl (sym (same_Some 151 c e), inl refl)
code_case false true z c e = inl (sym (same_Some 151 c e), inr refl)
code_case false false true c e = inr (sym (same_Some 143 c e), refl, refl, refl)
code_case false false false c e = absurd cc

code_breaks : (b : Bounds) (full : Bool) (before : ℕ) (f : SubscribeFilter) (c : ℕ) → code_at b full before f ≡ Some c → FilterBreaksWith b full before f c
code_breaks b full before f c e = elim (code_case full (is_above b.most_filters (suc before)) (is_above b.most_levels (levels f.filter)) c e) [
  | inl x ↦ elim (x.1) [
    | inl room ↦ inl (x.0, inl room)
    | inr over ↦ inl (x.0, inr (above_over b.most_filters (suc before) over))
  ]
  | inr x ↦ inr (x.0, x.1, up_to b.most_filters (suc before) x.2, above_over b.most_levels (levels f.filter) x.3)
]

breaks_at : (b : Bounds) (full : Bool) (before : ℕ) (f : SubscribeFilter) (c : ℕ) → FilterBreaksWith b full before f c → code_at b full before f ≡ Some c
breaks_at b full before f c breaks = elim breaks [
  | inl x ↦
      let same : Some 151 ≡ Some c = ap (λ (n : ℕ). Some n) (sym x.0) in
      elim (x.1) [
        | inl room ↦ rw room same
        | inr over ↦
            let above : is_above b.most_filters (suc before) ≡ true = over_above b.most_filters (suc before) over in
            full_first full (cond (is_above b.most_filters (suc before)) (Some 151) (cond (is_above b.most_levels (levels f.filter)) (Some 143) None)) (rw above refl) ∙ same
      ]
  | inr x ↦
      let same : Some 143 ≡ Some c = ap (λ (n : ℕ). Some n) (sym x.0) in
      let room : full ≡ false = x.1 in
      let place : is_above b.most_filters (suc before) ≡ false = not_above b.most_filters (suc before) x.2 in
      let above : is_above b.most_levels (levels f.filter) ≡ true = over_above b.most_levels (levels f.filter) x.3 in
      rw (room, place, above) same
]

within_at : (b : Bounds) (full : Bool) (before : ℕ) (f : SubscribeFilter) → IsFilterWithin b full before f → code_at b full before f ≡ None
within_at b full before f within =
    let room : full ≡ false = within.room in
    let place : is_above b.most_filters (suc before) ≡ false = not_above b.most_filters (suc before) within.place in
    let few : is_above b.most_levels (levels f.filter) ≡ false = not_above b.most_levels (levels f.filter) within.levels in
    rw (room, place, few) refl

-- ---- which filters are asked for

abbrev level_code : Bool → Option ℕ
level_code t = cond t (Some 143) None

within_case : (b : Bounds) (before : ℕ) (f : SubscribeFilter) (fs gs : List SubscribeFilter) (t : Bool) → is_above b.most_levels (levels f.filter) ≡ t → is_above b.most_filters (suc before) ≡ false
    → AreWithin b false (suc before) fs gs → AreWithin b false before (f ∷ fs) (cond (is_none (level_code t)) (f ∷ gs) gs)
within_case b before f fs gs true e place rest = inl (143, inr (refl, refl, up_to b.most_filters (suc before) place, above_over b.most_levels (levels f.filter) e), rest)
within_case b before f fs gs false e place rest =
    inr (record { room = refl; place = up_to b.most_filters (suc before) place; levels = up_to b.most_levels (levels f.filter) e }, gs, refl, rest)

within_parts : (b : Bounds) (before count : ℕ) (fs : List SubscribeFilter) → Fits b before count (length fs) → AreWithin b false before fs (filter (is_asked b false) (take count fs))
within_parts b before zero [] fits = refl
within_parts b before (suc count) [] fits = refl
within_parts b before zero (f ∷ fs) fits =
    let above : is_above b.most_filters (suc before) ≡ true = fits.behind before (omega arith) (omega arith) in
    inl (151, inl (refl, inr (above_over b.most_filters (suc before) above)), within_parts b (suc before) zero fs (fits_one b before (length fs) fits))
within_parts b before (suc count) (f ∷ fs) fits =
    let place : is_above b.most_filters (suc before) ≡ false = fits.front before (omega arith) (omega arith) in
    within_case b before f fs (filter (is_asked b false) (take count fs)) (is_above b.most_levels (levels f.filter)) refl place
    (within_parts b (suc before) count fs (fits_next b before count (length fs) fits))

-- ---- the codes of all

none_given : (xs : List ℕ) → length xs ≡ 0 → xs ≡ []
none_given [] e = refl
none_given (x ∷ xs) e = absurd cc

given_codes : (b : Bounds) (full : Bool) (before : ℕ) (f : SubscribeFilter) (fs more : List SubscribeFilter) (given : List ℕ) → IsFilterWithin b full before f
    → ((rest : List ℕ) → length rest ≡ length more → AreCodes b full (suc before) fs rest (merged (codes_from b full (suc before) fs) rest))
    → length given ≡ suc (length more) → AreCodes b full before (f ∷ fs) given (merged (None ∷ codes_from b full (suc before) fs) given)
given_codes b full before f fs more [] within those len = absurd (omega (arith, len))
given_codes b full before f fs more (c ∷ given) within those len = inr (within, given, refl, those given (omega (arith, len)))

merged_codes : (b : Bounds) (full : Bool) (before : ℕ) (fs gs : List SubscribeFilter) (given : List ℕ) → AreWithin b full before fs gs → length given ≡ length gs
    → AreCodes b full before fs given (merged (codes_from b full before fs) given)
merged_codes b full before [] gs given none len =
    let empty : given ≡ [] = none_given given (len ∙ ap (λ (x : List SubscribeFilter). length x) none) in
    (empty, empty)
merged_codes b full before (f ∷ fs) gs given within len = elim within [
  | inl x ↦
      let code : Some x.0 ≡ code_at b full before f = sym (breaks_at b full before f x.0 x.1) in
      subst (λ (o : Option ℕ). AreCodes b full before (f ∷ fs) given (merged (o ∷ codes_from b full (suc before) fs) given)) code
      (inl (x.1, merged_codes b full (suc before) fs gs given x.2 len))
  | inr x ↦
      let code : None ≡ code_at b full before f = sym (within_at b full before f x.0) in
      let those = λ (rest : List ℕ) (l : length rest ≡ length x.1). merged_codes b full (suc before) fs x.1 rest x.3 l in
      subst (λ (o : Option ℕ). AreCodes b full before (f ∷ fs) given (merged (o ∷ codes_from b full (suc before) fs) given)) code
      (given_codes b full before f fs x.1 given x.0 those (len ∙ ap (λ (y : List SubscribeFilter). length y) x.2))
]

each_case : (b : Bounds) (full : Bool) (before : ℕ) (f : SubscribeFilter) (fs : List SubscribeFilter) (o : Option ℕ) → code_at b full before f ≡ o
    → (list_all is_some (codes_from b full (suc before) fs) ≡ true → AreCodes b full (suc before) fs [] (merged (codes_from b full (suc before) fs) []))
    → list_all is_some (o ∷ codes_from b full (suc before) fs) ≡ true → AreCodes b full before (f ∷ fs) [] (merged (o ∷ codes_from b full (suc before) fs) [])
each_case b full before f fs None e those all = absurd cc
each_case b full before f fs (Some c) e those all = inl (code_breaks b full before f c e, those all)

each_codes : (b : Bounds) (full : Bool) (before : ℕ) (fs : List SubscribeFilter) → list_all is_some (codes_from b full before fs) ≡ true
    → AreCodes b full before fs [] (merged (codes_from b full before fs) [])
each_codes b full before [] all = (refl, refl)
each_codes b full before (f ∷ fs) all = each_case b full before f fs (code_at b full before f) refl (each_codes b full (suc before) fs) all

-- ---- SUBSCRIBE

refused_case : (x y : Bool) (r w v : Verdict) (o : Option Packet) → ((p : Option Packet) → w ≡ verdicts.Refused p → ⊥) → cond x (verdicts.Goes mends.Nothing) (cond y r w) ≡ verdicts.Refused o → (y ≡ true) × (r ≡ verdicts.Refused o)
refused_case true y r w v o none e = absurd cc
refused_case false true r w v o none e = (refl, e)
refused_case false false r w v o none e = absurd (none o e)

subscribe_each : (b : Bounds) (full : Bool) (s : Subscribe) (answer : Option Packet) → bounded b full (packets.Subscribe s) ≡ verdicts.Refused answer
    → (all : List ℕ) × AreCodes b full 0 s.filters [] all × (answer ≡ Some (packets.Suback (record { identifier = s.identifier; properties = []; reasons = all })))
subscribe_each b full s answer e =
    let codes = codes_of b full s.filters in
    let made = refused_case (not full && list_all is_none codes) (list_all is_some codes) (verdicts.Refused (Some (all_refused s.identifier codes)))
    (verdicts.Becomes (packets.Subscribe (smaller b full s)) (mends.Suback s.identifier codes)) (verdicts.Goes mends.Nothing) answer (λ p z. absurd cc) e in
    let place : codes ≡ codes_from b full 0 s.filters = codes_by_place b full s.filters in
    let all : list_all is_some (codes_from b full 0 s.filters) ≡ true = sym (ap (list_all is_some) place) ∙ made.0 in
    let same : verdicts.Refused (Some (all_refused s.identifier codes)) ≡ verdicts.Refused answer = made.1 in
    let is : answer ≡ Some (all_refused s.identifier codes) = cc in
    (merged (codes_from b full 0 s.filters) [], each_codes b full 0 s.filters all, is ∙ ap (λ (cs : List (Option ℕ)). Some (all_refused s.identifier cs)) place)

subscribe_some : (b : Bounds) (full : Bool) (s t : Subscribe) (m : Mend) → bounded b full (packets.Subscribe s) ≡ verdicts.Becomes (packets.Subscribe t) m
    → AreWithin b full 0 s.filters t.filters × (t ≡ record s { filters = t.filters })
    × ((suback : Reasons) → suback.identifier ≡ s.identifier → length suback.reasons ≡ length t.filters
    → (all : List ℕ) × AreCodes b full 0 s.filters suback.reasons all × (mended m (packets.Suback suback) ≡ Some (packets.Suback (record suback { reasons = all }))))
subscribe_some b full s t m e =
    let codes = codes_of b full s.filters in
    let made = becomes_case (not full && list_all is_none codes) (list_all is_some codes) (verdicts.Refused (Some (all_refused s.identifier codes)))
    (verdicts.Becomes (packets.Subscribe (smaller b full s)) (mends.Suback s.identifier codes)) (verdicts.Goes mends.Nothing) (packets.Subscribe t) m (λ z. absurd cc) e in
    let room : full ≡ false = becomes_full b full s.filters made.0 in
    let becomes : verdicts.Becomes (packets.Subscribe (smaller b full s)) (mends.Suback s.identifier codes) ≡ verdicts.Becomes (packets.Subscribe t) m = made.1 in
    let is : smaller b full s ≡ t = cc in
    let mend : mends.Suback s.identifier codes ≡ m = cc in
    let place : codes ≡ codes_from b full 0 s.filters = codes_by_place b full s.filters in
    let asked : AreWithin b false 0 s.filters (smaller b false s).filters = within_parts b 0 (fitting b.most_filters (length s.filters)) s.filters (fits b s.filters) in
    let asked_so : AreWithin b full 0 s.filters (smaller b full s).filters = subst (λ (x : Bool). AreWithin b x 0 s.filters (smaller b x s).filters) (sym room) asked in
    let within : AreWithin b full 0 s.filters t.filters = subst (λ (x : Subscribe). AreWithin b full 0 s.filters x.filters) is asked_so in
    let IsRest : Subscribe → Type 0 = λ x. x ≡ record s { filters = x.filters } in (
      within,
      subst IsRest is refl,
      λ suback same len.
          let all = merged (codes_from b full 0 s.filters) suback.reasons in
          let here : eqb suback.identifier s.identifier ≡ true = eq-eqb suback.identifier s.identifier same in
          let put : mended (mends.Suback s.identifier codes) (packets.Suback suback) ≡ Some (packets.Suback (suback_mended codes suback)) = rw here refl in (
            all,
            merged_codes b full 0 s.filters t.filters suback.reasons within len,
            ap (λ (x : Mend). mended x (packets.Suback suback)) (sym mend) ∙ put ∙ ap (λ (cs : List (Option ℕ)). Some (packets.Suback (suback_mended cs suback))) place,
          ),
    )

pub subscribe_is_refused : SubscribeIsRefused
subscribe_is_refused = record { some = subscribe_some; each = subscribe_each }
