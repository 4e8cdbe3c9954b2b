-- A message's own properties among those of a packet.
use Rattle.std.proofs.Common.{◌≡◌, ◌≤◌, ℕ, Bool, true, false, ◌||◌, eqb, List, [], ◌∷◌, ◌++◌, length, refl, sym, subst, ◌∙◌, inl, inr, append-nil, length-append, arith}
use Rattle.std.specs.Prelude.{IsTrue, not, ◌==◌}
use Rattle.std.specs.List.{list_any, list_all}
use Rattle.std.proofs.lemmas.Bool.{cases_Bool, eqb-true, and_parts, or_cases, or_parts, or_left}
use Rattle.std.proofs.lemmas.List.Elements.{filter-append}
use Rattle.mqtt_fields.specs.declared.value.Property.{Property}
use Rattle.mqtt_fields.specs.declared.table.Place.{Place}
use Rattle.mqtt_fields.specs.declared.table.Place.TheVariants as places
use Rattle.mqtt_fields.specs.Table.{entry_of, is_here}
use Rattle.mqtt_fields.specs.Block.{is_here_in, is_multiple, is_new, property, MayStand, property_bytes, properties_bytes, properties}
use Rattle.mqtt_packets.specs.Values.{is_valid_property, has}
use Rattle.mqtt_message.specs.OwnProperties.{is_own_id, is_own, own, is_allowed_own, IsAllowed, AreOwn}

or_right : (a b : Bool) → b ≡ true → (a || b) ≡ true
or_right true b h = refl
or_right false b h = h

not_true : (b : Bool) → not b ≡ true → b ≡ false
not_true true h = absurd cc
not_true false h = refl

-- what holds of each identifier of a message's property
pub own_cases : (P : ℕ → Type 0) (id : ℕ) → IsTrue (is_own_id id) → P 1 → P 3 → P 8 → P 9 → P 38 → P id
own_cases P id mine p1 p3 p8 p9 p38 =
    elim (or_cases (eqb id 1) (eqb id 3 || (eqb id 8 || (eqb id 9 || eqb id 38))) mine) [
      | inl t ↦ subst P (sym (eqb-true id 1 t)) p1
      | inr r ↦ elim (or_cases (eqb id 3) (eqb id 8 || (eqb id 9 || eqb id 38)) r) [
        | inl t ↦ subst P (sym (eqb-true id 3 t)) p3
        | inr r ↦ elim (or_cases (eqb id 8) (eqb id 9 || eqb id 38) r) [
          | inl t ↦ subst P (sym (eqb-true id 8 t)) p8
          | inr r ↦ elim (or_cases (eqb id 9) (eqb id 38) r) [
            | inl t ↦ subst P (sym (eqb-true id 9 t)) p9
            | inr t ↦ subst P (sym (eqb-true id 38 t)) p38
          ]
        ]
      ]
    ]

-- they may all stand in a PUBLISH
here_own : (id : ℕ) → IsTrue (is_own_id id) → IsTrue (is_here_in places.Publish (entry_of id))
unfolding entry_of is_here
here_own id mine = let P : ℕ → Type 0 = λ k. IsTrue (is_here_in places.Publish (entry_of k)) in own_cases P id mine refl refl refl refl refl

-- what isn't among properties isn't among the message's own
any_own : (id : ℕ) (ps : List Property) → list_any (λ p. p.id == id) ps ≡ false → list_any (λ p. p.id == id) (own ps) ≡ false
any_own id [] none = refl
any_own id (p ∷ ps) none =
    let parts = or_parts (eqb p.id id) (list_any (λ p. p.id == id) ps) none in
    elim (cases_Bool (is_own p)) [
      | inl mine ↦ rw (mine, parts.0) (any_own id ps parts.1)
      | inr other ↦ rw other (any_own id ps parts.1)
    ]

-- at a place where no more may be repeated than in a PUBLISH
abbrev RepeatsLess : Place → Type 0
RepeatsLess place = (id : ℕ) → is_multiple place id ≡ true → is_multiple places.Publish id ≡ true

new_own : (place : Place) (before : List Property) (id : ℕ) → RepeatsLess place → IsTrue (is_new place before id) → IsTrue (is_new places.Publish (own before) id)
unfolding is_new
new_own place before id less fresh =
    elim (or_cases (is_multiple place id) (not (list_any (λ p. p.id == id) before)) fresh) [
      | inl many ↦ or_left (is_multiple places.Publish id) (not (list_any (λ p. p.id == id) (own before))) (less id many)
      | inr none ↦
          let gone = any_own id before (not_true (list_any (λ p. p.id == id) before) none) in
          or_right (is_multiple places.Publish id) (not (list_any (λ p. p.id == id) (own before))) (rw gone refl)
    ]

-- one that may stand at a place may stand in a PUBLISH after fewer
stands_own : (place : Place) (before : List Property) (p : Property) → RepeatsLess place → IsTrue (is_own p) → (property place before).Fits p → (property places.Publish (own before)).Fits p
unfolding property
stands_own place before p less mine fits = (((fits.0.0.0, here_own p.id mine), new_own place before p.id less fits.0.1), fits.1)

own_push : (before : List Property) (p : Property) → is_own p ≡ true → own (before ++ p ∷ []) ≡ own before ++ p ∷ []
own_push before p mine = filter-append is_own before (p ∷ []) ∙ rw mine refl

own_skip : (before : List Property) (p : Property) → is_own p ≡ false → own (before ++ p ∷ []) ≡ own before
own_skip before p other = filter-append is_own before (p ∷ []) ∙ rw other (append-nil (own before))

all_stand : (place : Place) (before ps : List Property) → RepeatsLess place → MayStand place before ps → MayStand places.Publish (own before) (own ps)
all_stand place before [] less stand = tt
all_stand place before (p ∷ ps) less stand =
    let later = all_stand place (before ++ p ∷ []) ps less stand.1 in
    let After : List Property → Type 0 = λ kept. MayStand places.Publish kept (own ps) in
    elim (cases_Bool (is_own p)) [
      | inl mine ↦ rw mine (stands_own place before p less mine stand.0, subst After (own_push before p mine) later)
      | inr other ↦ rw other (subst After (own_skip before p other) later)
    ]

each_own : (ps : List Property) → list_all is_valid_property ps ≡ true → list_all is_allowed_own (own ps) ≡ true
each_own [] valid = refl
each_own (p ∷ ps) valid =
    let parts = and_parts (is_valid_property p) (list_all is_valid_property ps) valid in
    elim (cases_Bool (is_own p)) [
      | inl mine ↦ rw (mine, mine, parts.0) (each_own ps parts.1)
      | inr other ↦ rw other (each_own ps parts.1)
    ]

pub length-own : (ps : List Property) → length (properties_bytes (own ps)) ≤ length (properties_bytes ps)
length-own [] = omega arith
length-own (p ∷ ps) =
    let shorter = length-own ps in
    let whole = length-append (property_bytes p) (properties_bytes ps) in
    elim (cases_Bool (is_own p)) [
      | inl mine ↦ rw mine (omega (arith, shorter, whole, length-append (property_bytes p) (properties_bytes (own ps))))
      | inr other ↦ rw other (omega (arith, shorter, whole))
    ]

own_of : (place : Place) (ps : List Property) → RepeatsLess place → IsAllowed place ps → AreOwn (own ps)
unfolding properties
own_of place ps less allowed = record {
  fits = (omega (arith, length-own ps, allowed.fits.0), all_stand place [] ps less allowed.fits.1);
  each = each_own ps (and_parts (list_all is_valid_property ps) (has 21 ps || not (has 22 ps)) allowed.valid).0;
}

pub own_of_publish : (ps : List Property) → IsAllowed places.Publish ps → AreOwn (own ps)
own_of_publish ps allowed = own_of places.Publish ps (λ id many. many) allowed

will_repeats : RepeatsLess places.Will
unfolding is_multiple
will_repeats id many = or_left (eqb id 38) (eqb id 11) many

pub own_of_will : (ps : List Property) → IsAllowed places.Will ps → AreOwn (own ps)
own_of_will ps allowed = own_of places.Will ps will_repeats allowed
