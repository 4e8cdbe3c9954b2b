-- The codes of a SUBACK stand in the order of the filters.
use Rattle.std.proofs.Common.{◌≡◌, ℕ, Bool, true, false, arith, cond, List, [], ◌∷◌, length, map, suc, Option, Some, None, refl, sym, ap, ◌∙◌}
use Rattle.std.specs.Prelude.{filter, zip}
use Rattle.mqtt_packets.specs.declared.subscribe.SubscribeFilter.{SubscribeFilter}
use Rattle.door_packets.specs.Laws.{AreInOrder, CodesInOrder}
use Rattle.door_packets.specs.Packets.{codes_of, is_asked}
use Rattle.door_packets.specs.Codes.{merged}
use Rattle.door_packets.specs.Rights.{Rights}
use Rattle.door_packets.specs.declared.access.Login.{Login}

abbrev Pairs : Type 0
Pairs = List (SubscribeFilter × ℕ)

abbrev picked : Rights → Login → Pairs → List ℕ
picked r l xs = map (λ x. x.1) (filter (λ x. is_asked r l x.0) xs)

module _ (r : Rights) (l : Login) (f : SubscribeFilter) (fs : List SubscribeFilter) where
  abbrev all_of : List ℕ → List ℕ
  all_of granted = merged (codes_of r l fs) granted

  order_case : ((granted : List ℕ) → length granted ≡ length (filter (is_asked r l) fs) → AreInOrder r l fs granted (all_of granted)) → (granted : List ℕ) (b : Bool) → is_asked r l f ≡ b
      → length granted ≡ length (cond b (f ∷ filter (is_asked r l) fs) (filter (is_asked r l) fs)) → AreInOrder r l (f ∷ fs) granted (merged (cond b None (Some 135) ∷ codes_of r l fs) granted)
  order_case rest [] true is e = absurd (omega arith)
  order_case rest (c ∷ granted) true is e =
      let behind = rest granted (omega arith) in
      let pairs : Pairs = zip fs (all_of granted) in
      record {
        long = ap suc behind.long;
        refused = ((λ no. absurd (let bad : true ≡ false = sym is ∙ no in cc)), behind.refused);
        others = ap (λ (b : Bool). map (λ (x : SubscribeFilter × ℕ). x.1) (cond b ((f, c) ∷ filter (λ x. is_asked r l x.0) pairs) (filter (λ x. is_asked r l x.0) pairs))) is ∙ ap (λ (xs : List ℕ). c ∷ xs) behind.others;
      }
  order_case rest granted false is e =
      let behind = rest granted e in
      let pairs : Pairs = zip fs (all_of granted) in
      record {
        long = ap suc behind.long;
        refused = ((λ no. refl), behind.refused);
        others = ap (λ (b : Bool). map (λ (x : SubscribeFilter × ℕ). x.1) (cond b ((f, 135) ∷ filter (λ x. is_asked r l x.0) pairs) (filter (λ x. is_asked r l x.0) pairs))) is ∙ behind.others;
      }

pub in_order : CodesInOrder
in_order r l [] [] e = record { long = refl; refused = tt; others = refl }
in_order r l [] (c ∷ granted) e = absurd (omega arith)
in_order r l (f ∷ fs) granted e = order_case r l f fs (λ g same. in_order r l fs g same) granted (is_asked r l f) refl e
