-- That all clients that are noted are named.
use Rattle.std.proofs.Common.{◌≡◌, ◌<◌, ◌≤◌, ℕ, List, [], ◌∷◌, ◌++◌, Bool, length, arith, Option, Some, None, true, false, refl, sym, ◌∙◌, ap, inl, inr, eq-eqb}
use Rattle.std.specs.Prelude.{◌||◌, eqb, if◌then◌else◌}
use Rattle.std.proofs.lemmas.Bool.Decides.{eqb_tells}
use Rattle.slab.specs.Slab.{Slab, get, Updates, with_value}
use Rattle.broker_turns.specs.declared.clients.Client.{Client}
use Rattle.broker_turns.specs.Clients.{AreMinded, AreNamed, IsMinded, is_noted, is_noted_at}
use Rattle.broker_turns.specs.Numbers.{is_among}
use Rattle.broker_turns.proofs.Turning.{at-value}

or-right : (a b : Bool) → b ≡ true → (a || b) ≡ true
or-right true b is = refl
or-right false b is = is

or-left : (a b : Bool) → a ≡ true → (a || b) ≡ true
or-left true b is = refl
or-left false b is = absurd (cc)

or-both : (a b c : Bool) → (b ≡ true → c ≡ true) → (a || b) ≡ true → (a || c) ≡ true
or-both true b c over is = refl
or-both false b c over is = over is

same-key : (key : ℕ) → eqb key key ≡ true
same-key key = eq-eqb key key refl

pub among-more : (keys : List ℕ) (key other : ℕ) → is_among keys other ≡ true → is_among (keys ++ key ∷ []) other ≡ true
among-more [] key other is = absurd (cc)
among-more (k ∷ keys) key other is = or-both (eqb other k) (is_among keys other) (is_among (keys ++ key ∷ []) other) (λ there. among-more keys key other there) is

pub among-last : (keys : List ℕ) (key : ℕ) → is_among (keys ++ key ∷ []) key ≡ true
among-last [] key = or-left (eqb key key) false (same-key key)
among-last (k ∷ keys) key = or-right (eqb key k) (is_among (keys ++ key ∷ []) key) (among-last keys key)

pub among-pushed : (b : Bool) (keys keys' : List ℕ) (key other : ℕ) → keys' ≡ (if b then keys ++ key ∷ [] else keys) → is_among keys other ≡ true → is_among keys' other ≡ true
among-pushed true keys keys' key other is there = ap (λ k. is_among k other) is ∙ among-more keys key other there
among-pushed false keys keys' key other is there = ap (λ k. is_among k other) is ∙ there

module _ {T : Type 0} where
  pub named-pushed : (c : Slab (Client T)) (b : Bool) (keys keys' : List ℕ) (key : ℕ) → keys' ≡ (if b then keys ++ key ∷ [] else keys) → AreNamed c keys → AreNamed c keys'
  named-pushed c b keys keys' key is named other due = among-pushed b keys keys' key other is (named other due)

  pub named-update : (c c' : Slab (Client T)) (keys : List ℕ) (key : ℕ) (slot : Option (Client T)) → AreNamed c keys → Updates c c' key slot → (is_noted_at slot ≡ true → is_among keys key ≡ true) → AreNamed c' keys
  named-update c c' keys key slot named updates due other is = elim (eqb_tells other key) [
    | inl same ↦
        let at : get c' other ≡ slot = ap (λ k. get c' k) same.1 ∙ updates.changed in
        ap (λ k. is_among keys k) same.1 ∙ due (ap (λ x. is_noted_at x) (sym at) ∙ is)
    | inr apart ↦ named other (ap (λ x. is_noted_at x) (sym (updates.others other apart.1)) ∙ is)
  ]

  pub named-removal : (c c' : Slab (Client T)) (keys : List ℕ) (key : ℕ) → AreNamed c keys → Updates c c' key None → AreNamed c' keys
  named-removal c c' keys key named updates = named-update c c' keys key None named updates (λ is. absurd (cc))

  pub named-more : (c : Slab (Client T)) (keys : List ℕ) (key : ℕ) → AreNamed c keys → AreNamed c (keys ++ key ∷ [])
  named-more c keys key named other is = among-more keys key other (named other is)

  -- a client that is changed in its place
  pub named-value : (c : Slab (Client T)) (keys : List ℕ) (key : ℕ) (old new : Client T) → AreNamed c keys → get c key ≡ Some old → (is_noted new ≡ true → is_among keys key ≡ true) → AreNamed (with_value c key new) keys
  named-value c keys key old new named found due = named-update c (with_value c key new) keys key (Some new) named (at-value c key old new found) due

  -- what is due then was due before
  pub named-still : (c : Slab (Client T)) (keys : List ℕ) (key : ℕ) (old new : Client T) → AreNamed c keys → get c key ≡ Some old → (is_noted new ≡ true → is_noted old ≡ true) → AreNamed (with_value c key new) keys
  named-still c keys key old new named found still = named-value c keys key old new named found (λ is. named key (ap (λ x. is_noted_at x) found ∙ still is))

  -- nobody is forgotten where a client is changed in its place
  minded_at : (c : Slab (Client T)) (key : ℕ) (old new : Client T) → AreMinded c → get c key ≡ Some old → IsMinded new → AreMinded (with_value c key new)
  minded_at c key old new minded found now k client there = elim (eqb_tells k key) [
    | inl same ↦
        let is : Some new ≡ Some client = sym (at-value c key old new found).changed ∙ ap (λ x. get (with_value c key new) x) (sym same.1) ∙ there in
        let one : client ≡ new = cc in
        (rw one now)
    | inr apart ↦ minded k client (sym ((at-value c key old new found).others k apart.1) ∙ there)
  ]

  -- as it was, or to be told
  same_minded : (old new : Client T) → IsMinded old → (new.untold ≡ false → new ≡ old) → IsMinded new
  same_minded old new minded same untold =
      let is = same untold in
      let before : old.untold ≡ false = ap (λ (x : Client T). x.untold) (sym is) ∙ untold in
      let few : length old.unsent < 262144 = minded before in
      let len : length new.unsent ≡ length old.unsent = ap (λ (x : Client T). length x.unsent) is in
      omega (arith, few, len)

  pub minded_same : (c : Slab (Client T)) (key : ℕ) (old new : Client T) → AreMinded c → get c key ≡ Some old → (new.untold ≡ false → new ≡ old) → AreMinded (with_value c key new)
  minded_same c key old new minded found same = minded_at c key old new minded found (same_minded old new (minded key old found) same)

  -- with fewer bytes that wait
  fewer_minded : (old new : Client T) → IsMinded old → new.untold ≡ old.untold → length new.unsent ≤ length old.unsent → IsMinded new
  fewer_minded old new minded same fewer untold =
      let few : length old.unsent < 262144 = minded (sym same ∙ untold) in
      omega (arith, few, fewer)

  pub minded_fewer : (c : Slab (Client T)) (key : ℕ) (old new : Client T) → AreMinded c → get c key ≡ Some old → new.untold ≡ old.untold → length new.unsent ≤ length old.unsent → AreMinded (with_value c key new)
  minded_fewer c key old new minded found same fewer = minded_at c key old new minded found (fewer_minded old new (minded key old found) same fewer)
