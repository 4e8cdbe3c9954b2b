-- Steps of a turn, one after another.
use Rattle.std.proofs.Common.{◌≡◌, ◌≤◌, ℕ, length, length-drop, arith, List, Option, Some, None, Bool, true, false, refl, sym, ◌∙◌, subst, ap}
use Rattle.slab.specs.Slab.{Slab, get, Updates, with_value}
use Rattle.slab.proofs.SlabLemmas.{Updates-with_value}
use Rattle.broker_sockets.specs.Answers.{left_after}
use Rattle.broker_sockets.specs.declared.network.Answer.{Answer}
use Rattle.broker_sockets.specs.declared.network.Answer.TheVariants.{Later, Bytes, Gone}
use Rattle.broker_turns.specs.declared.clients.Client.{Client}
use Rattle.broker_sockets.specs.declared.events.Event.{Event}
use Rattle.broker_sockets.specs.declared.events.Output.{Output}
use Rattle.broker_turns.specs.Connections.{World, IsAsked, IsRead, IsReadIn, IsReadIf, IsTried, IsWrote, IsWroteIn, IsLetGo, IsLost}
use Rattle.broker_turns.specs.declared.turn.Fate.{Fate}
use Rattle.broker_turns.specs.Writing.{IsWritten, Tried}

pub at-value : {T : Type 0} (c : Slab T) (key : ℕ) (old new : T) → get c key ≡ Some old → Updates c (with_value c key new) key (Some new)
at-value c key old new found = Updates-with_value c key new (rw found refl)

pub Updates-over : {T : Type 0} (a b c : Slab T) (key : ℕ) (x y : Option T) → Updates a b key x → Updates b c key y → Updates a c key y
Updates-over a b c key x y first second = record {
  changed = second.changed;
  others = λ other differs. second.others other differs ∙ first.others other differs;
}

module _ {H T : Type 0} (handles : H → Event → List Output → H → Type 0) (at key : ℕ) where
  pub let_go-over : (h h' : H) (c m c' : Slab (Client T)) (x : Option (Client T)) → Updates c m key x → IsLetGo handles at key h m h' c' → IsLetGo handles at key h c h' c'
  let_go-over h h' c m c' x over gone = record {
    less = gone.less;
    removed = Updates-over c m gone.less key x None over gone.removed;
    handled = gone.handled;
  }

module _ {H T : Type 0} (handles : H → Event → List Output → H → Type 0) (settles : H → H → Type 0) (at key : ℕ) where
  pub lost-closing : (closing : Bool) (h : H) (c m c' : Slab (Client T)) (x : Option (Client T)) → closing ≡ true → Updates c m key x → Updates m c' key None → IsLost handles settles at closing key h c h c'
  lost-closing closing h c m c' x closes over removed =
      let P : Bool → Type 0 = λ b. IsLost handles settles at b key h c h c' in
      subst P (sym closes) (refl, Updates-over c m c' key x None over removed)

  pub lost-open : (closing : Bool) (h n h' : H) (c m c' : Slab (Client T)) (x : Option (Client T)) → closing ≡ false → Updates c m key x → IsLetGo handles at key h m n c' → settles n h' → IsLost handles settles at closing key h c h' c'
  lost-open closing h n h' c m c' x stays over gone settled =
      let P : Bool → Type 0 = λ b. IsLost handles settles at b key h c h' c' in
      subst P (sym stays) (n, let_go-over handles at key h n c m c' x over gone, settled)

-- no more waits than before
same-fewer : (xs ys : List ℕ) → xs ≡ ys → length xs ≤ length ys
same-fewer xs ys same = omega (arith, ap (λ (t : List ℕ). length t) same)

left-fewer : (answer : Answer) (left unsent : List ℕ) → left ≡ left_after answer unsent → length left ≤ length unsent
left-fewer Later left unsent is = same-fewer left unsent is
left-fewer (Bytes n) left unsent is = omega (arith, ap (λ (t : List ℕ). length t) is, length-drop n unsent)
left-fewer Gone left unsent is = same-fewer left unsent is

module _ {S T : Type 0} (writes : S → T → List ℕ → Answer → S → T → Type 0) where
  pub tried-closing : (answer : Option Answer) (s s' : S) (client left : Client T) → Tried writes s client answer s' left → left.closing ≡ client.closing
  tried-closing None s s' client left t = ap (λ c. c.closing) t.2
  tried-closing (Some answer) s s' client left t = t.1

  tried-untold : (answer : Option Answer) (s s' : S) (client left : Client T) → Tried writes s client answer s' left → left.untold ≡ client.untold
  tried-untold None s s' client left t = ap (λ c. c.untold) t.2
  tried-untold (Some answer) s s' client left t = t.2

  tried-fewer : (answer : Option Answer) (s s' : S) (client left : Client T) → Tried writes s client answer s' left → length left.unsent ≤ length client.unsent
  tried-fewer None s s' client left t = same-fewer left.unsent client.unsent (ap (λ c. c.unsent) t.2)
  tried-fewer (Some answer) s s' client left t = left-fewer answer left.unsent client.unsent t.0.left_is

  pub written-untold : (fate : Fate) (s s' : S) (client left : Client T) → IsWritten writes s client fate s' left → left.untold ≡ client.untold
  written-untold fate s s' client left w = tried-untold w.answer s s' client left w.tried

  pub written-fewer : (fate : Fate) (s s' : S) (client left : Client T) → IsWritten writes s client fate s' left → length left.unsent ≤ length client.unsent
  written-fewer fate s s' client left w = tried-fewer w.answer s s' client left w.tried

  pub written-closing : (fate : Fate) (s s' : S) (client left : Client T) → IsWritten writes s client fate s' left → left.closing ≡ client.closing
  written-closing fate s s' client left w = tried-closing w.answer s s' client left w.tried

module _ {S H T : Type 0} (reads : S → T → Answer → List ℕ → S → T → Type 0) (handles : H → Event → List Output → H → Type 0) (at key : ℕ) where
  pub read-at : (client : Client T) (w : World S H T) (more : Bool) (w' : World S H T) → get w.clients key ≡ Some client → client.closing ≡ false → IsAsked reads handles at key client w more w' → IsRead reads handles at key w more w'
  read-at client w more w' found stays asked =
      let P : Option (Client T) → Type 0 = λ o. IsReadIn reads handles at key o w more w' in
      let Q : Bool → Type 0 = λ b. IsReadIf reads handles at key b client w more w' in
      record { by_client = subst P (sym found) (subst Q (sym stays) asked) }

module _ {S H T : Type 0} (writes : S → T → List ℕ → Answer → S → T → Type 0) (handles : H → Event → List Output → H → Type 0) (settles : H → H → Type 0) (at key : ℕ) where
  pub wrote-at : (client : Client T) (w w' : World S H T) → get w.clients key ≡ Some client → IsTried writes handles settles at key client w w' → IsWrote writes handles settles at key w w'
  wrote-at client w w' found tried =
      let P : Option (Client T) → Type 0 = λ o. IsWroteIn writes handles settles at key o w w' in
      record { by_client = subst P (sym found) tried }
