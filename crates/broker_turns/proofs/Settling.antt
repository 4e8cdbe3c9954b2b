-- That a handler has settled before anybody is written to.
use Rattle.std.proofs.Common.{◌≡◌, ℕ, List, [], ◌∷◌, Bool, true, false, Option, Some, None, ◌∙◌, ap}
use Rattle.std.specs.declared.net.socket_addr.SocketAddr.{SocketAddr}
use Rattle.slab.specs.Slab.{Slab, get}
use Rattle.broker_sockets.specs.declared.network.Answer.{Answer}
use Rattle.broker_sockets.specs.declared.bridge.Given.{Given}
use Rattle.broker_sockets.specs.declared.bridge.PeerEvent.{PeerEvent}
use Rattle.broker_sockets.specs.declared.events.Event.{Event}
use Rattle.broker_sockets.specs.declared.events.Output.{Output}
use Rattle.broker_sockets.specs.declared.ready.Ready.{Ready}
use Rattle.broker_sockets.specs.declared.ready.Watched.{Watched}
use Rattle.broker_turns.specs.declared.clients.Client.{Client}
use Rattle.broker_turns.specs.declared.turn.Fate.{Fate}
use Rattle.broker_turns.specs.declared.turn.Fate.TheVariants.{Stays, Done, Lost}
use Rattle.broker_turns.specs.Connections.{IsLost, IsParted, IsWrote, IsWroteIn, World}
use Rattle.broker_turns.specs.Order.{NothingIsToldEarly}
use Rattle.broker_turns.specs.Steps.{Each}

module _ {S H T : Type 0} (writes : S → T → List ℕ → Answer → S → T → Type 0) (handles : H → Event → List Output → H → Type 0) (settles : H → H → Type 0) (at : ℕ)
    (is_settled : H → Bool) (after : (h h' : H) → settles h h' → is_settled h' ≡ true) where
  lost-settled : (closing : Bool) (key : ℕ) (h h' : H) (c c' : Slab (Client T)) → IsLost handles settles at closing key h c h' c' → is_settled h ≡ true → is_settled h' ≡ true
  lost-settled true key h h' c c' lost before = ap (λ x. is_settled x) lost.0 ∙ before
  lost-settled false key h h' c c' lost before = after lost.0 h' lost.2

  parted-settled : (key : ℕ) (fate : Fate) (left : Client T) (h h' : H) (c c' : Slab (Client T)) → IsParted handles settles at key fate left h c h' c' → is_settled h ≡ true → is_settled h' ≡ true
  parted-settled key Stays left h h' c c' parted before = ap (λ x. is_settled x) parted.0 ∙ before
  parted-settled key Done left h h' c c' parted before = ap (λ x. is_settled x) parted.0 ∙ before
  parted-settled key Lost left h h' c c' parted before = lost-settled left.closing key h h' c c' parted before

  wrote_in-settled : (client : Option (Client T)) (key : ℕ) (w w' : World S H T) → IsWroteIn writes handles settles at key client w w' → is_settled w.handler ≡ true → is_settled w'.handler ≡ true
  wrote_in-settled None key w w' same before = ap (λ v. is_settled v.handler) same ∙ before
  wrote_in-settled (Some client) key w w' tried before = parted-settled key tried.fate tried.left w.handler w'.handler w.clients w'.clients tried.parted before

  wrote-settled : (key : ℕ) (w w' : World S H T) → IsWrote writes handles settles at key w w' → is_settled w.handler ≡ true → is_settled w'.handler ≡ true
  wrote-settled key w w' wrote before = wrote_in-settled (get w.clients key) key w w' wrote.by_client before

  abbrev IsWroteSettled : ℕ → World S H T → World S H T → Type 0
  IsWroteSettled key w w' = (is_settled w.handler ≡ true) × IsWrote writes handles settles at key w w'

  each-settled : (keys : List ℕ) (w w' : World S H T) → Each (IsWrote writes handles settles at) keys w w' → is_settled w.handler ≡ true → Each IsWroteSettled keys w w' × (is_settled w'.handler ≡ true)
  each-settled [] w w' same before = (same, ap (λ v. is_settled v.handler) same ∙ before)
  each-settled (key ∷ keys) w w' each before =
      let rest = each-settled keys each.0 w' each.2 (wrote-settled key w each.0 each.1 before) in
      ((each.0, (before, each.1), rest.0), rest.1)

pub nothing_is_told_early : {S H L T : Type 0} (accepts : S → L → Option T → S → Type 0) (watches : S → T → Watched → Bool → S → Type 0) (connects : S → SocketAddr → Option T → S → Type 0) (reads : S → T → Answer → List ℕ → S → T → Type 0) (writes : S → T → List ℕ → Answer → S → T → Type 0) (finds : S → Ready → S → Type 0) (handles : H → Event → List Output → H → Type 0) (hears : H → PeerEvent → Given → H → Type 0) (settles : H → H → Type 0) → NothingIsToldEarly {L = L} accepts watches connects reads writes finds handles hears settles
nothing_is_told_early accepts watches connects reads writes finds handles hears settles is_settled after setting at old new turn =
    each-settled writes handles settles at is_settled after turn.gives_out.due _ _ turn.gives_out.written.does (after _ _ turn.decides.settled.does.does)
