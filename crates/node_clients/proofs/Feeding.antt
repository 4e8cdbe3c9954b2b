-- A piece of a stream.
use Rattle.std.proofs.Common.{◌≡◌, ℕ, is_some, List, Some, None, Result, Ok, sym, ap, subst, ◌∙◌, refl}
use Rattle.std.proofs.lemmas.List.{append-nil}
use Rattle.std.specs.FinMap as map
use Rattle.mqtt_packets.specs.declared.framer.Fed.{Fed as FedPackets}
use Rattle.node_work.specs.declared.fault.NodeFault.{NodeFault}
use Rattle.node_work.specs.declared.held.connections.Came.{Came}
use Rattle.node_work.specs.declared.held.connections.Came.TheVariants.{Nothing, Packets, Failed}
use Rattle.node_work.specs.View.{WorkView}
use Rattle.node_work.specs.Acts.{Connection}
use Rattle.node_work.specs.Held.Connections.{Fed, changed_at, with_piece}
use Rattle.node_work.specs.Held.Feeding.{IsHeldFed, cut_of}
use Rattle.node_work.specs.Working.{Acting, Returns, Did, ComesTo}
use Rattle.node_work.proofs.Working.{did_act, did_nothing, then_goes, comes_looks, comes_if, comes_if_not}
use Rattle.node_work.specs.View.{HeldView}
use Rattle.node_clients.specs.Pieces.{TakesPackets, Feeds, Shuts, PieceAt, Piece}

-- what a piece came to
abbrev pub Took : ℕ → List ℕ → Came → WorkView → WorkView → Type 0
Took c piece came w m = (h : HeldView) × IsHeldFed w.held c piece came h × (m ≡ record w { held = h })

module _ (c : ℕ) (piece : List ℕ) (w m w' : WorkView) (r : Result (Unit {0}) NodeFault) where
  pub piece_nothing : Took c piece Nothing w m → Did w m (Piece c piece (Some tt))
  piece_nothing t =
      let k = t.1 in
      let same : m ≡ w = t.2 ∙ (λ i. record w { held = (k.2 ∙ (λ j. record w.held { connections = k.1.1 j })) i }) in
      let done : Result (Unit {0}) NodeFault = Ok tt in
      comes_looks (λ x. x) done w m (λ p h. map.get h.connections c) (PieceAt c piece) None k.1.0 (subst (λ v. Did w v (Returns tt (Some tt))) (sym same) (did_nothing w tt))

  pub piece_failed : Took c piece Failed w m → ComesTo (λ x. x) r m w' (Shuts c) → ComesTo (λ x. x) r w w' (Piece c piece)
  piece_failed t d =
      let k = t.1 in
      let found = k.1.0 in
      let same : m ≡ w = t.2 ∙ (λ i. record w { held = (k.2 ∙ (λ j. record w.held { connections = k.1.3 j })) i }) in
      comes_looks (λ x. x) r w w' (λ p h. map.get h.connections c) (PieceAt c piece) (Some found) k.1.1
      (comes_if (λ x. x) r w w' found.stream.failed (Shuts c) (Feeds c piece found) k.1.2 (subst (λ v. ComesTo (λ x. x) r v w' (Shuts c)) same d))

  pub piece_packets : (f : FedPackets) → Took c piece (Packets f) w m → ComesTo (λ x. x) r m w' (TakesPackets c f.packets.items f.fault) → ComesTo (λ x. x) r w w' (Piece c piece)
  piece_packets f t d =
      let k = t.1 in
      let found = k.1.0 in
      let a = Connection (Fed c piece) in
      let table = k.1.5 ∙ ap (changed_at (with_piece piece) c w.held.connections) (sym k.1.1) in
      let held = k.2 ∙ (λ i. record w.held { connections = table i }) in
      let fed : Did w m (Acting (λ p h. a) (Some tt)) = did_act (λ p h. a) w m (ap is_some k.1.1) refl (t.2 ∙ (λ i. record w { held = held i; outputs = sym (append-nil w.outputs) i })) in
      let cut = cut_of found.stream piece in
      let takes = subst (λ x. ComesTo (λ y. y) r m w' (TakesPackets c cut.packets x)) k.1.4 (subst (λ ps. ComesTo (λ y. y) r m w' (TakesPackets c ps f.fault)) k.1.3 d) in
      comes_looks (λ x. x) r w w' (λ p h. map.get h.connections c) (PieceAt c piece) (Some found) k.1.1
      (comes_if_not (λ x. x) r w w' found.stream.failed (Shuts c) (Feeds c piece found) k.1.2
      (then_goes (Acting (λ p h. a)) (λ _. TakesPackets c cut.packets cut.fault) (λ x. x) r w m w' tt fed takes))
