-- Connections between nodes and to them.
use Rattle.std.proofs.Common.{◌≡◌, ◌<◌, ℕ, List, [], ◌∷◌, ◌++◌, length, Option, Some, None, Result, Ok, Err, Vec, position, refl, sym, ◌∙◌, ap, subst, slice_get, slice_set, slice_index_or, length-append, arith}
use Rattle.std.proofs.lemmas.List.Quantifiers.{position-Some}
use Rattle.std.proofs.lemmas.Option.{slice_get_read}
use Rattle.std.specs.Result.{IsErrAnd}
use Rattle.std.specs.declared.alloc.Global.{Global}
use Rattle.std.specs.declared.net.socket_addr.SocketAddr.{SocketAddr}
use Rattle.std.proofs.lemmas.Result.{err_from_is_err_and}
use Rattle.broker_sockets.specs.declared.network.Answer.{Answer}
use Rattle.script_loopback.specs.declared.fault.WireFault.{WireFault}
use Rattle.script_loopback.specs.declared.host.Host.{Host}
use Rattle.script_loopback.specs.declared.host.Pair.{Pair}
use Rattle.script_loopback.specs.declared.wire.Wire.{Wire}
use Rattle.script_loopback.specs.Carrying.{Carries, Ends}
use Rattle.script_loopback.specs.Hosts.{IsListening, Listen}
use Rattle.script_loopback.specs.Network.{Adds, AddsTo, CarriesAt, Frames, FramesAt, Gives, GivesAt, Network, Opens, Reaches, ReachesAt, done, forth, is_at}

-- one more host
pub Listen-more : {S L : Type 0} (listens : S → SocketAddr → Option L → S → Type 0) (hosts : List (Host L)) (host : Host L) (s m s' : S)
    → Listen listens hosts s m → IsListening listens m host.listener s' → Listen listens (hosts ++ host ∷ []) s s'
Listen-more {S} listens [] host s m s' before next =
    let From : S → Type 0 = λ x. IsListening listens x host.listener s' in
    (s', subst From before next, refl)
Listen-more listens (x ∷ hosts) host s m s' before next = (before.0, before.1, Listen-more listens hosts host before.0 m s' before.2 next)

module _ {S L T : Type 0} (connects : S → SocketAddr → Option T → S → Type 0) (accepts : S → L → Option T → S → Type 0) where
  -- the host of the node was found
  pub adds-at : (hosts : List (Host L)) (host : Host L) (place node number : ℕ) (w : S × List (Wire T)) (result : Result (Unit {0}) WireFault) (w' : S × List (Wire T))
      → place ≡ node → place < length hosts → host ≡ slice_index_or hosts place host → AddsTo connects accepts (Some host) node number w result w' → Adds connects accepts hosts node number w result w'
  adds-at hosts host place node number w result w' same within is added =
      let At : Option (Host L) → Type 0 = λ o. AddsTo connects accepts o node number w result w' in
      let found = slice_get_read hosts (length hosts) place host refl within is in
      subst At (sym (ap (slice_get hosts) (sym same) ∙ found)) added

-- a wire that was reached is there
reached-from : {S L T : Type 0} (connects : S → SocketAddr → Option T → S → Type 0) (accepts : S → L → Option T → S → Type 0) (host : Option (Host L)) (node number : ℕ) (w w' : S × List (Wire T))
    → AddsTo connects accepts host node number w (Ok tt) w' → length w.1 < length w'.1
reached-from connects accepts None node number w w' added = absurd (cc (added.0))
reached-from {S} {L} {T} connects accepts (Some host) node number w w' added =
    omega (arith, ap length added.2, length-append {A = Wire T})

pub reached-within : {S L T : Type 0} (connects : S → SocketAddr → Option T → S → Type 0) (accepts : S → L → Option T → S → Type 0) (hosts : List (Host L)) (node number place : ℕ) (w w' : S × List (Wire T)) (wire : Wire T)
    → Reaches connects accepts hosts node number w (Ok place) w' → place < length w'.1
reached-within {S} {L} {T} connects accepts hosts node number place w w' wire reaches = go (position (is_at node number) w.1) refl reaches
  where
    go : (o : Option ℕ) → position (is_at node number) w.1 ≡ o → ReachesAt connects accepts o hosts node number w (Ok place) w' → place < length w'.1
    go None none is =
        let grown = reached-from connects accepts (slice_get hosts node) node number w w' is.0 in
        omega (arith, is.1)
    go (Some i) found is =
        let there = position-Some (is_at node number) w.1 i wire found in
        let same : place ≡ i = cc (is.0) in
        let kept : length w'.1 ≡ length w.1 = ap (λ (x : S × List (Wire T)). length x.1) is.1 in
        omega (arith, there.0)

module _ {S T : Type 0} (reads : S → T → Answer → List ℕ → S → T → Type 0) (writes : S → T → List ℕ → Answer → S → T → Type 0) (ends : S → Pair T → Ends S T) where
  -- the wire at a place was taken out, and put back with its ends as they are left
  pub carries-at : (place : ℕ) (bytes bytes' : List ℕ) (s s' : S) (wires wires' : List (Wire T)) (wire : Wire T) (pair : Pair T) (result : Result (Vec ℕ Global) WireFault)
      → place < length wires → wire ≡ slice_index_or wires place wire → bytes' ≡ bytes → Carries reads writes bytes' (ends s wire.pair) result (ends s' pair)
      → wires' ≡ slice_set wires place (record wire { pair = pair }) → CarriesAt reads writes ends place bytes (s, wires) result (s', wires')
  carries-at place bytes bytes' s s' wires wires' wire pair result within is same carries kept =
      let Of : List ℕ → Type 0 = λ bs. Carries reads writes bs (ends s wire.pair) result (ends s' pair) in
      record { wire = wire; there = slice_get_read wires (length wires) place wire refl within is; pair = pair; carries = subst Of same carries; kept = kept }

module _ {S L T : Type 0} (reads : S → T → Answer → List ℕ → S → T → Type 0) (writes : S → T → List ℕ → Answer → S → T → Type 0) (ends : S → Pair T → Ends S T) where
  -- the wire of the connection was found
  pub gives-at : (node connection place : ℕ) (bytes : Vec ℕ Global) (w : S × Network L T) (result : Result (Vec ℕ Global) WireFault) (w' : S × Network L T)
      → position (is_at node connection) w.1.clients ≡ Some place → CarriesAt reads writes ends place bytes.items (w.0, w.1.clients) result (w'.0, w'.1.clients)
      → w'.1.hosts ≡ w.1.hosts → w'.1.links ≡ w.1.links → Gives reads writes ends node connection bytes w result w'
  gives-at node connection place bytes w result w' found carries hosts links =
      let At : Option ℕ → Type 0 = λ o. GivesAt reads writes ends o bytes (w.0, w.1.clients) result (w'.0, w'.1.clients) in
      record { given = subst At (sym found) carries; hosts = hosts; links = links }

module _
    {S L T : Type 0} (connects : S → SocketAddr → Option T → S → Type 0) (accepts : S → L → Option T → S → Type 0)
    (reads : S → T → Answer → List ℕ → S → T → Type 0) (writes : S → T → List ℕ → Answer → S → T → Type 0) where
  -- a link is reached, and bytes pass over it
  pub frames-by : (hosts : List (Host L)) (from number to : ℕ) (bytes : List ℕ) (w : S × Network L T) (reached : Result ℕ WireFault) (between : S × List (Wire T)) (result : Result (Vec ℕ Global) WireFault) (w' : S × Network L T)
      → hosts ≡ w.1.hosts → number ≡ from → Reaches connects accepts hosts to number (w.0, w.1.links) reached between → FramesAt connects accepts reads writes reached bytes between result (w'.0, w'.1.links)
      → w'.1.hosts ≡ w.1.hosts → w'.1.clients ≡ w.1.clients → Frames connects accepts reads writes from to bytes w result w'
  frames-by hosts from number to bytes w reached between result w' are is reaches carries same_hosts same_clients =
      let Of : List (Host L) → Type 0 = λ hs. Reaches connects accepts hs to from (w.0, w.1.links) reached between in
      let By : ℕ → Type 0 = λ n. Reaches connects accepts hosts to n (w.0, w.1.links) reached between in
      record { reached = reached; between = between; reaches = subst Of are (subst By is reaches); carries = carries; hosts = same_hosts; clients = same_clients }

module _ {S L T : Type 0} (connects : S → SocketAddr → Option T → S → Type 0) (accepts : S → L → Option T → S → Type 0) where
  -- a wire is reached
  pub opens-by : (hosts : List (Host L)) (node connection : ℕ) (w : S × Network L T) (reached : Result ℕ WireFault) (result : Result (Unit {0}) WireFault) (w' : S × Network L T)
      → hosts ≡ w.1.hosts → Reaches connects accepts hosts node connection (w.0, w.1.clients) reached (w'.0, w'.1.clients) → result ≡ done connects accepts reached
      → w'.1.hosts ≡ w.1.hosts → w'.1.links ≡ w.1.links → Opens connects accepts node connection w result w'
  opens-by hosts node connection w reached result w' are reaches told same_hosts same_links =
      let Of : List (Host L) → Type 0 = λ hs. Reaches connects accepts hs node connection (w.0, w.1.clients) reached (w'.0, w'.1.clients) in
      record { reached = reached; reaches = subst Of are reaches; told = told; hosts = same_hosts; links = same_links }

-- a fault that is handed on
pub handed : {U : Type 0} (r : Result U WireFault) (fault : WireFault) → IsErrAnd r (λ x. x ≡ fault) → r ≡ Err fault
handed r fault failed =
    let p = err_from_is_err_and r failed in
    p.1 ∙ ap Err p.2
