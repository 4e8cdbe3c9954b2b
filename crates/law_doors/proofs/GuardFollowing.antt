-- Each connection is followed behind a handler that lets in users alone.
use Rattle.std.proofs.Common.{◌≡◌, ℕ, List, [], ◌∷◌, ◌++◌, map, Option, Some, None, append_assoc, append-nil, refl, sym, ap, subst, ◌∙◌}
use Rattle.std.proofs.lemmas.List.{map-append}
use Rattle.std.proofs.lemmas.Grind.{flat_map-append}
use Rattle.broker_sockets.specs.declared.bridge.Given.{Given}
use Rattle.broker_sockets.specs.declared.bridge.PeerEvent.{PeerEvent}
use Rattle.broker_sockets.specs.declared.events.Event.{Event}
use Rattle.broker_sockets.specs.declared.events.Output.{Output}
use Rattle.broker_turns.specs.Handling.Told.{Of_client, Of_peer}
use Rattle.door_guard.proofs.Paths.{at_idle, counts_then, idle_todo, on_then, path_none, path_then, paths_as, paths_at}
use Rattle.door_guard.specs.Answering.{IsPassedOn, refusals_of}
use Rattle.door_guard.specs.Calls as guards
use Rattle.door_guard.specs.Calls.{given_at, given_of, noted_at, noted_of}
use Rattle.door_guard.specs.Clients.{client_of}
use Rattle.door_guard.specs.Counts.{Refused, all_counted}
use Rattle.door_guard.specs.Stages.{Held, IsPath, Notice, Outgoing, at, held_after, held_by, idle, none_busy, noted, on, staged, todo_of}
use Rattle.door_guard.specs.Telling.{ArePaths, AreTold, IsMet, Stages, Told, given_by, none, noted_in}
use Rattle.door_guard.specs.declared.clients.Clients.{Clients}
use Rattle.door_guard.specs.declared.door.Door.{Door}
use Rattle.door_guard.specs.declared.known.Known.{Known}
use Rattle.door_packets.specs.Rights.{Rights}
use Rattle.law_doors.specs.Calls.{ArePassed, Call, Settles, Tells, notes, notes_peer}
use Rattle.law_doors.specs.Guards.{GuardsFollow, Guards_pass, access_of, as_guard_call, clients_in, known_in}

-- ---- paths of calls, and of those of the handler inside

abbrev idly : Clients → Stages
idly k = staged none_busy k

-- and what is refused on them
record Paths (r : Rights) (calls inside : List guards.Call) (k k' : Known) : Type 0 where
  refused : List Refused
  counts : k'.refusals ≡ all_counted refused k.refusals
  paths : ArePaths r (λ q. noted_of q calls) (λ q. noted_of q inside) (given_of inside) refused (idly k.clients) (idly k'.clients) [] (given_of calls)

noted_both : (q : ℕ) (xs ys : List guards.Call) → noted_of q (xs ++ ys) ≡ noted_of q xs ++ noted_of q ys
noted_both q xs ys = flat_map-append (noted_at q) xs ys

given_both : (xs ys : List guards.Call) → given_of (xs ++ ys) ≡ given_of xs ++ given_of ys
given_both xs ys = flat_map-append given_at xs ys

paths_still : (r : Rights) (k : Known) → Paths r [] [] k k
paths_still r k = record { refused = []; counts = refl; paths = λ q. path_none r q (idly k.clients q) [] }

-- nothing comes of settling
paths_settled : (r : Rights) (k : Known) → Paths r (guards.Settled ∷ []) (guards.Settled ∷ []) k k
paths_settled r k = record { refused = []; counts = refl; paths = λ q. path_none r q (idly k.clients q) [] }

-- what goes out is put behind what went out before
moved : (r : Rights) (q : ℕ) (s s' : Option Held) (met told : List Notice) (given : List Output) (refused : List Refused) (p front : List Output) → IsPath r q s s' met told given refused [] p → IsPath r q s s' met told given refused front (front ++ p)
moved r q s s' met told given refused p front a = record {
  happenings = a.happenings;
  held = a.held;
  orderly = a.orderly;
  comes = a.comes;
  tells = a.tells;
  gives = a.gives;
  refuses = a.refuses;
  goes = on_then q front p ∙ ap (λ (xs : List Outgoing). on q front ++ xs) a.goes;
}

paths_both : (r : Rights) (call : guards.Call) (more first rest : List guards.Call) (k l k' : Known) → Paths r (call ∷ []) first k l → Paths r more rest l k' → Paths r (call ∷ more) (first ++ rest) k k'
paths_both r call more first rest k l k' a b = record {
  refused = a.refused ++ b.refused;
  counts = counts_then a.refused b.refused k.refusals l.refusals k'.refusals a.counts b.counts;
  paths = λ q.
      let from = idly k.clients q in
      let to = idly k'.clients q in
      let refused = a.refused ++ b.refused in
      let second = moved r q (idly l.clients q) to (noted_of q more) (noted_of q rest) (given_of rest) b.refused (given_of more) (given_of (call ∷ [])) (b.paths q) in
      let joined = path_then r q from (idly l.clients q) to (noted_of q (call ∷ [])) (noted_of q more) (noted_of q first) (noted_of q rest) (given_of first) (given_of rest) a.refused b.refused [] (given_of (call ∷ [])) (given_of (call ∷ []) ++ given_of more) (a.paths q) second in
      let met : noted_of q (call ∷ []) ++ noted_of q more ≡ noted_of q (call ∷ more) = ap (λ (xs : List Notice). xs ++ noted_of q more) (append-nil (noted_at q call)) in
      let given : given_of (call ∷ []) ++ given_of more ≡ given_of (call ∷ more) = ap (λ (xs : List Output). xs ++ given_of more) (append-nil (given_at call)) in
      let one = subst (λ (xs : List Notice). IsPath r q from to xs (noted_of q first ++ noted_of q rest) (given_of first ++ given_of rest) refused [] (given_of (call ∷ []) ++ given_of more)) met joined in
      let two = subst (λ (xs : List Notice). IsPath r q from to (noted_of q (call ∷ more)) xs (given_of first ++ given_of rest) refused [] (given_of (call ∷ []) ++ given_of more)) (sym (noted_both q first rest)) one in
      let three = subst (λ (xs : List Output). IsPath r q from to (noted_of q (call ∷ more)) (noted_of q (first ++ rest)) xs refused [] (given_of (call ∷ []) ++ given_of more)) (sym (given_both first rest)) two in
      subst (λ (xs : List Output). IsPath r q from to (noted_of q (call ∷ more)) (noted_of q (first ++ rest)) (given_of (first ++ rest)) refused [] xs) given three;
}

-- ---- what is noted is what was called

abbrev as_calls : List Told → List guards.Call
as_calls [] = []
as_calls (t ∷ ts) = guards.Handled t.0 t.1 ∷ as_calls ts

given_as : (ts : List Told) → given_of (as_calls ts) ≡ given_by ts
given_as [] = refl
given_as (t ∷ ts) = ap (λ (xs : List Output). t.1 ++ xs) (given_as ts)

noted_as : (q : ℕ) (ts : List Told) → noted_of q (as_calls ts) ≡ noted_in q ts
noted_as q [] = refl
noted_as q (t ∷ ts) = ap (λ (xs : List Notice). noted q t.0.kind ++ xs) (noted_as q ts)

told_calls : (ts : List Told) (xs ys : List Call) → AreTold notes ts xs ys → map as_guard_call ys ≡ map as_guard_call xs ++ as_calls ts
told_calls [] xs ys same = ap (λ (zs : List Call). map as_guard_call zs) same ∙ sym (append-nil (map as_guard_call xs))
told_calls (t ∷ ts) xs ys all =
    told_calls ts all.0 ys all.2 ∙ ap (λ (zs : List Call). map as_guard_call zs ++ as_calls ts) all.1 ∙ ap (λ (zs : List guards.Call). zs ++ as_calls ts) (map-append as_guard_call xs (Tells (Of_client t.0 t.1) ∷ []))
    ∙ append_assoc (map as_guard_call xs) (guards.Handled t.0 t.1 ∷ []) (as_calls ts)

-- ---- one call

-- an event of clients
handled : (r : Rights) (e : Event) (outputs : List Output) (first : List Call) (k k' : Known) → IsMet notes r e.at (λ q. noted q e.kind) [] first k.clients k'.clients (k.refusals, []) (k'.refusals, outputs)
    → Paths r (guards.Handled e outputs ∷ []) (map as_guard_call first) k k'
handled r e outputs first k k' t =
    let p = t.part in
    let Of : List guards.Call → Type 0 = λ inside. Paths r (guards.Handled e outputs ∷ []) inside k k' in
    let goes : ArePaths r (λ q. noted q e.kind) (λ q. noted_in q p.calls) (given_by p.calls) p.refused (idly k.clients) (idly k'.clients) [] (given_of (guards.Handled e outputs ∷ [])) =
    subst (λ (xs : List Output). ArePaths r (λ q. noted q e.kind) (λ q. noted_in q p.calls) (given_by p.calls) p.refused (idly k.clients) (idly k'.clients) [] xs) (sym (append-nil outputs)) p.paths in
    let all : Of (as_calls p.calls) = record {
      refused = p.refused;
      counts = p.counts;
      paths = paths_as r (idly k.clients) (idly k'.clients) (λ q. noted q e.kind) (λ q. noted_of q (guards.Handled e outputs ∷ [])) (λ q. noted_in q p.calls) (λ q. noted_of q (as_calls p.calls)) (given_by p.calls) (given_of (as_calls p.calls))
          p.refused [] (given_of (guards.Handled e outputs ∷ [])) (λ q. sym (append-nil (noted q e.kind))) (λ q. sym (noted_as q p.calls)) (sym (given_as p.calls)) goes;
    } in
    subst Of (sym (told_calls p.calls [] first p.told)) all

-- what other nodes bring about
heard : (r : Rights) (e : PeerEvent) (given : Given) (first : List Call) (k k' : Known) → IsPassedOn notes_peer r e [] first k k' given
    → Paths r (guards.Heard e given ∷ []) (map as_guard_call first) k k'
heard r e given first k k' t =
    let Of : List Call → Type 0 = λ xs. Paths r (guards.Heard e given ∷ []) (map as_guard_call xs) k k' in
    let refused = t.gives.refused in
    let gives : ArePaths r none none t.first.outputs.items refused (idly k.clients) (idly k'.clients) [] given.outputs.items =
    paths_at r (staged (at 0 idle) k.clients) (idly k.clients) (staged (at 0 idle) k'.clients) (idly k'.clients) none none t.first.outputs.items refused [] given.outputs.items (at_idle 0 k.clients) (at_idle 0 k'.clients) (t.gives.paths []) in
    let goes : ArePaths r none none t.first.outputs.items refused (idly k.clients) (idly k'.clients) [] (given_of (guards.Heard e given ∷ [])) =
    subst (λ (xs : List Output). ArePaths r none none t.first.outputs.items refused (idly k.clients) (idly k'.clients) [] xs) (sym (append-nil given.outputs.items)) gives in
    let all : Of (Tells (Of_peer e t.first) ∷ []) = record {
      refused = refused;
      counts = t.gives.counts;
      paths = paths_as r (idly k.clients) (idly k'.clients) none (λ q. noted_of q (guards.Heard e given ∷ [])) none (λ q. noted_of q (guards.Heard e t.first ∷ [])) t.first.outputs.items (given_of (guards.Heard e t.first ∷ []))
          refused [] (given_of (guards.Heard e given ∷ [])) (λ q. refl) (λ q. refl) (sym (append-nil t.first.outputs.items)) goes;
    } in
    subst Of (sym t.heard) all

-- ---- all calls

module _ {A : Type 0} (rights : A → Rights) where
  -- who may do what stays, and there is a path for each connection
  record Ends (access : A) (calls inside : List guards.Call) (k : Door A) (o : Option (Door A)) : Type 0 where
    door : Door A
    is : o ≡ Some door
    kept : access_of door ≡ access
    paths : Paths (rights access) calls inside (known_in k) (known_in door)

  one : (call : Call) (first : List Call) (k : Door A) (o : Option (Door A)) → Guards_pass rights (Some k) call first o → Ends (access_of k) (as_guard_call call ∷ []) (map as_guard_call first) k o
  one (Tells (Of_client e outputs)) first k None t = absurd t
  one (Tells (Of_client e outputs)) first k (Some k') t =
      record { door = k'; is = refl; kept = t.1; paths = handled (rights (access_of k)) e outputs first (known_in k) (known_in k') t.0 }
  one (Tells (Of_peer e given)) first k None t = absurd t
  one (Tells (Of_peer e given)) first k (Some k') t =
      record { door = k'; is = refl; kept = t.1; paths = heard (rights (access_of k)) e given first (known_in k) (known_in k') t.0 }
  one Settles first k o t =
      let Of : List Call → Type 0 = λ xs. Paths (rights (access_of k)) (guards.Settled ∷ []) (map as_guard_call xs) (known_in k) (known_in k) in
      record { door = k; is = t.1; kept = refl; paths = subst Of (sym t.0) (paths_settled (rights (access_of k)) (known_in k)) }

  all : (calls inside : List Call) (access : A) (k : Door A) (o : Option (Door A)) → access_of k ≡ access → ArePassed (Guards_pass rights) (Some k) calls inside o
      → Ends access (map as_guard_call calls) (map as_guard_call inside) k o
  all [] inside access k o same passed =
      let Of : List Call → Type 0 = λ xs. Paths (rights access) [] (map as_guard_call xs) (known_in k) (known_in k) in
      record { door = k; is = passed.1; kept = same; paths = subst Of (sym passed.0) (paths_still (rights access) (known_in k)) }
  all (call ∷ calls) inside access k o same passed =
      let By : A → Type 0 = λ a. Ends a (as_guard_call call ∷ []) (map as_guard_call passed.1) k passed.0 in
      let first = subst By same (one call passed.1 k passed.0 passed.3) in
      let From : Option (Door A) → Type 0 = λ m. ArePassed (Guards_pass rights) m calls passed.2 o in
      let rest = all calls passed.2 access first.door o first.kept (subst From first.is passed.4) in
      let Of : List guards.Call → Type 0 = λ xs. Paths (rights access) (as_guard_call call ∷ map as_guard_call calls) xs (known_in k) (known_in rest.door) in
      let inside_is : map as_guard_call passed.1 ++ map as_guard_call passed.2 ≡ map as_guard_call inside =
      sym (map-append as_guard_call passed.1 passed.2) ∙ ap (λ (xs : List Call). map as_guard_call xs) (sym passed.5) in
      record {
        door = rest.door;
        is = rest.is;
        kept = rest.kept;
        paths = subst Of inside_is (paths_both (rights access) (as_guard_call call) (map as_guard_call calls) (map as_guard_call passed.1) (map as_guard_call passed.2) (known_in k) (known_in first.door) (known_in rest.door) first.paths rest.paths);
      }

  pub guards_follow : GuardsFollow rights
  guards_follow k o calls inside none_open passed =
      let f = all calls inside (access_of k) k o refl passed in
      let r = rights (access_of k) in
      let came = map as_guard_call calls in
      let told = map as_guard_call inside in
      let refused = f.paths.refused in (
        refused,
        ap (λ (x : Option (Door A)). refusals_of x) f.is ∙ f.paths.counts,
        λ q.
            let start : idly (clients_in k) q ≡ None = ap (held_by idle) (none_open q) in
            let From : Option Held → Type 0 = λ s. IsPath r q s (idly (clients_in f.door) q) (noted_of q came) (noted_of q told) (given_of told) refused [] (given_of came) in
            let from = subst From start (f.paths.paths q) in
            let rest : todo_of (held_after r None from.happenings) ≡ [] = ap todo_of (sym from.held) ∙ idle_todo (client_of (clients_in f.door) q) in
            record { happenings = from.happenings; met = from.comes; given = from.gives; orderly = from.orderly; done = rest; told = from.tells; refuses = from.refuses; out = from.goes },
      )
