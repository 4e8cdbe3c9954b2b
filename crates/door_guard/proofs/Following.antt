-- Calls, one after another, and what happens on each connection.
use Rattle.std.proofs.Common.{◌≡◌, ℕ, List, [], ◌∷◌, ◌++◌, Option, Some, None, refl, sym, ap, subst, ◌∙◌}
use Rattle.std.proofs.lemmas.List.{append-nil}
use Rattle.std.proofs.lemmas.Grind.{flat_map-append}
use Rattle.std.proofs.lemmas.Option.{same_Some}
use Rattle.broker_sockets.specs.declared.bridge.Given.{Given}
use Rattle.broker_sockets.specs.declared.bridge.PeerEvent.{PeerEvent}
use Rattle.broker_sockets.specs.declared.events.Event.{Event}
use Rattle.broker_sockets.specs.declared.events.Output.{Output}
use Rattle.door_guard.specs.Answering.{IsAnswered, IsAnsweredIf, IsGuarded, IsHeard, IsHeardIf, IsPassedOn, IsSettled, refusals_of}
use Rattle.door_guard.specs.Calls.{AreMade, Call, IsMade, given_at, given_of, noted_at, noted_of}
use Rattle.door_guard.specs.Calls.Call.{Handled, Heard, Settled}
use Rattle.door_guard.specs.Clients.{client_of}
use Rattle.door_guard.specs.Counts.{Refused, all_counted}
use Rattle.door_guard.specs.Laws.{EachIsFollowed}
use Rattle.door_packets.specs.Rights.{Rights}
use Rattle.door_guard.specs.Stages.{Held, IsPath, Notice, Outgoing, at, held_after, held_by, idle, none_busy, noted, on, staged, todo_of}
use Rattle.door_guard.specs.Telling.{ArePaths, AreTold, IsMet, Stages, Told, given_by, none, noted_in}
use Rattle.door_guard.specs.declared.clients.Clients.{Clients}
use Rattle.door_guard.specs.declared.counts.Refusals.{Refusals}
use Rattle.door_guard.specs.declared.door.Door.{Door}
use Rattle.door_guard.specs.declared.guarded.Guarded.{Guarded}
use Rattle.door_guard.specs.declared.known.Known.{Known}
use Rattle.door_guard.proofs.Paths.{at_idle, counts_then, idle_todo, on_then, path_none, path_then, paths_as, paths_at}

-- what the handler inside was told, as calls
abbrev as_calls : List Told → List Call
as_calls [] = []
as_calls (t ∷ ts) = Handled t.0 t.1 ∷ as_calls ts

given_as : (ts : List Told) → given_of (as_calls ts) ≡ given_by ts
given_as [] = refl
given_as (t ∷ ts) = ap (λ (xs : List Output). t.1 ++ xs) (given_as ts)

noted_as : (q : ℕ) (ts : List Told) → noted_of q (as_calls ts) ≡ noted_in q ts
noted_as q [] = refl
noted_as q (t ∷ ts) = ap (λ (xs : List Notice). noted q t.0.kind ++ xs) (noted_as q ts)

noted_both : (q : ℕ) (xs ys : List Call) → noted_of q (xs ++ ys) ≡ noted_of q xs ++ noted_of q ys
noted_both q xs ys = flat_map-append (noted_at q) xs ys

given_both : (xs ys : List Call) → given_of (xs ++ ys) ≡ given_of xs ++ given_of ys
given_both xs ys = flat_map-append given_at xs ys

abbrev idly : Clients → Stages
idly k = staged none_busy k

module _ {H : Type 0} (handles : H → Event → List Output → H → Type 0) (hears : H → PeerEvent → Given → H → Type 0) (settles : H → H → Type 0) where
  abbrev Inside : List Call → H → H → Type 0
  Inside calls h h' = AreMade handles hears settles calls h h'

  made_then : (xs ys : List Call) (h m h' : H) → Inside xs h m → Inside ys m h' → Inside (xs ++ ys) h h'
  made_then [] ys h m h' same more = subst (λ x. Inside ys x h') same more
  made_then (c ∷ xs) ys h m h' all more = (all.0, all.1, made_then xs ys all.0 m h' all.2 more)

  made_as : (ts : List Told) (h h' : H) → AreTold handles ts h h' → Inside (as_calls ts) h h'
  made_as [] h h' same = same
  made_as (t ∷ ts) h h' all = (all.0, all.1, made_as ts all.0 h' all.2)

  -- calls of the handler that guards: calls of the one inside, and paths
  record Followed (r : Rights) (calls : List Call) (h h' : H) (k k' : Known) : Type 0 where
    inside : List Call
    refused : List Refused
    made : Inside inside h h'
    counts : k'.refusals ≡ all_counted refused k.refusals
    paths : ArePaths r (λ q. noted_of q calls) (λ q. noted_of q inside) (given_of inside) refused (idly k.clients) (idly k'.clients) [] (given_of calls)

  -- what goes out is put behind what went out before
  moved : (r : Rights) (q : ℕ) (s s' : Option Held) (met told : List Notice) (given : List Output) (refused : List Refused) (p front : List Output) → IsPath r q s s' met told given refused [] p → IsPath r q s s' met told given refused front (front ++ p)
  moved r q s s' met told given refused p front a = record {
    happenings = a.happenings;
    held = a.held;
    orderly = a.orderly;
    comes = a.comes;
    tells = a.tells;
    gives = a.gives;
    refuses = a.refuses;
    goes = on_then q front p ∙ ap (λ (xs : List Outgoing). on q front ++ xs) a.goes;
  }

  handled : (r : Rights) (e : Event) (outputs : List Output) (h h' : H) (k k' : Known) → IsMet handles r e.at (λ q. noted q e.kind) h h' k.clients k'.clients (k.refusals, []) (k'.refusals, outputs) → Followed r (Handled e outputs ∷ []) h h' k k'
  handled r e outputs h h' k k' t = record {
    inside = as_calls t.part.calls;
    refused = t.part.refused;
    made = made_as t.part.calls h h' t.part.told;
    counts = t.part.counts;
    paths = paths_as r (idly k.clients) (idly k'.clients) (λ q. noted q e.kind) (λ q. noted_of q (Handled e outputs ∷ [])) (λ q. noted_in q t.part.calls) (λ q. noted_of q (as_calls t.part.calls)) (given_by t.part.calls) (given_of (as_calls t.part.calls)) t.part.refused [] (given_of (Handled e outputs ∷ []))
        (λ q. sym (append-nil (noted q e.kind))) (λ q. sym (noted_as q t.part.calls)) (sym (given_as t.part.calls))
        (subst (λ (xs : List Output). ArePaths r (λ q. noted q e.kind) (λ q. noted_in q t.part.calls) (given_by t.part.calls) t.part.refused (idly k.clients) (idly k'.clients) [] xs) (sym (append-nil outputs)) t.part.paths);
  }

  heard : (r : Rights) (e : PeerEvent) (given : Given) (h h' : H) (k k' : Known) → IsPassedOn hears r e h h' k k' given → Followed r (Heard e given ∷ []) h h' k k'
  heard r e given h h' k k' t =
      let first : ArePaths r none none t.first.outputs.items t.gives.refused (idly k.clients) (idly k'.clients) [] given.outputs.items =
      paths_at r (staged (at 0 idle) k.clients) (idly k.clients) (staged (at 0 idle) k'.clients) (idly k'.clients) none none t.first.outputs.items t.gives.refused [] given.outputs.items (at_idle 0 k.clients) (at_idle 0 k'.clients) (t.gives.paths []) in
      record {
        inside = Heard e t.first ∷ [];
        refused = t.gives.refused;
        made = (h', t.heard, refl);
        counts = t.gives.counts;
        paths = paths_as r (idly k.clients) (idly k'.clients) none (λ q. noted_of q (Heard e given ∷ [])) none (λ q. noted_of q (Heard e t.first ∷ [])) t.first.outputs.items (given_of (Heard e t.first ∷ [])) t.gives.refused [] (given_of (Heard e given ∷ []))
            (λ q. refl) (λ q. refl) (sym (append-nil t.first.outputs.items))
            (subst (λ (xs : List Output). ArePaths r none none t.first.outputs.items t.gives.refused (idly k.clients) (idly k'.clients) [] xs) (sym (append-nil given.outputs.items)) first);
      }

  both : (r : Rights) (call : Call) (more : List Call) (h m h' : H) (k l k' : Known) → Followed r (call ∷ []) h m k l → Followed r more m h' l k' → Followed r (call ∷ more) h h' k k'
  both r call more h m h' k l k' a b = record {
    inside = a.inside ++ b.inside;
    refused = a.refused ++ b.refused;
    made = made_then a.inside b.inside h m h' a.made b.made;
    counts = counts_then a.refused b.refused k.refusals l.refusals k'.refusals a.counts b.counts;
    paths = λ q.
        let second = moved r q (idly l.clients q) (idly k'.clients q) (noted_of q more) (noted_of q b.inside) (given_of b.inside) b.refused (given_of more) (given_of (call ∷ [])) (b.paths q) in
        let joined = path_then r q (idly k.clients q) (idly l.clients q) (idly k'.clients q) (noted_of q (call ∷ [])) (noted_of q more) (noted_of q a.inside) (noted_of q b.inside) (given_of a.inside) (given_of b.inside) a.refused b.refused [] (given_of (call ∷ [])) (given_of (call ∷ []) ++ given_of more) (a.paths q) second in
        let met : noted_of q (call ∷ []) ++ noted_of q more ≡ noted_of q (call ∷ more) = ap (λ (xs : List Notice). xs ++ noted_of q more) (append-nil (noted_at q call)) in
        let given : given_of (call ∷ []) ++ given_of more ≡ given_of (call ∷ more) = ap (λ (xs : List Output). xs ++ given_of more) (append-nil (given_at call)) in
        let one = subst (λ (xs : List Notice). IsPath r q (idly k.clients q) (idly k'.clients q) xs (noted_of q a.inside ++ noted_of q b.inside) (given_of a.inside ++ given_of b.inside) (a.refused ++ b.refused) [] (given_of (call ∷ []) ++ given_of more)) met joined in
        let two = subst (λ (xs : List Notice). IsPath r q (idly k.clients q) (idly k'.clients q) (noted_of q (call ∷ more)) xs (given_of a.inside ++ given_of b.inside) (a.refused ++ b.refused) [] (given_of (call ∷ []) ++ given_of more)) (sym (noted_both q a.inside b.inside)) one in
        let three = subst (λ (xs : List Output). IsPath r q (idly k.clients q) (idly k'.clients q) (noted_of q (call ∷ more)) (noted_of q (a.inside ++ b.inside)) xs (a.refused ++ b.refused) [] (given_of (call ∷ []) ++ given_of more)) (sym (given_both a.inside b.inside)) two in
        subst (λ (xs : List Output). IsPath r q (idly k.clients q) (idly k'.clients q) (noted_of q (call ∷ more)) (noted_of q (a.inside ++ b.inside)) (given_of (a.inside ++ b.inside)) (a.refused ++ b.refused) [] xs) given three;
  }

  nothing : (r : Rights) (h h' : H) (k : Known) → h' ≡ h → Followed r [] h h' k k
  nothing r h h' k same = record { inside = []; refused = []; made = same; counts = refl; paths = λ q. path_none r q (idly k.clients q) [] }

  settled : (r : Rights) (h h' : H) (k : Known) → settles h h' → Followed r (Settled ∷ []) h h' k k
  settled r h h' k s = record { inside = Settled ∷ []; refused = []; made = (h', s, refl); counts = refl; paths = λ q. path_none r q (idly k.clients q) [] }

module _ {H A : Type 0} (handles : H → Event → List Output → H → Type 0) (hears : H → PeerEvent → Given → H → Type 0) (settles : H → H → Type 0) (rights : A → Rights) where
  -- ---- of the handler that guards

  -- one call: who may do what stays
  record Kept (access : A) (calls : List Call) (o : Option (Door A)) (h h' : H) (k : Known) : Type 0 where
    door : Door A
    is : o ≡ Some door
    kept : door.access ≡ access
    followed : Followed handles hears settles (rights access) calls h h' k door.known

  answered_case : (c c' : Option (Door A)) (k : Door A) (e : Event) (outputs : List Output) (h h' : H) → c ≡ Some k → IsAnsweredIf handles rights c c' e h h' outputs → Kept k.access (Handled e outputs ∷ []) c' h h' k.known
  answered_case None c' k e outputs h h' is t = absurd cc
  answered_case (Some x) None k e outputs h h' is t = absurd t
  answered_case (Some x) (Some k') k e outputs h h' is t =
      let t' : IsGuarded handles rights e h h' k k' outputs = subst (λ (y : Door A). IsGuarded handles rights e h h' y k' outputs) (same_Some x k is) t in
      record { door = k'; is = refl; kept = t'.1; followed = handled handles hears settles (rights k.access) e outputs h h' k.known k'.known t'.0 }

  heard_case : (c c' : Option (Door A)) (k : Door A) (e : PeerEvent) (given : Given) (h h' : H) → c ≡ Some k → IsHeardIf hears rights c c' e h h' given → Kept k.access (Heard e given ∷ []) c' h h' k.known
  heard_case None c' k e given h h' is t = absurd cc
  heard_case (Some x) None k e given h h' is t = absurd t
  heard_case (Some x) (Some k') k e given h h' is t =
      let t' : IsPassedOn hears (rights k.access) e h h' k.known k'.known given × (k'.access ≡ k.access) =
      subst (λ (y : Door A). IsPassedOn hears (rights y.access) e h h' y.known k'.known given × (k'.access ≡ y.access)) (same_Some x k is) t in
      record { door = k'; is = refl; kept = t'.1; followed = heard handles hears settles (rights k.access) e given h h' k.known k'.known t'.0 }

  abbrev Outside : Call → Guarded H A → Guarded H A → Type 0
  Outside call d d' = IsMade (IsAnswered handles rights) (IsHeard hears rights) (IsSettled settles) call d d'

  one : (call : Call) (d d' : Guarded H A) (k : Door A) → d.door ≡ Some k → Outside call d d' → Kept k.access (call ∷ []) d'.door d.inside d'.inside k.known
  one (Handled e outputs) d d' k is t = answered_case d.door d'.door k e outputs d.inside d'.inside is t
  one (Heard e given) d d' k is t = heard_case d.door d'.door k e given d.inside d'.inside is t
  one Settled d d' k is t = record { door = k; is = t.1 ∙ is; kept = refl; followed = settled handles hears settles (rights k.access) d.inside d'.inside k.known t.0 }

  all : (calls : List Call) (d d' : Guarded H A) (access : A) (k : Door A) → d.door ≡ Some k → k.access ≡ access → AreMade (IsAnswered handles rights) (IsHeard hears rights) (IsSettled settles) calls d d'
      → Kept access calls d'.door d.inside d'.inside k.known
  all [] d d' access k is same made = record {
    door = k;
    is = ap (λ (x : Guarded H A). x.door) made ∙ is;
    kept = same;
    followed = nothing handles hears settles (rights access) d.inside d'.inside k.known (ap (λ (x : Guarded H A). x.inside) made);
  }
  all (call ∷ more) d d' access k is same made =
      let first : Kept access (call ∷ []) made.0.door d.inside made.0.inside k.known = subst (λ (a : A). Kept a (call ∷ []) made.0.door d.inside made.0.inside k.known) same (one call d made.0 k is made.1) in
      let rest = all more made.0 d' access first.door first.is first.kept made.2 in
      record {
        door = rest.door;
        is = rest.is;
        kept = rest.kept;
        followed = both handles hears settles (rights access) call more d.inside made.0.inside d'.inside k.known first.door.known rest.door.known first.followed rest.followed;
      }

  pub followed : EachIsFollowed handles hears settles rights (IsAnswered handles rights) (IsHeard hears rights) (IsSettled settles)
  followed calls d d' k is none_open made =
      let f = all calls d d' k.access k is refl made in (
        f.followed.inside,
        f.followed.refused,
        f.followed.made,
        ap (λ (o : Option (Door A)). refusals_of o) f.is ∙ f.followed.counts,
        λ q.
            let path = f.followed.paths q in
            let r = rights k.access in
            let start : idly k.known.clients q ≡ None = ap (held_by idle) (none_open q) in
            let from : IsPath r q None (idly f.door.known.clients q) (noted_of q calls) (noted_of q f.followed.inside) (given_of f.followed.inside) f.followed.refused [] (given_of calls) =
            subst (λ (s : Option Held). IsPath r q s (idly f.door.known.clients q) (noted_of q calls) (noted_of q f.followed.inside) (given_of f.followed.inside) f.followed.refused [] (given_of calls)) start path in
            let rest : todo_of (held_after r None from.happenings) ≡ [] = ap todo_of (sym from.held) ∙ idle_todo (client_of f.door.known.clients q) in
            record { happenings = from.happenings; met = from.comes; given = from.gives; orderly = from.orderly; done = rest; told = from.tells; refuses = from.refuses; out = from.goes },
      )
