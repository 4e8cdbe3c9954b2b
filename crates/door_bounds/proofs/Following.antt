-- Calls, one after another, and what the handler inside is told.
use Rattle.std.proofs.Common.{◌≡◌, ℕ, Bool, true, false, List, [], ◌∷◌, ◌++◌, Option, Some, None, refl, sym, ap, subst, ◌∙◌}
use Rattle.std.specs.List.{AllByRecursion}
use Rattle.std.proofs.lemmas.Option.{same_Some}
use Rattle.broker_sockets.specs.declared.bridge.Given.{Given}
use Rattle.broker_sockets.specs.declared.bridge.PeerEvent.{PeerEvent}
use Rattle.broker_sockets.specs.declared.events.Event.{Event}
use Rattle.broker_sockets.specs.declared.events.EventKind.{EventKind}
use Rattle.broker_sockets.specs.declared.events.EventKind.TheVariants.{Started, Opened, Piece, Room, Closed, Tick}
use Rattle.broker_sockets.specs.declared.events.Output.{Output}
use Rattle.mqtt_bounds.specs.declared.bounds.Bounds.{Bounds}
use Rattle.door_bounds.specs.Answering.{IsAnswered, IsAnsweredIf, IsAnsweredOn, IsCameFrom, IsHeard, IsHeardIf, IsLetIn, IsPlain, IsPlainOn, IsSettled, IsWeighed, Stays, is_let_in, weighed}
use Rattle.door_bounds.specs.Calls.{AreMade, Call, Handled, Heard, IsMade, Settled}
use Rattle.door_bounds.specs.Clients.{client_of}
use Rattle.door_bounds.specs.Laws.{AreLet, IsCallLet, IsKindLet, IsLet, IsWithinAt, OfPiece, OnlyWithinIsTold}
use Rattle.door_bounds.specs.Telling.{AreTold, Told}
use Rattle.door_bounds.specs.Walk.{come}
use Rattle.door_bounds.specs.declared.bounded.Bounded.{Bounded}
use Rattle.door_bounds.specs.declared.client.Client.{Client}
use Rattle.door_bounds.specs.declared.clients.Clients.{Clients}
use Rattle.door_bounds.specs.declared.door.Door.{Door}
use Rattle.door_bounds.specs.declared.limits.BoundLimits.{BoundLimits}
use Rattle.door_bounds.proofs.Letting.{come_let}
use Rattle.door_bounds.proofs.Told.{ToldSo, all_then, so_none, steps_so}

pub weighed_limits : (kind : EventKind) (k m : Door) → IsWeighed kind k m → m.limits ≡ k.limits
weighed_limits Started k m is = ap (λ (x : Door). x.limits) is
weighed_limits (Opened c) k m is = ap (λ (x : Door). x.limits) is
weighed_limits (Piece c bytes) k m is = ap (λ (x : Door). x.limits) is
weighed_limits (Room c bytes) k m is = ap (λ (x : Door). x.limits) is
weighed_limits (Closed c) k m is = ap (λ (x : Door). x.limits) is
weighed_limits Tick k m is = ap (λ (x : Door). x.limits) is.1

-- the handler inside was told so, and the limits are as they were
pub record Answered {H : Type 0} (handles : H → Event → List Output → H → Type 0) (m k' : Door) (h h' : H) : Type 0 where
  pub so : ToldSo handles (IsLet m.limits.packets m.full) h h'
  pub limits : k'.limits ≡ m.limits

module _ {H : Type 0} (handles : H → Event → List Output → H → Type 0) where
  plain_so : (e : Event) (outputs : List Output) (h h' : H) (k k' : Door) → OfPiece (IsLet k.limits.packets k.full) e.kind → IsPlainOn handles e h h' k k' outputs → Answered handles k k' h h'
  plain_so e outputs h h' k k' free (p, stays) = record {
    so = record { told = (e, outputs) ∷ []; made = (h', p.told.handled, refl); each = (free, tt) };
    limits = stays.0;
  }

  came_so : (client : Option Client) (b : Bounds) (full : Bool) (at q : ℕ) (bs : List ℕ) (outputs : List Output) (h h' : H) (k k' : Clients) → IsCameFrom handles client b full at q bs h h' k k' outputs
      → ToldSo handles (IsLet b full) h h'
  came_so None b full at q bs outputs h h' k k' (none, same, but) = so_none handles (IsLet b full) h h' same
  came_so (Some client) b full at q bs outputs h h' k k' c =
      steps_so handles (IsLet b full) at q (come b full client bs).steps h h' c.known k' [] outputs (come_let b full client bs) c.did

  let_in_so : (kind : EventKind) (e : Event) (outputs : List Output) (h h' : H) (k k' : Door) → e.kind ≡ kind → IsLetIn handles kind e h h' k k' outputs → Answered handles k k' h h'
  let_in_so Started e outputs h h' k k' is a = plain_so e outputs h h' k k' (subst (OfPiece (IsLet k.limits.packets k.full)) (sym is) tt) a
  let_in_so (Opened c) e outputs h h' k k' is a = plain_so e outputs h h' k k' (subst (OfPiece (IsLet k.limits.packets k.full)) (sym is) tt) a
  let_in_so (Room c bytes) e outputs h h' k k' is a = plain_so e outputs h h' k k' (subst (OfPiece (IsLet k.limits.packets k.full)) (sym is) tt) a
  let_in_so (Closed c) e outputs h h' k k' is a = plain_so e outputs h h' k k' (subst (OfPiece (IsLet k.limits.packets k.full)) (sym is) tt) a
  let_in_so Tick e outputs h h' k k' is a = plain_so e outputs h h' k k' (subst (OfPiece (IsLet k.limits.packets k.full)) (sym is) tt) a
  let_in_so (Piece q bytes) e outputs h h' k k' is a = record {
    so = came_so (client_of k.clients q) k.limits.packets k.full e.at q bytes.items outputs h h' k.clients k'.clients a.0;
    limits = a.1.0;
  }

  answered_so : (let_in : Bool) (e : Event) (outputs : List Output) (h h' : H) (k k' : Door) → IsAnsweredOn handles let_in e h h' k k' outputs → Answered handles k k' h h'
  answered_so true e outputs h h' k k' a = let_in_so e.kind e outputs h h' k k' refl a
  answered_so false e outputs h h' k k' (out, same, kept) = record { so = so_none handles (IsLet k.limits.packets k.full) h h' same; limits = ap (λ (x : Door). x.limits) kept }

  -- an event, where there are limits
  pub record Handed (e : Event) (k k' : Door) (h h' : H) : Type 0 where
    pub weighs : Door
    pub is : IsWeighed e.kind k weighs
    pub answered : Answered handles weighs k' h h'

  pub handed : (door door' : Option Door) (k : Door) (e : Event) (outputs : List Output) (h h' : H) → door ≡ Some k → IsAnsweredIf handles door door' e h h' outputs → (k' : Door) × (door' ≡ Some k') × Handed e k k' h h'
  handed None door' k e outputs h h' is a = absurd cc
  handed (Some x) None k e outputs h h' is a = absurd a
  handed (Some x) (Some k') k e outputs h h' is (m, w, a) =
      let same : x ≡ k = same_Some x k is in
      (k', refl, record { weighs = m; is = subst (λ (y : Door). IsWeighed e.kind y m) same w; answered = answered_so (is_let_in m e.kind) e outputs h h' m k' a })

  some_told_if : (door door' : Option Door) (e : Event) (outputs : List Output) (h h' : H) → IsAnsweredIf handles door door' e h h' outputs → (told : List Told) × AreTold handles told h h'
  some_told_if None door' e outputs h h' a = ((e, outputs) ∷ [], (h', a.0, refl))
  some_told_if (Some k) None e outputs h h' a = absurd a
  some_told_if (Some k) (Some k') e outputs h h' (m, w, a) = let x = answered_so (is_let_in m e.kind) e outputs h h' m k' a in (x.so.told, x.so.made)

  -- with limits or without, an event is events of the handler inside
  pub some_told : {G : Type 0} (d : Bounded H G) (e : Event) (outputs : List Output) (d' : Bounded H G) → IsAnswered handles d e outputs d' → (told : List Told) × AreTold handles told d.inside d'.inside
  some_told d e outputs d' a = some_told_if d.door d'.door e outputs d.inside d'.inside a

  pub heard_limits : (door door' : Option Door) (k : Door) (outputs : List Output) → door ≡ Some k → IsHeardIf door door' outputs → (k' : Door) × (door' ≡ Some k') × (k'.limits ≡ k.limits)
  heard_limits None door' k outputs is a = absurd cc
  heard_limits (Some x) None k outputs is a = absurd a
  heard_limits (Some x) (Some k') k outputs is a = let same : x ≡ k = same_Some x k is in (k', refl, a.1.0 ∙ ap (λ (y : Door). y.limits) same)

-- what the handler inside was told, as calls
abbrev as_calls : List Told → List Call
as_calls [] = []
as_calls (t ∷ ts) = Handled t.0 t.1 ∷ as_calls ts

calls_let : (b : Bounds) (full : Bool) (ts : List Told) → AreLet b full ts → AllByRecursion (IsCallLet b) (as_calls ts)
calls_let b full [] all = tt
calls_let b full (t ∷ ts) all = ((full, all.0), calls_let b full ts all.1)

module _ {H : Type 0} (handles : H → Event → List Output → H → Type 0) (hears : H → PeerEvent → Given → H → Type 0) (settles : H → H → Type 0) where
  abbrev Inside : List Call → H → H → Type 0
  Inside calls h h' = AreMade handles hears settles calls h h'

  made_then : (xs ys : List Call) (h m h' : H) → Inside xs h m → Inside ys m h' → Inside (xs ++ ys) h h'
  made_then [] ys h m h' same more = subst (λ x. Inside ys x h') same more
  made_then (c ∷ xs) ys h m h' all more = (all.0, all.1, made_then xs ys all.0 m h' all.2 more)

  made_as : (ts : List Told) (h h' : H) → AreTold handles ts h h' → Inside (as_calls ts) h h'
  made_as [] h h' same = same
  made_as (t ∷ ts) h h' all = (all.0, all.1, made_as ts all.0 h' all.2)

module _ {H G : Type 0} (handles : H → Event → List Output → H → Type 0) (hears : H → PeerEvent → Given → H → Type 0) (settles : H → H → Type 0) where
  one : (d d' : Bounded H G) (k : Door) (e : Event) (outputs : List Output) → d.door ≡ Some k → IsAnswered handles d e outputs d'
      → (m : Door) × IsWeighed e.kind k m × IsWithinAt {H = H} {G = G} handles hears settles (IsAnswered handles) (IsHeard hears) (IsSettled settles) k.limits.packets m.full d.inside d'.inside
  one d d' k e outputs is a =
      let (k', there, x) = handed handles d.door d'.door k e outputs d.inside d'.inside is a in
      let same : x.weighs.limits ≡ k.limits = weighed_limits e.kind k x.weighs x.is in
      let within : AreLet k.limits.packets x.weighs.full x.answered.so.told =
      subst (λ (l : BoundLimits). AreLet l.packets x.weighs.full x.answered.so.told) same x.answered.so.each in
      (x.weighs, x.is, record { told = x.answered.so.told; made = x.answered.so.made; within = within })

  -- one call: calls of the handler inside
  record Followed (b : Bounds) (d d' : Bounded H G) : Type 0 where
    inside : List Call
    made : Inside handles hears settles inside d.inside d'.inside
    within : AllByRecursion (IsCallLet b) inside
    door : Door
    is : d'.door ≡ Some door
    limits : door.limits.packets ≡ b

  handled_on : (k : Door) (e : Event) (outputs : List Output) (d d' : Bounded H G) → d.door ≡ Some k → IsAnswered handles d e outputs d' → Followed k.limits.packets d d'
  handled_on k e outputs d d' is a =
      let (k', there, x) = handed handles d.door d'.door k e outputs d.inside d'.inside is a in
      let same : x.weighs.limits ≡ k.limits = weighed_limits e.kind k x.weighs x.is in
      let within : AreLet k.limits.packets x.weighs.full x.answered.so.told =
      subst (λ (l : BoundLimits). AreLet l.packets x.weighs.full x.answered.so.told) same x.answered.so.each in
      record {
        inside = as_calls x.answered.so.told;
        made = made_as handles hears settles x.answered.so.told d.inside d'.inside x.answered.so.made;
        within = calls_let k.limits.packets x.weighs.full x.answered.so.told within;
        door = k';
        is = there;
        limits = ap (λ (l : BoundLimits). l.packets) (x.answered.limits ∙ same);
      }

  call_on : (k : Door) (call : Call) (d d' : Bounded H G) → d.door ≡ Some k → IsMade (IsAnswered handles) (IsHeard hears) (IsSettled settles) call d d' → Followed k.limits.packets d d'
  call_on k (Handled e outputs) d d' is a = handled_on k e outputs d d' is a
  call_on k (Heard e given) d d' is a =
      let (k', there, same) = heard_limits handles d.door d'.door k given.outputs.items is a.1 in
      record {
        inside = Heard e given ∷ [];
        made = (d'.inside, a.0, refl);
        within = (tt, tt);
        door = k';
        is = there;
        limits = ap (λ (l : BoundLimits). l.packets) same;
      }
  call_on k Settled d d' is a = record { inside = Settled ∷ []; made = (d'.inside, a.0, refl); within = (tt, tt); door = k; is = a.1 ∙ is; limits = refl }

  calls_on : (calls : List Call) (d d' : Bounded H G) (b : Bounds) (k : Door) → d.door ≡ Some k → k.limits.packets ≡ b → AreMade (IsAnswered handles) (IsHeard hears) (IsSettled settles) calls d d'
      → (inside : List Call) × Inside handles hears settles inside d.inside d'.inside × AllByRecursion (IsCallLet b) inside
  calls_on [] d d' b k is same made = ([], ap (λ (x : Bounded H G). x.inside) made, tt)
  calls_on (call ∷ more) d d' b k is same (m, first, rest) =
      let f : Followed b d m = subst (λ (x : Bounds). Followed x d m) same (call_on k call d m is first) in
      let (inside, made, within) = calls_on more m d' b f.door f.is f.limits rest in
      (f.inside ++ inside, made_then handles hears settles f.inside inside d.inside m.inside d'.inside f.made made, all_then (IsCallLet b) f.inside inside f.within within)

  pub only_within : OnlyWithinIsTold {H = H} {G = G} handles hears settles (IsAnswered handles) (IsHeard hears) (IsSettled settles)
  only_within = record { one = one; all = λ calls d d' k is made. calls_on calls d d' k.limits.packets k is refl made }
