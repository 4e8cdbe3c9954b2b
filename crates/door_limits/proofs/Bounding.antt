-- Of how many clients the handler inside is told.
use Rattle.std.proofs.Common.{◌≡◌, ◌≤◌, ◌<◌, ◌+◌, ◌&&◌, ℕ, Bool, true, false, List, [], ◌∷◌, ◌++◌, Option, Some, is_none, is_some, nat_cmp, nat_lt, refl, sym, ap, subst, ◌∙◌, length, arith}
use Rattle.std.proofs.lemmas.Bool.Decides.{nat_tests}
use Rattle.std.specs.FinMap as map
use Rattle.std.specs.List.{AllByRecursion}
use Rattle.broker_sockets.specs.declared.bridge.Given.{Given}
use Rattle.broker_sockets.specs.declared.bridge.PeerEvent.{PeerEvent}
use Rattle.broker_sockets.specs.declared.events.Event.{Event}
use Rattle.broker_sockets.specs.declared.events.EventKind.{EventKind}
use Rattle.broker_sockets.specs.declared.events.EventKind.TheVariants.{Started, Opened, Piece, Room, Closed, Tick}
use Rattle.broker_sockets.specs.declared.events.Output.{Output}
use Rattle.door_limits.specs.Answering.{AreCut, AreCutIf, Cut, IsAnswered, IsAnsweredBy, IsAnsweredIf, IsHeard, IsSettled, IsTold, after_if, gone, is_tick, is_told, met, met_kind}
use Rattle.door_limits.specs.Calls.{AreMade, Call, Handled, Heard, IsMade, Settled, open_after, open_past}
use Rattle.door_limits.specs.Connected.{Connected, after}
use Rattle.door_limits.specs.Laws.{LimitsHold}
use Rattle.door_limits.specs.Limits.{are_none, has_room}
use Rattle.door_limits.specs.declared.limited.Limited.{Limited}
use Rattle.door_limits.specs.declared.limits.Limits.{Limits}
use Rattle.door_limits.proofs.Counting.{added_len, after_len, apart_len, open_met, open_through, removed_len}

-- ---- what calls make of the connections

abbrev known_by : Call → Connected → Connected
known_by (Handled e outputs) known = after outputs (met e known)
known_by (Heard e given) known = after given.outputs.items known
known_by Settled known = known

abbrev known_after : List Call → Connected → Connected
known_after [] known = known
known_after (call ∷ more) known = known_after more (known_by call known)

known_join : (xs ys : List Call) (known : Connected) → known_after (xs ++ ys) known ≡ known_after ys (known_after xs known)
known_join [] ys known = refl
known_join (x ∷ xs) ys known = known_join xs ys (known_by x known)

tracked : (calls : List Call) (known : Connected) (c : ℕ) → map.contains_key (known_after calls known) c ≡ open_after c calls (map.contains_key known c)
tracked [] known c = refl
tracked (Handled e outputs ∷ more) known c =
    tracked more (after outputs (met e known)) c
    ∙ ap (open_after c more) (open_through outputs (met e known) c ∙ ap (open_past c outputs) (open_met e.at e.kind known c))
tracked (Heard e given ∷ more) known c = tracked more (after given.outputs.items known) c ∙ ap (open_after c more) (open_through given.outputs.items known c)
tracked (Settled ∷ more) known c = tracked more known c

-- before and after each of them no more than so many are open
abbrev Bounded : ℕ → List Call → Connected → Type 0
Bounded most [] known = map.len known ≤ most
Bounded most (call ∷ more) known = (map.len known ≤ most) × Bounded most more (known_by call known)

bounded_now : (most : ℕ) (calls : List Call) (known : Connected) → Bounded most calls known → map.len known ≤ most
bounded_now most [] known b = b
bounded_now most (call ∷ more) known b = b.0

bounded_last : (most : ℕ) (calls : List Call) (known : Connected) → Bounded most calls known → map.len (known_after calls known) ≤ most
bounded_last most [] known b = b
bounded_last most (call ∷ more) known b = bounded_last most more (known_by call known) b.1

bounded_join : (most : ℕ) (xs ys : List Call) (known : Connected) → Bounded most xs known → Bounded most ys (known_after xs known) → Bounded most (xs ++ ys) known
bounded_join most [] ys known b c = c
bounded_join most (x ∷ xs) ys known b c = (b.0, bounded_join most xs ys (known_by x known) b.1 c)

front_bounded : (most : ℕ) (front back : List Call) (known : Connected) → Bounded most (front ++ back) known → map.len (known_after front known) ≤ most
front_bounded most [] back known b = bounded_now most back known b
front_bounded most (call ∷ front) back known b = front_bounded most front back (known_by call known) b.1

-- ---- one event

room_left : (limits : Limits) (most count : ℕ) → limits.most ≡ Some most → has_room limits.most count ≡ true → count < most
room_left limits most count is room =
    let there : nat_lt count most ≡ true = sym (ap (λ o. has_room o count) is) ∙ room in
    grind (arith, nat_tests)

-- an event of which the handler inside is told
met_len : (limits : Limits) (most at : ℕ) (kind : EventKind) (known : Connected) → limits.most ≡ Some most → is_told limits known kind ≡ true → map.len known ≤ most
    → map.len (met_kind at kind known) ≤ most
met_len limits most at Started known is told within = within
met_len limits most at (Opened connection) known is told within =
    let room : map.len known < most = room_left limits most (map.len known) is told in
    let one : map.len (map.insert known connection (Some at)) ≤ map.len known + 1 = added_len known connection (Some at) in
    omega (arith, room, one)
met_len limits most at (Piece connection bytes) known is told within = within
met_len limits most at (Room connection bytes) known is told within = within
met_len limits most at (Closed connection) known is told within =
    let less : map.len (map.remove known connection) ≤ map.len known = removed_len known connection in
    omega (arith, less, within)
met_len limits most at Tick known is told within = within

module _ {H : Type 0} (handles : H → Event → List Output → H → Type 0) (hears : H → PeerEvent → Given → H → Type 0) (settles : H → H → Type 0) where
  made_join : (xs ys : List Call) (a b c : H) → AreMade handles hears settles xs a b → AreMade handles hears settles ys b c → AreMade handles hears settles (xs ++ ys) a c
  made_join [] ys a b c same more = let Made : H → Type 0 = λ h. AreMade handles hears settles ys h c in subst Made same more
  made_join (x ∷ xs) ys a b c made more = (made.0, made.1, made_join xs ys made.0 b c made.2 more)

  -- what the door does is that to the handler inside
  record Passes (most : ℕ) (d d' : Limited H) : Type 0 where
    pub told : List Call
    pub made : AreMade handles hears settles told d.inside d'.inside
    pub connections : d'.connections ≡ known_after told d.connections
    pub limits : d'.limits ≡ d.limits
    pub bounded : Bounded most told d.connections

  passes_none : (most : ℕ) (d d' : Limited H) → d' ≡ d → map.len d.connections ≤ most → Passes most d d'
  passes_none most d d' same within = record {
    told = [];
    made = ap (λ (x : Limited H). x.inside) same;
    connections = ap (λ (x : Limited H). x.connections) same;
    limits = ap (λ (x : Limited H). x.limits) same;
    bounded = within;
  }

  passes_over : (most : ℕ) (a b c : Limited H) → Passes most a b → Passes most b c → Passes most a c
  passes_over most a b c p q = record {
    told = p.told ++ q.told;
    made = made_join p.told q.told a.inside b.inside c.inside p.made q.made;
    connections = q.connections ∙ ap (known_after q.told) p.connections ∙ sym (known_join p.told q.told a.connections);
    limits = q.limits ∙ p.limits;
    bounded = bounded_join most p.told q.told a.connections p.bounded (subst (Bounded most q.told) p.connections q.bounded);
  }

  last_len : (most : ℕ) (d d' : Limited H) → Passes most d d' → map.len d'.connections ≤ most
  last_len most d d' p = subst (λ (known : Connected). map.len known ≤ most) (sym p.connections) (bounded_last most p.told d.connections p.bounded)

  passes_told : (most : ℕ) (e : Event) (given : List Output) (d d' : Limited H) → IsTold handles e given d d' → map.len d.connections ≤ most
      → map.len (met e d.connections) ≤ most → Passes most d d'
  passes_told most e given d d' told within then =
      let less : map.len (after given (met e d.connections)) ≤ map.len (met e d.connections) = after_len given (met e d.connections) in
      let last : map.len (after given (met e d.connections)) ≤ most = omega (arith, less, then) in
      record {
        told = Handled e given ∷ [];
        made = (d'.inside, told.answered, refl);
        connections = told.connections;
        limits = told.limits;
        bounded = (within, last);
      }

  passes_cuts : (most at : ℕ) (cuts : List Cut) (d d' : Limited H) → AreCut handles at cuts d d' → map.len d.connections ≤ most → Passes most d d'
  passes_cuts most at [] d d' same within = passes_none most d d' same within
  passes_cuts most at (cut ∷ more) d d' all within =
      let less : map.len (met (gone at cut.0) d.connections) ≤ map.len d.connections = removed_len d.connections cut.0 in
      let first = passes_told most (gone at cut.0) cut.1 d all.0 all.1.told within (omega (arith, less, within)) in
      passes_over most d all.0 d' first (passes_cuts most at more all.0 d' all.2 (last_len most d all.0 first))

  passes_swept : (most at : ℕ) (ticks : Bool) (cuts : List Cut) (d d' : Limited H) → AreCutIf handles ticks at cuts d d' → map.len d.connections ≤ most → Passes most d d'
  passes_swept most at true cuts d d' swept within = passes_cuts most at cuts d d' swept.each within
  passes_swept most at false cuts d d' swept within = passes_none most d d' swept.1 within

  passes_by : (most : ℕ) (told : Bool) (e : Event) (outputs : List Output) (d d' : Limited H) → is_told d.limits d.connections e.kind ≡ told
      → IsAnsweredBy handles told e outputs d d' → d.limits.most ≡ Some most → map.len d.connections ≤ most → Passes most d d'
  passes_by most false e outputs d d' _ answered is within = passes_none most d d' answered.1 within
  passes_by most true e outputs d d' told answered is within =
      let first = passes_told most e answered.given d answered.between answered.told within (met_len d.limits most e.at e.kind d.connections is told within) in
      passes_over most d answered.between d' first
      (passes_swept most e.at (is_tick e.kind) answered.cuts answered.between d' answered.swept (last_len most d answered.between first))

  limited : (d : Limited H) (most : ℕ) → d.limits.most ≡ Some most → are_none d.limits ≡ false
  limited d most is = ap (λ o. is_none o && is_none d.limits.within) is

  passes_handled : (most : ℕ) (e : Event) (outputs : List Output) (d d' : Limited H) → IsAnswered handles d e outputs d' → d.limits.most ≡ Some most
      → map.len d.connections ≤ most → Passes most d d'
  passes_handled most e outputs d d' answered is within =
      passes_by most (is_told d.limits d.connections e.kind) e outputs d d' refl
      (subst (λ b. IsAnsweredIf handles b e outputs d d') (limited d most is) answered) is within

  passes_heard : (most : ℕ) (e : PeerEvent) (given : Given) (d d' : Limited H) → IsHeard hears d e given d' → d.limits.most ≡ Some most
      → map.len d.connections ≤ most → Passes most d d'
  passes_heard most e given d d' told is within =
      let noted : d'.connections ≡ after given.outputs.items d.connections =
      told.connections ∙ ap (λ b. after_if b given.outputs.items d.connections) (limited d most is) in
      let less : map.len (after given.outputs.items d.connections) ≤ map.len d.connections = after_len given.outputs.items d.connections in
      let last : map.len (after given.outputs.items d.connections) ≤ most = omega (arith, less, within) in
      record {
        told = Heard e given ∷ [];
        made = (d'.inside, told.heard, refl);
        connections = noted;
        limits = told.limits;
        bounded = (within, last);
      }

  passes_settled : (most : ℕ) (d d' : Limited H) → IsSettled settles d d' → map.len d.connections ≤ most → Passes most d d'
  passes_settled most d d' told within = record {
    told = Settled ∷ [];
    made = (d'.inside, told.settled, refl);
    connections = told.connections;
    limits = told.limits;
    bounded = (within, within);
  }

  -- ---- call after call

  passes_call : (most : ℕ) (call : Call) (d d' : Limited H) → d.limits.most ≡ Some most → map.len d.connections ≤ most
      → IsMade (IsAnswered handles) (IsHeard hears) (IsSettled settles) call d d' → Passes most d d'
  passes_call most (Handled e outputs) d d' is within made = passes_handled most e outputs d d' made is within
  passes_call most (Heard e given) d d' is within made = passes_heard most e given d d' made is within
  passes_call most Settled d d' is within made = passes_settled most d d' made within

  passes : (most : ℕ) (calls : List Call) (d d' : Limited H) → d.limits.most ≡ Some most → map.len d.connections ≤ most
      → AreMade (IsAnswered handles) (IsHeard hears) (IsSettled settles) calls d d' → Passes most d d'
  passes most [] d d' is within made = passes_none most d d' made within
  passes most (call ∷ more) d d' is within made =
      let first = passes_call most call d made.0 is within made.1 in
      passes_over most d made.0 d' first
      (passes most more made.0 d' (ap (λ (l : Limits). l.most) first.limits ∙ is) (last_len most d made.0 first) made.2)

  all_open : (calls : List Call) (known : Connected) (cs : List ℕ) → known ≡ map.empty → AllByRecursion (λ c. open_after c calls false ≡ true) cs
      → AllByRecursion (λ c. map.contains_key (known_after calls known) c ≡ true) cs
  all_open calls known [] none there = tt
  all_open calls known (c ∷ cs) none there =
      let nobody : map.contains_key known c ≡ false = ap (λ (m : Connected). map.contains_key m c) none ∙ ap is_some (map.get-empty nat_cmp c) in
      (tracked calls known c ∙ ap (open_after c calls) nobody ∙ there.0, all_open calls known cs none there.1)

  pub limits_hold : LimitsHold handles hears settles (IsAnswered handles) (IsHeard hears) (IsSettled settles)
  limits_hold calls d d' most is none made =
      let empty : map.len d.connections ≡ 0 = ap (λ (m : Connected). map.len m) none ∙ map.len-empty nat_cmp (Option ℕ) in
      let p = passes most calls d d' is (omega (arith, empty)) made in (
        p.told,
        p.made,
        λ front back split cs apart there.
            let within : map.len (known_after front d.connections) ≤ most =
            front_bounded most front back d.connections (subst (λ told. Bounded most told d.connections) split p.bounded) in
            let counted : length cs ≤ map.len (known_after front d.connections) =
            apart_len (known_after front d.connections) cs apart (all_open front d.connections cs none there) in
            omega (arith, within, counted),
      )
