-- How much connections take: what outputs make of it, and that the handler is told.
use Rattle.std.proofs.Common.{◌≡◌, ◌≤◌, ◌<◌, ◌-◌, ◌+◌, ◌||◌, ◌&&◌, ◌⊎◌, ℕ, List, [], ◌∷◌, ◌++◌, Bool, true, false, Option, Some, None, eqb, ltb, not, length, length-append, if◌then◌else◌, refl, sym, ap, subst, ◌∙◌, inl, inr, arith}
use Rattle.std.proofs.lemmas.Bool.Decides.{eqb_tells, nat_tests}
use Rattle.std.specs.declared.net.socket_addr.SocketAddr.{SocketAddr}
use Rattle.slab.specs.Slab.{Slab, get}
use Rattle.broker_sockets.specs.declared.bridge.Given.{Given}
use Rattle.broker_sockets.specs.declared.bridge.PeerEvent.{PeerEvent}
use Rattle.broker_sockets.specs.declared.events.Event.{Event}
use Rattle.broker_sockets.specs.declared.events.Output.{Output}
use Rattle.broker_sockets.specs.declared.events.Output.TheVariants.{Send, Close}
use Rattle.broker_sockets.specs.declared.network.Answer.{Answer}
use Rattle.broker_sockets.specs.declared.ready.Ready.{Ready}
use Rattle.broker_sockets.specs.declared.ready.Watched.{Watched}
use Rattle.broker_turns.specs.declared.clients.Client.{Client}
use Rattle.broker_turns.specs.Clients.{closed, fresh, room_of, sent, takes_more, takes_more_at, told_all, told_at}
use Rattle.broker_turns.specs.Connections.{IsRoomIf, IsRoomIn, IsRoomMade, IsRoomStep, IsRoomTold}
use Rattle.broker_turns.specs.Numbers.{is_among}
use Rattle.broker_turns.specs.Rooms.{EveryoneIsTold, IsOneOf, bytes_for, closes, stays_open}
use Rattle.broker_turns.specs.Steps.{Each}

-- ---- what outputs make of a client

or-true : (b : Bool) → true ≡ (b || true)
or-true true = refl
or-true false = refl

or-none : (b : Bool) → b ≡ (b || false)
or-none true = refl
or-none false = refl

and-first : (a b : Bool) → (a && b) ≡ true → a ≡ true
and-first true b both = refl
and-first false b both = absurd cc

and-second : (a b : Bool) → (a && b) ≡ true → b ≡ true
and-second true b both = both
and-second false b both = absurd cc

either : (P : Bool → Type 0) (b : Bool) → P true → P false → P b
either P true a b = a
either P false a b = b

plus-none : (n : ℕ) → n ≡ n + 0
plus-none n = omega arith

plus-nothing : (n m : ℕ) → n + m ≡ n + (0 + m)
plus-nothing n m = omega arith

plus-sent : (xs ys : List ℕ) (n : ℕ) → length (xs ++ ys) + n ≡ length xs + (length ys + n)
plus-sent xs ys n = omega (arith, length-append xs ys)

not-low : (n : ℕ) → ltb n 262144 ≡ false → 262144 ≤ n
not-low n is = grind (arith, nat_tests)

module _ {T : Type 0} where
  sent-shut : (bytes : List ℕ) (client : Client T) → client.closing ≡ true → sent bytes client ≡ client
  sent-shut bytes client shut = ap (λ (b : Bool). if b then client else record client { unsent = client.unsent ++ bytes; untold = true }) shut

  sent-open : (bytes : List ℕ) (client : Client T) → client.closing ≡ false → sent bytes client ≡ record client { unsent = client.unsent ++ bytes; untold = true }
  sent-open bytes client wide = ap (λ (b : Bool). if b then client else record client { unsent = client.unsent ++ bytes; untold = true }) wide

  -- nothing more is sent to one that closes
  shut-len : (key : ℕ) (outputs : List Output) (client : Client T) → client.closing ≡ true → length (told_all key outputs client).unsent ≡ length client.unsent
  shut-len key [] client shut = refl
  shut-len key (Send connection bytes ∷ more) client shut =
      either (λ (b : Bool). length (told_all key more (if b then sent bytes.items client else client)).unsent ≡ length client.unsent) (eqb connection key)
      (ap (λ (x : Client T). length (told_all key more x).unsent) (sent-shut bytes.items client shut) ∙ shut-len key more client shut)
      (shut-len key more client shut)
  shut-len key (Close connection ∷ more) client shut =
      either (λ (b : Bool). length (told_all key more (if b then closed client else client)).unsent ≡ length client.unsent) (eqb connection key)
      (shut-len key more (closed client) refl) (shut-len key more client shut)

  told-len : (key : ℕ) (outputs : List Output) (client : Client T) → client.closing ≡ false → length (told_all key outputs client).unsent ≡ length client.unsent + bytes_for key outputs
  told-len key [] client wide = plus-none (length client.unsent)
  told-len key (Send connection bytes ∷ more) client wide =
      let grown : Client T = record client { unsent = client.unsent ++ bytes.items; untold = true } in
      let first = ap (λ (x : Client T). length (told_all key more x).unsent) (sent-open bytes.items client wide) in
      let rest = told-len key more grown wide in
      either (λ (b : Bool). length (told_all key more (if b then sent bytes.items client else client)).unsent ≡ length client.unsent + ((if b then length bytes.items else 0) + bytes_for key more))
      (eqb connection key) (first ∙ rest ∙ plus-sent client.unsent bytes.items (bytes_for key more)) (told-len key more client wide ∙ plus-nothing (length client.unsent) (bytes_for key more))
  told-len key (Close connection ∷ more) client wide =
      either (λ (b : Bool). length (told_all key more (if b then closed client else client)).unsent ≡ length client.unsent + (if b then 0 else bytes_for key more)) (eqb connection key)
      (shut-len key more (closed client) refl ∙ plus-none (length client.unsent)) (told-len key more client wide)

  sent-closing : (b : Bool) (bytes : List ℕ) (client : Client T) → (if b then client else record client { unsent = client.unsent ++ bytes; untold = true }).closing ≡ client.closing
  sent-closing true bytes client = refl
  sent-closing false bytes client = refl

  told-closing : (key : ℕ) (outputs : List Output) (client : Client T) → (told_all key outputs client).closing ≡ (client.closing || closes key outputs)
  told-closing key [] client = or-none client.closing
  told-closing key (Send connection bytes ∷ more) client =
      either (λ (b : Bool). (told_all key more (if b then sent bytes.items client else client)).closing ≡ (client.closing || closes key more)) (eqb connection key)
      (told-closing key more (sent bytes.items client) ∙ ap (λ (b : Bool). b || closes key more) (sent-closing client.closing bytes.items client))
      (told-closing key more client)
  told-closing key (Close connection ∷ more) client =
      either (λ (b : Bool). (told_all key more (if b then closed client else client)).closing ≡ (client.closing || (b || closes key more))) (eqb connection key)
      (told-closing key more (closed client) ∙ or-true client.closing) (told-closing key more client)

  sent-untold : (b : Bool) (bytes : List ℕ) (client : Client T) → client.untold ≡ true → (if b then client else record client { unsent = client.unsent ++ bytes; untold = true }).untold ≡ true
  sent-untold true bytes client before = before
  sent-untold false bytes client before = refl

  told-untold : (key : ℕ) (outputs : List Output) (client : Client T) → client.untold ≡ true → (told_all key outputs client).untold ≡ true
  told-untold key [] client before = before
  told-untold key (Send connection bytes ∷ more) client before =
      either (λ (b : Bool). (told_all key more (if b then sent bytes.items client else client)).untold ≡ true) (eqb connection key)
      (told-untold key more (sent bytes.items client) (sent-untold client.closing bytes.items client before)) (told-untold key more client before)
  told-untold key (Close connection ∷ more) client before =
      either (λ (b : Bool). (told_all key more (if b then closed client else client)).untold ≡ true) (eqb connection key)
      (told-untold key more (closed client) before) (told-untold key more client before)

  -- a client that is new
  pub fresh-takes : (key : ℕ) (outputs : List Output) (stream : T) → takes_more (told_all key outputs (fresh stream)) ≡ stays_open key outputs
  fresh-takes key outputs stream =
      let n = told_all key outputs (fresh stream) in
      let len : length n.unsent ≡ bytes_for key outputs = told-len key outputs (fresh stream) refl ∙ omega arith in
      ap (λ (b : Bool). b && (not n.closing && ltb (length n.unsent) 262144)) (told-untold key outputs (fresh stream) refl)
      ∙ ap (λ (b : Bool). not b && ltb (length n.unsent) 262144) (told-closing key outputs (fresh stream))
      ∙ ap (λ (m : ℕ). not (closes key outputs) && ltb m 262144) len

  pub fresh-room : (key : ℕ) (outputs : List Output) (stream : T) → room_of (told_all key outputs (fresh stream)) ≡ 1048576 - bytes_for key outputs
  fresh-room key outputs stream =
      let n = told_all key outputs (fresh stream) in
      let len : length n.unsent ≡ bytes_for key outputs = told-len key outputs (fresh stream) refl ∙ omega arith in
      ap (λ (m : ℕ). 1048576 - m) len

  pub takes-low : (client : Client T) → takes_more client ≡ true → length client.unsent < 262144
  takes-low client takes =
      let low : ltb (length client.unsent) 262144 ≡ true = and-second (not client.closing) _ (and-second client.untold _ takes) in
      grind (arith, nat_tests)

  -- one of which the handler wasn't told takes more, or it closes, or much waits
  pub takes-or : (client : Client T) → client.untold ≡ true → (client.closing ≡ true) ⊎ (262144 ≤ length client.unsent) ⊎ (takes_more client ≡ true)
  takes-or client untold = by client.closing (ltb (length client.unsent) 262144) refl refl
    where
      by : (shut low : Bool) → client.closing ≡ shut → ltb (length client.unsent) 262144 ≡ low → (client.closing ≡ true) ⊎ (262144 ≤ length client.unsent) ⊎ (takes_more client ≡ true)
      by true low is much = inl is
      by false false is much = inr (inl (not-low (length client.unsent) much))
      by false true is much =
          let all : takes_more client ≡ true =
          ap (λ (b : Bool). b && (not client.closing && ltb (length client.unsent) 262144)) untold
          ∙ ap (λ (b : Bool). not b && ltb (length client.unsent) 262144) is ∙ much in
          inr (inr all)

-- ---- each that takes more

module _ {H T : Type 0} (handles : H → Event → List Output → H → Type 0) (at : ℕ) where
  -- one of which the handler wasn't told is there while it is told of others
  other_told : (k key : ℕ) (h h' : H) (c c' : Slab (Client T)) (client : Client T) → eqb key k ≡ false → (o : Option (Client T)) → IsRoomIn handles at o k h c h' c' → get c key ≡ Some client → client.untold ≡ true
      → (later : Client T) × (get c' key ≡ Some later) × (later.untold ≡ true)
  other_told k key h h' c c' client apart None same found untold = (client, ap (λ (s : Slab (Client T)). get s key) same.1 ∙ found, untold)
  other_told k key h h' c c' client apart (Some one) is found untold = by (takes_more one) is
    where
      by : (b : Bool) → IsRoomIf handles at b k one h c h' c' → (later : Client T) × (get c' key ≡ Some later) × (later.untold ≡ true)
      by false same = (client, ap (λ (s : Slab (Client T)). get s key) same.1 ∙ found, untold)
      by true t = elim (eqb_tells key k) [
        | inl same ↦ absurd (let bad : true ≡ false = sym same.0 ∙ apart in cc)
        | inr differs ↦
            let kept : get t.noted key ≡ Some client = t.notes.others key differs.1 ∙ found in (
              told_all key t.handled.outputs client,
              t.handled.released key ∙ ap (λ (o : Option (Client T)). told_at key t.handled.outputs o) kept,
              told-untold key t.handled.outputs client untold,
            )
      ]

  abbrev Reached : ℕ → List ℕ → H × Slab (Client T) → H × Slab (Client T) → Type 0
  Reached key keys n n' = (one : IsOneOf (IsRoomStep handles at) key keys n n') × (now : Client T) × (get one.from.1 key ≡ Some now) × (now.untold ≡ true)

  reached : (key : ℕ) (keys : List ℕ) (n n' : H × Slab (Client T)) (client : Client T) → is_among keys key ≡ true → Each (IsRoomStep handles at) keys n n' → get n.1 key ≡ Some client → client.untold ≡ true
      → Reached key keys n n'
  reached key [] n n' client among each found untold = absurd cc
  reached key (k ∷ ks) n n' client among each found untold =
      by (eqb key k) refl (λ later among' there untold'. reached key ks each.0 n' later among' each.2 there untold')
    where
      by : (b : Bool) → eqb key k ≡ b
          → ((later : Client T) → is_among ks key ≡ true → get each.0.1 key ≡ Some later → later.untold ≡ true → Reached key ks each.0 n') → Reached key (k ∷ ks) n n'
      by true same more = elim (eqb_tells key k) [
        | inl is ↦
            let here : IsRoomStep handles at key n each.0 = subst (λ (x : ℕ). IsRoomStep handles at x n each.0) (sym is.1) each.1 in
            let all : (k ∷ ks) ≡ ([] ++ key ∷ ks) = ap (λ (x : ℕ). x ∷ ks) (sym is.1) in
            (record { before = []; after = ks; all = all; from = n; to = each.0; first = refl; here = here; rest = each.2 }, client, found, untold)
        | inr differs ↦ absurd (let bad : true ≡ false = sym same ∙ differs.0 in cc)
      ]
      by false apart more =
          let later = other_told k key n.0 each.0.0 n.1 each.0.1 client apart (get n.1 k) each.1.by_client found untold in
          let among' : is_among ks key ≡ true = sym (ap (λ (b : Bool). b || is_among ks key) apart) ∙ among in
          let r = more later.0 among' later.1 later.2 in
          let one = r.0 in (
            record {
              before = k ∷ one.before;
              after = one.after;
              all = ap (λ (xs : List ℕ). k ∷ xs) one.all;
              from = one.from;
              to = one.to;
              first = (each.0, each.1, one.first);
              here = one.here;
              rest = one.rest;
            },
            r.1,
            r.2,
            r.3,
          )

  -- what the step of one is
  made-told : (key : ℕ) (h h' : H) (c c' : Slab (Client T)) (now : Client T) → get c key ≡ Some now → takes_more now ≡ true → IsRoomMade handles at key h c h' c' → IsRoomTold handles at key now h c h' c'
  made-told key h h' c c' now found takes made =
      let In : Option (Client T) → Type 0 = λ o. IsRoomIn handles at o key h c h' c' in
      let If : Bool → Type 0 = λ b. IsRoomIf handles at b key now h c h' c' in
      subst If takes (subst In found made.by_client)

  told-or : (key : ℕ) (h h' : H) (c c' : Slab (Client T)) (now : Client T) → get c key ≡ Some now → now.untold ≡ true → IsRoomMade handles at key h c h' c'
      → (now.closing ≡ true) ⊎ (262144 ≤ length now.unsent) ⊎ IsRoomTold handles at key now h c h' c'
  told-or key h h' c c' now found untold made = elim (takes-or now untold) [
    | inl shut ↦ inl shut
    | inr wide ↦ elim wide [
      | inl much ↦ inr (inl much)
      | inr takes ↦ inr (inr (made-told key h h' c c' now found takes made))
    ]
  ]

module _ {S H L T : Type 0} (accepts : S → L → Option T → S → Type 0) (watches : S → T → Watched → Bool → S → Type 0) (connects : S → SocketAddr → Option T → S → Type 0) (reads : S → T → Answer → List ℕ → S → T → Type 0) (writes : S → T → List ℕ → Answer → S → T → Type 0) (finds : S → Ready → S → Type 0) (handles : H → Event → List Output → H → Type 0) (hears : H → PeerEvent → Given → H → Type 0) (settles : H → H → Type 0) where
  pub everyone_is_told : EveryoneIsTold accepts watches connects reads writes finds handles hears settles
  everyone_is_told setting at old new turn key client found takes =
      let d = turn.decides in
      let all = d.rooms_made.does in
      let n : H × Slab (Client T) = (d.supplied.near.handler, d.supplied.near.clients) in
      let n' : H × Slab (Client T) = (d.roomed.near.handler, d.roomed.near.clients) in
      let among : is_among all.takers key ≡ true = all.all.those key ∙ ap (λ (o : Option (Client T)). takes_more_at o) found ∙ takes in
      let r = reached handles at key all.takers n n' client among all.each found (and-first client.untold _ takes) in
      let one = r.0 in
      (one, r.1, r.2, told-or handles at key one.from.0 one.to.0 one.from.1 one.to.1 r.1 r.2 r.3 one.here)
