-- Acts in parts, and a call of a session, are determined by what their node holds.
use Rattle.std.proofs.Common.{◌≡◌, ℕ, List, [], ◌∷◌, ◌++◌, Option, Some, None, refl, sym, ap, ◌∙◌, subst}
use Rattle.std.specs.FinMap as map
use Rattle.law_sessions.specs.Runs.{Event, connects, queues, rooms, takes, answers, closes, ticks, finishes, loses, Reacts}
use Rattle.law_sessions.proofs.OutcomeLaws.{one_outcome}
use Rattle.session_table.specs.Seats.{Seat}
use Rattle.node_work.specs.Acts.{Act, Session, Allowed, Runs, next}
use Rattle.node_work.specs.Held.Sessions.{SessionStep, Called, IsOn}
use Rattle.node_work.specs.View.{Place, HeldView}
use Rattle.node_clients.proofs.Determined.{runs_determined}
use Rattle.law_runs.proofs.Splits.{runs_split}

-- ---- parts
-- the first act, and those after it
pub after_head : (p : Place) (h last : HeldView) (acts : List Act) (a : Act) (rest : List Act) → acts ≡ a ∷ rest → Runs p h acts last → Allowed p h a × Runs p (next h a) rest last
after_head p h last acts a rest is runs = let r = subst (λ zs. Runs p h zs last) is runs in (r.1.0, subst (λ v. Runs p v rest last) r.1.1 r.2)

pub two_heads : (p : Place) (h m n : HeldView) (zs ws : List Act) (a b : Act) (xs ys : List Act) → zs ≡ a ∷ xs → ws ≡ b ∷ ys → a ≡ b → Runs p h zs m → Runs p h ws n → (Runs p (next h a) xs m → Runs p (next h a) ys n → xs ≡ ys) → zs ≡ ws
two_heads p h m n zs ws a b xs ys is is' same r s f =
    let x = after_head p h m zs a xs is r in
    let y = after_head p h n ws b ys is' s in
    let rest : xs ≡ ys = f x.1 (subst (λ v. Runs p (next h v) ys n) (sym same) y.1) in
    is ∙ (λ i. same i ∷ rest i) ∙ sym is'

-- two parts, of which the second comes from what the first leaves
pub two_parts : (p : Place) (h m n : HeldView) (zs ws xs xs' ys ys' : List Act) → zs ≡ xs ++ xs' → ws ≡ ys ++ ys' → Runs p h zs m → Runs p h ws n
    → ((u v : HeldView) → Runs p h xs u → Runs p h ys v → xs ≡ ys)
    → ((mid : HeldView) → Runs p h xs mid → Runs p h ys mid → Runs p mid xs' m → Runs p mid ys' n → xs' ≡ ys')
    → zs ≡ ws
two_parts p h m n zs ws xs xs' ys ys' is is' r s f g =
    let a = runs_split p xs xs' h m (subst (λ w. Runs p h w m) is r) in
    let b = runs_split p ys ys' h n (subst (λ w. Runs p h w n) is' s) in
    let first : xs ≡ ys = f a.0 b.0 a.1 b.1 in
    let also : Runs p h ys a.0 = subst (λ w. Runs p h w a.0) first a.1 in
    let same : b.0 ≡ a.0 = runs_determined p ys h b.0 a.0 b.1 also in
    let second : xs' ≡ ys' = g a.0 a.1 also a.2 (subst (λ v. Runs p v ys' n) same b.2) in
    is ∙ (λ i. first i ++ second i) ∙ sym is'

-- ---- a call
-- an event after which the session is on the connection on which it was, or on none
abbrev pub IsKnown : Event → Type 0
IsKnown (connects q continued room now) = ⊥
IsKnown loses = ⊥
IsKnown e = Unit {0}

known_on : (e : Event) (before x y : Option ℕ) → IsKnown e → IsOn e before x → IsOn e before y → x ≡ y
known_on (connects q continued room now) before x y known a b = absurd known
known_on (queues d now) before x y known a b = a ∙ sym b
known_on (rooms bytes now) before x y known a b = a ∙ sym b
known_on (takes k now room) before x y known a b = a ∙ sym b
known_on (answers id codes) before x y known a b = a ∙ sym b
known_on (closes now) before x y known a b = a ∙ sym b
known_on (ticks now) before x y known a b = a ∙ sym b
known_on (finishes now) before x y known a b = a ∙ sym b
known_on loses before x y known a b = absurd known

-- of one client, with one event, on one connection
pub same_call_on : (p : Place) (h : HeldView) (s t : SessionStep) → Allowed p h (Session (Called s)) → Allowed p h (Session (Called t)) → s.client ≡ t.client → s.event ≡ t.event → s.on ≡ t.on → s ≡ t
same_call_on p h s t a b client event to =
    let seat : a.seat ≡ b.seat = (let z : Some a.seat ≡ Some b.seat = sym a.found ∙ ap (map.get h.sessions) client ∙ b.found in cc) in
    let reacts : Reacts a.seat.session s.event t.reaction t.after =
    subst (λ (v : Seat). Reacts v.session s.event t.reaction t.after) (sym seat) (subst (λ (e : Event). Reacts b.seat.session e t.reaction t.after) (sym event) b.reacts) in
    let one = one_outcome s.event a.seat.session s.reaction t.reaction s.after t.after a.reacts reacts in
    let at : s.at ≡ t.at = a.at ∙ sym b.at in
    λ i. record { client = client i; on = to i; at = at i; event = event i; reaction = one.0 i; after = one.1 i }

-- on none, or on the connection on which the session was
pub same_call : (p : Place) (h : HeldView) (s t : SessionStep) → Allowed p h (Session (Called s)) → Allowed p h (Session (Called t)) → s.client ≡ t.client → s.event ≡ t.event → IsKnown s.event → s ≡ t
same_call p h s t a b client event known =
    let seat : a.seat ≡ b.seat = (let z : Some a.seat ≡ Some b.seat = sym a.found ∙ ap (map.get h.sessions) client ∙ b.found in cc) in
    let where_on : IsOn s.event a.seat.connection t.on = subst (λ (v : Seat). IsOn s.event v.connection t.on) (sym seat) (subst (λ (e : Event). IsOn e b.seat.connection t.on) (sym event) b.on) in
    same_call_on p h s t a b client event (known_on s.event a.seat.connection s.on t.on known a.on where_on)
