-- Sessions and the connections that they are on, act by act.
use Rattle.std.proofs.Common.{◌≡◌, ◌≢◌, inl, inr, ℕ, Bool, true, false, List, [], ◌∷◌, ◌++◌, Option, Some, None, refl, sym, ap, ◌∙◌, subst, append_assoc}
use Rattle.std.proofs.lemmas.List.{append-nil}
use Rattle.std.specs.FinMap as map
use Rattle.std.specs.FinMap.{nat_cmp-IsAntisymmetric}
use Rattle.std.specs.Cmp.{Equal-is, nat_cmp_total}
use Rattle.std.specs.List.{AllByRecursion}
use Rattle.std.specs.Ordering.{eq_by_cmp, nat_cmp}
use Rattle.law_maps.proofs.Tables as tables
use Rattle.law_maps.proofs.Texts.{same_text, get_inserted, get_apart, get_removed, get_left}
use Rattle.law_sessions.specs.Runs.{Event, connects, queues, rooms, takes, answers, closes, ticks, finishes, loses}
use Rattle.session_table.specs.Listing.{text_cmp}
use Rattle.session_table.specs.Seats.{Seat, begun}
use Rattle.node_work.specs.declared.outcome.Output.TheVariants.{Send, Close}
use Rattle.node_work.specs.Acts.{Act, Connection, Session, Bridge, Out, Allowed, Runs, next}
use Rattle.node_work.specs.Held.Bridge.{BridgeAct, Put, Took, Got, Believed, Greeted, Gave, Left_out, bridged}
use Rattle.node_work.specs.Held.Connections.{ConnectionTable, Closed, client_at}
use Rattle.node_work.specs.Held.Sessions.{SessionStep, Begun, Called, Over, IsOn}
use Rattle.node_work.specs.View.{Place, HeldView, ConnectionView}
use Rattle.node_clients.proofs.Determined.{runs_determined}
use Rattle.law_runs.proofs.Splits.{head_is, tail_is, none_there, runs_split, splits}
use Rattle.law_steps.specs.Outputs.{Occasion, SessionsAreOnTheirs, IsToldTo, GoesRight}
use Rattle.law_steps.proofs.Alone.{Kind, IsCalmCall}

-- ---- the acts of a part of a step, after these that came before it in the step
abbrev pub Right : Occasion → List Act → Place → HeldView → List Act → Type 0
Right occasion pre p h acts = (before after : List Act) (a : Act) (mid : HeldView) → acts ≡ before ++ a ∷ after → Runs p h before mid → GoesRight occasion p (pre ++ before) after mid a

pub right_none : (occasion : Occasion) (pre : List Act) (p : Place) (h : HeldView) → Right occasion pre p h []
right_none occasion pre p h before after a mid is ran = none_there before after a is

pub right_one : (occasion : Occasion) (pre : List Act) (p : Place) (h : HeldView) (x : Act) → GoesRight occasion p pre [] h x → Right occasion pre p h (x ∷ [])
right_one occasion pre p h x right [] after a mid is ran =
    subst (λ zs. GoesRight occasion p (pre ++ []) zs mid a) (tail_is is)
    (subst (λ xs. GoesRight occasion p xs [] mid a) (sym (append-nil pre)) (subst (λ v. GoesRight occasion p pre [] v a) (sym ran) (subst (GoesRight occasion p pre [] h) (head_is is) right)))
right_one occasion pre p h x right (b ∷ before) after a mid is ran = none_there before after a (tail_is is)

-- one act, with these after it
pub right_before : (occasion : Occasion) (pre : List Act) (p : Place) (h : HeldView) (x : Act) (ys : List Act) → GoesRight occasion p pre ys h x → (before after : List Act) (a : Act) (mid : HeldView) → x ∷ [] ≡ before ++ a ∷ after → Runs p h before mid
    → GoesRight occasion p (pre ++ before) (after ++ ys) mid a
right_before occasion pre p h x ys right [] after a mid is ran =
    subst (λ zs. GoesRight occasion p (pre ++ []) (zs ++ ys) mid a) (tail_is is)
    (subst (λ xs. GoesRight occasion p xs ys mid a) (sym (append-nil pre)) (subst (λ v. GoesRight occasion p pre ys v a) (sym ran) (subst (GoesRight occasion p pre ys h) (head_is is) right)))
right_before occasion pre p h x ys right (b ∷ before) after a mid is ran = none_there before after a (tail_is is)

-- a first part, of which each act goes right with the second part after it
pub right_after : (occasion : Occasion) (pre : List Act) (p : Place) (h mid : HeldView) (xs ys : List Act) → Runs p h xs mid
    → ((before after : List Act) (a : Act) (held : HeldView) → xs ≡ before ++ a ∷ after → Runs p h before held → GoesRight occasion p (pre ++ before) (after ++ ys) held a)
    → Right occasion (pre ++ xs) p mid ys → Right occasion pre p h (xs ++ ys)
right_after occasion pre p h mid xs ys runs f g before after a held is ran =
    elim (splits xs ys before after a is) [
      | inl r ↦ subst (λ zs. GoesRight occasion p (pre ++ before) zs held a) (sym r.2) (f before r.0 a held r.1 ran)
      | inr r ↦ (
          let parts = runs_split p xs r.0 h held (subst (λ zs. Runs p h zs held) r.1 ran) in
          let same : parts.0 ≡ mid = runs_determined p xs h parts.0 mid parts.1 runs in
          subst (λ zs. GoesRight occasion p zs after held a) (append_assoc pre xs r.0 ∙ ap (λ zs. pre ++ zs) (sym r.1)) (g r.0 after a held r.2 (subst (λ v. Runs p v r.0 held) same parts.2)))
    ]

-- what follows an act may be more
told_more : (occasion : Occasion) (c : ℕ) (after more : List Act) → IsToldTo occasion c after → IsToldTo occasion c (after ++ more)
told_more occasion c after more (inl closed) = inl closed
told_more occasion c after more (inr told) = inr (told.0 ++ more, ap (λ xs. xs ++ more) told.1)

right_more : (occasion : Occasion) (p : Place) (before after more : List Act) (h : HeldView) (a : Act) → GoesRight occasion p before after h a → GoesRight occasion p before (after ++ more) h a
right_more occasion p before after more h (Session (Called s)) right = right
right_more occasion p before after more h (Out (Send c bytes)) right = right
right_more occasion p before after more h (Out (Close c)) right = right
right_more occasion p before after more h (Connection (Closed c)) right = (right.0, right.1, told_more occasion c after more right.2)
right_more occasion p before after more h a right = tt

pub right_both : (occasion : Occasion) (pre : List Act) (p : Place) (h mid : HeldView) (xs ys : List Act) → Runs p h xs mid → Right occasion pre p h xs → Right occasion (pre ++ xs) p mid ys → Right occasion pre p h (xs ++ ys)
right_both occasion pre p h mid xs ys runs f g =
    right_after occasion pre p h mid xs ys runs (λ before after a held is ran. right_more occasion p (pre ++ before) after ys held a (f before after a held is ran)) g

pub right_again : (occasion : Occasion) (pre : List Act) (p : Place) (h : HeldView) (xs ys : List Act) → ys ≡ xs → Right occasion pre p h xs → Right occasion pre p h ys
right_again occasion pre p h xs ys is r = subst (Right occasion pre p h) (sym is) r

-- ---- keys
pub same_number : (a b : ℕ) → eq_by_cmp nat_cmp a b ≡ true → a ≡ b
same_number a b t = nat_cmp-IsAntisymmetric a b ((Equal-is (nat_cmp a b)).0 t)

pub apart_text : (q client : List ℕ) → q ≢ client → eq_by_cmp text_cmp q client ≡ false
apart_text q client ne = by (eq_by_cmp text_cmp q client) refl
  where
    by : (b : Bool) → eq_by_cmp text_cmp q client ≡ b → eq_by_cmp text_cmp q client ≡ false
    by true e = absurd (ne (same_text q client e))
    by false e = e

pub apart_number : (q c : ℕ) → q ≢ c → eq_by_cmp nat_cmp q c ≡ false
apart_number q c ne = by (eq_by_cmp nat_cmp q c) refl
  where
    by : (b : Bool) → eq_by_cmp nat_cmp q c ≡ b → eq_by_cmp nat_cmp q c ≡ false
    by true e = absurd (ne (same_number q c e))
    by false e = e

pub put_here : (m : ConnectionTable) (c : ℕ) (v : ConnectionView) → map.get (map.insert m c v) c ≡ Some v
put_here m c v = tables.get_inserted nat_cmp_total m c v

pub put_apart : (m : ConnectionTable) (c : ℕ) (v : ConnectionView) (q : ℕ) → q ≢ c → map.get (map.insert m c v) q ≡ map.get m q
put_apart m c v q ne = tables.get_apart nat_cmp_total m c v q (apart_number q c ne)

pub gone_here : (m : ConnectionTable) (c : ℕ) → map.get (map.remove m c) c ≡ None
gone_here m c = tables.get_removed nat_cmp_total m c

pub gone_apart : (m : ConnectionTable) (c q : ℕ) → q ≢ c → map.get (map.remove m c) q ≡ map.get m q
gone_apart m c q ne = tables.get_left nat_cmp_total m c q (apart_number q c ne)

-- ---- acts that open, change and close no connection, and give out nothing of the node's own
abbrev pub IsCalm : Act → Type 0
IsCalm (Connection a) = ⊥
IsCalm (Out o) = ⊥
IsCalm (Session (Called s)) = IsCalmCall s.event
IsCalm a = Unit {0}

pub calm_kind : Kind IsCalm
calm_kind = record {
  made = λ o. tt;
  called = λ s calm. calm;
  over = λ client. tt;
  put = λ peer m. tt;
  missed = λ what other. tt;
  passed = λ m copies lost routes. tt;
  dropped = tt;
  acknowledged = λ client packet at given os. tt;
}

-- what they leave
pub record Kept (h h' : HeldView) : Type 0 where
  pub connections : h'.connections ≡ h.connections
  pub on : SessionsAreOnTheirs h'

pub kept_then : (h mid h' : HeldView) → Kept h mid → Kept mid h' → Kept h h'
kept_then h mid h' a b = record { connections = b.connections ∙ a.connections; on = b.on }

pub same_client : (h h' : HeldView) (c : ℕ) → h'.connections ≡ h.connections → client_at c h' ≡ client_at c h
same_client h h' c e = ap (λ (m : ConnectionTable). client_at c (record h { connections = m })) e

-- a call that is on its client's connection, if on any
pub called_kept : (h : HeldView) (s : SessionStep) → SessionsAreOnTheirs h → ((c : ℕ) → s.on ≡ Some c → client_at c h ≡ Some s.client) → Kept h (next h (Session (Called s)))
called_kept h s on right = record { connections = refl; on = theirs } where
  theirs : SessionsAreOnTheirs (next h (Session (Called s)))
  theirs client seat c found at = by (eq_by_cmp text_cmp client s.client) refl
    where
      by : (b : Bool) → eq_by_cmp text_cmp client s.client ≡ b → client_at c h ≡ Some client
      by true e =
          let same : client ≡ s.client = same_text client s.client e in
          let after : Seat = record { session = s.after; connection = s.on } in
          let is : after ≡ seat = (let z : Some after ≡ Some seat = sym (get_inserted h.sessions s.client after) ∙ ap (map.get (map.insert h.sessions s.client after)) (sym same) ∙ found in cc) in
          right c (ap (λ (x : Seat). x.connection) is ∙ at) ∙ ap Some (sym same)
      by false e = on client seat c (sym (get_apart h.sessions s.client _ client e) ∙ found) at

begun_kept : (h : HeldView) (client : List ℕ) → SessionsAreOnTheirs h → Kept h (next h (Session (Begun client)))
begun_kept h client on = record { connections = refl; on = theirs } where
  theirs : SessionsAreOnTheirs (next h (Session (Begun client)))
  theirs q seat c found at = by (eq_by_cmp text_cmp q client) refl
    where
      by : (b : Bool) → eq_by_cmp text_cmp q client ≡ b → client_at c h ≡ Some q
      by true e =
          let is : begun client ≡ seat = (let z : Some (begun client) ≡ Some seat = sym (get_inserted h.sessions client (begun client)) ∙ ap (map.get (map.insert h.sessions client (begun client))) (sym (same_text q client e)) ∙ found in cc) in
          absurd (let z : None ≡ Some c = ap (λ (x : Seat). x.connection) is ∙ at in cc)
      by false e = on q seat c (sym (get_apart h.sessions client (begun client) q e) ∙ found) at

over_kept : (h : HeldView) (client : List ℕ) → SessionsAreOnTheirs h → Kept h (next h (Session (Over client)))
over_kept h client on = record { connections = refl; on = theirs } where
  theirs : SessionsAreOnTheirs (next h (Session (Over client)))
  theirs q seat c found at = by (eq_by_cmp text_cmp q client) refl
    where
      by : (b : Bool) → eq_by_cmp text_cmp q client ≡ b → client_at c h ≡ Some q
      by true e = absurd (let z : None ≡ Some seat = sym (get_removed h.sessions client) ∙ ap (map.get (map.remove h.sessions client)) (sym (same_text q client e)) ∙ found in cc)
      by false e = on q seat c (sym (get_left h.sessions client q e) ∙ found) at

bridge_kept : (h : HeldView) (a : BridgeAct) → SessionsAreOnTheirs h → Kept h (bridged h a)
bridge_kept h (Put peer m) on = record { connections = refl; on = on }
bridge_kept h (Took peer number m copies lost) on = record { connections = refl; on = on }
bridge_kept h (Got peer number) on = record { connections = refl; on = on }
bridge_kept h (Believed peer dots) on = record { connections = refl; on = on }
bridge_kept h (Greeted peer g) on = record { connections = refl; on = on }
bridge_kept h (Gave f) on = record { connections = refl; on = on }
bridge_kept h (Left_out what) on = record { connections = refl; on = on }

-- the connection of a call that begins none is the one before, or none
was_on : (e : Event) (before on : Option ℕ) (c : ℕ) → IsCalmCall e → IsOn e before on → on ≡ Some c → before ≡ Some c
was_on (connects q continued room now) before on c calm is at = absurd calm
was_on (queues d now) before on c calm is at = sym is ∙ at
was_on (rooms bytes now) before on c calm is at = sym is ∙ at
was_on (takes k now room) before on c calm is at = sym is ∙ at
was_on (answers id codes) before on c calm is at = sym is ∙ at
was_on (closes now) before on c calm is at = absurd (let z : None ≡ Some c = sym is ∙ at in cc)
was_on (ticks now) before on c calm is at = sym is ∙ at
was_on (finishes now) before on c calm is at = sym is ∙ at
was_on loses before on c calm is at = absurd is

call_right : (p : Place) (h : HeldView) (s : SessionStep) → SessionsAreOnTheirs h → IsCalmCall s.event → Allowed p h (Session (Called s)) → (c : ℕ) → s.on ≡ Some c → client_at c h ≡ Some s.client
call_right p h s on calm allowed c at = on s.client allowed.seat c allowed.found (was_on s.event allowed.seat.connection s.on c calm allowed.on at)

act_right : (occasion : Occasion) (pre : List Act) (p : Place) (h : HeldView) (a : Act) → SessionsAreOnTheirs h → IsCalm a → Allowed p h a → GoesRight occasion p pre [] h a
act_right occasion pre p h (Connection a) on calm allowed = absurd calm
act_right occasion pre p h (Out o) on calm allowed = absurd calm
act_right occasion pre p h (Session (Called s)) on calm allowed = call_right p h s on calm allowed
act_right occasion pre p h a on calm allowed = tt

act_kept : (p : Place) (h : HeldView) (a : Act) → SessionsAreOnTheirs h → IsCalm a → Allowed p h a → Kept h (next h a)
act_kept p h (Connection a) on calm allowed = absurd calm
act_kept p h (Out o) on calm allowed = absurd calm
act_kept p h (Session (Called s)) on calm allowed = called_kept h s on (call_right p h s on calm allowed)
act_kept p h (Session (Begun client)) on calm allowed = begun_kept h client on
act_kept p h (Session (Over client)) on calm allowed = over_kept h client on
act_kept p h (Bridge a) on calm allowed = bridge_kept h a on
act_kept p h a on calm allowed = record { connections = refl; on = on }

-- ---- of all of them
pub record Calmly (occasion : Occasion) (pre : List Act) (p : Place) (h h' : HeldView) (acts : List Act) : Type 0 where
  pub right : Right occasion pre p h acts
  pub kept : Kept h h'

pub calmly : (occasion : Occasion) (pre : List Act) (p : Place) (acts : List Act) (h h' : HeldView) → AllByRecursion IsCalm acts → SessionsAreOnTheirs h → Runs p h acts h' → Calmly occasion pre p h h' acts
calmly occasion pre p [] h h' calm on r = record { right = right_none occasion pre p h; kept = record { connections = ap (λ (v : HeldView). v.connections) r; on = subst SessionsAreOnTheirs (sym r) on } }
calmly occasion pre p (a ∷ acts) h h' calm on r =
    let first : Kept h r.0 = subst (Kept h) (sym r.1.1) (act_kept p h a on calm.0 r.1.0) in
    let rest = calmly occasion (pre ++ a ∷ []) p acts r.0 h' calm.1 first.on r.2 in
    record {
      right = right_both occasion pre p h r.0 (a ∷ []) acts (r.0, r.1, refl) (right_one occasion pre p h a (act_right occasion pre p h a on calm.0 r.1.0)) rest.right;
      kept = kept_then h r.0 h' first rest.kept;
    }
