-- What is due is determined, and so is what follows where a client goes away.
use Rattle.std.proofs.Common.{◌≡◌, inl, inr, ℕ, Bool, true, false, cond, List, [], ◌∷◌, ◌++◌, Option, Some, None, refl, sym, ap, ◌∙◌, subst}
use Rattle.session_table.specs.Dues.{Due}
use Rattle.home_table.specs.Table.{IsTable}
use Rattle.home_table.proofs.HomeLaws.{home_alone}
use Rattle.law_sessions.specs.Runs.{Event, ticks}
use Rattle.session_table.specs.Seats.{run_outs, wills_due, ends_due}
use Rattle.node_work.specs.declared.outcome.Output.TheVariants.{Close}
use Rattle.node_work.specs.Acts.{Act, Connection, Session, Out, Runs, next}
use Rattle.node_work.specs.Held.Connections.{Closed}
use Rattle.node_work.specs.Held.Sessions.{SessionStep, Called, Over, has_session, will_is_due, end_is_due}
use Rattle.node_work.specs.View.{Place, HeldView}
use Rattle.node_work.proofs.Homes.{is_table_on}
use Rattle.node_work.proofs.Working.{runs_join}
use Rattle.node_clients.specs.Ending.{ends_below}
use Rattle.node_clients.proofs.Determined.{runs_determined}
use Rattle.law_steps.specs.Due.{InOrder, TimesOut}
use Rattle.law_steps.specs.Starting.{IsClosed}
use Rattle.law_steps.specs.Ending.{EndsAlone, DoesOwn, OwnIsDone, TickIsDone, AllDueIsDone, Parts, ClosesOn, LeavesFrom, removed_below}
use Rattle.law_steps.specs.Passing.{PassesWillOn}
use Rattle.law_steps.proofs.Calls.{IsKnown, after_head, same_call, two_heads, two_parts}
use Rattle.law_steps.proofs.Passing.{asked_fixed}

-- ---- the end of a session
ends_fixed : (p : Place) (h : HeldView) (client : List ℕ) (xs ys : List Act) → IsTable h.homes → EndsAlone p h client xs → EndsAlone p h client ys → xs ≡ ys
ends_fixed p h client xs ys sound x y =
    x.is ∙ ap (λ n. removed_below p.id client (ends_below n p h) h ++ Session (Over client) ∷ []) (home_alone h.homes client x.home y.home sound x.is_home y.is_home) ∙ sym y.is

ended_fixed : (over : Bool) (p : Place) (h : HeldView) (client : List ℕ) (xs ys : List Act) → IsTable h.homes → cond over (EndsAlone p h client xs) (xs ≡ []) → cond over (EndsAlone p h client ys) (ys ≡ []) → xs ≡ ys
ended_fixed true p h client xs ys sound x y = ends_fixed p h client xs ys sound x y
ended_fixed false p h client xs ys sound x y = x ∙ sym y

-- ---- a tick of a session, or its end now
own_fixed : (event : ℕ → Event) → ((at : ℕ) → IsKnown (event at)) → (p : Place) (h : HeldView) (client : List ℕ) (last last' : HeldView) (xs ys : List Act) → IsTable h.homes → Runs p h xs last → Runs p h ys last' → DoesOwn event p h client xs → DoesOwn event p h client ys → xs ≡ ys
own_fixed event known p h client last last' xs ys sound r s x y =
    let u = Session (Called x.call) in
    let a = after_head p h last xs u (x.asked ++ x.ended) x.is r in
    let b = after_head p h last' ys (Session (Called y.call)) (y.asked ++ y.ended) y.is s in
    let same : x.call ≡ y.call = same_call p h x.call y.call a.0 b.0 (x.of ∙ sym y.of) (x.event_is ∙ sym y.event_is) (subst IsKnown (sym x.event_is) (known h.at)) in
    let mid = next h u in
    let asks' : PassesWillOn mid x.call.reaction.ask y.asked = subst (λ (c : SessionStep). PassesWillOn (next h (Session (Called c))) c.reaction.ask y.asked) (sym same) y.asks in
    let ran : Runs p mid y.asked y.held = subst (λ (c : SessionStep). Runs p (next h (Session (Called c))) y.asked y.held) (sym same) y.runs in
    let ends' : cond x.call.reaction.over (EndsAlone p y.held client y.ended) (y.ended ≡ []) = subst (λ (c : SessionStep). cond c.reaction.over (EndsAlone p y.held client y.ended) (y.ended ≡ [])) (sym same) y.ends in
    two_heads p h last last' xs ys u (Session (Called y.call)) (x.asked ++ x.ended) (y.asked ++ y.ended) x.is y.is (ap (λ (c : SessionStep). Session (Called c)) same) r s (λ r2 s2.
    two_parts p mid last last' (x.asked ++ x.ended) (y.asked ++ y.ended) x.asked x.ended y.asked y.ended refl refl r2 s2
    (λ k l ra rb. asked_fixed x.call.reaction.ask p mid k l x.asked y.asked sound ra rb x.asks asks')
    (λ m ra rb rc rd. (
    let hx : x.held ≡ m = runs_determined p x.asked mid x.held m x.runs ra in
    let hy : y.held ≡ m = runs_determined p y.asked mid y.held m ran rb in
    ended_fixed x.call.reaction.over p m client x.ended y.ended (is_table_on p x.asked mid m ra sound)
    (subst (λ v. cond x.call.reaction.over (EndsAlone p v client x.ended) (x.ended ≡ [])) hx x.ends) (subst (λ v. cond x.call.reaction.over (EndsAlone p v client y.ended) (y.ended ≡ [])) hy ends'))))

pub own_by : (has : Bool) (event : ℕ → Event) → ((at : ℕ) → IsKnown (event at)) → (p : Place) (h : HeldView) (client : List ℕ) (last last' : HeldView) (xs ys : List Act) → IsTable h.homes → Runs p h xs last → Runs p h ys last'
    → cond has (DoesOwn event p h client xs) (xs ≡ []) → cond has (DoesOwn event p h client ys) (ys ≡ []) → xs ≡ ys
own_by true event known p h client last last' xs ys sound r s x y = own_fixed event known p h client last last' xs ys sound r s x y
own_by false event known p h client last last' xs ys sound r s x y = x ∙ sym y

tick_fixed : (p : Place) (h : HeldView) (d : Due) (last last' : HeldView) (xs ys : List Act) → IsTable h.homes → Runs p h xs last → Runs p h ys last' → TickIsDone p h d xs → TickIsDone p h d ys → xs ≡ ys
tick_fixed p h d last last' xs ys sound r s x y = own_by (has_session d.1 h) ticks (λ at. tt) p h d.1 last last' xs ys sound r s x y

-- ---- a Keep Alive that has run out
times_fixed : (p : Place) (h : HeldView) (d : Due) (last last' : HeldView) (xs ys : List Act) → IsTable h.homes → Runs p h xs last → Runs p h ys last' → TimesOut h d xs → TimesOut h d ys → xs ≡ ys
times_fixed p h d last last' xs ys sound r s x y =
    let shut = Connection (Closed d.0) in
    let out = Out (Close d.0) in
    let end = Session (Called x.leave) ∷ [] in
    let end' = Session (Called y.leave) ∷ [] in
    let u = Session (Called x.call) in
    let mid = next h u in
    let a = after_head p h last xs u (shut ∷ out ∷ end) x.is r in
    let b = after_head p h last' ys (Session (Called y.call)) (shut ∷ out ∷ end') y.is s in
    let same : x.call ≡ y.call = same_call p h x.call y.call a.0 b.0 (x.of ∙ sym y.of) (x.event ∙ sym y.event) (subst IsKnown (sym x.event) tt) in
    two_heads p h last last' xs ys u (Session (Called y.call)) (shut ∷ out ∷ end) (shut ∷ out ∷ end') x.is y.is (ap (λ (c : SessionStep). Session (Called c)) same) r s (λ r2 s2.
    two_heads p mid last last' (shut ∷ out ∷ end) (shut ∷ out ∷ end') shut shut (out ∷ end) (out ∷ end') refl refl refl r2 s2 (λ r3 s3.
    two_heads p (next mid shut) last last' (out ∷ end) (out ∷ end') out out end end' refl refl refl r3 s3 (λ r4 s4. (
    let c = after_head p (next mid shut) last end (Session (Called x.leave)) [] refl r4 in
    let e = after_head p (next mid shut) last' end' (Session (Called y.leave)) [] refl s4 in
    ap (λ (v : SessionStep). Session (Called v) ∷ [])
    (same_call p (next mid shut) x.leave y.leave c.0 e.0 (x.leave_of ∙ sym y.leave_of) (x.leave_event ∙ sym y.leave_event) (subst IsKnown (sym x.leave_event) tt))))))

-- ---- in turn
in_order_runs : (One : HeldView → Due → List Act → Type 0) (p : Place) (ds : List Due) (h last : HeldView) (acts : List Act) → InOrder One p ds h acts last → Runs p h acts last
in_order_runs One p [] h last acts x = subst (λ zs. Runs p h zs last) (sym x.0) x.1
in_order_runs One p (d ∷ ds) h last acts x = subst (λ zs. Runs p h zs last) (sym x.3) (runs_join p x.0 x.2 h x.1 last x.4 (in_order_runs One p ds x.1 last x.2 x.6))

module _ (One : HeldView → Due → List Act → Type 0) (p : Place) (f : (h : HeldView) (d : Due) (m n : HeldView) (xs ys : List Act) → IsTable h.homes → Runs p h xs m → Runs p h ys n → One h d xs → One h d ys → xs ≡ ys) where
  in_order_fixed : (ds : List Due) (h m n last last' : HeldView) (xs ys : List Act) → IsTable h.homes → Runs p h xs m → Runs p h ys n → InOrder One p ds h xs last → InOrder One p ds h ys last' → xs ≡ ys
  in_order_fixed [] h m n last last' xs ys sound r s x y = x.0 ∙ sym y.0
  in_order_fixed (d ∷ ds) h m n last last' xs ys sound r s x y =
      two_parts p h m n xs ys x.0 x.2 y.0 y.2 x.3 y.3 r s
      (λ k l ra rb. f h d k l x.0 y.0 sound ra rb x.5 y.5)
      (λ mid ra rb rc rd. (
      let hx : x.1 ≡ mid = runs_determined p x.0 h x.1 mid x.4 ra in
      let hy : y.1 ≡ mid = runs_determined p y.0 h y.1 mid y.4 rb in
      in_order_fixed ds mid m n last last' x.2 y.2 (is_table_on p x.0 h mid ra sound) rc rd (subst (λ w. InOrder One p ds w x.2 last) hx x.6) (subst (λ w. InOrder One p ds w y.2 last') hy y.6)))

-- ---- what is due
pub due_fixed : (p : Place) (h m n last last' : HeldView) (xs ys : List Act) → IsTable h.homes → Runs p h xs m → Runs p h ys n → AllDueIsDone p h xs last → AllDueIsDone p h ys last' → xs ≡ ys
due_fixed p h m n last last' xs ys sound r s x y =
    two_parts p h m n xs ys x.outs (x.wills ++ x.ends) y.outs (y.wills ++ y.ends) x.is y.is r s
    (λ k l ra rb. in_order_fixed TimesOut p (times_fixed p) (run_outs h.sessions h.at) h k l x.mid y.mid x.outs y.outs sound ra rb x.outs_are y.outs_are)
    (λ mid ra rb rc rd. (
    let hx : x.mid ≡ mid = runs_determined p x.outs h x.mid mid (in_order_runs TimesOut p (run_outs h.sessions h.at) h x.mid x.outs x.outs_are) ra in
    let hy : y.mid ≡ mid = runs_determined p y.outs h y.mid mid (in_order_runs TimesOut p (run_outs h.sessions h.at) h y.mid y.outs y.outs_are) rb in
    let One = TickIsDone p in
    let wx : InOrder One p (wills_due mid.sessions mid.at) mid x.wills x.mid2 = subst (λ w. InOrder One p (wills_due w.sessions w.at) w x.wills x.mid2) hx x.wills_are in
    let wy : InOrder One p (wills_due mid.sessions mid.at) mid y.wills y.mid2 = subst (λ w. InOrder One p (wills_due w.sessions w.at) w y.wills y.mid2) hy y.wills_are in
    let sound' = is_table_on p x.outs h mid ra sound in
    two_parts p mid m n (x.wills ++ x.ends) (y.wills ++ y.ends) x.wills x.ends y.wills y.ends refl refl rc rd
    (λ k l ta tb. in_order_fixed One p (tick_fixed p) (wills_due mid.sessions mid.at) mid k l x.mid2 y.mid2 x.wills y.wills sound' ta tb wx wy)
    (λ mid2 ta tb tc td. (
    let kx : x.mid2 ≡ mid2 = runs_determined p x.wills mid x.mid2 mid2 (in_order_runs One p (wills_due mid.sessions mid.at) mid x.mid2 x.wills wx) ta in
    let ky : y.mid2 ≡ mid2 = runs_determined p y.wills mid y.mid2 mid2 (in_order_runs One p (wills_due mid.sessions mid.at) mid y.mid2 y.wills wy) tb in
    in_order_fixed One p (tick_fixed p) (ends_due mid2.sessions mid2.at) mid2 m n last last' x.ends y.ends (is_table_on p x.wills mid mid2 ta sound') tc td
    (subst (λ w. InOrder One p (ends_due w.sessions w.at) w x.ends last) kx x.ends_are) (subst (λ w. InOrder One p (ends_due w.sessions w.at) w y.ends last') ky y.ends_are)))))

-- ---- a client that goes away
pub closed_fixed : (has : Bool) (p : Place) (h : HeldView) (client : List ℕ) (last last' : HeldView) (xs ys : List Act) → Runs p h xs last → Runs p h ys last' → cond has (IsClosed h client xs) (xs ≡ []) → cond has (IsClosed h client ys) (ys ≡ []) → xs ≡ ys
closed_fixed true p h client last last' xs ys r s x y =
    let a = after_head p h last xs (Session (Called x.call)) [] x.is r in
    let b = after_head p h last' ys (Session (Called y.call)) [] y.is s in
    x.is ∙ ap (λ (v : SessionStep). Session (Called v) ∷ []) (same_call p h x.call y.call a.0 b.0 (x.of ∙ sym y.of) (x.event ∙ sym y.event) (subst IsKnown (sym x.event) tt)) ∙ sym y.is
closed_fixed false p h client last last' xs ys r s x y = x ∙ sym y

due_by : (is_due : Bool) (p : Place) (h : HeldView) (client : List ℕ) (last last' : HeldView) (xs ys : List Act) → IsTable h.homes → Runs p h xs last → Runs p h ys last'
    → cond is_due (OwnIsDone ticks p h client xs) (xs ≡ []) → cond is_due (OwnIsDone ticks p h client ys) (ys ≡ []) → xs ≡ ys
due_by true p h client last last' xs ys sound r s x y = own_by (has_session client h) ticks (λ at. tt) p h client last last' xs ys sound r s x y
due_by false p h client last last' xs ys sound r s x y = x ∙ sym y

pub parts_fixed : (p : Place) (h : HeldView) (client : List ℕ) (last last' : HeldView) (xs ys : List Act) → IsTable h.homes → Runs p h xs last → Runs p h ys last' → Parts p h client xs → Parts p h client ys → xs ≡ ys
parts_fixed p h client last last' xs ys sound r s x y =
    two_parts p h last last' xs ys x.told (x.wills ++ x.ends) y.told (y.wills ++ y.ends) x.is y.is r s
    (λ k l ra rb. closed_fixed (has_session client h) p h client k l x.told y.told ra rb x.tells y.tells)
    (λ mid ra rb rc rd. (
    let hx : x.left ≡ mid = runs_determined p x.told h x.left mid x.leaves ra in
    let hy : y.left ≡ mid = runs_determined p y.told h y.left mid y.leaves rb in
    let wx : cond (will_is_due client mid) (OwnIsDone ticks p mid client x.wills) (x.wills ≡ []) = subst (λ v. cond (will_is_due client v) (OwnIsDone ticks p v client x.wills) (x.wills ≡ [])) hx x.wills_are in
    let wy : cond (will_is_due client mid) (OwnIsDone ticks p mid client y.wills) (y.wills ≡ []) = subst (λ v. cond (will_is_due client v) (OwnIsDone ticks p v client y.wills) (y.wills ≡ [])) hy y.wills_are in
    let nx : Runs p mid x.wills x.held = subst (λ v. Runs p v x.wills x.held) hx x.runs in
    let ny : Runs p mid y.wills y.held = subst (λ v. Runs p v y.wills y.held) hy y.runs in
    let sound' = is_table_on p x.told h mid ra sound in
    two_parts p mid last last' (x.wills ++ x.ends) (y.wills ++ y.ends) x.wills x.ends y.wills y.ends refl refl rc rd
    (λ k l ta tb. due_by (will_is_due client mid) p mid client k l x.wills y.wills sound' ta tb wx wy)
    (λ mid2 ta tb tc td. (
    let kx : x.held ≡ mid2 = runs_determined p x.wills mid x.held mid2 nx ta in
    let ky : y.held ≡ mid2 = runs_determined p y.wills mid y.held mid2 ny tb in
    due_by (end_is_due client mid2) p mid2 client last last' x.ends y.ends (is_table_on p x.wills mid mid2 ta sound') tc td
    (subst (λ v. cond (end_is_due client v) (OwnIsDone ticks p v client x.ends) (x.ends ≡ [])) kx x.ends_are) (subst (λ v. cond (end_is_due client v) (OwnIsDone ticks p v client y.ends) (y.ends ≡ [])) ky y.ends_are)))))

pub closes_fixed : (p : Place) (h : HeldView) (c : ℕ) (client : List ℕ) (last last' : HeldView) (xs ys : List Act) → IsTable h.homes → Runs p h xs last → Runs p h ys last' → ClosesOn p h c client xs → ClosesOn p h c client ys → xs ≡ ys
closes_fixed p h c client last last' xs ys sound r s x y =
    let shut = Connection (Closed c) in
    let out = Out (Close c) in
    two_heads p h last last' xs ys shut shut (out ∷ x.0) (out ∷ y.0) x.1 y.1 refl r s (λ r2 s2.
    two_heads p (next h shut) last last' (out ∷ x.0) (out ∷ y.0) out out x.0 y.0 refl refl refl r2 s2 (λ r3 s3.
    parts_fixed p (next h shut) client last last' x.0 y.0 sound r3 s3 x.2 y.2))

pub leaves_fixed : (client : Option (List ℕ)) (p : Place) (h : HeldView) (c : ℕ) (last last' : HeldView) (xs ys : List Act) → IsTable h.homes → Runs p h xs last → Runs p h ys last' → LeavesFrom p h c client xs → LeavesFrom p h c client ys → xs ≡ ys
leaves_fixed None p h c last last' xs ys sound r s x y = x ∙ sym y
leaves_fixed (Some client) p h c last last' xs ys sound r s x y =
    let shut = Connection (Closed c) in
    two_heads p h last last' xs ys shut shut x.0 y.0 x.1 y.1 refl r s (λ r2 s2. parts_fixed p (next h shut) client last last' x.0 y.0 sound r2 s2 x.2 y.2)
