-- What a SUBSCRIBE and an UNSUBSCRIBE come to is determined.
use Rattle.std.proofs.Common.{◌≡◌, ◌⊎◌, inl, inr, ℕ, ◌&&◌, not, Bool, true, false, cond, is_some, List, [], ◌∷◌, ◌++◌, Option, Some, None, refl, sym, ap, ◌∙◌, subst}
use Rattle.home_table.specs.Table.{IsTable}
use Rattle.mqtt_message.specs.declared.delivery.Delivery.{Delivery}
use Rattle.mqtt_message.specs.Identifiers.{identifiers_of}
use Rattle.mqtt_packets.specs.declared.subscribe.Subscribe.{Subscribe}
use Rattle.mqtt_packets.specs.declared.subscribe.SubscribeFilter.{SubscribeFilter}
use Rattle.mqtt_packets.specs.declared.unsubscribe.Unsubscribe.{Unsubscribe}
use Rattle.mqtt_sessions.specs.Reaction.{Reaction, nothing}
use Rattle.law_sessions.specs.Runs.{Event, answers, queues}
use Rattle.subscription_set.specs.Standing.{any_of}
use Rattle.node_work.specs.declared.granted.Granted.{Granted}
use Rattle.node_work.specs.Acts.{Act, Acknowledged, Session, Runs, next}
use Rattle.node_work.specs.Held.Sessions.{SessionStep, Called, has_session}
use Rattle.node_work.specs.View.{Place, HeldView}
use Rattle.node_work.proofs.Homes.{is_table_on}
use Rattle.node_clients.specs.Subscribing.{filter_refused, granted, granted_reasons, has_most, identifier_of, stands}
use Rattle.node_clients.proofs.Determined.{offers_alone, runs_determined}
use Rattle.law_runs.proofs.Splits.{runs_split}
use Rattle.law_steps.specs.Ending.{ClosesOn}
use Rattle.law_steps.specs.Requests.{InTurnAre, IsGrantedBy, IsRemovedBy, CallsOnce, IsCalledOnce, AreOfferedTo, OffersAlone, SubacksAlone, SubscribesAlone, UnsubacksAlone, UnsubscribesAlone}
use Rattle.law_steps.proofs.Calls.{IsKnown, after_head, same_call, two_heads, two_parts}
use Rattle.law_steps.proofs.EndingLaws.{closes_fixed}

-- ---- filters in turn
module _ {A B : Type 0} (One : Place → HeldView → A → B → List Act → Type 0) (one : (p : Place) (h : HeldView) (x : A) (y y' : B) (xs ys : List Act) → One p h x y xs → One p h x y' ys → (y ≡ y') × (xs ≡ ys)) where
  in_turn_fixed : (zs : List A) (p : Place) (h m n : HeldView) (before given given' : List B) (xs ys : List Act) → IsTable h.homes → Runs p h xs m → Runs p h ys n → InTurnAre One p h zs before given xs → InTurnAre One p h zs before given' ys → (given ≡ given') × (xs ≡ ys)
  in_turn_fixed [] p h m n before given given' xs ys sound r s a b = (a.0 ∙ sym b.0, a.1 ∙ sym b.1)
  in_turn_fixed (z ∷ zs) p h m n before given given' xs ys sound r s a b =
      let u = runs_split p a.1 a.3 h m (subst (λ w. Runs p h w m) a.4 r) in
      let v = runs_split p b.1 b.3 h n (subst (λ w. Runs p h w n) b.4 s) in
      let first = one p h z a.0 b.0 a.1 b.1 a.6 b.6 in
      let x_mid : a.2 ≡ u.0 = runs_determined p a.1 h a.2 u.0 a.5 u.1 in
      let y_mid : b.2 ≡ u.0 = runs_determined p b.1 h b.2 u.0 b.5 (subst (λ w. Runs p h w u.0) first.1 u.1) in
      let same : v.0 ≡ u.0 = runs_determined p b.1 h v.0 u.0 v.1 (subst (λ w. Runs p h w u.0) first.1 u.1) in
      let x_more : InTurnAre One p u.0 zs (before ++ a.0 ∷ []) given a.3 = subst (λ w. InTurnAre One p w zs (before ++ a.0 ∷ []) given a.3) x_mid a.7 in
      let y_more : InTurnAre One p u.0 zs (before ++ a.0 ∷ []) given' b.3 =
      subst (λ k. InTurnAre One p u.0 zs (before ++ k ∷ []) given' b.3) (sym first.0) (subst (λ w. InTurnAre One p w zs (before ++ b.0 ∷ []) given' b.3) y_mid b.7) in
      let rest = in_turn_fixed zs p u.0 m n (before ++ a.0 ∷ []) given given' a.3 b.3 (is_table_on p a.1 h u.0 u.1 sound) u.2 (subst (λ w. Runs p w b.3 n) same v.2) x_more y_more in
      (rest.0, a.4 ∙ (λ i. first.1 i ++ rest.1 i) ∙ sym b.4)

-- one by a test, by which it has one answer or another
by_full : {B : Type 0} (full : Bool) (x x' y y' : B) (zs ws xs ys : List Act) → cond full ((y ≡ x) × (xs ≡ zs)) ((y ≡ x') × (xs ≡ ws)) → cond full ((y' ≡ x) × (ys ≡ zs)) ((y' ≡ x') × (ys ≡ ws)) → (y ≡ y') × (xs ≡ ys)
by_full true x x' y y' zs ws xs ys a b = (a.0 ∙ sym b.0, a.1 ∙ sym b.1)
by_full false x x' y y' zs ws xs ys a b = (a.0 ∙ sym b.0, a.1 ∙ sym b.1)

granted_fixed : (client : List ℕ) (identifier : ℕ) (p : Place) (h : HeldView) (f : SubscribeFilter) (y y' : Granted) (xs ys : List Act) → IsGrantedBy client identifier p h f y xs → IsGrantedBy client identifier p h f y' ys → (y ≡ y') × (xs ≡ ys)
granted_fixed client identifier p h f y y' xs ys (inl a) (inl b) = (a.1 ∙ sym b.1, a.2 ∙ sym b.2)
granted_fixed client identifier p h f y y' xs ys (inl a) (inr b) = absurd (a.0 b.0)
granted_fixed client identifier p h f y y' xs ys (inr a) (inl b) = absurd (b.0 a.0)
granted_fixed client identifier p h f y y' xs ys (inr a) (inr b) =
    by_full (not (stands client f.filter h) && has_most client h.store) (filter_refused 151) (granted f (identifiers_of identifier) (stands client f.filter h)) y y' [] _ xs ys a.1 b.1

removed_by : (standing : Bool) (y y' : ℕ) (zs xs ys : List Act) → cond standing ((y ≡ 0) × (xs ≡ zs)) ((y ≡ 17) × (xs ≡ [])) → cond standing ((y' ≡ 0) × (ys ≡ zs)) ((y' ≡ 17) × (ys ≡ [])) → (y ≡ y') × (xs ≡ ys)
removed_by true y y' zs xs ys a b = (a.0 ∙ sym b.0, a.1 ∙ sym b.1)
removed_by false y y' zs xs ys a b = (a.0 ∙ sym b.0, a.1 ∙ sym b.1)

removed_fixed : (client : List ℕ) (p : Place) (h : HeldView) (text : List ℕ) (y y' : ℕ) (xs ys : List Act) → IsRemovedBy client p h text y xs → IsRemovedBy client p h text y' ys → (y ≡ y') × (xs ≡ ys)
removed_fixed client p h text y y' xs ys (inl a) (inl b) = (a.1 ∙ sym b.1, a.2 ∙ sym b.2)
removed_fixed client p h text y y' xs ys (inl a) (inr b) = absurd (a.0 b.0)
removed_fixed client p h text y y' xs ys (inr a) (inl b) = absurd (b.0 a.0)
removed_fixed client p h text y y' xs ys (inr a) (inr b) = removed_by (any_of client (Some text) h.store.subscriptions) y y' _ xs ys a.1 b.1

-- ---- a call
once_by : (has : Bool) (client : List ℕ) (event : Event) (p : Place) (h m n : HeldView) (r r' : Reaction) (xs ys : List Act) → IsKnown event → Runs p h xs m → Runs p h ys n
    → cond has (CallsOnce client event r xs) ((r ≡ nothing) × (xs ≡ [])) → cond has (CallsOnce client event r' ys) ((r' ≡ nothing) × (ys ≡ [])) → (r ≡ r') × (xs ≡ ys)
once_by true client event p h m n r r' xs ys known ra rb x y =
    let a = after_head p h m xs (Session (Called x.call)) [] x.is ra in
    let b = after_head p h n ys (Session (Called y.call)) [] y.is rb in
    let same : x.call ≡ y.call = same_call p h x.call y.call a.0 b.0 (x.of ∙ sym y.of) (x.event_is ∙ sym y.event_is) (subst IsKnown (sym x.event_is) known) in
    (sym x.reaction ∙ ap (λ (v : SessionStep). v.reaction) same ∙ y.reaction, x.is ∙ ap (λ (v : SessionStep). Session (Called v) ∷ []) same ∙ sym y.is)
once_by false client event p h m n r r' xs ys known ra rb x y = (x.0 ∙ sym y.0, x.1 ∙ sym y.1)

pub once_fixed : (client : List ℕ) (event : Event) (p : Place) (h m n : HeldView) (r r' : Reaction) (xs ys : List Act) → IsKnown event → Runs p h xs m → Runs p h ys n → IsCalledOnce h client event r xs → IsCalledOnce h client event r' ys → (r ≡ r') × (xs ≡ ys)
once_fixed client event p h m n r r' xs ys known ra rb x y = once_by (has_session client h) client event p h m n r r' xs ys known ra rb x y

-- ---- offers
offered_fixed : (ds : List Delivery) (p : Place) (h : HeldView) (client : List ℕ) (last last' : HeldView) (xs ys : List Act) → Runs p h xs last → Runs p h ys last' → AreOfferedTo p h client ds xs → AreOfferedTo p h client ds ys → xs ≡ ys
offered_fixed [] p h client last last' xs ys r s x y = x ∙ sym y
offered_fixed (d ∷ ds) p h client last last' xs ys r s x y =
    two_parts p h last last' xs ys x.1 x.3 y.1 y.3 x.4 y.4 r s
    (λ m n ra rb. (once_fixed client (queues d h.at) p h m n x.0 y.0 x.1 y.1 tt ra rb x.6 y.6).1)
    (λ mid ra rb rc rd. (
    let hx : x.2 ≡ mid = runs_determined p x.1 h x.2 mid x.5 ra in
    let hy : y.2 ≡ mid = runs_determined p y.1 h y.2 mid y.5 rb in
    offered_fixed ds p mid client last last' x.3 y.3 rc rd (subst (λ v. AreOfferedTo p v client ds x.3) hx x.7) (subst (λ v. AreOfferedTo p v client ds y.3) hy y.7)))

offers_fixed : (p : Place) (h : HeldView) (client : List ℕ) (packet : ℕ) (given : List Granted) (last last' : HeldView) (xs ys : List Act) → IsTable h.homes → Runs p h xs last → Runs p h ys last' → OffersAlone p h client packet given xs → OffersAlone p h client packet given ys → xs ≡ ys
offers_fixed p h client packet given last last' xs ys sound r s x y =
    let u = Acknowledged client packet h.at given x.0 in
    let v = Acknowledged client packet h.at given y.0 in
    let a = after_head p h last xs u x.1 x.2 r in
    let b = after_head p h last' ys v y.1 y.2 s in
    let same : x.0 ≡ y.0 = offers_alone given p h x.0 y.0 sound a.0 b.0 in
    two_heads p h last last' xs ys u v x.1 y.1 x.2 y.2 (ap (Acknowledged client packet h.at given) same) r s
    (λ r2 s2. offered_fixed x.0 p h client last last' x.1 y.1 r2 s2 x.3 (subst (λ ds. AreOfferedTo p h client ds y.1) (sym same) y.3))

-- ---- the answers
suback_by : (ends : Bool) (p : Place) (h : HeldView) (c : ℕ) (client : List ℕ) (packet : ℕ) (given : List Granted) (last last' : HeldView) (xs ys : List Act) → IsTable h.homes → Runs p h xs last → Runs p h ys last'
    → cond ends (ClosesOn p h c client xs) (OffersAlone p h client packet given xs) → cond ends (ClosesOn p h c client ys) (OffersAlone p h client packet given ys) → xs ≡ ys
suback_by true p h c client packet given last last' xs ys sound r s x y = closes_fixed p h c client last last' xs ys sound r s x y
suback_by false p h c client packet given last last' xs ys sound r s x y = offers_fixed p h client packet given last last' xs ys sound r s x y

suback_fixed : (p : Place) (h : HeldView) (c : ℕ) (client : List ℕ) (packet : ℕ) (given : List Granted) (last last' : HeldView) (xs ys : List Act) → IsTable h.homes → Runs p h xs last → Runs p h ys last' → SubacksAlone p h c client packet given xs → SubacksAlone p h c client packet given ys → xs ≡ ys
suback_fixed p h c client packet given last last' xs ys sound r s x y =
    let event = answers packet (granted_reasons given) in
    two_parts p h last last' xs ys x.told x.rest y.told y.rest x.is y.is r s
    (λ m n ra rb. (once_fixed client event p h m n x.reaction y.reaction x.told y.told tt ra rb x.tells y.tells).1)
    (λ mid ra rb rc rd. (
    let same : x.reaction ≡ y.reaction = (once_fixed client event p h mid mid x.reaction y.reaction x.told y.told tt ra rb x.tells y.tells).0 in
    let hx : x.left ≡ mid = runs_determined p x.told h x.left mid x.leaves ra in
    let hy : y.left ≡ mid = runs_determined p y.told h y.left mid y.leaves rb in
    suback_by (is_some x.reaction.end) p mid c client packet given last last' x.rest y.rest (is_table_on p x.told h mid ra sound) rc rd
    (subst (λ v. cond (is_some x.reaction.end) (ClosesOn p v c client x.rest) (OffersAlone p v client packet given x.rest)) hx x.follows)
    (subst (λ v. cond (is_some x.reaction.end) (ClosesOn p v c client y.rest) (OffersAlone p v client packet given y.rest)) hy
    (subst (λ (k : Reaction). cond (is_some k.end) (ClosesOn p y.left c client y.rest) (OffersAlone p y.left client packet given y.rest)) (sym same) y.follows))))

pub subscribes_fixed : (q : Subscribe) (p : Place) (h : HeldView) (c : ℕ) (client : List ℕ) (last last' : HeldView) (xs ys : List Act) → IsTable h.homes → Runs p h xs last → Runs p h ys last' → SubscribesAlone p h c client q xs → SubscribesAlone p h c client q ys → xs ≡ ys
subscribes_fixed q p h c client last last' xs ys sound r s x y =
    let One = IsGrantedBy client (identifier_of q) in
    let one = granted_fixed client (identifier_of q) in
    two_parts p h last last' xs ys x.own x.rest y.own y.rest x.is y.is r s
    (λ m n ra rb. (in_turn_fixed One one q.filters p h m n [] x.given y.given x.own y.own sound ra rb x.filters y.filters).1)
    (λ mid ra rb rc rd. (
    let same : x.given ≡ y.given = (in_turn_fixed One one q.filters p h mid mid [] x.given y.given x.own y.own sound ra rb x.filters y.filters).0 in
    let hx : x.mid ≡ mid = runs_determined p x.own h x.mid mid x.runs ra in
    let hy : y.mid ≡ mid = runs_determined p y.own h y.mid mid y.runs rb in
    suback_fixed p mid c client q.identifier x.given last last' x.rest y.rest (is_table_on p x.own h mid ra sound) rc rd (subst (λ v. SubacksAlone p v c client q.identifier x.given x.rest) hx x.gives)
    (subst (λ v. SubacksAlone p v c client q.identifier x.given y.rest) hy (subst (λ gs. SubacksAlone p y.mid c client q.identifier gs y.rest) (sym same) y.gives))))

unsuback_by : (ends : Bool) (p : Place) (h : HeldView) (c : ℕ) (client : List ℕ) (last last' : HeldView) (xs ys : List Act) → IsTable h.homes → Runs p h xs last → Runs p h ys last'
    → cond ends (ClosesOn p h c client xs) (xs ≡ []) → cond ends (ClosesOn p h c client ys) (ys ≡ []) → xs ≡ ys
unsuback_by true p h c client last last' xs ys sound r s x y = closes_fixed p h c client last last' xs ys sound r s x y
unsuback_by false p h c client last last' xs ys sound r s x y = x ∙ sym y

unsuback_fixed : (p : Place) (h : HeldView) (c : ℕ) (client : List ℕ) (packet : ℕ) (codes : List ℕ) (last last' : HeldView) (xs ys : List Act) → IsTable h.homes → Runs p h xs last → Runs p h ys last' → UnsubacksAlone p h c client packet codes xs → UnsubacksAlone p h c client packet codes ys → xs ≡ ys
unsuback_fixed p h c client packet codes last last' xs ys sound r s x y =
    let event = answers packet codes in
    two_parts p h last last' xs ys x.told x.rest y.told y.rest x.is y.is r s
    (λ m n ra rb. (once_fixed client event p h m n x.reaction y.reaction x.told y.told tt ra rb x.tells y.tells).1)
    (λ mid ra rb rc rd. (
    let same : x.reaction ≡ y.reaction = (once_fixed client event p h mid mid x.reaction y.reaction x.told y.told tt ra rb x.tells y.tells).0 in
    let hx : x.left ≡ mid = runs_determined p x.told h x.left mid x.leaves ra in
    let hy : y.left ≡ mid = runs_determined p y.told h y.left mid y.leaves rb in
    unsuback_by (is_some x.reaction.end) p mid c client last last' x.rest y.rest (is_table_on p x.told h mid ra sound) rc rd (subst (λ v. cond (is_some x.reaction.end) (ClosesOn p v c client x.rest) (x.rest ≡ [])) hx x.follows)
    (subst (λ v. cond (is_some x.reaction.end) (ClosesOn p v c client y.rest) (y.rest ≡ [])) hy (subst (λ (k : Reaction). cond (is_some k.end) (ClosesOn p y.left c client y.rest) (y.rest ≡ [])) (sym same) y.follows))))

pub unsubscribes_fixed : (u : Unsubscribe) (p : Place) (h : HeldView) (c : ℕ) (client : List ℕ) (last last' : HeldView) (xs ys : List Act) → IsTable h.homes → Runs p h xs last → Runs p h ys last' → UnsubscribesAlone p h c client u xs → UnsubscribesAlone p h c client u ys → xs ≡ ys
unsubscribes_fixed u p h c client last last' xs ys sound r s x y =
    let One = IsRemovedBy client in
    let one = removed_fixed client in
    two_parts p h last last' xs ys x.own x.rest y.own y.rest x.is y.is r s
    (λ m n ra rb. (in_turn_fixed One one u.filters p h m n [] x.codes y.codes x.own y.own sound ra rb x.filters y.filters).1)
    (λ mid ra rb rc rd. (
    let same : x.codes ≡ y.codes = (in_turn_fixed One one u.filters p h mid mid [] x.codes y.codes x.own y.own sound ra rb x.filters y.filters).0 in
    let hx : x.mid ≡ mid = runs_determined p x.own h x.mid mid x.runs ra in
    let hy : y.mid ≡ mid = runs_determined p y.own h y.mid mid y.runs rb in
    unsuback_fixed p mid c client u.identifier x.codes last last' x.rest y.rest (is_table_on p x.own h mid ra sound) rc rd (subst (λ v. UnsubacksAlone p v c client u.identifier x.codes x.rest) hx x.gives)
    (subst (λ v. UnsubacksAlone p v c client u.identifier x.codes y.rest) hy (subst (λ cs. UnsubacksAlone p y.mid c client u.identifier cs y.rest) (sym same) y.gives))))
