-- Work is determined by what a node holds, in its place: what it comes to, and its acts.
use Rattle.std.proofs.Common.{◌≡◌, ℕ, ◌+◌, ◌<◌, ◌^◌, Bool, true, false, cond, List, [], ◌∷◌, ◌++◌, map as map_list, length, Option, Some, None, inl, inr, refl, sym, ap, subst, ◌∙◌}
use Rattle.std.specs.FinMap as map
use Rattle.std.proofs.lemmas.Bool.{cases_order}
use Rattle.bridge_frames.specs.declared.forward.Forward.{Forward}
use Rattle.bridge_frames.specs.declared.pick.Pick.{Pick}
use Rattle.home_table.specs.Homes.{IsHome}
use Rattle.home_table.specs.Table.{IsTable, Table}
use Rattle.home_table.proofs.HomeLaws.{home_alone}
use Rattle.bridge_routes.specs.declared.plain.PlainCopy.{PlainCopy as Copy}
use Rattle.bridge_routes.specs.declared.groups.GroupPick.{GroupPick}
use Rattle.bridge_routes.specs.Copies.{AreCopies, Counts, IsPlainFor, plain_copy, entries_in}
use Rattle.bridge_routes.specs.Deliveries.{offer_of}
use Rattle.bridge_routes.specs.Gathered.{by_client, by_group}
use Rattle.bridge_routes.specs.Picks.{ArePicks, IsSharedFor, pick_of, picked}
use Rattle.bridge_routes.proofs.Selecting.{selected_once}
use Rattle.bridge_routes.specs.declared.destinations.HomedPick.{HomedPick}
use Rattle.bridge_routes.specs.declared.destinations.Route.{Route}
use Rattle.bridge_routes.specs.Routes.{IsHomeOf, Pairwise, is_at, picks_at, route_of}
use Rattle.bridge_routes.specs.Routes as sent
use Rattle.bridge_routes.specs.Taken.{IsPicked, IsPickedCopy, copy_by}
use Rattle.mqtt_message.specs.declared.delivery.Delivery.{Delivery}
use Rattle.mqtt_message.specs.declared.message.Message.{Message}
use Rattle.replica_store.specs.declared.kept.Kept.{Kept}
use Rattle.replica_store.proofs.Answered.{one_answer}
use Rattle.law_sessions.specs.Runs.{Event}
use Rattle.law_sessions.proofs.OutcomeLaws.{one_outcome, ends_or_reacts}
use Rattle.session_table.specs.Seats.{Seat}
use Rattle.std.specs.List.{flat_map}
use Rattle.subscription_set.specs.Entries.{Entry}
use Rattle.subscription_set.specs.Standing.{Entries, live}
use Rattle.node_work.specs.declared.granted.Asked.{Asked}
use Rattle.node_work.specs.declared.granted.Granted.{Granted}
use Rattle.node_work.specs.Acts.{Act, Session, Runs}
use Rattle.node_work.specs.Calling.{CallsAt, Calls}
use Rattle.node_work.specs.Handed.{AreHanded, IsHanded, found, gone}
use Rattle.node_work.specs.Held.Sessions.{Called, has_session}
use Rattle.node_work.specs.Offers.{IsOffered, AreOffered}
use Rattle.node_work.specs.Passing.{AreRoutes, PicksAreHomed, IsPassed, others, pick_copy, seated, unseated}
use Rattle.node_work.specs.View.{Place, HeldView}
use Rattle.node_work.proofs.Homes.{is_table_on}
use Rattle.node_work.specs.Working.{Doing, Returns, Stops, Acting, Numbered, Looks, FindsWhere, If, Where, Then, InTurn, Each}
use Rattle.node_clients.specs.Ending.{IsAtHome}
use Rattle.node_clients.specs.Naming.{IsNextNumber, automatic}
use Rattle.node_clients.specs.Passing.{AreMade, IsHandedOver}
use Rattle.node_clients.specs.Subscribing.{AreOffers}

-- it comes to one thing, by one list of acts
abbrev pub Determined : {A : Type 0} → (Option A → Doing) → Type 0
Determined {A} P = (x y : Option A) (p : Place) (h : HeldView) (xs ys : List Act) → IsTable h.homes → P x p h xs → P y p h ys → (x ≡ y) × (xs ≡ ys)

-- ---- how relations are put together

pub runs_determined : (p : Place) (xs : List Act) (h m n : HeldView) → Runs p h xs m → Runs p h xs n → m ≡ n
runs_determined p [] h m n a b = a ∙ sym b
runs_determined p (x ∷ xs) h m n a b = runs_determined p xs a.0 m n a.2 (subst (λ v. Runs p v xs n) (b.1.1 ∙ sym a.1.1) b.2)

pub returns_determined : {A : Type 0} (x : A) → Determined (Returns x)
returns_determined x y z p h xs ys sound a b = (a.0 ∙ sym b.0, a.1 ∙ sym b.1)

pub stops_determined : {A : Type 0} → Determined {A = A} Stops
stops_determined y z p h xs ys sound a b = (a.0 ∙ sym b.0, a.1 ∙ sym b.1)

pub acting_determined : (act : Place → HeldView → Act) → Determined (Acting act)
acting_determined act y z p h xs ys sound a b = (a.0 ∙ sym b.0, a.1 ∙ sym b.1)

numbered_by : (at_end : Bool) (act : Act) (x y : Option (Unit {0})) (xs ys : List Act)
    → cond at_end ((x ≡ None) × (xs ≡ [])) ((x ≡ Some tt) × (xs ≡ act ∷ [])) → cond at_end ((y ≡ None) × (ys ≡ [])) ((y ≡ Some tt) × (ys ≡ act ∷ [])) → (x ≡ y) × (xs ≡ ys)
numbered_by true act x y xs ys a b = (a.0 ∙ sym b.0, a.1 ∙ sym b.1)
numbered_by false act x y xs ys a b = (a.0 ∙ sym b.0, a.1 ∙ sym b.1)

pub numbered_determined : (at_end : Place → HeldView → Bool) (act : Place → HeldView → Act) → Determined (Numbered at_end act)
numbered_determined at_end act x y p h xs ys sound a b = numbered_by (at_end p h) (act p h) x y xs ys a b

pub looks_determined : {A B : Type 0} (see : Place → HeldView → A) (P : A → Option B → Doing) → ((x : A) → Determined (P x)) → Determined (Looks see P)
looks_determined see P d x y p h xs ys sound a b = d (see p h) x y p h xs ys sound a b

-- one thing is found
abbrev pub IsAlone : {A : Type 0} → (Place → HeldView → A → Type 0) → Type 0
IsAlone {A} Is = (p : Place) (h : HeldView) (x y : A) → IsTable h.homes → Is p h x → Is p h y → x ≡ y

pub finds_determined : {A B : Type 0} (Is : Place → HeldView → A → Type 0) (P : A → Option B → Doing) → IsAlone Is → ((x : A) → Determined (P x)) → Determined (FindsWhere Is P)
finds_determined Is P alone d x y p h xs ys sound a b =
    d a.0 x y p h xs ys sound a.2 (subst (λ v. P v y p h ys) (sym (alone p h a.0 b.0 sound a.1 b.1)) b.2)

pub if_determined : {A : Type 0} (t : Bool) (P Q : Option A → Doing) → Determined P → Determined Q → Determined (If t P Q)
if_determined true P Q d e = d
if_determined false P Q d e = e

pub where_determined : {A : Type 0} (X : Type 0) (P Q : Option A → Doing) → Determined P → Determined Q → Determined (Where X P Q)
where_determined X P Q d e x y p h xs ys sound (inl a) (inl b) = d x y p h xs ys sound a.1 b.1
where_determined X P Q d e x y p h xs ys sound (inl a) (inr b) = absurd (b.0 a.0)
where_determined X P Q d e x y p h xs ys sound (inr a) (inl b) = absurd (a.0 b.0)
where_determined X P Q d e x y p h xs ys sound (inr a) (inr b) = e x y p h xs ys sound a.1 b.1

pub then_determined : {A B : Type 0} (P : Option A → Doing) (Q : A → Option B → Doing) → Determined P → ((x : A) → Determined (Q x)) → Determined (Then P Q)
then_determined P Q d e x y p h xs ys sound (inl a) (inl b) = (a.0 ∙ sym b.0, (d None None p h xs ys sound a.1 b.1).1)
then_determined P Q d e x y p h xs ys sound (inl a) (inr b) = let z : None ≡ Some b.0 = (d None (Some b.0) p h xs b.1 sound a.1 b.4).0 in cc
then_determined P Q d e x y p h xs ys sound (inr a) (inl b) = let z : Some a.0 ≡ None = (d (Some a.0) None p h a.1 ys sound a.4 b.1).0 in cc
then_determined P Q d e x y p h xs ys sound (inr a) (inr b) =
    let first = d (Some a.0) (Some b.0) p h a.1 b.1 sound a.4 b.4 in
    let same : a.0 ≡ b.0 = let z = first.0 in cc in
    let mid : a.2 ≡ b.2 = runs_determined p a.1 h a.2 b.2 a.5 (subst (λ zs. Runs p h zs b.2) (sym first.1) b.5) in
    let rest : Q a.0 y p a.2 b.3 = subst (λ v. Q a.0 y p v b.3) (sym mid) (subst (λ v. Q v y p b.2 b.3) (sym same) b.6) in
    let second = e a.0 x y p a.2 a.3 b.3 (is_table_on p a.1 h a.2 a.5 sound) a.6 rest in
    (second.0, a.7 ∙ ap (λ zs. zs ++ a.3) first.1 ∙ ap (λ zs. b.1 ++ zs) second.1 ∙ sym b.7)

pub in_turn_determined : {A B : Type 0} (One : A → Option B → Doing) → ((x : A) → Determined (One x)) → (xs : List A) (given : List B) → Determined (InTurn One xs given)
in_turn_determined One d [] given = returns_determined given
in_turn_determined One d (x ∷ xs) given = then_determined (One x) (λ y. InTurn One xs (given ++ y ∷ [])) (d x) (λ y. in_turn_determined One d xs (given ++ y ∷ []))

pub each_determined : {A : Type 0} (One : A → Option (Unit {0}) → Doing) → ((x : A) → Determined (One x)) → (xs : List A) → Determined (Each One xs)
each_determined One d [] = returns_determined tt
each_determined One d (x ∷ xs) = then_determined (One x) (λ _. Each One xs) (d x) (λ _. each_determined One d xs)

-- ---- a call of a session

calls_at_determined : (client : List ℕ) (event : ℕ → Event) (on : Option ℕ → Option ℕ) (found : Option Seat) → Determined (CallsAt client event on found)
calls_at_determined client event on None x y p h xs ys sound a b = (a.0 ∙ sym b.0, a.1 ∙ sym b.1)
calls_at_determined client event on (Some seat) x y p h xs ys sound (inl a) (inl b) = (a.0 ∙ sym b.0, a.2 ∙ sym b.2)
calls_at_determined client event on (Some seat) x y p h xs ys sound (inl a) (inr b) = absurd (ends_or_reacts (event h.at) seat.session b.1 b.0 a.1 b.3)
calls_at_determined client event on (Some seat) x y p h xs ys sound (inr a) (inl b) = absurd (ends_or_reacts (event h.at) seat.session a.1 a.0 b.1 a.3)
calls_at_determined client event on (Some seat) x y p h xs ys sound (inr a) (inr b) =
    let same = one_outcome (event h.at) seat.session a.0 b.0 a.1 b.1 a.3 b.3 in (
      a.2 ∙ ap Some same.0 ∙ sym b.2,
      a.4 ∙ (λ i. Session (Called (record { client = client; on = on seat.connection; at = h.at; event = event h.at; reaction = same.0 i; after = same.1 i })) ∷ []) ∙ sym b.4,
    )

pub calls_determined : (client : List ℕ) (event : ℕ → Event) (on : Option ℕ → Option ℕ) → Determined (Calls client event on)
calls_determined client event on = looks_determined _ _ (calls_at_determined client event on)

-- ---- what is found

-- the copies of a message
copies_once : (live : Entries) (m : Message) (xs ys : List Copy) → AreCopies live m xs → AreCopies live m ys → xs ≡ ys
copies_once live m xs ys a b = a.2 ∙ ap (λ es. map_list (plain_copy m) (by_client es)) (selected_once (Counts m) (entries_in live) a.0 b.0 a.1 b.1) ∙ sym b.2

picks_once : (turn : ℕ) (live : Entries) (m : Message) (xs ys : List GroupPick) → ArePicks turn live m xs → ArePicks turn live m ys → xs ≡ ys
picks_once turn live m xs ys a b = a.2 ∙ ap (λ es. flat_map (λ g. pick_of m (picked turn g.1)) (by_group es)) (selected_once (IsSharedFor m) (entries_in live) a.0 b.0 a.1 b.1) ∙ sym b.2

homed_once : (p : Place) (h : HeldView) (picks : List GroupPick) (xs ys : List Copy) → PicksAreHomed p h picks xs → PicksAreHomed p h picks ys → xs ≡ ys
homed_once p h picks xs ys a b = a.2 ∙ ap (map_list pick_copy) (selected_once (λ (x : GroupPick). IsHome h.homes x.client p.id) picks a.0 b.0 a.1 b.1) ∙ sym b.2

-- what is paired with a list, place by place
pairs_once : {A B : Type 0} (P : A → B → Type 0) → ((x : A) (y z : B) → P x y → P x z → y ≡ z) → (xs : List A) (ys zs : List B) → Pairwise P xs ys → Pairwise P xs zs → ys ≡ zs
pairs_once P one [] [] [] a b = refl
pairs_once P one [] [] (z ∷ zs) a b = absurd b
pairs_once P one [] (y ∷ ys) zs a b = absurd a
pairs_once P one (x ∷ xs) [] zs a b = absurd a
pairs_once P one (x ∷ xs) (y ∷ ys) [] a b = absurd b
pairs_once P one (x ∷ xs) (y ∷ ys) (z ∷ zs) a b = λ i. one x y z a.0 b.0 i ∷ pairs_once P one xs ys zs a.1 b.1 i

-- where the clients of subscriptions and picks are at home, and what goes there
module _ (t : Table) (sound : IsTable t) where
  homes_once : (matching : List Entry) (xs ys : List ℕ) → Pairwise (IsHomeOf t) matching xs → Pairwise (IsHomeOf t) matching ys → xs ≡ ys
  homes_once matching xs ys a b = pairs_once (IsHomeOf t) (λ x y z. home_alone t x.client y z sound) matching xs ys a b

  homed_pick_once : (x : GroupPick) (y z : HomedPick) → sent.IsHomed t x y → sent.IsHomed t x z → y ≡ z
  homed_pick_once x y z a b = let home = home_alone t x.client y.home z.home sound a.1 b.1 in λ i. record { pick = (a.0 ∙ sym b.0) i; home = home i }

  homed_picks_once : (picks : List GroupPick) (xs ys : List HomedPick) → Pairwise (sent.IsHomed t) picks xs → Pairwise (sent.IsHomed t) picks ys → xs ≡ ys
  homed_picks_once picks xs ys a b = pairs_once (sent.IsHomed t) homed_pick_once picks xs ys a b

routes_once : (p : Place) (h : HeldView) (matching : List Entry) (picks : List GroupPick) (m : Message) (xs ys : List (ℕ × Route)) → IsTable h.homes → AreRoutes p h matching picks m xs → AreRoutes p h matching picks m ys → xs ≡ ys
routes_once p h matching picks m xs ys sound a b =
    let homes = homes_once h.homes sound matching a.0.homes.items b.0.homes.items a.1.0 b.1.0 in
    let at = homed_picks_once h.homes sound picks a.0.picks.items b.0.picks.items a.1.1 b.1.1 in
    a.2 ∙ (λ i. map_list (λ peer. (peer, route_of (record { plain = is_at peer (homes i); picks = picks_at peer (at i); message = m }))) (others p)) ∙ sym b.2

passed_once : (p : Place) (h : HeldView) (m : Message) (xs ys : List Copy) (j k : ℕ) (rs ss : List (ℕ × Route)) → IsTable h.homes → IsPassed p h m xs j rs → IsPassed p h m ys k ss → (xs ≡ ys) × (j ≡ k) × (rs ≡ ss)
passed_once p h m xs ys j k rs ss sound a b =
    let plain : a.plain ≡ b.plain = copies_once (live h.store.subscriptions) m a.plain b.plain a.are_copies b.are_copies in
    let picks : a.picks ≡ b.picks = picks_once h.turn (live h.store.subscriptions) m a.picks b.picks a.are_picks b.are_picks in
    let homed : a.homed ≡ b.homed = homed_once p h b.picks a.homed b.homed (subst (λ ps. PicksAreHomed p h ps a.homed) picks a.are_here) b.are_here in
    let matching : a.matching ≡ b.matching = selected_once (IsPlainFor m) (entries_in (live h.store.subscriptions)) a.matching b.matching a.are_matching b.are_matching in
    let routes : AreRoutes p h b.matching b.picks m rs = subst (λ es. AreRoutes p h es b.picks m rs) matching (subst (λ ps. AreRoutes p h a.matching ps m rs) picks a.routes_are) in (
      a.copies_are ∙ (λ i. seated h (plain i) ++ seated h (homed i)) ∙ sym b.copies_are,
      a.lost_are ∙ ap (λ cs. length (unseated h cs)) homed ∙ sym b.lost_are,
      routes_once p h b.matching b.picks m rs ss sound routes b.routes_are,
    )

pub copies_alone : (m : Message) → IsAlone (AreMade m)
copies_alone m p h x y sound a b = let same = passed_once p h m x.0 y.0 x.1.0 y.1.0 x.1.1 y.1.1 sound a b in λ i. (same.0 i, (same.1 i, same.2 i))

-- the copies of a message from another node
plain_once : (plain : Bool) (live : Entries) (m : Message) (xs ys : List Copy) → cond plain (AreCopies live m xs) (xs ≡ []) → cond plain (AreCopies live m ys) (ys ≡ []) → xs ≡ ys
plain_once true live m xs ys a b = copies_once live m xs ys a b
plain_once false live m xs ys a b = a ∙ sym b

picked_once : (live : Entries) (m : Message) (p : Pick) (x y : Option Copy) → IsPickedCopy live m p x → IsPickedCopy live m p y → x ≡ y
picked_once live m p x y a b = a.2 ∙ ap (copy_by m p) (selected_once (IsPicked m p) (entries_in live) a.0 b.0 a.1 b.1) ∙ sym b.2

are_handed_once : (h : HeldView) (m : Forward) (xs ys : List Copy) (j k : ℕ) → AreHanded h m xs j → AreHanded h m ys k → (xs ≡ ys) × (j ≡ k)
are_handed_once h m xs ys j k a b =
    let own = live h.store.subscriptions in
    let plain : a.plain ≡ b.plain = plain_once m.plain own m.message a.plain b.plain a.are_copies b.are_copies in
    let picked : a.picked ≡ b.picked = pairs_once (IsPickedCopy own m.message) (picked_once own m.message) m.picks a.picked b.picked a.are_picked b.are_picked in (
      a.copies_are ∙ (λ i. seated h (plain i) ++ seated h (found (picked i))) ∙ sym b.copies_are,
      a.lost_are ∙ ap (λ cs. gone cs + length (unseated h (found cs))) picked ∙ sym b.lost_are,
    )

handed_once : (h : HeldView) (m : Forward) (xs ys : List Copy) (j k : ℕ) → IsHanded h m xs j → IsHanded h m ys k → (xs ≡ ys) × (j ≡ k)
handed_once h m xs ys j k (inl a) (inl b) = are_handed_once h m xs ys j k a.1 b.1
handed_once h m xs ys j k (inl a) (inr b) = absurd (b.0 a.0)
handed_once h m xs ys j k (inr a) (inl b) = absurd (a.0 b.0)
handed_once h m xs ys j k (inr a) (inr b) = (a.1 ∙ sym b.1, a.2 ∙ sym b.2)

pub handed_alone : (m : Forward) → IsAlone (IsHandedOver m)
handed_alone m p h x y sound a b = let same = handed_once h m x.0 y.0 x.1 y.1 a b in λ i. (same.0 i, same.1 i)

-- the home of a client
pub home_is_alone : (client : List ℕ) → IsAlone (IsAtHome client)
home_is_alone client p h x y sound a b = home_alone h.homes client x y sound a b

-- the next number of a client identifier
below_free : (named number : ℕ) (has : ℕ → Bool) → ((k : ℕ) → named < k → k < number → has k ≡ true) → (k : ℕ) → named < k → has k ≡ false → k < number → ⊥
below_free named number has taken k above free below = let z : has k ≡ true = taken k above below in cc

pub number_alone : IsAlone IsNextNumber
number_alone p h None None sound a b = refl
number_alone p h None (Some n) sound a b = absurd (below_free h.named (2 ^ 62) (λ k. has_session (automatic p.id k) h) a n b.0 b.2 b.1)
number_alone p h (Some m) None sound a b = absurd (below_free h.named (2 ^ 62) (λ k. has_session (automatic p.id k) h) b m a.0 a.2 a.1)
number_alone p h (Some m) (Some n) sound a b =
    elim (cases_order m n) [
      | inl same ↦ ap Some same
      | inr (inl less) ↦ absurd (below_free h.named n (λ k. has_session (automatic p.id k) h) b.3 m a.0 a.2 less)
      | inr (inr more) ↦ absurd (below_free h.named m (λ k. has_session (automatic p.id k) h) a.3 n b.0 b.2 more)
    ]

-- the retained messages that answer
offered_once : (at : ℕ) (kept : List (List ℕ × Kept)) (asked : Option Asked) (xs ys : List Delivery) → IsOffered at kept asked xs → IsOffered at kept asked ys → xs ≡ ys
offered_once at kept None xs ys a b = a ∙ sym b
offered_once at kept (Some asked) xs ys a b = a.2 ∙ ap (map_list (offer_of asked.options asked.identifiers)) (one_answer asked.filter at kept a.0 b.0 a.1 b.1) ∙ sym b.2

offers_once : (at : ℕ) (kept : List (List ℕ × Kept)) (gs : List Granted) (xs ys : List Delivery) → AreOffered at kept gs xs → AreOffered at kept gs ys → xs ≡ ys
offers_once at kept [] xs ys a b = a ∙ sym b
offers_once at kept (g ∷ gs) xs ys a b = a.4 ∙ (λ i. offered_once at kept g.asked a.0 b.0 a.2 b.2 i ++ offers_once at kept gs a.1 b.1 a.3 b.3 i) ∙ sym b.4

pub offers_alone : (grants : List Granted) → IsAlone (AreOffers grants)
offers_alone grants p h xs ys sound a b = offers_once h.at (map.entries h.store.retained) grants xs ys a.1 b.1
