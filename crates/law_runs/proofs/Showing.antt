-- What a node holds of a client's subscriptions, by its operations.
use Rattle.std.proofs.Common.{◌≡◌, ◌⊎◌, inl, inr, ℕ, ◌==◌, ◌&&◌, ◌||◌, not, nat_lt, Bool, true, false, cond, is_some, length, T, List, [], ◌∷◌, Some, None, refl, sym, ap, ◌∙◌, subst}
use Rattle.std.specs.List.{list_any, filter}
use Rattle.std.specs.FinSet as set
use Rattle.std.specs.FinMap.Entries.{below_all, is_sorted}
use Rattle.std.specs.Cmp.Lexicographic.{bytes_decides}
use Rattle.std.specs.Ordering.{eq_by_cmp, is_eq, is_lt}
use Rattle.std.proofs.lemmas.Bool.{eqb-true, eqb-false, ltb-true, ltb-false}
use Rattle.std.proofs.lemmas.Cmp.{tied_itself}
use Rattle.causal_context.specs.Dots.{Dot, dot_cmp, dot_cmp_total}
use Rattle.mqtt_fields.specs.Options.{retain_handling_of}
use Rattle.mqtt_message.specs.Identifiers.{identifiers_of}
use Rattle.mqtt_packets.specs.declared.subscribe.SubscribeFilter.{SubscribeFilter}
use Rattle.subscription_set.specs.declared.entry.Entry.{Entry}
use Rattle.subscription_set.specs.Entries.{is_of, same_text}
use Rattle.subscription_set.specs.Sorted.{Rises}
use Rattle.subscription_set.specs.Statuses.{Statuses}
use Rattle.subscription_set.specs.Standing.{Entries, standing, is_latest, live, live_of, dots_of, any_of}
use Rattle.subscription_set.proofs.Latest.{any_one}
use Rattle.subscription_set.proofs.Lists.{contains-dots_in}
use Rattle.subscription_set.proofs.Places.{first_part, second_part}
use Rattle.subscription_set.proofs.Standings.{rises-standing}
use Rattle.replica_store.specs.declared.operation.Operation.{Operation}
use Rattle.replica_store.specs.Operations.{HaveOwnDots}
use Rattle.replica_store.specs.States.{State}
use Rattle.replica_store.specs.StateOf.{IsStateOf}
use Rattle.replica_store.proofs.Views.{cover_is, live_is}
use Rattle.node_work.specs.declared.granted.Asked.{Asked}
use Rattle.node_work.specs.declared.granted.Granted.{Granted}
use Rattle.node_work.specs.Acts.{Act}
use Rattle.node_work.specs.View.{Place, HeldView}
use Rattle.node_clients.specs.Subscribing.{has_most, stands}
use Rattle.law_runs.specs.Filters.{IsSubscribedTo, HasLive, IsNotTooMany, AsksForNone, FilterReply, IsFilterAnswered}
use Rattle.law_runs.proofs.Granting.{IsTold}

both_parts : (a b : Bool) → T a → T b → T (a && b)
both_parts true b p q = q
both_parts false b p q = p

and_first : (a b : Bool) → (a && b) ≡ true → a ≡ true
and_first true b e = refl
and_first false b e = cc

and_second : (a b : Bool) → (a && b) ≡ true → b ≡ true
and_second true b e = e
and_second false b e = cc

and_both : (a b : Bool) → a ≡ true → b ≡ true → (a && b) ≡ true
and_both true b e h = h
and_both false b e h = cc

not_true : (b : Bool) → not b ≡ true → b ≡ false
not_true true e = cc
not_true false e = refl

not_false : (b : Bool) → not b ≡ false → b ≡ true
not_false true e = refl
not_false false e = cc

-- ---- what is live rises by its dots
below_filter : (p : Dot × Entry → Bool) (x : Dot) (es : Entries) → T (below_all dot_cmp x es) → T (below_all dot_cmp x (filter p es))
below_filter p x [] h = tt
below_filter p x (e ∷ es) h = by (p e) (below_filter p x es (second_part (is_lt (dot_cmp x e.0)) (below_all dot_cmp x es) h))
  where
    by : (b : Bool) → T (below_all dot_cmp x (filter p es)) → T (below_all dot_cmp x (cond b (e ∷ filter p es) (filter p es)))
    by true rest = both_parts (is_lt (dot_cmp x e.0)) _ (first_part (is_lt (dot_cmp x e.0)) (below_all dot_cmp x es) h) rest
    by false rest = rest

rises_filter : (p : Dot × Entry → Bool) (es : Entries) → Rises dot_cmp es → Rises dot_cmp (filter p es)
rises_filter p [] h = tt
rises_filter p (e ∷ es) h = by (p e) (rises_filter p es (second_part (below_all dot_cmp e.0 es) (is_sorted dot_cmp es) h))
  where
    by : (b : Bool) → Rises dot_cmp (filter p es) → Rises dot_cmp (cond b (e ∷ filter p es) (filter p es))
    by true rest = both_parts (below_all dot_cmp e.0 (filter p es)) _ (below_filter p e.0 es (first_part (below_all dot_cmp e.0 es) (is_sorted dot_cmp es) h)) rest
    by false rest = rest

pub rises_live : (m : Statuses) → Rises dot_cmp (live m)
unfolding live
rises_live m = rises_filter (is_latest (standing m)) (standing m) (rises-standing m)

-- ---- a test that nothing passes
none_passes : (p : Entry → Bool) (r : Dot → Bool) (es : Entries) → list_any (λ x. p x.1) es ≡ false → list_any (λ x. p x.1 && r x.0) es ≡ false
none_passes p r [] e = refl
none_passes p r (x ∷ es) e = by (p x.1) (list_any (λ y. p y.1) es) e (none_passes p r es)
  where
    by : (a b : Bool) → (a || b) ≡ false → (b ≡ false → list_any (λ y. p y.1 && r y.0) es ≡ false) → ((a && r x.0) || list_any (λ y. p y.1 && r y.0) es) ≡ false
    by true b t f = absurd (let z : true ≡ false = t in cc)
    by false b t f = f t

module _ (O : List Operation) (s : State) (own : HaveOwnDots O) (is : IsStateOf O s) where
  subscribed_if : (client to : List ℕ) → any_of client (Some to) s.subscriptions ≡ true → IsSubscribedTo O client to
  subscribed_if client to e =
      let p : Entry → Bool = is_of client (Some to) in
      let es : Entries = standing s.subscriptions in
      let one = any_one (λ (x : Dot × Entry). p x.1) es e in
      let dot = one.0.0 in
      let itself : (p one.0.1 && eq_by_cmp dot_cmp dot dot) ≡ true = and_both (p one.0.1) _ one.1.1 (ap is_eq (tied_itself dot_cmp_total dot)) in
      let there : list_any (λ x. p x.1 && eq_by_cmp dot_cmp dot x.0) es ≡ true = one.1.0 (λ x. p x.1 && eq_by_cmp dot_cmp dot x.0) itself in
      let st = (cover_is O s own is client (Some to) dot).0 (contains-dots_in p es dot ∙ there) in (
        dot,
        st.0,
        st.1,
        sym ((bytes_decides client st.0.client).0 (and_first (same_text client st.0.client) (same_text to st.0.filter) st.2)),
        sym ((bytes_decides to st.0.filter).0 (and_second (same_text client st.0.client) (same_text to st.0.filter) st.2)),
      )

  new_if : (client to : List ℕ) → any_of client (Some to) s.subscriptions ≡ false → ¬ IsSubscribedTo O client to
  new_if client to none w =
      let p : Entry → Bool = is_of client (Some to) in
      let es : Entries = standing s.subscriptions in
      let passes : p w.1 ≡ true = and_both (same_text client w.1.client) _ ((bytes_decides client w.1.client).1 (sym w.3)) ((bytes_decides to w.1.filter).1 (sym w.4)) in
      let there : set.contains (dots_of client (Some to) s.subscriptions) w.0 ≡ true = (cover_is O s own is client (Some to) w.0).1 (w.1, w.2, passes) in
      let z : false ≡ true = sym (none_passes p (λ d. eq_by_cmp dot_cmp w.0 d) es none) ∙ sym (contains-dots_in p es w.0) ∙ there in
      absurd (cc z)

  has_live : (client : List ℕ) → HasLive O client (length (live_of client s.subscriptions))
  has_live client = (live s.subscriptions, record { once = rises_live s.subscriptions; each = λ dot entry. live_is O s own is dot entry }, refl)

  -- ---- Retain Handling
  abbrev AsksBy : List ℕ → SubscribeFilter → Bool → Type 0
  AsksBy client f asks = ((asks ≡ false) × AsksForNone O client f) ⊎ ((asks ≡ true) × (¬ AsksForNone O client f))

  asks_by : (client : List ℕ) (f : SubscribeFilter) (x : Asked) (a b stood : Bool) → (retain_handling_of f.options == 2) ≡ a → (retain_handling_of f.options == 1) ≡ b → any_of client (Some f.filter) s.subscriptions ≡ stood
      → AsksBy client f (is_some (cond (not a && not (b && stood)) (Some x) None))
  asks_by client f x true b stood never once st = inl (refl, inl (eqb-true (retain_handling_of f.options) 2 never))
  asks_by client f x false true true never once st = inl (refl, inr (eqb-true (retain_handling_of f.options) 1 once, subscribed_if client f.filter st))
  asks_by client f x false true false never once st =
      inr (refl, λ n. elim n [ inl k ↦ eqb-false (retain_handling_of f.options) 2 never k | inr k ↦ new_if client f.filter st k.1 ])
  asks_by client f x false false stood never once st =
      inr (refl, λ n. elim n [ inl k ↦ eqb-false (retain_handling_of f.options) 2 never k | inr k ↦ eqb-false (retain_handling_of f.options) 1 once k.0 ])

-- ---- what becomes of a filter
abbrev pub reply_of : SubscribeFilter → Granted → FilterReply
reply_of f g = record { filter = f; code = g.reason; asks = is_some g.asked }

module _ (O : List Operation) (h : HeldView) (own : HaveOwnDots O) (is : IsStateOf O h.store) where
  room_by : (client to : List ℕ) (stood : Bool) → stands client to h ≡ stood → (not stood && has_most client h.store) ≡ false → IsNotTooMany O client to
  room_by client to true st e = inl (subscribed_if O h.store own is client to st)
  room_by client to false st e =
      let n = length (live_of client h.store.subscriptions) in
      inr (n, has_live O h.store own is client, ltb-true n 1000 (not_false (nat_lt n 1000) e))

  pub is_answered : (p : Place) (client : List ℕ) (identifier : ℕ) (f : SubscribeFilter) (g : Granted) (acts : List Act) → IsTold p h client identifier f g acts → IsFilterAnswered O client identifier f (reply_of f g) acts
  is_answered p client identifier f g acts (inl d) = inl (d.0, (ap (λ (x : Granted). x.reason) d.1, ap (λ (x : Granted). is_some x.asked) d.1, d.2))
  is_answered p client identifier f g acts (inr (inl d)) =
      let n = length (live_of client h.store.subscriptions) in
      let many = ltb-false n 1000 (not_true (nat_lt n 1000) d.2) in
      inr (inl (
        d.0,
        (new_if O h.store own is client f.filter d.1, (n, has_live O h.store own is client, many)),
        (ap (λ (x : Granted). x.reason) d.3, ap (λ (x : Granted). is_some x.asked) d.3, d.4),
      ))
  is_answered p client identifier f g acts (inr (inr d)) =
      let stood = stands client f.filter h in
      let asked : Asked = record { filter = f.filter; options = f.options; identifiers = identifiers_of identifier } in
      inr (inr (
        d.0,
        room_by client f.filter stood refl d.1,
        (
          ap (λ (x : Granted). x.reason) d.2,
          subst (λ (x : Granted). AsksBy O h.store own is client f (is_some x.asked)) (sym d.2) (asks_by O h.store own is client f asked (retain_handling_of f.options == 2) (retain_handling_of f.options == 1) stood refl refl refl),
          (_, _, h.homes.version, d.3),
        ),
      ))
