-- One more row says more, or no store has it.
use Rattle.std.proofs.Common.{◌≡◌, inl, inr, ℕ, Bool, true, false, cond, if◌then◌else◌, List, [], ◌∷◌, Option, Some, None, refl, sym, ap, subst, ◌∙◌, true≢false}
use Rattle.std.specs.Prelude.{◌==◌, option_map}
use Rattle.std.specs.Cmp.{unsigned_Decides}
use Rattle.std.specs.Cmp.Lexicographic.{nat_list_cmp_total}
use Rattle.std.specs.Ordering.{eq_by_cmp, is_eq}
use Rattle.std.specs.Str.{bytes_eq}
use Rattle.std.specs.FinMap as map
use Rattle.std.proofs.lemmas.Cmp.{tied_itself}
use Rattle.std.proofs.lemmas.Slice.Eq.{bytes_eq-Decides}
use Rattle.causal_context.specs.Dots.{Dot, Dots, dot_cmp, dot_cmp_total, dot_cmp_antisym}
use Rattle.causal_context.specs.MapLattice.{option_join, get-merge}
use Rattle.causal_context.specs.OrderLattice.{greater}
use Rattle.mqtt_fields.specs.Numbers.{IsText}
use Rattle.mqtt_message.specs.Parts.{name}
use Rattle.subscription_set.specs.declared.entry.Entry.{Entry}
use Rattle.subscription_set.specs.Indexing.{ByDot}
use Rattle.replica_store.specs.declared.kept.Kept.{Kept}
use Rattle.replica_store.specs.Retained.{Retained, retained_join, one_put, kept_cmp, topic_cmp}
use Rattle.replica_store.specs.RetainedLattice.{topic_cmp_antisym}
use Rattle.replica_store.proofs.Views.{tied_is}
use Rattle.row_store.specs.Rows.{Key, key_cmp, Plain}
use Rattle.row_store.proofs.Keys.{keys_total, exact_keys}
use Rattle.replica_bytes.specs.Values.{dot, subscription, subscription_in, kept}
use Rattle.replica_bytes.proofs.Wholes.{dot_is}
use Rattle.replica_rows.specs.Rows.{spelled, subscription_of, kept_of, dots_value}
use Rattle.replica_rows.specs.ReadingSteps.{Topic, Said, standing_at, topic_at, dots_at, row_of, SaysMore, IsSubscription, IsTopic, IsDots, TakesSubscription, TakesTopic, TakesDots}
use Rattle.replica_rows.proofs.Keyed.{bytes_same, spelled_again, spelled_so}
use Rattle.replica_rows.proofs.Contexts.{value_some}

pub by_bool : (b : Bool) {P : Type 0} → (b ≡ true → P) → (b ≡ false → P) → P
by_bool true f g = f refl
by_bool false f g = g refl

some_is : {A : Type 0} (a b : A) → Some a ≡ Some b → a ≡ b
some_is a b e = cc

pub no_value : {A P : Type 0} (o : Option A) (a : A) → o ≡ None → o ≡ Some a → P
no_value o a none some = absurd (let e = sym none ∙ some in cc)

own_tie : (key : Key) → eq_by_cmp key_cmp key key ≡ true
own_tie key = ap is_eq (tied_itself keys_total key)

-- the row of a key, by its kind
abbrev pub pick : Bool → Bool → Bool → Option (List ℕ) → Option (List ℕ) → Option (List ℕ) → Option (List ℕ)
pick a b c x y z = if a then x else if b then y else if c then z else None

pub picked : (n : ℕ) (x x' y y' z z' : Option (List ℕ)) → (n ≡ 4 → x ≡ x') → (n ≡ 5 → y ≡ y') → (n ≡ 6 → z ≡ z') → pick (n == 4) (n == 5) (n == 6) x y z ≡ pick (n == 4) (n == 5) (n == 6) x' y' z'
picked n x x' y y' z z' four five six = by_bool (n == 4)
    (λ e. ap (λ b. pick b (n == 5) (n == 6) x y z) e ∙ four ((unsigned_Decides n 4).0 e) ∙ sym (ap (λ b. pick b (n == 5) (n == 6) x' y' z') e))
    (λ e. by_bool (n == 5)
    (λ f. (λ i. pick (e i) (f i) (n == 6) x y z) ∙ five ((unsigned_Decides n 5).0 f) ∙ sym (λ i. pick (e i) (f i) (n == 6) x' y' z'))
    (λ f. by_bool (n == 6)
    (λ g. (λ i. pick (e i) (f i) (g i) x y z) ∙ six ((unsigned_Decides n 6).0 g) ∙ sym (λ i. pick (e i) (f i) (g i) x' y' z'))
    (λ g. (λ i. pick (e i) (f i) (g i) x y z) ∙ sym (λ i. pick (e i) (f i) (g i) x' y' z'))))

-- the row itself, and each other key
more_rows : (row : Plain) (old new : Said) → row_of new row.0 ≡ Some row.1 → ((key : Key) → (key ≡ row.0 → ⊥) → row_of new key ≡ row_of old key)
    → (key : Key) → row_of new key ≡ cond (eq_by_cmp key_cmp key row.0) (Some row.1) (row_of old key)
more_rows row old new here others key = by_bool (eq_by_cmp key_cmp key row.0)
    (λ t. ap (row_of new) (tied_is {R = key_cmp} exact_keys key row.0 t) ∙ here ∙ sym (ap (λ b. cond b (Some row.1) (row_of old key)) t))
    (λ f. others key (λ same. true≢false (sym (own_tie row.0) ∙ ap (λ k. eq_by_cmp key_cmp k row.0) (sym same) ∙ f)) ∙ sym (ap (λ b. cond b (Some row.1) (row_of old key)) f))

-- ---- subscriptions

abbrev pub with_standing : Said → ByDot → Said
with_standing x m = record { taken = x.taken; seen = x.seen; standing = m; retained = x.retained }

get_put : (m : ByDot) (d : Dot) (e : Entry) (q : Dot) → map.get (map.insert m d e) q ≡ cond (eq_by_cmp dot_cmp q d) (Some e) (map.get m q)
get_put m d e q = map.get-insert dot_cmp_total m d e q

dot_tie : (d : Dot) → eq_by_cmp dot_cmp d d ≡ true
dot_tie d = ap is_eq (tied_itself dot_cmp_total d)

module _ (m : ByDot) (d : Dot) (e : Entry) (fits : dot.Fits d) (fresh : map.get m d ≡ None) where
  abbrev n : ByDot
  n = map.insert m d e

  own_row : standing_at n e.client (spelled dot (dot.bytes d)) ≡ Some (subscription.bytes (subscription_in e))
  own_row =
      ap (standing_at n e.client) (spelled_again dot dot_is d fits) ∙ ap (λ o. subscription_of e.client (option_map (λ y. Some y) o)) (get_put m d e d ∙ ap (λ b. cond b (Some e) (map.get m d)) (dot_tie d))
      ∙ ap (λ b. if b then Some (subscription.bytes (subscription_in e)) else None) (bytes_same e.client)

  by_dot : (client place : List ℕ) (o : Option Dot) → spelled dot place ≡ o → ((client ≡ e.client) → (place ≡ dot.bytes d) → ⊥) → standing_at n client o ≡ standing_at m client o
  by_dot client place None at apart = refl
  by_dot client place (Some q) at apart = by_bool (eq_by_cmp dot_cmp q d)
      (λ t.
      let same = tied_is {R = dot_cmp} dot_cmp_antisym q d t in
      let there = sym (spelled_so dot place q at) ∙ ap dot.bytes same in
      let none = ap (map.get m) same ∙ fresh in
      ap (λ o. subscription_of client (option_map (λ y. Some y) o)) (get_put m d e q ∙ ap (λ b. cond b (Some e) (map.get m q)) t)
      ∙ by_bool (bytes_eq client e.client)
      (λ tie. absurd (apart ((bytes_eq-Decides client e.client).0 tie) there))
      (λ f. ap (λ b. if b then Some (subscription.bytes (subscription_in e)) else None) f)
      ∙ sym (ap (λ o. subscription_of client (option_map (λ y. Some y) o)) none))
      (λ f. ap (λ o. subscription_of client (option_map (λ y. Some y) o)) (get_put m d e q ∙ ap (λ b. cond b (Some e) (map.get m q)) f))

  stands_so : (P : Dot → Entry → Type 0) → P d e → ((q : Dot) (g : Entry) → map.get m q ≡ Some g → P q g) → (q : Dot) (g : Entry) → map.get n q ≡ Some g → P q g
  stands_so P here all q g is = by_bool (eq_by_cmp dot_cmp q d)
      (λ t.
      let same = tied_is {R = dot_cmp} dot_cmp_antisym q d t in
      let value = some_is e g (sym (get_put m d e q ∙ ap (λ b. cond b (Some e) (map.get m q)) t) ∙ is) in
      subst (λ (x : Dot × Entry). P x.0 x.1) (λ i. (sym same i, value i)) here)
      (λ f. all q g (sym (get_put m d e q ∙ ap (λ b. cond b (Some e) (map.get m q)) f) ∙ is))

say_put : (row : Plain) (x : Said) (v : Dot × Entry) → IsSubscription row v → map.get x.standing v.0 ≡ None → SaysMore row x (with_standing x (map.insert x.standing v.0 v.1))
say_put row x v says fresh =
    let m = x.standing in
    let key = ap (λ (r : Plain). r.0) says.is in
    let value = ap (λ (r : Plain). r.1) says.is in
    let new = with_standing x (map.insert m v.0 v.1) in
    record {
      sound = λ s. record {
        taken = s.taken;
        seen = s.seen;
        dots = stands_so m v.0 v.1 says.dot fresh (λ q g. dot.Fits q) says.dot s.dots;
        clients = stands_so m v.0 v.1 says.dot fresh (λ q g. IsText g.client) says.client s.clients;
        entries = stands_so m v.0 v.1 says.dot fresh (λ q g. subscription.Fits (subscription_in g)) says.rest s.entries;
        topics = s.topics;
        kept = s.kept;
      };
      rows = more_rows row x new (ap (row_of new) key ∙ own_row m v.0 v.1 says.dot fresh ∙ sym (ap Some value))
          (λ k apart. picked k.0 _ _ _ _ _ _
          (λ four. by_dot m v.0 v.1 says.dot fresh k.1.0 k.1.1 (spelled dot k.1.1) refl (λ c p. apart ((λ i. (four i, (c i, p i))) ∙ sym key)))
          (λ five. refl) (λ six. refl));
    }

pub say_subscription : (row : Plain) (x : Said) (m : ByDot) → TakesSubscription row x.standing m → SaysMore row x (with_standing x m)
say_subscription row x m takes = subst (λ y. SaysMore row x (with_standing x y)) (sym takes.is) (say_put row x takes.value takes.says takes.fresh)

-- ---- topics

abbrev pub with_retained : Said → Retained → Said
with_retained x r = record { taken = x.taken; seen = x.seen; standing = x.standing; retained = r }

get_one : (topic : List ℕ) (k : Kept) (q : List ℕ) → map.get (one_put topic k) q ≡ cond (eq_by_cmp topic_cmp q topic) (Some k) None
unfolding one_put
get_one topic k q = map.get-insert nat_list_cmp_total map.empty topic k q ∙ ap (cond (eq_by_cmp topic_cmp q topic) (Some k)) (map.get-empty topic_cmp q)

joined_one : (r : Retained) (topic : List ℕ) (k : Kept) (q : List ℕ) → map.get (retained_join r (one_put topic k)) q ≡ option_join (greater kept_cmp) (map.get r q) (cond (eq_by_cmp topic_cmp q topic) (Some k) None)
unfolding retained_join
joined_one r topic k q = get-merge nat_list_cmp_total (greater kept_cmp) r (one_put topic k) q ∙ ap (option_join (greater kept_cmp) (map.get r q)) (get_one topic k q)

nothing_joined : (o : Option Kept) → option_join (greater kept_cmp) o None ≡ o
nothing_joined None = refl
nothing_joined (Some k) = refl

topic_tie : (topic : List ℕ) → eq_by_cmp topic_cmp topic topic ≡ true
topic_tie topic = ap is_eq (tied_itself nat_list_cmp_total topic)

module _ (r : Retained) (topic : List ℕ) (k : Kept) (fresh : map.get r topic ≡ None) where
  abbrev j : Retained
  j = retained_join r (one_put topic k)

  here : map.get j topic ≡ Some k
  here = joined_one r topic k topic ∙ (λ i. option_join (greater kept_cmp) (fresh i) (cond (topic_tie topic i) (Some k) None))

  elsewhere : (q : List ℕ) → (q ≡ topic → ⊥) → map.get j q ≡ map.get r q
  elsewhere q apart = by_bool (eq_by_cmp topic_cmp q topic)
      (λ t. absurd (apart (tied_is {R = topic_cmp} topic_cmp_antisym q topic t)))
      (λ f. joined_one r topic k q ∙ ap (λ b. option_join (greater kept_cmp) (map.get r q) (cond b (Some k) None)) f ∙ nothing_joined (map.get r q))

  by_topic : (q place : List ℕ) → (q ≡ topic → place ≡ [] → ⊥) → topic_at j q place ≡ topic_at r q place
  by_topic q [] apart = ap (kept_of q) (elsewhere q (λ same. apart same refl))
  by_topic q (b ∷ place) apart = refl

  kept_so : (P : List ℕ → Kept → Type 0) → P topic k → ((q : List ℕ) (g : Kept) → map.get r q ≡ Some g → P q g) → (q : List ℕ) (g : Kept) → map.get j q ≡ Some g → P q g
  kept_so P own all q g is = by_bool (eq_by_cmp topic_cmp q topic)
      (λ t.
      let same = tied_is {R = topic_cmp} topic_cmp_antisym q topic t in
      let value = some_is k g (sym here ∙ ap (map.get j) (sym same) ∙ is) in
      subst (λ (x : Topic). P x.0 x.1) (λ i. (sym same i, value i)) own)
      (λ f. all q g (sym (joined_one r topic k q ∙ ap (λ b. option_join (greater kept_cmp) (map.get r q) (cond b (Some k) None)) f ∙ nothing_joined (map.get r q)) ∙ is))

no_kept : (topic : List ℕ) (o : Option Kept) → kept_of topic o ≡ None → o ≡ None
no_kept topic None e = refl
no_kept topic (Some k) e = absurd (cc)

say_kept : (row : Plain) (x : Said) (v : Topic) → IsTopic row v → row_of x row.0 ≡ None → SaysMore row x (with_retained x (retained_join x.retained (one_put v.0 v.1)))
say_kept row x v says none =
    let r = x.retained in
    let key = ap (λ (y : Plain). y.0) says.is in
    let value = ap (λ (y : Plain). y.1) says.is in
    let fresh = no_kept v.0 (map.get r v.0) (sym (ap (row_of x) key) ∙ none) in
    let new = with_retained x (retained_join r (one_put v.0 v.1)) in
    record {
      sound = λ s. record {
        taken = s.taken;
        seen = s.seen;
        dots = s.dots;
        clients = s.clients;
        entries = s.entries;
        topics = kept_so r v.0 v.1 fresh (λ q g. name.Fits q) says.topic s.topics;
        kept = kept_so r v.0 v.1 fresh (λ q g. (kept q).Fits g) says.kept s.kept;
      };
      rows = more_rows row x new (ap (row_of new) key ∙ ap (kept_of v.0) (here r v.0 v.1 fresh) ∙ sym (ap Some value))
          (λ k apart. picked k.0 _ _ _ _ _ _
          (λ four. refl)
          (λ five. by_topic r v.0 v.1 fresh k.1.0 k.1.1 (λ c p. apart ((λ i. (five i, (c i, p i))) ∙ sym key)))
          (λ six. refl));
    }

pub say_topic : (row : Plain) (x : Said) (r : Retained) → TakesTopic row x.retained r → row_of x row.0 ≡ None → SaysMore row x (with_retained x r)
say_topic row x r takes none = subst (λ y. SaysMore row x (with_retained x y)) (sym takes.is) (say_kept row x takes.value takes.says none)

-- ---- dots

abbrev chosen : Bool → Bool → Dots → Dots → Option (List ℕ)
chosen a b taken seen = if a then dots_value taken else if b then dots_value seen else None

other_taken : (old d seen : Dots) (owner place : List ℕ) → (owner ≡ [] → place ≡ 1 ∷ [] → ⊥) → dots_at d seen owner place ≡ dots_at old seen owner place
other_taken old d seen (b ∷ owner) place apart = refl
other_taken old d seen [] place apart = by_bool (bytes_eq place (1 ∷ []))
    (λ t. absurd (apart refl ((bytes_eq-Decides place (1 ∷ [])).0 t)))
    (λ f. ap (λ b. chosen b (bytes_eq place (2 ∷ [])) d seen) f ∙ sym (ap (λ b. chosen b (bytes_eq place (2 ∷ [])) old seen) f))

other_seen : (taken old d : Dots) (owner place : List ℕ) → (owner ≡ [] → place ≡ 2 ∷ [] → ⊥) → dots_at taken d owner place ≡ dots_at taken old owner place
other_seen taken old d (b ∷ owner) place apart = refl
other_seen taken old d [] place apart = by_bool (bytes_eq place (2 ∷ []))
    (λ t. absurd (apart refl ((bytes_eq-Decides place (2 ∷ [])).0 t)))
    (λ f. ap (λ b. chosen (bytes_eq place (1 ∷ [])) b taken d) f ∙ sym (ap (λ b. chosen (bytes_eq place (1 ∷ [])) b taken old) f))

abbrev with_taken : Said → Dots → Said
with_taken x d = record { taken = d; seen = x.seen; standing = x.standing; retained = x.retained }

abbrev with_seen : Said → Dots → Said
with_seen x d = record { taken = x.taken; seen = d; standing = x.standing; retained = x.retained }

say_taken : (row : Plain) (x : Said) (d : Dots) → IsDots row (1, d) → SaysMore row x (with_taken x d)
say_taken row x d says =
    let key = ap (λ (y : Plain). y.0) says.is in
    let value = ap (λ (y : Plain). y.1) says.is in
    record {
      sound = λ s. record { taken = says.spelled; seen = s.seen; dots = s.dots; clients = s.clients; entries = s.entries; topics = s.topics; kept = s.kept };
      rows = more_rows row x (with_taken x d) (ap (row_of (with_taken x d)) key ∙ value_some d says.some ∙ sym (ap Some value))
          (λ k apart. picked k.0 _ _ _ _ _ _ (λ four. refl) (λ five. refl) (λ six. other_taken x.taken d x.seen k.1.0 k.1.1 (λ c p. apart ((λ i. (six i, (c i, p i))) ∙ sym key))));
    }

say_seen : (row : Plain) (x : Said) (d : Dots) → IsDots row (2, d) → SaysMore row x (with_seen x d)
say_seen row x d says =
    let key = ap (λ (y : Plain). y.0) says.is in
    let value = ap (λ (y : Plain). y.1) says.is in
    record {
      sound = λ s. record { taken = s.taken; seen = says.spelled; dots = s.dots; clients = s.clients; entries = s.entries; topics = s.topics; kept = s.kept };
      rows = more_rows row x (with_seen x d) (ap (row_of (with_seen x d)) key ∙ value_some d says.some ∙ sym (ap Some value))
          (λ k apart. picked k.0 _ _ _ _ _ _ (λ four. refl) (λ five. refl) (λ six. other_seen x.taken x.seen d k.1.0 k.1.1 (λ c p. apart ((λ i. (six i, (c i, p i))) ∙ sym key))));
    }

pub say_dots : (row : Plain) (x new : Said) → TakesDots row x new → SaysMore row x new
say_dots row x new (inl t) = subst (SaysMore row x) (sym t.2) (say_taken row x t.0 t.1)
say_dots row x new (inr t) = subst (SaysMore row x) (sym t.2) (say_seen row x t.0 t.1)
