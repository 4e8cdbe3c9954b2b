-- Rows that no store has.
use Rattle.std.proofs.Common.{◌≡◌, ◌≢◌, ◌⊎◌, inl, inr, ℕ, Bool, if◌then◌else◌, List, [], ◌∷◌, Option, Some, None, Result, Ok, Err, refl, sym, ap, ◌∙◌, true≢false}
use Rattle.std.specs.Prelude.{◌==◌, IfErr, option_map}
use Rattle.std.specs.Cmp.{unsigned_Decides}
use Rattle.std.specs.Str.{bytes_eq}
use Rattle.std.specs.FinSet as set
use Rattle.std.specs.FinMap as map
use Rattle.std.proofs.lemmas.Slice.Eq.{bytes_eq-Decides}
use Rattle.mqtt_fields.specs.declared.fault.FieldFault.{FieldFault}
use Rattle.mqtt_fields.specs.declared.fault.FieldFault.TheVariants.{NoMemory}
use Rattle.causal_context.specs.Dots.{Dot, Dots, dot_cmp}
use Rattle.causal_context.specs.Spelling.{context}
use Rattle.subscription_set.specs.declared.entry.Entry.{Entry}
use Rattle.subscription_set.specs.Indexing.{ByDot}
use Rattle.subscription_set.specs.Standing.{seen_of}
use Rattle.subscription_set.specs.Statuses.{Status}
use Rattle.replica_store.specs.declared.kept.Kept.{Kept}
use Rattle.replica_store.specs.States.{State}
use Rattle.row_store.specs.Rows.{Plain}
use Rattle.replica_bytes.specs.Values.{dot, subscription, subscription_in}
use Rattle.replica_bytes.proofs.Wholes.{dot_is}
use Rattle.replica_rows.specs.Rows.{spelled, subscription_of, subscription_at, kept_of, retained_at, context_at, dots_value, row_at}
use Rattle.replica_rows.specs.Steps.{subscription_key}
use Rattle.replica_rows.specs.ReadingSteps.{Topic, Said, standing_at, row_of, Contradicts, IsSubscription, IsTopic, NoSubscription, NoDots}
use Rattle.replica_rows.specs.Reading.{IsStore}
use Rattle.replica_rows.proofs.Keyed.{bytes_same, spelled_again, spelled_so, at_dot}
use Rattle.replica_rows.proofs.Saying.{by_bool, no_value}

some_is : {A : Type 0} (a b : A) → Some a ≡ Some b → a ≡ b
some_is a b e = cc

pub on_err : {X P Q : Type 0} (r : Result X FieldFault) → (P → Q) → IfErr r (λ f. (f ≡ NoMemory) ⊎ P) → IfErr r (λ f. (f ≡ NoMemory) ⊎ Q)
on_err (Ok x) g h = h
on_err (Err e) g (inl memory) = inl memory
on_err (Err e) g (inr p) = inr (g p)

-- ---- subscriptions

-- the subscription whose row it is
pub record StandsThere (s : State) (client place value : List ℕ) : Type 0 where
  pub d : Dot
  pub e : Entry
  pub at : spelled dot place ≡ Some d
  pub stands : map.get s.subscriptions d ≡ Some (Some e)
  pub own : client ≡ e.client
  pub is : value ≡ subscription.bytes (subscription_in e)

pub owned : (client value : List ℕ) (e : Entry) → subscription_of client (Some (Some e)) ≡ Some value → (client ≡ e.client) × (value ≡ subscription.bytes (subscription_in e))
owned client value e h = by_bool (bytes_eq client e.client)
    (λ t. ((bytes_eq-Decides client e.client).0 t, some_is _ _ (sym h ∙ ap (λ b. if b then Some (subscription.bytes (subscription_in e)) else None) t)))
    (λ f. no_value (subscription_of client (Some (Some e))) value (ap (λ b. if b then Some (subscription.bytes (subscription_in e)) else None) f) h)

pub stands_there : (s : State) (client place value : List ℕ) → subscription_at s client (spelled dot place) ≡ Some value → StandsThere s client place value
stands_there s client place value h = by_dot (spelled dot place) refl h
  where
    by_status : (d : Dot) (x : Option Status) → spelled dot place ≡ Some d → map.get s.subscriptions d ≡ x → subscription_of client x ≡ Some value → StandsThere s client place value
    by_status d None at is g = absurd (cc)
    by_status d (Some None) at is g = absurd (cc)
    by_status d (Some (Some e)) at is g = (let own = owned client value e g in record { d = d; e = e; at = at; stands = is; own = own.0; is = own.1 })

    by_dot : (o : Option Dot) → spelled dot place ≡ o → subscription_at s client o ≡ Some value → StandsThere s client place value
    by_dot None at g = absurd (cc)
    by_dot (Some d) at g = by_status d (map.get s.subscriptions d) at refl g

says_so : (row : Plain) (s : State) → IsStore s → row.0.0 ≡ 4 → (t : StandsThere s row.0.1.0 row.0.1.1 row.1) → IsSubscription row (t.d, t.e)
says_so row s store four t = record {
  is = λ i. ((four i, (t.own i, sym (spelled_so dot row.0.1.1 t.d t.at) i)), t.is i);
  dot = store.dots t.d t.e t.stands;
  client = store.clients t.d t.e t.stands;
  rest = store.entries t.d t.e t.stands;
}

pub said_row : (m : ByDot) (d : Dot) (g : Entry) → dot.Fits d → map.get m d ≡ Some g → standing_at m g.client (spelled dot (dot.bytes d)) ≡ Some (subscription.bytes (subscription_in g))
said_row m d g fits is =
    ap (standing_at m g.client) (spelled_again dot dot_is d fits) ∙ ap (λ o. subscription_of g.client (option_map (λ y. Some y) o)) is
    ∙ ap (λ b. if b then Some (subscription.bytes (subscription_in g)) else None) (bytes_same g.client)

pub no_subscription : (row : Plain) (x : Said) → row.0.0 ≡ 4 → NoSubscription row x.standing → Contradicts row x
no_subscription row x four none fresh s store agrees at =
    let t = stands_there s row.0.1.0 row.0.1.1 row.1 (sym (ap (λ n. row_at s (n, row.0.1)) four) ∙ at) in
    let says = says_so row s store four t in
    by_standing t says (map.get x.standing t.d) refl
  where
    by_standing : (t : StandsThere s row.0.1.0 row.0.1.1 row.1) → IsSubscription row (t.d, t.e) → (o : Option Entry) → map.get x.standing t.d ≡ o → ⊥
    by_standing t says None is = none (t.d, t.e) says is
    by_standing t says (Some g) is =
        let there = said_row x.standing t.d g says.dot is in
        let alike = sym (at_dot s g.client t.d says.dot ∙ ap (subscription_of g.client) t.stands) ∙ agrees (subscription_key g t.d) _ there in
        let own = owned g.client _ t.e alike in
        let key : row.0 ≡ subscription_key g t.d = ap (λ (r : Plain). r.0) says.is ∙ (λ i. (4, (sym own.0 i, dot.bytes t.d))) in
        no_value (row_of x row.0) _ fresh (ap (row_of x) key ∙ there)

-- ---- topics

pub no_topic : (row : Plain) (x : Said) → row.0.0 ≡ 5 → ((v : Topic) → IsTopic row v → ⊥) → Contradicts row x
no_topic row x five none fresh s store agrees at = by_place row.0.1.1 refl (sym (ap (λ n. row_at s (n, row.0.1)) five) ∙ at)
  where
    by_kept : row.0.1.1 ≡ [] → (o : Option Kept) → map.get s.retained row.0.1.0 ≡ o → kept_of row.0.1.0 o ≡ Some row.1 → ⊥
    by_kept place None is h = absurd (cc)
    by_kept place (Some k) is h = none (row.0.1.0, k) (record {
      is = λ i. ((five i, (row.0.1.0, place i)), sym (some_is _ _ h) i);
      topic = store.topics row.0.1.0 k is;
      kept = store.kept row.0.1.0 k is;
    })

    by_place : (place : List ℕ) → row.0.1.1 ≡ place → retained_at s row.0.1.0 place ≡ Some row.1 → ⊥
    by_place [] e h = by_kept e (map.get s.retained row.0.1.0) refl h
    by_place (b ∷ place) e h = absurd (cc)

-- ---- dots

pub value_of : (dots : Dots) (value : List ℕ) → dots_value dots ≡ Some value → (dots ≢ set.empty) × (value ≡ context.bytes dots)
value_of dots value h = by_bool (set.len dots == 0)
    (λ t. no_value (dots_value dots) value (ap (λ b. if b then None else Some (context.bytes dots)) t) h)
    (λ f. (
      λ none. true≢false (sym ((unsigned_Decides (set.len dots) 0).1 (ap set.len none ∙ set.len-empty dot_cmp)) ∙ f),
      some_is _ _ (sym h ∙ ap (λ b. if b then None else Some (context.bytes dots)) f),
    ))

abbrev chosen : Bool → Bool → State → Option (List ℕ)
chosen a b s = if a then dots_value s.taken else if b then dots_value (seen_of s.subscriptions) else None

pub no_dots : (row : Plain) (x : Said) → row.0.0 ≡ 6 → NoDots row → Contradicts row x
no_dots row x six none fresh s store agrees at = by_owner row.0.1.0 refl (sym (ap (λ n. row_at s (n, row.0.1)) six) ∙ at)
  where
    by_owner : (owner : List ℕ) → row.0.1.0 ≡ owner → context_at s owner row.0.1.1 ≡ Some row.1 → ⊥
    by_owner (b ∷ owner) e h = absurd (cc)
    by_owner [] e h = by_bool (bytes_eq row.0.1.1 (1 ∷ []))
        (λ t.
        let place = (bytes_eq-Decides row.0.1.1 (1 ∷ [])).0 t in
        let v = value_of s.taken row.1 (sym (ap (λ b. chosen b (bytes_eq row.0.1.1 (2 ∷ [])) s) t) ∙ h) in
        none s.taken (inl (record { is = λ i. ((six i, (e i, place i)), v.1 i); spelled = store.taken; some = v.0 })))
        (λ f. by_bool (bytes_eq row.0.1.1 (2 ∷ []))
        (λ t.
        let place = (bytes_eq-Decides row.0.1.1 (2 ∷ [])).0 t in
        let v = value_of (seen_of s.subscriptions) row.1 (sym (λ i. chosen (f i) (t i) s) ∙ h) in
        none (seen_of s.subscriptions) (inr (record { is = λ i. ((six i, (e i, place i)), v.1 i); spelled = store.seen; some = v.0 })))
        (λ g. no_value (context_at s [] row.0.1.1) row.1 (λ i. chosen (f i) (g i) s) h))
