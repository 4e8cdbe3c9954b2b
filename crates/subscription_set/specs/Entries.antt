-- Subscriptions: when two are the same, whose they are, and which of two is the later.
use Rattle.std.specs.Prelude.{◌≡◌, ℕ, List, Bool, true, ◌&&◌, ◌==◌, nat_eq, nat_le, nat_lt, Option, Some, None, refl}
use Rattle.std.proofs.Common.{subst}
use Rattle.std.specs.Bool.{Decides}
use Rattle.std.specs.Coded.{Coded, code_by, coded×, coded_ℕ, coded_list}
use Rattle.std.specs.Cmp.{unsigned_Decides, first_so, second_so}
use Rattle.std.specs.Cmp.Lexicographic.{pointwise, bytes_decides}
use Rattle.std.specs.declared.cmp.Ordering.{Ordering}
use Rattle.std.specs.Ordering.{nat_cmp, then_cmp, on}
use Rattle.causal_context.specs.Dots.{Dot}
use Rattle.mqtt_fields.specs.Options.{qos_of, retain_handling_of}

-- a subscription of a client to a filter (MQTT 5.0, 3.8), made under a version of the home table; identifier 0: none
pub record Entry : Type 0 where
  pub client : List ℕ
  pub filter : List ℕ
  pub options : ℕ
  pub identifier : ℕ
  pub version : ℕ

-- options that a SUBSCRIBE can have (3.8.3.1): QoS 0 to 2, Retain Handling 0 to 2, and no reserved bit
abbrev pub are_options : ℕ → Bool
are_options options = nat_lt options 64 && (nat_lt (qos_of options) 3 && nat_lt (retain_handling_of options) 3)

-- options and an identifier that a SUBSCRIBE can have: at most 268,435,455 (3.8.2.1.2), or 0 where it has none
abbrev pub can_be_asked : ℕ → ℕ → Bool
can_be_asked options identifier = are_options options && nat_le identifier 268435455

-- the same text
abbrev pub same_text : List ℕ → List ℕ → Bool
same_text = pointwise nat_eq

-- the same subscription in each field
abbrev pub entry_eq : Entry → Entry → Bool
entry_eq a b = same_text a.client b.client && (same_text a.filter b.filter && ((a.options == b.options) && ((a.identifier == b.identifier) && (a.version == b.version))))

-- of the client and, where one is given, to the filter
abbrev pub is_of : List ℕ → Option (List ℕ) → Entry → Bool
is_of client None e = same_text client e.client
is_of client (Some filter) e = same_text client e.client && same_text filter e.filter

-- of the client, and made under a home table of a version below this one
abbrev pub is_of_below : List ℕ → ℕ → Entry → Bool
is_of_below client version e = same_text client e.client && nat_lt e.version version

-- one client's, to one filter
abbrev pub same_subscription : Entry → Entry → Bool
same_subscription a b = same_text b.client a.client && same_text b.filter a.filter

-- which of two is the later: by the version, then the number, then the node
abbrev pub recency_cmp : Dot × Entry → Dot × Entry → Ordering
recency_cmp = then_cmp (on (λ x. x.1.version) nat_cmp) (then_cmp (on (λ x. x.0.number) nat_cmp) (on (λ x. x.0.node) nat_cmp))

-- an entry is stored as its fields
abbrev pub coded_entry : Coded Entry
coded_entry = code_by (List ℕ × (List ℕ × (ℕ × (ℕ × ℕ)))) (coded× (coded_list coded_ℕ) (coded× (coded_list coded_ℕ) (coded× coded_ℕ (coded× coded_ℕ coded_ℕ)))) (λ e. (e.client, (e.filter, (e.options, (e.identifier, e.version))))) (λ p. record { client = p.0; filter = p.1.0; options = p.1.1.0; identifier = p.1.1.1.0; version = p.1.1.1.1 }) (λ _. refl)

pub entry_eq-decides : (a b : Entry) → Decides (entry_eq a b) (a ≡ b)
entry_eq-decides a b = (same, λ e. subst (λ w. entry_eq a w ≡ true) e (itself a))
  where
    itself : (a : Entry) → entry_eq a a ≡ true
    itself a = rw ((bytes_decides a.client a.client).1 refl, (bytes_decides a.filter a.filter).1 refl, (unsigned_Decides a.options a.options).1 refl, (unsigned_Decides a.identifier a.identifier).1 refl, (unsigned_Decides a.version a.version).1 refl)

    same : entry_eq a b ≡ true → a ≡ b
    same e =
        let rest = second_so (same_text a.client b.client) _ e in
        let more = second_so (same_text a.filter b.filter) _ rest in
        let last = second_so (a.options == b.options) _ more in
        let client = (bytes_decides a.client b.client).0 (first_so _ _ e) in
        let filter = (bytes_decides a.filter b.filter).0 (first_so _ _ rest) in
        let options = (unsigned_Decides a.options b.options).0 (first_so _ _ more) in
        let identifier = (unsigned_Decides a.identifier b.identifier).0 (first_so _ _ last) in
        let version = (unsigned_Decides a.version b.version).0 (second_so (a.identifier == b.identifier) _ last) in
        λ i. record { client = client i; filter = filter i; options = options i; identifier = identifier i; version = version i }
