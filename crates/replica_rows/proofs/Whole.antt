-- A client's subscription that takes all of some bytes, without the client.
use Rattle.std.proofs.Common.{◌≡◌, ℕ, ◌≤◌, List, [], length, Ok, Err, sym, ap, ◌∙◌}
use Rattle.mqtt_fields.specs.declared.fault.FieldFault.{FieldFault}
use Rattle.mqtt_fields.specs.declared.fault.FieldFault.TheVariants.{Short, Malformed, Repeated, NotHere, NoMemory}
use Rattle.mqtt_fields.specs.Field.{IsBytes}
use Rattle.mqtt_fields.specs.Reading.{Fails, Finds, ◌>>=◌}
use Rattle.mqtt_fields.proofs.Laws.{bind_ok, ok_is}
use Rattle.mqtt_fields.proofs.Whole.{err_ok, whole_found, whole_only, whole_more}
use Rattle.subscription_set.specs.declared.entry.Entry.{Entry}
use Rattle.replica_bytes.specs.Values.{subscription, subscription_in, entry_in, entry_of_client}
use Rattle.replica_bytes.proofs.Wholes.{subscription_is}

client_read : (client bs : List ℕ) (x : Entry × List ℕ) → (entry_of_client client).at bs ≡ Ok x → (subscription.at bs ≡ Ok (subscription_in x.0, x.1)) × (x.0.client ≡ client)
client_read client bs x at =
    let made = bind_ok (subscription.at bs) (λ a. Ok (entry_in (client, a.0), a.1)) x at in
    let whole : Entry × List ℕ = (entry_in (client, made.0.0), made.0.1) in
    let same : whole ≡ x = ok_is whole x made.2 in
    (made.1 ∙ ap (λ (y : Entry × List ℕ). Ok (subscription_in y.0, y.1)) same, sym (ap (λ (y : Entry × List ℕ). y.0.client) same))

abbrev pub IsClients : List ℕ → List ℕ → Entry → Type 0
IsClients client bs e = (e.client ≡ client) × (bs ≡ subscription.bytes (subscription_in e)) × subscription.Fits (subscription_in e)

pub client_found : (client bs : List ℕ) (x : Entry × List ℕ) → IsBytes bs → (entry_of_client client).at bs ≡ Ok x → length x.1 ≡ 0 → IsClients client bs x.0
client_found client bs x bytes at none =
    let read = client_read client bs x at in
    let whole = whole_found subscription subscription_is bs (subscription_in x.0, x.1) bytes read.0 none in
    (read.1, whole.0, whole.1)

pub client_more : (client bs : List ℕ) (x : Entry × List ℕ) → (entry_of_client client).at bs ≡ Ok x → 1 ≤ length x.1 → (e : Entry) → IsClients client bs e → ⊥
client_more client bs x at more e is =
    let read = client_read client bs x at in
    whole_more subscription subscription_is bs (subscription_in x.0, x.1) read.0 more (subscription_in e) (is.1, is.2)

no_error : (client bs : List ℕ) (fault : FieldFault) → (entry_of_client client).at bs ≡ Err fault → (e : Entry) → IsClients client bs e → ⊥
no_error client bs fault fails e is =
    let whole = whole_only subscription subscription_is bs (subscription_in e) (is.1, is.2) in
    let made : Entry × List ℕ = (entry_in (client, subscription_in e), []) in
    err_ok fault made (sym fails ∙ ap (λ r. r >>= λ a. Ok (entry_in (client, a.0), a.1)) whole)

pub client_none : (client bs : List ℕ) (e : FieldFault) → Fails e ((entry_of_client client).at bs) → Finds {X = Entry} (λ x. x) (IsClients client bs) (Err e)
client_none client bs NoMemory fails = tt
client_none client bs Short fails = no_error client bs Short fails
client_none client bs Malformed fails = no_error client bs Malformed fails
client_none client bs Repeated fails = no_error client bs Repeated fails
client_none client bs NotHere fails = no_error client bs NotHere fails
