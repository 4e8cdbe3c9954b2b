-- The released exchanges, from the last entry to the first.
use Rattle.std.proofs.Common.{◌≡◌, ℕ, ◌+◌, ◌<◌, ◌≤◌, cond, arith, List, [], ◌∷◌, ◌++◌, refl, sym, ◌∙◌, ap}
use Rattle.std.specs.Prelude.{◌≢◌, nat_lt, Result, Ok, Err, OnErr}
use Rattle.std.specs.List.{AllByRecursion}
use Rattle.std.proofs.lemmas.Bool.Decides.{nat_tests}
use Rattle.std.specs.BTreeMap.{insert_entry}
use Rattle.std.specs.Map.{values_of}
use Rattle.std.specs.Ordering.{nat_cmp, match_ordering}
use Rattle.std.specs.declared.cmp.Ordering.TheVariants.{Less, Equal, Greater}
use Rattle.qos_handshakes.specs.declared.copies.Entry.{Entry}
use Rattle.qos_handshakes.specs.declared.copies.Stage.{Stage}
use Rattle.qos_handshakes.specs.declared.copies.Stage.TheVariants.{Waiting, Published, Released}
use Rattle.qos_handshakes.specs.Entries.{Entries}
use Rattle.qos_handshakes.specs.Outbox.{stage_pair, released_pair, chosen, sorted, by_release, stage_order, order_above, HaveOrders}

abbrev pub into : Stage → List (ℕ × ℕ) → List (ℕ × ℕ)
into Waiting orders = orders
into (Published id) orders = orders
into (Released id order) orders = insert_entry nat_cmp orders order id

-- the orders with those of more entries
abbrev pub onto : List Entry → List (ℕ × ℕ) → List (ℕ × ℕ)
onto [] orders = orders
onto (x ∷ xs) orders = into x.stage (onto xs orders)

pub onto-last : (xs : List Entry) (x : Entry) (orders : List (ℕ × ℕ)) → onto (xs ++ x ∷ []) orders ≡ onto xs (into x.stage orders)
onto-last [] x orders = refl
onto-last (y ∷ xs) x orders = ap (into y.stage) (onto-last xs x orders)

into-sorted : (s : Stage) (xs : List (ℕ × ℕ)) → into s (sorted xs) ≡ sorted (stage_pair s ++ xs)
into-sorted Waiting xs = refl
into-sorted (Published id) xs = refl
into-sorted (Released id order) xs = refl

pub onto-all : (es : Entries) → onto (values_of es) [] ≡ by_release es
onto-all [] = refl
onto-all (e ∷ es) = ap (into e.1.stage) (onto-all es) ∙ into-sorted e.1.stage (chosen released_pair es)

pub into-other : (s : Stage) (orders : List (ℕ × ℕ)) → ((id order : ℕ) → s ≡ Released id order → ⊥) → into s orders ≡ orders
into-other Waiting orders h = refl
into-other (Published id) orders h = refl
into-other (Released id order) orders h = absurd (h id order refl)

-- one entry from the end
pub onto-turn : (left rest : List Entry) (x : Entry) (orders next all : List (ℕ × ℕ)) → onto left orders ≡ all → left ≡ rest ++ x ∷ [] → next ≡ into x.stage orders → onto rest next ≡ all
onto-turn left rest x orders next all so is more = ap (onto rest) more ∙ sym (onto-last rest x orders) ∙ ap (λ (l : List Entry). onto l orders) (sym is) ∙ so

pub on-err : {T E P : Type 0} (r : Result T E) → P → OnErr r P
on-err (Ok v) p = tt
on-err (Err e) p = p

-- an order that is put in stands there
some-put : (ys : List (ℕ × ℕ)) (k v : ℕ) → insert_entry nat_cmp ys k v ≢ []
some-put [] k v = λ e. cc
some-put (y ∷ ys) k v = elim (nat_cmp k y.0) as (λ o. match_ordering o ((k, v) ∷ y ∷ ys) ((y.0, v) ∷ ys) (y ∷ insert_entry nat_cmp ys k v) ≢ []) [
  | Less ↦ λ e. cc
  | Equal ↦ λ e. cc
  | Greater ↦ λ e. cc
]

some-into : (s : Stage) (ys : List (ℕ × ℕ)) → ys ≢ [] → into s ys ≢ []
some-into Waiting ys some = some
some-into (Published id) ys some = some
some-into (Released id order) ys some = some-put ys order id

some-onto : (xs : List Entry) (ys : List (ℕ × ℕ)) → ys ≢ [] → onto xs ys ≢ []
some-onto [] ys some = some
some-onto (x ∷ xs) ys some = some-into x.stage (onto xs ys) (some-onto xs ys some)

-- where one of the entries is released, there are orders
pub some-released : (left rest : List Entry) (x : Entry) (orders all : List (ℕ × ℕ)) (id order : ℕ) → onto left orders ≡ all → left ≡ rest ++ x ∷ [] → x.stage ≡ Released id order → all ≢ []
some-released left rest x orders all id order so is released none =
    let there : onto rest (into x.stage orders) ≡ [] = onto-turn left rest x orders (into x.stage orders) all so is refl ∙ none in
    some-onto rest (into x.stage orders) (rw released (some-put orders order id)) there

-- ---- the greatest order
abbrev pub above_of : Stage → ℕ → ℕ
above_of s above = cond (nat_lt (stage_order s) above) above (stage_order s + 1)

abbrev pub above_onto : List Entry → ℕ → ℕ
above_onto [] above = above
above_onto (x ∷ xs) above = above_of x.stage (above_onto xs above)

above-last : (xs : List Entry) (x : Entry) (above : ℕ) → above_onto (xs ++ x ∷ []) above ≡ above_onto xs (above_of x.stage above)
above-last [] x above = refl
above-last (y ∷ xs) x above = ap (above_of y.stage) (above-last xs x above)

pub above-all : (es : Entries) → above_onto (values_of es) 1 ≡ order_above es
above-all [] = refl
above-all (e ∷ es) = ap (above_of e.1.stage) (above-all es)

pub above-turn : (left rest : List Entry) (x : Entry) (above next all : ℕ) → above_onto left above ≡ all → left ≡ rest ++ x ∷ [] → next ≡ above_of x.stage above → above_onto rest next ≡ all
above-turn left rest x above next all so is more = ap (above_onto rest) more ∙ sym (above-last rest x above) ∙ ap (λ (l : List Entry). above_onto l above) (sym is) ∙ so

pub above-stays : (s : Stage) (above : ℕ) → stage_order s < above → above ≡ above_of s above
above-stays s above lt = grind (arith, nat_tests)

pub above-more : (s : Stage) (above : ℕ) → above ≤ stage_order s → stage_order s + 1 ≡ above_of s above
above-more s above le = grind (arith, nat_tests)

-- each order is below 2^62
abbrev pub ValuesHaveOrders : List Entry → Type 0
ValuesHaveOrders xs = AllByRecursion (λ x. stage_order x.stage < 4611686018427387904) xs

pub values-orders : (es : Entries) → HaveOrders es → ValuesHaveOrders (values_of es)
values-orders [] h = tt
values-orders (e ∷ es) h = (h.0, values-orders es h.1)

pub orders-last : (rest : List Entry) (x : Entry) → ValuesHaveOrders (rest ++ x ∷ []) → ValuesHaveOrders rest × (stage_order x.stage < 4611686018427387904)
orders-last [] x h = (tt, h.0)
orders-last (y ∷ rest) x h = let t = orders-last rest x h.1 in ((h.0, t.0), t.1)
