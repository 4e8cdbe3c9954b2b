-- What rows say of a session is spelled so, and the rows of a session say it.
use Rattle.std.proofs.Common.{◌≡◌, ℕ, ◌<◌, ◌≤◌, ◌^◌, ◌&&◌, Bool, true, false, cond, List, [], ◌∷◌, length, Option, Some, None, Result, Ok, Err, refl, sym, ap, subst, ◌∙◌, append-nil, inl, inr, arith}
use Rattle.std.specs.Prelude.{◌==◌, ◌⊎◌, not, nat_eq, option_map, Contains, IsUtf8}
use Rattle.std.specs.Cmp.Lexicographic.{pointwise, same_text}
use Rattle.std.specs.Int.{w64}
use Rattle.std.specs.Option.{option_and_then}
use Rattle.std.specs.List.{AllByRecursion, list_all}
use Rattle.std.proofs.lemmas.Bool.{cases_Bool, eqb-true, eq-eqb, and_parts, and_from, ltb-false, ltb-true, lt-ltb}
use Rattle.mqtt_fields.specs.declared.fault.FieldFault.{FieldFault}
use Rattle.mqtt_fields.specs.Field.{Field, IsBytes, IsField}
use Rattle.mqtt_fields.specs.Numbers.{number, is_text, IsText}
use Rattle.mqtt_fields.proofs.NumberLaws.{number_is, wide64}
use Rattle.mqtt_fields.proofs.TextLaws.{is_text_from, some_zero}
use Rattle.qos_handshakes.specs.declared.copies.Entry.{Entry}
use Rattle.qos_handshakes.specs.Entries.{Entries}
use Rattle.row_store.specs.Rows.{Key}
use Rattle.session_rows.specs.declared.session.Opened.{Opened}
use Rattle.qos_handshakes.specs.Incoming.{rise}
use Rattle.qos_handshakes.specs.Restored.{agree}
use Rattle.session_rows.specs.Durable.{Durable, HasForm, IsSound, IsDurable, opened_of, opened_if}
use Rattle.session_rows.specs.Fields.{Main, main, copy, copy_of, entry_of, is_short}
use Rattle.row_store.specs.declared.store.RowFault.{RowFault}
use Rattle.row_store.specs.declared.store.RowFault.TheVariants.{NoMemory, Device, BadRow}
use Rattle.std.specs.Prelude.{IsErrOf, IfOk, IsSome}
use Rattle.session_rows.specs.Reachable.{IsReachable}
use Rattle.session_rows.specs.Reading.{Opens, whole_of, whole, text_in, client_in, copy_place, main_in, copy_in, copies_in, durable_in, HasBytes, HasClient}
use Rattle.session_rows.specs.Rows.{main_key, copy_key, copy_row, copy_rows, rows_of}
use Rattle.session_rows.proofs.FieldLaws.{main_is, copy_is}

-- ---- options
and_then_some : {A B : Type 0} (f : A → Option B) (o : Option A) (b : B) → option_and_then f o ≡ Some b → (a : A) × (o ≡ Some a) × (f a ≡ Some b)
and_then_some f None b e = absurd cc
and_then_some f (Some a) b e = (a, refl, e)

map_some : {A B : Type 0} (f : A → B) (o : Option A) (b : B) → option_map f o ≡ Some b → (a : A) × (o ≡ Some a) × (f a ≡ b)
map_some f None b e = absurd cc
map_some f (Some a) b e = (a, refl, cc)

cond_some : {A : Type 0} (b : Bool) (o : Option A) (a : A) → cond b o None ≡ Some a → (b ≡ true) × (o ≡ Some a)
cond_some true o a e = (refl, e)
cond_some false o a e = absurd cc

-- ---- a field that takes all
whole_ok : {A : Type 0} (r : Result (A × List ℕ) FieldFault) (a : A) → whole_of r ≡ Some a → r ≡ Ok (a, [])
whole_ok (Ok (x, [])) a e = (let same : x ≡ a = cc in rw same refl)
whole_ok (Ok (x, b ∷ bs)) a e = absurd cc
whole_ok (Err f) a e = absurd cc

pub whole_takes : {A : Type 0} (f : Field A) → IsField f → (bs : List ℕ) (a : A) → IsBytes bs → whole f bs ≡ Some a → (bs ≡ f.bytes a) × f.Fits a
whole_takes f F bs a bytes e = (let s = F.takes bs (a, []) bytes (whole_ok (f.at bs) a e) in (s.0 ∙ append-nil (f.bytes a), s.1))

pub whole_again : {A : Type 0} (f : Field A) → IsField f → (a : A) → f.Fits a → whole f (f.bytes a) ≡ Some a
whole_again f F a fits =
    let e = F.again a [] fits in
    let at = ap (λ (bs : List ℕ). f.at bs) (sym (append-nil (f.bytes a))) ∙ e in
    rw at refl

-- ---- keys
none_long : (bs : List ℕ) → length bs ≡ 0 → bs ≡ []
none_long [] e = refl
none_long (b ∷ bs) e = absurd (omega (arith, e))

text_said : (bs t : List ℕ) → text_in bs ≡ Some t → (t ≡ bs) × IsText bs
text_said bs t e =
    let is = cond_some (is_short bs && is_text bs) (Some bs) t e in
    let parts = and_parts (is_short bs) (is_text bs) is.0 in
    (let same : bs ≡ t = (let made = is.1 in cc) in sym same, (ltb-true (length bs) 65536 parts.0, parts.1))

-- a string that is no malformed one is a text
pub text-wanted : (bs s : List ℕ) → s ≡ bs → IsUtf8 bs → ((2 ^ 16 ≤ length s) ⊎ Contains s 0 → ⊥) → IsSome (text_in bs)
text-wanted bs s is utf8 sound =
    let bad : (2 ^ 16 ≤ length bs) ⊎ Contains bs 0 → ⊥ = subst (λ (t : List ℕ). (2 ^ 16 ≤ length t) ⊎ Contains t 0 → ⊥) is sound in
    elim (cases_Bool (is_short bs)) [
      | inr long ↦ absurd (bad (inl (ltb-false (length bs) 65536 long)))
      | inl short ↦ elim (cases_Bool (list_all (λ b. not (b == 0)) bs)) [
        | inr found ↦ absurd (bad (inr (some_zero bs found)))
        | inl none ↦ (let both = and_from (is_short bs) (is_text bs) short (is_text_from bs utf8 none) in rw both refl)
      ]
    ]

text_again : (bs : List ℕ) → IsText bs → text_in bs ≡ Some bs
text_again bs h = (let both = and_from (is_short bs) (is_text bs) (lt-ltb (length bs) 65536 h.0) h.1 in rw both refl)

client_said : (key : Key) (client : List ℕ) → client_in key ≡ Some client → (key ≡ main_key client) × IsText client
client_said (kind, (owner, place)) client e =
    let is = cond_some ((kind == 2) && (length place == 0)) (text_in owner) client e in
    let parts = and_parts (kind == 2) (length place == 0) is.0 in
    let t = text_said owner client is.1 in
    (λ i. (eqb-true kind 2 parts.0 i, (sym t.0 i, none_long place (eqb-true (length place) 0 parts.1) i)), rw t.0 t.1)

client_again : (client : List ℕ) → IsText client → client_in (main_key client) ≡ Some client
client_again client h = text_again client h

-- rows that say a session, and those of one, begin with a client's
some-is : {A : Type 0} (o : Option A) (a : A) → o ≡ Some a → IsSome o
some-is None a e = absurd cc
some-is (Some x) a e = refl

pub said-client : (es : List (Key × List ℕ)) (d : Durable) → durable_in es ≡ Some d → HasClient es
said-client [] d e = absurd cc
said-client (e ∷ es) d said =
    let m = and_then_some _ (main_in e) d said in
    let client = and_then_some _ (client_in e.0) m.0 m.1 in
    some-is (client_in e.0) client.0 client.1

pub durable-client : (d : Durable) → IsDurable d → HasClient (rows_of d)
durable-client d h = some-is (client_in (main_key d.client)) d.client (client_again d.client h.form.client)

place_said : (client : List ℕ) (key : Key) (p : ℕ) → IsBytes key.1.1 → copy_place client key ≡ Some p → (key ≡ copy_key client p) × (p < 2 ^ 64)
place_said client (kind, (owner, place)) p bytes e =
    let is = cond_some ((kind == 3) && pointwise nat_eq owner client) (whole (number w64) place) p e in
    let parts = and_parts (kind == 3) (pointwise nat_eq owner client) is.0 in
    let w = whole_takes (number w64) (number_is w64 wide64) place p bytes is.1 in
    (λ i. (eqb-true kind 3 parts.0 i, (same_text owner client (sym parts.1) i, w.0 i)), w.1)

same_bytes : (xs : List ℕ) → pointwise nat_eq xs xs ≡ true
same_bytes [] = refl
same_bytes (x ∷ xs) = and_from (x == x) (pointwise nat_eq xs xs) (eq-eqb x x refl) (same_bytes xs)

place_again : (client : List ℕ) (p : ℕ) → p < 2 ^ 64 → copy_place client (copy_key client p) ≡ Some p
place_again client p h = rw (same_bytes client) (whole_again (number w64) (number_is w64 wide64) p h)

-- ---- copies
abbrev CopyFits : ℕ × Entry → Type 0
CopyFits e = (e.0 < 2 ^ 64) × (e.1.here ≡ false) × copy.Fits (copy_of e.1)

copy_said : (client : List ℕ) (e : Key × List ℕ) (x : ℕ × Entry) → HasBytes e → copy_in client e ≡ Some x → (copy_row client x ≡ e) × CopyFits x
copy_said client e x bytes is =
    let p = and_then_some (λ place. option_map (λ y. (place, y)) (option_map entry_of (whole copy e.1))) (copy_place client e.0) x is in
    let m = map_some (λ y. (p.0, y)) (option_map entry_of (whole copy e.1)) x p.2 in
    let c = map_some entry_of (whole copy e.1) m.0 m.1 in
    let key = place_said client e.0 p.0 bytes.0 p.1 in
    let value = whole_takes copy copy_is e.1 c.0 bytes.1 c.1 in
    let Made : ℕ × Entry → Type 0 = λ y. (copy_row client y ≡ e) × CopyFits y in
    let pair : Entry → ℕ × Entry = λ y. (p.0, y) in
    subst Made (ap pair c.2 ∙ m.2) ((λ i. (sym key.0 i, sym value.0 i)), (key.1, refl, value.1))

copy_again : (client : List ℕ) (x : ℕ × Entry) → CopyFits x → copy_in client (copy_row client x) ≡ Some x
copy_again client x h =
    let kept : entry_of (copy_of x.1) ≡ x.1 = (λ i. record { stage = x.1.stage; here = sym h.1 i; delivery = x.1.delivery }) in
    rw (place_again client x.0 h.0, whole_again copy copy_is (copy_of x.1) h.2, kept) refl

copies_said : (client : List ℕ) (es : List (Key × List ℕ)) (xs : Entries) → AllByRecursion HasBytes es → copies_in client es ≡ Some xs → (copy_rows client xs ≡ es) × AllByRecursion CopyFits xs
copies_said client [] xs bytes e = (let same : xs ≡ [] = sym cc in rw same (refl, tt))
copies_said client (e ∷ es) xs bytes is =
    let c = and_then_some (λ x. option_map (λ ys. x ∷ ys) (copies_in client es)) (copy_in client e) xs is in
    let m = map_some (λ ys. c.0 ∷ ys) (copies_in client es) xs c.2 in
    let one = copy_said client e c.0 bytes.0 c.1 in
    let more = copies_said client es m.0 bytes.1 m.1 in
    let Made : Entries → Type 0 = λ ys. (copy_rows client ys ≡ e ∷ es) × AllByRecursion CopyFits ys in
    subst Made m.2 (λ i. one.0 i ∷ more.0 i, (one.1, more.1))

copies_again : (client : List ℕ) (xs : Entries) → AllByRecursion CopyFits xs → copies_in client (copy_rows client xs) ≡ Some xs
copies_again client [] h = refl
copies_again client (x ∷ xs) h = rw (copy_again client x h.0, copies_again client xs h.1) refl

-- ---- a session
pub durable_said : (es : List (Key × List ℕ)) (d : Durable) → AllByRecursion HasBytes es → durable_in es ≡ Some d → (rows_of d ≡ es) × HasForm d
durable_said [] d bytes e = absurd cc
durable_said (e ∷ es) d bytes is =
    let make = λ (m : List ℕ × Main) (xs : Entries). (let made : Durable = record { client = m.0; main = m.1; copies = xs } in made) in
    let m = and_then_some (λ m. option_map (make m) (copies_in m.0 es)) (main_in e) d is in
    let c = map_some (make m.0) (copies_in m.0.0 es) d m.2 in
    let k = and_then_some (λ client. option_map (λ x. (client, x)) (whole main e.1)) (client_in e.0) m.0 m.1 in
    let v = map_some (λ x. (k.0, x)) (whole main e.1) m.0 k.2 in
    let key = client_said e.0 k.0 k.1 in
    let value = whole_takes main main_is e.1 v.0 bytes.0.1 v.1 in
    let Row : List ℕ × Main → Type 0 = λ x. ((main_key x.0, main.bytes x.1) ≡ e) × IsText x.0 × main.Fits x.1 in
    let row = subst Row v.2 ((λ i. (sym key.0 i, sym value.0 i)), key.1, value.1) in
    let more = copies_said m.0.0 es c.0 bytes.1 c.1 in
    let Made : Durable → Type 0 = λ x. (rows_of x ≡ e ∷ es) × HasForm x in
    subst Made c.2 (λ i. row.0 i ∷ more.0 i, record { client = row.1; main = row.2; copies = more.1 })

pub durable_again : (d : Durable) → HasForm d → durable_in (rows_of d) ≡ Some d
durable_again d h = rw (client_again d.client h.client, whole_again main main_is d.main h.main, copies_again d.client d.copies h.copies) refl

-- ---- what is made of rows
and_both : (a b : Bool) → a ≡ true → b ≡ true → (a && b) ≡ true
and_both true b x y = y
and_both false b x y = absurd cc

pub made : (es : List (Key × List ℕ)) (d : Durable) (o : Opened) → AllByRecursion HasBytes es → durable_in es ≡ Some d → IsSound d.main → IsReachable d.main.incoming d.copies → opened_if d ≡ Some o
    → (x : Durable) × IsDurable x × (rows_of x ≡ es) × (o ≡ opened_of x)
made es d o bytes said sound reachable is =
    let s = durable_said es d bytes said in
    let c = cond_some (rise d.main.incoming && agree d.main.next_place d.copies) (Some (opened_of d)) o is in
    let both = and_parts (rise d.main.incoming) (agree d.main.next_place d.copies) c.0 in
    (d, record { form = s.1; sound = sound; rise = both.0; agree = both.1; reachable = reachable }, s.0, (let same : opened_of d ≡ o = (let e = c.1 in cc) in sym same))

-- rows that say nothing are no session's
pub none_said : (es : List (Key × List ℕ)) (d : Durable) → IsDurable d → rows_of d ≡ es → durable_in es ≡ None → ⊥
none_said es d durable is none =
    let again = durable_again d durable.form in
    let e : durable_in es ≡ Some d = rw (← is) again in
    let bad : None ≡ Some d = sym none ∙ e in cc

same_said : (es : List (Key × List ℕ)) (d x : Durable) → IsDurable d → rows_of d ≡ es → durable_in es ≡ Some x → x ≡ d
same_said es d x durable is said =
    let again = durable_again d durable.form in
    let e : durable_in es ≡ Some d = rw (← is) again in
    let both : Some x ≡ Some d = sym said ∙ e in cc

pub not_sound : (es : List (Key × List ℕ)) (d x : Durable) → IsDurable d → rows_of d ≡ es → durable_in es ≡ Some x → (IsSound x.main → ⊥) → ⊥
not_sound es d x durable is said none = none (subst (λ (y : Durable). IsSound y.main) (sym (same_said es d x durable is said)) durable.sound)

pub not_reachable : (es : List (Key × List ℕ)) (d x : Durable) → IsDurable d → rows_of d ≡ es → durable_in es ≡ Some x → (IsReachable x.main.incoming x.copies → ⊥) → ⊥
not_reachable es d x durable is said none = none (subst (λ (y : Durable). IsReachable y.main.incoming y.copies) (sym (same_said es d x durable is said)) durable.reachable)

pub not_made : (es : List (Key × List ℕ)) (d x : Durable) → IsDurable d → rows_of d ≡ es → durable_in es ≡ Some x → opened_if x ≡ None → ⊥
not_made es d x durable is said none =
    let same = same_said es d x durable is said in
    let both = and_both (rise d.main.incoming) (agree d.main.next_place d.copies) durable.rise durable.agree in
    let e : opened_if d ≡ Some (opened_of d) = rw both refl in
    let bad : None ≡ Some (opened_of d) = sym none ∙ ap opened_if same ∙ e in cc

-- ---- what a reader of rows returns
abbrev IsMade : List (Key × List ℕ) → Opened → Type 0
IsMade es o = (x : Durable) × IsDurable x × (rows_of x ≡ es) × (o ≡ opened_of x)

pub made_ok : (r : Result Opened RowFault) (es : List (Key × List ℕ)) (d : Durable) → AllByRecursion HasBytes es → durable_in es ≡ Some d → IsSound d.main → IsReachable d.main.incoming d.copies → Opens {X = Opened} (λ o. o) r (opened_if d) → IfOk r (IsMade es)
made_ok (Ok o) es d bytes said sound reachable is = made es d o bytes said sound reachable is
made_ok (Err e) es d bytes said sound reachable is = tt

pub made_bad : (r : Result Opened RowFault) (es : List (Key × List ℕ)) (d : Durable) → durable_in es ≡ Some d → Opens {X = Opened} (λ o. o) r (opened_if d) → IsErrOf r BadRow → (x : Durable) → IsDurable x → rows_of x ≡ es → ⊥
made_bad (Ok o) es d said is bad x durable rows = absurd cc
made_bad (Err BadRow) es d said is bad x durable rows = not_made es x d durable rows said is
made_bad (Err NoMemory) es d said is bad x durable rows = absurd cc
made_bad (Err Device) es d said is bad x durable rows = absurd is

abbrev failed : RowFault → Result Opened RowFault
failed e = Err e

pub bad_stops : (r : Result Opened RowFault) (e f : RowFault) (es : List (Key × List ℕ)) → r ≡ Err f → f ≡ e → Opens {X = Durable} {Y = Durable} (λ d. d) (Err e) (durable_in es) → IsErrOf r BadRow → (x : Durable) → IsDurable x → rows_of x ≡ es → ⊥
bad_stops r BadRow f es is same said bad x durable rows = none_said es x durable rows said
bad_stops r NoMemory f es is same said bad x durable rows = (let other : failed NoMemory ≡ failed BadRow = rw (is, same) at bad in absurd cc)
bad_stops r Device f es is same said bad x durable rows = absurd said
