-- Property blocks are read as they are spelled.
use Rattle.std.proofs.Common.{◌≡◌, ℕ, zero, suc, ◌+◌, ◌<◌, ◌≤◌, ◌^◌, List, [], ◌∷◌, ◌++◌, length, Some, Result, Ok, Err, ◌⊎◌, inl, inr, refl, sym, ap, subst, ◌∙◌, append_assoc, arith}
use Rattle.std.specs.Prelude.{All, is_some, IsOk}
use Rattle.std.specs.Int.{w8}
use Rattle.std.specs.List.{AllByRecursion}
use Rattle.std.proofs.lemmas.List.Elements.{All-from_recursion}
use Rattle.std.proofs.lemmas.List.{append-nil, length-append}
use Rattle.std.proofs.lemmas.List.Concat.{flat_map-cons}
use Rattle.mqtt_fields.specs.declared.fault.FieldFault.{FieldFault}
use Rattle.mqtt_fields.specs.declared.fault.FieldFault.TheVariants.{Short, Malformed, NotHere, Repeated, NoMemory}
use Rattle.mqtt_fields.specs.declared.table.Place.{Place}
use Rattle.mqtt_fields.specs.declared.value.Property.{Property}
use Rattle.mqtt_fields.specs.Reading.{◌>>=◌, Fails}
use Rattle.mqtt_fields.specs.Field.{after}
use Rattle.mqtt_fields.specs.Numbers.{vbi, run_of}
use Rattle.mqtt_fields.specs.Table.{entry_of}
use Rattle.mqtt_fields.specs.Value.{value, value_bytes, VbiFits}
use Rattle.mqtt_fields.specs.Block.{kind_in, is_here_in, is_new, identifier, property_of, parts_of, property, in_block_fault, in_block, properties_at, MayStand, property_bytes, properties_bytes, properties, first_property, first_in, first_if_any, HasSpelling}
use Rattle.mqtt_fields.proofs.Laws.{IsBytes, IsBytes-after, IsField, bind_ok, ok_is, after_is, tested_is, seen_is}
use Rattle.mqtt_fields.proofs.NumberLaws.{mod_below, run_takes, run_again, wide8, number_is, vbi_is}
use Rattle.mqtt_fields.proofs.ValueLaws.{value_is, same_bytes, vbi_fits}

identifier_is : (place : Place) (before : List Property) → IsField (identifier place before)
identifier_is place before =
    tested_is (is_new place before) Repeated _ (tested_is (λ id. is_here_in place (entry_of id)) NotHere _ (tested_is (λ id. is_some (entry_of id)) Malformed _ (number_is w8 wide8)))

pub property_is : (place : Place) (before : List Property) → IsField (property place before)
unfolding property
property_is place before =
    seen_is property_of parts_of (after (identifier place before) (λ id. value (kind_in (entry_of id)))) (λ a. refl) (λ b. refl)
    (after_is (identifier place before) (λ id. value (kind_in (entry_of id))) (identifier_is place before) (λ id. value_is (kind_in (entry_of id))))

-- an identifier is one byte, so a property's spelling doesn't depend on where it stands
spelled : (place : Place) (before : List Property) (p : Property) → (property place before).Fits p → (property place before).bytes p ≡ property_bytes p
unfolding property
spelled place before p fits = let lt : p.id < 256 = fits.0.0.0.0 in rw (mod_below p.id lt) (ap (λ (ys : List ℕ). p.id ∷ ys) (same_bytes (kind_in (entry_of p.id)) p.value fits.1))

taken : (place : Place) (before : List Property) (bs : List ℕ) (x : Property × List ℕ) → IsBytes bs → (property place before).at bs ≡ Ok x → (bs ≡ property_bytes x.0 ++ x.1) × (property place before).Fits x.0
taken place before bs x fits e =
    let t = (property_is place before).takes bs x fits e in
    (t.0 ∙ ap (λ (ys : List ℕ). ys ++ x.1) (spelled place before x.0 t.1), t.1)

pub rest_fits : (place : Place) (before : List Property) (bs : List ℕ) (x : Property × List ℕ) → IsBytes bs → (property place before).at bs ≡ Ok x → IsBytes x.1
rest_fits place before bs x fits e = IsBytes-after bs (property_bytes x.0) x.1 fits (taken place before bs x fits e).0

pub shorter : (place : Place) (before : List Property) (bs : List ℕ) (x : Property × List ℕ) → IsBytes bs → (property place before).at bs ≡ Ok x → length x.1 < length bs
shorter place before bs x fits e =
    let t = taken place before bs x fits e in
    let len : length bs ≡ suc (length (value_bytes x.0.value ++ x.1)) = ap length t.0 in
    omega (arith, length-append (value_bytes x.0.value) x.1)

block_ok : {A : Type 0} (r : Result A FieldFault) (x : A) → in_block r ≡ Ok x → r ≡ Ok x
block_ok (Ok y) x e = e
block_ok (Err f) x e = absurd cc

-- fuel beyond the length changes nothing
enough_step : (place : Place) (k j : ℕ) (before : List Property) (b : ℕ) (bs : List ℕ) (r : Result (Property × List ℕ) FieldFault) → IsBytes (b ∷ bs) → (property place before).at (b ∷ bs) ≡ r
    → ((p : Property × List ℕ) → IsBytes p.1 → length p.1 ≤ length bs → properties_at place k (before ++ p.0 ∷ []) p.1 ≡ properties_at place j (before ++ p.0 ∷ []) p.1)
    → (in_block r >>= λ p. properties_at place k (before ++ p.0 ∷ []) p.1) ≡ (in_block r >>= λ p. properties_at place j (before ++ p.0 ∷ []) p.1)
enough_step place k j before b bs (Err f) fits e next = refl
enough_step place k j before b bs (Ok p) fits e next =
    let lt = shorter place before (b ∷ bs) p fits e in
    next p (IsBytes-after (b ∷ bs) (property_bytes p.0) p.1 fits (taken place before (b ∷ bs) p fits e).0) (omega arith)

enough : (place : Place) (k j : ℕ) (before : List Property) (bs : List ℕ) → IsBytes bs → length bs ≤ k → length bs ≤ j → properties_at place k before bs ≡ properties_at place j before bs
unfolding properties_at
enough place zero zero before bs fits lk lj = refl
enough place zero (suc j) before [] fits lk lj = refl
enough place zero (suc j) before (b ∷ bs) fits lk lj = absurd (omega arith)
enough place (suc k) zero before [] fits lk lj = refl
enough place (suc k) zero before (b ∷ bs) fits lk lj = absurd (omega arith)
enough place (suc k) (suc j) before [] fits lk lj = refl
enough place (suc k) (suc j) before (b ∷ bs) fits lk lj = enough_step place k j before b bs ((property place before).at (b ∷ bs)) fits refl (λ p h le. enough place k j (before ++ p.0 ∷ []) p.1 h (omega arith) (omega arith))

-- a step of the loop
pub goes_on : (place : Place) (before : List Property) (bs : List ℕ) (p : Property × List ℕ) → IsBytes bs → 0 < length bs → (property place before).at bs ≡ Ok p
    → properties_at place (length bs) before bs ≡ properties_at place (length p.1) (before ++ p.0 ∷ []) p.1
unfolding properties_at
goes_on place before [] p fits lt e = absurd (omega arith)
goes_on place before (b ∷ bs) p fits lt e =
    let less = shorter place before (b ∷ bs) p fits e in
    rw e (enough place (length bs) (length p.1) (before ++ p.0 ∷ []) p.1 (IsBytes-after (b ∷ bs) (property_bytes p.0) p.1 fits (taken place before (b ∷ bs) p fits e).0) (omega arith) (omega arith))

faulty : (place : Place) (before : List Property) (bs : List ℕ) (f : FieldFault) → 0 < length bs → (property place before).at bs ≡ Err f → properties_at place (length bs) before bs ≡ Err (in_block_fault f)
unfolding properties_at
faulty place before [] f lt e = absurd (omega arith)
faulty place before (b ∷ bs) f lt e = rw e refl

pub stops : (place : Place) (before : List Property) (bs : List ℕ) (f : FieldFault) (total : Result (List Property) FieldFault) → 0 < length bs → Fails f ((property place before).at bs)
    → properties_at place (length bs) before bs ≡ total → Fails (in_block_fault f) total
stops place before bs NoMemory total lt e so_far = tt
stops place before bs Short total lt e so_far = sym so_far ∙ faulty place before bs Short lt e
stops place before bs Malformed total lt e so_far = sym so_far ∙ faulty place before bs Malformed lt e
stops place before bs NotHere total lt e so_far = sym so_far ∙ faulty place before bs NotHere lt e
stops place before bs Repeated total lt e so_far = sym so_far ∙ faulty place before bs Repeated lt e

pub ends : (place : Place) (before : List Property) (bs : List ℕ) → length bs ≡ 0 → properties_at place (length bs) before bs ≡ Ok before
unfolding properties_at
ends place before [] e = refl
ends place before (b ∷ bs) e = absurd (omega arith)

-- nothing of a block has been read yet, or its first property has
abbrev pub Began : Place → List Property → List ℕ → List ℕ → Type 0
Began place items rest block = ((items ≡ []) × (rest ≡ block)) ⊎ IsOk ((property place []).at block)

pub first_read : (place : Place) (items : List Property) (rest block : List ℕ) → Began place items rest block → IsOk ((property place items).at rest) → IsOk ((property place []).at block)
first_read place items rest block (inl b) ok =
    subst (λ (r : List ℕ). IsOk ((property place []).at r)) b.1 (subst (λ (qs : List Property). IsOk ((property place qs).at rest)) b.0 ok)
first_read place items rest block (inr b) ok = b

pub no_memory_in : (f : FieldFault) → in_block_fault f ≡ NoMemory → f ≡ NoMemory
no_memory_in Short e = absurd cc
no_memory_in Malformed e = e
no_memory_in NotHere e = e
no_memory_in Repeated e = e
no_memory_in NoMemory e = e

properties_take : (place : Place) (k : ℕ) (before : List Property) (bs : List ℕ) (ps : List Property) → IsBytes bs → properties_at place k before bs ≡ Ok ps
    → (more : List Property) × (ps ≡ before ++ more) × (bs ≡ properties_bytes more) × MayStand place before more
unfolding properties_at
properties_take place zero before [] ps fits e = ([], sym (ok_is before ps e) ∙ sym (append-nil before), refl, tt)
properties_take place (suc k) before [] ps fits e = ([], sym (ok_is before ps e) ∙ sym (append-nil before), refl, tt)
properties_take place zero before (b ∷ bs) ps fits e = absurd cc
properties_take place (suc k) before (b ∷ bs) ps fits e =
    let a = bind_ok (in_block ((property place before).at (b ∷ bs))) (λ p. properties_at place k (before ++ p.0 ∷ []) p.1) ps e in
    let t = taken place before (b ∷ bs) a.0 fits (block_ok _ a.0 a.1) in
    let m = properties_take place k (before ++ a.0.0 ∷ []) a.0.1 ps (IsBytes-after (b ∷ bs) (property_bytes a.0.0) a.0.1 fits t.0) a.2 in
    (a.0.0 ∷ m.0, m.1 ∙ append_assoc before (a.0.0 ∷ []) m.0, t.0 ∙ ap (λ (r : List ℕ). property_bytes a.0.0 ++ r) m.2 ∙ sym (flat_map-cons property_bytes a.0.0 m.0), (t.1, m.3))

properties_again : (place : Place) (k : ℕ) (before ps : List Property) → MayStand place before ps → length (properties_bytes ps) ≤ k → properties_at place k before (properties_bytes ps) ≡ Ok (before ++ ps)
unfolding properties_at
properties_again place zero before [] fits le = ap (λ (x : List Property). Ok x) (sym (append-nil before))
properties_again place (suc k) before [] fits le = ap (λ (x : List Property). Ok x) (sym (append-nil before))
properties_again place zero before (p ∷ ps) fits le =
    let len : length (properties_bytes (p ∷ ps)) ≡ length (property_bytes p ++ properties_bytes ps) = ap length (flat_map-cons property_bytes p ps) in
    absurd (omega arith)
properties_again place (suc k) before (p ∷ ps) fits le =
    let again : (property place before).at (property_bytes p ++ properties_bytes ps) ≡ Ok (p, properties_bytes ps) = ap (λ (ys : List ℕ). (property place before).at (ys ++ properties_bytes ps)) (sym (spelled place before p fits.0)) ∙ (property_is place before).again p (properties_bytes ps) fits.0 in
    let len : length (properties_bytes (p ∷ ps)) ≡ length (property_bytes p) + length (properties_bytes ps) = ap length (flat_map-cons property_bytes p ps) ∙ length-append (property_bytes p) (properties_bytes ps) in
    let one : properties_at place (suc k) before (properties_bytes (p ∷ ps)) ≡ properties_at place (suc k) before (property_bytes p ++ properties_bytes ps) = ap (properties_at place (suc k) before) (flat_map-cons property_bytes p ps) in
    one ∙ rw again (properties_again place k (before ++ p ∷ []) ps fits.1 (omega arith)) ∙ ap (λ (x : List Property). Ok x) (append_assoc before (p ∷ []) ps)

-- properties that take all of some bytes
whole_take : (place : Place) (k : ℕ) (bs : List ℕ) (ps : List Property) → IsBytes bs → properties_at place k [] bs ≡ Ok ps → (bs ≡ properties_bytes ps) × MayStand place [] ps
whole_take place k bs ps fits e =
    let m = properties_take place k [] bs ps fits e in
    let back : m.0 ≡ ps = sym {b = m.0} m.1 in
    subst (λ (qs : List Property). (bs ≡ properties_bytes qs) × MayStand place [] qs) back (m.2, m.3)

-- a length, as many bytes, and a rest
block_take : (place : Place) (bs after block rest : List ℕ) (n : ℕ) (ps : List Property) → bs ≡ vbi.bytes n ++ after → n < 2 ^ 28 → after ≡ block ++ rest → length block ≡ n
    → block ≡ properties_bytes ps → MayStand place [] ps → (bs ≡ (properties place).bytes ps ++ rest) × (properties place).Fits ps
unfolding properties
block_take place bs after block rest n ps head small parts len spelled_so stand =
    let same : n ≡ length (properties_bytes ps) = sym len ∙ ap length spelled_so in
    let tail : after ≡ properties_bytes ps ++ rest = parts ∙ ap (λ (b : List ℕ). b ++ rest) spelled_so in
    let whole : bs ≡ (vbi.bytes (length (properties_bytes ps)) ++ properties_bytes ps) ++ rest =
    head ∙ ap (λ (k : ℕ). vbi.bytes k ++ after) same ∙ ap (λ (r : List ℕ). vbi.bytes (length (properties_bytes ps)) ++ r) tail ∙ sym (append_assoc (vbi.bytes (length (properties_bytes ps))) (properties_bytes ps) rest) in
    (whole, (omega arith, stand))

-- so of what is the same
same_take : (place : Place) (bs : List ℕ) (made x : List Property × List ℕ) → made ≡ x → (bs ≡ (properties place).bytes made.0 ++ made.1) × (properties place).Fits made.0
    → (bs ≡ (properties place).bytes x.0 ++ x.1) × (properties place).Fits x.0
same_take place bs made x e h = subst (λ (y : List Property × List ℕ). (bs ≡ (properties place).bytes y.0 ++ y.1) × (properties place).Fits y.0) e h

pub properties_is : (place : Place) → IsField (properties place)
unfolding properties
properties_is place = record {
  takes = λ bs x fits e.
      let n = bind_ok (vbi.at bs) (λ n. (run_of n.0).at n.1 >>= λ block. properties_at place (length block.0) [] block.0 >>= λ ps. Ok (ps, block.1)) x e in
      let g = bind_ok ((run_of n.0.0).at n.0.1) (λ block. properties_at place (length block.0) [] block.0 >>= λ ps. Ok (ps, block.1)) x n.2 in
      let ps = bind_ok (properties_at place (length g.0.0) [] g.0.0) (λ ps. Ok (ps, g.0.1)) x g.2 in
      let v = vbi_is.takes bs n.0 fits n.1 in
      let r = run_takes n.0.0 n.0.1 g.0 (IsBytes-after bs (vbi.bytes n.0.0) n.0.1 fits v.0) g.1 in
      let m = whole_take place (length g.0.0) g.0.0 ps.0 r.2 ps.1 in
      same_take place bs (ps.0, g.0.1) x (ok_is (ps.0, g.0.1) x ps.2) (block_take place bs n.0.1 g.0.0 g.0.1 n.0.0 ps.0 v.0 v.1 r.0 r.1 m.0 m.1);
  again = λ ps rest fits.
      let n = length (properties_bytes ps) in
      ap (properties place).at (append_assoc (vbi.bytes n) (properties_bytes ps) rest) ∙ rw (vbi_is.again n (properties_bytes ps ++ rest) fits.0, run_again (properties_bytes ps) rest, properties_again place n [] ps fits.1 (omega arith)) refl;
}

pub values_fit : (place : Place) (before ps : List Property) → MayStand place before ps → AllByRecursion (λ p. VbiFits p.value) ps
unfolding property
values_fit place before [] fits = tt
values_fit place before (p ∷ ps) fits = (vbi_fits (kind_in (entry_of p.id)) p.value fits.0.1, values_fit place (before ++ p ∷ []) ps fits.1)

-- what fits a place has a spelling
pub has_spelling : (place : Place) (ps : List Property) → (properties place).Fits ps → HasSpelling ps
unfolding properties
has_spelling place ps fits = (fits.0, values_fit place [] ps fits.1)

pub value_fits : (ps : List Property) → HasSpelling ps → All (λ p. VbiFits p.value) ps
value_fits ps fits = All-from_recursion (λ p. VbiFits p.value) ps fits.1

-- what is read has a spelling
pub read_spelled : (place : Place) (bs : List ℕ) (x : List Property × List ℕ) → IsBytes bs → (properties place).at bs ≡ Ok x → HasSpelling x.0
read_spelled place bs x fits e = has_spelling place x.0 ((properties_is place).takes bs x fits e).1

-- a block begins with its first property, if it has one
any_ok : (r : Result (Property × List ℕ) FieldFault) → IsOk r → IsOk (r >>= λ p. Ok (Some p.0))
any_ok (Ok x) ok = refl
any_ok (Err f) ok = absurd cc

in_any : (place : Place) (bs : List ℕ) (r : Result (Property × List ℕ) FieldFault) (ps : List Property) → in_block r >>= (λ p. properties_at place (length bs) ([] ++ p.0 ∷ []) p.1) ≡ Ok ps → IsOk (r >>= λ p. Ok (Some p.0))
in_any place bs (Ok x) ps e = refl
in_any place bs (Err f) ps e = absurd cc

whole_first : (place : Place) (bs : List ℕ) (ps : List Property) → properties_at place (length bs) [] bs ≡ Ok ps → IsOk (first_in place bs)
unfolding properties_at
whole_first place [] ps e = refl
whole_first place (b ∷ bs) ps e = in_any place bs ((property place []).at (b ∷ bs)) ps e

any_first : (place : Place) (bs : List ℕ) → IsOk ((property place []).at bs) → IsOk (first_in place bs)
any_first place [] ok = refl
any_first place (b ∷ bs) ok = any_ok ((property place []).at (b ∷ bs)) ok

any_block : (place : Place) (r : Result (List ℕ × List ℕ) FieldFault) → IsOk (r >>= λ block. (property place []).at block.0) → IsOk (r >>= λ block. first_in place block.0)
any_block place (Ok x) ok = any_first place x.0 ok
any_block place (Err f) ok = absurd cc

any_run : (place : Place) (r : Result (ℕ × List ℕ) FieldFault) → IsOk (r >>= λ n. (run_of n.0).at n.1 >>= λ block. (property place []).at block.0) → IsOk (r >>= λ n. (run_of n.0).at n.1 >>= λ block. first_in place block.0)
any_run place (Ok n) ok = any_block place ((run_of n.0).at n.1) ok
any_run place (Err f) ok = absurd cc

pub first_any : (place : Place) (bs : List ℕ) → IsOk (first_property place bs) → IsOk (first_if_any place bs)
first_any place bs ok = any_run place (vbi.at bs) ok

pub read_any : (place : Place) (bs : List ℕ) (x : List Property × List ℕ) → (properties place).at bs ≡ Ok x → IsOk (first_if_any place bs)
unfolding properties
read_any place bs x e =
    let n = bind_ok (vbi.at bs) (λ n. (run_of n.0).at n.1 >>= λ block. properties_at place (length block.0) [] block.0 >>= λ ps. Ok (ps, block.1)) x e in
    let g = bind_ok ((run_of n.0.0).at n.0.1) (λ block. properties_at place (length block.0) [] block.0 >>= λ ps. Ok (ps, block.1)) x n.2 in
    let ps = bind_ok (properties_at place (length g.0.0) [] g.0.0) (λ ps. Ok (ps, g.0.1)) x g.2 in
    rw (n.1, g.1) (whole_first place g.0.0 ps.0 ps.1)
