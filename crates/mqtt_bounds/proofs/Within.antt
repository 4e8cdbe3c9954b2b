-- Which packets go on.
use Rattle.std.proofs.Common.{◌≡◌, ◌≢◌, ◌≤◌, ◌<◌, ◌+◌, ℕ, zero, suc, Bool, true, false, cond, not, ◌&&◌, ◌||◌, eqb, ltb, ◌⊎◌, List, [], ◌∷◌, ◌++◌, length, take, drop, map, min, Option, Some, None, is_none, is_some, refl, sym, ap, subst, ◌∙◌, inl, inr, arith}
use Rattle.std.specs.List.{AllByRecursion, filter, list_all}
use Rattle.std.proofs.lemmas.Bool.{cases_Bool, eq-eqb, le-ltb, ltb-false}
use Rattle.std.proofs.lemmas.List.{append-nil, length-drop, length-take}
use Rattle.std.proofs.lemmas.Option.{same_Some}
use Rattle.std.proofs.Math.ListN.{drop_of_length-le}
use Rattle.mqtt_fields.specs.Properties.{first_four, first_value}
use Rattle.mqtt_fields.specs.Value.{as_four}
use Rattle.mqtt_fields.specs.declared.value.Property.{Property}
use Rattle.mqtt_fields.specs.declared.value.Value.TheVariants.{Four}
use Rattle.mqtt_packets.specs.declared.connect.Connect.{Connect}
use Rattle.mqtt_packets.specs.declared.ended.Ended.{Ended}
use Rattle.mqtt_packets.specs.declared.packet.Packet.{Packet}
use Rattle.mqtt_packets.specs.declared.packet.Packet.TheVariants as packets
use Rattle.mqtt_packets.specs.declared.publish.Publish.{Publish}
use Rattle.mqtt_packets.specs.declared.subscribe.Subscribe.{Subscribe}
use Rattle.mqtt_packets.specs.declared.subscribe.SubscribeFilter.{SubscribeFilter}
use Rattle.mqtt_bounds.specs.Bounded.{all_refused, bounded, codes_of, connect_by, disconnect_by, ends_if_refused, filter_code, fitting, four_of, four_put, is_asked, publish_by, publish_code, refusal, shorter_of, smaller, subscribe_verdict, told_in, user_properties}
use Rattle.mqtt_bounds.specs.Bounds.{is_above, levels}
use Rattle.mqtt_bounds.specs.Laws.{AreUpTo, ExpiresWithin, GoesWhereWithin, IsPublishWithin, IsSubscribeWithin, IsUpTo, IsWithin, OnlyWithinGoes}
use Rattle.mqtt_bounds.specs.declared.bounds.Bounds.{Bounds}
use Rattle.mqtt_bounds.specs.declared.verdict.Mend.{Mend}
use Rattle.mqtt_bounds.specs.declared.verdict.Mend.TheVariants as mends
use Rattle.mqtt_bounds.specs.declared.verdict.Verdict.{Verdict}
use Rattle.mqtt_bounds.specs.declared.verdict.Verdict.TheVariants as verdicts

-- ---- counts

taken : (n : ℕ) (fs : List SubscribeFilter) → length fs ≤ n → take n fs ≡ fs
taken zero [] le = refl
taken (suc n) [] le = refl
taken zero (f ∷ fs) le = absurd (omega arith)
taken (suc n) (f ∷ fs) le = ap (λ (xs : List SubscribeFilter). f ∷ xs) (taken n fs (omega arith))

pub up_to : (most : Option ℕ) (count : ℕ) → is_above most count ≡ false → IsUpTo most count
up_to None count e = tt
up_to (Some most) count e = ltb-false most count e

pub not_above : (most : Option ℕ) (count : ℕ) → IsUpTo most count → is_above most count ≡ false
not_above None count le = refl
not_above (Some most) count le = le-ltb most count le

-- ---- Session Expiry Intervals

within_case : (m a : ℕ) (t : Bool) → ltb m a ≡ t → cond t (Some m) None ≡ None → a ≤ m
within_case m a true p e = absurd cc
within_case m a false p e = ltb-false m a p

none_within : (most asked : Option ℕ) → shorter_of most asked ≡ None → AreUpTo most asked
none_within None None e = tt
none_within None (Some a) e = tt
none_within (Some m) None e = tt
none_within (Some m) (Some a) e = within_case m a (ltb m a) refl e

within_none : (most asked : Option ℕ) → AreUpTo most asked → shorter_of most asked ≡ None
within_none None asked le = refl
within_none (Some m) None le = refl
within_none (Some m) (Some a) le = let e : ltb m a ≡ false = le-ltb m a le in rw e refl

some_case : (m x : ℕ) (t : Bool) → cond t (Some m) None ≡ Some x → m ≡ x
some_case m x true e = same_Some m x e
some_case m x false e = absurd cc

some_is : (most asked : Option ℕ) (x : ℕ) → shorter_of most asked ≡ Some x → IsUpTo most x
some_is None asked x e = absurd cc
some_is (Some m) None x e = absurd cc
some_is (Some m) (Some a) x e = let same : m ≡ x = some_case m x (ltb m a) e in omega arith

put_case : (id n : ℕ) (p : Property) (ps : List Property) (t : Bool) → eqb p.id id ≡ t → first_value id (filter (λ q. not (eqb q.id id)) ps ++ four_of id n ∷ []) ≡ Some (Four n)
    → first_value id (cond (not t) (p ∷ filter (λ q. not (eqb q.id id)) ps) (filter (λ q. not (eqb q.id id)) ps) ++ four_of id n ∷ []) ≡ Some (Four n)
put_case id n p ps true e rest = rest
put_case id n p ps false e rest = rw e rest

put_value : (id n : ℕ) (ps : List Property) → first_value id (filter (λ q. not (eqb q.id id)) ps ++ four_of id n ∷ []) ≡ Some (Four n)
put_value id n [] = let e : eqb id id ≡ true = eq-eqb id id refl in rw e refl
put_value id n (p ∷ ps) = put_case id n p ps (eqb p.id id) refl (put_value id n ps)

put_four : (id n : ℕ) (ps : List Property) → first_four id (four_put id n ps) ≡ Some n
put_four id n ps = let e = put_value id n ps in rw e refl

put_within : (b : Bounds) (x : ℕ) (ps : List Property) → shorter_of b.longest_expiry (first_four 17 ps) ≡ Some x → ExpiresWithin b (four_put 17 x ps)
put_within b x ps e =
    let is : first_four 17 (four_put 17 x ps) ≡ Some x = put_four 17 x ps in
    subst (AreUpTo b.longest_expiry) (sym is) (some_is b.longest_expiry (first_four 17 ps) x e)

-- ---- CONNECT and DISCONNECT

connect_same : (b : Bounds) (c : Connect) (o : Option ℕ) (m : Mend) → shorter_of b.longest_expiry (first_four 17 c.properties) ≡ o → connect_by b c o ≡ verdicts.Goes m → ExpiresWithin b c.properties
connect_same b c None m is e = none_within b.longest_expiry (first_four 17 c.properties) is
connect_same b c (Some x) m is e = absurd cc

connect_other : (b : Bounds) (full : Bool) (c : Connect) (q : Packet) (o : Option ℕ) (m : Mend) → shorter_of b.longest_expiry (first_four 17 c.properties) ≡ o → connect_by b c o ≡ verdicts.Becomes q m → IsWithin b full q
connect_other b full c q None m is e = absurd cc
connect_other b full c q (Some x) m is e =
    let changed : Connect = record c { properties = four_put 17 x c.properties } in
    let same : packets.Connect changed ≡ q = cc in
    subst (IsWithin b full) same (put_within b x c.properties is)

disconnect_same : (b : Bounds) (c : Ended) (o : Option ℕ) (m : Mend) → shorter_of b.longest_expiry (first_four 17 c.properties) ≡ o → disconnect_by c o ≡ verdicts.Goes m → ExpiresWithin b c.properties
disconnect_same b c None m is e = none_within b.longest_expiry (first_four 17 c.properties) is
disconnect_same b c (Some x) m is e = absurd cc

disconnect_other : (b : Bounds) (full : Bool) (c : Ended) (q : Packet) (o : Option ℕ) (m : Mend) → shorter_of b.longest_expiry (first_four 17 c.properties) ≡ o → disconnect_by c o ≡ verdicts.Becomes q m → IsWithin b full q
disconnect_other b full c q None m is e = absurd cc
disconnect_other b full c q (Some x) m is e =
    let changed : Ended = record c { properties = four_put 17 x c.properties } in
    let same : packets.Disconnect changed ≡ q = cc in
    subst (IsWithin b full) same (put_within b x c.properties is)

-- ---- PUBLISH

code_none : (x y z : Bool) (c d : ℕ) → cond (x || y) (Some c) (cond z (Some d) None) ≡ None → (x ≡ false) × (y ≡ false) × (z ≡ false)
code_none true y z c d e = absurd cc
code_none false true z c d e = absurd cc
code_none false false true c d e = absurd cc
code_none false false false c d e = (refl, refl, refl)

ends_case : (t : Bool) (r : ℕ) (o : Option Packet) (v : Verdict) → cond t (verdicts.Ends r) (verdicts.Refused o) ≡ v → (v ≡ verdicts.Ends r) ⊎ (v ≡ verdicts.Refused o)
ends_case true r o v e = inl (sym e)
ends_case false r o v e = inr (sym e)

publish_none : (p : Publish) (o : Option ℕ) (m : Mend) → publish_by p o ≡ verdicts.Goes m → o ≡ None
publish_none p None m e = refl
publish_none p (Some r) m e = elim (ends_case (ends_if_refused p) r (refusal p r) (verdicts.Goes m) e) [ inl x ↦ absurd cc | inr x ↦ absurd cc ]

publish_kept : (p : Publish) (o : Option ℕ) (q : Packet) (m : Mend) → publish_by p o ≡ verdicts.Becomes q m → ⊥
publish_kept p None q m e = absurd cc
publish_kept p (Some r) q m e = elim (ends_case (ends_if_refused p) r (refusal p r) (verdicts.Becomes q m) e) [ inl x ↦ absurd cc | inr x ↦ absurd cc ]

publish_same : (b : Bounds) (full : Bool) (p : Publish) (m : Mend) → bounded b full (packets.Publish p) ≡ verdicts.Goes m → IsPublishWithin b full p
publish_same b full p m e =
    let all = code_none full (is_above b.most_properties (user_properties p.properties)) (is_above b.most_levels (levels p.topic)) 151 144 (publish_none p (publish_code b full p) m e) in
    record { room = all.0; properties = up_to b.most_properties (user_properties p.properties) all.1; levels = up_to b.most_levels (levels p.topic) all.2 }

publish_goes : (b : Bounds) (full : Bool) (p : Publish) → IsPublishWithin b full p → bounded b full (packets.Publish p) ≡ verdicts.Goes mends.Nothing
publish_goes b full p within =
    let one : is_above b.most_properties (user_properties p.properties) ≡ false = not_above b.most_properties (user_properties p.properties) within.properties in
    let two : is_above b.most_levels (levels p.topic) ≡ false = not_above b.most_levels (levels p.topic) within.levels in
    let room : full ≡ false = within.room in
    rw (room, one, two) refl

-- ---- SUBSCRIBE

-- behind the last filter that may be there is none
none_behind : (b : Bounds) (xs : List SubscribeFilter) → list_all is_none (map (filter_code b true) xs) ≡ true → xs ≡ []
none_behind b [] e = refl
none_behind b (x ∷ xs) e = absurd cc

both_true : (x y : Bool) → (x && y) ≡ true → (x ≡ true) × (y ≡ true)
both_true true true e = (refl, refl)
both_true true false e = absurd cc
both_true false y e = absurd cc

all_apart : {A : Type 0} (p : A → Bool) (xs ys : List A) → list_all p (xs ++ ys) ≡ true → (list_all p xs ≡ true) × (list_all p ys ≡ true)
all_apart p [] ys e = (refl, e)
all_apart p (x ∷ xs) ys e =
    let one = both_true (p x) (list_all p (xs ++ ys)) e in
    let rest = all_apart p xs ys one.1 in
    let first : p x ≡ true = one.0 in
    (rw first rest.0, rest.1)

fits_all : (most : Option ℕ) (count : ℕ) → count ≤ fitting most count → IsUpTo most count
fits_all None count le = tt
fits_all (Some m) count le = omega arith

fits_so : (most : Option ℕ) (count : ℕ) → IsUpTo most count → fitting most count ≡ count
fits_so None count le = refl
fits_so (Some m) count le = omega arith

fits_within : (most : Option ℕ) (count n : ℕ) → n ≤ fitting most count → IsUpTo most n
fits_within None count n le = tt
fits_within (Some m) count n le = omega arith

level_case : (c : ℕ) (t : Bool) → is_none (cond t (Some c) None) ≡ true → t ≡ false
level_case c true e = absurd cc
level_case c false e = refl

none_levels : (b : Bounds) (xs : List SubscribeFilter) → list_all is_none (map (filter_code b false) xs) ≡ true → AllByRecursion (λ f. IsUpTo b.most_levels (levels f.filter)) xs
none_levels b [] e = tt
none_levels b (f ∷ fs) e =
    let one = both_true (is_none (filter_code b false f)) (list_all is_none (map (filter_code b false) fs)) e in
    (up_to b.most_levels (levels f.filter) (level_case 143 (is_above b.most_levels (levels f.filter)) one.0), none_levels b fs one.1)

levels_none : (b : Bounds) (xs : List SubscribeFilter) → AllByRecursion (λ f. IsUpTo b.most_levels (levels f.filter)) xs → list_all is_none (map (filter_code b false) xs) ≡ true
levels_none b [] all = refl
levels_none b (f ∷ fs) all =
    let one : is_above b.most_levels (levels f.filter) ≡ false = not_above b.most_levels (levels f.filter) all.0 in
    rw one (levels_none b fs all.1)

asked_case : (b : Bounds) (f : SubscribeFilter) (fs : List SubscribeFilter) (t : Bool) → is_asked b false f ≡ t → AllByRecursion (λ g. IsUpTo b.most_levels (levels g.filter)) (filter (is_asked b false) fs)
    → AllByRecursion (λ g. IsUpTo b.most_levels (levels g.filter)) (cond t (f ∷ filter (is_asked b false) fs) (filter (is_asked b false) fs))
asked_case b f fs true e rest = (up_to b.most_levels (levels f.filter) (level_case 143 (is_above b.most_levels (levels f.filter)) e), rest)
asked_case b f fs false e rest = rest

asked_levels : (b : Bounds) (xs : List SubscribeFilter) → AllByRecursion (λ f. IsUpTo b.most_levels (levels f.filter)) (filter (is_asked b false) xs)
asked_levels b [] = tt
asked_levels b (f ∷ fs) = asked_case b f fs (is_asked b false f) refl (asked_levels b fs)

shorter_case : (f : SubscribeFilter) (fs gs : List SubscribeFilter) (t : Bool) → length gs ≤ length fs → length (cond t (f ∷ gs) gs) ≤ suc (length fs)
shorter_case f fs gs true le = omega arith
shorter_case f fs gs false le = omega arith

fewer : (p : SubscribeFilter → Bool) (xs : List SubscribeFilter) → length (filter p xs) ≤ length xs
fewer p [] = omega arith
fewer p (x ∷ xs) = shorter_case x xs (filter p xs) (p x) (fewer p xs)

-- where it is full all are refused
full_all : (b : Bounds) (xs ys : List SubscribeFilter) → list_all is_some (map (filter_code b true) xs ++ map (filter_code b true) ys) ≡ true
full_all b [] [] = refl
full_all b [] (y ∷ ys) = full_all b [] ys
full_all b (x ∷ xs) ys = full_all b xs ys

goes_case : (x y : Bool) (r w : Verdict) (m : Mend) → ((n : Mend) → w ≡ verdicts.Goes n → ⊥) → ((n : Mend) → r ≡ verdicts.Goes n → ⊥) → cond x (verdicts.Goes mends.Nothing) (cond y r w) ≡ verdicts.Goes m → x ≡ true
goes_case true y r w m last first e = refl
goes_case false true r w m last first e = absurd (first m e)
goes_case false false r w m last first e = absurd (last m e)

pub becomes_case : (x y : Bool) (r w v : Verdict) (q : Packet) (m : Mend) → (r ≡ verdicts.Becomes q m → ⊥) → cond x (verdicts.Goes mends.Nothing) (cond y r w) ≡ verdicts.Becomes q m → (y ≡ false) × (w ≡ verdicts.Becomes q m)
becomes_case true y r w v q m none e = absurd cc
becomes_case false true r w v q m none e = absurd (none e)
becomes_case false false r w v q m none e = (refl, e)

not_true : (t : Bool) → not t ≡ true → t ≡ false
not_true true e = absurd cc
not_true false e = refl

all_there : (b : Bounds) (fs : List SubscribeFilter) → list_all is_none (codes_of b false fs) ≡ true → (length fs ≤ fitting b.most_filters (length fs)) × (list_all is_none (map (filter_code b false) fs) ≡ true)
all_there b fs e =
    let n : ℕ = fitting b.most_filters (length fs) in
    let parts = all_apart is_none (map (filter_code b false) (take n fs)) (map (filter_code b true) (drop n fs)) e in
    let none : drop n fs ≡ [] = none_behind b (drop n fs) parts.1 in
    let len : length (drop n fs) ≡ 0 = ap length none in
    let le : length fs ≤ n = omega (arith, len, length-drop n fs) in
    let whole : take n fs ≡ fs = taken n fs le in
    (le, subst (λ (xs : List SubscribeFilter). list_all is_none (map (filter_code b false) xs) ≡ true) whole parts.0)

subscribe_same : (b : Bounds) (full : Bool) (s : Subscribe) (m : Mend) → subscribe_verdict b full s ≡ verdicts.Goes m → IsSubscribeWithin b full s
subscribe_same b full s m e =
    let codes = codes_of b full s.filters in
    let goes : (not full && list_all is_none codes) ≡ true =
    goes_case (not full && list_all is_none codes) (list_all is_some codes) (verdicts.Refused (Some (all_refused s.identifier codes)))
    (verdicts.Becomes (packets.Subscribe (smaller b full s)) (mends.Suback s.identifier codes)) m (λ n z. absurd cc) (λ n z. absurd cc) e in
    let both = both_true (not full) (list_all is_none codes) goes in
    let room : full ≡ false = not_true full both.0 in
    let all = all_there b s.filters (subst (λ (t : Bool). list_all is_none (codes_of b t s.filters) ≡ true) room both.1) in
    record { room = room; filters = fits_all b.most_filters (length s.filters) all.0; levels = none_levels b s.filters all.1 }

pub becomes_full : (b : Bounds) (full : Bool) (fs : List SubscribeFilter) → list_all is_some (codes_of b full fs) ≡ false → full ≡ false
becomes_full b true fs e =
    let n : ℕ = fitting b.most_filters (length fs) in
    let all : list_all is_some (codes_of b true fs) ≡ true = full_all b (take n fs) (drop n fs) in
    absurd cc
becomes_full b false fs e = refl

smaller_within : (b : Bounds) (s : Subscribe) → IsSubscribeWithin b false (smaller b false s)
smaller_within b s =
    let n : ℕ = fitting b.most_filters (length s.filters) in
    let few = fewer (is_asked b false) (take n s.filters) in
    let short : length (take n s.filters) ≤ n = omega (arith, length-take n s.filters) in
    record { room = refl; filters = fits_within b.most_filters (length s.filters) (length (filter (is_asked b false) (take n s.filters))) (omega (arith, few, short)); levels = asked_levels b (take n s.filters) }

subscribe_other : (b : Bounds) (full : Bool) (s : Subscribe) (q : Packet) (m : Mend) → subscribe_verdict b full s ≡ verdicts.Becomes q m → IsWithin b full q
subscribe_other b full s q m e =
    let codes = codes_of b full s.filters in
    let made = becomes_case (not full && list_all is_none codes) (list_all is_some codes) (verdicts.Refused (Some (all_refused s.identifier codes)))
    (verdicts.Becomes (packets.Subscribe (smaller b full s)) (mends.Suback s.identifier codes)) (verdicts.Goes mends.Nothing) q m (λ z. absurd cc) e in
    let room : full ≡ false = becomes_full b full s.filters made.0 in
    let becomes : verdicts.Becomes (packets.Subscribe (smaller b full s)) (mends.Suback s.identifier codes) ≡ verdicts.Becomes q m = made.1 in
    let same : packets.Subscribe (smaller b full s) ≡ q = cc in
    let there : IsSubscribeWithin b full (smaller b full s) = subst (λ (t : Bool). IsSubscribeWithin b t (smaller b t s)) (sym room) (smaller_within b s) in
    subst (IsWithin b full) same there

subscribe_goes : (b : Bounds) (full : Bool) (s : Subscribe) → IsSubscribeWithin b full s → subscribe_verdict b full s ≡ verdicts.Goes mends.Nothing
subscribe_goes b full s within =
    let n : ℕ = fitting b.most_filters (length s.filters) in
    let all : n ≡ length s.filters = fits_so b.most_filters (length s.filters) within.filters in
    let front : take n s.filters ≡ s.filters = taken n s.filters (omega arith) in
    let behind : drop n s.filters ≡ [] = drop_of_length-le s.filters (omega arith) in
    let codes : codes_of b false s.filters ≡ map (filter_code b false) s.filters ++ [] =
    ap (λ (xs : List SubscribeFilter). map (filter_code b false) xs ++ map (filter_code b true) (drop n s.filters)) front
    ∙ ap (λ (xs : List SubscribeFilter). map (filter_code b false) s.filters ++ map (filter_code b true) xs) behind in
    let none : list_all is_none (codes_of b false s.filters) ≡ true =
    ap (list_all is_none) (codes ∙ append-nil (map (filter_code b false) s.filters)) ∙ levels_none b s.filters within.levels in
    let room : full ≡ false = within.room in
    let is : subscribe_verdict b false s ≡ verdicts.Goes mends.Nothing = rw none refl in
    subst (λ (t : Bool). subscribe_verdict b t s ≡ verdicts.Goes mends.Nothing) (sym room) is

-- ---- all packets

pub same_within : (b : Bounds) (full : Bool) (p : Packet) (m : Mend) → bounded b full p ≡ verdicts.Goes m → IsWithin b full p
same_within b full (packets.Connect c) m e = connect_same b c (shorter_of b.longest_expiry (first_four 17 c.properties)) m refl e
same_within b full (packets.Connack c) m e = tt
same_within b full (packets.Publish p) m e = publish_same b full p m e
same_within b full (packets.Puback a) m e = tt
same_within b full (packets.Pubrec a) m e = tt
same_within b full (packets.Pubrel a) m e = tt
same_within b full (packets.Pubcomp a) m e = tt
same_within b full (packets.Subscribe s) m e = subscribe_same b full s m e
same_within b full (packets.Suback s) m e = tt
same_within b full (packets.Unsubscribe u) m e = tt
same_within b full (packets.Unsuback u) m e = tt
same_within b full packets.Pingreq m e = tt
same_within b full packets.Pingresp m e = tt
same_within b full (packets.Disconnect d) m e = disconnect_same b d (shorter_of b.longest_expiry (first_four 17 d.properties)) m refl e
same_within b full (packets.Auth a) m e = tt

pub other_within : (b : Bounds) (full : Bool) (p q : Packet) (m : Mend) → bounded b full p ≡ verdicts.Becomes q m → IsWithin b full q
other_within b full (packets.Connect c) q m e = connect_other b full c q (shorter_of b.longest_expiry (first_four 17 c.properties)) m refl e
other_within b full (packets.Connack c) q m e = absurd cc
other_within b full (packets.Publish p) q m e = absurd (publish_kept p (publish_code b full p) q m e)
other_within b full (packets.Puback a) q m e = absurd cc
other_within b full (packets.Pubrec a) q m e = absurd cc
other_within b full (packets.Pubrel a) q m e = absurd cc
other_within b full (packets.Pubcomp a) q m e = absurd cc
other_within b full (packets.Subscribe s) q m e = subscribe_other b full s q m e
other_within b full (packets.Suback s) q m e = absurd cc
other_within b full (packets.Unsubscribe u) q m e = absurd cc
other_within b full (packets.Unsuback u) q m e = absurd cc
other_within b full packets.Pingreq q m e = absurd cc
other_within b full packets.Pingresp q m e = absurd cc
other_within b full (packets.Disconnect d) q m e = disconnect_other b full d q (shorter_of b.longest_expiry (first_four 17 d.properties)) m refl e
other_within b full (packets.Auth a) q m e = absurd cc

pub goes_within : GoesWhereWithin
goes_within b full (packets.Connect c) within =
    let none : shorter_of b.longest_expiry (first_four 17 c.properties) ≡ None = within_none b.longest_expiry (first_four 17 c.properties) within in
    (told_in b None, ap (connect_by b c) none)
goes_within b full (packets.Connack c) within = (mends.Nothing, refl)
goes_within b full (packets.Publish p) within = (mends.Nothing, publish_goes b full p within)
goes_within b full (packets.Puback a) within = (mends.Nothing, refl)
goes_within b full (packets.Pubrec a) within = (mends.Nothing, refl)
goes_within b full (packets.Pubrel a) within = (mends.Nothing, refl)
goes_within b full (packets.Pubcomp a) within = (mends.Nothing, refl)
goes_within b full (packets.Subscribe s) within = (mends.Nothing, subscribe_goes b full s within)
goes_within b full (packets.Suback s) within = (mends.Nothing, refl)
goes_within b full (packets.Unsubscribe u) within = (mends.Nothing, refl)
goes_within b full (packets.Unsuback u) within = (mends.Nothing, refl)
goes_within b full packets.Pingreq within = (mends.Nothing, refl)
goes_within b full packets.Pingresp within = (mends.Nothing, refl)
goes_within b full (packets.Disconnect d) within =
    let none : shorter_of b.longest_expiry (first_four 17 d.properties) ≡ None = within_none b.longest_expiry (first_four 17 d.properties) within in
    (mends.Nothing, ap (disconnect_by d) none)
goes_within b full (packets.Auth a) within = (mends.Nothing, refl)

pub only_within : OnlyWithinGoes
only_within = record { same = same_within; other = other_within }
