-- Changes of lanes lead from the rows that were told to those of the lanes.
use Rattle.std.proofs.Common.{◌≡◌, ◌≢◌, ◌⊎◌, inl, inr, ℕ, zero, suc, ◌+◌, ◌-◌, ◌<◌, ◌≤◌, ◌^◌, min, Bool, true, false, cond, ◌&&◌, ◌||◌, List, [], ◌∷◌, ◌++◌, map, length, drop, Option, Some, None, Less, append-nil, append_assoc, length-append, refl, sym, ap, subst, ◌∙◌, true≢false, arith}
use Rattle.std.specs.Prelude.{◌==◌, if◌then◌else◌}
use Rattle.std.specs.FinMap.{find}
use Rattle.std.specs.List.{AllByRecursion}
use Rattle.std.specs.Str.{bytes_eq}
use Rattle.std.proofs.lemmas.Bool.{cases_Bool, cases_eq, cases_lt, eqb-true, and_parts}
use Rattle.std.proofs.lemmas.Slice.Eq.{bytes_eq-Decides}
use Rattle.bridge_lanes.specs.Lanes.{Lanes}
use Rattle.bridge_frames.specs.declared.forward.Forward.{Forward}
use Rattle.row_store.specs.Leading.{LeadWithin, left_by, left_or, or_else}
use Rattle.row_store.specs.declared.row.Change.{Change}
use Rattle.row_store.specs.Rows.{Key, key_cmp, Plain}
use Rattle.bridge_lanes.specs.Rows.{Messages, last_put, owner, message_key, message_row, message_rows, numbers_key, numbers_value, numbers_rows, waiting_of, numbers_of, each, rows_of, row_at}
use Rattle.bridge_lanes.specs.ChangeSteps.{IsLater, changes_of, gone_count, told_count, message_changes, numbers_changes, IsSoundLane}
use Rattle.bridge_lanes.specs.Changes.{KeptLane, Left, now_of, told_of, put, removals, left_of, is_lane_kind}
use Rattle.bridge_lanes.proofs.Keys.{one_owner, later_place}
use Rattle.bridge_lanes.proofs.Order.{Rises, IsAbove, all_both, all_front, all_back, all_turned, cut_changes, cut_leads, either, either_none, find_both, find_none, gone_by, itself, left_both, left_by_in, left_in, left_none, or_else_none, other_key, rises_both, same_is, same_key}

-- ---- messages under rising numbers

pub message_both : (p n : ℕ) (xs ys : List Forward) → message_rows p n (xs ++ ys) ≡ message_rows p n xs ++ message_rows p (n + length xs) ys
message_both p n [] ys = (let same : n ≡ n + 0 = omega arith in ap (λ k. message_rows p k ys) same)
message_both p n (x ∷ xs) ys =
    let same : suc n + length xs ≡ n + suc (length xs) = omega arith in
    ap (λ zs. message_row p n x ∷ zs) (message_both p (suc n) xs ys ∙ ap (λ k. message_rows p (suc n) xs ++ message_rows p k ys) same)

pub messages_above : (p a b : ℕ) (ms : List Forward) → a < b → b + length ms ≤ 2 ^ 64 → AllByRecursion (IsAbove (message_key p a)) (message_rows p b ms)
messages_above p a b [] low few = tt
messages_above p a b (m ∷ ms) low few = (later_place p a b low (omega (arith, few)), messages_above p a (suc b) ms (omega (arith, low)) (omega (arith, few)))

pub messages_rise : (p n : ℕ) (ms : List Forward) → n + length ms ≤ 2 ^ 64 → Rises (message_rows p n ms)
messages_rise p n [] few = tt
messages_rise p n (m ∷ ms) few = (messages_above p n (suc n) ms (omega arith) (omega (arith, few)), messages_rise p (suc n) ms (omega (arith, few)))

messages_apart : (p n : ℕ) (xs : List Forward) (b : ℕ) (ys : List Forward) → n + length xs ≤ b → b + length ys ≤ 2 ^ 64 → AllByRecursion (λ x. AllByRecursion (IsAbove x.0) (message_rows p b ys)) (message_rows p n xs)
messages_apart p n [] b ys low few = tt
messages_apart p n (x ∷ xs) b ys low few = (messages_above p n b ys (omega (arith, low)) few, messages_apart p (suc n) xs b ys (omega (arith, low)) few)

three_rise : (p a b c : ℕ) (r k s : List Forward) → a + length r ≤ b → b + length k ≤ c → c + length s ≤ 2 ^ 64 → Rises (message_rows p a r ++ (message_rows p b k ++ message_rows p c s))
three_rise p a b c r k s one two three =
    rises_both (message_rows p a r) (message_rows p b k ++ message_rows p c s) (messages_rise p a r (omega (arith, one, two, three)))
    (rises_both (message_rows p b k) (message_rows p c s) (messages_rise p b k (omega (arith, two, three))) (messages_rise p c s three) (messages_apart p b k c s two three))
    (apart_both (message_rows p a r) (messages_apart p a r b k one (omega (arith, two, three))) (messages_apart p a r c s (omega (arith, one, two)) three))
  where
    apart_both : (xs : List Plain) → AllByRecursion (λ x. AllByRecursion (IsAbove x.0) (message_rows p b k)) xs → AllByRecursion (λ x. AllByRecursion (IsAbove x.0) (message_rows p c s)) xs → AllByRecursion (λ x. AllByRecursion (IsAbove x.0) (message_rows p b k ++ message_rows p c s)) xs
    apart_both [] front back = tt
    apart_both (x ∷ xs) front back = (all_both (IsAbove x.0) _ _ front.0 back.0, apart_both xs front.1 back.1)

removals_are : (p n : ℕ) (ms : List Forward) → removals p n (length ms) ≡ map gone_by (message_rows p n ms)
removals_are p n [] = refl
removals_are p n (m ∷ ms) = ap (λ cs. (message_key p n, None) ∷ cs) (removals_are p (suc n) ms)

drop_front : {A : Type 0} (xs ys : List A) → drop (length xs) (xs ++ ys) ≡ ys
drop_front [] ys = refl
drop_front (x ∷ xs) ys = drop_front xs ys

-- ---- one lane
-- at the key the changes lead from the old rows to the new
abbrev pub LeadsAt : Key → List Plain → List Plain → List Left → Type 0
LeadsAt q olds news cs = find key_cmp q news ≡ left_or (left_in cs q) (find key_cmp q olds)

module _ (p : ℕ) (k : KeptLane) (later : IsLater k) (below : last_put k.lane < 2 ^ 62) where
  abbrev a : ℕ
  a = suc k.told.gone

  abbrev b : ℕ
  b = suc k.lane.gone

  abbrev c : ℕ
  c = suc (k.lane.gone + length later.kept)

  kept_at : message_rows p (a + length later.gone) later.kept ≡ message_rows p b later.kept
  kept_at = elim later.numbers [
    | inl same ↦ (let e : a + length later.gone ≡ b = omega (arith, same) in ap (λ n. message_rows p n later.kept) e)
    | inr none ↦ ap (message_rows p (a + length later.gone)) none.0 ∙ ap (message_rows p b) (sym none.0)
  ]

  pub told_rows : waiting_of p k.told ≡ message_rows p a later.gone ++ message_rows p b later.kept
  told_rows = ap (message_rows p a) later.were ∙ message_both p a later.gone later.kept ∙ ap (λ rs. message_rows p a later.gone ++ rs) kept_at

  now_rows : waiting_of p k.lane ≡ message_rows p b later.kept ++ message_rows p c later.fresh
  now_rows =
      let same : b + length later.kept ≡ c = omega arith in
      ap (message_rows p b) later.are ∙ message_both p b later.kept later.fresh ∙ ap (λ n. message_rows p b later.kept ++ message_rows p n later.fresh) same

  no_length : later.kept ≡ [] → length later.kept ≡ 0
  no_length none = ap length none

  were_count : length k.told.waiting ≡ length later.gone + length later.kept
  were_count = ap length later.were ∙ length-append later.gone later.kept

  are_count : length k.lane.waiting ≡ length later.kept + length later.fresh
  are_count = ap length later.are ∙ length-append later.kept later.fresh

  gone_is : gone_count k ≡ length later.gone
  gone_is = elim later.numbers [
    | inl same ↦ omega (arith, same, were_count)
    | inr none ↦ omega (arith, none.1, no_length none.0, were_count)
  ]

  told_is : told_count k ≡ length later.kept
  told_is = elim later.numbers [
    | inl same ↦ omega (arith, same, were_count)
    | inr none ↦ omega (arith, none.1, no_length none.0, were_count)
  ]

  pub changes_are : message_changes p k ≡ cut_changes (message_rows p a later.gone) (message_rows p c later.fresh)
  changes_are =
      (λ i. removals p a (gone_is i) ++ map put (message_rows p (suc (k.lane.gone + told_is i)) (drop (told_is i) (later.are i))))
      ∙ λ i. removals_are p a later.gone i ++ map put (message_rows p c (drop_front later.kept later.fresh i))

  pub rows_rise : Rises (message_rows p a later.gone ++ (message_rows p b later.kept ++ message_rows p c later.fresh))
  rows_rise = three_rise p a b c later.gone later.kept later.fresh
      (elim later.numbers [ inl same ↦ omega (arith, same) | inr none ↦ omega (arith, none.1) ]) (omega arith) (omega (arith, are_count, below))

  pub messages_lead : (q : Key) → LeadsAt q (waiting_of p k.told) (waiting_of p k.lane) (message_changes p k)
  messages_lead q =
      ap (find key_cmp q) now_rows ∙ cut_leads q (message_rows p a later.gone) (message_rows p b later.kept) (message_rows p c later.fresh) rows_rise
      ∙ λ i. left_or (left_in (sym changes_are i) q) (find key_cmp q (sym told_rows i))

  -- ---- its numbers
  pub no_less : last_put k.told ≤ last_put k.lane
  no_less = elim later.numbers [
    | inl same ↦ omega (arith, same, were_count, are_count)
    | inr none ↦ omega (arith, none.1, no_length none.0, were_count, are_count)
  ]

  numbers_by : (t : Bool) → ((last_put k.told == last_put k.lane) && (k.told.took == k.lane.took)) ≡ t → (z y : Bool) → ((last_put k.told == 0) && (k.told.took == 0)) ≡ z → ((last_put k.lane == 0) && (k.lane.took == 0)) ≡ y
      → (q : Key) → LeadsAt q (numbers_of p k.told) (numbers_of p k.lane) (numbers_changes p k)
  numbers_by true same z y told now q =
      let parts = and_parts (last_put k.told == last_put k.lane) (k.told.took == k.lane.took) same in
      let one = eqb-true (last_put k.told) (last_put k.lane) parts.0 in
      let two = eqb-true k.told.took k.lane.took parts.1 in
      rw same (ap (find key_cmp q) (λ i. numbers_rows p (sym one i) (sym two i)))
  numbers_by false other z true told now q =
      let zeros = and_parts (last_put k.lane == 0) (k.lane.took == 0) now in
      let put_none = eqb-true (last_put k.lane) 0 zeros.0 in
      let took_none = eqb-true k.lane.took 0 zeros.1 in
      let one : last_put k.told ≡ last_put k.lane = omega (arith, put_none, no_less) in
      let two : k.told.took ≡ k.lane.took = omega (arith, took_none, later.took) in
      absurd (true≢false (sym (both_same (last_put k.told) (last_put k.lane) k.told.took k.lane.took one two) ∙ other))
    where
      both_same : (x y z w : ℕ) → x ≡ y → z ≡ w → ((x == y) && (z == w)) ≡ true
      both_same x y z w e f = rw (e, f) (grind arith)
  numbers_by false other true false told now q = elim (cases_Bool (same_key q (numbers_key p))) [
    | inl t ↦ rw (other, told, now, t) refl
    | inr f ↦ rw (other, told, now, f) refl
  ]
  numbers_by false other false false told now q = elim (cases_Bool (same_key q (numbers_key p))) [
    | inl t ↦ rw (other, told, now, t) refl
    | inr f ↦ rw (other, told, now, f) refl
  ]

  pub numbers_lead : (q : Key) → LeadsAt q (numbers_of p k.told) (numbers_of p k.lane) (numbers_changes p k)
  numbers_lead q = numbers_by _ refl _ _ refl refl q

-- ---- all lanes

-- all that a function gives for a node is the node's
abbrev pub IsOwn : {V : Type 0} → ℕ → Key × V → Type 0
IsOwn p e = e.0.1.0 ≡ owner p

abbrev pub GivesOwn : {X V : Type 0} → (ℕ → X → List (Key × V)) → Type 0
GivesOwn {X = X} f = (p : ℕ) (x : X) → AllByRecursion (IsOwn p) (f p x)

pub each_all : {X V : Type 0} (P : Key × V → Type 0) (f : ℕ → X → List (Key × V)) → ((p : ℕ) (x : X) → AllByRecursion P (f p x)) → (p : ℕ) (xs : List X) → AllByRecursion P (each f p xs)
each_all P f all p [] = tt
each_all P f all p (x ∷ xs) = all_both P (f p x) (each f (suc p) xs) (all p x) (each_all P f all (suc p) xs)

-- those of later nodes aren't this one's
pub each_apart : {X V : Type 0} (f : ℕ → X → List (Key × V)) → GivesOwn f → (p b : ℕ) (xs : List X) → p < b → b + length xs ≤ 2 ^ 16 → AllByRecursion (λ e. e.0.1.0 ≢ owner p) (each f b xs)
each_apart f own p b [] low few = tt
each_apart f own p b (x ∷ xs) low few =
    all_both (λ e. e.0.1.0 ≢ owner p) (f b x) (each f (suc b) xs)
    (all_turned (IsOwn b) (λ e. e.0.1.0 ≢ owner p) (f b x) (λ e is same. (let tie = one_owner b p (omega (arith, few)) (omega (arith, low, few)) (sym is ∙ same) in omega (arith, tie, low))) (own b x))
    (each_apart f own p (suc b) xs (omega (arith, low)) (omega (arith, few)))

pub by_owner : (bs cs : List ℕ) {P : Type 0} → (bs ≡ cs → P) → (bs ≢ cs → P) → P
by_owner bs cs same apart = elim (cases_Bool (bytes_eq bs cs)) [
  | inl t ↦ same ((bytes_eq-Decides bs cs).0 t)
  | inr f ↦ apart (λ e. true≢false (sym ((bytes_eq-Decides bs cs).1 e) ∙ f))
]

module _ {X : Type 0} (olds news : ℕ → X → List Plain) (cs : ℕ → X → List Left) (own_olds : GivesOwn olds) (own_news : GivesOwn news) (own_cs : GivesOwn cs) (Q : X → Type 0)
    (one : (p : ℕ) (x : X) → Q x → (q : Key) → LeadsAt q (olds p x) (news p x) (cs p x)) where
  pub each_leads : (p : ℕ) (xs : List X) → p + length xs ≤ 2 ^ 16 → AllByRecursion Q xs → (q : Key) → LeadsAt q (each olds p xs) (each news p xs) (each cs p xs)
  each_leads p [] few all q = refl
  each_leads p (x ∷ xs) few all q = by_owner q.1.0 (owner p)
      (λ is.
      let last : suc p + length xs ≤ 2 ^ 16 = omega (arith, few) in
      let Apart : Key → Type 0 = λ k. k.1.0 ≢ owner p in
      let no_old = find_none q Apart (each olds (suc p) xs) (each_apart olds own_olds p (suc p) xs (omega arith) last) (λ apart. apart is) in
      let no_new = find_none q Apart (each news (suc p) xs) (each_apart news own_news p (suc p) xs (omega arith) last) (λ apart. apart is) in
      let no_change = left_none q Apart (each cs (suc p) xs) (each_apart cs own_cs p (suc p) xs (omega arith) last) (λ apart. apart is) in
      find_both q (news p x) (each news (suc p) xs) ∙ ap (either (find key_cmp q (news p x))) no_new ∙ either_none (find key_cmp q (news p x)) ∙ one p x all.0 q
      ∙ λ i. left_or (sym (left_both q (cs p x) (each cs (suc p) xs) ∙ ap (λ l. or_else l (left_in (cs p x) q)) no_change) i)
      (sym (find_both q (olds p x) (each olds (suc p) xs) ∙ ap (either (find key_cmp q (olds p x))) no_old ∙ either_none (find key_cmp q (olds p x))) i))
      (λ apart.
      let Own : Key → Type 0 = λ k. k.1.0 ≡ owner p in
      let no_old = find_none q Own (olds p x) (own_olds p x) apart in
      let no_new = find_none q Own (news p x) (own_news p x) apart in
      let no_change = left_none q Own (cs p x) (own_cs p x) apart in
      find_both q (news p x) (each news (suc p) xs) ∙ ap (λ o. either o (find key_cmp q (each news (suc p) xs))) no_new ∙ each_leads (suc p) xs (omega (arith, few)) all.1 q
      ∙ λ i. left_or (sym (left_both q (cs p x) (each cs (suc p) xs) ∙ ap (or_else (left_in (each cs (suc p) xs) q)) no_change ∙ or_else_none (left_in (each cs (suc p) xs) q)) i)
      (sym (find_both q (olds p x) (each olds (suc p) xs) ∙ ap (λ o. either o (find key_cmp q (each olds (suc p) xs))) no_old) i))

-- ---- what is given is of a kind and a node
abbrev pub IsOf : {V : Type 0} → ℕ → ℕ → Key × V → Type 0
IsOf kind p e = (e.0.0 ≡ kind) × (e.0.1.0 ≡ owner p)

pub messages_of : (p n : ℕ) (ms : List Forward) → AllByRecursion (IsOf 7 p) (message_rows p n ms)
messages_of p n [] = tt
messages_of p n (m ∷ ms) = ((refl, refl), messages_of p (suc n) ms)

pub numbers_are : (p x y : ℕ) → AllByRecursion (IsOf 8 p) (numbers_rows p x y)
numbers_are p x y = by ((x == 0) && (y == 0))
  where
    by : (z : Bool) → AllByRecursion (IsOf 8 p) (if z then [] else (numbers_key p, numbers_value x y) ∷ [])
    by true = tt
    by false = ((refl, refl), tt)

removals_of : (p n count : ℕ) → AllByRecursion (IsOf 7 p) (removals p n count)
removals_of p n zero = tt
removals_of p n (suc count) = ((refl, refl), removals_of p (suc n) count)

puts_of : (p n : ℕ) (ms : List Forward) → AllByRecursion (IsOf 7 p) (map put (message_rows p n ms))
puts_of p n [] = tt
puts_of p n (m ∷ ms) = ((refl, refl), puts_of p (suc n) ms)

pub message_changes_of : (p : ℕ) (k : KeptLane) → AllByRecursion (IsOf 7 p) (message_changes p k)
message_changes_of p k = all_both (IsOf 7 p) (removals p (suc k.told.gone) (gone_count k)) _ (removals_of p (suc k.told.gone) (gone_count k)) (puts_of p (suc (k.lane.gone + told_count k)) (drop (told_count k) k.lane.waiting))

pub numbers_changes_of : (p : ℕ) (k : KeptLane) → AllByRecursion (IsOf 8 p) (numbers_changes p k)
numbers_changes_of p k = by ((last_put k.told == last_put k.lane) && (k.told.took == k.lane.took))
  where
    by : (z : Bool) → AllByRecursion (IsOf 8 p) (if z then [] else (numbers_key p, Some (numbers_value (last_put k.lane) k.lane.took)) ∷ [])
    by true = tt
    by false = ((refl, refl), tt)

pub owns : {V : Type 0} (kind p : ℕ) (es : List (Key × V)) → AllByRecursion (IsOf kind p) es → AllByRecursion (IsOwn p) es
owns kind p es all = all_turned (IsOf kind p) (IsOwn p) es (λ e is. is.1) all

pub kinds : {V : Type 0} (kind p : ℕ) (es : List (Key × V)) → AllByRecursion (IsOf kind p) es → AllByRecursion (λ e. e.0.0 ≡ kind) es
kinds kind p es all = all_turned (IsOf kind p) (λ e. e.0.0 ≡ kind) es (λ e is. is.0) all

pub each_map : {X Y A : Type 0} (g : X → Y) (f : ℕ → Y → List A) (p : ℕ) (xs : List X) → each f p (map g xs) ≡ each (λ n x. f n (g x)) p xs
each_map g f p [] = refl
each_map g f p (x ∷ xs) = ap (λ ys. f p (g x) ++ ys) (each_map g f (suc p) xs)

module _ (ks : List KeptLane) (few : length ks ≤ 2 ^ 16) (all : AllByRecursion IsSoundLane ks) where
  abbrev told_messages : List Plain
  told_messages = each (λ p k. waiting_of p k.told) 0 ks

  abbrev now_messages : List Plain
  now_messages = each (λ p k. waiting_of p k.lane) 0 ks

  abbrev told_numbers : List Plain
  told_numbers = each (λ p k. numbers_of p k.told) 0 ks

  abbrev now_numbers : List Plain
  now_numbers = each (λ p k. numbers_of p k.lane) 0 ks

  abbrev changed_messages : List Left
  changed_messages = each message_changes 0 ks

  abbrev changed_numbers : List Left
  changed_numbers = each numbers_changes 0 ks

  enough : 0 + length ks ≤ 2 ^ 16
  enough = omega (arith, few)

  all_messages : (q : Key) → LeadsAt q told_messages now_messages changed_messages
  all_messages = each_leads (λ p k. waiting_of p k.told) (λ p k. waiting_of p k.lane) message_changes
      (λ p k. owns 7 p _ (messages_of p (suc k.told.gone) k.told.waiting)) (λ p k. owns 7 p _ (messages_of p (suc k.lane.gone) k.lane.waiting)) (λ p k. owns 7 p _ (message_changes_of p k))
      IsSoundLane (λ p k sound q. messages_lead p k sound.0 sound.1 q) 0 ks enough all

  all_numbers : (q : Key) → LeadsAt q told_numbers now_numbers changed_numbers
  all_numbers = each_leads (λ p k. numbers_of p k.told) (λ p k. numbers_of p k.lane) numbers_changes
      (λ p k. owns 8 p _ (numbers_are p (last_put k.told) k.told.took)) (λ p k. owns 8 p _ (numbers_are p (last_put k.lane) k.lane.took)) (λ p k. owns 8 p _ (numbers_changes_of p k))
      IsSoundLane (λ p k sound q. numbers_lead p k sound.0 sound.1 q) 0 ks enough all

  abbrev Kind : ℕ → {V : Type 0} → Key × V → Type 0
  Kind n e = e.0.0 ≡ n

  whole : (q : Key) → LeadsAt q (told_messages ++ told_numbers) (now_messages ++ now_numbers) (changed_messages ++ changed_numbers)
  whole q = elim (cases_eq q.0 8) [
    | inl eight ↦
        let Seven : Key → Type 0 = λ k. k.0 ≡ 7 in
        let not : q.0 ≡ 7 → ⊥ = λ e. omega (arith, e, eight) in
        let old = find_none q Seven told_messages (each_all (λ e. e.0.0 ≡ 7) (λ p k. waiting_of p k.told) (λ p k. kinds 7 p _ (messages_of p (suc k.told.gone) k.told.waiting)) 0 ks) not in
        let new = find_none q Seven now_messages (each_all (λ e. e.0.0 ≡ 7) (λ p k. waiting_of p k.lane) (λ p k. kinds 7 p _ (messages_of p (suc k.lane.gone) k.lane.waiting)) 0 ks) not in
        let change = left_none q Seven changed_messages (each_all (λ e. e.0.0 ≡ 7) message_changes (λ p k. kinds 7 p _ (message_changes_of p k)) 0 ks) not in
        find_both q now_messages now_numbers ∙ ap (λ o. either o (find key_cmp q now_numbers)) new ∙ all_numbers q
        ∙ λ i. left_or (sym (left_both q changed_messages changed_numbers ∙ ap (or_else (left_in changed_numbers q)) change ∙ or_else_none (left_in changed_numbers q)) i)
        (sym (find_both q told_messages told_numbers ∙ ap (λ o. either o (find key_cmp q told_numbers)) old) i)
    | inr other ↦
        let Eight : Key → Type 0 = λ k. k.0 ≡ 8 in
        let old = find_none q Eight told_numbers (each_all (λ e. e.0.0 ≡ 8) (λ p k. numbers_of p k.told) (λ p k. kinds 8 p _ (numbers_are p (last_put k.told) k.told.took)) 0 ks) other in
        let new = find_none q Eight now_numbers (each_all (λ e. e.0.0 ≡ 8) (λ p k. numbers_of p k.lane) (λ p k. kinds 8 p _ (numbers_are p (last_put k.lane) k.lane.took)) 0 ks) other in
        let change = left_none q Eight changed_numbers (each_all (λ e. e.0.0 ≡ 8) numbers_changes (λ p k. kinds 8 p _ (numbers_changes_of p k)) 0 ks) other in
        find_both q now_messages now_numbers ∙ ap (either (find key_cmp q now_messages)) new ∙ either_none (find key_cmp q now_messages) ∙ all_messages q
        ∙ λ i. left_or (sym (left_both q changed_messages changed_numbers ∙ ap (λ l. or_else l (left_in changed_messages q)) change) i)
        (sym (find_both q told_messages told_numbers ∙ ap (either (find key_cmp q told_messages)) old ∙ either_none (find key_cmp q told_messages)) i)
  ]

  told_are : rows_of (told_of ks) ≡ told_messages ++ told_numbers
  told_are = λ i. each_map (λ k. k.told) waiting_of 0 ks i ++ each_map (λ k. k.told) numbers_of 0 ks i

  now_are : rows_of (now_of ks) ≡ now_messages ++ now_numbers
  now_are = λ i. each_map (λ k. k.lane) waiting_of 0 ks i ++ each_map (λ k. k.lane) numbers_of 0 ks i

  lane_kinds : AllByRecursion (λ c. is_lane_kind c.0.0 ≡ true) (changes_of ks)
  lane_kinds = all_both (λ c. is_lane_kind c.0.0 ≡ true) changed_messages changed_numbers
      (each_all (λ c. is_lane_kind c.0.0 ≡ true) message_changes (λ p k. all_turned (IsOf 7 p) (λ c. is_lane_kind c.0.0 ≡ true) (message_changes p k) (λ c is. ap is_lane_kind is.0) (message_changes_of p k)) 0 ks)
      (each_all (λ c. is_lane_kind c.0.0 ≡ true) numbers_changes (λ p k. all_turned (IsOf 8 p) (λ c. is_lane_kind c.0.0 ≡ true) (numbers_changes p k) (λ c is. ap is_lane_kind is.0) (numbers_changes_of p k)) 0 ks)

  pub lanes_lead : (out : List Change) → map left_of out ≡ changes_of ks → LeadWithin is_lane_kind (row_at (told_of ks)) (row_at (now_of ks)) out
  lanes_lead out made =
      let left : (q : Key) → left_by out q ≡ left_in (changes_of ks) q = λ q. left_by_in out q ∙ ap (λ cs. left_in cs q) made in
      record {
        own = λ q is. ap (find key_cmp q) now_are ∙ whole q ∙ λ i. left_or (sym (left q) i) (find key_cmp q (sym told_are i));
        others = λ q not. left q ∙ left_none q (λ k. is_lane_kind k.0 ≡ true) (changes_of ks) lane_kinds (λ yes. true≢false (sym yes ∙ not));
      }
