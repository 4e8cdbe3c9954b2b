-- Rows cut by their nodes.
use Rattle.std.proofs.Common.{◌≡◌, ◌≢◌, ℕ, suc, ◌+◌, ◌<◌, ◌≤◌, ◌^◌, List, [], ◌∷◌, ◌++◌, map, length, append_assoc, append-nil, length-append, refl, sym, ap, subst, ◌∙◌, arith}
use Rattle.std.specs.Prelude.{Vec, Result, Ok, Err}
use Rattle.std.specs.List.{AllByRecursion}
use Rattle.std.specs.declared.alloc.Global.{Global}
use Rattle.mqtt_fields.specs.declared.fault.FieldFault.{FieldFault}
use Rattle.mqtt_fields.specs.declared.fault.FieldFault.TheVariants.{Short, Malformed, Repeated, NotHere, NoMemory}
use Rattle.bridge_lanes.specs.declared.reading.ReadLane.{ReadLane}
use Rattle.std.proofs.Common.{take, drop}
use Rattle.row_store.specs.declared.row.Row.{Row}
use Rattle.row_store.specs.Rows.{entry_of, Plain}
use Rattle.bridge_lanes.specs.Lanes.{Lanes}
use Rattle.bridge_frames.specs.declared.forward.Forward.{Forward}
use Rattle.bridge_lanes.specs.Rows.{Messages, each, numbers_of, rows_of, waiting_of}
use Rattle.mqtt_fields.specs.Reading.{Finds}
use Rattle.bridge_lanes.specs.Reading.{AreLanes, AreLanesOf, AreParts, lane_in, IsLane, IsLaneOf, IsMessageRow, IsPeers, StartsApart}
use Rattle.bridge_lanes.proofs.Lists.{mapped_both}
use Rattle.bridge_lanes.proofs.Order.{all_both, all_turned}
use Rattle.bridge_lanes.proofs.Leading.{IsOf, each_all, each_apart, kinds, messages_of, numbers_are, owns}

-- ---- a list is cut in one way
pub one_cut : (P : Plain → Type 0) (xs ys zs ws : List Plain) → xs ++ ys ≡ zs ++ ws → AllByRecursion P xs → AllByRecursion P zs → StartsApart P ys → StartsApart P ws → (xs ≡ zs) × (ys ≡ ws)
one_cut P [] ys [] ws same own mine apart other = (refl, same)
one_cut P [] [] (z ∷ zs) ws same own mine apart other = absurd (cc)
one_cut P [] (y ∷ ys) (z ∷ zs) ws same own mine apart other = (let tie : y ≡ z = cc in absurd (apart (subst P (sym tie) mine.0)))
one_cut P (x ∷ xs) ys [] [] same own mine apart other = absurd (cc)
one_cut P (x ∷ xs) ys [] (w ∷ ws) same own mine apart other = (let tie : x ≡ w = cc in absurd (other (subst P tie own.0)))
one_cut P (x ∷ xs) ys (z ∷ zs) ws same own mine apart other =
    let tie : x ≡ z = cc in
    let rest : xs ++ ys ≡ zs ++ ws = cc in
    let cut = one_cut P xs ys zs ws rest own.1 mine.1 apart other in
    (λ i. tie i ∷ cut.0 i, cut.1)

pub starts : (P : Plain → Type 0) (es : List Plain) → AllByRecursion (λ e. P e → ⊥) es → StartsApart P es
starts P [] all = tt
starts P (e ∷ es) all = all.0

-- rows cut at the first that isn't of a kind
pub record IsCut (P : Plain → Type 0) (rest mine others : List Row) : Type 0 where
  pub are : map entry_of rest ≡ map entry_of mine ++ map entry_of others
  pub own : AllByRecursion P (map entry_of mine)
  pub apart : StartsApart P (map entry_of others)

pub is_cut : (P : Plain → Type 0) (rest mine others : List Row) (count : ℕ) → rest ≡ mine ++ others → mine ≡ take count rest → others ≡ drop count rest
    → AllByRecursion P (map entry_of (take count rest)) → StartsApart P (map entry_of (drop count rest)) → IsCut P rest mine others
is_cut P rest mine others count is front back own apart = record {
  are = ap (map entry_of) is ∙ mapped_both entry_of mine others;
  own = subst (λ (rs : List Row). AllByRecursion P (map entry_of rs)) (sym front) own;
  apart = subst (λ (rs : List Row). StartsApart P (map entry_of rs)) (sym back) apart;
}

-- ---- lane by lane
abbrev pub Tail : ℕ → ℕ → List Plain → List Plain → Type 0
Tail nodes peer left last = (tail : List Messages) × (peer + length tail ≡ nodes) × AllByRecursion IsLane tail × (left ≡ each waiting_of peer tail) × (last ≡ each numbers_of peer tail)

-- the lanes of the first nodes have been read, and whatever lanes have all the rows, those of the other nodes have what is left
pub record IsReading (nodes peer : ℕ) (messages numbers : List Plain) (lanes : List Messages) (left last : List Plain) : Type 0 where
  pub sound : AllByRecursion IsLane lanes
  pub count : length lanes ≡ peer
  pub waiting : messages ≡ each waiting_of 0 lanes ++ left
  pub last_are : numbers ≡ each numbers_of 0 lanes ++ last
  pub rest : (all : Lanes Forward) → AreParts nodes messages numbers all → Tail nodes peer left last

pub none_read : (nodes : ℕ) (messages numbers : List Plain) (lanes : List Messages) → lanes ≡ [] → IsReading nodes 0 messages numbers lanes messages numbers
none_read nodes messages numbers lanes none = subst (λ (ls : List Messages). IsReading nodes 0 messages numbers ls messages numbers) (sym none) (record {
  sound = tt;
  count = refl;
  waiting = refl;
  last_are = refl;
  rest = λ all are. (all, (let count : 0 + length all ≡ nodes = omega (arith, are.lanes_are.count) in count), are.lanes_are.sound, are.waiting, are.last);
})

pub each_last : {A B : Type 0} (f : ℕ → A → List B) (p : ℕ) (xs : List A) (x : A) → each f p (xs ++ x ∷ []) ≡ each f p xs ++ f (p + length xs) x
each_last f p [] x = (let same : p ≡ p + 0 = omega arith in append-nil (f p x) ∙ ap (λ n. f n x) same)
each_last f p (y ∷ xs) x =
    let same : suc p + length xs ≡ p + suc (length xs) = omega arith in
    ap (λ ys. f p y ++ ys) (each_last f (suc p) xs x ∙ ap (λ n. each f (suc p) xs ++ f n x) same) ∙ sym (append_assoc (f p y) (each f (suc p) xs) (f (p + suc (length xs)) x))

all_last : {A : Type 0} (P : A → Type 0) (xs : List A) (x : A) → AllByRecursion P xs → P x → AllByRecursion P (xs ++ x ∷ [])
all_last P xs x all one = all_both P xs (x ∷ []) all (one, tt)

-- the front of what is left, at a tail of lanes that has it
front_is : (f : ℕ → Messages → List Plain) → ((p : ℕ) (l : Messages) → AllByRecursion (IsPeers p) (f p l)) → (peer : ℕ) (l : Messages) (tail : List Messages) (left mine others : List Plain) → peer + suc (length tail) ≤ 2 ^ 16
    → left ≡ f peer l ++ each f (suc peer) tail → left ≡ mine ++ others → AllByRecursion (IsPeers peer) mine → StartsApart (IsPeers peer) others → (f peer l ≡ mine) × (each f (suc peer) tail ≡ others)
front_is f own peer l tail left mine others few is cut here apart =
    one_cut (IsPeers peer) (f peer l) (each f (suc peer) tail) mine others (sym is ∙ cut) (own peer l) here
    (starts (IsPeers peer) (each f (suc peer) tail) (each_apart f own peer (suc peer) tail (omega arith) (omega (arith, few)))) apart

waiting_own : (p : ℕ) (l : Messages) → AllByRecursion (IsPeers p) (waiting_of p l)
waiting_own p l = owns 7 p _ (messages_of p (suc l.gone) l.waiting)

numbers_own : (p : ℕ) (l : Messages) → AllByRecursion (IsPeers p) (numbers_of p l)
numbers_own p l = owns 8 p _ (numbers_are p _ l.took)

module _ (nodes peer : ℕ) (messages numbers : List Plain) (lanes : List Messages) (left last mine others own later : List Plain) (small : nodes < 2 ^ 16) (inside : peer < nodes)
    (r : IsReading nodes peer messages numbers lanes left last) (left_are : left ≡ mine ++ others) (last_are : last ≡ own ++ later)
    (mine_own : AllByRecursion (IsPeers peer) mine) (own_own : AllByRecursion (IsPeers peer) own) (others_apart : StartsApart (IsPeers peer) others) (later_apart : StartsApart (IsPeers peer) later) where
  -- whatever lanes have all the rows, one has those of this node, and others have the rest
  abbrev Next : Type 0
  Next = (l : Messages) × IsLaneOf peer mine own l × Tail nodes (suc peer) others later

  next : Tail nodes peer left last → Next
  next ([], count, all, is, was) = absurd (omega (arith, count, inside))
  next (l ∷ tail, count, all, is, was) =
      let few : peer + suc (length tail) ≤ 2 ^ 16 = omega (arith, count, small) in
      let one = front_is waiting_of waiting_own peer l tail left mine others few is left_are mine_own others_apart in
      let two = front_is numbers_of numbers_own peer l tail last own later few was last_are own_own later_apart in
      (l, record { sound = all.0; waiting = sym one.0; numbers = sym two.0 }, (tail, omega (arith, count), all.1, sym one.1, sym two.1))

  pub none_there : ((l : Messages) → IsLaneOf peer mine own l → ⊥) → (all : Lanes Forward) → AreParts nodes messages numbers all → ⊥
  none_there none all are = (let n = next (r.rest all are) in none n.0 n.1)

  pub one_read : (new : List Messages) (l : Messages) → new ≡ lanes ++ l ∷ [] → IsLaneOf peer mine own l → IsReading nodes (peer + 1) messages numbers new others later
  one_read new l pushed is = subst (λ (ls : List Messages). IsReading nodes (peer + 1) messages numbers ls others later) (sym pushed) (record {
    sound = all_last IsLane lanes l r.sound is.sound;
    count = (let grown = length-append lanes (l ∷ []) in omega (arith, grown, r.count));
    waiting = more waiting_of left mine others messages r.waiting left_are is.waiting;
    last_are = more numbers_of last own later numbers r.last_are last_are is.numbers;
    rest = λ all are. (let n = next (r.rest all are) in let t = n.2 in (t.0, omega (arith, t.1), t.2, at_next waiting_of t.0 others t.3, at_next numbers_of t.0 later t.4));
  })
    where
      at_next : (f : ℕ → Messages → List Plain) (tail : List Messages) (es : List Plain) → es ≡ each f (suc peer) tail → es ≡ each f (peer + 1) tail
      at_next f tail es e = (let same : suc peer ≡ peer + 1 = omega arith in e ∙ ap (λ n. each f n tail) same)

      more : (f : ℕ → Messages → List Plain) (rest here there all : List Plain) → all ≡ each f 0 lanes ++ rest → rest ≡ here ++ there → here ≡ f peer l → all ≡ each f 0 (lanes ++ l ∷ []) ++ there
      more f rest here there all so cut here_is =
          let at : 0 + length lanes ≡ peer = omega (arith, r.count) in
          so ∙ ap (λ es. each f 0 lanes ++ es) (cut ∙ ap (λ es. es ++ there) here_is) ∙ sym (append_assoc (each f 0 lanes) (f peer l) there)
          ∙ ap (λ es. es ++ there) (ap (λ n. each f 0 lanes ++ f n l) (sym at) ∙ sym (each_last f 0 lanes l))

no_more : {A : Type 0} (nodes peer : ℕ) (xs : List A) → peer + length xs ≡ nodes → nodes ≤ peer → xs ≡ []
no_more nodes peer [] count end = refl
no_more nodes peer (x ∷ xs) count end = absurd (omega (arith, count, end))

pub all_read : (nodes peer : ℕ) (messages numbers : List Plain) (lanes : List Messages) (left last : List Plain) → peer ≡ nodes → left ≡ [] → last ≡ [] → IsReading nodes peer messages numbers lanes left last → AreParts nodes messages numbers lanes
all_read nodes peer messages numbers lanes left last end none gone r = record {
  lanes_are = record { count = r.count ∙ end; sound = r.sound };
  waiting = r.waiting ∙ ap (λ es. each waiting_of 0 lanes ++ es) none ∙ append-nil (each waiting_of 0 lanes);
  last = r.last_are ∙ ap (λ es. each numbers_of 0 lanes ++ es) gone ∙ append-nil (each numbers_of 0 lanes);
}

pub none_left : (nodes peer : ℕ) (messages numbers : List Plain) (lanes : List Messages) (left last : List Plain) → peer ≡ nodes → IsReading nodes peer messages numbers lanes left last
    → ((left ≡ []) × (last ≡ []) → ⊥) → (all : Lanes Forward) → AreParts nodes messages numbers all → ⊥
none_left nodes peer messages numbers lanes left last end r some all are =
    let t = r.rest all are in
    let none : t.0 ≡ [] = no_more nodes peer t.0 t.1 (omega (arith, end)) in
    some (t.3 ∙ ap (each waiting_of peer) none, t.4 ∙ ap (each numbers_of peer) none)

-- ---- all rows, cut by kind
pub parts_of : (nodes : ℕ) (rows messages numbers : List Plain) (lanes : Lanes Forward) → rows ≡ messages ++ numbers → AllByRecursion IsMessageRow messages → StartsApart IsMessageRow numbers
    → AreLanesOf nodes rows lanes → AreParts nodes messages numbers lanes
parts_of nodes rows messages numbers lanes cut own apart are =
    let both = one_cut IsMessageRow (each waiting_of 0 lanes) (each numbers_of 0 lanes) messages numbers (sym are.is ∙ cut)
    (each_all IsMessageRow waiting_of (λ p l. kinds 7 p _ (messages_of p (suc l.gone) l.waiting)) 0 lanes) own
    (starts IsMessageRow (each numbers_of 0 lanes) (each_all (λ e. IsMessageRow e → ⊥) numbers_of (λ p l. all_turned (IsOf 8 p) (λ e. IsMessageRow e → ⊥) _ (λ e is seven. omega (arith, is.0, seven)) (numbers_are p _ l.took)) 0 lanes)) apart in
    record { lanes_are = are.lanes_are; waiting = sym both.0; last = sym both.1 }

pub of_parts : (nodes : ℕ) (rows messages numbers : List Plain) (lanes : Lanes Forward) → rows ≡ messages ++ numbers → AreParts nodes messages numbers lanes → AreLanesOf nodes rows lanes
of_parts nodes rows messages numbers lanes cut are = record { lanes_are = are.lanes_are; is = cut ∙ λ i. are.waiting i ++ are.last i }

pub all_found : (nodes : ℕ) (rows messages numbers : List Plain) → rows ≡ messages ++ numbers → AllByRecursion IsMessageRow messages → StartsApart IsMessageRow numbers → (r : Result (Vec ReadLane Global) FieldFault)
    → Finds {X = Vec ReadLane Global} {A = Lanes Forward} (λ lanes. map lane_in lanes.items) (AreParts nodes messages numbers) r → Finds {X = Vec ReadLane Global} {A = Lanes Forward} (λ lanes. map lane_in lanes.items) (AreLanesOf nodes rows) r
all_found nodes rows messages numbers cut own apart (Ok lanes) found = of_parts nodes rows messages numbers _ cut found
all_found nodes rows messages numbers cut own apart (Err NoMemory) found = tt
all_found nodes rows messages numbers cut own apart (Err Short) none = λ all are. none all (parts_of nodes rows messages numbers all cut own apart are)
all_found nodes rows messages numbers cut own apart (Err Malformed) none = λ all are. none all (parts_of nodes rows messages numbers all cut own apart are)
all_found nodes rows messages numbers cut own apart (Err Repeated) none = λ all are. none all (parts_of nodes rows messages numbers all cut own apart are)
all_found nodes rows messages numbers cut own apart (Err NotHere) none = λ all are. none all (parts_of nodes rows messages numbers all cut own apart are)
