-- A client's packets, one after another.
use Rattle.std.proofs.Common.{◌≡◌, ◌≤◌, ℕ, zero, suc, ◌+◌, ◌-◌, ◌<◌, Bool, true, false, Option, List, [], ◌∷◌, ◌++◌, length, take, drop, Some, None, Result, Ok, Err, refl, sym, ap, subst, ◌∙◌, append_assoc, arith}
use Rattle.std.proofs.lemmas.List.{append-nil, drop-drop, length-drop}
use Rattle.std.specs.Prelude.{◌&&◌, IfOk, is_some}
use Rattle.mqtt_fields.specs.declared.options.Qos.{Qos}
use Rattle.mqtt_packets.specs.declared.fault.PacketFault.{PacketFault}
use Rattle.mqtt_packets.specs.declared.packet.Packet.{Packet}
use Rattle.mqtt_packets.specs.declared.packet.Packet.TheVariants as packets
use Rattle.mqtt_packets.specs.declared.publish.Publish.{Publish}
use Rattle.mqtt_packets.specs.Written.{written}
use Rattle.mqtt3_packets.specs.declared.widen.FrontPublish.{FrontPublish}
use Rattle.mqtt3_packets.specs.Stream.{IsRest, packet_at}
use Rattle.mqtt3_packets.specs.Widen.{IsWidened}
use Rattle.door_mqtt3.specs.Asked.{asked, is_refused}
use Rattle.door_mqtt3.specs.Client.{Notice, Walk, done_with, fault_bytes, halt, halts, handed, has_room, limit, opened_at, opened_by, opened_with, over, walk_at, walk_on, walk_within}
use Rattle.door_mqtt3.specs.Client.Notice.{Asks, Faults}
use Rattle.door_mqtt3.specs.Doing.{Appends, IsDone, IsOutcome, IsPassing, IsUndone, IsUntouched, IsWalk}
use Rattle.door_mqtt3.specs.declared.client.Client.{Client}
use Rattle.door_mqtt3.specs.declared.client.Order.{Order}
use Rattle.door_mqtt3.specs.declared.client.Order.TheVariants.{Coming, Waiting}
use Rattle.door_mqtt3.specs.declared.taken.Taken.{Taken}
use Rattle.door_mqtt3.proofs.Paths.{spelled_one, spelled_then}

more : (n i : ℕ) → i < n → n - i ≡ suc (n - (i + 1))
more n i lt = omega arith

pub step : (k : ℕ) (order : Order) (c : Client) (bs : List ℕ) (p : Packet) (after : List ℕ) → halts order c ≡ false → packet_at c.level limit bs ≡ Ok (Some (p, after))
    → walk_within (suc k) order c bs ≡ walk_on (done_with order c p (take (length bs - length after) bs)) (λ d. walk_within k order d after)
unfolding walk_within
step k order c bs p after on e = rw (on, e) refl

pub halted : (k : ℕ) (order : Order) (c : Client) (bs : List ℕ) → halts order c ≡ true → walk_within (suc k) order c bs ≡ halt c bs
unfolding walk_within
halted k order c bs off = rw off refl

pub unwound : (k : ℕ) (order : Order) (c : Client) (bs : List ℕ) → halts order c ≡ false → walk_within (suc k) order c bs ≡ walk_at order c bs (λ d rest. walk_within k order d rest) (packet_at c.level limit bs)
unfolding walk_within
unwound k order c bs on = rw on refl

pub none_left : (order : Order) (c : Client) (bs : List ℕ) → walk_within zero order c bs ≡ halt c bs
unfolding walk_within
none_left order c bs = refl

-- what is told and sent before a walk
abbrev pub before : List Notice → List ℕ → Walk → Walk
before ns fs w = record { client = w.client; told = ns ++ w.told; first = fs ++ w.first; rest = w.rest }

-- so much is told and sent, and this is left
pub record IsWalking (total : Walk) (n : ℕ) (order : Order) (i : ℕ) (client : Client) (rest : List ℕ) (old now : Taken) : Type 0 where
  pub notices : List Notice
  pub firsts : List ℕ
  pub told : Appends notices old.told.items now.told.items
  pub first : now.first.items ≡ old.first.items ++ firsts
  pub left : total ≡ before notices firsts (walk_within (n - i) order client rest)

pub begins : (order : Order) (c : Client) (bs : List ℕ) (n : ℕ) (old : Taken) → IsWalking (walk_within n order c bs) n order 0 c bs old old
begins order c bs n old = record {
  notices = [];
  firsts = [];
  told = ([], sym (append-nil old.told.items), refl);
  first = sym (append-nil old.first.items);
  left = let same : n ≡ n - 0 = omega arith in ap (λ (k : ℕ). walk_within k order c bs) same;
}

pub appends_then : (ns ms : List Notice) (a b c : List ℕ) → Appends ns a b → Appends ms b c → Appends (ns ++ ms) a c
appends_then ns ms a b c (xs, is, spelled) (ys, so, more) = (xs ++ ys, so ∙ ap (λ (zs : List ℕ). zs ++ ys) is ∙ append_assoc a xs ys, spelled_then ns ms xs ys spelled more)

pub appends_none : (a : List ℕ) → Appends [] a a
appends_none a = ([], sym (append-nil a), refl)

pub joined : (ns ms : List Notice) (fs gs : List ℕ) (w : Walk) → before ns fs (before ms gs w) ≡ before (ns ++ ms) (fs ++ gs) w
joined ns ms fs gs w = rw (append_assoc ns ms w.told, append_assoc fs gs w.first) refl

-- the bytes of a packet
pub bytes_of : (bs : List ℕ) (used : ℕ) → used ≤ length bs → take (length bs - length (drop used bs)) bs ≡ take used bs
bytes_of bs used le = let same : length bs - length (drop used bs) ≡ used = omega (arith, length-drop used bs) in ap (λ (k : ℕ). take k bs) same

module _ (total : Walk) (n : ℕ) (order : Order) (i : ℕ) (client : Client) (rest : List ℕ) (old now : Taken) where
  goes_on : (p : Packet) (after : List ℕ) (client' : Client) (now' : Taken) → i < n → halts order client ≡ false → packet_at client.level limit rest ≡ Ok (Some (p, after))
      → IsOutcome (done_with order client p (take (length rest - length after) rest)) client' now now' → IsWalking total n order i client rest old now → IsWalking total n order (i + 1) client' after old now'
  goes_on p after client' now' lt on e o w =
      let done = done_with order client p (take (length rest - length after) rest) in
      let next = walk_within (n - (i + 1)) order done.client after in
      record {
        notices = w.notices ++ done.told;
        firsts = w.firsts ++ done.first;
        told = appends_then w.notices done.told old.told.items now.told.items now'.told.items w.told o.told;
        first = o.first ∙ ap (λ (xs : List ℕ). xs ++ done.first) w.first ∙ append_assoc old.first.items w.firsts done.first;
        left =
            w.left ∙ ap (λ (k : ℕ). before w.notices w.firsts (walk_within k order client rest)) (more n i lt) ∙ ap (before w.notices w.firsts) (step (n - (i + 1)) order client rest p after on e)
            ∙ joined w.notices done.told w.firsts done.first next ∙ ap (λ (x : Client). before (w.notices ++ done.told) (w.firsts ++ done.first) (walk_within (n - (i + 1)) order x after)) (sym o.client);
      }

  pub goes_on_done : (used : ℕ) (client' : Client) (now' : Taken) → i < n → halts order client ≡ false → IsDone order rest used client client' now now' → IsWalking total n order i client rest old now → IsWalking total n order (i + 1) client' (drop used rest) old now'
  goes_on_done used client' now' lt on d w =
      goes_on d.packet (drop used rest) client' now' lt on d.found (subst (λ (xs : List ℕ). IsOutcome (done_with order client d.packet xs) client' now now') (sym (bytes_of rest used d.fits)) d.outcome) w

  ending : (last : Walk) (client' : Client) (rest' : List ℕ) (now' : Taken) → walk_within (n - i) order client rest ≡ last → IsWalk last rest' client' now now' → IsWalking total n order i client rest old now → IsWalk total rest' client' old now'
  ending last client' rest' now' e o w =
      let is : total ≡ before w.notices w.firsts last = w.left ∙ ap (before w.notices w.firsts) e in
      rw is (record {
        client = o.client;
        rest = o.rest;
        told = appends_then w.notices last.told old.told.items now.told.items now'.told.items w.told o.told;
        first = o.first ∙ ap (λ (xs : List ℕ). xs ++ last.first) w.first ∙ append_assoc old.first.items w.firsts last.first;
      })

  halting : (rest' : List ℕ) → walk_within (n - i) order client rest ≡ halt client rest → rest' ≡ rest → IsWalking total n order i client rest old now → IsWalk total rest' client old now
  halting rest' e same w =
      ending (halt client rest) client rest' now e (record { client = refl; rest = same; told = appends_none now.told.items; first = sym (append-nil now.first.items) }) w

  pub halts_at : (rest' : List ℕ) → i < n → halts order client ≡ true → rest' ≡ rest → IsWalking total n order i client rest old now → IsWalk total rest' client old now
  halts_at rest' lt off same w = halting rest' (ap (λ (k : ℕ). walk_within k order client rest) (more n i lt) ∙ halted (n - (i + 1)) order client rest off) same w

  pub all_done : (rest' : List ℕ) → n - i ≡ 0 → rest' ≡ rest → IsWalking total n order i client rest old now → IsWalk total rest' client old now
  all_done rest' none same w = halting rest' (ap (λ (k : ℕ). walk_within k order client rest) none ∙ none_left order client rest) same w

  pub undone_at : (rest' : List ℕ) (client' : Client) (now' : Taken) → i < n → halts order client ≡ false → IsUndone order rest client client' now now' → rest' ≡ rest → IsWalking total n order i client rest old now → IsWalk total rest' client' old now'
  undone_at rest' client' now' lt on o same w =
      let last : Walk = walk_at order client rest (λ d xs. walk_within (n - (i + 1)) order d xs) (packet_at client.level limit rest) in
      let is : walk_within (n - i) order client rest ≡ last = ap (λ (k : ℕ). walk_within k order client rest) (more n i lt) ∙ unwound (n - (i + 1)) order client rest on in
      let here : IsWalk last rest client' now now' = o (λ d xs. walk_within (n - (i + 1)) order d xs) in
      ending last client' rest' now' is (subst (λ (xs : List ℕ). IsWalk last xs client' now now') (sym same) here) w

-- a packet is handed on
pub hand_on : (c d : Client) (p q : Packet) (old new : Taken) → is_refused c.level p ≡ false → d ≡ opened_with (opened_by p) c → q ≡ asked c.bridge p
    → Appends (Asks q ∷ []) old.told.items new.told.items → new.first.items ≡ old.first.items → IsOutcome (handed c p) d old new
hand_on c d p q old new let_in opened is told first =
    let notice : Appends (Asks (asked c.bridge p) ∷ []) old.told.items new.told.items = subst (λ (x : Packet). Appends (Asks x ∷ []) old.told.items new.told.items) is told in
    rw let_in (record { client = opened; told = notice; first = first ∙ sym (append-nil old.first.items) })

pub fault_told : (f : PacketFault) (old new : List ℕ) → new ≡ old ++ fault_bytes f → Appends (Faults f ∷ []) old new
fault_told f old new is = (fault_bytes f, is, spelled_one (Faults f) (fault_bytes f) refl)

pub rest_same : (bs : List ℕ) → IsRest bs bs
rest_same bs = let none : length bs - length bs ≡ 0 = omega arith in (omega arith, ap (λ (n : ℕ). drop n bs) (sym none))

pub rest_then : (bs rest : List ℕ) (used : ℕ) (after : List ℕ) → used ≤ length rest → after ≡ drop used rest → IsRest bs rest → IsRest bs after
rest_then bs rest used after le is last =
    let len : length after ≡ length rest - used = ap length is ∙ length-drop used rest in
    let le' = last.0 in
    let n : (length bs - length rest) + used ≡ length bs - length after = omega arith in
    (omega arith, is ∙ ap (drop used) last.1 ∙ drop-drop used (length bs - length rest) bs ∙ ap (λ (k : ℕ). drop k bs) n)

-- ---- the packet in front

pub undone_none : (order : Order) (c : Client) (bs : List ℕ) (t : Taken) → packet_at c.level limit bs ≡ Ok None → IsUndone order bs c c t t
undone_none order c bs t e = λ next. rw e (record { client = refl; rest = refl; told = appends_none t.told.items; first = sym (append-nil t.first.items) })

pub undone_fault : (order : Order) (c d : Client) (bs : List ℕ) (f : PacketFault) (old new : Taken) → packet_at c.level limit bs ≡ Err f → d ≡ over c
    → Appends (Faults f ∷ []) old.told.items new.told.items → new.first.items ≡ old.first.items → IsUndone order bs c d old new
undone_fault order c d bs f old new e ended told first = λ next. rw e (record { client = ended; rest = refl; told = told; first = first ∙ sym (append-nil old.first.items) })

pub read_done : (order : Order) (c d : Client) (p : Packet) (bs : List ℕ) (used : ℕ) (old new : Taken) → used ≤ length bs → packet_at c.level limit bs ≡ Ok (Some (p, drop used bs))
    → IsOutcome (done_with order c p (take used bs)) d old new → IsDone order bs used c d old new
read_done order c d p bs used old new le e o = record { packet = p; fits = le; found = e; outcome = o }

passing_then : (order : Order) (bs : List ℕ) (c m d : Client) (old between new : Taken) (o : Option ℕ) → IsUntouched c m old between → IsPassing order bs m d between new o → IsPassing order bs c d old new o
passing_then order bs c m d old between new o u h =
    subst (λ (x : Client). IsPassing order bs x d old new o) u.client (subst (λ (t : Taken). IsPassing order bs m d t new o) u.taken h)

pub passed_then : {E : Type 0} (order : Order) (bs : List ℕ) (c m d : Client) (old between new : Taken) (r : Result (Option ℕ) E) → IsUntouched c m old between → IfOk r (λ o. IsPassing order bs m d between new o) → IfOk r (λ o. IsPassing order bs c d old new o)
passed_then order bs c m d old between new (Ok o) u h = passing_then order bs c m d old between new o u h
passed_then order bs c m d old between new (Err e) u h = h

never : (b : Bool) → (b && false) ≡ false
never true = refl
never false = refl

-- a PUBLISH doesn't wait where nothing is held back and there is room
publish_handed : (order : Order) (c : Client) (p : Publish) (bytes : List ℕ) → length c.held ≡ 0 → has_room c ≡ true → done_with order c (packets.Publish p) bytes ≡ handed c (packets.Publish p)
publish_handed Coming c p bytes none room = rw (none, room, never (is_some (opened_at p.qos p.identifier))) refl
publish_handed Waiting c p bytes none room = refl

pub publish_done : (c d : Client) (bs : List ℕ) (x : FrontPublish) (old new : Taken) → length c.held ≡ 0 → has_room c ≡ true → IsWidened limit bs x old.told.items new.told.items
    → d ≡ opened_with (opened_at x.qos x.identifier) c → new.first.items ≡ old.first.items → (order : Order) → IsDone order bs x.used c d old new
publish_done c d bs x old new none room w opened first order =
    let p : Packet = packets.Publish w.told in
    let same : opened_at x.qos x.identifier ≡ opened_by p = ap (λ (q : Qos). opened_at q x.identifier) w.same_qos ∙ ap (opened_at w.told.qos) w.same_identifier in
    let told : Appends (Asks p ∷ []) old.told.items new.told.items = (written p, w.appended, spelled_one (Asks p) (written p) ((λ has. refl), (λ not. absurd (not w.has_spelling)))) in
    record {
      packet = p;
      fits = w.fits;
      found = w.found c.level;
      outcome = rw (publish_handed order c w.told (take x.used bs) none room) (hand_on c d p p old new refl (opened ∙ ap (λ (o : Option ℕ). opened_with o c) same) refl told first);
    }
