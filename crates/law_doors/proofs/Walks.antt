-- What a client's packets come to, one after another.
use Rattle.std.proofs.Common.{◌≡◌, ℕ, zero, suc, ◌-◌, ◌≤◌, ◌⊎◌, inl, inr, Bool, true, false, cond, List, [], ◌∷◌, ◌++◌, length, take, Option, Some, None, Result, Ok, Err, refl, sym, ap, subst, ◌∙◌, append_assoc, arith}
use Rattle.std.specs.Prelude.{◌==◌, ◌&&◌, ◌||◌, not, map, nat_lt, is_some}
use Rattle.std.specs.List.{filter, list_all, list_any}
use Rattle.std.proofs.lemmas.Bool.{eqb-true}
use Rattle.std.proofs.lemmas.List.{append-nil, nil_from_length}
use Rattle.std.proofs.lemmas.List.Folds.{list_all-append}
use Rattle.mqtt_fields.proofs.Laws.{IsBytes}
use Rattle.mqtt_packets.specs.declared.fault.PacketFault.{PacketFault}
use Rattle.mqtt_packets.specs.declared.fault.PacketFault.TheVariants.{ProtocolError}
use Rattle.mqtt_packets.specs.declared.packet.Packet.{Packet}
use Rattle.mqtt_packets.specs.declared.packet.Packet.TheVariants as packets
use Rattle.mqtt_packets.specs.Stream.{Cut, before}
use Rattle.mqtt_packets.proofs.GrowLaws.{IsBytes-both}
use Rattle.mqtt3_packets.specs.Stream.{packet_at}
use Rattle.mqtt3_packets.specs.declared.level.Level.{Level}
use Rattle.door_mqtt3.specs.Asked.{asked, is_refused}
use Rattle.door_mqtt3.specs.Client.{Outcome, Walk, dropped_if, front_handed, halt, handed, has_room, is_disconnect, limit, opened_by, opened_with, over, overrun, overtakes, received, rejected, waits, withheld}
use Rattle.door_mqtt3.specs.Client.Notice.{Asks, Faults}
use Rattle.door_mqtt3.specs.declared.client.Client.{Client}
use Rattle.law_doors.specs.Cut.{cut, cut_within}
use Rattle.law_doors.specs.Turns.{asked_in, takes_turns}
use Rattle.law_doors.proofs.Cuts.{cut_none, cut_nothing, cut_some, own_bytes, sound, whole_then, within_none, within_some, within_zero}
use Rattle.law_doors.proofs.Growing.{packet_less, packet_rest}
use Rattle.law_doors.proofs.Steps.{coming, goes, halted, hands, none_left, stops_coming, stops_waiting, then_walk, waiting, walk_by}

-- ---- a client that has ended stays so

pub not_both : {A : Type 0} (b : Bool) → b ≡ true → b ≡ false → A
not_both b t f = absurd cc

abbrev EndedStops : (Client → Bool) → Type 0
EndedStops stops = (c : Client) → c.ended ≡ true → stops c ≡ true

coming_stops : EndedStops stops_coming
coming_stops c e = e

waiting_stops : EndedStops stops_waiting
waiting_stops c e = rw e refl

module _ (stops : Client → Bool) (done : Client → Packet → List ℕ → Outcome) (h : EndedStops stops) where
  stays_ended : (k : ℕ) (c : Client) (bs : List ℕ) → c.ended ≡ true → (walk_by stops done k c bs).client.ended ≡ true
  stays_ended zero c bs e = ap (λ (w : Walk). w.client.ended) (none_left stops done c bs) ∙ e
  stays_ended (suc k) c bs e = ap (λ (w : Walk). w.client.ended) (halted stops done k c bs (h c e)) ∙ e

  went_case : (k : ℕ) (c : Client) (bs : List ℕ) (b : Bool) → c.ended ≡ b → (walk_by stops done k c bs).client.ended ≡ false → b ≡ false
  went_case k c bs true e on = not_both (walk_by stops done k c bs).client.ended (stays_ended k c bs e) on
  went_case k c bs false e on = refl

  went_by : (k : ℕ) (c : Client) (bs : List ℕ) → (walk_by stops done k c bs).client.ended ≡ false → c.ended ≡ false
  went_by k c bs on = went_case k c bs c.ended refl on

pub went_coming : (k : ℕ) (c : Client) (bs : List ℕ) → (coming k c bs).client.ended ≡ false → c.ended ≡ false
went_coming k c bs on = went_by stops_coming received coming_stops k c bs on

pub went_waiting : (k : ℕ) (c : Client) (bs : List ℕ) → (waiting k c bs).client.ended ≡ false → c.ended ≡ false
went_waiting k c bs on = went_by stops_waiting hands waiting_stops k c bs on

-- ---- one packet

front_over : (c : Client) (r : Result (Option (Packet × List ℕ)) PacketFault) → (front_handed c r).client.ended ≡ true
front_over c (Ok (Some x)) = refl
front_over c (Ok None) = refl
front_over c (Err f) = refl

-- it is held back
abbrev pub kept_back : Client → List ℕ → Outcome
kept_back c bytes = record { client = record c { held = c.held ++ bytes }; told = []; first = [] }

-- it is handed on
abbrev pub passed : Client → Packet → Outcome
passed c p = record { client = opened_with (opened_by p) c; told = Asks (asked c.bridge p) ∷ []; first = [] }

withheld_case : (c : Client) (bytes : List ℕ) (t : Bool) → (cond t (overrun c) (kept_back c bytes)).client.ended ≡ false → cond t (overrun c) (kept_back c bytes) ≡ kept_back c bytes
withheld_case c bytes true on = not_both (overrun c).client.ended (front_over c (packet_at c.level limit c.held)) on
withheld_case c bytes false on = refl

abbrev pub refused : Client → Outcome
refused c = record { client = over c; told = Faults ProtocolError ∷ []; first = rejected }

handed_case : (c : Client) (p : Packet) (t : Bool) → (cond t (refused c) (passed c p)).client.ended ≡ false → cond t (refused c) (passed c p) ≡ passed c p
handed_case c p true on = absurd cc
handed_case c p false on = refl

handed_is : (c : Client) (p : Packet) → (handed c p).client.ended ≡ false → handed c p ≡ passed c p
handed_is c p on = handed_case c p (is_refused c.level p) on

withheld_is : (c : Client) (bytes : List ℕ) → (withheld c bytes).client.ended ≡ false → withheld c bytes ≡ kept_back c bytes
withheld_is c bytes on = withheld_case c bytes (nat_lt (limit - length c.held) (length bytes)) on

-- it waits, or it is handed on
abbrev Received : Client → Packet → List ℕ → Outcome → Type 0
Received c p bytes o = ((waits c p ≡ true) × (o ≡ kept_back c bytes)) ⊎ ((waits c p ≡ false) × (o ≡ passed c p))

received_case : (c : Client) (p : Packet) (bytes : List ℕ) (t d : Bool) → waits c p ≡ t → d ≡ false → (cond t (withheld c bytes) (handed (dropped_if d c) p)).client.ended ≡ false
    → Received c p bytes (cond t (withheld c bytes) (handed (dropped_if d c) p))
received_case c p bytes true d e off on = inl (e, withheld_is c bytes on)
received_case c p bytes false true e off on = absurd cc
received_case c p bytes false false e off on = inr (e, handed_is c p on)

received_is : (c : Client) (p : Packet) (bytes : List ℕ) → is_disconnect p ≡ false → (received c p bytes).client.ended ≡ false → Received c p bytes (received c p bytes)
received_is c p bytes off on = received_case c p bytes (waits c p) (is_disconnect p) refl off on

-- all but its exchanges is as it was
pub record IsLike (c d : Client) : Type 0 where
  pub level : d.level ≡ c.level
  pub bridge : d.bridge ≡ c.bridge
  pub served : d.served ≡ c.served
  pub held : d.held ≡ c.held
  pub partial : d.partial ≡ c.partial

pub opened_case : (c : Client) (o : Option ℕ) → IsLike c (opened_with o c)
opened_case c None = record { level = refl; bridge = refl; served = refl; held = refl; partial = refl }
opened_case c (Some n) = record { level = refl; bridge = refl; served = refl; held = refl; partial = refl }

pub passed_like : (c : Client) (p : Packet) → IsLike c (passed c p).client
passed_like c p = opened_case c (opened_by p)

pub like_then : (c d e : Client) → IsLike c d → IsLike d e → IsLike c e
like_then c d e a b = record { level = b.level ∙ a.level; bridge = b.bridge ∙ a.bridge; served = b.served ∙ a.served; held = b.held ∙ a.held; partial = b.partial ∙ a.partial }

pub like_same : (c : Client) → IsLike c c
like_same c = record { level = refl; bridge = refl; served = refl; held = refl; partial = refl }

-- ---- which packets overtake

pub asked_overtakes : (b : Bool) (p : Packet) → overtakes (asked b p) ≡ overtakes p
asked_overtakes true (packets.Subscribe s) = refl
asked_overtakes false (packets.Subscribe s) = refl
asked_overtakes b p = refl

empty_turn : (t b : Bool) → cond t b true ≡ false → t ≡ true
empty_turn true b e = refl
empty_turn false b e = absurd cc

turn_case : (c : Client) (p : Packet) (t : Bool) → overtakes p ≡ t → t ≡ false → waits c p ≡ false → (length c.held == 0) ≡ true
turn_case c p true e f w = absurd cc
turn_case c p false e f w = let x = rw e at w in empty_turn (length c.held == 0) (is_some (opened_by p) && not (has_room c)) x

nothing_held : (c : Client) (p : Packet) → overtakes p ≡ false → waits c p ≡ false → c.held ≡ []
nothing_held c p e w = nil_from_length c.held (eqb-true (length c.held) 0 (turn_case c p (overtakes p) refl e w))

overtaken_case : (c : Client) (p : Packet) (t : Bool) → overtakes p ≡ t → waits c p ≡ true → t ≡ false
overtaken_case c p true e w = let x = rw e at w in absurd cc
overtaken_case c p false e w = refl

overtaken : (c : Client) (p : Packet) → waits c p ≡ true → overtakes p ≡ false
overtaken c p w = overtaken_case c p (overtakes p) refl w

turns_then : (ps : List Packet) (p : Packet) → list_all takes_turns ps ≡ true → overtakes p ≡ false → list_all takes_turns (ps ++ p ∷ []) ≡ true
turns_then ps p all e = list_all-append takes_turns ps (p ∷ []) ∙ rw (all, e) refl

-- ---- all packets of some bytes

-- the walk took these packets: those that overtake were told, the others too, but for the last, which are held back
pub record IsWalked (c : Client) (ps : List Packet) (w : Walk) (t : Cut) : Type 0 where
  pub cuts : t ≡ sound t.packets w.rest
  pub level : w.client.level ≡ c.level
  pub bridge : w.client.bridge ≡ c.bridge
  pub served : w.client.served ≡ c.served
  pub held : List Packet
  pub bytes : IsBytes w.client.held
  pub whole : cut c.level w.client.held ≡ sound held []
  pub turns : list_all takes_turns held ≡ true
  pub overtaking : filter overtakes (asked_in w.told) ≡ map (asked c.bridge) (filter overtakes t.packets)
  pub in_turn : filter takes_turns (asked_in w.told) ++ map (asked c.bridge) held ≡ map (asked c.bridge) (ps ++ filter takes_turns t.packets)

walked_none : (c : Client) (ps : List Packet) (bs : List ℕ) → IsBytes c.held → cut c.level c.held ≡ sound ps [] → list_all takes_turns ps ≡ true → IsWalked c ps (halt c bs) (sound [] bs)
walked_none c ps bs fits e turns = record {
  cuts = refl;
  level = refl;
  bridge = refl;
  served = refl;
  held = ps;
  bytes = fits;
  whole = e;
  turns = turns;
  overtaking = refl;
  in_turn = ap (map (asked c.bridge)) (sym (append-nil ps));
}

sound_then : (p : Packet) (t : Cut) (rest : List ℕ) → t ≡ sound t.packets rest → before (p ∷ []) t ≡ sound (p ∷ t.packets) rest
sound_then p t rest e = ap (before (p ∷ [])) e

module _ (c : Client) (ps : List Packet) (p : Packet) (w : Walk) (t : Cut) where
  -- the first of them waits
  walked_kept : (bytes : List ℕ) → overtakes p ≡ false → IsWalked (kept_back c bytes).client (ps ++ p ∷ []) w t → IsWalked c ps (then_walk (kept_back c bytes) w) (before (p ∷ []) t)
  walked_kept bytes e h = record {
    cuts = sound_then p t w.rest h.cuts;
    level = h.level;
    bridge = h.bridge;
    served = h.served;
    held = h.held;
    bytes = h.bytes;
    whole = h.whole;
    turns = h.turns;
    overtaking = rw e h.overtaking;
    in_turn = h.in_turn ∙ ap (map (asked c.bridge)) (append_assoc ps (p ∷ []) (filter takes_turns t.packets)) ∙ rw e refl;
  }

  -- the first of them is handed on, and overtakes
  walked_over : overtakes p ≡ true → IsWalked (passed c p).client ps w t → IsWalked c ps (then_walk (passed c p) w) (before (p ∷ []) t)
  walked_over e h =
      let like = passed_like c p in
      let own : overtakes (asked c.bridge p) ≡ true = asked_overtakes c.bridge p ∙ e in
      let b = like.bridge in
      record {
        cuts = sound_then p t w.rest h.cuts;
        level = h.level ∙ like.level;
        bridge = h.bridge ∙ b;
        served = h.served ∙ like.served;
        held = h.held;
        bytes = h.bytes;
        whole = subst (λ (l : Level). cut l w.client.held ≡ sound h.held []) like.level h.whole;
        turns = h.turns;
        overtaking = rw (own, e) (ap (λ (xs : List Packet). asked c.bridge p ∷ xs) (subst (λ (x : Bool). filter overtakes (asked_in w.told) ≡ map (asked x) (filter overtakes t.packets)) b h.overtaking));
        in_turn = rw (own, e) (subst (λ (x : Bool). filter takes_turns (asked_in w.told) ++ map (asked x) h.held ≡ map (asked x) (ps ++ filter takes_turns t.packets)) b h.in_turn);
      }

  -- the first of them is handed on, and none waits
  walked_on : ps ≡ [] → overtakes p ≡ false → IsWalked (passed c p).client ps w t → IsWalked c ps (then_walk (passed c p) w) (before (p ∷ []) t)
  walked_on none e h =
      let like = passed_like c p in
      let own : overtakes (asked c.bridge p) ≡ false = asked_overtakes c.bridge p ∙ e in
      let b = like.bridge in
      let tail : filter takes_turns (asked_in w.told) ++ map (asked c.bridge) h.held ≡ map (asked c.bridge) (ps ++ filter takes_turns t.packets) =
      subst (λ (x : Bool). filter takes_turns (asked_in w.told) ++ map (asked x) h.held ≡ map (asked x) (ps ++ filter takes_turns t.packets)) b h.in_turn in
      let bare : filter takes_turns (asked_in w.told) ++ map (asked c.bridge) h.held ≡ map (asked c.bridge) (filter takes_turns t.packets) =
      subst (λ (xs : List Packet). filter takes_turns (asked_in w.told) ++ map (asked c.bridge) h.held ≡ map (asked c.bridge) (xs ++ filter takes_turns t.packets)) none tail in
      record {
        cuts = sound_then p t w.rest h.cuts;
        level = h.level ∙ like.level;
        bridge = h.bridge ∙ b;
        served = h.served ∙ like.served;
        held = h.held;
        bytes = h.bytes;
        whole = subst (λ (l : Level). cut l w.client.held ≡ sound h.held []) like.level h.whole;
        turns = h.turns;
        overtaking = rw (own, e) (subst (λ (x : Bool). filter overtakes (asked_in w.told) ≡ map (asked x) (filter overtakes t.packets)) b h.overtaking);
        in_turn = rw (none, own, e) (ap (λ (xs : List Packet). asked c.bridge p ∷ xs) bare);
      }

either : (c : Client) (ps : List Packet) (p : Packet) (w : Walk) (t : Cut) (b : Bool) → overtakes p ≡ b → waits c p ≡ false → cut c.level c.held ≡ sound ps [] → IsWalked (passed c p).client ps w t
    → IsWalked c ps (then_walk (passed c p) w) (before (p ∷ []) t)
either c ps p w t true e free own h = walked_over c ps p w t e h
either c ps p w t false e free own h =
    let nothing : c.held ≡ [] = nothing_held c p e free in
    let none : sound ps [] ≡ sound [] [] = sym own ∙ ap (cut c.level) nothing ∙ cut_nothing c.level in
    walked_on c ps p w t (ap (λ (x : Cut). x.packets) none) e h

-- what is known of so many packets
abbrev Walks : ℕ → Type 0
Walks k =
    (c : Client) (bs : List ℕ) (ps : List Packet) → IsBytes bs → IsBytes c.held → cut c.level c.held ≡ sound ps [] → list_all takes_turns ps ≡ true → (coming k c bs).client.ended ≡ false
    → list_any is_disconnect (cut_within k c.level bs).packets ≡ false → IsWalked c ps (coming k c bs) (cut_within k c.level bs)

not_first : (b : Bool) (p : Packet) (ps : List Packet) → is_disconnect p ≡ b → list_any is_disconnect (p ∷ ps) ≡ false → (b ≡ false) × (list_any is_disconnect ps ≡ false)
not_first true p ps e h = let x = rw e at h in absurd cc
not_first false p ps e h = let x = rw e at h in (refl, x)

module _ (k : ℕ) (c : Client) (bs : List ℕ) (ps : List Packet) (fits : IsBytes bs) (held : IsBytes c.held) (own : cut c.level c.held ≡ sound ps []) (turns : list_all takes_turns ps ≡ true) (x : Packet × List ℕ)
    (e : packet_at c.level limit bs ≡ Ok (Some x)) (next : Walks k) where
  -- the bytes of the packet
  abbrev its : List ℕ
  its = take (length bs - length x.1) bs

  later : (d : Client) → d.level ≡ c.level → list_any is_disconnect (cut_within k c.level x.1).packets ≡ false → list_any is_disconnect (cut_within k d.level x.1).packets ≡ false
  later d l none = rw l none

  -- it waits
  walk_kept : waits c x.0 ≡ true → (coming k (kept_back c its).client x.1).client.ended ≡ false → list_any is_disconnect (cut_within k c.level x.1).packets ≡ false
      → IsWalked c ps (then_walk (kept_back c its) (coming k (kept_back c its).client x.1)) (before (x.0 ∷ []) (cut_within k c.level x.1))
  walk_kept w on none =
      let b = own_bytes c.level bs x fits e in
      let both = IsBytes-both c.held its held b.0 in
      walked_kept c ps x.0 (coming k (kept_back c its).client x.1) (cut_within k c.level x.1) its (overtaken c x.0 w)
      (next (kept_back c its).client x.1 (ps ++ x.0 ∷ []) (packet_rest c.level limit bs x fits e) both (whole_then c.level c.held its ps (x.0 ∷ []) [] both own b.1) (turns_then ps x.0 turns (overtaken c x.0 w)) on none)

  walk_passed : waits c x.0 ≡ false → (coming k (passed c x.0).client x.1).client.ended ≡ false → list_any is_disconnect (cut_within k c.level x.1).packets ≡ false
      → IsWalked c ps (then_walk (passed c x.0) (coming k (passed c x.0).client x.1)) (before (x.0 ∷ []) (cut_within k c.level x.1))
  walk_passed w on none =
      let like = passed_like c x.0 in
      let d = (passed c x.0).client in
      let same : cut d.level d.held ≡ sound ps [] = rw (like.level, like.held) own in
      let one : IsWalked d ps (coming k d x.1) (cut_within k d.level x.1) =
      next d x.1 ps (packet_rest c.level limit bs x fits e) (subst IsBytes (sym like.held) held) same turns on (later d like.level none) in
      either c ps x.0 (coming k d x.1) (cut_within k c.level x.1) (overtakes x.0) refl w own (subst (λ (l : Level). IsWalked d ps (coming k d x.1) (cut_within k l x.1)) like.level one)

  walk_both : (o : Outcome) → Received c x.0 its o → (coming k o.client x.1).client.ended ≡ false → list_any is_disconnect (cut_within k c.level x.1).packets ≡ false
      → IsWalked c ps (then_walk o (coming k o.client x.1)) (before (x.0 ∷ []) (cut_within k c.level x.1))
  walk_both o (inl (w, is)) on none =
      subst (λ (y : Outcome). (coming k y.client x.1).client.ended ≡ false → IsWalked c ps (then_walk y (coming k y.client x.1)) (before (x.0 ∷ []) (cut_within k c.level x.1))) (sym is)
      (λ go. walk_kept w go none) on
  walk_both o (inr (w, is)) on none =
      subst (λ (y : Outcome). (coming k y.client x.1).client.ended ≡ false → IsWalked c ps (then_walk y (coming k y.client x.1)) (before (x.0 ∷ []) (cut_within k c.level x.1))) (sym is)
      (λ go. walk_passed w go none) on

  walk_more : (coming k (received c x.0 its).client x.1).client.ended ≡ false → list_any is_disconnect (x.0 ∷ (cut_within k c.level x.1).packets) ≡ false
      → IsWalked c ps (then_walk (received c x.0 its) (coming k (received c x.0 its).client x.1)) (before (x.0 ∷ []) (cut_within k c.level x.1))
  walk_more on none =
      let first = not_first (is_disconnect x.0) x.0 (cut_within k c.level x.1).packets refl none in
      walk_both (received c x.0 its) (received_is c x.0 its first.0 (went_coming k (received c x.0 its).client x.1 on)) on first.1

walks_case : (k : ℕ) (c : Client) (bs : List ℕ) (ps : List Packet) → IsBytes bs → IsBytes c.held → cut c.level c.held ≡ sound ps [] → list_all takes_turns ps ≡ true → (r : Result (Option (Packet × List ℕ)) PacketFault)
    → packet_at c.level limit bs ≡ r → Walks k → c.ended ≡ false → (coming (suc k) c bs).client.ended ≡ false → list_any is_disconnect (cut_within (suc k) c.level bs).packets ≡ false
    → IsWalked c ps (coming (suc k) c bs) (cut_within (suc k) c.level bs)
walks_case k c bs ps fits held own turns (Ok None) e next going on none =
    rw (goes stops_coming received k c bs (Ok None) going e, within_none (suc k) c.level bs e) (walked_none c ps bs held own turns)
walks_case k c bs ps fits held own turns (Err f) e next going on none =
    not_both (coming (suc k) c bs).client.ended (ap (λ (w : Walk). w.client.ended) (goes stops_coming received k c bs (Err f) going e)) on
walks_case k c bs ps fits held own turns (Ok (Some x)) e next going on none =
    let stepped = goes stops_coming received k c bs (Ok (Some x)) going e in
    let cuts = within_some k c.level bs x e in
    let goes : (coming k (received c x.0 (take (length bs - length x.1) bs)).client x.1).client.ended ≡ false = sym (ap (λ (w : Walk). w.client.ended) stepped) ∙ on in
    let others : list_any is_disconnect (x.0 ∷ (cut_within k c.level x.1).packets) ≡ false = sym (ap (λ (t : Cut). list_any is_disconnect t.packets) cuts) ∙ none in
    rw (stepped, cuts) (walk_more k c bs ps fits held own turns x e next goes others)

pub walks : (k : ℕ) → Walks k
walks zero c bs ps fits held own turns on none = rw (none_left stops_coming received c bs, within_zero c.level bs) (walked_none c ps bs held own turns)
walks (suc k) c bs ps fits held own turns on none =
    walks_case k c bs ps fits held own turns (packet_at c.level limit bs) refl (λ d xs qs f h o g n. walks k d xs qs f h o g n) (went_coming (suc k) c bs on) on none

-- ---- packets that were held back

-- the first of them were told, and the others are left
pub record IsPassed (c : Client) (ps : List Packet) (w : Walk) : Type 0 where
  pub done : List Packet
  pub left : List Packet
  pub parts : ps ≡ done ++ left
  pub asks : asked_in w.told ≡ map (asked c.bridge) done
  pub like : IsLike c w.client
  pub bytes : IsBytes w.rest
  pub whole : cut c.level w.rest ≡ sound left []

passed_none : (c : Client) (ps : List Packet) (bs : List ℕ) → IsBytes bs → cut c.level bs ≡ sound ps [] → IsPassed c ps (halt c bs)
passed_none c ps bs fits e = record { done = []; left = ps; parts = refl; asks = refl; like = like_same c; bytes = fits; whole = e }

passed_one : (c : Client) (ps : List Packet) (p : Packet) (w : Walk) → IsPassed (passed c p).client ps w → IsPassed c (p ∷ ps) (then_walk (passed c p) w)
passed_one c ps p w h =
    let like = passed_like c p in
    record {
      done = p ∷ h.done;
      left = h.left;
      parts = ap (λ (xs : List Packet). p ∷ xs) h.parts;
      asks = ap (λ (xs : List Packet). asked c.bridge p ∷ xs) (subst (λ (x : Bool). asked_in w.told ≡ map (asked x) h.done) like.bridge h.asks);
      like = like_then c (passed c p).client w.client like h.like;
      bytes = h.bytes;
      whole = subst (λ (l : Level). cut l w.rest ≡ sound h.left []) like.level h.whole;
    }

-- the packets behind the first
behind : (t : Cut) → t.rest ≡ [] → t.fault ≡ None → t ≡ sound t.packets []
behind t r f = ap (λ (xs : List ℕ). record { packets = t.packets; rest = xs; fault = t.fault }) r ∙ ap (λ (o : Option PacketFault). record { packets = t.packets; rest = []; fault = o }) f

behind_first : (c : Client) (bs : List ℕ) (ps : List Packet) (x : Packet × List ℕ) → IsBytes bs → cut c.level bs ≡ sound ps [] → packet_at c.level limit bs ≡ Ok (Some x)
    → (cut c.level x.1 ≡ sound (cut c.level x.1).packets []) × (x.0 ∷ (cut c.level x.1).packets ≡ ps)
behind_first c bs ps x fits own e =
    let all : before (x.0 ∷ []) (cut c.level x.1) ≡ sound ps [] = sym (cut_some c.level bs x fits e) ∙ own in
    (behind (cut c.level x.1) (ap (λ (t : Cut). t.rest) all) (ap (λ (t : Cut). t.fault) all), ap (λ (t : Cut). t.packets) all)

abbrev Passes : ℕ → Type 0
Passes k =
    (c : Client) (bs : List ℕ) (ps : List Packet) → IsBytes bs → cut c.level bs ≡ sound ps [] → (waiting k c bs).client.ended ≡ false → IsPassed c ps (waiting k c bs)

pass_more : (k : ℕ) (c : Client) (bs : List ℕ) (ps : List Packet) (x : Packet × List ℕ) → IsBytes bs → cut c.level bs ≡ sound ps [] → packet_at c.level limit bs ≡ Ok (Some x) → Passes k
    → (waiting k (passed c x.0).client x.1).client.ended ≡ false → IsPassed c ps (then_walk (passed c x.0) (waiting k (passed c x.0).client x.1))
pass_more k c bs ps x fits own e next on =
    let like = passed_like c x.0 in
    let parts = behind_first c bs ps x fits own e in
    let qs = (cut c.level x.1).packets in
    let d = (passed c x.0).client in
    let same : cut d.level x.1 ≡ sound qs [] = rw like.level parts.0 in
    let one : IsPassed d qs (waiting k d x.1) = next d x.1 qs (packet_rest c.level limit bs x fits e) same on in
    subst (λ (xs : List Packet). IsPassed c xs (then_walk (passed c x.0) (waiting k d x.1))) parts.1 (passed_one c qs x.0 (waiting k d x.1) one)

pass_some : (k : ℕ) (c : Client) (bs : List ℕ) (ps : List Packet) (x : Packet × List ℕ) → IsBytes bs → cut c.level bs ≡ sound ps [] → packet_at c.level limit bs ≡ Ok (Some x) → Passes k
    → (waiting k (handed c x.0).client x.1).client.ended ≡ false → IsPassed c ps (then_walk (handed c x.0) (waiting k (handed c x.0).client x.1))
pass_some k c bs ps x fits own e next on =
    let is : handed c x.0 ≡ passed c x.0 = handed_is c x.0 (went_waiting k (handed c x.0).client x.1 on) in
    subst (λ (y : Outcome). (waiting k y.client x.1).client.ended ≡ false → IsPassed c ps (then_walk y (waiting k y.client x.1))) (sym is)
    (λ go. pass_more k c bs ps x fits own e next go) on

passes_case : (k : ℕ) (c : Client) (bs : List ℕ) (ps : List Packet) → IsBytes bs → cut c.level bs ≡ sound ps [] → (b : Bool) → stops_waiting c ≡ b → (r : Result (Option (Packet × List ℕ)) PacketFault)
    → packet_at c.level limit bs ≡ r → Passes k → (waiting (suc k) c bs).client.ended ≡ false → IsPassed c ps (waiting (suc k) c bs)
passes_case k c bs ps fits own true stops r e next on = rw (halted stops_waiting hands k c bs stops) (passed_none c ps bs fits own)
passes_case k c bs ps fits own false on_it (Ok None) e next on = rw (goes stops_waiting hands k c bs (Ok None) on_it e) (passed_none c ps bs fits own)
passes_case k c bs ps fits own false on_it (Err f) e next on =
    not_both (waiting (suc k) c bs).client.ended (ap (λ (w : Walk). w.client.ended) (goes stops_waiting hands k c bs (Err f) on_it e)) on
passes_case k c bs ps fits own false on_it (Ok (Some x)) e next on =
    let stepped = goes stops_waiting hands k c bs (Ok (Some x)) on_it e in
    let going : (waiting k (handed c x.0).client x.1).client.ended ≡ false = sym (ap (λ (w : Walk). w.client.ended) stepped) ∙ on in
    rw stepped (pass_some k c bs ps x fits own e next going)

pub passes : (k : ℕ) → Passes k
passes zero c bs ps fits own on = rw (none_left stops_waiting hands c bs) (passed_none c ps bs fits own)
passes (suc k) c bs ps fits own on = passes_case k c bs ps fits own (stops_waiting c) refl (packet_at c.level limit bs) refl (λ d xs qs f o g. passes k d xs qs f o g) on

-- ---- none is left while there is room

abbrev Uses : ℕ → Type 0
Uses k =
    (c : Client) (bs : List ℕ) (ps : List Packet) → IsBytes bs → length bs ≤ k → cut c.level bs ≡ sound ps [] → (waiting k c bs).client.ended ≡ false
    → has_room (waiting k c bs).client ≡ true → (waiting k c bs).rest ≡ []

stopped_room : (c : Client) (b r : Bool) → (b || not r) ≡ true → b ≡ false → r ≡ true → ⊥
stopped_room c true r e f g = absurd cc
stopped_room c false true e f g = absurd cc
stopped_room c false false e f g = absurd cc

use_some : (k : ℕ) (c : Client) (bs : List ℕ) (ps : List Packet) (x : Packet × List ℕ) → IsBytes bs → length bs ≤ suc k → cut c.level bs ≡ sound ps [] → packet_at c.level limit bs ≡ Ok (Some x) → Uses k
    → (waiting k (handed c x.0).client x.1).client.ended ≡ false → has_room (waiting k (handed c x.0).client x.1).client ≡ true → (waiting k (handed c x.0).client x.1).rest ≡ []
use_some k c bs ps x fits le own e next on room =
    let is : handed c x.0 ≡ passed c x.0 = handed_is c x.0 (went_waiting k (handed c x.0).client x.1 on) in
    let like = passed_like c x.0 in
    let parts = behind_first c bs ps x fits own e in
    let less = packet_less c.level limit bs x fits e in
    let alike : (handed c x.0).client.level ≡ c.level = ap (λ (o : Outcome). o.client.level) is ∙ like.level in
    let same : cut (handed c x.0).client.level x.1 ≡ sound (cut c.level x.1).packets [] = rw alike parts.0 in
    next (handed c x.0).client x.1 (cut c.level x.1).packets (packet_rest c.level limit bs x fits e) (omega arith) same on room

uses_case : (k : ℕ) (c : Client) (bs : List ℕ) (ps : List Packet) → IsBytes bs → length bs ≤ suc k → cut c.level bs ≡ sound ps [] → (b : Bool) → stops_waiting c ≡ b → (r : Result (Option (Packet × List ℕ)) PacketFault)
    → packet_at c.level limit bs ≡ r → Uses k → (waiting (suc k) c bs).client.ended ≡ false → has_room (waiting (suc k) c bs).client ≡ true → (waiting (suc k) c bs).rest ≡ []
uses_case k c bs ps fits le own true stops r e next on room =
    let is = halted stops_waiting hands k c bs stops in
    absurd (stopped_room c c.ended (has_room c) stops (sym (ap (λ (w : Walk). w.client.ended) is) ∙ on) (sym (ap (λ (w : Walk). has_room w.client) is) ∙ room))
uses_case k c bs ps fits le own false on_it (Ok None) e next on room =
    ap (λ (w : Walk). w.rest) (goes stops_waiting hands k c bs (Ok None) on_it e) ∙ ap (λ (t : Cut). t.rest) (sym (cut_none c.level bs e) ∙ own)
uses_case k c bs ps fits le own false on_it (Err f) e next on room =
    not_both (waiting (suc k) c bs).client.ended (ap (λ (w : Walk). w.client.ended) (goes stops_waiting hands k c bs (Err f) on_it e)) on
uses_case k c bs ps fits le own false on_it (Ok (Some x)) e next on room =
    let stepped = goes stops_waiting hands k c bs (Ok (Some x)) on_it e in
    ap (λ (w : Walk). w.rest) stepped
    ∙ use_some k c bs ps x fits le own e next (sym (ap (λ (w : Walk). w.client.ended) stepped) ∙ on) (sym (ap (λ (w : Walk). has_room w.client) stepped) ∙ room)

pub uses : (k : ℕ) → Uses k
uses zero c bs ps fits le own on room = ap (λ (w : Walk). w.rest) (none_left stops_waiting hands c bs) ∙ nil_from_length bs (omega arith)
uses (suc k) c bs ps fits le own on room = uses_case k c bs ps fits le own (stops_waiting c) refl (packet_at c.level limit bs) refl (λ d xs qs f l o g r. uses k d xs qs f l o g r) on room
