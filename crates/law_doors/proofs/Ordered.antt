-- What is held back comes later, once and in order, whatever happens on a connection.
use Rattle.std.proofs.Common.{◌≡◌, ℕ, Bool, true, false, cond, List, [], ◌∷◌, ◌++◌, length, Option, Some, None, refl, sym, ap, subst, ◌∙◌, append_assoc, arith}
use Rattle.std.specs.Prelude.{◌&&◌, ◌||◌, not, map}
use Rattle.std.specs.List.{filter, list_all, list_any}
use Rattle.std.proofs.lemmas.List.{append-nil, map-append}
use Rattle.std.proofs.lemmas.List.Elements.{filter-append}
use Rattle.std.proofs.lemmas.List.Folds.{list_all-append, list_any-append}
use Rattle.std.proofs.lemmas.Grind.{flat_map-append}
use Rattle.mqtt_fields.proofs.Laws.{IsBytes}
use Rattle.mqtt_packets.specs.declared.packet.Packet.{Packet}
use Rattle.mqtt_packets.specs.declared.fault.PacketFault.TheVariants.{Malformed}
use Rattle.mqtt_packets.specs.Stream.{Cut, before}
use Rattle.mqtt_packets.proofs.GrowLaws.{IsBytes-front}
use Rattle.mqtt3_packets.specs.Version.{version_of}
use Rattle.mqtt3_packets.specs.declared.level.Level.{Level}
use Rattle.mqtt3_packets.specs.declared.level.Level.TheVariants.{Four}
use Rattle.mqtt3_packets.specs.declared.version.Version.{Version}
use Rattle.mqtt3_packets.specs.declared.version.Version.TheVariants.{Five, Before, Unserved}
use Rattle.door_mqtt3.specs.Asked.{asked}
use Rattle.door_mqtt3.specs.Client.{Notice, Outcome, Walk, come, come_on, fresh, has_room, is_disconnect, kept, let_through, limit, overtakes, went_on}
use Rattle.door_mqtt3.specs.Client.Notice.{Faults, Same}
use Rattle.door_mqtt3.specs.Sending.{Sent, after_sent, gotten, sent_of}
use Rattle.door_mqtt3.specs.Stages.{Come, Happening, begun, comes, effect, has_ended, stage_after, told_in}
use Rattle.door_mqtt3.specs.Stages.Happening.{Opens, Goes, Comes, GoesOn, Gets, Closes, Ends}
use Rattle.door_mqtt3.specs.declared.client.Client.{Client}
use Rattle.door_mqtt3.specs.declared.clients.Stage.{Stage}
use Rattle.door_mqtt3.specs.declared.clients.Stage.TheVariants as stages
use Rattle.law_doors.specs.Cut.{cut, cut_within, packets_of}
use Rattle.law_doors.specs.Turns.{HeldBackInOrder, RoomIsUsed, asked_in, asked_by, bytes_at, bytes_in, is_within, opened, takes_turns}
use Rattle.law_doors.proofs.Cuts.{cut_nothing, cut_on, packets_front, rest_fits, sound}
use Rattle.law_doors.proofs.Keeping.{IsKept, coming_kept, waiting_like}
use Rattle.law_doors.proofs.Steps.{come_on_is, coming, waiting, went_on_is}
use Rattle.law_doors.proofs.Walks.{IsLike, IsPassed, IsWalked, asked_overtakes, like_same, not_both, passes, uses, walks, went_waiting}

-- ---- lists

or_first : (a b : Bool) → (a || b) ≡ false → a ≡ false
or_first true b e = absurd cc
or_first false b e = refl

or_second : (a b : Bool) → (a || b) ≡ false → b ≡ false
or_second true b e = absurd cc
or_second false b e = e

any_first : (ps qs : List Packet) → list_any is_disconnect (ps ++ qs) ≡ false → list_any is_disconnect ps ≡ false
any_first ps qs e = or_first (list_any is_disconnect ps) (list_any is_disconnect qs) (sym (list_any-append is_disconnect ps qs) ∙ e)

any_second : (ps qs : List Packet) → list_any is_disconnect (ps ++ qs) ≡ false → list_any is_disconnect qs ≡ false
any_second ps qs e = or_second (list_any is_disconnect ps) (list_any is_disconnect qs) (sym (list_any-append is_disconnect ps qs) ∙ e)

pub and_both : (a b : Bool) → (a && b) ≡ true → (a ≡ true) × (b ≡ true)
and_both true b e = (refl, e)
and_both false b e = absurd cc

all_both : (xs ys : List Packet) → list_all takes_turns (xs ++ ys) ≡ true → (list_all takes_turns xs ≡ true) × (list_all takes_turns ys ≡ true)
all_both xs ys e = and_both (list_all takes_turns xs) (list_all takes_turns ys) (sym (list_all-append takes_turns xs ys) ∙ e)

-- packets that take turns are told in turn, and none of them overtakes
turned_case : (b : Bool) (p : Packet) (ps : List Packet) (t : Bool) → overtakes p ≡ t → (not t && list_all takes_turns ps) ≡ true
    → (filter takes_turns (map (asked b) ps) ≡ map (asked b) ps) × (filter overtakes (map (asked b) ps) ≡ [])
    → (filter takes_turns (map (asked b) (p ∷ ps)) ≡ map (asked b) (p ∷ ps)) × (filter overtakes (map (asked b) (p ∷ ps)) ≡ [])
turned_case b p ps true e all h = absurd cc
turned_case b p ps false e all h =
    let own : overtakes (asked b p) ≡ false = asked_overtakes b p ∙ e in
    (rw own (ap (λ (xs : List Packet). asked b p ∷ xs) h.0), rw own h.1)

turned : (b : Bool) (ps : List Packet) → list_all takes_turns ps ≡ true → (filter takes_turns (map (asked b) ps) ≡ map (asked b) ps) × (filter overtakes (map (asked b) ps) ≡ [])
turned b [] all = (refl, refl)
turned b (p ∷ ps) all =
    let both = and_both (takes_turns p) (list_all takes_turns ps) all in
    turned_case b p ps (overtakes p) refl all (turned b ps both.1)

asked_both : (xs ys : List Notice) → asked_in (xs ++ ys) ≡ asked_in xs ++ asked_in ys
asked_both xs ys = flat_map-append asked_by xs ys

-- ---- a client of which these bytes came, and of which these packets were asked

record Held (level : Level) (bridge : Bool) (c : Client) (came : List ℕ) (asks : List Packet) : Type 0 where
  level_is : c.level ≡ level
  bridge_is : c.bridge ≡ bridge
  cuts : cut level came ≡ sound (packets_of level came) c.partial
  held : List Packet
  bytes : IsBytes c.held
  whole : cut level c.held ≡ sound held []
  turns : list_all takes_turns held ≡ true
  overtaking : filter overtakes asks ≡ map (asked bridge) (filter overtakes (packets_of level came))
  in_turn : filter takes_turns asks ++ map (asked bridge) held ≡ map (asked bridge) (filter takes_turns (packets_of level came))

abbrev IsHeld : Client → List ℕ → List Packet → Type 0
IsHeld c came asks = c.served ≡ true → c.ended ≡ false → list_any is_disconnect (packets_of c.level came) ≡ false → Held c.level c.bridge c came asks

held_as : (level : Level) (bridge : Bool) (c : Client) (came : List ℕ) (asks : List Packet) → Held level bridge c came asks → Held c.level c.bridge c came asks
held_as level bridge c came asks h =
    subst (λ (l : Level). Held l c.bridge c came asks) (sym h.level_is) (subst (λ (b : Bool). Held level b c came asks) (sym h.bridge_is) h)

held_fresh : (level : Level) (bridge served : Bool) → IsHeld (fresh level bridge served) [] []
unfolding cut_within
held_fresh level bridge served s e none =
    let nothing : cut level [] ≡ sound [] [] = cut_nothing level in
    let no_packets : packets_of level [] ≡ [] = ap (λ (t : Cut). t.packets) nothing in
    record {
      level_is = refl;
      bridge_is = refl;
      cuts = rw no_packets nothing;
      held = [];
      bytes = λ i. omega arith;
      whole = nothing;
      turns = refl;
      overtaking = rw no_packets refl;
      in_turn = rw no_packets refl;
    }

-- ---- bytes come

-- what isn't whole is kept
abbrev left_of : Walk → Client
left_of w = record w.client { partial = w.rest }

abbrev start : Client → Client
start c = record c { partial = [] }

abbrev walk_of : Client → List ℕ → Walk
walk_of c bytes = coming (length (c.partial ++ bytes)) (start c) (c.partial ++ bytes)

module _ (c : Client) (came bytes : List ℕ) (asks : List Packet) (fits : IsBytes (came ++ bytes)) (h : Held c.level c.bridge c came asks) where
  stream_cut : cut c.level (came ++ bytes) ≡ before (packets_of c.level came) (cut c.level (c.partial ++ bytes))
  stream_cut = cut_on c.level came bytes (packets_of c.level came) c.partial fits h.cuts

  -- the bytes that are left are some of those that came
  stream_fits : IsBytes (c.partial ++ bytes)
  stream_fits = rest_fits c.level came bytes (packets_of c.level came) c.partial fits h.cuts

  come_held : (walk_of c bytes).client.ended ≡ false → list_any is_disconnect (packets_of c.level (came ++ bytes)) ≡ false
      → Held c.level c.bridge (left_of (walk_of c bytes)) (came ++ bytes) (asks ++ asked_in (walk_of c bytes).told)
  come_held on none =
      let ps = packets_of c.level came in
      let ts = packets_of c.level (c.partial ++ bytes) in
      let those : packets_of c.level (came ++ bytes) ≡ ps ++ ts = ap (λ (t : Cut). t.packets) stream_cut in
      let others : list_any is_disconnect ts ≡ false = any_second ps ts (sym (ap (list_any is_disconnect) those) ∙ none) in
      let w : IsWalked (start c) h.held (walk_of c bytes) (cut c.level (c.partial ++ bytes)) = walks (length (c.partial ++ bytes)) (start c) (c.partial ++ bytes) h.held stream_fits h.bytes h.whole h.turns on others in
      let all : cut c.level (came ++ bytes) ≡ sound (ps ++ ts) (walk_of c bytes).rest = stream_cut ∙ ap (before ps) w.cuts in
      record {
        level_is = w.level;
        bridge_is = w.bridge;
        cuts = all ∙ ap (λ (xs : List Packet). sound xs (walk_of c bytes).rest) (sym those);
        held = w.held;
        bytes = w.bytes;
        whole = w.whole;
        turns = w.turns;
        overtaking =
            filter-append overtakes asks (asked_in (walk_of c bytes).told) ∙ ap (λ (xs : List Packet). xs ++ filter overtakes (asked_in (walk_of c bytes).told)) h.overtaking
            ∙ ap (λ (xs : List Packet). map (asked c.bridge) (filter overtakes ps) ++ xs) w.overtaking
            ∙ sym (map-append (asked c.bridge) (filter overtakes ps) (filter overtakes ts)) ∙ ap (map (asked c.bridge)) (sym (filter-append overtakes ps ts))
            ∙ ap (λ (xs : List Packet). map (asked c.bridge) (filter overtakes xs)) (sym those);
        in_turn =
            let mine = filter takes_turns asks in
            let new = filter takes_turns (asked_in (walk_of c bytes).told) in
            let left = map (asked c.bridge) w.held in
            let old = map (asked c.bridge) h.held in
            let more = map (asked c.bridge) (filter takes_turns ts) in
            ap (λ (xs : List Packet). xs ++ left) (filter-append takes_turns asks (asked_in (walk_of c bytes).told)) ∙ append_assoc mine new left
            ∙ ap (λ (xs : List Packet). mine ++ xs) (w.in_turn ∙ map-append (asked c.bridge) h.held (filter takes_turns ts)) ∙ sym (append_assoc mine old more)
            ∙ ap (λ (xs : List Packet). xs ++ more) h.in_turn ∙ sym (map-append (asked c.bridge) (filter takes_turns ps) (filter takes_turns ts))
            ∙ ap (map (asked c.bridge)) (sym (filter-append takes_turns ps ts)) ∙ ap (λ (xs : List Packet). map (asked c.bridge) (filter takes_turns xs)) (sym those);
      }

-- what is kept of them
kept_case : (w : Walk) (b : Bool) → w.client.ended ≡ b → (cond b w.client (left_of w)).ended ≡ false → (b ≡ false) × (cond b w.client (left_of w) ≡ left_of w)
kept_case w true e on = not_both w.client.ended e on
kept_case w false e on = (refl, refl)

kept_is : (w : Walk) → (kept w).client.ended ≡ false → (w.client.ended ≡ false) × ((kept w).client ≡ left_of w)
kept_is w on = kept_case w w.client.ended refl on

-- whether its client's bytes are looked at
abbrev come_by : Client → List ℕ → Bool → Bool → Outcome
come_by c bytes served ended =
    cond (not served) (record { client = c; told = Same bytes ∷ []; first = [] }) (cond ended (record { client = c; told = Faults Malformed ∷ []; first = [] }) (come_on c bytes))

kept_level : (c : Client) (w : Walk) → IsKept c w.client → (kept w).client.ended ≡ false → (kept w).client.level ≡ c.level
kept_level c w k on = ap (λ (d : Client). d.level) (kept_is w on).1 ∙ k.level

kept_held : (c : Client) (came bytes : List ℕ) (asks : List Packet) → IsBytes (came ++ bytes) → IsHeld c came asks → c.served ≡ true → c.ended ≡ false
    → IsHeld (kept (walk_of c bytes)).client (came ++ bytes) (asks ++ asked_in (walk_of c bytes).told)
kept_held c came bytes asks fits h served on s e none =
    let w = walk_of c bytes in
    let k = kept_is w e in
    let level : (kept w).client.level ≡ c.level = kept_level (start c) w (coming_kept (length (c.partial ++ bytes)) (start c) (c.partial ++ bytes)) e in
    let all : list_any is_disconnect (packets_of c.level (came ++ bytes)) ≡ false = subst (λ (l : Level). list_any is_disconnect (packets_of l (came ++ bytes)) ≡ false) level none in
    let f = packets_front c.level came bytes fits in
    let before_it : list_any is_disconnect (packets_of c.level came) ≡ false = any_first (packets_of c.level came) f.0 (sym (ap (list_any is_disconnect) f.1) ∙ all) in
    let d = left_of w in
    let here : Held c.level c.bridge d (came ++ bytes) (asks ++ asked_in w.told) = come_held c came bytes asks fits (h served on before_it) k.0 all in
    subst (λ (x : Client). Held x.level x.bridge x (came ++ bytes) (asks ++ asked_in w.told)) (sym k.1) (held_as c.level c.bridge d (came ++ bytes) (asks ++ asked_in w.told) here)

come_on_held : (c : Client) (came bytes : List ℕ) (asks : List Packet) → IsBytes (came ++ bytes) → IsHeld c came asks → c.served ≡ true → c.ended ≡ false
    → IsHeld (come_on c bytes).client (came ++ bytes) (asks ++ asked_in (come_on c bytes).told)
come_on_held c came bytes asks fits h served on =
    subst (λ (o : Outcome). IsHeld o.client (came ++ bytes) (asks ++ asked_in o.told)) (sym (come_on_is c bytes)) (kept_held c came bytes asks fits h served on)

come_case : (c : Client) (came bytes : List ℕ) (asks : List Packet) (served ended : Bool) → c.served ≡ served → c.ended ≡ ended → IsBytes (came ++ bytes) → IsHeld c came asks
    → IsHeld (come_by c bytes served ended).client (came ++ bytes) (asks ++ asked_in (come_by c bytes served ended).told)
come_case c came bytes asks false ended s e fits h served on none = absurd cc
come_case c came bytes asks true true s e fits h served on none = absurd cc
come_case c came bytes asks true false s e fits h served on none = come_on_held c came bytes asks fits h s e served on none

come_holds : (c : Client) (came bytes : List ℕ) (asks : List Packet) → IsBytes (came ++ bytes) → IsHeld c came asks → IsHeld (come c bytes).client (came ++ bytes) (asks ++ asked_in (come c bytes).told)
come_holds c came bytes asks fits h = come_case c came bytes asks c.served c.ended refl refl fits h

-- ---- what was held back goes on

abbrev walk_on_of : Client → Walk
walk_on_of c = waiting (length c.held) (record c { held = [] }) c.held

through_held : (c : Client) (came : List ℕ) (asks : List Packet) → IsHeld c came asks → IsHeld (let_through (walk_on_of c)).client came (asks ++ asked_in (walk_on_of c).told)
through_held c came asks h s e none =
    let w = walk_on_of c in
    let c0 = record c { held = [] } in
    let like : IsLike c0 w.client = waiting_like (length c.held) c0 c.held in
    let on : c.ended ≡ false = went_waiting (length c.held) c0 c.held e in
    let h' : Held c.level c.bridge c came asks = h (sym like.served ∙ s) on (subst (λ (x : Level). list_any is_disconnect (packets_of x came) ≡ false) like.level none) in
    let p : IsPassed c0 h'.held w = passes (length c.held) c0 c.held h'.held h'.bytes h'.whole e in
    let parts = all_both p.done p.left (subst (λ (xs : List Packet). list_all takes_turns xs ≡ true) p.parts h'.turns) in
    let t = turned c.bridge p.done parts.0 in
    let d = (let_through w).client in
    let asked_more : filter takes_turns (asked_in w.told) ≡ map (asked c.bridge) p.done = ap (filter takes_turns) p.asks ∙ t.0 in
    let none_more : filter overtakes (asked_in w.told) ≡ [] = ap (filter overtakes) p.asks ∙ t.1 in
    let here : Held c.level c.bridge d came (asks ++ asked_in w.told) = record {
      level_is = like.level;
      bridge_is = like.bridge;
      cuts = h'.cuts ∙ ap (λ (xs : List ℕ). sound (packets_of c.level came) xs) (sym like.partial);
      held = p.left;
      bytes = p.bytes;
      whole = p.whole;
      turns = parts.1;
      overtaking = filter-append overtakes asks (asked_in w.told) ∙ ap (λ (xs : List Packet). filter overtakes asks ++ xs) none_more ∙ append-nil (filter overtakes asks) ∙ h'.overtaking;
      in_turn =
          let mine = filter takes_turns asks in
          let left = map (asked c.bridge) p.left in
          let new = map (asked c.bridge) p.done in
          ap (λ (xs : List Packet). xs ++ left) (filter-append takes_turns asks (asked_in w.told) ∙ ap (λ (xs : List Packet). mine ++ xs) asked_more) ∙ append_assoc mine new left
          ∙ ap (λ (xs : List Packet). mine ++ xs) (sym (map-append (asked c.bridge) p.done p.left) ∙ ap (map (asked c.bridge)) (sym p.parts)) ∙ h'.in_turn;
    } in
    held_as c.level c.bridge d came (asks ++ asked_in w.told) here

goes_on_held : (c : Client) (came : List ℕ) (asks : List Packet) → IsHeld c came asks → IsHeld (went_on c).client came (asks ++ asked_in (went_on c).told)
goes_on_held c came asks h = subst (λ (o : Outcome). IsHeld o.client came (asks ++ asked_in o.told)) (sym (went_on_is c)) (through_held c came asks h)

-- ---- what the handler inside gives

after_like : (c : Client) (s : Sent) (b : Bool) → (cond b (record c { exchanges = s.exchanges; partial = []; held = []; ended = true; silenced = true }) (record c { exchanges = s.exchanges })).ended ≡ false
    → IsLike c (cond b (record c { exchanges = s.exchanges; partial = []; held = []; ended = true; silenced = true }) (record c { exchanges = s.exchanges })) × (c.ended ≡ false)
after_like c s true on = absurd cc
after_like c s false on = (record { level = refl; bridge = refl; served = refl; held = refl; partial = refl }, on)

got_case : (c : Client) (bytes : List ℕ) (b : Bool) → (cond b c (after_sent c (sent_of c.level c.exchanges bytes))).ended ≡ false → IsLike c (cond b c (after_sent c (sent_of c.level c.exchanges bytes))) × (c.ended ≡ false)
got_case c bytes true on = (like_same c, on)
got_case c bytes false on = let s = sent_of c.level c.exchanges bytes in after_like c s s.ends on

got_is : (c : Client) (bytes : List ℕ) (b : Bool) → c.silenced ≡ b → (gotten c bytes).client ≡ cond b c (after_sent c (sent_of c.level c.exchanges bytes))
got_is c bytes true e = rw e refl
got_is c bytes false e = rw e refl

got_like : (c : Client) (bytes : List ℕ) → (gotten c bytes).client.ended ≡ false → IsLike c (gotten c bytes).client × (c.ended ≡ false)
got_like c bytes on =
    let is = got_is c bytes c.silenced refl in
    let made = got_case c bytes c.silenced (sym (ap (λ (d : Client). d.ended) is) ∙ on) in
    (subst (λ (d : Client). IsLike c d) (sym is) made.0, made.1)

held_like : (c d : Client) (came : List ℕ) (asks : List Packet) → IsLike c d → Held c.level c.bridge c came asks → Held c.level c.bridge d came asks
held_like c d came asks like h = record {
  level_is = like.level;
  bridge_is = like.bridge;
  cuts = h.cuts ∙ ap (λ (xs : List ℕ). sound (packets_of c.level came) xs) (sym like.partial);
  held = h.held;
  bytes = subst IsBytes (sym like.held) h.bytes;
  whole = ap (cut c.level) like.held ∙ h.whole;
  turns = h.turns;
  overtaking = h.overtaking;
  in_turn = h.in_turn;
}

gets_held : (c : Client) (came bytes : List ℕ) (asks : List Packet) → IsHeld c came asks → IsHeld (gotten c bytes).client came asks
gets_held c came bytes asks h s e none =
    let l = got_like c bytes e in
    let like : IsLike c (gotten c bytes).client = l.0 in
    let d = (gotten c bytes).client in
    held_as c.level c.bridge d came asks
    (held_like c d came asks like (h (sym like.served ∙ s) l.1 (subst (λ (x : Level). list_any is_disconnect (packets_of x came) ≡ false) like.level none)))

-- ---- whatever happens

abbrev Holds : Option Stage → List ℕ → List Packet → Type 0
Holds None came asks = Unit {0}
Holds (Some (stages.Coming held)) came asks = (held ≡ came) × (asks ≡ [])
Holds (Some (stages.Known c)) came asks = IsHeld c came asks

begun_holds : (came : List ℕ) (v : Option Version) → IsBytes came → Holds (begun came v).stage came (asked_in (begun came v).told)
begun_holds came None fits = (refl, refl)
begun_holds came (Some Five) fits = tt
begun_holds came (Some (Before level bridge)) fits = come_holds (fresh level bridge true) [] came [] fits (held_fresh level bridge true)
begun_holds came (Some Unserved) fits = come_holds (fresh Four false false) [] came [] fits (held_fresh Four false false)

comes_hold : (s : Option Stage) (came bytes : List ℕ) (asks : List Packet) → IsBytes (came ++ bytes) → Holds s came asks → Holds (comes s bytes).stage (came ++ bytes) (asks ++ asked_in (comes s bytes).told)
comes_hold None came bytes asks fits h = tt
comes_hold (Some (stages.Coming held)) came bytes asks fits h =
    let same : came ++ bytes ≡ held ++ bytes = ap (λ (xs : List ℕ). xs ++ bytes) (sym h.0) in
    let there = held ++ bytes in
    let b : Come = begun there (version_of limit there) in
    let one : Holds b.stage there (asked_in b.told) = begun_holds there (version_of limit there) (subst IsBytes same fits) in
    rw (same, h.1) one
comes_hold (Some (stages.Known c)) came bytes asks fits h = come_holds c came bytes asks fits h

goes_hold : (s : Option Stage) (came : List ℕ) (asks : List Packet) → Holds s came asks → Holds (effect s GoesOn).stage came (asks ++ asked_in (effect s GoesOn).told)
goes_hold None came asks h = tt
goes_hold (Some (stages.Coming held)) came asks h = (h.0, append-nil asks ∙ h.1)
goes_hold (Some (stages.Known c)) came asks h = goes_on_held c came asks h

gets_hold : (s : Option Stage) (came bytes : List ℕ) (asks : List Packet) → Holds s came asks → Holds (effect s (Gets bytes)).stage came asks
gets_hold None came bytes asks h = tt
gets_hold (Some (stages.Coming held)) came bytes asks h = h
gets_hold (Some (stages.Known c)) came bytes asks h = gets_held c came bytes asks h

gets_told : (s : Option Stage) (came bytes : List ℕ) (asks : List Packet) → Holds (effect s (Gets bytes)).stage came asks
    → Holds (effect s (Gets bytes)).stage (came ++ []) (asks ++ asked_in (effect s (Gets bytes)).told)
gets_told None came bytes asks h = tt
gets_told (Some s) came bytes asks h = rw (append-nil came, append-nil asks) h

ends_ask : (b : Bool) → ◌≡◌ {A = List Packet} (asked_in (cond b (Faults Malformed ∷ []) [])) []
ends_ask true = refl
ends_ask false = refl

step_holds : (s : Option Stage) (h : Happening) (came : List ℕ) (asks : List Packet) → is_within h ≡ true → IsBytes (came ++ bytes_at h) → Holds s came asks
    → Holds (effect s h).stage (came ++ bytes_at h) (asks ++ asked_in (effect s h).told)
step_holds s Opens came asks within fits holds = absurd cc
step_holds s Goes came asks within fits holds = absurd cc
step_holds s Closes came asks within fits holds = absurd cc
step_holds s (Comes bytes) came asks within fits holds = comes_hold s came bytes asks fits holds
step_holds s GoesOn came asks within fits holds = rw (append-nil came) (goes_hold s came asks holds)
step_holds s (Gets bytes) came asks within fits holds = gets_told s came bytes asks (gets_hold s came bytes asks holds)
step_holds s Ends came asks within fits holds = rw (append-nil came, ends_ask (has_ended s), append-nil asks) holds

all_hold : (hs : List Happening) (s : Option Stage) (came : List ℕ) (asks : List Packet) → list_all is_within hs ≡ true → IsBytes (came ++ bytes_in hs) → Holds s came asks
    → Holds (stage_after s hs) (came ++ bytes_in hs) (asks ++ asked_in (told_in s hs))
all_hold [] s came asks within fits holds = rw (append-nil came, append-nil asks) holds
all_hold (h ∷ hs) s came asks within fits holds =
    let both = and_both (is_within h) (list_all is_within hs) within in
    let next = effect s h in
    let regrouped : came ++ (bytes_at h ++ bytes_in hs) ≡ (came ++ bytes_at h) ++ bytes_in hs = sym (append_assoc came (bytes_at h) (bytes_in hs)) in
    let told : asks ++ asked_in (next.told ++ told_in next.stage hs) ≡ (asks ++ asked_in next.told) ++ asked_in (told_in next.stage hs) =
    ap (λ (xs : List Packet). asks ++ xs) (asked_both next.told (told_in next.stage hs)) ∙ sym (append_assoc asks (asked_in next.told) (asked_in (told_in next.stage hs))) in
    let all : IsBytes ((came ++ bytes_at h) ++ bytes_in hs) = subst IsBytes regrouped fits in
    let one : Holds next.stage (came ++ bytes_at h) (asks ++ asked_in next.told) = step_holds s h came asks both.0 (IsBytes-front (came ++ bytes_at h) (bytes_in hs) all) holds in
    let rest : Holds (stage_after next.stage hs) ((came ++ bytes_at h) ++ bytes_in hs) ((asks ++ asked_in next.told) ++ asked_in (told_in next.stage hs)) =
    all_hold hs next.stage (came ++ bytes_at h) (asks ++ asked_in next.told) both.1 all one in
    rw (regrouped, told) rest

pub held_back_in_order : HeldBackInOrder
held_back_in_order hs c within fits is served on none =
    let holds : Holds (stage_after opened hs) (bytes_in hs) (asked_in (told_in opened hs)) = all_hold hs opened [] [] within fits (refl, refl) in
    let known : IsHeld c (bytes_in hs) (asked_in (told_in opened hs)) = subst (λ (s : Option Stage). Holds s (bytes_in hs) (asked_in (told_in opened hs))) is holds in
    let h = known served on none in
    record { held = h.held; whole = h.whole; overtaking = h.overtaking; in_turn = h.in_turn }

pub room_is_used : RoomIsUsed
room_is_used c held fits whole =
    subst (λ (o : Outcome). o.client.ended ≡ false → has_room o.client ≡ true → o.client.held ≡ []) (sym (went_on_is c))
    (λ on room. uses (length c.held) (record c { held = [] }) c.held held fits (omega arith) whole on room)
