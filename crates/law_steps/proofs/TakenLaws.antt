-- The packets of bytes that come on the connection of a client are taken in order, and then their fault is told.
use Rattle.std.proofs.Common.{◌≡◌, ◌⊎◌, inl, inr, ℕ, Bool, true, false, cond, is_some, List, [], ◌∷◌, ◌++◌, Option, Some, None, option_and_then, refl, sym, ap, ◌∙◌, subst, append_assoc}
use Rattle.std.specs.FinMap as map
use Rattle.mqtt_packets.specs.declared.fault.PacketFault.{PacketFault}
use Rattle.mqtt_packets.specs.declared.packet.Packet.{Packet}
use Rattle.mqtt_packets.specs.declared.packet.Packet.TheVariants as packets
use Rattle.mqtt_packets.specs.Written.{written}
use Rattle.mqtt_sessions.specs.Answers.{disconnect}
use Rattle.node_work.specs.declared.outcome.Output.TheVariants.{Send, Close}
use Rattle.node_work.specs.Acts.{Act, MomentTaken, Connection, Out, Runs, next}
use Rattle.node_work.specs.Doings.{Sends}
use Rattle.node_work.specs.Held.Connections.{ConnectionTable, Closed as Shut, Fed, changed_at, client_at, is_open, with_piece}
use Rattle.node_work.specs.Held.Feeding.{cut_of}
use Rattle.node_work.specs.Held.Sessions.{takes_disconnect}
use Rattle.node_work.specs.View.{Place, HeldView, ConnectionView}
use Rattle.node_work.specs.Working.{Returns, If, Each}
use Rattle.node_clients.specs.Ending as ending
use Rattle.node_clients.specs.Pieces as pieces
use Rattle.broker_node.specs.declared.event.Event.{Event}
use Rattle.broker_node.specs.declared.event.EventKind.{EventKind}
use Rattle.broker_node.specs.declared.event.EventKind.TheVariants as kinds
use Rattle.broker_node.specs.Turns as turns
use Rattle.law_runs.proofs.Keeping.{none_some}
use Rattle.law_runs.proofs.Splits.{left_by}
use Rattle.law_steps.proofs.ClosingLaws.{open_with, second_runs}
use Rattle.law_steps.proofs.On.{put_here}
use Rattle.law_steps.specs.Taking.{IsServed, IsTaken, IsBroken, EndsWith, AreTaken, TakesBytes, BytesAreTaken, PacketsAreTaken, TakeNothing}
use Rattle.law_steps.proofs.ServingLaws.{Left, serves}
use Rattle.law_steps.proofs.Turning.{IsAfterStart, Turned, if_so, if_not, turned}
use Rattle.law_steps.proofs.Untaken.{due_untaken, parts_untaken}

-- ---- the fault
told_by : (b : Bool) (c code : ℕ) (x : Unit {0}) (p : Place) (h : HeldView) (acts : List Act) → If b (Sends c (disconnect code)) (Returns tt) (Some x) p h acts → acts ≡ cond b (Out (Send c (written (disconnect code))) ∷ []) []
told_by true c code x p h acts d = d.1
told_by false c code x p h acts d = d.1

told : (code : Option ℕ) (c : ℕ) (client : List ℕ) (x : Unit {0}) (p : Place) (h : HeldView) (acts : List Act) → pieces.SendsDisconnect c client code (Some x) p h acts
    → (n : ℕ) × (code ≡ Some n) × (acts ≡ cond (takes_disconnect client n h) (Out (Send c (written (disconnect n))) ∷ []) [])
told None c client x p h acts d = absurd d
told (Some n) c client x p h acts d = (n, refl, told_by (takes_disconnect client n h) c n x p h acts d)

pub closed : (c : ℕ) (x : Unit {0}) (p : Place) (h : HeldView) (acts : List Act) → ending.ClosesConnection c (Some x) p h acts → acts ≡ Connection (Shut c) ∷ Out (Close c) ∷ []
closed c x p h acts (inl d) = none_some (sym d.0)
closed c x p h acts (inr (y, own, mid, rest, one, runs, more, is)) = is ∙ (λ i. one.1 i ++ more.1 i)

broken : (c : ℕ) (client : List ℕ) (fault : PacketFault) (x : Unit {0}) (p : Place) (h : HeldView) (acts : List Act) → pieces.BreaksBy c fault (Some client) (Some x) p h acts → IsBroken h c client fault acts
broken c client fault x p h acts (inl d) = none_some (sym d.0)
broken c client fault x p h acts (inr (y, own, mid, rest, one, ran, (inl d), is)) = none_some (sym d.0)
broken c client fault x p h acts (inr (y, own, mid, rest, one, ran, (inr (y2, shut, mid2, follows, two, ran2, more, is2)), is)) =
    let t = told (pieces.disconnect_code fault) c client y p h own one in
    record {
      code = t.0;
      has_code = t.1;
      follows = follows;
      is = is ∙ (λ i. t.2 i ++ (is2 ∙ ap (λ zs. zs ++ follows) (closed c y2 p mid shut two)) i);
      none = parts_untaken client x p mid2 follows more;
    }

ends_with : (fault : Option PacketFault) (c : ℕ) (client : List ℕ) (x : Unit {0}) (p : Place) (h : HeldView) (acts : List Act) → client_at c h ≡ Some client → pieces.BreaksIfOpen c fault (Some x) p h acts → EndsWith h c client fault acts
ends_with None c client x p h acts has d = d.1
ends_with (Some fault) c client x p h acts has d =
    let open_there : is_open c h ≡ true = open_with h c client has in
    broken c client fault x p h acts (subst (λ o. pieces.BreaksBy c fault o (Some x) p h acts) has (if_so (is_open c h) (pieces.Breaks c fault) (Returns tt) (Some x) p h acts open_there d))

-- ---- once the connection is closed nothing is done
pub none_left : (p : Place) (h h' : HeldView) (acts : List Act) → acts ≡ [] → Runs p h acts h' → h' ≡ h
none_left p h h' acts none runs = subst (λ xs. Runs p h xs h') none runs

pub none_answered : (c : ℕ) (ks : List Packet) (x : Unit {0}) (p : Place) (h : HeldView) (acts : List Act) → is_open c h ≡ false → Each (pieces.AnswersIfOpen c) ks (Some x) p h acts → acts ≡ []
none_answered c [] x p h acts shut d = d.1
none_answered c (k ∷ ks) x p h acts shut (inl d) = none_some (sym d.0)
none_answered c (k ∷ ks) x p h acts shut (inr (y, own, mid, rest, one, ran, more, is)) =
    let first : own ≡ [] = (if_not (is_open c h) (pieces.AnswersPacket c k) (Returns tt) (Some y) p h own shut one).1 in
    let same : mid ≡ h = none_left p h mid own first ran in
    let second : rest ≡ [] = none_answered c ks x p mid rest (ap (is_open c) same ∙ shut) more in
    is ∙ (λ i. first i ++ second i)

pub none_broken : (c : ℕ) (fault : Option PacketFault) (x : Unit {0}) (p : Place) (h : HeldView) (acts : List Act) → is_open c h ≡ false → pieces.BreaksIfOpen c fault (Some x) p h acts → acts ≡ []
none_broken c None x p h acts shut d = d.1
none_broken c (Some fault) x p h acts shut d = (if_not (is_open c h) (pieces.Breaks c fault) (Returns tt) (Some x) p h acts shut d).1

pub none_after : (ks : List Packet) (fault : Option PacketFault) (c : ℕ) (x y : Unit {0}) (p : Place) (left mid : HeldView) (others rest : List Act) → is_open c left ≡ false → Each (pieces.AnswersIfOpen c) ks (Some x) p left others → Runs p left others mid
    → pieces.BreaksIfOpen c fault (Some y) p mid rest → others ++ rest ≡ []
none_after ks fault c x y p left mid others rest shut more later last =
    let a : others ≡ [] = none_answered c ks x p left others shut more in
    let same : mid ≡ left = none_left p left mid others a later in
    let b : rest ≡ [] = none_broken c fault y p mid rest (ap (is_open c) same ∙ shut) last in
    (λ i. a i ++ b i)

-- ---- each packet
answered : (c : ℕ) (client : List ℕ) (k : Packet) (x : Unit {0}) (p : Place) (h : HeldView) (acts : List Act) → client_at c h ≡ Some client → pieces.AnswersIfOpen c k (Some x) p h acts → pieces.AnswersPacketBy c k (Some client) (Some x) p h acts
answered c client k x p h acts has d =
    subst (λ o. pieces.AnswersPacketBy c k o (Some x) p h acts) has (if_so (is_open c h) (pieces.AnswersPacket c k) (Returns tt) (Some x) p h acts (open_with h c client has) d)

-- after a packet the others follow, or nothing
goes_on : (ks : List Packet) (fault : Option PacketFault) (c : ℕ) (client : List ℕ) (x y : Unit {0}) (p : Place) (left mid : HeldView) (others rest : List Act) → Each (pieces.AnswersIfOpen c) ks (Some x) p left others → Runs p left others mid
    → pieces.BreaksIfOpen c fault (Some y) p mid rest → (IsServed left c client → AreTaken p left c client ks fault (others ++ rest)) → Left c client left → cond (is_open c left) (AreTaken p left c client ks fault (others ++ rest)) (others ++ rest ≡ [])
goes_on ks fault c client x y p left mid others rest more later last then_taken (inl shut) =
    subst (λ b. cond b (AreTaken p left c client ks fault (others ++ rest)) (others ++ rest ≡ [])) (sym shut) (none_after ks fault c x y p left mid others rest shut more later last)
goes_on ks fault c client x y p left mid others rest more later last then_taken (inr on) =
    subst (λ b. cond b (AreTaken p left c client ks fault (others ++ rest)) (others ++ rest ≡ [])) (sym (open_with left c client on.has)) (then_taken on)

pub all_taken : (ks : List Packet) (fault : Option PacketFault) (c : ℕ) (client : List ℕ) (x y : Unit {0}) (p : Place) (h mid : HeldView) (own rest : List Act) → IsServed h c client → Each (pieces.AnswersIfOpen c) ks (Some x) p h own → Runs p h own mid
    → pieces.BreaksIfOpen c fault (Some y) p mid rest → AreTaken p h c client ks fault (own ++ rest)
all_taken [] fault c client x y p h mid own rest s d runs last =
    let same : mid ≡ h = none_left p h mid own d.1 runs in
    subst (EndsWith h c client fault) (ap (λ zs. zs ++ rest) (sym d.1)) (ends_with fault c client y p h rest s.has (subst (λ v. pieces.BreaksIfOpen c fault (Some y) p v rest) same last))
all_taken (k ∷ ks) fault c client x y p h mid own rest s (inl d) runs last = none_some (sym d.0)
all_taken (k ∷ ks) fault c client x y p h mid own rest s (inr (z, first, left, others, one, ran, more, is)) runs last =
    let t = serves c client k z p h left first s (answered c client k z p h first s.has one) ran in
    let later : Runs p left others mid = second_runs p h left mid first others own is ran runs in (
      first,
      left,
      others ++ rest,
      ap (λ zs. zs ++ rest) is ∙ append_assoc first others rest,
      ran,
      t.taken,
      goes_on ks fault c client x y p left mid others rest more later last (λ on. all_taken ks fault c client x y p left mid others rest on more later last) t.left,
    )

-- ---- the bytes
module _ (c : ℕ) (bytes : List ℕ) (p : Place) (h : HeldView) (found : ConnectionView) (there : map.get h.connections c ≡ Some found) where
  abbrev fed : HeldView
  fed = next h (Connection (Fed c bytes))

  fed_client : client_at c fed ≡ client_at c h
  fed_client =
      ap (option_and_then (λ (v : ConnectionView). v.client)) (ap (λ (o : Option ConnectionView). map.get (changed_at (with_piece bytes) c h.connections o) c) there ∙ put_here h.connections c (with_piece bytes found))
      ∙ sym (ap (option_and_then (λ (v : ConnectionView). v.client)) there)

  fed_served : (client : List ℕ) → IsServed h c client → IsServed fed c client
  fed_served client s = record { has = fed_client ∙ s.has; seat = s.seat; found = s.found; on = s.on }

  feeds : (client : List ℕ) (x : Unit {0}) (acts : List Act) → IsServed h c client → pieces.Feeds c bytes found (Some x) p h acts → TakesBytes p h c client bytes found acts
  feeds client x acts s (inl d) = none_some (sym d.0)
  feeds client x acts s (inr (y, own, mid, rest, one, ran, (inl d), is)) = none_some (sym d.0)
  feeds client x acts s (inr (y, own, mid, rest, one, ran, (inr (y2, own2, mid2, rest2, two, ran2, more, is2)), is)) =
      let a = Connection (Fed c bytes) in
      let left : mid ≡ fed = left_by p h mid a own one.1 ran in
      let cut = cut_of found.stream bytes in
      record {
        own = rest;
        is = is ∙ ap (λ zs. zs ++ rest) one.1;
        held = fed;
        runs = (fed, (ap is_some there, refl), refl);
        taken = subst (AreTaken p fed c client cut.packets cut.fault) (sym is2) (all_taken cut.packets cut.fault c client y2 x p fed mid2 own2 rest2 (fed_served client s)
            (subst (λ v. Each (pieces.AnswersIfOpen c) cut.packets (Some y2) p v own2) left two) (subst (λ v. Runs p v own2 mid2) left ran2) more);
      }

-- ---- in a step
module _ (e : Event) (p : Place) (h : HeldView) (c : ℕ) (bytes : List ℕ) (kind : e.kind ≡ kinds.Piece c bytes) (started : h.started ≡ true) where
  abbrev is_after : IsAfterStart e.kind
  is_after = subst IsAfterStart (sym kind) tt

  taken : (acts : List Act) → turns.Decides e (Some tt) p h acts → BytesAreTaken p h e.at c bytes acts
  taken acts d =
      let t = turned e p h is_after started acts d in
      record {
        first = t.first;
        none = subst TakeNothing (sym t.due_is) (due_untaken t.answer p (next h (MomentTaken e.at)) t.own t.does);
        taken = λ found client there sound s.
            feeds c bytes p t.first.held found there client tt t.first.rest s
            (if_not found.stream.failed (pieces.Shuts c) (pieces.Feeds c bytes found) (Some tt) p t.first.held t.first.rest sound
            (subst (λ o. pieces.PieceAt c bytes o (Some tt) p t.first.held t.first.rest) there
            (subst (λ (k : EventKind). turns.AnswersEvent k (Some tt) p t.first.held t.first.rest) kind t.answers)));
      }

pub packets_are_taken : PacketsAreTaken
packets_are_taken = λ e p h acts d c bytes kind started. taken e p h c bytes kind started acts d
