-- A packet of an accepted client comes to what the laws say, and nothing else.
use Rattle.std.proofs.Common.{◌≡◌, inl, inr, ℕ, Bool, true, false, cond, List, [], ◌∷◌, ◌++◌, Option, Some, None, refl, sym, ap, ◌∙◌, subst}
use Rattle.mqtt_packets.specs.declared.fault.PacketFault.{PacketFault}
use Rattle.mqtt_packets.specs.declared.packet.Packet.{Packet}
use Rattle.mqtt_packets.specs.declared.packet.Packet.TheVariants as packets
use Rattle.mqtt_packets.specs.Written.{written}
use Rattle.mqtt_sessions.specs.declared.reaction.Ask.{Ask}
use Rattle.mqtt_sessions.specs.declared.reaction.Ask.TheVariants as asks
use Rattle.mqtt_sessions.specs.Answers.{disconnect}
use Rattle.law_sessions.specs.Runs.{takes}
use Rattle.node_work.specs.declared.outcome.Output.TheVariants.{Send}
use Rattle.node_work.specs.Acts.{Act, Out, Dropped, Runs}
use Rattle.node_work.specs.Doings.{Sends}
use Rattle.node_work.specs.Held.Sessions.{seat_at, takes_disconnect}
use Rattle.node_work.specs.View.{Place, HeldView}
use Rattle.node_work.specs.Working.{Returns, If}
use Rattle.node_clients.specs.Ending as ending
use Rattle.node_clients.specs.Passing as passing
use Rattle.node_clients.specs.Pieces as pieces
use Rattle.node_clients.specs.Serving as serving
use Rattle.law_runs.proofs.Keeping.{none_some}
use Rattle.law_steps.specs.Ending.{ClosesOn}
use Rattle.law_steps.specs.Packets.{SubscribeIsDone, UnsubscribeIsDone, IsDone, TakesAlone, BreaksAlone}
use Rattle.law_steps.proofs.Ended.{closes_alone}
use Rattle.law_steps.proofs.Packets.{told_same}
use Rattle.law_steps.proofs.Passed.{passes_on}
use Rattle.law_steps.proofs.Requested.{called_by, close_if, subscribes_alone, unsubscribes_alone}

-- ---- what the session asks for
subscribe_done : (k : Packet) (c : ℕ) (client : List ℕ) (x : Unit {0}) (p : Place) (h : HeldView) (acts : List Act) → serving.SubscribesBy c client k (Some x) p h acts → SubscribeIsDone p h c client k acts
subscribe_done (packets.Subscribe q) c client x p h acts d = subscribes_alone q c client x p h acts d
subscribe_done k c client x p h acts d = d.1

unsubscribe_done : (k : Packet) (c : ℕ) (client : List ℕ) (x : Unit {0}) (p : Place) (h : HeldView) (acts : List Act) → serving.UnsubscribesBy c client k (Some x) p h acts → UnsubscribeIsDone p h c client k acts
unsubscribe_done (packets.Unsubscribe u) c client x p h acts d = unsubscribes_alone u c client x p h acts d
unsubscribe_done k c client x p h acts d = d.1

dropped_if : (b : Bool) (x : Unit {0}) (p : Place) (h : HeldView) (acts : List Act) → If b passing.Drops (Returns tt) (Some x) p h acts → cond b (acts ≡ Dropped ∷ []) (acts ≡ [])
dropped_if true x p h acts d = d.1
dropped_if false x p h acts d = d.1

done : (ask : Option Ask) (c : ℕ) (client : List ℕ) (k : Packet) (room : Bool) (end : Option ℕ) (x : Unit {0}) (p : Place) (h : HeldView) (acts : List Act) → serving.DoesAsked ask c client k room end (Some x) p h acts → IsDone p h c client ask k room end acts
done None c client k room end x p h acts d = dropped_if (serving.is_dropped k room end) x p h acts d
done (Some (asks.Pass m)) c client k room end x p h acts d = passes_on m x p h acts d
done (Some asks.Subscribe) c client k room end x p h acts d = subscribe_done k c client x p h acts d
done (Some asks.Unsubscribe) c client k room end x p h acts d = unsubscribe_done k c client x p h acts d

-- ---- a packet
pub takes_alone : (c : ℕ) (client : List ℕ) (k : Packet) (x : Unit {0}) (p : Place) (h : HeldView) (acts : List Act) → serving.ServesPacket c client k (Some x) p h acts → TakesAlone p h c client k acts
takes_alone c client k x p h acts (inl d) = none_some (sym d.0)
takes_alone c client k x p h acts (inr (r, own, mid, rest, one, ran, (inl d), is)) = none_some (sym d.0)
takes_alone c client k x p h acts (inr (r, own, mid, rest, one, ran, (inr (y, asked, held, closed, two, ran2, more, is2)), is)) =
    let room = serving.room_for client k h in
    record {
      told = own;
      asked = asked;
      closed = closed;
      is = is ∙ ap (λ zs. own ++ zs) is2;
      reaction = r;
      tells = called_by (seat_at client h) client (λ at. takes k at room) r p h own one;
      left = mid;
      leaves = ran;
      does = done r.ask c client k room r.end y p mid asked two;
      held = held;
      runs = ran2;
      closes = close_if r.end c client x p held closed more;
    }

-- ---- the fault
told_by : (b : Bool) (c code : ℕ) (x : Unit {0}) (p : Place) (h : HeldView) (acts : List Act) → If b (Sends c (disconnect code)) (Returns tt) (Some x) p h acts → acts ≡ cond b (Out (Send c (written (disconnect code))) ∷ []) []
told_by true c code x p h acts d = d.1
told_by false c code x p h acts d = d.1

broken_by : (code : Option ℕ) (fault : PacketFault) (c : ℕ) (client : List ℕ) (x y : Unit {0}) (p : Place) (h mid : HeldView) (own rest : List Act) → pieces.disconnect_code fault ≡ code → pieces.SendsDisconnect c client code (Some y) p h own → Runs p h own mid
    → ending.ClosesFor c client (Some x) p mid rest → BreaksAlone p h c client fault (own ++ rest)
broken_by None fault c client x y p h mid own rest is d ran more = absurd d
broken_by (Some code) fault c client x y p h mid own rest is d ran more =
    let b = takes_disconnect client code h in
    let told = told_by b c code y p h own d in
    let same : mid ≡ h = told_same b (Send c (written (disconnect code))) p h mid (subst (λ zs. Runs p h zs mid) told ran) in
    record { code = code; has_code = is; rest = rest; is = ap (λ zs. zs ++ rest) told; closes = subst (λ v. ClosesOn p v c client rest) same (closes_alone c client x p mid rest more) }

pub broken : (c : ℕ) (client : List ℕ) (fault : PacketFault) (x : Unit {0}) (p : Place) (h : HeldView) (acts : List Act) → pieces.BreaksBy c fault (Some client) (Some x) p h acts → BreaksAlone p h c client fault acts
broken c client fault x p h acts (inl d) = none_some (sym d.0)
broken c client fault x p h acts (inr (y, own, mid, rest, one, ran, more, is)) = subst (BreaksAlone p h c client fault) (sym is) (broken_by (pieces.disconnect_code fault) fault c client x y p h mid own rest refl one ran more)
