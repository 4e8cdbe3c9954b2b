-- The steps of a walk over a client's packets, by when it stops and what is done with a packet.
use Rattle.std.proofs.Common.{◌≡◌, ℕ, zero, suc, ◌-◌, Bool, true, false, cond, List, [], ◌∷◌, ◌++◌, length, take, Option, Some, None, Result, Ok, Err, refl, ap}
use Rattle.std.specs.Prelude.{◌||◌, not}
use Rattle.mqtt_packets.specs.declared.fault.PacketFault.{PacketFault}
use Rattle.mqtt_packets.specs.declared.packet.Packet.{Packet}
use Rattle.mqtt3_packets.specs.Stream.{packet_at}
use Rattle.door_mqtt3.specs.Client.{Outcome, Walk, come_on, done_with, halt, halts, handed, has_room, kept, let_through, limit, over, received, walk_at, walk_within, went_on}
use Rattle.door_mqtt3.specs.Client.Notice.{Faults}
use Rattle.door_mqtt3.specs.declared.client.Client.{Client}

abbrev pub then_walk : Outcome → Walk → Walk
then_walk o w = record { client = w.client; told = o.told ++ w.told; first = o.first ++ w.first; rest = w.rest }

-- a packet in front, and what follows it
abbrev pub step_by : (Client → Packet → List ℕ → Outcome) → Client → List ℕ → (Client → List ℕ → Walk) → Result (Option (Packet × List ℕ)) PacketFault → Walk
step_by done c bs next (Ok None) = halt c bs
step_by done c bs next (Ok (Some x)) = then_walk (done c x.0 (take (length bs - length x.1) bs)) (next (done c x.0 (take (length bs - length x.1) bs)).client x.1)
step_by done c bs next (Err f) = record { client = over c; told = Faults f ∷ []; first = []; rest = bs }

-- at most k packets, until it stops
pub walk_by : (Client → Bool) → (Client → Packet → List ℕ → Outcome) → ℕ → Client → List ℕ → Walk
walk_by stops done zero c bs = halt c bs
walk_by stops done (suc k) c bs = cond (stops c) (halt c bs) (step_by done c bs (λ d rest. walk_by stops done k d rest) (packet_at c.level limit bs))

-- packets as they come
abbrev pub stops_coming : Client → Bool
stops_coming c = c.ended

abbrev pub coming : ℕ → Client → List ℕ → Walk
coming k c bs = walk_by stops_coming received k c bs

-- packets that were held back
abbrev pub stops_waiting : Client → Bool
stops_waiting c = c.ended || not (has_room c)

abbrev pub hands : Client → Packet → List ℕ → Outcome
hands c p bytes = handed c p

abbrev pub waiting : ℕ → Client → List ℕ → Walk
waiting k c bs = walk_by stops_waiting hands k c bs

module _ (stops : Client → Bool) (done : Client → Packet → List ℕ → Outcome) where
  pub none_left : (c : Client) (bs : List ℕ) → walk_by stops done zero c bs ≡ halt c bs
  unfolding walk_by
  none_left c bs = refl

  pub halted : (k : ℕ) (c : Client) (bs : List ℕ) → stops c ≡ true → walk_by stops done (suc k) c bs ≡ halt c bs
  unfolding walk_by
  halted k c bs e = rw e refl

  pub goes : (k : ℕ) (c : Client) (bs : List ℕ) (r : Result (Option (Packet × List ℕ)) PacketFault) → stops c ≡ false → packet_at c.level limit bs ≡ r
      → walk_by stops done (suc k) c bs ≡ step_by done c bs (λ d rest. walk_by stops done k d rest) r
  unfolding walk_by
  goes k c bs r e f = rw (e, f) refl

-- ---- it is that of the handler

same_at : (order : _) (k : ℕ) (c : Client) (bs : List ℕ) (r : Result (Option (Packet × List ℕ)) PacketFault)
    → ((d : Client) (rest : List ℕ) → walk_within k order d rest ≡ walk_by (λ c. halts order c) (λ c p xs. done_with order c p xs) k d rest)
    → walk_at order c bs (λ d rest. walk_within k order d rest) r
    ≡ step_by (λ c p xs. done_with order c p xs) c bs (λ d rest. walk_by (λ c. halts order c) (λ c p xs. done_with order c p xs) k d rest) r
same_at order k c bs (Ok None) h = refl
same_at order k c bs (Err f) h = refl
same_at order k c bs (Ok (Some x)) h =
    let o = done_with order c x.0 (take (length bs - length x.1) bs) in ap (then_walk o) (h o.client x.1)

same_walk : (order : _) (k : ℕ) (c : Client) (bs : List ℕ) → walk_within k order c bs ≡ walk_by (λ c. halts order c) (λ c p xs. done_with order c p xs) k c bs
unfolding walk_within walk_by
same_walk order zero c bs = refl
same_walk order (suc k) c bs =
    ap (λ (w : Walk). cond (halts order c) (halt c bs) w) (same_at order k c bs (packet_at c.level limit bs) (λ d rest. same_walk order k d rest))

pub come_on_is : (c : Client) (bytes : List ℕ) → come_on c bytes ≡ kept (coming (length (c.partial ++ bytes)) (record c { partial = [] }) (c.partial ++ bytes))
come_on_is c bytes = ap kept (same_walk _ (length (c.partial ++ bytes)) (record c { partial = [] }) (c.partial ++ bytes))

pub went_on_is : (c : Client) → went_on c ≡ let_through (waiting (length c.held) (record c { held = [] }) c.held)
went_on_is c = ap let_through (same_walk _ (length c.held) (record c { held = [] }) c.held)
