-- What a walk over a client's packets leaves as it was.
use Rattle.std.proofs.Common.{◌≡◌, ℕ, zero, suc, ◌-◌, Bool, true, false, cond, List, length, take, Option, Some, None, Result, Ok, Err, refl, sym, subst, ◌∙◌}
use Rattle.std.specs.Prelude.{nat_lt}
use Rattle.mqtt_packets.specs.declared.fault.PacketFault.{PacketFault}
use Rattle.mqtt_packets.specs.declared.packet.Packet.{Packet}
use Rattle.mqtt3_packets.specs.Stream.{packet_at}
use Rattle.door_mqtt3.specs.Asked.{is_refused}
use Rattle.door_mqtt3.specs.Client.{Outcome, Walk, dropped_if, front_handed, handed, is_disconnect, limit, opened_by, overrun, received, waits, withheld}
use Rattle.door_mqtt3.specs.declared.client.Client.{Client}
use Rattle.law_doors.proofs.Steps.{coming, goes, halted, hands, none_left, step_by, stops_coming, stops_waiting, waiting}
use Rattle.law_doors.proofs.Walks.{IsLike, kept_back, like_same, like_then, opened_case, passed, refused}

-- ---- packets as they come

pub record IsKept (c d : Client) : Type 0 where
  pub level : d.level ≡ c.level
  pub served : d.served ≡ c.served
  pub partial : d.partial ≡ c.partial

kept_same : (c : Client) → IsKept c c
kept_same c = record { level = refl; served = refl; partial = refl }

kept_then : (c d e : Client) → IsKept c d → IsKept d e → IsKept c e
kept_then c d e a b = record { level = b.level ∙ a.level; served = b.served ∙ a.served; partial = b.partial ∙ a.partial }

kept_like : (c d : Client) → IsLike c d → IsKept c d
kept_like c d h = record { level = h.level; served = h.served; partial = h.partial }

kept_if : (c : Client) (x y : Outcome) (t : Bool) → IsKept c x.client → IsKept c y.client → IsKept c (cond t x y).client
kept_if c x y true a b = a
kept_if c x y false a b = b

handed_kept : (c : Client) (p : Packet) → IsKept c (handed c p).client
handed_kept c p =
    kept_if c (refused c) (passed c p) (is_refused c.level p) (record { level = refl; served = refl; partial = refl }) (kept_like c (passed c p).client (opened_case c (opened_by p)))

front_kept : (c : Client) (r : Result (Option (Packet × List ℕ)) PacketFault) → IsKept c (front_handed c r).client
front_kept c (Ok (Some x)) = let h = handed_kept c x.0 in record { level = h.level; served = h.served; partial = h.partial }
front_kept c (Ok None) = record { level = refl; served = refl; partial = refl }
front_kept c (Err f) = record { level = refl; served = refl; partial = refl }

dropped_kept : (c : Client) (t : Bool) → IsKept c (dropped_if t c)
dropped_kept c true = record { level = refl; served = refl; partial = refl }
dropped_kept c false = record { level = refl; served = refl; partial = refl }

withheld_kept : (c : Client) (bytes : List ℕ) → IsKept c (withheld c bytes).client
withheld_kept c bytes =
    kept_if c (overrun c) (kept_back c bytes) (nat_lt (limit - length c.held) (length bytes)) (front_kept c (packet_at c.level limit c.held)) (record { level = refl; served = refl; partial = refl })

received_kept : (c : Client) (p : Packet) (bytes : List ℕ) → IsKept c (received c p bytes).client
received_kept c p bytes =
    let d = dropped_if (is_disconnect p) c in
    kept_if c (withheld c bytes) (handed d p) (waits c p) (withheld_kept c bytes) (kept_then c d (handed d p).client (dropped_kept c (is_disconnect p)) (handed_kept d p))

step_kept : (c : Client) (bs : List ℕ) (next : Client → List ℕ → Walk) (r : Result (Option (Packet × List ℕ)) PacketFault) → ((d : Client) (rest : List ℕ) → IsKept d (next d rest).client)
    → IsKept c (step_by received c bs next r).client
step_kept c bs next (Ok None) h = kept_same c
step_kept c bs next (Err f) h = record { level = refl; served = refl; partial = refl }
step_kept c bs next (Ok (Some x)) h =
    let o = received c x.0 (take (length bs - length x.1) bs) in
    kept_then c o.client (next o.client x.1).client (received_kept c x.0 (take (length bs - length x.1) bs)) (h o.client x.1)

kept_case : (k : ℕ) (c : Client) (bs : List ℕ) (b : Bool) → stops_coming c ≡ b → ((d : Client) (rest : List ℕ) → IsKept d (coming k d rest).client) → IsKept c (coming (suc k) c bs).client
kept_case k c bs true e h = subst (λ (w : Walk). IsKept c w.client) (sym (halted stops_coming received k c bs e)) (kept_same c)
kept_case k c bs false e h =
    let r = packet_at c.level limit bs in
    subst (λ (w : Walk). IsKept c w.client) (sym (goes stops_coming received k c bs r e refl)) (step_kept c bs (λ d rest. coming k d rest) r h)

pub coming_kept : (k : ℕ) (c : Client) (bs : List ℕ) → IsKept c (coming k c bs).client
coming_kept zero c bs = subst (λ (w : Walk). IsKept c w.client) (sym (none_left stops_coming received c bs)) (kept_same c)
coming_kept (suc k) c bs = kept_case k c bs (stops_coming c) refl (λ d rest. coming_kept k d rest)

-- ---- packets that were held back

like_if : (c : Client) (x y : Outcome) (t : Bool) → IsLike c x.client → IsLike c y.client → IsLike c (cond t x y).client
like_if c x y true a b = a
like_if c x y false a b = b

handed_like : (c : Client) (p : Packet) → IsLike c (handed c p).client
handed_like c p = like_if c (refused c) (passed c p) (is_refused c.level p) (record { level = refl; bridge = refl; served = refl; held = refl; partial = refl }) (opened_case c (opened_by p))

step_like : (c : Client) (bs : List ℕ) (next : Client → List ℕ → Walk) (r : Result (Option (Packet × List ℕ)) PacketFault) → ((d : Client) (rest : List ℕ) → IsLike d (next d rest).client)
    → IsLike c (step_by hands c bs next r).client
step_like c bs next (Ok None) h = like_same c
step_like c bs next (Err f) h = record { level = refl; bridge = refl; served = refl; held = refl; partial = refl }
step_like c bs next (Ok (Some x)) h = let d = (handed c x.0).client in like_then c d (next d x.1).client (handed_like c x.0) (h d x.1)

like_case : (k : ℕ) (c : Client) (bs : List ℕ) (b : Bool) → stops_waiting c ≡ b → ((d : Client) (rest : List ℕ) → IsLike d (waiting k d rest).client) → IsLike c (waiting (suc k) c bs).client
like_case k c bs true e h = subst (λ (w : Walk). IsLike c w.client) (sym (halted stops_waiting hands k c bs e)) (like_same c)
like_case k c bs false e h =
    let r = packet_at c.level limit bs in
    subst (λ (w : Walk). IsLike c w.client) (sym (goes stops_waiting hands k c bs r e refl)) (step_like c bs (λ d rest. waiting k d rest) r h)

pub waiting_like : (k : ℕ) (c : Client) (bs : List ℕ) → IsLike c (waiting k c bs).client
waiting_like zero c bs = subst (λ (w : Walk). IsLike c w.client) (sym (none_left stops_waiting hands c bs)) (like_same c)
waiting_like (suc k) c bs = like_case k c bs (stops_waiting c) refl (λ d rest. waiting_like k d rest)
