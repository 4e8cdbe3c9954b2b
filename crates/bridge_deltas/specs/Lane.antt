-- The lanes to and from one other node.
use Rattle.std.specs.Prelude.{ℕ, suc, ◌+◌, ◌^◌, nat_lt, List, [], ◌∷◌, length, take, if◌then◌else◌, refl}
use Rattle.std.specs.Coded.{Coded, code_by, coded×, coded_ℕ, coded_list}
use Rattle.bridge_lanes.specs.Lanes.{with_put}
use Rattle.bridge_lanes.specs.Rows.{Messages}
use Rattle.bridge_lanes.specs.Changes.{KeptLane}
use Rattle.bridge_frames.specs.declared.body.FrameBody.TheVariants as bodies
use Rattle.bridge_frames.specs.declared.forward.Forward.{Forward}
use Rattle.bridge_frames.specs.declared.frame.BridgeFrame.{BridgeFrame}
use Rattle.bridge_deltas.specs.declared.offer.Offer.{Offer}
use Rattle.bridge_deltas.specs.declared.offer.Offer.TheVariants.{Queued, Full, AtEnd}
use Rattle.bridge_deltas.specs.Codes.{coded_forward}

-- the number that the next message gets
abbrev pub next_number : Messages → ℕ
next_number l = suc (l.gone + length l.waiting)

-- at most 65,536 messages wait, and numbers are below 2^62
abbrev pub offer_of : Messages → Offer
offer_of l = if nat_lt (length l.waiting) 65536 then (if nat_lt (next_number l) (2 ^ 62) then Queued (next_number l) else AtEnd) else Full

abbrev pub after_offer : Offer → Forward → Messages → Messages
after_offer (Queued n) m l = with_put m l
after_offer Full m l = l
after_offer AtEnd m l = l

-- frames with these messages, under the numbers from one on
abbrev pub frames_from : ℕ → ℕ → ℕ → List Forward → List BridgeFrame
frames_from from to n [] = []
frames_from from to n (m ∷ ms) = record { from = from; to = to; body = bodies.Forward n m } ∷ frames_from from to (suc n) ms

-- the first 64 that wait
abbrev pub first_frames : ℕ → ℕ → Messages → List BridgeFrame
first_frames from to l = frames_from from to (suc l.gone) (take 64 l.waiting)

-- lanes whose rows were told as they are
abbrev pub told_lane : Messages → KeptLane
told_lane l = record { lane = l; told = l }

-- each is stored as its parts
abbrev pub coded_messages : Coded Messages
coded_messages = code_by (ℕ × (List Forward × ℕ)) (coded× coded_ℕ (coded× (coded_list coded_forward) coded_ℕ)) (λ l. (l.gone, (l.waiting, l.took))) (λ p. record { gone = p.0; waiting = p.1.0; took = p.1.1 }) (λ _. refl)

abbrev pub coded_kept : Coded KeptLane
coded_kept = code_by (Messages × Messages) (coded× coded_messages coded_messages) (λ k. (k.lane, k.told)) (λ p. record { lane = p.0; told = p.1 }) (λ _. refl)
