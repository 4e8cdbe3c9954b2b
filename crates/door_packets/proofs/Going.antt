-- What may be sent is told as it came.
use Rattle.std.proofs.Common.{◌≡◌, ℕ, Bool, true, false, cond, List, [], ◌∷◌, ◌++◌, map, Option, Some, None, Result, Ok, Err, refl, sym, ap, subst, ◌∙◌, append_assoc}
use Rattle.std.specs.Prelude.{◌&&◌, is_none, is_some}
use Rattle.std.specs.List.{AllByRecursion, list_all}
use Rattle.std.proofs.lemmas.List.{append-nil}
use Rattle.mqtt_packets.specs.Stream.{packet_at}
use Rattle.mqtt_packets.specs.declared.fault.PacketFault.{PacketFault}
use Rattle.mqtt_packets.specs.declared.packet.Packet.{Packet}
use Rattle.mqtt_packets.specs.declared.packet.Packet.TheVariants as packets
use Rattle.mqtt_packets.specs.declared.publish.Publish.{Publish}
use Rattle.mqtt_packets.specs.declared.subscribe.Subscribe.{Subscribe}
use Rattle.mqtt_packets.specs.declared.subscribe.SubscribeFilter.{SubscribeFilter}
use Rattle.mqtt_bounds.specs.Pieces.{Cut, cut}
use Rattle.mqtt_bounds.specs.declared.cut.End.{End}
use Rattle.mqtt_bounds.specs.declared.cut.End.TheVariants as ends
use Rattle.door_packets.specs.StreamLaws.{AllGoOn, IsSendable, ReadsSendable}
use Rattle.door_packets.specs.Packets.{alias_of, codes_of, filter_code, has_topic, is_alias_allowed, is_allowed, is_asked, suback_step, smaller, subscribe_step}
use Rattle.door_packets.specs.Rights.{Rights}
use Rattle.door_packets.specs.Walk.{Walked, next, next_by, publish_noted, published_by, started, subscribed_by, took, took_at, walked, with_step}
use Rattle.door_packets.specs.Coming.{come_at, come_on, ended, finished, is_open, kept, limit}
use Rattle.door_packets.specs.declared.access.Login.{Login}
use Rattle.door_packets.specs.declared.client.Client.{Client}
use Rattle.door_packets.specs.declared.client.Stage.{Stage}
use Rattle.door_packets.specs.declared.client.Stage.TheVariants.{Open}
use Rattle.door_packets.specs.declared.step.Step.{Step}
use Rattle.door_packets.specs.declared.step.Step.TheVariants as steps

-- a packet is told, and the client is as it was
record IsGoing (l : Login) (w w' : Walked) (bs : List ℕ) : Type 0 where
  stage : w'.client.stage ≡ Open
  login : w'.client.login ≡ Some l
  steps : w'.steps ≡ w.steps ++ steps.Tells bs ∷ []

going : (l : Login) (w : Walked) (bs : List ℕ) → w.client.stage ≡ Open → w.client.login ≡ Some l → IsGoing l w (with_step w (steps.Tells bs)) bs
going l w bs at_open by = record { stage = at_open; login = by; steps = refl }

-- ---- PUBLISH

may_go : (r : Rights) (l : Login) (w : Walked) (p : Publish) → IsSendable r l (packets.Publish p) → is_allowed r l w.client.aliases p ≡ true
may_go r l w p is = ap (λ (b : Bool). cond b (r.may_write l p.topic) (is_alias_allowed w.client.aliases (alias_of p))) is.0 ∙ is.1

publish_going : (r : Rights) (l : Login) (w : Walked) (bs : List ℕ) (p : Publish) → w.client.stage ≡ Open → w.client.login ≡ Some l → IsSendable r l (packets.Publish p) → IsGoing l w (published_by r w bs p w.client.login) bs
publish_going r l w bs p at_open by is =
    let same : published_by r w bs p w.client.login ≡ publish_noted w bs p true = ap (published_by r w bs p) by ∙ ap (publish_noted w bs p) (may_go r l w p is) in
    subst (λ (x : Walked). IsGoing l w x bs) (sym same) (record { stage = at_open; login = by; steps = refl })

-- ---- SUBSCRIBE

none_refused : (r : Rights) (l : Login) (fs : List SubscribeFilter) → AllByRecursion (λ f. r.may_subscribe l f.filter ≡ true) fs → list_all is_none (codes_of r l fs) ≡ true
none_refused r l [] all = refl
none_refused r l (f ∷ fs) all =
    ap (λ (b : Bool). is_none {T = ℕ} (cond b None (Some 135)) && list_all is_none (codes_of r l fs)) all.0 ∙ none_refused r l fs all.1

subscribe_going : (r : Rights) (l : Login) (w : Walked) (bs : List ℕ) (s : Subscribe) → w.client.stage ≡ Open → w.client.login ≡ Some l → IsSendable r l (packets.Subscribe s) → IsGoing l w (subscribed_by r w bs s w.client.login) bs
subscribe_going r l w bs s at_open by is =
    let other : Step = cond (list_all is_some (codes_of r l s.filters)) (suback_step s.identifier (codes_of r l s.filters))
    (steps.Asks (packets.Subscribe (smaller r l s)) (Some (record { identifier = s.identifier; codes = codes_of r l s.filters }))) in
    let tells : subscribe_step r l bs s ≡ steps.Tells bs = ap (λ (b : Bool). cond b (steps.Tells bs) other) (none_refused r l s.filters is) in
    let same : subscribed_by r w bs s w.client.login ≡ with_step w (steps.Tells bs) = ap (subscribed_by r w bs s) by ∙ ap (with_step w) tells in
    subst (λ (x : Walked). IsGoing l w x bs) (sym same) (going l w bs at_open by)

-- ---- any packet

next_going : (r : Rights) (l : Login) (w : Walked) (bs : List ℕ) (p : Packet) → w.client.stage ≡ Open → w.client.login ≡ Some l → IsSendable r l p → IsGoing l w (next_by r w bs p) bs
next_going r l w bs (packets.Publish p) at_open by is = publish_going r l w bs p at_open by is
next_going r l w bs (packets.Subscribe s) at_open by is = subscribe_going r l w bs s at_open by is
next_going r l w bs (packets.Connect c) at_open by is = going l w bs at_open by
next_going r l w bs (packets.Connack c) at_open by is = going l w bs at_open by
next_going r l w bs (packets.Puback a) at_open by is = going l w bs at_open by
next_going r l w bs (packets.Pubrec a) at_open by is = going l w bs at_open by
next_going r l w bs (packets.Pubrel a) at_open by is = going l w bs at_open by
next_going r l w bs (packets.Pubcomp a) at_open by is = going l w bs at_open by
next_going r l w bs (packets.Suback s) at_open by is = going l w bs at_open by
next_going r l w bs (packets.Unsubscribe u) at_open by is = going l w bs at_open by
next_going r l w bs (packets.Unsuback s) at_open by is = going l w bs at_open by
next_going r l w bs packets.Pingreq at_open by is = going l w bs at_open by
next_going r l w bs packets.Pingresp at_open by is = going l w bs at_open by
next_going r l w bs (packets.Disconnect e) at_open by is = going l w bs at_open by
next_going r l w bs (packets.Auth e) at_open by is = going l w bs at_open by

read_going : (r : Rights) (l : Login) (w : Walked) (bs : List ℕ) (x : Result (Option (Packet × List ℕ)) PacketFault) → packet_at bs ≡ x → w.client.stage ≡ Open → w.client.login ≡ Some l → ReadsSendable r l bs
    → IsGoing l w (next r w bs x) bs
read_going r l w bs (Ok (Some (p, rest))) e at_open by is = next_going r l w bs p at_open by (is p rest e)
read_going r l w bs (Ok None) e at_open by is = going l w bs at_open by
read_going r l w bs (Err f) e at_open by is = going l w bs at_open by

took_going : (r : Rights) (marked : List ℕ → Bool) (l : Login) (w : Walked) (bs : List ℕ) → w.client.stage ≡ Open → w.client.login ≡ Some l → ReadsSendable r l bs → IsGoing l w (took r marked w bs) bs
took_going r marked l w bs at_open by is =
    subst (λ (s : Stage). IsGoing l w (took_at r marked w bs s) bs) (sym at_open) (read_going r l w bs (packet_at bs) refl at_open by is)

walked_going : (r : Rights) (marked : List ℕ → Bool) (l : Login) (w : Walked) (ps : List (List ℕ)) → w.client.stage ≡ Open → w.client.login ≡ Some l → AllByRecursion (ReadsSendable r l) ps
    → (walked r marked w ps).steps ≡ w.steps ++ map (λ p. steps.Tells p) ps
walked_going r marked l w [] at_open by all = sym (append-nil w.steps)
walked_going r marked l w (p ∷ ps) at_open by all =
    let one = took_going r marked l w p at_open by all.0 in
    walked_going r marked l (took r marked w p) ps one.stage one.login all.1 ∙ ap (λ (ss : List Step). ss ++ map (λ p. steps.Tells p) ps) one.steps
    ∙ append_assoc w.steps (steps.Tells p ∷ []) (map (λ p. steps.Tells p) ps)

open_end : (end : End) (rest : List ℕ) (w : Walked) → end ≡ ends.Open → (ended end rest w).steps ≡ w.steps
open_end end rest w is = ap (λ (e : End). (ended e rest w).steps) is

pub all_go_on : AllGoOn
all_go_on r marked c l bytes at_open by last all =
    let parts : Cut = cut limit (c.partial ++ bytes) in
    let begin : Walked = started (record c { partial = kept parts.end parts.rest }) in
    let same : (come_at r marked c bytes c.stage).steps ≡ (come_on r marked c bytes).steps = ap (λ (s : Stage). (come_at r marked c bytes s).steps) at_open in
    same ∙ open_end parts.end parts.rest (walked r marked begin parts.packets) last ∙ walked_going r marked l begin parts.packets at_open by all
