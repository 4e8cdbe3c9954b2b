-- What comes of a PUBLISH that goes on as it came, alone.
use Rattle.std.proofs.Common.{◌≡◌, ◌≤◌, ℕ, eqb, arith, Bool, true, false, cond, List, [], ◌∷◌, ◌++◌, length, take, drop, Option, Some, None, refl, sym, ap, ◌∙◌}
use Rattle.std.proofs.Math.Seq.{take-length}
use Rattle.std.proofs.lemmas.Bool.{eqb-true}
use Rattle.std.specs.Prelude.{◌==◌, ◌&&◌, is_none}
use Rattle.mqtt_packets.specs.Stream.{packet_at}
use Rattle.mqtt_packets.specs.declared.publish.Publish.{Publish}
use Rattle.mqtt_bounds.specs.Pieces.{before, cut, ends_at, front_at}
use Rattle.mqtt_bounds.specs.declared.cut.End.TheVariants as ends
use Rattle.mqtt_bounds.specs.declared.front.Front.TheVariants as fronts
use Rattle.mqtt_bounds.proofs.Growing.{cut_waits, cut_whole}
use Rattle.door_packets.specs.Coming.{come, come_at, come_on, finished}
use Rattle.door_packets.specs.Front.{IsPublish}
use Rattle.door_packets.specs.Packets.{Aliases, alias_of, aliases_after, aliases_by, has_topic, is_alias_allowed, is_allowed}
use Rattle.door_packets.specs.Passing.{Passes, passes_by, told_alone}
use Rattle.door_packets.specs.Rights.{Rights}
use Rattle.door_packets.specs.Walk.{Walked, next, publish_noted, published, published_by, started, took, took_at}
use Rattle.door_packets.specs.declared.access.Login.{Login}
use Rattle.door_packets.specs.declared.client.Client.{Client}
use Rattle.door_packets.specs.declared.client.Stage.TheVariants.{Open}
use Rattle.door_packets.proofs.PacketFronts.{next_publish}

-- ---- the bytes are one packet

nothing_left : (bs : List ℕ) → drop (length bs) bs ≡ []
nothing_left [] = refl
nothing_left (b ∷ bs) = nothing_left bs

nothing_cut : cut 1048576 [] ≡ ends_at ends.Open []
unfolding front_at
nothing_cut = cut_waits 1048576 [] refl

one_cut : (bs : List ℕ) → front_at 1048576 bs ≡ fronts.Whole (length bs) → cut 1048576 bs ≡ record { packets = bs ∷ []; rest = []; end = ends.Open }
one_cut bs front =
    cut_whole 1048576 bs (length bs) front
    ∙ ap (λ (x : List ℕ). before (x ∷ []) (cut 1048576 (drop (length bs) bs))) (take-length bs)
    ∙ ap (λ (x : List ℕ). before (bs ∷ []) (cut 1048576 x)) (nothing_left bs)
    ∙ ap (before (bs ∷ [])) nothing_cut

-- ---- it may be sent

three : (a b c : Bool) → (a && b && c) ≡ true → (a ≡ true) × (b ≡ true) × (c ≡ true)
three true true true e = (refl, refl, refl)
three true true false e = absurd cc
three true false c e = absurd cc
three false b c e = absurd cc

none_is : (o : Option ℕ) → is_none o ≡ true → o ≡ None
none_is None e = refl
none_is (Some n) e = absurd cc

no_bytes : (xs : List ℕ) → (length xs == 0) ≡ true → xs ≡ []
no_bytes [] e = refl
no_bytes (x ∷ xs) e = let none : length (x ∷ xs) ≡ 0 = eqb-true (length (x ∷ xs)) 0 e in absurd (omega arith)

-- what is noted of it
noted : (r : Rights) (l : Login) (c : Client) (bs : List ℕ) (p : Publish) → passes_by r (Some l) p ≡ true → c.login ≡ Some l → published r (started c) bs p ≡ told_alone c bs
noted r l c bs p so by =
    let all = three (is_none (alias_of p)) (has_topic p) (r.may_write l p.topic) so in
    let allowed : is_allowed r l c.aliases p ≡ true = ap (λ (b : Bool). cond b (r.may_write l p.topic) (is_alias_allowed c.aliases (alias_of p))) all.1 ∙ all.2 in
    let same : aliases_after true p c.aliases ≡ c.aliases =
    ap (λ (b : Bool). cond b (aliases_by true (alias_of p) c.aliases) c.aliases) all.1 ∙ ap (λ (o : Option ℕ). aliases_by true o c.aliases) (none_is (alias_of p) all.0) in
    ap (published_by r (started c) bs p) by ∙ ap (publish_noted (started c) bs p) allowed ∙ ap (λ (a : Aliases). told_alone (record c { aliases = a }) bs) same

passing : (r : Rights) (marked : List ℕ → Bool) (c : Client) (bs : List ℕ) (l : Login) (p : Publish) → c.stage ≡ Open → c.partial ≡ [] → c.login ≡ Some l
    → front_at 1048576 bs ≡ fronts.Whole (length bs) → IsPublish p (packet_at bs) → passes_by r (Some l) p ≡ true → come r marked c bs ≡ told_alone c bs
passing r marked c bs l p at_open empty by front is so =
    let w : Walked = started c in
    let same : (record c { partial = [] }) ≡ c = ap (λ (xs : List ℕ). record c { partial = xs }) (sym empty) in
    ap (come_at r marked c bs) at_open
    ∙ ap (λ (xs : List ℕ). finished r marked c (cut 1048576 (xs ++ bs))) empty
    ∙ ap (finished r marked c) (one_cut bs front)
    ∙ ap (λ (x : Client). took r marked (started x) bs) same
    ∙ ap (took_at r marked w bs) at_open
    ∙ sym (next_publish r w (published r w bs p) bs p is refl)
    ∙ noted r l c bs p so by

by_login : (r : Rights) (marked : List ℕ → Bool) (c : Client) (bs : List ℕ) (o : Option Login) (p : Publish) → c.login ≡ o → c.stage ≡ Open → c.partial ≡ [] → front_at 1048576 bs ≡ fronts.Whole (length bs)
    → IsPublish p (packet_at bs) → passes_by r o p ≡ true → come r marked c bs ≡ told_alone c bs
by_login r marked c bs None p by at_open empty front is so = absurd cc
by_login r marked c bs (Some l) p by at_open empty front is so = passing r marked c bs l p at_open empty by front is so

pub goes_on_so : (r : Rights) (marked : List ℕ → Bool) (c : Client) (bs : List ℕ) → c.stage ≡ Open → (length c.partial == 0) ≡ true → front_at 1048576 bs ≡ fronts.Whole (length bs) → Passes r c.login bs
    → come r marked c bs ≡ told_alone c bs
goes_on_so r marked c bs at_open empty front it = by_login r marked c bs c.login it.0 refl at_open (no_bytes c.partial empty) front it.1 it.2

pub passes_so : (r : Rights) (l : Option Login) (bs : List ℕ) (p : Publish) (b : Bool) → IsPublish p (packet_at bs) → b ≡ passes_by r l p → b ≡ true → Passes r l bs
passes_so r l bs p b is e so = (p, is, sym e ∙ so)
