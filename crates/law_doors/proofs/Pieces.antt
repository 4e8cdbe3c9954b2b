-- In whatever pieces a client's bytes come, the same comes of them.
use Rattle.std.proofs.Common.{◌≡◌, ℕ, zero, suc, ◌-◌, ◌<◌, ◌≤◌, Bool, true, false, cond, List, [], ◌∷◌, ◌++◌, length, take, Option, Some, None, Result, Ok, Err, refl, sym, ap, subst, ◌∙◌, append_assoc, arith}
use Rattle.std.specs.Prelude.{◌↔◌, not}
use Rattle.std.specs.List.{concat}
use Rattle.std.proofs.lemmas.List.{append-nil, length-append, take-append-le}
use Rattle.mqtt_fields.proofs.Laws.{IsBytes, IsBytes-rest}
use Rattle.mqtt_packets.specs.declared.fault.PacketFault.{PacketFault}
use Rattle.mqtt_packets.specs.declared.fault.PacketFault.TheVariants.{Malformed}
use Rattle.mqtt_packets.specs.declared.packet.Packet.{Packet}
use Rattle.mqtt_packets.proofs.GrowLaws.{GrownOn, IsBytes-both, IsBytes-front, on_packet}
use Rattle.mqtt3_packets.specs.Stream.{packet_at}
use Rattle.mqtt3_packets.specs.Version.{version_of}
use Rattle.mqtt3_packets.specs.declared.version.Version.{Version}
use Rattle.mqtt3_packets.specs.declared.version.Version.TheVariants.{Five, Before, Unserved}
use Rattle.door_mqtt3.specs.Client.{AreSpelled, Notice, Outcome, Walk, come, come_on, fresh, halt, kept, limit, received}
use Rattle.door_mqtt3.specs.Client.Notice.{Faults, Same}
use Rattle.door_mqtt3.specs.Stages.{Come, begun, comes, has_ended, of_outcome}
use Rattle.door_mqtt3.specs.declared.client.Client.{Client}
use Rattle.door_mqtt3.specs.declared.clients.Stage.{Stage}
use Rattle.door_mqtt3.proofs.Paths.{spelled_then}
use Rattle.law_doors.specs.Pieces.{AnyPieces, IsAlike, come_more, come_pieces, come_then, nothing_came}
use Rattle.law_doors.specs.Turns.{opened}
use Rattle.law_doors.proofs.Cuts.{nothing_there}
use Rattle.law_doors.proofs.Growing.{packet_grows, packet_less, packet_rest}
use Rattle.law_doors.proofs.Keeping.{IsKept, coming_kept}
use Rattle.law_doors.proofs.Steps.{come_on_is, coming, goes, halted, none_left, step_by, stops_coming, then_walk}
use Rattle.law_doors.proofs.Versions.{version_steady}

-- ---- a walk that has bytes enough

-- a step, unless it has ended
abbrev next_by : Client → List ℕ → (Client → List ℕ → Walk) → Bool → Result (Option (Packet × List ℕ)) PacketFault → Walk
next_by c bs next true r = halt c bs
next_by c bs next false r = step_by received c bs next r

walk_is : (k : ℕ) (c : Client) (bs : List ℕ) (b : Bool) (r : Result (Option (Packet × List ℕ)) PacketFault) → c.ended ≡ b → packet_at c.level limit bs ≡ r
    → coming (suc k) c bs ≡ next_by c bs (λ d rest. coming k d rest) b r
walk_is k c bs true r on e = halted stops_coming received k c bs on
walk_is k c bs false r on e = goes stops_coming received k c bs r on e

next_same : (f g : Client → List ℕ → Walk) (c : Client) (bs : List ℕ) (b : Bool) (r : Result (Option (Packet × List ℕ)) PacketFault)
    → ((d : Client) (x : Packet × List ℕ) → r ≡ Ok (Some x) → f d x.1 ≡ g d x.1) → next_by c bs f b r ≡ next_by c bs g b r
next_same f g c bs true r h = refl
next_same f g c bs false (Ok None) h = refl
next_same f g c bs false (Err e) h = refl
next_same f g c bs false (Ok (Some x)) h = let o = received c x.0 (take (length bs - length x.1) bs) in ap (then_walk o) (h o.client x refl)

walk_nothing_by : (k : ℕ) (c : Client) (b : Bool) → c.ended ≡ b → coming (suc k) c [] ≡ halt c []
walk_nothing_by k c true on = halted stops_coming received k c [] on
walk_nothing_by k c false on = goes stops_coming received k c [] (Ok None) on (nothing_there c.level)

walk_nothing : (k : ℕ) (c : Client) → coming k c [] ≡ halt c []
walk_nothing zero c = none_left stops_coming received c []
walk_nothing (suc k) c = walk_nothing_by k c c.ended refl

enough : (k j : ℕ) (c : Client) (bs : List ℕ) → IsBytes bs → length bs ≤ k → length bs ≤ j → coming k c bs ≡ coming j c bs
enough k j c [] fits lk lj = walk_nothing k c ∙ sym (walk_nothing j c)
enough zero j c (b ∷ bs) fits lk lj = absurd (omega arith)
enough (suc k) zero c (b ∷ bs) fits lk lj = absurd (omega arith)
enough (suc k) (suc j) c (b ∷ bs) fits lk lj =
    let r = packet_at c.level limit (b ∷ bs) in
    walk_is k c (b ∷ bs) c.ended r refl refl
    ∙ next_same (λ d rest. coming k d rest) (λ d rest. coming j d rest) c (b ∷ bs) c.ended r
    (λ d x e. let lt = packet_less c.level limit (b ∷ bs) x fits e in enough k j d x.1 (packet_rest c.level limit (b ∷ bs) x fits e) (omega arith) (omega arith))
    ∙ sym (walk_is j c (b ∷ bs) c.ended r refl refl)

-- all packets of the bytes
abbrev all_of : Client → List ℕ → Walk
all_of c bs = coming (length bs) c bs

all_is : (c : Client) (bs : List ℕ) (b : Bool) (r : Result (Option (Packet × List ℕ)) PacketFault) → IsBytes bs → c.ended ≡ b → packet_at c.level limit bs ≡ r → all_of c bs ≡ next_by c bs all_of b r
all_is c bs b r fits on e =
    enough (length bs) (suc (length bs)) c bs fits (omega arith) (omega arith) ∙ walk_is (length bs) c bs b r on e
    ∙ next_same (λ d rest. coming (length bs) d rest) all_of c bs b r
    (λ d x f. let g : packet_at c.level limit bs ≡ Ok (Some x) = e ∙ f in let lt = packet_less c.level limit bs x fits g in
    enough (length bs) (length x.1) d x.1 (packet_rest c.level limit bs x fits g) (omega arith) (omega arith))

-- ---- more bytes

abbrev joined : Walk → Walk → Walk
joined w v = record { client = v.client; told = w.told ++ v.told; first = w.first ++ v.first; rest = v.rest }

abbrev more_by : Bool → Walk → List ℕ → Walk
more_by ended w b = cond ended (record { client = w.client; told = w.told; first = w.first; rest = w.rest ++ b }) (joined w (all_of w.client (w.rest ++ b)))

abbrev more : Walk → List ℕ → Walk
more w b = more_by w.client.ended w b

more_then : (o : Outcome) (w : Walk) (b : List ℕ) (t : Bool) → more_by t (then_walk o w) b ≡ then_walk o (more_by t w b)
more_then o w b true = refl
more_then o w b false =
    let v = all_of w.client (w.rest ++ b) in
    rw (append_assoc o.told w.told v.told, append_assoc o.first w.first v.first) refl

own_same : (a b rest : List ℕ) → length rest ≤ length a → take (length (a ++ b) - length (rest ++ b)) (a ++ b) ≡ take (length a - length rest) a
own_same a b rest le =
    let n : length (a ++ b) - length (rest ++ b) ≡ length a - length rest = omega (arith, length-append a b, length-append rest b) in
    rw n (take-append-le (length a - length rest) a b (omega arith))

alike_case : (c : Client) (a b : List ℕ) (t : Bool) (r : Result (Option (Packet × List ℕ)) PacketFault) → IsBytes (a ++ b) → IsBytes a → c.ended ≡ t → packet_at c.level limit a ≡ r
    → GrownOn on_packet b r (packet_at c.level limit (a ++ b)) → ((d : Client) (x : Packet × List ℕ) → r ≡ Ok (Some x) → all_of d (x.1 ++ b) ≡ more (all_of d x.1) b)
    → all_of c (a ++ b) ≡ more (all_of c a) b
unfolding GrownOn
alike_case c a b true r fits front on e g next =
    let one : all_of c a ≡ halt c a = all_is c a true r front on e in
    all_is c (a ++ b) true (packet_at c.level limit (a ++ b)) fits on refl ∙ sym (ap (λ (w : Walk). more w b) one ∙ ap (λ (t : Bool). more_by t (halt c a) b) on)
alike_case c a b false (Ok None) fits front on e g next =
    let one : all_of c a ≡ halt c a = all_is c a false (Ok None) front on e in
    sym (ap (λ (w : Walk). more w b) one ∙ ap (λ (t : Bool). more_by t (halt c a) b) on)
alike_case c a b false (Err f) fits front on e g next =
    all_is c (a ++ b) false (Err f) fits on g ∙ sym (ap (λ (w : Walk). more w b) (all_is c a false (Err f) front on e))
alike_case c a b false (Ok (Some x)) fits front on e g next =
    let less = packet_less c.level limit a x front e in
    let own = own_same a b x.1 (omega arith) in
    let bytes = take (length a - length x.1) a in
    let o = received c x.0 bytes in
    let w = all_of o.client x.1 in
    all_is c (a ++ b) false (Ok (Some (on_packet b x))) fits on g
    ∙ ap (λ (xs : List ℕ). then_walk (received c x.0 xs) (all_of (received c x.0 xs).client (x.1 ++ b))) own
    ∙ ap (then_walk o) (next o.client x refl) ∙ sym (more_then o w b w.client.ended) ∙ sym (ap (λ (v : Walk). more v b) (all_is c a false (Ok (Some x)) front on e))

alike_within : (n : ℕ) (c : Client) (a b : List ℕ) → length a < n → IsBytes (a ++ b) → all_of c (a ++ b) ≡ more (all_of c a) b
alike_within zero c a b lt fits = absurd (omega arith)
alike_within (suc n) c a b lt fits =
    let front = IsBytes-front a b fits in
    alike_case c a b c.ended (packet_at c.level limit a) fits front refl refl (packet_grows c.level limit a b front)
    (λ d x e.
    let less = packet_less c.level limit a x front e in
    let rest : IsBytes (x.1 ++ b) = IsBytes-both x.1 b (packet_rest c.level limit a x front e) (IsBytes-rest a b fits) in
    alike_within n d x.1 b (omega arith) rest)

alike : (c : Client) (a b : List ℕ) → IsBytes (a ++ b) → all_of c (a ++ b) ≡ more (all_of c a) b
alike c a b fits = alike_within (suc (length a)) c a b (omega arith) fits

-- ---- of a client whose bytes are looked at

abbrev start : Client → Client
start c = record c { partial = [] }

abbrev joined_outcome : Outcome → Outcome → Outcome
joined_outcome x y = record { client = y.client; told = x.told ++ y.told; first = x.first ++ y.first }

-- by whether its level is served, and whether it has ended
abbrev come_by : Client → List ℕ → Bool → Bool → Outcome
come_by c bytes served ended =
    cond (not served) (record { client = c; told = Same bytes ∷ []; first = [] }) (cond ended (record { client = c; told = Faults Malformed ∷ []; first = [] }) (come_on c bytes))

come_is : (c : Client) (bytes : List ℕ) → c.served ≡ true → c.ended ≡ false → come c bytes ≡ kept (all_of (start c) (c.partial ++ bytes))
come_is c bytes s e = ap (λ (b : Bool). come_by c bytes b c.ended) s ∙ ap (λ (b : Bool). come_by c bytes true b) e ∙ come_on_is c bytes

again : (c : Client) → c.partial ≡ [] → start c ≡ c
again c e = ap (λ (xs : List ℕ). record c { partial = xs }) (sym e)

-- what a walk comes to, and what comes of more
kept_over : (w : Walk) → w.client.ended ≡ true → kept w ≡ record { client = w.client; told = w.told; first = w.first }
kept_over w e = rw e refl

kept_ended : (w : Walk) (b : List ℕ) → w.client.ended ≡ true → kept (more w b) ≡ kept w
kept_ended w b e = ap kept (ap (λ (t : Bool). more_by t w b) e) ∙ kept_over (more_by true w b) e ∙ sym (kept_over w e)

kept_on : (w v : Walk) → kept (joined w v) ≡ record { client = (kept v).client; told = w.told ++ v.told; first = w.first ++ v.first }
kept_on w v = refl

-- how a client goes on behind a walk
abbrev left_of : Walk → Client
left_of w = record w.client { partial = w.rest }

kept_client : (w : Walk) → w.client.ended ≡ false → kept w ≡ record { client = left_of w; told = w.told; first = w.first }
kept_client w e = rw e refl

-- the client's bytes come in two pieces
record InTwo (c : Client) (a b : List ℕ) : Type 0 where
  over : (come c a).client.ended ≡ true → come c (a ++ b) ≡ come c a
  on : (come c a).client.ended ≡ false → come c (a ++ b) ≡ joined_outcome (come c a) (come (come c a).client b)

two_on : (c : Client) (w : Walk) (b : List ℕ) → c.served ≡ true → c.partial ≡ [] → IsKept c w.client → w.client.ended ≡ false → kept (more w b) ≡ joined_outcome (kept w) (come (kept w).client b)
two_on c w b s p k e =
    let v = all_of w.client (w.rest ++ b) in
    let d = left_of w in
    let one : more w b ≡ joined w v = ap (λ (t : Bool). more_by t w b) e in
    let client : kept w ≡ record { client = d; told = w.told; first = w.first } = kept_client w e in
    let same : come d b ≡ kept v = come_is d b (k.served ∙ s) e ∙ ap (λ (x : Client). kept (all_of x (w.rest ++ b))) (again w.client (k.partial ∙ p)) in
    ap kept one ∙ ap (joined_outcome (record { client = d; told = w.told; first = w.first })) (sym same) ∙ sym (ap (λ (x : Outcome). joined_outcome x (come x.client b)) client)

ended_case : (w : Walk) (t : Bool) → (cond t w.client (left_of w)).ended ≡ w.client.ended
ended_case w true = refl
ended_case w false = refl

ended_of : (w : Walk) (t : Bool) → w.client.ended ≡ t → (kept w).client.ended ≡ t
ended_of w t e = ended_case w w.client.ended ∙ e

apart_ended : (b : Bool) → b ≡ true → b ≡ false → ⊥
apart_ended b e f = cc

two_case : (c : Client) (w : Walk) (b : List ℕ) (o : Outcome) (t : Bool) → w.client.ended ≡ t → o ≡ kept (more w b) → c.served ≡ true → c.partial ≡ [] → IsKept c w.client
    → ((kept w).client.ended ≡ true → o ≡ kept w) × ((kept w).client.ended ≡ false → o ≡ joined_outcome (kept w) (come (kept w).client b))
two_case c w b o true e is s p k = (λ f. is ∙ kept_ended w b e, λ f. absurd (apart_ended (kept w).client.ended (ended_of w true e) f))
two_case c w b o false e is s p k = (λ f. absurd (apart_ended (kept w).client.ended f (ended_of w false e)), λ f. is ∙ two_on c w b s p k e)

in_two : (c : Client) (a b : List ℕ) → IsBytes (c.partial ++ (a ++ b)) → c.served ≡ true → c.ended ≡ false → InTwo c a b
in_two c a b fits s e =
    let w = all_of (start c) (c.partial ++ a) in
    let regrouped : c.partial ++ (a ++ b) ≡ (c.partial ++ a) ++ b = sym (append_assoc c.partial a b) in
    let walked : all_of (start c) (c.partial ++ (a ++ b)) ≡ more w b = ap (all_of (start c)) regrouped ∙ alike (start c) (c.partial ++ a) b (subst IsBytes regrouped fits) in
    let both : come c (a ++ b) ≡ kept (more w b) = come_is c (a ++ b) s e ∙ ap kept walked in
    let first : come c a ≡ kept w = come_is c a s e in
    let k = two_case (start c) w b (come c (a ++ b)) w.client.ended refl both s refl (coming_kept (length (c.partial ++ a)) (start c) (c.partial ++ a)) in
    record {
      over = subst (λ (x : Outcome). x.client.ended ≡ true → come c (a ++ b) ≡ x) (sym first) k.0;
      on = subst (λ (x : Outcome). x.client.ended ≡ false → come c (a ++ b) ≡ joined_outcome x (come x.client b)) (sym first) k.1;
    }

-- ---- the same bytes

abbrev Alike : List Notice → List Notice → Type 0
Alike ns ms = (bytes : List ℕ) → AreSpelled ns bytes ↔ AreSpelled ms bytes

split : (ns ms : List Notice) (bs : List ℕ) → AreSpelled (ns ++ ms) bs → (xs : List ℕ) × (ys : List ℕ) × (bs ≡ xs ++ ys) × AreSpelled ns xs × AreSpelled ms ys
split [] ms bs all = ([], bs, refl, refl, all)
split (n ∷ ns) ms bs (front, back, is, one, all) =
    let rest = split ns ms back all in
    (front ++ rest.0, rest.1, is ∙ ap (λ (zs : List ℕ). front ++ zs) rest.2 ∙ sym (append_assoc front rest.0 rest.1), (front, rest.0, refl, one, rest.3), rest.4)

alike_front : (ns ms ks : List Notice) (bs : List ℕ) → ((bytes : List ℕ) → AreSpelled ns bytes → AreSpelled ms bytes) → AreSpelled (ns ++ ks) bs → AreSpelled (ms ++ ks) bs
alike_front ns ms ks bs h all =
    let s = split ns ks bs all in
    subst (λ (zs : List ℕ). AreSpelled (ms ++ ks) zs) (sym s.2) (spelled_then ms ks s.0 s.1 (h s.0 s.3) s.4)

one_same : (a bs : List ℕ) → AreSpelled (Same a ∷ []) bs → bs ≡ a
one_same a bs (front, back, is, same, none) = is ∙ ap (λ (zs : List ℕ). front ++ zs) none ∙ append-nil front ∙ same

same_one : (a bs : List ℕ) → bs ≡ a → AreSpelled (Same a ∷ []) bs
same_one a bs e = (bs, [], sym (append-nil bs), e, refl)

two_same : (a b bs : List ℕ) → AreSpelled (Same a ∷ Same b ∷ []) bs → bs ≡ a ++ b
two_same a b bs (front, back, is, same, more) = is ∙ ap (λ (zs : List ℕ). front ++ zs) (one_same b back more) ∙ ap (λ (zs : List ℕ). zs ++ b) same

same_two : (a b bs : List ℕ) → bs ≡ a ++ b → AreSpelled (Same a ∷ Same b ∷ []) bs
same_two a b bs e = (a, b, e, refl, same_one b b refl)

two_alike : (a b : List ℕ) → Alike (Same a ∷ Same b ∷ []) (Same (a ++ b) ∷ [])
two_alike a b bs = (λ h. same_one (a ++ b) bs (two_same a b bs h), λ h. same_two a b bs (one_same (a ++ b) bs h))

-- ---- of a connection

alike_same : (c d : Come) → c ≡ d → IsAlike c d
alike_same c d e = record {
  stage = ap (λ (x : Come). x.stage) e;
  told = λ bs. (subst (λ (x : Come). AreSpelled x.told bs) e, subst (λ (x : Come). AreSpelled x.told bs) (sym e));
  first = ap (λ (x : Come). x.first) e;
}

alike_then : (c d e : Come) → IsAlike c d → IsAlike d e → IsAlike c e
alike_then c d e x y = record {
  stage = x.stage ∙ y.stage;
  told = λ bs. (λ h. (y.told bs).0 ((x.told bs).0 h), λ h. (x.told bs).1 ((y.told bs).1 h));
  first = x.first ∙ y.first;
}

more_case : (c d : Come) (bytes : List ℕ) (t : Bool) → IsAlike c d → IsAlike (cond t c (come_then c (comes c.stage bytes))) (cond t d (come_then d (comes c.stage bytes)))
more_case c d bytes true h = h
more_case c d bytes false h = record {
  stage = refl;
  told = λ bs. (alike_front c.told d.told (comes c.stage bytes).told bs (λ xs. (h.told xs).0), alike_front d.told c.told (comes c.stage bytes).told bs (λ xs. (h.told xs).1));
  first = ap (λ (xs : List ℕ). xs ++ (comes c.stage bytes).first) h.first;
}

more_alike : (c d : Come) (bytes : List ℕ) → IsAlike c d → IsAlike (come_more c bytes) (come_more d bytes)
more_alike c d bytes h =
    subst (λ (s : Option Stage). IsAlike (come_more c bytes) (cond (has_ended s) d (come_then d (comes s bytes)))) h.stage (more_case c d bytes (has_ended c.stage) h)

pieces_alike : (c d : Come) (pieces : List (List ℕ)) → IsAlike c d → IsAlike (come_pieces c pieces) (come_pieces d pieces)
pieces_alike c d [] h = h
pieces_alike c d (b ∷ bs) h = pieces_alike (come_more c b) (come_more d b) bs (more_alike c d b h)

known_case : (c : Client) (a b : List ℕ) (t : Bool) → InTwo c a b → (come c a).client.ended ≡ t
    → IsAlike (cond t (of_outcome (come c a)) (come_then (of_outcome (come c a)) (of_outcome (come (come c a).client b)))) (of_outcome (come c (a ++ b)))
known_case c a b true h e = alike_same (of_outcome (come c a)) (of_outcome (come c (a ++ b))) (ap of_outcome (sym (h.over e)))
known_case c a b false h e = alike_same (come_then (of_outcome (come c a)) (of_outcome (come (come c a).client b))) (of_outcome (come c (a ++ b))) (ap of_outcome (sym (h.on e)))

version_case : (a b : List ℕ) (v : Version) → IsBytes (a ++ b) → IsAlike (come_more (begun a (Some v)) b) (begun (a ++ b) (Some v))
version_case a b Five fits = record { stage = refl; told = two_alike a b; first = refl }
version_case a b (Before level bridge) fits =
    let c = fresh level bridge true in known_case c a b (come c a).client.ended (in_two c a b fits refl refl) refl
version_case a b Unserved fits = record { stage = refl; told = two_alike a b; first = refl }

begun_case : (a b : List ℕ) (o : Option Version) → IsBytes (a ++ b) → version_of limit a ≡ o → IsAlike (come_more (begun a o) b) (begun (a ++ b) (version_of limit (a ++ b)))
begun_case a b None fits e = alike_same (begun (a ++ b) (version_of limit (a ++ b))) (begun (a ++ b) (version_of limit (a ++ b))) refl
begun_case a b (Some v) fits e =
    subst (λ (o : Option Version). IsAlike (come_more (begun a (Some v)) b) (begun (a ++ b) o)) (sym (version_steady limit a b v (IsBytes-front a b fits) e)) (version_case a b v fits)

begun_nothing : nothing_came ≡ comes opened []
unfolding version_of
begun_nothing = refl

one_more : (a b : List ℕ) → IsBytes (a ++ b) → IsAlike (come_more (comes opened a) b) (comes opened (a ++ b))
one_more a b fits = begun_case a b (version_of limit a) fits refl

pieces_more : (a : List ℕ) (pieces : List (List ℕ)) → IsBytes (a ++ concat pieces) → IsAlike (come_pieces (comes opened a) pieces) (comes opened (a ++ concat pieces))
pieces_more a [] fits = alike_same (comes opened a) (comes opened (a ++ [])) (ap (comes opened) (sym (append-nil a)))
pieces_more a (b ∷ bs) fits =
    let regrouped : a ++ (b ++ concat bs) ≡ (a ++ b) ++ concat bs = sym (append_assoc a b (concat bs)) in
    let all : IsBytes ((a ++ b) ++ concat bs) = subst IsBytes regrouped fits in
    let first = pieces_alike (come_more (comes opened a) b) (comes opened (a ++ b)) bs (one_more a b (IsBytes-front (a ++ b) (concat bs) all)) in
    let rest = pieces_more (a ++ b) bs all in
    alike_then (come_pieces (come_more (comes opened a) b) bs) (come_pieces (comes opened (a ++ b)) bs) (comes opened (a ++ (b ++ concat bs))) first
    (subst (λ (xs : List ℕ). IsAlike (come_pieces (comes opened (a ++ b)) bs) (comes opened xs)) (sym regrouped) rest)

pub any_pieces : AnyPieces
any_pieces pieces fits =
    let start_as : nothing_came ≡ comes opened [] = begun_nothing in
    alike_then (come_pieces nothing_came pieces) (come_pieces (comes opened []) pieces) (comes opened (concat pieces))
    (pieces_alike nothing_came (comes opened []) pieces (alike_same nothing_came (comes opened []) start_as)) (pieces_more [] pieces fits)
