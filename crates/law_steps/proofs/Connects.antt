-- What a CONNECT comes to is determined.
use Rattle.std.proofs.Common.{◌≡◌, ◌≢◌, ◌⊎◌, inl, inr, ℕ, Bool, true, false, cond, is_some, List, [], ◌∷◌, ◌++◌, Option, Some, None, refl, sym, ap, ◌∙◌, subst}
use Rattle.home_table.specs.Table.{IsTable}
use Rattle.home_table.proofs.HomeLaws.{home_alone}
use Rattle.mqtt_packets.specs.declared.connect.Connect.{Connect}
use Rattle.mqtt_packets.specs.declared.packet.Packet.{Packet}
use Rattle.mqtt_packets.specs.declared.packet.Packet.TheVariants as packets
use Rattle.mqtt_packets.specs.Written.{written}
use Rattle.mqtt_sessions.specs.Answers.{disconnect, fits}
use Rattle.mqtt_sessions.specs.State.{limit_in}
use Rattle.law_sessions.specs.Runs.{finishes}
use Rattle.node_work.specs.declared.outcome.Output.TheVariants.{Send, Close}
use Rattle.node_work.specs.Acts.{Act, Connection, Session, Out, Named, Allowed, Runs, next}
use Rattle.node_work.specs.Held.Connections.{Accepted, Closed}
use Rattle.node_work.specs.Held.Sessions.{SessionStep, Begun, Called, connection_at, has_session, takes_disconnect}
use Rattle.node_work.specs.Packets.{refused_packet}
use Rattle.node_work.specs.View.{Place, HeldView}
use Rattle.node_work.proofs.Homes.{is_table_on}
use Rattle.node_clients.specs.Connecting.{address_of}
use Rattle.node_clients.specs.Naming.{automatic}
use Rattle.node_clients.proofs.Determined.{number_alone, runs_determined}
use Rattle.law_runs.specs.Connects.{IsKnownAs, IsRefusedBy, IsRefusedFor, IsWelcome, LivesAt, LivesHere}
use Rattle.law_steps.specs.Connects.{TakesOverAlone, CleansAlone, BeginsAlone, AcceptsAlone, ConnectsAlone, FirstAlone}
use Rattle.law_steps.specs.Ending.{ClosesOn}
use Rattle.law_steps.proofs.Calls.{after_head, same_call_on, two_heads, two_parts}
use Rattle.law_steps.proofs.EndingLaws.{closes_fixed, own_by}
use Rattle.law_steps.proofs.Packets.{close_fixed, told_same}

-- ---- why a CONNECT is refused
module _ (p : Place) (h : HeldView) (q : Connect) (sound : IsTable h.homes) where
  same_home : (n m : ℕ) → LivesAt h q n → LivesAt h q m → n ≡ m
  same_home n m a b = home_alone h.homes q.client n m sound a.1 b.1

  not_here : (n : ℕ) → LivesAt h q n → n ≢ p.id → LivesHere p h q → ⊥
  not_here n lives ne (inl none) = lives.0 none
  not_here n lives ne (inr here) = ne (same_home n p.id lives here)

  refused_once : (code code' : ℕ) (reference reference' : Option (List ℕ)) → IsRefusedFor p h q code reference → IsRefusedFor p h q code' reference' → (code ≡ code') × (reference ≡ reference')
  refused_once code code' reference reference' (inl a) (inl b) = (a.1 ∙ sym b.1, a.2 ∙ sym b.2)
  refused_once code code' reference reference' (inl a) (inr (inl b)) = absurd (b.0 a.0)
  refused_once code code' reference reference' (inl a) (inr (inr (inl b))) = absurd (b.0 a.0)
  refused_once code code' reference reference' (inl a) (inr (inr (inr b))) = absurd (b.0 a.0)
  refused_once code code' reference reference' (inr (inl a)) (inl b) = absurd (a.0 b.0)
  refused_once code code' reference reference' (inr (inl a)) (inr (inl b)) = (a.2 ∙ sym b.2, a.3 ∙ sym b.3)
  refused_once code code' reference reference' (inr (inl a)) (inr (inr (inl b))) = absurd (b.1 a.1)
  refused_once code code' reference reference' (inr (inl a)) (inr (inr (inr b))) = absurd (b.1 a.1)
  refused_once code code' reference reference' (inr (inr (inl a))) (inl b) = absurd (a.0 b.0)
  refused_once code code' reference reference' (inr (inr (inl a))) (inr (inl b)) = absurd (a.1 b.1)
  refused_once code code' reference reference' (inr (inr (inl (m, l, (node, lives, ne, is, refers))))) (inr (inr (inl (m', l', (node', lives', ne', is', refers'))))) =
      let same = same_home node node' lives lives' in (is ∙ sym is', refers ∙ (λ i. address_of h (same i)) ∙ sym refers')
  refused_once code code' reference reference' (inr (inr (inl (m, l, (node, lives, ne, is, refers))))) (inr (inr (inr b))) = absurd (not_here node lives ne b.2)
  refused_once code code' reference reference' (inr (inr (inr a))) (inl b) = absurd (a.0 b.0)
  refused_once code code' reference reference' (inr (inr (inr a))) (inr (inl b)) = absurd (a.1 b.1)
  refused_once code code' reference reference' (inr (inr (inr a))) (inr (inr (inl (m, l, (node, lives, ne, is, refers))))) = absurd (not_here node lives ne a.2)
  refused_once code code' reference reference' (inr (inr (inr a))) (inr (inr (inr b))) = (a.4 ∙ sym b.4, a.5 ∙ sym b.5)

  not_welcome : (code : ℕ) (reference : Option (List ℕ)) → IsRefusedFor p h q code reference → IsWelcome p h q → ⊥
  not_welcome code reference (inl a) w = w.0 a.0
  not_welcome code reference (inr (inl a)) w = w.1 a.1
  not_welcome code reference (inr (inr (inl (m, l, (node, lives, ne, is, refers))))) w = not_here node lives ne w.2
  not_welcome code reference (inr (inr (inr a))) w = a.3 w.3

  known_once : (client client' : List ℕ) (named named' : List Act) → IsKnownAs p h q client named → IsKnownAs p h q client' named' → (client ≡ client') × (named ≡ named')
  known_once client client' named named' (inl a) (inl b) = (a.1 ∙ sym b.1, a.2 ∙ sym b.2)
  known_once client client' named named' (inl a) (inr b) = absurd (a.0 b.0)
  known_once client client' named named' (inr a) (inl b) = absurd (b.0 a.0)
  known_once client client' named named' (inr (none, (number, is, called, acts))) (inr (none', (number', is', called', acts'))) =
      let same : number ≡ number' = (let z : Some number ≡ Some number' = number_alone p h (Some number) (Some number') sound is is' in cc) in
      (called ∙ ap (automatic p.id) same ∙ sym called', acts ∙ ap (λ n. Named n ∷ []) same ∙ sym acts')

-- ---- an older connection, and Clean Start
over_fixed : (older : Option ℕ) (p : Place) (h : HeldView) (client : List ℕ) (last last' : HeldView) (xs ys : List Act) → IsTable h.homes → Runs p h xs last → Runs p h ys last' → TakesOverAlone p h client older xs → TakesOverAlone p h client older ys → xs ≡ ys
over_fixed None p h client last last' xs ys sound r s x y = x ∙ sym y
over_fixed (Some older) p h client last last' xs ys sound r s x y =
    let b = takes_disconnect client 142 h in
    let told = cond b (Out (Send older (written (disconnect 142))) ∷ []) [] in
    two_parts p h last last' xs ys told x.0 told y.0 x.1 y.1 r s
    (λ m n ra rb. refl)
    (λ mid ra rb rc rd. (
    let same : mid ≡ h = told_same b (Send older (written (disconnect 142))) p h mid ra in
    closes_fixed p h older client last last' x.0 y.0 sound (subst (λ v. Runs p v x.0 last) same rc) (subst (λ v. Runs p v y.0 last') same rd) x.2 y.2))

clean_fixed : (clean : Bool) (p : Place) (h : HeldView) (client : List ℕ) (last last' : HeldView) (xs ys : List Act) → IsTable h.homes → Runs p h xs last → Runs p h ys last' → CleansAlone clean p h client xs → CleansAlone clean p h client ys → xs ≡ ys
clean_fixed false p h client last last' xs ys sound r s x y = x ∙ sym y
clean_fixed true p h client last last' xs ys sound r s x y = own_by (has_session client h) finishes (λ at. tt) p h client last last' xs ys sound r s x y

-- ---- the session begins, or goes on
called_at : (has : Bool) (client : List ℕ) (t : SessionStep) (p : Place) (h m : HeldView) (xs : List Act) → xs ≡ cond has [] (Session (Begun client) ∷ []) ++ Session (Called t) ∷ [] → Runs p h xs m
    → Allowed p (cond has h (next h (Session (Begun client)))) (Session (Called t))
called_at true client t p h m xs is r = (after_head p h m xs (Session (Called t)) [] is r).0
called_at false client t p h m xs is r =
    let a = after_head p h m xs (Session (Begun client)) (Session (Called t) ∷ []) is r in
    (after_head p (next h (Session (Begun client))) m (Session (Called t) ∷ []) (Session (Called t)) [] refl a.1).0

begins_fixed : (p : Place) (h : HeldView) (c : ℕ) (client : List ℕ) (q : Connect) (last last' : HeldView) (xs ys : List Act) → IsTable h.homes → Runs p h xs last → Runs p h ys last' → BeginsAlone p h c client q xs → BeginsAlone p h c client q ys → xs ≡ ys
begins_fixed p h c client q last last' xs ys sound r s x y =
    let u = Connection (Accepted c client) in
    let now = next h u in
    let has = has_session client now in
    let same : (m n : HeldView) → Runs p now x.own m → Runs p now y.own n → x.call ≡ y.call = λ m n ra rb.
    same_call_on p (cond has now (next now (Session (Begun client)))) x.call y.call (called_at has client x.call p now m x.own x.joins ra) (called_at has client y.call p now n y.own y.joins rb) (x.of ∙ sym y.of) (x.event ∙ sym y.event) (x.on ∙ sym y.on) in
    two_heads p h last last' xs ys u u (x.own ++ x.rest) (y.own ++ y.rest) x.is y.is refl r s (λ r2 s2.
    two_parts p now last last' (x.own ++ x.rest) (y.own ++ y.rest) x.own x.rest y.own y.rest refl refl r2 s2
    (λ m n ra rb. x.joins ∙ ap (λ (t : SessionStep). cond has [] (Session (Begun client) ∷ []) ++ Session (Called t) ∷ []) (same m n ra rb) ∙ sym y.joins)
    (λ mid ra rb rc rd. (
    let hx : x.left ≡ mid = runs_determined p x.own now x.left mid x.leaves ra in
    let hy : y.left ≡ mid = runs_determined p y.own now y.left mid y.leaves rb in
    close_fixed (is_some x.call.reaction.end) p mid c client last last' x.rest y.rest (is_table_on p x.own now mid ra sound) rc rd (subst (λ v. cond (is_some x.call.reaction.end) (ClosesOn p v c client x.rest) (x.rest ≡ [])) hx x.closes)
    (subst (λ v. cond (is_some x.call.reaction.end) (ClosesOn p v c client y.rest) (y.rest ≡ [])) hy
    (subst (λ (t : SessionStep). cond (is_some t.reaction.end) (ClosesOn p y.left c client y.rest) (y.rest ≡ [])) (sym (same mid mid ra rb)) y.closes)))))

-- ---- the client is accepted
accepts_fixed : (p : Place) (h : HeldView) (c : ℕ) (q : Connect) (last last' : HeldView) (xs ys : List Act) → IsTable h.homes → Runs p h xs last → Runs p h ys last' → AcceptsAlone p h c q xs → AcceptsAlone p h c q ys → xs ≡ ys
accepts_fixed p h c q last last' xs ys sound r s x y =
    let known = known_once p h q sound x.client y.client x.named y.named x.known y.known in
    let one = known.0 in
    two_parts p h last last' xs ys x.named (x.over ++ (x.clean ++ x.rest)) y.named (y.over ++ (y.clean ++ y.rest)) x.is y.is r s
    (λ m n ra rb. known.1)
    (λ mid ra rb rc rd. (
    let hx : x.mid ≡ mid = runs_determined p x.named h x.mid mid x.runs ra in
    let hy : y.mid ≡ mid = runs_determined p y.named h y.mid mid y.runs rb in
    let sound1 = is_table_on p x.named h mid ra sound in
    let over_x : TakesOverAlone p mid x.client (connection_at x.client mid) x.over = subst (λ v. TakesOverAlone p v x.client (connection_at x.client v) x.over) hx x.takes_over in
    let over_y : TakesOverAlone p mid x.client (connection_at x.client mid) y.over =
    subst (λ v. TakesOverAlone p v x.client (connection_at x.client v) y.over) hy (subst (λ k. TakesOverAlone p y.mid k (connection_at k y.mid) y.over) (sym one) y.takes_over) in
    two_parts p mid last last' (x.over ++ (x.clean ++ x.rest)) (y.over ++ (y.clean ++ y.rest)) x.over (x.clean ++ x.rest) y.over (y.clean ++ y.rest) refl refl rc rd
    (λ m n ta tb. over_fixed (connection_at x.client mid) p mid x.client m n x.over y.over sound1 ta tb over_x over_y)
    (λ mid2 ta tb tc td. (
    let kx : x.mid2 ≡ mid2 = runs_determined p x.over mid x.mid2 mid2 (subst (λ v. Runs p v x.over x.mid2) hx x.runs2) ta in
    let ky : y.mid2 ≡ mid2 = runs_determined p y.over mid y.mid2 mid2 (subst (λ v. Runs p v y.over y.mid2) hy y.runs2) tb in
    let sound2 = is_table_on p x.over mid mid2 ta sound1 in
    let clean_x : CleansAlone q.clean_start p mid2 x.client x.clean = subst (λ v. CleansAlone q.clean_start p v x.client x.clean) kx x.cleans in
    let clean_y : CleansAlone q.clean_start p mid2 x.client y.clean =
    subst (λ v. CleansAlone q.clean_start p v x.client y.clean) ky (subst (λ k. CleansAlone q.clean_start p y.mid2 k y.clean) (sym one) y.cleans) in
    two_parts p mid2 last last' (x.clean ++ x.rest) (y.clean ++ y.rest) x.clean x.rest y.clean y.rest refl refl tc td
    (λ m n va vb. clean_fixed q.clean_start p mid2 x.client m n x.clean y.clean sound2 va vb clean_x clean_y)
    (λ mid3 va vb vc vd. (
    let lx : x.mid3 ≡ mid3 = runs_determined p x.clean mid2 x.mid3 mid3 (subst (λ v. Runs p v x.clean x.mid3) kx x.runs3) va in
    let ly : y.mid3 ≡ mid3 = runs_determined p y.clean mid2 y.mid3 mid3 (subst (λ v. Runs p v y.clean y.mid3) ky y.runs3) vb in
    begins_fixed p mid3 c x.client q last last' x.rest y.rest (is_table_on p x.clean mid2 mid3 va sound2) vc vd (subst (λ v. BeginsAlone p v c x.client q x.rest) lx x.begins)
    (subst (λ v. BeginsAlone p v c x.client q y.rest) ly (subst (λ k. BeginsAlone p y.mid3 c k q y.rest) (sym one) y.begins))))))))

-- the acts of a refusal
abbrev refusal : ℕ → Connect → ℕ → Option (List ℕ) → List Act
refusal c q code reference = cond (fits (limit_in q.properties) (refused_packet code reference)) (Out (Send c (written (refused_packet code reference))) ∷ []) [] ++ Connection (Closed c) ∷ Out (Close c) ∷ []

connects_fixed : (p : Place) (h : HeldView) (c : ℕ) (q : Connect) (last last' : HeldView) (xs ys : List Act) → IsTable h.homes → Runs p h xs last → Runs p h ys last' → ConnectsAlone p h c q xs → ConnectsAlone p h c q ys → xs ≡ ys
connects_fixed p h c q last last' xs ys sound r s (inl (code, reference, why, by)) (inl (code', reference', why', by')) =
    let same = refused_once p h q sound code code' reference reference' why why' in by ∙ (λ i. refusal c q (same.0 i) (same.1 i)) ∙ sym by'
connects_fixed p h c q last last' xs ys sound r s (inl (code, reference, why, by)) (inr y) = absurd (not_welcome p h q sound code reference why y.0)
connects_fixed p h c q last last' xs ys sound r s (inr x) (inl (code', reference', why', by')) = absurd (not_welcome p h q sound code' reference' why' x.0)
connects_fixed p h c q last last' xs ys sound r s (inr x) (inr y) = accepts_fixed p h c q last last' xs ys sound r s x.1 y.1

-- ---- the first packet
pub packet_fixed : (k : Packet) (p : Place) (h : HeldView) (c : ℕ) (last last' : HeldView) (xs ys : List Act) → IsTable h.homes → Runs p h xs last → Runs p h ys last' → FirstAlone p h c k xs → FirstAlone p h c k ys → xs ≡ ys
packet_fixed (packets.Connect q) p h c last last' xs ys sound r s x y = connects_fixed p h c q last last' xs ys sound r s x y
packet_fixed k p h c last last' xs ys sound r s x y = x ∙ sym y
