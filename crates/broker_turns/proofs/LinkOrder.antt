-- What waits on a link stays whole and in order.
use Rattle.std.proofs.Common.{◌≡◌, ◌-◌, ◌&&◌, ℕ, zero, suc, List, [], ◌∷◌, ◌++◌, Option, Some, None, Bool, true, false, refl, sym, ◌∙◌, ap, subst, append_assoc, inl, inr, eqb, if◌then◌else◌, length, slice_index_or, option_map, Vec}
use Rattle.std.proofs.lemmas.Bool.Decides.{eqb_tells}
use Rattle.std.specs.declared.alloc.Global.{Global}
use Rattle.std.specs.declared.net.socket_addr.SocketAddr.{SocketAddr}
use Rattle.broker_sockets.specs.declared.bridge.Given.{Given}
use Rattle.broker_sockets.specs.declared.bridge.PeerEvent.{PeerEvent}
use Rattle.broker_sockets.specs.declared.bridge.PeerEventKind.{PeerEventKind}
use Rattle.broker_sockets.specs.declared.bridge.PeerFrame.{PeerFrame}
use Rattle.broker_sockets.specs.declared.events.Event.{Event}
use Rattle.broker_sockets.specs.declared.events.Output.{Output}
use Rattle.broker_turns.specs.declared.lines.Line.{Line}
use Rattle.broker_sockets.specs.declared.ready.Ready.{Ready}
use Rattle.broker_sockets.specs.declared.ready.Watched.{Watched}
use Rattle.broker_sockets.specs.declared.network.Answer.{Answer}
use Rattle.broker_sockets.specs.Answers.{Offers, carried}
use Rattle.broker_turns.specs.Bridging.{HearsAll, IsFrameHeard, IsBegun, IsBegunBy, IsDialledAt, IsDialledIf, IsDialledOnce, IsWatchedIf, IsHeardFrom, IsHearing, IsLineRead, IsLinkReadIn, IsLinkWrittenIn, IsOffered, IsPeerRead, IsPeerReadIn, IsShipped, IsShippedIf, IsSought, IsSupplied, LineTried, Near, Place, Reach, Relinks, Search, left_if, search}
use Rattle.broker_turns.specs.Lines.{Framed, Noted, again, asks_for, framed, framed_all, framed_at, fresh_line, heard_from, is_from, is_of, is_rested, link_of, marked, noted, number_in, pushed}
use Rattle.broker_turns.specs.Order.{Extends, IsNew, IsOf, NoFrameIsLost, TakesNothing, TakesWhatItAnswers, link_flow}
use Rattle.broker_turns.specs.Steps.{Each, EachBelow, EachTells}
use Rattle.broker_turns.specs.Turns.{IsDecided, IsGivenOut, IsTakenIn}
use Rattle.broker_turns.specs.declared.setting.Setting.{Setting}
use Rattle.broker_turns.proofs.OrderLaws.{Extends-over, Extends-same, whole}

module _ {T : Type 0} (taken : T → List ℕ) (New : ℕ → Line T → Type 0) (over : (peer : ℕ) (line line' : Line T) → Extends (link_flow taken line') (link_flow taken line) → New peer line → New peer line') where
  -- each link that is there was there and has kept what it had, or is new
  abbrev Carries : List (Option (Line T)) → List (Option (Line T)) → Type 0
  Carries d d' = (peer : ℕ) (line' : Line T) → link_of d' peer ≡ Some line' → IsOf taken (link_of d peer) (New peer line') line'

  Carries-equal : (d d' : List (Option (Line T))) → d' ≡ d → Carries d d'
  Carries-equal d d' same peer line' there = inl (line', ap (λ l. link_of l peer) (sym same) ∙ there, Extends-same _ _ refl)

  of-over : (peer : ℕ) (before : Option (Line T)) (line line' : Line T) → Extends (link_flow taken line') (link_flow taken line) → IsOf taken before (New peer line) line → IsOf taken before (New peer line') line'
  of-over peer before line line' more (inl old) = inl (old.0, old.1, Extends-over _ _ _ more old.2)
  of-over peer before line line' more (inr new) = inr (over peer line line' more new)

  of-then : (peer : ℕ) (a b : Option (Line T)) (line' : Line T) → ((line : Line T) → b ≡ Some line → IsOf taken a (New peer line) line) → IsOf taken b (New peer line') line' → IsOf taken a (New peer line') line'
  of-then peer a b line' before (inl old) = of-over peer a old.0 line' old.2 (before old.0 old.1)
  of-then peer a b line' before (inr new) = inr new

  Carries-over : (a b c : List (Option (Line T))) → Carries a b → Carries b c → Carries a c
  Carries-over a b c first second peer line' there = of-then peer (link_of a peer) (link_of b peer) line' (first peer) (second peer line' there)

  framed-if : (mine : Bool) (bytes : List ℕ) (line : Line T) → Extends (link_flow taken (if mine then pushed bytes line else line)) (link_flow taken line)
  framed-if true bytes line = (bytes, sym (append_assoc (taken line.stream) line.unsent bytes))
  framed-if false bytes line = Extends-same _ _ refl

  framed_all-extends : (peer : ℕ) (frames : List PeerFrame) (line : Line T) → Extends (link_flow taken (framed_all peer frames line)) (link_flow taken line)
  framed_all-extends peer [] line = Extends-same _ _ refl
  framed_all-extends peer (frame ∷ frames) line =
      Extends-over _ _ _ (framed_all-extends peer frames (framed peer frame line)) (framed-if (eqb frame.peer peer) frame.bytes.items line)

  framed-from : (peer : ℕ) (frames : List PeerFrame) (before : Option (Line T)) (line' : Line T) → Some line' ≡ framed_at peer frames before → IsOf taken before (New peer line') line'
  framed-from peer frames None line' e = absurd (cc)
  framed-from peer frames (Some line) line' e =
      let is : line' ≡ framed_all peer frames line = cc in
      inl (line, refl, rw is (framed_all-extends peer frames line))

  Carries-framed : (frames : List PeerFrame) (d d' : List (Option (Line T))) → Framed frames d d' → Carries d d'
  Carries-framed frames d d' is peer line' there = framed-from peer frames (link_of d peer) line' (sym there ∙ is peer)

  -- the link of one peer is another one now
  Carries-relinked : (d d' : List (Option (Line T))) (peer : ℕ) (link : Option (Line T)) → ((line' : Line T) → link ≡ Some line' → IsOf taken (link_of d peer) (New peer line') line') → Relinks d d' peer link → Carries d d'
  Carries-relinked d d' peer link from is other line' there = elim (eqb_tells other peer) [
    | inl same ↦
        let at : link ≡ Some line' = sym is.changed ∙ ap (λ k. link_of d' k) (sym same.1) ∙ there in
        let P : ℕ → Type 0 = λ k. IsOf taken (link_of d k) (New k line') line' in
        subst P (sym same.1) (from line' at)
    | inr apart ↦ inl (line', sym (is.others other apart.1) ∙ there, Extends-same _ _ refl)
  ]

  -- a link goes on, or is let go
  left-from : (peer : ℕ) (goes_on : Bool) (line left line' : Line T) → Extends (link_flow taken left) (link_flow taken line) → left_if goes_on left ≡ Some line' → IsOf taken (Some line) (New peer line') line'
  left-from peer true line left line' extends is =
      let same : line' ≡ left = cc in
      inl (line, refl, rw same extends)
  left-from peer false line left line' extends is = absurd (cc)

  Carries-left : (goes_on : Bool) (line left : Line T) (d d' : List (Option (Line T))) (peer : ℕ) → link_of d peer ≡ Some line → Extends (link_flow taken left) (link_flow taken line) → Relinks d d' peer (left_if goes_on left) → Carries d d'
  Carries-left goes_on line left d d' peer found extends is =
      let P : Option (Line T) → Type 0 = λ o. (line' : Line T) → left_if goes_on left ≡ Some line' → IsOf taken o (New peer line') line' in
      Carries-relinked d d' peer (left_if goes_on left) (subst P (sym found) (λ line' e. left-from peer goes_on line left line' extends e)) is

  -- a note on a link changes nothing that waits there
  marked-if : (empty : Bool) (at : ℕ) (line : Line T) → Extends (link_flow taken (if empty then line else record line { asked = Some at })) (link_flow taken line)
  marked-if true at line = Extends-same _ _ refl
  marked-if false at line = Extends-same _ _ refl

  marked-from : (peer at : ℕ) (before : Option (Line T)) (line' : Line T) → option_map (marked at) before ≡ Some line' → IsOf taken before (New peer line') line'
  marked-from peer at None line' e = absurd (cc)
  marked-from peer at (Some line) line' e =
      let is : line' ≡ marked at line = cc in
      inl (line, refl, rw is (marked-if (eqb (length line.unsent) 0) at line))

  Carries-marked : (at : ℕ) (d d' : List (Option (Line T))) (peer : ℕ) → Relinks d d' peer (option_map (marked at) (link_of d peer)) → Carries d d'
  Carries-marked at d d' peer is = Carries-relinked d d' peer _ (λ line' e. marked-from peer at (link_of d peer) line' e) is

  heard-same : (got know : Bool) (at : ℕ) (frame : List ℕ) (line : Line T)
      → link_flow taken (if got then record line { heard = true; asked = again at line.asked; got = number_in frame }
      else if know then record line { heard = true; asked = again at line.asked; awaited = false } else record line { heard = true }) ≡ link_flow taken line
  heard-same true know at frame line = refl
  heard-same false true at frame line = refl
  heard-same false false at frame line = refl

  noted-if : (sent : Bool) (at : ℕ) (frame : List ℕ) (line : Line T) → Extends (link_flow taken (if sent then heard_from at frame line else line)) (link_flow taken line)
  noted-if true at frame line = Extends-same _ _ (heard-same (is_of 5 frame) (is_of 3 frame) at frame line)
  noted-if false at frame line = Extends-same _ _ refl

  noted-from : (peer at : ℕ) (frame : List ℕ) (before : Option (Line T)) (line' : Line T) → Some line' ≡ noted peer at frame before → IsOf taken before (New peer line') line'
  noted-from peer at frame None line' e = absurd (cc)
  noted-from peer at frame (Some line) line' e =
      let is : line' ≡ (if is_from peer frame then heard_from at frame line else line) = cc in
      inl (line, refl, rw is (noted-if (is_from peer frame) at frame line))

  Carries-noted : (at : ℕ) (frame : List ℕ) (d d' : List (Option (Line T))) → Noted at frame d d' → Carries d d'
  Carries-noted at frame d d' is peer line' there = noted-from peer at frame (link_of d peer) line' (sym there ∙ is peer)

  begun-new : (peer : ℕ) (stream : T) (line' : Line T) → New peer (fresh_line stream) → Some (fresh_line stream) ≡ Some line' → New peer line'
  begun-new peer stream line' new is =
      let same : line' ≡ fresh_line stream = cc in
      rw same new

  Carries-begun : (stream : T) (d d' : List (Option (Line T))) (peer : ℕ) → New peer (fresh_line stream) → Relinks d d' peer (Some (fresh_line stream)) → Carries d d'
  Carries-begun stream d d' peer new is =
      Carries-relinked d d' peer (Some (fresh_line stream)) (λ line' e. inr (begun-new peer stream line' new e)) is

  module _ {W : Type 0} (links : W → List (Option (Line T))) (step : ℕ → W → W → Type 0) (carries : (key : ℕ) (w w' : W) → step key w w' → Carries (links w) (links w')) where
    Carries-each : (keys : List ℕ) (w w' : W) → Each step keys w w' → Carries (links w) (links w')
    Carries-each [] w w' same = Carries-equal (links w) (links w') (ap links same)
    Carries-each (key ∷ keys) w w' each =
        Carries-over (links w) (links each.0) (links w') (carries key w each.0 each.1) (Carries-each keys each.0 w' each.2)

    Carries-below : (n : ℕ) (w w' : W) → EachBelow step n w w' → Carries (links w) (links w')
    Carries-below zero w w' same = Carries-equal (links w) (links w') (ap links same)
    Carries-below (suc n) w w' each =
        Carries-over (links w) (links each.0) (links w') (Carries-below n w each.0 each.1) (carries n each.0 w' each.2)

  module _ {W : Type 0} (links : W → List (Option (Line T))) (step : ℕ → W → Bool → W → Type 0) (carries : (key : ℕ) (w : W) (more : Bool) (w' : W) → step key w more w' → Carries (links w) (links w')) where
    Carries-tells : (keys : List ℕ) (w : W) (found : List ℕ) (w' : W) → EachTells step keys w found w' → Carries (links w) (links w')
    Carries-tells [] w found w' same = Carries-equal (links w) (links w') (ap links same.0)
    Carries-tells (key ∷ keys) w found w' each =
        Carries-over (links w) (links each.0) (links w') (carries key w each.1 each.0 each.3) (Carries-tells keys each.0 each.2 w' each.4)

module _ {S H T : Type 0} (taken : T → List ℕ) (New : ℕ → Line T → Type 0) (over : (peer : ℕ) (line line' : Line T) → Extends (link_flow taken line') (link_flow taken line) → New peer line → New peer line') (watches : S → T → Watched → Bool → S → Type 0) (connects : S → SocketAddr → Option T → S → Type 0) (reads : S → T → Answer → List ℕ → S → T → Type 0) (writes : S → T → List ℕ → Answer → S → T → Type 0) (hears : H → PeerEvent → Given → H → Type 0) (at : ℕ) where
  Carries-hearing : (it : PeerEvent) (n n' : Near H T) → IsHearing hears it n n' → Carries taken New over n.dialled n'.dialled
  Carries-hearing it n n' h = Carries-framed taken New over h.given.frames.items n.dialled n'.dialled h.framed

  Carries-frame : (frame : Vec ℕ Global) (n n' : Near H T) → IsFrameHeard hears at frame n n' → Carries taken New over n.dialled n'.dialled
  Carries-frame frame n n' h =
      Carries-over taken New over n.dialled h.links n'.dialled (Carries-noted taken New over at frame.items n.dialled h.links h.noted) (Carries-hearing _ (record n { dialled = h.links }) n' h.heard)

  Carries-hears_all : (frames : List (Vec ℕ Global)) (n n' : Near H T) → HearsAll hears at frames n n' → Carries taken New over n.dialled n'.dialled
  Carries-hears_all [] n n' same = Carries-equal taken New over n.dialled n'.dialled (ap (λ m. m.dialled) same)
  Carries-hears_all (frame ∷ frames) n n' h =
      Carries-over taken New over n.dialled h.0.dialled n'.dialled (Carries-frame frame n h.0 h.1) (Carries-hears_all frames h.0 n' h.2)

  Carries-link_in : (line : Option (Line T)) (key : ℕ) (p : Place S H T) (more : Bool) (p' : Place S H T) → IsLinkReadIn reads hears at line key p more p' → Carries taken New over p.reach.near.dialled p'.reach.near.dialled
  Carries-link_in None key p more p' same = Carries-equal taken New over _ _ (ap (λ q. q.reach.near.dialled) same.0)
  Carries-link_in (Some line) key p more p' read = Carries-hears_all read.frames p.reach.near p'.reach.near read.heard

  Carries-heard_from : (key : ℕ) (p : Place S H T) (more : Bool) (p' : Place S H T) → IsHeardFrom reads hears at key p more p' → Carries taken New over p.reach.near.dialled p'.reach.near.dialled
  Carries-heard_from key p more p' h = Carries-link_in _ key p more p' h.by_link

  read-extends : TakesNothing taken reads → (s s' : S) (line left : Line T) (frames : List (Vec ℕ Global)) (goes_on more : Bool) → IsLineRead reads s line frames goes_on more s' left → Extends (link_flow taken left) (link_flow taken line)
  read-extends none s s' line left frames goes_on more read =
      Extends-same _ _ (ap (λ t. t ++ left.unsent) (none _ _ _ _ _ _ read.asked) ∙ ap (λ t. taken line.stream ++ t) read.unsent)

  Carries-peer_in : TakesNothing taken reads → (line : Option (Line T)) (peer : ℕ) (r : Reach S H T) (more : Bool) (r' : Reach S H T) → link_of r.near.dialled peer ≡ line → IsPeerReadIn reads hears at line peer r more r' → Carries taken New over r.near.dialled r'.near.dialled
  Carries-peer_in none None peer r more r' found same = Carries-equal taken New over _ _ (ap (λ q. q.near.dialled) same.0)
  Carries-peer_in none (Some line) peer r more r' found read =
      Carries-over taken New over r.near.dialled read.links r'.near.dialled
      (Carries-left taken New over read.goes_on line read.left r.near.dialled read.links peer found (read-extends none _ _ line read.left read.frames read.goes_on more read.read) read.kept)
      (Carries-hears_all read.frames (record r.near { dialled = read.links }) r'.near read.heard)

  Carries-peer : TakesNothing taken reads → (peer : ℕ) (r : Reach S H T) (more : Bool) (r' : Reach S H T) → IsPeerRead reads hears at peer r more r' → Carries taken New over r.near.dialled r'.near.dialled
  Carries-peer none peer r more r' h = Carries-peer_in none (link_of r.near.dialled peer) peer r more r' refl h.by_link

  watched-was : (watchable : Bool) (came stream : T) → Some stream ≡ (if watchable then Some came else None) → came ≡ stream
  watched-was true came stream is = cc
  watched-was false came stream is = absurd (cc)

  -- a stream that is watched was begun
  was-connected : (came : Option T) (peer : ℕ) (m s' : S) (stream : T) → IsWatchedIf connects watches came peer m (Some stream) s' → came ≡ Some stream
  was-connected None peer m s' stream watched = absurd (cc watched.0)
  was-connected (Some came) peer m s' stream watched = ap (λ t. Some t) (watched-was watched.0 came stream watched.2)

  -- a stream that the address gives begins a new link
  abbrev Begins : SocketAddr → S → ℕ → Type 0
  Begins address s peer = (stream : T) (asked : S) → connects s address (Some stream) asked → New peer (fresh_line stream)

  Carries-begun_by : (stream : Option T) (address : SocketAddr) (s s' : S) (peer : ℕ) (n n' : Near H T) → Begins address s peer → IsBegun connects watches address peer s stream s' → IsBegunBy connects watches hears at stream peer n n' → Carries taken New over n.dialled n'.dialled
  Carries-begun_by None address s s' peer n n' begins answered same = Carries-equal taken New over _ _ (ap (λ m. m.dialled) same)
  Carries-begun_by (Some stream) address s s' peer n n' begins answered begun =
      let Connected : Option T → Type 0 = λ came. connects s address came answered.asked in
      let connected = subst Connected (was-connected answered.came peer answered.asked s' stream answered.watched) answered.answered in
      Carries-over taken New over n.dialled begun.0 n'.dialled (Carries-begun taken New over stream n.dialled begun.0 peer (begins stream answered.asked connected) begun.1)
      (Carries-hearing _ (record n { dialled = begun.0 }) n' begun.2)

  Carries-dialled_once : (rested : Bool) (address : SocketAddr) (peer : ℕ) (q q' : Search S H T) → Begins address q.reach.sockets peer → IsDialledOnce connects watches hears at rested address peer q q' → Carries taken New over q.reach.near.dialled q'.reach.near.dialled
  Carries-dialled_once true address peer q q' begins dialled = Carries-begun_by dialled.stream address q.reach.sockets q'.reach.sockets peer q.reach.near q'.reach.near begins dialled.answered dialled.begun
  Carries-dialled_once false address peer q q' begins same = Carries-equal taken New over _ _ (ap (λ d. d.reach.near.dialled) same)

  Carries-dialled_if : (line : Option (Line T)) (address : SocketAddr) (peer : ℕ) (q q' : Search S H T) → (line ≡ None → Begins address q.reach.sockets peer) → IsDialledIf connects watches hears at line address peer q q' → Carries taken New over q.reach.near.dialled q'.reach.near.dialled
  Carries-dialled_if None address peer q q' begins dialled = Carries-dialled_once (is_rested 1000 at (slice_index_or q.sought peer None)) address peer q q' (begins refl) dialled
  Carries-dialled_if (Some line) address peer q q' begins same = Carries-equal taken New over _ _ (ap (λ d. d.reach.near.dialled) same)

  Carries-dialled_at : (address : Option SocketAddr) (peer : ℕ) (q q' : Search S H T) → ((known : SocketAddr) → address ≡ Some known → link_of q.reach.near.dialled peer ≡ None → Begins known q.reach.sockets peer) → IsDialledAt connects watches hears at address peer q q' → Carries taken New over q.reach.near.dialled q'.reach.near.dialled
  Carries-dialled_at None peer q q' begins same = Carries-equal taken New over _ _ (ap (λ d. d.reach.near.dialled) same)
  Carries-dialled_at (Some address) peer q q' begins dialled = Carries-dialled_if (link_of q.reach.near.dialled peer) address peer q q' (begins address refl) dialled

  Carries-sought : (peers : List (Option SocketAddr)) (peer : ℕ) (q q' : Search S H T) → ((known : SocketAddr) → slice_index_or peers peer None ≡ Some known → link_of q.reach.near.dialled peer ≡ None → Begins known q.reach.sockets peer) → IsSought connects watches hears at peers peer q q' → Carries taken New over q.reach.near.dialled q'.reach.near.dialled
  Carries-sought peers peer q q' begins sought = Carries-dialled_at (slice_index_or peers peer None) peer q q' begins sought.by_address

  Carries-shipped_if : (kind : Option PeerEventKind) (peer : ℕ) (n n' : Near H T) → IsShippedIf hears at kind peer n n' → Carries taken New over n.dialled n'.dialled
  Carries-shipped_if (Some kind) peer n n' h =
      Carries-over taken New over n.dialled h.0.dialled n'.dialled (Carries-hearing _ n h.0 h.1) (Carries-marked taken New over at h.0.dialled n'.dialled peer h.2.links)
  Carries-shipped_if None peer n n' same = Carries-equal taken New over _ _ (ap (λ m. m.dialled) same)

  Carries-shipped : (line : Option (Line T)) (peer : ℕ) (n n' : Near H T) → IsShipped hears at line peer n n' → Carries taken New over n.dialled n'.dialled
  Carries-shipped None peer n n' same = Carries-equal taken New over _ _ (ap (λ m. m.dialled) same)
  Carries-shipped (Some line) peer n n' h = Carries-shipped_if (asks_for at peer line) peer n n' h

  Carries-supplied : (peer : ℕ) (n n' : Near H T) → IsSupplied hears at peer n n' → Carries taken New over n.dialled n'.dialled
  Carries-supplied peer n n' h = Carries-shipped (link_of n.dialled peer) peer n n' h.by_link

  offers-extend : TakesWhatItAnswers taken writes → (s s' : S) (line left : Line T) (answer : Answer) → Offers writes line.unsent s line.stream answer left.unsent s' left.stream → link_flow taken left ≡ link_flow taken line
  offers-extend honest s s' line left answer o =
      ap (λ t. t ++ left.unsent) (honest _ _ _ _ _ _ o.asked)
      ∙ append_assoc (taken line.stream) (carried answer o.offered) left.unsent
      ∙ ap (λ t. taken line.stream ++ t) (ap (λ t. carried answer o.offered ++ t) o.left_is ∙ whole answer line.unsent o.offered o.first o.within)

  tried-extend : TakesWhatItAnswers taken writes → (answer : Option Answer) (s s' : S) (line left : Line T) → LineTried writes s line answer s' left → link_flow taken left ≡ link_flow taken line
  tried-extend honest None s s' line left t = ap (λ l. link_flow taken l) t.2
  tried-extend honest (Some answer) s s' line left t = offers-extend honest s s' line left answer t.0

  Carries-written_in : TakesWhatItAnswers taken writes → (line : Option (Line T)) (peer : ℕ) (s s' : S) (d d' : List (Option (Line T))) → link_of d peer ≡ line → IsLinkWrittenIn writes line peer s d s' d' → Carries taken New over d d'
  Carries-written_in honest None peer s s' d d' found same = Carries-equal taken New over d d' same.1
  Carries-written_in honest (Some line) peer s s' d d' found w =
      Carries-left taken New over w.goes_on line w.left d d' peer found
      (Extends-same _ _ (tried-extend honest w.written.answer s s' line w.left w.written.tried)) w.kept

  Carries-offered : TakesWhatItAnswers taken writes → (peer : ℕ) (w w' : S × List (Option (Line T))) → IsOffered writes peer w w' → Carries taken New over w.1 w'.1
  Carries-offered honest peer w w' o = Carries-written_in honest (link_of w.1 peer) peer w.0 w'.0 w.1 w'.1 refl o.by_link

module _ {S H L T : Type 0} (accepts : S → L → Option T → S → Type 0) (watches : S → T → Watched → Bool → S → Type 0) (connects : S → SocketAddr → Option T → S → Type 0) (reads : S → T → Answer → List ℕ → S → T → Type 0) (writes : S → T → List ℕ → Answer → S → T → Type 0) (finds : S → Ready → S → Type 0) (handles : H → Event → List Output → H → Type 0) (hears : H → PeerEvent → Given → H → Type 0) (settles : H → H → Type 0) where
  Carries-taken_in :
      (taken : T → List ℕ) (New : ℕ → Line T → Type 0) (over : (peer : ℕ) (line line' : Line T) → Extends (link_flow taken line') (link_flow taken line) → New peer line → New peer line') → TakesNothing taken reads
      → (setting : Setting L) (at : ℕ) (ready : Ready) (p : Place S H T) (more : Ready) (p' : Place S H T) → IsTakenIn accepts watches reads handles hears setting at ready p more p'
      → Carries taken New over p.reach.near.dialled p'.reach.near.dialled
  Carries-taken_in taken New over none setting at ready p more p' t =
      let of : Place S H T → List (Option (Line T)) = λ p. p.reach.near.dialled in
      let same : (p p' : Place S H T) → of p' ≡ of p → Carries taken New over (of p) (of p') = λ p p' e. Carries-equal taken New over (of p) (of p') e in
      let onto : (a b c : Place S H T) → Carries taken New over (of a) (of b) → Carries taken New over (of b) (of c) → Carries taken New over (of a) (of c) =
      λ a b c first second. Carries-over taken New over (of a) (of b) (of c) first second in
      let links = Carries-tells taken New over (λ (p : Place S H T). p.reach.near.dialled) (IsHeardFrom reads hears at) (Carries-heard_from taken New over watches connects reads writes hears at) ready.links.items t.heard more.links.items t.listened t.links_read in
      let peers = Carries-tells taken New over (λ (r : Reach S H T). r.near.dialled) (IsPeerRead reads hears at) (Carries-peer taken New over watches connects reads writes hears at none) ready.peers.items t.listened.reach more.peers.items p'.reach t.peers_read.does in
      onto p t.joined p' (same p t.joined t.accepted.does.dialled)
      (onto t.joined t.met p' (same t.joined t.met (ap (λ (n : Near H T). n.dialled) t.links_accepted.near))
      (onto t.met t.heard p' (same t.met t.heard t.read.does.dialled) (onto t.heard t.listened p' links peers)))

  -- links that were begun in this turn
  abbrev begun : (taken : T → List ℕ) → Setting L → ℕ → Search S H T → ℕ → Line T → Type 0
  begun taken setting at start peer line = IsNew watches connects hears taken setting at start peer line

  begun_over : (taken : T → List ℕ) (setting : Setting L) (at : ℕ) (start : Search S H T) (peer : ℕ) (line line' : Line T) → Extends (link_flow taken line') (link_flow taken line) → begun taken setting at start peer line → begun taken setting at start peer line'
  begun_over taken setting at start peer line line' more new = record {
    before = new.before;
    earlier = new.earlier;
    none = new.none;
    address = new.address;
    known = new.known;
    stream = new.stream;
    asked = new.asked;
    began = new.began;
    has = Extends-over _ _ _ more new.has;
  }

  Carries-search : (taken : T → List ℕ) (setting : Setting L) (at : ℕ) (start : Search S H T) (n : ℕ) (q : Search S H T) → EachBelow (IsSought connects watches hears at setting.peers.items) n start q
      → Carries taken (begun taken setting at start) (begun_over taken setting at start) start.reach.near.dialled q.reach.near.dialled
  Carries-search taken setting at start zero q same = Carries-equal taken (begun taken setting at start) (begun_over taken setting at start) _ _ (ap (λ (s : Search S H T). s.reach.near.dialled) same)
  Carries-search taken setting at start (suc n) q each =
      let New = begun taken setting at start in
      let over = begun_over taken setting at start in
      Carries-over taken New over start.reach.near.dialled each.0.reach.near.dialled q.reach.near.dialled (Carries-search taken setting at start n each.0 each.1)
      (Carries-sought taken New over watches connects reads writes hears at setting.peers.items n each.0 q (λ address known none stream asked began. record { before = each.0; earlier = each.1; none = none; address = address; known = known; stream = stream; asked = asked; began = began; has = ([], refl) }) each.2)

  Carries-decided :
      (taken : T → List ℕ) (setting : Setting L) (at : ℕ) (q q' : Search S H T) → IsDecided watches connects handles hears settles setting at q q'
      → Carries taken (begun taken setting at q) (begun_over taken setting at q) q.reach.near.dialled q'.reach.near.dialled
  Carries-decided taken setting at q q' d =
      let New = begun taken setting at q in
      let over = begun_over taken setting at q in
      let of : Reach S H T → List (Option (Line T)) = λ r. r.near.dialled in
      let same : (r r' : Reach S H T) → of r' ≡ of r → Carries taken New over (of r) (of r') = λ r r' e. Carries-equal taken New over (of r) (of r') e in
      let onto : (a b c : Reach S H T) → Carries taken New over (of a) (of b) → Carries taken New over (of b) (of c) → Carries taken New over (of a) (of c) =
      λ a b c first second. Carries-over taken New over (of a) (of b) (of c) first second in
      let dialled = Carries-search taken setting at q _ d.reached d.dialled in
      let shipped = Carries-below taken New over (λ (n : Near H T). n.dialled) (IsSupplied hears at) (Carries-supplied taken New over watches connects reads writes hears at) _ d.told.near d.supplied.near d.shipped.does in
      onto q.reach d.reached.reach q'.reach dialled
      (onto d.reached.reach d.told q'.reach (same d.reached.reach d.told d.ticked.dialled)
      (onto d.told d.supplied q'.reach shipped (onto d.supplied d.roomed q'.reach (same d.supplied d.roomed d.rooms_made.dialled) (same d.roomed q'.reach d.settled.does.dialled))))

  Carries-given_out :
      (taken : T → List ℕ) (New : ℕ → Line T → Type 0) (over : (peer : ℕ) (line line' : Line T) → Extends (link_flow taken line') (link_flow taken line) → New peer line → New peer line') → TakesWhatItAnswers taken writes
      → (setting : Setting L) (at : ℕ) (r r' : Reach S H T) → IsGivenOut writes handles settles setting at r r'
      → Carries taken New over r.near.dialled r'.near.dialled
  Carries-given_out taken New over takes setting at r r' g =
      let wrote = Carries-below taken New over (λ (w : S × List (Option (Line T))). w.1) (IsOffered writes) (Carries-offered taken New over watches connects reads writes hears at takes) _ (g.served.sockets, g.served.near.dialled) (r'.sockets, r'.near.dialled) g.links_written.does in
      Carries-over taken New over r.near.dialled g.served.near.dialled r'.near.dialled (Carries-equal taken New over r.near.dialled g.served.near.dialled g.written.dialled) wrote

  pub no_frame_is_lost : NoFrameIsLost accepts watches connects reads writes finds handles hears settles
  no_frame_is_lost taken takes none setting at old new turn =
      let start = search turn.taken.reach.sockets turn.taken.reach.near old.sought in
      let New = begun taken setting at start in
      let over = begun_over taken setting at start in
      let last = Carries-equal taken New over turn.given.near.dialled new.place.reach.near.dialled (ap (λ (n : Near H T). n.dialled) turn.near) in
      Carries-over taken New over old.place.reach.near.dialled turn.taken.reach.near.dialled new.place.reach.near.dialled
      (Carries-taken_in taken New over none setting at old.ready old.place turn.more turn.taken turn.takes_in)
      (Carries-over taken New over turn.taken.reach.near.dialled turn.settled.near.dialled new.place.reach.near.dialled (Carries-decided taken setting at _ _ turn.decides)
      (Carries-over taken New over turn.settled.near.dialled turn.given.near.dialled new.place.reach.near.dialled (Carries-given_out taken New over takes setting at turn.settled turn.given turn.gives_out) last))
