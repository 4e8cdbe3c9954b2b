-- Links to peers, one after another.
use Rattle.std.proofs.Common.{◌≡◌, ◌<◌, ◌+◌, ◌*◌, ◌&&◌, ltb, option_map, ℕ, zero, suc, List, [], ◌∷◌, ◌++◌, Bool, true, false, subst, Option, Some, None, Vec, length, refl, sym, ap, inl, inr, eqb, if◌then◌else◌, ◌∙◌, slice_index_or, slice_set, arith}
use Rattle.std.proofs.lemmas.Bool.Decides.{eqb_tells, nat_tests}
use Rattle.std.proofs.lemmas.List.{get_or-set_same, get_or-set_other}
use Rattle.std.specs.declared.alloc.Global.{Global}
use Rattle.slab.specs.Slab.{Slab, get, Updates, with_value}
use Rattle.broker_turns.proofs.Turning.{Updates-over, at-value}
use Rattle.broker_sockets.specs.declared.bridge.Given.{Given}
use Rattle.broker_sockets.specs.declared.bridge.PeerEvent.{PeerEvent}
use Rattle.broker_sockets.specs.declared.bridge.PeerEventKind.{PeerEventKind}
use Rattle.broker_sockets.specs.declared.bridge.PeerFrame.{PeerFrame}
use Rattle.broker_turns.specs.declared.lines.Line.{Line}
use Rattle.broker_turns.specs.Bridging.{HearsAll, IsFrameHeard, IsHearing, IsKept, IsLineWritten, IsLinkRead, IsHeardFrom, IsLinkReadIn, IsLinkWrittenIn, IsMarked, IsOffered, IsPeerKept, IsPeerLinkRead, IsPeerRead, IsPeerReadIn, IsShipped, IsShippedIf, IsSupplied, Near, Place, Reach, Relinks, left_if, peer_event}
use Rattle.broker_sockets.specs.declared.network.Answer.{Answer}
use Rattle.broker_turns.specs.Lines.{Framed, framed, framed_all, framed_at, Noted, asks_for, heard_from, is_from, link_of, noted, pushed}

module _ {T : Type 0} where
  pub framed_all-more : (peer : ℕ) (frames : List PeerFrame) (frame : PeerFrame) (line : Line T) → framed_all peer (frames ++ frame ∷ []) line ≡ framed peer frame (framed_all peer frames line)
  framed_all-more peer [] frame line = refl
  framed_all-more peer (x ∷ frames) frame line = framed_all-more peer frames frame (framed peer x line)

  pub framed_at-more : (peer : ℕ) (frames : List PeerFrame) (frame : PeerFrame) (line : Option (Line T)) → framed_at peer (frames ++ frame ∷ []) line ≡ framed_at peer (frame ∷ []) (framed_at peer frames line)
  framed_at-more peer frames frame None = refl
  framed_at-more peer frames frame (Some line) = rw (framed_all-more peer frames frame line) refl

module _ {H T : Type 0} (hears : H → PeerEvent → Given → H → Type 0) (at : ℕ) where
  pub HearsAll-more : (frames : List (Vec ℕ Global)) (frame : Vec ℕ Global) (n m n' : Near H T) → HearsAll hears at frames n m → IsFrameHeard hears at frame m n' → HearsAll hears at (frames ++ frame ∷ []) n n'
  HearsAll-more [] frame n m n' same heard = (n', rw (← same) heard, refl)
  HearsAll-more (f ∷ frames) frame n m n' before heard = (before.0, before.1, HearsAll-more frames frame before.0 m n' before.2 heard)

module _ {T : Type 0} where
  pub Relinks-set : (links : List (Option (Line T))) (peer : ℕ) (link : Option (Line T)) → peer < length links → Relinks links (slice_set links peer link) peer link
  Relinks-set links peer link within = record {
    changed = get_or-set_same links peer link None within;
    others = λ other differs. get_or-set_other links peer other link None differs;
  }

  pub Relinks-over : (a b c : List (Option (Line T))) (peer : ℕ) (x y : Option (Line T)) → Relinks a b peer x → Relinks b c peer y → Relinks a c peer y
  Relinks-over a b c peer x y first second = record {
    changed = second.changed;
    others = λ other differs. second.others other differs ∙ first.others other differs;
  }

module _ {S T : Type 0} (writes : S → T → List ℕ → Answer → S → T → Type 0) (peer : ℕ) (line left : Line T) (s s' : S) (links links' : List (Option (Line T))) where
  pub written-at : (goes_on : Bool) → link_of links peer ≡ Some line → IsLineWritten writes s line goes_on s' left → Relinks links links' peer (left_if goes_on left) → IsOffered writes peer (s, links) (s', links')
  written-at goes_on found written kept =
      let P : Option (Line T) → Type 0 = λ o. IsLinkWrittenIn writes o peer s links s' links' in
      record { by_link = subst P (sym found) (record { goes_on = goes_on; left = left; written = written; kept = kept }) }

pub peer-kept-if : {T : Type 0} (goes_on : Bool) (d d' : List (Option (Line T))) (peer : ℕ) (left : Line T) → peer < length d → IsPeerKept goes_on peer (slice_set d peer (Some left)) d' → Relinks d d' peer (left_if goes_on left)
peer-kept-if true d d' peer left within same = rw same (Relinks-set d peer (Some left) within)
peer-kept-if false d d' peer left within gone =
    Relinks-over d (slice_set d peer (Some left)) d' peer (Some left) None (Relinks-set d peer (Some left) within) gone

pub get_or-default : {X : Type 0} (xs : List X) (i : ℕ) (d e : X) → i < length xs → slice_index_or xs i d ≡ slice_index_or xs i e
get_or-default [] i d e within = absurd (omega (arith, within))
get_or-default (x ∷ xs) zero d e within = refl
get_or-default (x ∷ xs) (suc i) d e within = get_or-default xs i d e (omega (arith, within))

pub kept-if : {T : Type 0} (goes_on : Bool) (a a' : Slab (Line T)) (key : ℕ) (line left : Line T) → get a key ≡ Some line → IsKept goes_on key (with_value a key left) a' → Updates a a' key (left_if goes_on left)
kept-if true a a' key line left found same = rw same (at-value a key line left found)
kept-if false a a' key line left found gone = Updates-over a (with_value a key left) a' key (Some left) None (at-value a key line left found) gone

module _ {S H T : Type 0} (reads : S → T → Answer → List ℕ → S → T → Type 0) (hears : H → PeerEvent → Given → H → Type 0) (at key : ℕ) where
  pub link-read-at : (line : Line T) (p : Place S H T) (more : Bool) (p' : Place S H T) → get p.accepted key ≡ Some line → IsLinkRead reads hears at key line p more p' → IsHeardFrom reads hears at key p more p'
  link-read-at line p more p' found read =
      let P : Option (Line T) → Type 0 = λ o. IsLinkReadIn reads hears at o key p more p' in
      record { by_link = subst P (sym found) read }

  pub peer-read-at : (line : Line T) (r : Reach S H T) (more : Bool) (r' : Reach S H T) → link_of r.near.dialled key ≡ Some line → IsPeerLinkRead reads hears at key line r more r' → IsPeerRead reads hears at key r more r'
  peer-read-at line r more r' found read =
      let P : Option (Line T) → Type 0 = λ o. IsPeerReadIn reads hears at o key r more r' in
      record { by_link = subst P (sym found) read }

module _ {H T : Type 0} (hears : H → PeerEvent → Given → H → Type 0) (at peer : ℕ) where
  pub supplied-at : (line : Line T) (kind : PeerEventKind) (n m n' : Near H T) → link_of n.dialled peer ≡ Some line → asks_for at peer line ≡ Some kind → IsHearing hears (peer_event at kind) n m → IsMarked at peer m n' → IsSupplied hears at peer n n'
  supplied-at line kind n m n' found asks heard marks =
      let P : Option (Line T) → Type 0 = λ o. IsShipped hears at o peer n n' in
      let Q : Option PeerEventKind → Type 0 = λ o. IsShippedIf hears at o peer n n' in
      record { by_link = subst P (sym found) (subst Q (sym asks) (m, heard, marks)) }

  pub unsupplied-at : (line : Line T) (n : Near H T) → link_of n.dialled peer ≡ Some line → asks_for at peer line ≡ None → IsSupplied hears at peer n n
  unsupplied-at line n found asks =
      let P : Option (Line T) → Type 0 = λ o. IsShipped hears at o peer n n in
      let Q : Option PeerEventKind → Type 0 = λ o. IsShippedIf hears at o peer n n in
      record { by_link = subst P (sym found) (subst Q (sym asks) refl) }

-- a frame that is noted on the link of the peer that sends it
long_is : (n : ℕ) → 6 < n → ltb 6 n ≡ true
long_is n long = grind (arith, long, nat_tests)

was_from : (peer p : ℕ) (frame : List ℕ) (b : Bool) → p ≡ slice_index_or frame 5 0 * 256 + slice_index_or frame 6 0 → 6 < length frame → eqb p peer ≡ b → is_from peer frame ≡ b
was_from peer p frame b is long same = (λ i. long_is (length frame) long i && eqb (sym is i) peer) ∙ same

module _ {T : Type 0} where
  noted_mine : (peer at : ℕ) (frame : List ℕ) (o : Option (Line T)) → is_from peer frame ≡ true → option_map (heard_from at frame) o ≡ noted peer at frame o
  noted_mine peer at frame None mine = refl
  noted_mine peer at frame (Some line) mine = sym (λ i. Some (if mine i then heard_from at frame line else line))

  noted_other : (peer at : ℕ) (frame : List ℕ) (o : Option (Line T)) → is_from peer frame ≡ false → o ≡ noted peer at frame o
  noted_other peer at frame None other = refl
  noted_other peer at frame (Some line) other = sym (λ i. Some (if other i then heard_from at frame line else line))

  pub noted-by : (old new : List (Option (Line T))) (p at : ℕ) (frame : List ℕ) → p ≡ slice_index_or frame 5 0 * 256 + slice_index_or frame 6 0 → 6 < length frame
      → Relinks old new p (option_map (heard_from at frame) (link_of old p)) → Noted at frame old new
  noted-by old new p at frame is long links peer = elim (eqb_tells p peer) [
    | inl same ↦
        let P : ℕ → Type 0 = λ k. link_of new k ≡ noted k at frame (link_of old k) in
        let mine : is_from p frame ≡ true = was_from p p frame true is long (ap (λ k. eqb p k) same.1 ∙ same.0) in
        subst P same.1 (links.changed ∙ noted_mine p at frame (link_of old p) mine)
    | inr apart ↦ links.others peer (λ e. apart.1 (sym e)) ∙ noted_other peer at frame (link_of old peer) (was_from peer p frame false is long apart.0)
  ]

-- a frame that is given to the link of its peer
module _ {T : Type 0} where
  unframed : (peer : ℕ) (frame : PeerFrame) (o : Option (Line T)) → eqb frame.peer peer ≡ false → framed_at peer (frame ∷ []) o ≡ o
  unframed peer frame None apart = refl
  unframed peer frame (Some line) apart = ap (λ b. Some (if b then pushed frame.bytes.items line else line)) apart

  pub framed-set : (links : List (Option (Line T))) (p : ℕ) (frame : PeerFrame) (line new : Line T) → p < length links → p ≡ frame.peer → link_of links p ≡ Some line
      → new ≡ pushed frame.bytes.items line → Framed (frame ∷ []) links (slice_set links p (Some new))
  framed-set links p frame line new within is found push peer =
      let set = Relinks-set links p (Some new) within in
      elim (eqb_tells frame.peer peer) [
        | inl same ↦
            let at : p ≡ peer = is ∙ same.1 in
            let At : ℕ → Type 0 = λ k. link_of (slice_set links p (Some new)) k ≡ framed_at k (frame ∷ []) (link_of links k) in
            let own : eqb frame.peer p ≡ true = ap (λ k. eqb frame.peer k) at ∙ same.0 in
            subst At at (set.changed ∙ ap (λ (l : Line T). Some l) push
            ∙ sym (ap (λ (o : Option (Line T)). framed_at p (frame ∷ []) o) found ∙ ap (λ b. Some (if b then pushed frame.bytes.items line else line)) own))
        | inr apart ↦ set.others peer (λ e. apart.1 (sym (e ∙ is))) ∙ sym (unframed peer frame (link_of links peer) apart.0)
      ]
