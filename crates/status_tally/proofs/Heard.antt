-- Of who is told as heard a frame came.
use Rattle.std.proofs.Common.{◌≡◌, ◌∙◌, ◌&&◌, ◌||◌, ◌==◌, not, ℕ, zero, suc, Bool, true, false, List, [], ◌∷◌, Option, Some, None, inl, inr, get_or, set, replicate, refl, sym, ap}
use Rattle.std.specs.Prelude.{◌⊎◌, ◌-◌, nat_le, option_map, if◌then◌else◌}
use Rattle.broker_sockets.specs.declared.bridge.Given.{Given}
use Rattle.broker_sockets.specs.declared.bridge.PeerEvent.{PeerEvent}
use Rattle.broker_sockets.specs.declared.bridge.PeerEventKind.{PeerEventKind}
use Rattle.broker_sockets.specs.declared.bridge.PeerEventKind.TheVariants.{Linked, Frame, More, Ship}
use Rattle.broker_sockets.specs.declared.events.Event.{Event}
use Rattle.broker_sockets.specs.declared.events.Output.{Output}
use Rattle.status_tally.specs.Doors.{IsAnswered, IsHeard, IsSettled}
use Rattle.status_tally.specs.Laws.{Brings, Call, handled, heard, settled, HeardWasThere, IsOf, Take, Takes, WasThere}
use Rattle.status_tally.specs.Links.{after_dial, after_frame, after_written, framed, head_of, heard_by, link_at, links_after, new_link}
use Rattle.status_tally.specs.Tallying.{gave, gave_frames, heard as heard_of, link_of, met, new_tally}
use Rattle.status_tally.specs.declared.links.Link.{Link}
use Rattle.status_tally.specs.declared.tallied.Tallied.{Tallied}
use Rattle.status_tally.specs.declared.tally.Tally.{Tally}

-- ---- links

-- a frame of it has come
abbrev pub has_frame : Link → Bool
has_frame link = link.told || not (link.first == 0)

heard_has : (at : ℕ) (link : Link) → heard_by at link ≡ true → has_frame link ≡ true
heard_has at link h = by link.told (not (link.first == 0)) (nat_le 1000 (at - link.first)) h
  where
    by : (told some late : Bool) → (told || (some && late)) ≡ true → (told || some) ≡ true
    by true some late e = refl
    by false true late e = refl
    by false false late e = e

-- a link is put in its place of which a frame has come as of the one before
same_frame : (links : List Link) (i j : ℕ) (l : Link) → has_frame l ≡ has_frame (get_or links i new_link)
    → has_frame (get_or (set links i l) j new_link) ≡ has_frame (get_or links j new_link)
same_frame [] i j l h = refl
same_frame (x ∷ links) zero zero l h = h
same_frame (x ∷ links) zero (suc j) l h = refl
same_frame (x ∷ links) (suc i) zero l h = refl
same_frame (x ∷ links) (suc i) (suc j) l h = same_frame links i j l h

-- where any is put
new_frame : (links : List Link) (i j : ℕ) (l : Link) → has_frame (get_or (set links i l) j new_link) ≡ true → (has_frame (get_or links j new_link) ≡ true) ⊎ (i ≡ j)
new_frame [] i j l h = inl h
new_frame (x ∷ links) zero zero l h = inr refl
new_frame (x ∷ links) zero (suc j) l h = inl h
new_frame (x ∷ links) (suc i) zero l h = inl h
new_frame (x ∷ links) (suc i) (suc j) l h = elim (new_frame links i j l h) [
  | inl was ↦ inl was
  | inr is ↦ inr (ap suc is)
]

dial_frame : (at : ℕ) (link : Link) → has_frame (after_dial at link) ≡ has_frame link
dial_frame at link = by link.up
  where
    by : (b : Bool) → has_frame (if b then record link { up = false; since = at } else link) ≡ has_frame link
    by true = refl
    by false = refl

written_frame : (at : ℕ) (link : Link) → has_frame (after_written at link) ≡ has_frame link
written_frame at link = by link.up
  where
    by : (b : Bool) → has_frame (if b then link else record link { up = true; since = at }) ≡ has_frame link
    by true = refl
    by false = refl

by_frame : (peer at : ℕ) (bytes : List ℕ) (o : Option (ℕ × Bool)) (links : List Link) → head_of bytes ≡ o → has_frame (link_at peer (framed at o links)) ≡ true
    → (has_frame (link_at peer links) ≡ true) ⊎ (option_map (λ (head : ℕ × Bool). head.0) (head_of bytes) ≡ Some peer)
by_frame peer at bytes None links is h = inl h
by_frame peer at bytes (Some head) links is h = elim (new_frame links head.0 peer (after_frame at head.1 (link_at head.0 links)) h) [
  | inl was ↦ inl was
  | inr same ↦ inr (ap (λ (x : Option (ℕ × Bool)). option_map (λ (y : ℕ × Bool). y.0) x) is ∙ ap Some same)
]

by_event : (peer at : ℕ) (kind : PeerEventKind) (links : List Link) → has_frame (link_at peer (links_after at kind links)) ≡ true
    → (has_frame (link_at peer links) ≡ true) ⊎ IsOf peer kind
by_event peer at (Linked other) links h =
    inl (sym (same_frame links other peer (after_dial at (link_at other links)) (dial_frame at (link_at other links))) ∙ h)
by_event peer at (Ship other) links h =
    inl (sym (same_frame links other peer (after_written at (link_at other links)) (written_frame at (link_at other links))) ∙ h)
by_event peer at (More other after) links h =
    inl (sym (same_frame links other peer (after_written at (link_at other links)) (written_frame at (link_at other links))) ∙ h)
by_event peer at (Frame bytes) links h = by_frame peer at bytes.items (head_of bytes.items) links refl h

-- ---- calls

-- a tally that a call makes of another one
pub record IsStepped (peer : ℕ) (call : Call) (t : Tally) (o : Option Tally) : Type 0 where
  pub t' : Tally
  pub is : o ≡ Some t'
  pub was : has_frame (link_of peer t') ≡ true → (has_frame (link_of peer t) ≡ true) ⊎ Brings peer call

mapped : (F : Tally → Tally) (o o' : Option Tally) (t : Tally) → o' ≡ option_map F o → o ≡ Some t → o' ≡ Some (F t)
mapped F o o' t made is = made ∙ ap (λ (x : Option Tally). option_map F x) is

some_same : (t t' : Tally) → Some t ≡ Some t' → t ≡ t'
some_same t t' h = cc

nothing_new : (nodes peer : ℕ) → has_frame (get_or (replicate nodes new_link) peer new_link) ≡ true → ⊥
nothing_new zero peer h = let z : false ≡ true = h in cc
nothing_new (suc nodes) zero h = let z : false ≡ true = h in cc
nothing_new (suc nodes) (suc peer) h = nothing_new nodes peer h

module _ {H : Type 0} (handles : H → Event → List Output → H → Type 0) (hears : H → PeerEvent → Given → H → Type 0) (settles : H → H → Type 0) where
  step : (peer : ℕ) (call : Call) (d d' : Tallied H) (t : Tally) → Takes (IsAnswered handles) (IsHeard hears) (IsSettled settles) d call d' → d.tally ≡ Some t
      → IsStepped peer call t d'.tally
  step peer (handled e outputs) d d' t takes is = record {
    t' = gave outputs (met e.at e.kind t);
    is = mapped (λ x. gave outputs (met e.at e.kind x)) d.tally d'.tally t takes.tally is;
    was = λ h. inl h;
  }
  step peer (heard e given) d d' t takes is = record {
    t' = gave_frames given.frames.items (gave given.outputs.items (heard_of e.at e.kind t));
    is = mapped (λ x. gave_frames given.frames.items (gave given.outputs.items (heard_of e.at e.kind x))) d.tally d'.tally t takes.tally is;
    was = λ h. by_event peer e.at e.kind t.links h;
  }
  step peer settled d d' t takes is = record { t' = t; is = takes.tally ∙ is; was = λ h. inl h }

  walk : (calls : List Call) (d d' : Tallied H) (t t' : Tally) → Take (IsAnswered handles) (IsHeard hears) (IsSettled settles) d calls d' → d.tally ≡ Some t
      → d'.tally ≡ Some t' → (peer : ℕ) → has_frame (link_of peer t') ≡ true → (has_frame (link_of peer t) ≡ true) ⊎ WasThere peer calls
  walk [] d d' t t' same is is' peer h =
      let both : Some t' ≡ Some t = sym is' ∙ ap (λ (x : Tallied H). x.tally) same ∙ is in
      inl (sym (ap (λ (x : Tally). has_frame (link_of peer x)) (some_same t' t both)) ∙ h)
  walk (call ∷ calls) d d' t t' (m, first, rest) is is' peer h =
      let one = step peer call d m t first is in
      elim (walk calls m d' one.t' t' rest one.is is' peer h) [
        | inl was ↦ elim (one.was was) [
          | inl before ↦ inl before
          | inr brings ↦ inr (inl brings)
        ]
        | inr later ↦ inr (inr later)
      ]

  pub heard_was_there : HeardWasThere (IsAnswered handles) (IsHeard hears) (IsSettled settles)
  heard_was_there calls d d' nodes t takes is is' peer at h = elim (walk calls d d' (new_tally nodes) t takes is is' peer (heard_has at (link_of peer t) h)) [
    | inl new ↦ absurd (nothing_new nodes peer new)
    | inr there ↦ there
  ]
