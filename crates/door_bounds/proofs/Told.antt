-- What the handler inside is told, one event after another.
use Rattle.std.proofs.Common.{◌≡◌, ℕ, Bool, true, false, List, [], ◌∷◌, ◌++◌, inl, inr, refl, sym, ap, subst, ◌∙◌, append_assoc}
use Rattle.std.specs.List.{AllByRecursion}
use Rattle.broker_sockets.specs.declared.events.Event.{Event}
use Rattle.broker_sockets.specs.declared.events.EventKind.TheVariants.{Piece}
use Rattle.broker_sockets.specs.declared.events.Output.{Output}
use Rattle.broker_sockets.specs.declared.events.Output.TheVariants.{Send}
use Rattle.mqtt_packets.specs.declared.packet.Packet.{Packet}
use Rattle.mqtt_bounds.specs.declared.verdict.Mend.{Mend}
use Rattle.door_bounds.specs.Faults.{IsRefusing, IsStopped}
use Rattle.door_bounds.specs.Laws.{OfPiece}
use Rattle.door_bounds.specs.Mending.{Buffer, IsMendedTo, IsSpelled}
use Rattle.door_bounds.specs.Telling.{AreSteps, AreTold, IsOut, IsOutIf, IsSpoken, IsStep, IsTelling, IsTellingIf, IsTold, Told, is_silent}
use Rattle.door_bounds.specs.declared.clients.Clients.{Clients}
use Rattle.door_bounds.specs.declared.fault.BoundedFault.{BoundedFault}
use Rattle.door_bounds.specs.declared.fault.BoundedFault.TheVariants.{NoMemory, Inside}
use Rattle.door_bounds.specs.declared.step.Step.{Step}
use Rattle.door_bounds.specs.declared.step.Step.TheVariants as steps

pub not_out : (q : ℕ) (bs : List ℕ) (k : Clients) (o : List Output) → is_silent q bs k ≡ true → IsOut q bs k o o
not_out q bs k o e = let Is : Bool → Type 0 = λ t. IsOutIf t q bs o o in subst Is (sym e) refl

pub out : (q : ℕ) (bytes : Buffer) (k : Clients) (o o' : List Output) → is_silent q bytes.items k ≡ false → o' ≡ o ++ Send q bytes ∷ [] → IsOut q bytes.items k o o'
out q bytes k o o' e is = let Is : Bool → Type 0 = λ t. IsOutIf t q bytes.items o o' in subst Is (sym e) (bytes, refl, is)

-- what is so of the bytes that a step tells
abbrev pub OfStep : (List ℕ → Type 0) → Step → Type 0
OfStep Is (steps.Tells bs mend) = Is bs
OfStep Is (steps.Asks p mend) = (bs : List ℕ) → IsSpelled p bs → Is bs
OfStep Is (steps.Answers p) = Unit {0}

pub all_then : {A : Type 0} (P : A → Type 0) (xs ys : List A) → AllByRecursion P xs → AllByRecursion P ys → AllByRecursion P (xs ++ ys)
all_then P [] ys a b = b
all_then P (x ∷ xs) ys a b = (a.0, all_then P xs ys a.1 b)

module _ {H : Type 0} (handles : H → Event → List Output → H → Type 0) where
  pub told_then : (xs ys : List Told) (h m h' : H) → AreTold handles xs h m → AreTold handles ys m h' → AreTold handles (xs ++ ys) h h'
  told_then [] ys h m h' same more = subst (λ x. AreTold handles ys x h') same more
  told_then (t ∷ xs) ys h m h' all more = (all.0, all.1, told_then xs ys all.0 m h' all.2 more)

  pub silent : (at q : ℕ) (bs : List ℕ) (m : Mend) (h : H) (k : Clients) (o : List Output) → is_silent q bs k ≡ true → IsTelling handles at q bs m h h k k o o
  silent at q bs m h k o e =
      let Is : Bool → Type 0 = λ t. IsTellingIf handles t at q bs m h h k k o o in
      subst Is (sym e) (refl, refl, refl)

  pub spoken : (at q : ℕ) (bytes : Buffer) (m : Mend) (e : Event) (given : List Output) (h h' : H) (k k' : Clients) (o o' : List Output) → is_silent q bytes.items k ≡ false
      → e ≡ record { at = at; kind = Piece q bytes } → IsTold handles e given h h' k k' → IsMendedTo q m given o o' → IsTelling handles at q bytes.items m h h' k k' o o'
  spoken at q bytes m e given h h' k k' o o' loud is told sent =
      let Is : Bool → Type 0 = λ t. IsTellingIf handles t at q bytes.items m h h' k k' o o' in
      let so : IsTold handles (record { at = at; kind = Piece q bytes }) given h h' k k' = subst (λ (x : Event). IsTold handles x given h h' k k') is told in
      subst Is (sym loud) (record { bytes = bytes; same = refl; given = given; told = so; sent = sent })

  pub step_tells : (at q : ℕ) (s : Step) (bs x : List ℕ) (m : Mend) (h h' : H) (k k' : Clients) (o o' : List Output) → s ≡ steps.Tells bs m → x ≡ bs → IsTelling handles at q x m h h' k k' o o'
      → IsStep handles at q s h h' k k' o o'
  step_tells at q s bs x m h h' k k' o o' is same one =
      let Told : List ℕ → Type 0 = λ y. IsTelling handles at q y m h h' k k' o o' in
      subst (λ (t : Step). IsStep handles at q t h h' k k' o o') (sym is) (subst Told same one)

  pub step_asks : (at q : ℕ) (s : Step) (p : Packet) (x : List ℕ) (m : Mend) (h h' : H) (k k' : Clients) (o o' : List Output) → s ≡ steps.Asks p m → IsSpelled p x → IsTelling handles at q x m h h' k k' o o'
      → IsStep handles at q s h h' k k' o o'
  step_asks at q s p x m h h' k k' o o' is spelled one = subst (λ (t : Step). IsStep handles at q t h h' k k' o o') (sym is) (x, spelled, one)

  pub step_answers : (at q : ℕ) (s : Step) (p : Packet) (x : List ℕ) (h : H) (k : Clients) (o o' : List Output) → s ≡ steps.Answers p → IsSpelled p x → IsOut q x k o o' → IsStep handles at q s h h k k o o'
  step_answers at q s p x h k o o' is spelled one = subst (λ (t : Step). IsStep handles at q t h h k k o o') (sym is) (x, spelled, one, refl, refl)

  pub steps_none : (at q : ℕ) (h : H) (k : Clients) (o : List Output) → AreSteps handles at q [] h h k k o o
  steps_none at q h k o = (refl, refl, refl)

  steps_from : (at q : ℕ) (s : Step) (h h2 h' : H) (k k2 k' : Clients) (o o2 o' : List Output) → (h2 ≡ h) × (k2 ≡ k) × (o2 ≡ o) → IsStep handles at q s h2 h' k2 k' o2 o'
      → IsStep handles at q s h h' k k' o o'
  steps_from at q s h h2 h' k k2 k' o o2 o' same one =
      let a = subst (λ (x : H). IsStep handles at q s x h' k2 k' o2 o') same.0 one in
      let b = subst (λ (x : Clients). IsStep handles at q s h h' x k' o2 o') same.1 a in
      subst (λ (x : List Output). IsStep handles at q s h h' k k' x o') same.2 b

  pub steps_then : (at q : ℕ) (ss : List Step) (s : Step) (h m h' : H) (k l k' : Clients) (o p o' : List Output) → AreSteps handles at q ss h m k l o p → IsStep handles at q s m h' l k' p o'
      → AreSteps handles at q (ss ++ s ∷ []) h h' k k' o o'
  steps_then at q [] s h m h' k l k' o p o' same one = (h', k', o', steps_from at q s h m h' k l k' o p o' same one, (refl, refl, refl))
  steps_then at q (x ∷ ss) s h m h' k l k' o p o' (m2, l2, p2, first, rest) one =
      (m2, l2, p2, first, steps_then at q ss s m2 m h' l2 l k' p2 p o' rest one)

  -- ---- of what it is told

  pub record ToldSo (Is : List ℕ → Type 0) (h h' : H) : Type 0 where
    pub told : List Told
    pub made : AreTold handles told h h'
    pub each : AllByRecursion (λ t. OfPiece Is t.0.kind) told

  pub so_none : (Is : List ℕ → Type 0) (h h' : H) → h' ≡ h → ToldSo Is h h'
  so_none Is h h' same = record { told = []; made = same; each = tt }

  pub so_then : (Is : List ℕ → Type 0) (h m h' : H) → ToldSo Is h m → ToldSo Is m h' → ToldSo Is h h'
  so_then Is h m h' a b = record {
    told = a.told ++ b.told;
    made = told_then a.told b.told h m h' a.made b.made;
    each = all_then (λ t. OfPiece Is t.0.kind) a.told b.told a.each b.each;
  }

  telling_so : (Is : List ℕ → Type 0) (t : Bool) (at q : ℕ) (bs : List ℕ) (m : Mend) (h h' : H) (k k' : Clients) (o o' : List Output) → Is bs → IsTellingIf handles t at q bs m h h' k k' o o' → ToldSo Is h h'
  telling_so Is true at q bs m h h' k k' o o' is same = so_none Is h h' same.0
  telling_so Is false at q bs m h h' k k' o o' is s = record {
    told = (record { at = at; kind = Piece q s.bytes }, s.given) ∷ [];
    made = (h', s.told.handled, refl);
    each = (subst Is (sym s.same) is, tt);
  }

  step_so : (Is : List ℕ → Type 0) (at q : ℕ) (s : Step) (h h' : H) (k k' : Clients) (o o' : List Output) → OfStep Is s → IsStep handles at q s h h' k k' o o' → ToldSo Is h h'
  step_so Is at q (steps.Tells bs m) h h' k k' o o' is one = telling_so Is (is_silent q bs k) at q bs m h h' k k' o o' is one
  step_so Is at q (steps.Asks p m) h h' k k' o o' is (bs, spelled, one) = telling_so Is (is_silent q bs k) at q bs m h h' k k' o o' (is bs spelled) one
  step_so Is at q (steps.Answers p) h h' k k' o o' is (bs, spelled, out, same, kept) = so_none Is h h' same

  pub steps_so : (Is : List ℕ → Type 0) (at q : ℕ) (ss : List Step) (h h' : H) (k k' : Clients) (o o' : List Output) → AllByRecursion (OfStep Is) ss → AreSteps handles at q ss h h' k k' o o' → ToldSo Is h h'
  steps_so Is at q [] h h' k k' o o' is same = so_none Is h h' same.0
  steps_so Is at q (s ∷ ss) h h' k k' o o' is (m, l, p, first, rest) =
      so_then Is h m h' (step_so Is at q s h m k l o p is.0 first) (steps_so Is at q ss m h' l k' p o' is.1 rest)

abbrev Any : List ℕ → Type 0
Any bs = Unit {0}

any_step : (s : Step) → OfStep Any s
any_step (steps.Tells bs m) = tt
any_step (steps.Asks p m) = λ bs spelled. tt
any_step (steps.Answers p) = tt

any_steps : (ss : List Step) → AllByRecursion (OfStep Any) ss
any_steps [] = tt
any_steps (s ∷ ss) = (any_step s, any_steps ss)

module _ {H F : Type 0} (handles : H → Event → List Output → H → Type 0) (refuses : H → Event → F → H → Type 0) where
  pub refusing_one : (e : Event) (f : F) (h h' : H) → refuses h e f h' → IsRefusing handles refuses f h h'
  refusing_one e f h h' r = record { calls = []; reached = h; told = refl; event = e; refused = r }

  pub stopped_steps : (at q : ℕ) (ss : List Step) (fault : BoundedFault F) (h m h' : H) (k l : Clients) (o p : List Output) → AreSteps handles at q ss h m k l o p
      → IsStopped handles refuses m h' fault → IsStopped handles refuses h h' fault
  stopped_steps at q ss NoMemory h m h' k l o p did stop = tt
  stopped_steps at q ss (Inside f) h m h' k l o p did stop =
      let t = steps_so handles Any at q ss h m k l o p (any_steps ss) did in
      record {
        calls = t.told ++ stop.calls;
        reached = stop.reached;
        told = told_then handles t.told stop.calls h m stop.reached t.made stop.told;
        event = stop.event;
        refused = stop.refused;
      }
