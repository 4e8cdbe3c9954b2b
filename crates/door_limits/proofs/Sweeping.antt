-- Late connections that are let go, one after another.
use Rattle.std.proofs.Common.{◌≡◌, ◌≤◌, ◌<◌, ◌+◌, ℕ, true, List, [], ◌∷◌, ◌++◌, Option, Some, None, is_some, refl, sym, ap, subst, ◌∙◌, append_assoc, arith}
use Rattle.std.proofs.lemmas.List.{append-nil}
use Rattle.std.specs.FinMap as map
use Rattle.broker_sockets.specs.declared.events.Event.{Event}
use Rattle.broker_sockets.specs.declared.events.Output.{Output}
use Rattle.broker_sockets.specs.declared.events.Output.TheVariants.{Close}
use Rattle.door_limits.specs.Answering.{AreCut, Cut, IsCut, IsLetGo, closings}
use Rattle.door_limits.specs.Connected.{Connected, IsLate, after}
use Rattle.door_limits.specs.declared.limited.Limited.{Limited}
use Rattle.door_limits.proofs.Counting.{after_len, left_len}

closings-more : (cuts : List Cut) (cut : Cut) → closings (cuts ++ cut ∷ []) ≡ closings cuts ++ (cut.1 ++ Close cut.0 ∷ [])
closings-more [] cut = append-nil (cut.1 ++ Close cut.0 ∷ [])
closings-more (x ∷ cuts) cut =
    ap (λ more. (x.1 ++ Close x.0 ∷ []) ++ more) (closings-more cuts cut)
    ∙ sym (append_assoc (x.1 ++ Close x.0 ∷ []) (closings cuts) (cut.1 ++ Close cut.0 ∷ []))

-- it is open
late_open : (within : Option ℕ) (at : ℕ) (known : Connected) (c : ℕ) → IsLate within at known c → map.contains_key known c ≡ true
late_open None at known c late = absurd late
late_open (Some n) at known c late = ap is_some late.1

pub fewer : (within : Option ℕ) (at : ℕ) (known known' : Connected) (c : ℕ) (given : List Output) → IsLate within at known c
    → known' ≡ after given (map.remove known c) → map.len known' < map.len known
fewer within at known known' c given late is =
    let one : map.len (map.remove known c) + 1 ≡ map.len known = left_len known c (late_open within at known c late) in
    let less : map.len (after given (map.remove known c)) ≤ map.len (map.remove known c) = after_len given (map.remove known c) in
    let same : map.len known' ≡ map.len (after given (map.remove known c)) = ap (λ (m : Connected). map.len m) is in
    omega (arith, one, less, same)

module _ {H : Type 0} (handles : H → Event → List Output → H → Type 0) where
  one_more : (at : ℕ) (cuts : List Cut) (cut : Cut) (d m d' : Limited H) → AreCut handles at cuts d m → IsCut handles at cut m d' → AreCut handles at (cuts ++ cut ∷ []) d d'
  one_more at [] cut d m d' same is = let Is : Limited H → Type 0 = λ x. IsCut handles at cut x d' in (d', subst Is same is, refl)
  one_more at (x ∷ cuts) cut d m d' all is = (all.0, all.1, one_more at cuts cut all.0 m d' all.2 is)

  -- some were let go
  pub record IsSweeping (at : ℕ) (d : Limited H) (outputs : List Output) (d' : Limited H) (outputs' : List Output) : Type 0 where
    pub cuts : List Cut
    pub each : AreCut handles at cuts d d'
    pub all : outputs' ≡ outputs ++ closings cuts

  pub sweeping_none : (at : ℕ) (d : Limited H) (outputs : List Output) → IsSweeping at d outputs d outputs
  sweeping_none at d outputs = record { cuts = []; each = refl; all = sym (append-nil outputs) }

  pub sweeping_more : (at c : ℕ) (d m d' : Limited H) (outputs between outputs' : List Output) → IsSweeping at d outputs m between → IsLate m.limits.within at m.connections c
      → IsLetGo handles at c m between d' outputs' → IsSweeping at d outputs d' outputs'
  sweeping_more at c d m d' outputs between outputs' before late gone =
      let cut : Cut = (c, gone.given) in
      record {
        cuts = before.cuts ++ cut ∷ [];
        each = one_more at before.cuts cut d m d' before.each (record { late = late; told = gone.told });
        all =
            gone.all ∙ append_assoc between gone.given (Close c ∷ []) ∙ ap (λ xs. xs ++ (gone.given ++ Close c ∷ [])) before.all
            ∙ append_assoc outputs (closings before.cuts) (gone.given ++ Close c ∷ []) ∙ ap (λ xs. outputs ++ xs) (sym (closings-more before.cuts cut));
      }
