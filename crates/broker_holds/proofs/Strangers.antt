-- A link that is watched came from an address that is taken.
use Rattle.std.proofs.Common.{◌≡◌, ℕ, Bool, true, false, Option, inl, inr, sym, ◌∙◌}
use Rattle.broker_sockets.specs.declared.ready.Watched.{Watched}
use Rattle.broker_sockets.specs.declared.ready.Watched.TheVariants.{Link}
use Rattle.broker_holds.specs.declared.links.GuardedLinks.{GuardedLinks}
use Rattle.broker_holds.specs.Links.{IsTakenBy, IsWatchedIfAdmitted, takes}

module _ {S T : Type 0} (comes_from : T → Option ℕ → Type 0) (watches : S → T → Watched → Bool → S → Type 0) where
  taken_from : (n : GuardedLinks S) (t : T) (admitted : Bool) → admitted ≡ true → IsTakenBy comes_from n t admitted → (origin : Option ℕ) × comes_from t origin × (takes n.bridges origin ≡ true)
  taken_from n t admitted so by = (by.origin, by.comes, sym by.taken ∙ so)

  pub watched-came : (n n' : GuardedLinks S) (t : T) (key : ℕ) → IsWatchedIfAdmitted comes_from watches n t (Link key) true n' → (origin : Option ℕ) × comes_from t origin × (takes n.bridges origin ≡ true)
  watched-came n n' t key is = elim is.watch [
    | inl watched ↦ taken_from n t is.admitted watched.0 is.by
    | inr refused ↦ absurd (let wrong : true ≡ false = refused.1 in cc)
  ]
