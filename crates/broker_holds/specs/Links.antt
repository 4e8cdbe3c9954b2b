-- From where links are taken that other nodes begin.
use Rattle.std.specs.Prelude.{◌≡◌, ◌⊎◌, ◌==◌, ℕ, Bool, true, false, Option, Some, None, Vec}
use Rattle.std.specs.List.{list_any}
use Rattle.std.specs.declared.alloc.Global.{Global}
use Rattle.broker_sockets.specs.declared.ready.Watched.{Watched}
use Rattle.broker_sockets.specs.declared.ready.Watched.TheVariants.{Link}
use Rattle.broker_holds.specs.declared.links.GuardedLinks.{GuardedLinks}

abbrev pub is_same : ℕ → ℕ → Bool
is_same origin bridge = bridge == origin

-- a link is taken from anywhere where no addresses are given, and else from one of these
abbrev pub takes : Option (Vec ℕ Global) → Option ℕ → Bool
takes None origin = true
takes (Some bridges) None = false
takes (Some bridges) (Some origin) = list_any (is_same origin) bridges.items

module _ {S T : Type 0} where
  -- a link comes from somewhere, and is admitted just where it is taken from there
  pub record IsTakenBy (comes_from : T → Option ℕ → Type 0) (n : GuardedLinks S) (t : T) (admitted : Bool) : Type 0 where
    pub origin : Option ℕ
    pub comes : comes_from t origin
    pub taken : admitted ≡ takes n.bridges origin

  -- a stream is admitted, unless it is a link that isn't
  abbrev pub IsAdmittedBy : (T → Option ℕ → Type 0) → GuardedLinks S → T → Watched → Bool → Type 0
  IsAdmittedBy comes_from n t (Link key) admitted = IsTakenBy comes_from n t admitted
  IsAdmittedBy comes_from n t name admitted = admitted ≡ true

  -- what is admitted is watched as the network inside says; another stream isn't watched, and the network inside isn't asked
  pub record IsWatchedIfAdmitted (comes_from : T → Option ℕ → Type 0) (watches : S → T → Watched → Bool → S → Type 0)
      (n : GuardedLinks S) (t : T) (name : Watched) (watched : Bool) (n' : GuardedLinks S) : Type 0 where
    pub admitted : Bool
    pub by : IsAdmittedBy comes_from n t name admitted
    pub watch : ((admitted ≡ true) × watches n.sockets t name watched n'.sockets) ⊎ ((admitted ≡ false) × (watched ≡ false) × (n'.sockets ≡ n.sockets))
    pub kept : n'.bridges ≡ n.bridges

  -- a link of another node that is watched came from an address that is taken
  abbrev pub StrangersAreNotWatched : (T → Option ℕ → Type 0) → (GuardedLinks S → T → Watched → Bool → GuardedLinks S → Type 0) → Type 0
  StrangersAreNotWatched comes_from watches =
      (n n' : GuardedLinks S) (t : T) (key : ℕ) → watches n t (Link key) true n' → (origin : Option ℕ) × comes_from t origin × (takes n.bridges origin ≡ true)
