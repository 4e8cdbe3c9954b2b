-- What calls of a door are to the handler inside.
use Rattle.std.proofs.Common.{◌≡◌, ℕ, List, [], ◌∷◌, Bool, true, false, Option, Some, None, refl, sym, ap, subst, ◌∙◌}
use Rattle.broker_sockets.specs.declared.bridge.Given.{Given}
use Rattle.broker_sockets.specs.declared.bridge.PeerEvent.{PeerEvent}
use Rattle.broker_sockets.specs.declared.events.Event.{Event}
use Rattle.broker_sockets.specs.declared.events.EventKind.{EventKind}
use Rattle.broker_sockets.specs.declared.events.EventKind.TheVariants.{Started, Opened, Piece, Room, Closed, Tick}
use Rattle.broker_sockets.specs.declared.events.Output.{Output}
use Rattle.home_table.specs.Table.{Table}
use Rattle.door_tables.specs.Answering.{IsAnswered, IsAnsweredIf, IsGiven, IsNewerIf, is_tick}
use Rattle.door_tables.specs.Calls.{AreCalled, AreFor, Call, Handled, Heard, IsCalled, IsFor, Made, Plain, Settled, Taken, tables_in}
use Rattle.door_tables.specs.Laws.{AreMade, IsMade, Rise, TablesAreNewer, last_of}
use Rattle.door_tables.specs.Newer.{IsNewer}
use Rattle.door_tables.specs.declared.door.Tabled.{Tabled}

tick_kind : (kind : EventKind) → is_tick kind ≡ true → kind ≡ Tick
tick_kind Started is = cc
tick_kind (Opened c) is = cc
tick_kind (Piece c bytes) is = cc
tick_kind (Room c bytes) is = cc
tick_kind (Closed c) is = cc
tick_kind Tick is = refl

module _ {H : Type 0} (handles : H → Event → List Output → H → Type 0) (hears : H → PeerEvent → Given → H → Type 0) (settles : H → H → Type 0)
    (goes_by : H → Table) (takes : H → ℕ → Table → List Output → H → Type 0) where
  -- while the handler inside runs, as a node does that has started, it goes by the newer table that it took last
  pub record KeepsTable (Running : H → Type 0) : Type 0 where
    pub called : (call : Call) (h h' : H) → Running h → IsCalled handles hears settles call h h' → Running h' × (goes_by h' ≡ goes_by h)
    pub taken : (at : ℕ) (homes : Table) (outputs : List Output) (h h' : H) → Running h → IsNewer (goes_by h) homes → takes h at homes outputs h' → Running h' × (goes_by h' ≡ homes)

module _ {H F : Type 0} (handles : H → Event → List Output → H → Type 0) (hears : H → PeerEvent → Given → H → Type 0) (settles : H → H → Type 0)
    (goes_by : H → Table) (takes : H → ℕ → Table → List Output → H → Type 0) (offers : F → ℕ → Table → Option Table → F → Type 0) where
  -- one call
  abbrev Comes : Call → H → H → Type 0
  Comes call h h' = (made : Made) × IsFor call made × IsMade handles hears settles goes_by takes made h h'

  by_offer : (offered : Option Table) (e : Event) (outputs : List Output) (h h' : H) → e.kind ≡ Tick → IsNewerIf (goes_by h) offered
      → IsGiven handles takes offered e h outputs h' → Comes (Handled e outputs) h h'
  by_offer None e outputs h h' kind newer given = (Plain (Handled e outputs), refl, given)
  by_offer (Some homes) e outputs h h' kind newer given =
      let same : e ≡ record { at = e.at; kind = Tick } = λ j. record { at = e.at; kind = kind j } in
      (Taken e.at homes outputs, (same, refl), (given, newer))

  by_if : (ticks : Bool) (e : Event) (outputs : List Output) (d d' : Tabled H F) → is_tick e.kind ≡ ticks
      → IsAnsweredIf handles takes goes_by offers ticks e outputs d d' → Comes (Handled e outputs) d.inside d'.inside
  by_if true e outputs d d' ticks is = by_offer is.offered e outputs d.inside d'.inside (tick_kind e.kind ticks) is.newer is.given
  by_if false e outputs d d' ticks is = (Plain (Handled e outputs), refl, is.answered)

  module _ (hears' : Tabled H F → PeerEvent → Given → Tabled H F → Type 0) (settles' : Tabled H F → Tabled H F → Type 0)
      (by_hears : (d : Tabled H F) (e : PeerEvent) (given : Given) (d' : Tabled H F) → hears' d e given d' → hears d.inside e given d'.inside)
      (by_settles : (d d' : Tabled H F) → settles' d d' → settles d.inside d'.inside) where
    one_call : (call : Call) (d d' : Tabled H F) → IsCalled (IsAnswered handles takes goes_by offers) hears' settles' call d d' → Comes call d.inside d'.inside
    one_call (Handled e outputs) d d' is = by_if (is_tick e.kind) e outputs d d' refl is
    one_call (Heard e given) d d' is = (Plain (Heard e given), refl, by_hears d e given d' is)
    one_call Settled d d' is = (Plain Settled, refl, by_settles d d' is)

    pub tables_are_newer : TablesAreNewer handles hears settles goes_by takes (IsAnswered handles takes goes_by offers) hears' settles'
    tables_are_newer [] d d' same = ([], tt, ap (λ (x : Tabled H F). x.inside) same)
    tables_are_newer (call ∷ more) d d' all =
        let first = one_call call d all.0 all.1 in
        let rest = tables_are_newer more all.0 d' all.2 in
        (first.0 ∷ rest.0, (first.1, rest.1), (all.0.inside, first.2, rest.2))

    module _ (Running : H → Type 0) (keeps : KeepsTable handles hears settles goes_by takes Running) where
      rise : (made : List Made) (h h' : H) → Running h → AreMade handles hears settles goes_by takes made h h' → Rise (goes_by h).version (tables_in made)
      rise [] h h' runs same = tt
      rise (Plain call ∷ more) h h' runs all =
          let kept = keeps.called call h all.0 runs all.1 in
          subst (λ (t : Table). Rise t.version (tables_in more)) kept.1 (rise more all.0 h' kept.0 all.2)
      rise (Taken at homes outputs ∷ more) h h' runs all =
          let kept = keeps.taken at homes outputs h all.0 runs all.1.1 all.1.0 in
          (all.1.1.version, subst (λ (t : Table). Rise t.version (tables_in more)) kept.1 (rise more all.0 h' kept.0 all.2))

      goes_on : (made : List Made) (h h' : H) → Running h → AreMade handles hears settles goes_by takes made h h'
          → Running h' × (goes_by h' ≡ last_of (goes_by h) (tables_in made))
      goes_on [] h h' runs same = (subst Running (sym same) runs, ap goes_by same)
      goes_on (Plain call ∷ more) h h' runs all =
          let kept = keeps.called call h all.0 runs all.1 in
          let rest = goes_on more all.0 h' kept.0 all.2 in
          (rest.0, rest.1 ∙ ap (λ (t : Table). last_of t (tables_in more)) kept.1)
      goes_on (Taken at homes outputs ∷ more) h h' runs all =
          let kept = keeps.taken at homes outputs h all.0 runs all.1.1 all.1.0 in
          let rest = goes_on more all.0 h' kept.0 all.2 in
          (rest.0, rest.1 ∙ ap (λ (t : Table). last_of t (tables_in more)) kept.1)

    -- so the versions of the tables that it takes rise, and none is taken twice; it runs on, and goes by the one that it took last
    pub versions_rise : (Running : H → Type 0) → KeepsTable handles hears settles goes_by takes Running → (calls : List Call) (d d' : Tabled H F) → Running d.inside
        → AreCalled (IsAnswered handles takes goes_by offers) hears' settles' calls d d'
        → (made : List Made) × AreFor calls made × AreMade handles hears settles goes_by takes made d.inside d'.inside × Rise (goes_by d.inside).version (tables_in made)
        × Running d'.inside × (goes_by d'.inside ≡ last_of (goes_by d.inside) (tables_in made))
    versions_rise Running keeps calls d d' runs all =
        let made = tables_are_newer calls d d' all in
        let on = goes_on Running keeps made.0 d.inside d'.inside runs made.2 in
        (made.0, made.1, made.2, rise Running keeps made.0 d.inside d'.inside runs made.2, on.0, on.1)
