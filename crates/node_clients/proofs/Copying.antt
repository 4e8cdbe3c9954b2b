-- Messages on their way to sessions.
use Rattle.std.proofs.Common.{◌≡◌, true, List, [], ◌∷◌, ◌++◌, map as map_list, length, arith, Option, Some, Result, Err, refl, sym, ap, subst, ◌∙◌}
use Rattle.std.specs.Result.{IsErrAnd}
use Rattle.std.proofs.lemmas.List.{map-append}
use Rattle.filter_trie.proofs.Selecting.{Follows, begins, follows_with, follows_without, ends}
use Rattle.home_table.specs.Homes.{IsHome}
use Rattle.bridge_routes.specs.declared.groups.GroupPick.{GroupPick}
use Rattle.bridge_routes.specs.declared.plain.PlainCopy.{PlainCopy as Copy}
use Rattle.node_work.specs.declared.fault.NodeFault.{NodeFault}
use Rattle.mqtt_message.specs.declared.message.Message.{Message}
use Rattle.node_clients.specs.Passing.{Retains}
use Rattle.node_work.specs.Doings.{MakesPut}
use Rattle.node_work.specs.Passing.{PicksAreHomed, content_given, pick_copy}
use Rattle.replica_store.specs.declared.content.Content.{Content}
use Rattle.node_work.specs.View.{Place, HeldView, WorkView}
use Rattle.node_work.specs.Working.{Doing, Returns, Each, Did, ComesTo}
use Rattle.node_work.proofs.Working.{Reaches, reaches_then, reaches_comes, then_stops, did_nothing, comes_if}

-- ---- each of those that are still to come
module _ {A : Type 0} (One : A → Option (Unit {0}) → Doing) (w m : WorkView) (P : Option (Unit {0}) → Doing) (left : List A) where
  pub came_next : (m' : WorkView) (x : A) (rest : List A) → left ≡ x ∷ rest → Reaches w P m (Each One left) → Did m m' (One x (Some tt)) → Reaches w P m' (Each One rest)
  came_next m' x rest e h did = reaches_then w m m' P (One x) (λ _. Each One rest) tt (subst (λ zs. Reaches w P m (Each One zs)) e h) did

  pub came_stops : {S T : Type 0} (look : S → Unit {0}) (see : T → Unit {0}) (m' : WorkView) (x : A) (rest : List A) → left ≡ x ∷ rest → Reaches w P m (Each One left)
      → (r : Result T NodeFault) (f : NodeFault) → IsErrAnd r (λ e. e ≡ f) → ComesTo look (Err f) m m' (One x) → ComesTo see r w m' P
  came_stops look see m' x rest e h r f is comes =
      reaches_comes see r w m m' P (Each One (x ∷ rest)) (subst (λ zs. Reaches w P m (Each One zs)) e h) (then_stops (One x) (λ _. Each One rest) look see r f m m' is comes)

  pub came_ends : left ≡ [] → Reaches w P m (Each One left) → Did w m (P (Some tt))
  came_ends e h = subst (λ zs. Reaches w P m (Each One zs)) e h (Some tt) m (did_nothing m tt)

-- ---- the picks whose clients have their home here
module _ (p : Place) (h : HeldView) (picks : List GroupPick) where
  abbrev Here : GroupPick → Type 0
  Here x = IsHome h.homes x.client p.id

  abbrev pub AreHere : List Copy → List GroupPick → Type 0
  AreHere out left = (homed : List GroupPick) × Follows Here picks homed left × (out ≡ map_list pick_copy homed)

  pub here_begins : (out : List Copy) (left : List GroupPick) → out ≡ [] → left ≡ picks → AreHere out left
  here_begins out left none e = ([], begins Here picks left [] (sym e) refl, none)

  pub here_with : (out new : List Copy) (left rest : List GroupPick) (x : GroupPick) (y : Copy) → left ≡ x ∷ rest → IsHome h.homes x.client p.id → y ≡ pick_copy x → new ≡ out ++ y ∷ [] → AreHere out left → AreHere new rest
  here_with out new left rest x y e has is added h = (
    h.0 ++ x ∷ [],
    follows_with Here picks x rest h.0 (subst (λ l. Follows Here picks h.0 l) e h.1) has,
    added ∙ ap (λ ys. ys ++ y ∷ []) h.2 ∙ ap (λ z. map_list pick_copy h.0 ++ z ∷ []) is ∙ sym (map-append pick_copy h.0 (x ∷ [])),
  )

  pub here_without : (out : List Copy) (left rest : List GroupPick) (x : GroupPick) → left ≡ x ∷ rest → ¬ IsHome h.homes x.client p.id → AreHere out left → AreHere out rest
  here_without out left rest x e lacks h = (h.0, follows_without Here picks x rest h.0 (subst (λ l. Follows Here picks h.0 l) e h.1) lacks, h.2)

  pub here_ends : (out : List Copy) (left : List GroupPick) → left ≡ [] → AreHere out left → PicksAreHomed p h picks out
  here_ends out left e h = (h.0, ends Here picks left h.0 e h.1, h.2)

pub none_left : {A : Type 0} (xs : List A) → length xs ≡ 0 → xs ≡ []
none_left [] e = refl
none_left (x ∷ xs) e = absurd (omega arith)

-- ---- a message with RETAIN is put
pub message_retained : (m : Message) (content : Content) (r : Result (Unit {0}) NodeFault) (w w' : WorkView) → m.retain ≡ true → content ≡ content_given m → ComesTo (λ x. x) r w w' (MakesPut content) → ComesTo (λ x. x) r w w' (Retains m)
message_retained m content r w w' kept is d = comes_if (λ x. x) r w w' m.retain (MakesPut (content_given m)) (Returns tt) kept (subst (λ x. ComesTo (λ x. x) r w w' (MakesPut x)) is d)
