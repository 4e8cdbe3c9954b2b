-- What is selected of what is live.
use Rattle.std.proofs.Common.{◌≡◌, ◌↔◌, Bool, true, false, List, [], ◌∷◌, map, flat_map, length, ℕ, ◌<◌, Result, Ok, Err, OnErr, IsOk, Bor, inl, inr, refl, sym, ap, subst, ◌∙◌, arith}
use Rattle.std.proofs.lemmas.Bool.{false≢true}
use Rattle.std.specs.List.{items_where_true}
use Rattle.std.specs.List.Retain.{IsFiltered, ReturnsInTurn}
use Rattle.mqtt_topics.specs.Topics.{IsShared}
use Rattle.mqtt_message.specs.declared.message.Message.{Message}
use Rattle.subscription_set.specs.Entries.{Entry, same_text}
use Rattle.subscription_set.specs.Standing.{Entries}
use Rattle.bridge_routes.specs.declared.plain.PlainCopy.{PlainCopy}
use Rattle.bridge_routes.specs.Copies.{AreCopies, AreCopiesAmong, AreLive, Counts, MayCount, IsFor, IsPlainFor, entries_in}
use Rattle.bridge_routes.specs.Tables.{referents}
use Rattle.filter_trie.specs.Selected.{IsSelected}
use Rattle.std.specs.Cmp.Lexicographic.{bytes_decides}
use Rattle.mqtt_topics.specs.Matching.{Matches}
use Rattle.subscription_set.specs.Members.{AreInTurn, HasLive, in_turn, to_filter}
use Rattle.subscription_set.proofs.Grouping.{no_match}
use Rattle.subscription_set.proofs.Walking.{nothing_in}

module _ {A : Type 0} (P : A → Type 0) where
  pub selected_once : (xs out other : List A) → IsSelected P xs out → IsSelected P xs other → out ≡ other
  selected_once [] out other a b = a ∙ sym b
  selected_once (x ∷ xs) out other (inl a) (inl b) = a.1.1 ∙ ap (λ r. x ∷ r) (selected_once xs a.1.0 b.1.0 a.1.2 b.1.2) ∙ sym b.1.1
  selected_once (x ∷ xs) out other (inl a) (inr b) = absurd (b.0 a.0)
  selected_once (x ∷ xs) out other (inr a) (inl b) = absurd (a.0 b.0)
  selected_once (x ∷ xs) out other (inr a) (inr b) = selected_once xs out other a.1 b.1

pub no_referents : {X : Type 0} (rs : List (Bor X)) → length rs ≡ 0 → referents rs ≡ []
no_referents [] e = refl
no_referents (r ∷ rs) e = absurd (omega arith)

pub no_references : {X : Type 0} (rs : List (Bor X)) → referents rs ≡ [] → length rs ≡ 0
no_references [] e = refl
no_references (r ∷ rs) e = absurd (let f : length (r.now ∷ referents rs) ≡ 0 = ap length e in omega (arith, f))

-- what is selected by one property, and of that by another, is selected by both
selected_both : {A : Type 0} (P Q R : A → Type 0) → ((x : A) → P x → Q x → R x) → ((x : A) → R x → P x × Q x) → (xs ys zs : List A) → IsSelected P xs ys → IsSelected Q ys zs → IsSelected R xs zs
selected_both P Q R f g [] ys zs h k = subst (λ l. IsSelected Q l zs) h k
selected_both P Q R f g (x ∷ xs) ys zs (inl h) k = elim (subst (λ l. IsSelected Q l zs) h.1.1 k) as (λ _. IsSelected R (x ∷ xs) zs) [
  | inl q ↦ inl (f x h.0 q.0, (q.1.0, q.1.1, selected_both P Q R f g xs h.1.0 q.1.0 h.1.2 q.1.2))
  | inr q ↦ inr ((λ r. q.0 (g x r).1), selected_both P Q R f g xs h.1.0 zs h.1.2 q.1)
]
selected_both P Q R f g (x ∷ xs) ys zs (inr h) k = inr ((λ r. h.0 (g x r).0), selected_both P Q R f g xs ys zs h.1 k)

-- what is selected of what is selected by a wider property
pub selected_within : {A : Type 0} (P Q : A → Type 0) → ((x : A) → Q x → P x) → (xs ys zs : List A) → IsSelected P xs ys → IsSelected Q ys zs → IsSelected Q xs zs
selected_within P Q f = selected_both P Q Q (λ x p q. q) (λ x q. (f x q, q))

-- copies among what was found are copies by what is live
pub copies_found : (live : Entries) (m : Message) (found : List Entry) (out : List PlainCopy) → AreLive (IsFor m) live found → AreCopiesAmong found m out → AreCopies live m out
copies_found live m found out h a = (a.0, selected_both (IsFor m) (MayCount m) (Counts m) (λ e p q. ((q.0, p), q.1)) (λ e k. (k.0.1, (k.0.0, k.1))) (entries_in live) found a.0 h a.1, a.2)

-- copies among what is plain of it are copies by what is live
pub plain_copies : (live : Entries) (m : Message) (plain : List Entry) (out : List PlainCopy) → AreLive (IsPlainFor m) live plain → AreCopiesAmong plain m out → AreCopies live m out
plain_copies live m plain out h a = (a.0, selected_both (IsPlainFor m) (MayCount m) (Counts m) (λ e p q. (p, q.1)) (λ e k. (k.0, (k.0.0, k.1))) (entries_in live) plain a.0 h a.1, a.2)

-- what is plain of what is plain and matches is all of it
pub plain_again : (live : Entries) (m : Message) (plain out : List Entry) → AreLive (IsPlainFor m) live plain → IsSelected (λ e. IsShared e.filter → ⊥) plain out → AreLive (IsPlainFor m) live out
plain_again live m plain out h a = selected_both (IsPlainFor m) (λ e. IsShared e.filter → ⊥) (IsPlainFor m) (λ e p q. p) (λ e p. (p, p.0)) (entries_in live) plain out h a

-- where nothing that is live matches, nothing is found
pub nothing_found : (live : Entries) (m : Message) (rs : List (Bor Entry)) → AreLive (IsFor m) live (referents rs) → AreLive (IsFor m) live [] → length rs ≡ 0
nothing_found live m rs h none = no_references rs (selected_once (IsFor m) (entries_in live) (referents rs) [] h none)

none_weaker : {A : Type 0} (P Q : A → Type 0) → ((x : A) → Q x → P x) → (xs : List A) → IsSelected P xs [] → IsSelected Q xs []
none_weaker P Q f [] h = refl
none_weaker P Q f (x ∷ xs) (inl h) = absurd (let no = h.1.1 in cc)
none_weaker P Q f (x ∷ xs) (inr h) = inr ((λ q. h.0 (f x q)), none_weaker P Q f xs h.1)

pub nothing_plain : (live : Entries) (m : Message) (rs : List (Bor Entry)) → AreLive (IsPlainFor m) live (referents rs) → AreLive (IsFor m) live [] → length rs ≡ 0
nothing_plain live m rs h none = no_references rs (selected_once (IsPlainFor m) (entries_in live) (referents rs) [] h (none_weaker (IsFor m) (IsPlainFor m) (λ e p. p.1) (entries_in live) none))

pub nothing_in_turn : (turn : ℕ) (live : Entries) (m : Message) (rs : List (Bor Entry)) → AreInTurn turn m.topic (entries_in live) (referents rs) → AreLive (IsFor m) live [] → length rs ≡ 0
nothing_in_turn turn live m rs a none =
    let no = no_match (HasLive (entries_in live)) m.topic a.0 (λ f h k. nothing_in (IsFor m) (λ e. same_text f e.filter) (λ e t. subst (λ g. Matches g m.topic) ((bytes_decides f e.filter).0 t) k) (entries_in live) none h) a.1 in
    no_references rs (a.2 ∙ ap (flat_map (λ f. in_turn turn (to_filter f (entries_in live)))) no)

-- what fails only where there is something doesn't fail where there is nothing
pub is_ok_of_none : {T E : Type 0} (n : ℕ) (r : Result T E) → n ≡ 0 → OnErr r (0 < n) → IsOk r
is_ok_of_none n (Ok x) none h = refl
is_ok_of_none n (Err e) none h = absurd (omega (arith, none, h))

-- what `retain` keeps is what its test selects
module _ {X Y F : Type 0} (R : F → X → Bool → F → Type 0) (P : Y → Type 0) (g : X → Y) (f : F) (h : (x : X) (b : Bool) (f' : F) → R f x b f' → ((b ≡ true) ↔ P (g x)) × (f' ≡ f)) where
  selected_in_turn : (bs : List Bool) (xs : List X) (q : F) → length bs ≡ length xs → ReturnsInTurn R f bs xs q → IsSelected P (map g xs) (map g (items_where_true bs xs))
  selected_in_turn [] [] q e t = refl
  selected_in_turn [] (x ∷ xs) q e t = absurd (omega arith)
  selected_in_turn (b ∷ bs) [] q e t = absurd t
  selected_in_turn (true ∷ bs) (x ∷ xs) q e t =
      let one = h x true t.0 t.1 in
      inl (one.0.0 refl, (map g (items_where_true bs xs), refl, selected_in_turn bs xs q (omega arith) (subst (λ (y : F). ReturnsInTurn R y bs xs q) one.1 t.2)))
  selected_in_turn (false ∷ bs) (x ∷ xs) q e t =
      let one = h x false t.0 t.1 in
      inr ((λ p. false≢true (one.0.1 p)), selected_in_turn bs xs q (omega arith) (subst (λ (y : F). ReturnsInTurn R y bs xs q) one.1 t.2))

  pub selected_from_retain : (xs ys : List X) → IsFiltered R f xs ys → IsSelected P (map g xs) (map g ys)
  selected_from_retain xs ys k = subst (λ zs. IsSelected P (map g xs) (map g zs)) (sym k.4) (selected_in_turn k.0 xs k.1 k.2 k.3)
