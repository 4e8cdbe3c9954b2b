-- Retained messages that are offered after SUBACK.
use Rattle.std.proofs.Common.{◌≡◌, ℕ, ◌+◌, ◌<◌, List, [], ◌∷◌, ◌++◌, length, get_or, take, refl, sym, ap, subst, ◌∙◌, append_assoc, Bor}
use Rattle.std.specs.Prelude.{map as map_list}
use Rattle.std.proofs.lemmas.List.{append-nil, take_more, map-append}
use Rattle.mqtt_message.specs.declared.delivery.Delivery.{Delivery}
use Rattle.replica_store.specs.declared.kept.Kept.{Kept}
use Rattle.node_work.specs.declared.granted.Granted.{Granted}
use Rattle.node_work.specs.Offers.{IsOffered, AreOffered}

module _ (at : ℕ) (kept : List (List ℕ × Kept)) where
  offered_push : (gs : List Granted) (g : Granted) (xs ys : List Delivery) → AreOffered at kept gs xs → IsOffered at kept g.asked ys → AreOffered at kept (gs ++ g ∷ []) (xs ++ ys)
  offered_push [] g xs ys e o = (ys, [], o, refl, ap (λ zs. zs ++ ys) e ∙ sym (append-nil ys))
  offered_push (f ∷ gs) g xs ys w o = (w.0, w.1 ++ ys, w.2, offered_push gs g w.1 ys w.3 o, ap (λ zs. zs ++ ys) w.4 ∙ append_assoc w.0 w.1 ys)

  -- one more filter
  pub offered_next : (gs : List Granted) (i : ℕ) (g : Granted) (xs ys own : List Delivery) → i < length gs → g ≡ get_or gs i g → AreOffered at kept (take i gs) xs → IsOffered at kept g.asked own → ys ≡ xs ++ own → AreOffered at kept (take (i + 1) gs) ys
  offered_next gs i g xs ys own below is o one e =
      subst (λ zs. AreOffered at kept (take (i + 1) gs) zs) (sym e)
      (subst (λ zs. AreOffered at kept zs (xs ++ own)) (sym (take_more gs i g below ∙ ap (λ z. take i gs ++ z ∷ []) (sym is))) (offered_push (take i gs) g xs own o one))

-- one more message of a filter
pub made_next : {A : Type 0} (f : A → Delivery) (before now after : List Delivery) (xs : List A) (i : ℕ) (x : A) → i < length xs → x ≡ get_or xs i x → now ≡ before ++ map_list f (take i xs) → after ≡ now ++ f x ∷ [] → after ≡ before ++ map_list f (take (i + 1) xs)
made_next f before now after xs i x below is e g =
    let more : map_list f (take (i + 1) xs) ≡ map_list f (take i xs) ++ f x ∷ [] = ap (map_list f) (take_more xs i x below) ∙ map-append f (take i xs) (get_or xs i x ∷ []) ∙ (λ j. map_list f (take i xs) ++ f (sym is j) ∷ []) in
    g ∙ ap (λ zs. zs ++ f x ∷ []) e ∙ append_assoc before (map_list f (take i xs)) (f x ∷ []) ∙ ap (λ zs. before ++ zs) (sym more)

pub mapped : {A : Type 0} (f : A → Delivery) (rs : List (Bor A)) → map_list (λ r. f r.now) rs ≡ map_list f (map_list (λ r. r.now) rs)
mapped f [] = refl
mapped f (r ∷ rs) = ap (λ zs. f r.now ∷ zs) (mapped f rs)
