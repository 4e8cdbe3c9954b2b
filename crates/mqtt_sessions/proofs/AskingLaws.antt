-- What a SUBSCRIBE asks for, and what answers it.
use Rattle.std.proofs.Common.{◌≡◌, ℕ, suc, zero, ◌+◌, ◌<◌, true, false, List, [], ◌∷◌, ◌++◌, length, get_or, take, drop, drop-cons, refl, sym, ap, subst, ◌∙◌, ◌⊎◌, inl, inr}
use Rattle.std.proofs.lemmas.List.{take_more}
use Rattle.mqtt_packets.specs.declared.subscribe.SubscribeFilter.{SubscribeFilter}
use Rattle.std.specs.Prelude.{Result, None, Some, IfOk, is_some, replicate}
use Rattle.mqtt_packets.specs.declared.subscribe.Subscribe.{Subscribe}
use Rattle.mqtt_packets.specs.declared.unsubscribe.Unsubscribe.{Unsubscribe}
use Rattle.qos_handshakes.specs.Incoming.{opened}
use Rattle.mqtt_sessions.specs.Answers.{fits, suback, unsuback}
use Rattle.mqtt_packets.specs.declared.packet.Packet.{Packet}
use Rattle.mqtt_sessions.specs.declared.fault.SessionFault.{SessionFault}
use Rattle.mqtt_sessions.specs.Reaction.{Reaction, Comes, answered, gives_out, nothing}
use Rattle.mqtt_sessions.specs.State.{State, cut}
use Rattle.mqtt_sessions.specs.Asking.{AsksNoLocalShare, IsNoLocalShare, subscribed, unsubscribed}

asks_in : (fs : List SubscribeFilter) (f : SubscribeFilter) (gs : List SubscribeFilter) → IsNoLocalShare f → AsksNoLocalShare (fs ++ f ∷ gs)
asks_in [] f gs n = inl n
asks_in (x ∷ fs) f gs n = inr (asks_in fs f gs n)

asks_last : (fs : List SubscribeFilter) (f : SubscribeFilter) → AsksNoLocalShare (fs ++ f ∷ []) → AsksNoLocalShare fs ⊎ IsNoLocalShare f
asks_last [] f (inl n) = inr n
asks_last [] f (inr n) = absurd n
asks_last (x ∷ fs) f (inl n) = inl (inl n)
asks_last (x ∷ fs) f (inr n) = elim (asks_last fs f n) [ inl m ↦ inl (inr m) | inr m ↦ inr m ]

take_drop : {A : Type 0} (i : ℕ) (xs : List A) → take i xs ++ drop i xs ≡ xs
take_drop zero xs = refl
take_drop (suc i) [] = refl
take_drop (suc i) (x ∷ xs) = ap (λ ys. x ∷ ys) (take_drop i xs)

module _ (fs : List SubscribeFilter) (i : ℕ) (f : SubscribeFilter) (below : i < length fs) (at : f ≡ get_or fs i f) where
  pub asks_at : IsNoLocalShare f → AsksNoLocalShare fs
  asks_at n = subst AsksNoLocalShare (ap (λ gs. take i fs ++ gs) (ap (λ x. x ∷ drop (suc i) fs) at ∙ sym (drop-cons fs i f below)) ∙ take_drop i fs) (asks_in (take i fs) f (drop (suc i) fs) n)

  pub asks_not : ¬ IsNoLocalShare f → ¬ AsksNoLocalShare (take i fs) → ¬ AsksNoLocalShare (take (i + 1) fs)
  asks_not n m a =
      elim (asks_last (take i fs) f (subst AsksNoLocalShare (take_more fs i f below ∙ ap (λ x. take i fs ++ x ∷ []) (sym at)) a)) [ inl b ↦ m b | inr b ↦ n b ]

-- an identifier that is in use is refused for each filter
pub unsubscribe-in_use : (p : Unsubscribe) (limit : ℕ) (s : State) (answer : Packet) (codes : List ℕ) (n : ℕ) (result : Result Reaction SessionFault) (new : State)
    → true ≡ is_some (opened p.identifier s.incoming) → answer ≡ unsuback p.identifier codes → codes ≡ replicate n 145 → n ≡ length p.filters
    → IfOk result (λ r. Comes (answered limit answer None s) r new) → IfOk result (λ r. Comes (unsubscribed p limit s) r new)
unsubscribe-in_use p limit s answer codes n result new used is each count h = rw (← used, ← count, ← each, ← is) h

pub subscribe-in_use : (p : Subscribe) (limit : ℕ) (s : State) (answer : Packet) (codes : List ℕ) (n : ℕ) (result : Result Reaction SessionFault) (new : State)
    → true ≡ is_some (opened p.identifier s.incoming) → answer ≡ suback p.identifier codes → codes ≡ replicate n 145 → n ≡ length p.filters
    → IfOk result (λ r. Comes (answered limit answer None s) r new) → IfOk result (λ r. Comes (subscribed p limit s) r new)
subscribe-in_use p limit s answer codes n result new used is each count h = rw (← used, ← count, ← each, ← is) h

-- where the client takes no answer so long, its connection closes; else memory is wanted for it
pub unsubscribe-closed : (p : Unsubscribe) (limit : ℕ) (s : State) (r : Reaction) (new : State) → true ≡ is_some (opened p.identifier s.incoming)
    → fits limit (unsuback p.identifier (replicate (length p.filters) 145)) ≡ false → r ≡ record nothing { ask = None; end = Some 0 } → new ≡ cut s → Comes (unsubscribed p limit s) r new
unsubscribe-closed p limit s r new used long is left = rw (← used, long) (is, left)

pub unsubscribe-wants : (p : Unsubscribe) (limit : ℕ) (s : State) → true ≡ is_some (opened p.identifier s.incoming) → fits limit (unsuback p.identifier (replicate (length p.filters) 145)) ≡ true
    → gives_out (unsubscribed p limit s).reaction ≡ true
unsubscribe-wants p limit s used fit = rw (← used, fit) refl

-- where the client takes no answer so long, its connection closes; else memory is wanted for it
pub subscribe-closed : (p : Subscribe) (limit : ℕ) (s : State) (r : Reaction) (new : State) → true ≡ is_some (opened p.identifier s.incoming)
    → fits limit (suback p.identifier (replicate (length p.filters) 145)) ≡ false → r ≡ record nothing { ask = None; end = Some 0 } → new ≡ cut s → Comes (subscribed p limit s) r new
subscribe-closed p limit s r new used long is left = rw (← used, long) (is, left)

pub subscribe-wants : (p : Subscribe) (limit : ℕ) (s : State) → true ≡ is_some (opened p.identifier s.incoming) → fits limit (suback p.identifier (replicate (length p.filters) 145)) ≡ true
    → gives_out (subscribed p limit s).reaction ≡ true
subscribe-wants p limit s used fit = rw (← used, fit) refl
