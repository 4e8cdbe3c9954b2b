-- What the calls change of any part of the entries.
use Rattle.std.proofs.Common.{◌≡◌, ℕ, true, false, List, [], ◌∷◌, ◌++◌, Some, None, refl, ap, inl, inr, append_assoc}
use Rattle.std.specs.List.{AllByRecursion}
use Rattle.std.proofs.lemmas.Bool.{cases_Bool}
use Rattle.qos_handshakes.specs.declared.copies.Entry.{Entry}
use Rattle.mqtt_message.specs.declared.delivery.Delivery.{Delivery}
use Rattle.qos_handshakes.specs.Entries.{Entries, has_id, find_id, drop_id, write_id, as_published}
use Rattle.qos_handshakes.specs.Outbox.{waits, waiting_entry, away, chosen, is_owed, fits, is_sendable, after_resend, first_waiting, after_send}
use Rattle.law_handshakes.specs.Lists.{Without}

-- ---- lists without some elements
pub without-refl : {A : Type 0} (P : A → Type 0) (xs : List A) → Without P xs xs
without-refl P [] = refl
without-refl P (x ∷ xs) = inr (xs, refl, without-refl P xs)

pub without-same : {A : Type 0} (P : A → Type 0) (xs ys : List A) → ys ≡ xs → Without P xs ys
without-same P xs ys e = rw e (without-refl P xs)

pub without-more : {A : Type 0} (P Q : A → Type 0) (w : (x : A) → P x → Q x) (xs ys : List A) → Without P xs ys → Without Q xs ys
without-more P Q w [] ys h = h
without-more P Q w (x ∷ xs) ys (inl h) = inl (w x h.0, without-more P Q w xs ys h.1)
without-more P Q w (x ∷ xs) ys (inr h) = inr (h.0, h.1, without-more P Q w xs h.0 h.2)

-- some at the head are left out, or stay
pub without-left : {A : Type 0} (P : A → Type 0) (bs xs ys : List A) → AllByRecursion P bs → Without P xs ys → Without P (bs ++ xs) ys
without-left P [] xs ys all h = h
without-left P (a ∷ bs) xs ys all h = inl (all.0, without-left P bs xs ys all.1 h)

pub without-kept : {A : Type 0} (P : A → Type 0) (bs xs ys : List A) → Without P xs ys → Without P (bs ++ xs) (bs ++ ys)
without-kept P [] xs ys h = h
without-kept P (a ∷ bs) xs ys h = inr (bs ++ ys, refl, without-kept P bs xs ys h)

-- the same at the end
pub without-after : {A : Type 0} (P : A → Type 0) (xs ys bs : List A) → Without P xs ys → Without P (xs ++ bs) (ys ++ bs)
without-after P [] ys bs h = rw h (without-refl P bs)
without-after P (x ∷ xs) ys bs (inl h) = inl (h.0, without-after P xs ys bs h.1)
without-after {A = A} P (x ∷ xs) ys bs (inr h) = inr (h.0 ++ bs, ap (λ (t : List A). t ++ bs) h.1, without-after P xs h.0 bs h.2)

pub both-nil : {A : Type 0} (f m : List A) → f ++ m ≡ [] → (f ≡ []) × (m ≡ [])
both-nil [] m e = (refl, e)
both-nil (x ∷ f) m e = (cc)

-- one after the other, where the first gives f and hands m on
pub without-then : {A : Type 0} (P Q R : A → Type 0) (p : (x : A) → P x → R x) (q : (x : A) → Q x → R x) (a o f m r : List A) → Without P a (f ++ m) → Without Q (m ++ o) r → Without R (a ++ o) (f ++ r)
without-then P Q R p q [] o f m r h k =
    let e = both-nil f m h in rw (e.0) (without-more Q R q o r (rw (e.1) at k))
without-then P Q R p q (x ∷ a) o f m r (inl h) k = inl (p x h.0, without-then P Q R p q a o f m r h.1 k)
without-then P Q R p q (x ∷ a) o [] m r (inr h) k =
    elim (rw (h.1) at k) [
      | inl t ↦ inl (q x t.0, without-then P Q R p q a o [] h.0 r h.2 t.1)
      | inr t ↦ inr (t.0, t.1, without-then P Q R p q a o [] h.0 t.0 h.2 t.2)
    ]
without-then {A = A} P Q R p q (x ∷ a) o (y ∷ f) m r (inr h) k =
    let same : y ≡ x = cc (h.1) in let rest : f ++ m ≡ h.0 = cc (h.1) in
    inr (f ++ r, ap (λ (z : A). z ∷ (f ++ r)) same, without-then P Q R p q a o f m r (rw (← rest) at (h.2)) k)

pub append-nil : {A : Type 0} (xs : List A) → xs ++ [] ≡ xs
append-nil [] = refl
append-nil {A = A} (x ∷ xs) = ap (λ (t : List A). x ∷ t) (append-nil xs)

-- of the ends of a chain of two
pub without-trans : {A : Type 0} (P Q R : A → Type 0) (p : (x : A) → P x → R x) (q : (x : A) → Q x → R x) (xs ys zs : List A) → Without P xs ys → Without Q ys zs → Without R xs zs
without-trans P Q R p q xs ys zs h k = rw append-nil at (without-then P Q R p q xs [] [] ys zs h (rw (← append-nil ys) at k))

pub nothing-left : {A : Type 0} (P : A → Type 0) (xs ys : List A) → xs ≡ [] → Without P xs ys → ys ≡ []
nothing-left P xs ys none h = rw none at h

-- ---- the calls
pub chosen-append : {A : Type 0} (p : Entry → List A) (es fs : Entries) → chosen p (es ++ fs) ≡ chosen p es ++ chosen p fs
chosen-append p [] fs = refl
chosen-append p (e ∷ es) fs = rw (chosen-append p es fs, append_assoc (p e.1) (chosen p es) (chosen p fs)) refl

pub chosen-offered : {A : Type 0} (p : Entry → List A) (place : ℕ) (c : Delivery) (es : Entries) → p (waiting_entry c) ≡ [] → chosen p (es ++ (place, waiting_entry c) ∷ []) ≡ chosen p es
chosen-offered p place c es none = rw (chosen-append p es ((place, waiting_entry c) ∷ []), none) (append-nil (chosen p es))

pub chosen-dropped : {A : Type 0} (p : Entry → List A) (id : ℕ) (x : Entry) (es : Entries) → find_id id es ≡ Some x → p x ≡ [] → chosen p (drop_id id es) ≡ chosen p es
chosen-dropped p id x [] is none = refl
chosen-dropped {A = A} p id x (e ∷ es) is none = elim (cases_Bool (has_id id e.1)) [
  | inl h ↦ let f : Some e.1 ≡ Some x = rw h at is in let g : e.1 ≡ x = cc in rw (h, g, none) refl
  | inr h ↦ rw h (ap (λ (t : List A). p e.1 ++ t) (chosen-dropped p id x es (rw h at is) none))
]

-- what the dropped entry gives is left out
pub without-dropped : {A : Type 0} (P : A → Type 0) (p : Entry → List A) (id : ℕ) (x : Entry) (es : Entries) → find_id id es ≡ Some x → AllByRecursion P (p x) → Without P (chosen p es) (chosen p (drop_id id es))
without-dropped P p id x [] is all = refl
without-dropped P p id x (e ∷ es) is all = elim (cases_Bool (has_id id e.1)) [
  | inl h ↦ let f : Some e.1 ≡ Some x = rw h at is in let g : e.1 ≡ x = cc in rw (h, g) (without-left P (p x) (chosen p es) (chosen p es) all (without-refl P (chosen p es)))
  | inr h ↦ rw h (without-kept P (p e.1) (chosen p es) (chosen p (drop_id id es)) (without-dropped P p id x es (rw h at is) all))
]

pub chosen-written : {A : Type 0} (p : Entry → List A) (f : Entry → Entry) (id : ℕ) (x : Entry) (es : Entries) → find_id id es ≡ Some x → p (f x) ≡ p x → chosen p (write_id f id es) ≡ chosen p es
chosen-written p f id x [] is same = refl
chosen-written {A = A} p f id x (e ∷ es) is same = elim (cases_Bool (has_id id e.1)) [
  | inl h ↦ let g : Some e.1 ≡ Some x = rw h at is in let k : e.1 ≡ x = cc in rw (h, k, same) refl
  | inr h ↦ rw h (ap (λ (t : List A). p e.1 ++ t) (chosen-written p f id x es (rw h at is) same))
]

pub without-written : {A : Type 0} (P : A → Type 0) (p : Entry → List A) (f : Entry → Entry) (id : ℕ) (x : Entry) (es : Entries) → find_id id es ≡ Some x → p (f x) ≡ [] → AllByRecursion P (p x) → Without P (chosen p es) (chosen p (write_id f id es))
without-written P p f id x [] is none all = refl
without-written P p f id x (e ∷ es) is none all = elim (cases_Bool (has_id id e.1)) [
  | inl h ↦ let g : Some e.1 ≡ Some x = rw h at is in let k : e.1 ≡ x = cc in rw (h, k, none) (without-left P (p x) (chosen p es) (chosen p es) all (without-refl P (chosen p es)))
  | inr h ↦ rw h (without-kept P (p e.1) (chosen p es) (chosen p (write_id f id es)) (without-written P p f id x es (rw h at is) none all))
]

-- also where another part is taken of what is away
pub chosen-away : {A : Type 0} (p q : Entry → List A) → ((x : Entry) → p (record x { here = false }) ≡ q x) → (es : Entries) → chosen p (away es) ≡ chosen q es
chosen-away p q same [] = refl
chosen-away p q same (e ∷ es) = rw (same e.1, chosen-away p q same es) refl

pub chosen-resent : {A : Type 0} (p : Entry → List A) (now limit : ℕ) → ((x : Entry) → is_owed x ≡ true → p x ≡ []) → ((x : Entry) → is_owed x ≡ true → p (record x { here = true }) ≡ []) → (es : Entries) → chosen p (after_resend now limit es) ≡ chosen p es
chosen-resent p now limit none then [] = refl
chosen-resent {A = A} p now limit none then (e ∷ es) = elim (cases_Bool (is_owed e.1)) [
  | inl h ↦ elim (cases_Bool (fits now limit e.1.delivery)) [
    | inl g ↦ rw (h, g, none e.1 h, then e.1 h) refl
    | inr g ↦ rw (h, g, none e.1 h) (chosen-resent p now limit none then es)
  ]
  | inr h ↦ rw h (ap (λ (t : List A). p e.1 ++ t) (chosen-resent p now limit none then es))
]

-- what is too large to be sent again is left out
pub without-resent : {A : Type 0} (P : A → Type 0) (p : Entry → List A) (now limit : ℕ) → ((x : Entry) → p (record x { here = true }) ≡ p x) → ((x : Entry) → fits now limit x.delivery ≡ false → AllByRecursion P (p x)) → (es : Entries) → Without P (chosen p es) (chosen p (after_resend now limit es))
without-resent P p now limit same all [] = refl
without-resent P p now limit same all (e ∷ es) = elim (cases_Bool (is_owed e.1)) [
  | inl h ↦ elim (cases_Bool (fits now limit e.1.delivery)) [
    | inl g ↦ rw (h, g, same e.1) (without-refl P (p e.1 ++ chosen p es))
    | inr g ↦ rw (h, g) (without-left P (p e.1) (chosen p es) (chosen p (after_resend now limit es)) (all e.1 g) (without-resent P p now limit same all es))
  ]
  | inr h ↦ rw h (without-kept P (p e.1) (chosen p es) (chosen p (after_resend now limit es)) (without-resent P p now limit same all es))
]

pub chosen-sent : {A : Type 0} (p : Entry → List A) (now limit id : ℕ) → ((x : Entry) → waits x.stage ≡ true → p x ≡ []) → ((x : Entry) → p (as_published id x) ≡ []) → (es : Entries) → chosen p (after_send now limit id es) ≡ chosen p es
chosen-sent p now limit id none then [] = refl
chosen-sent {A = A} p now limit id none then (e ∷ es) = elim (cases_Bool (waits e.1.stage)) [
  | inl h ↦ elim (cases_Bool (is_sendable now limit e.1.delivery)) [
    | inl g ↦ rw (h, g, none e.1 h, then e.1) refl
    | inr g ↦ rw (h, g, none e.1 h) (chosen-sent p now limit id none then es)
  ]
  | inr h ↦ rw h (ap (λ (t : List A). p e.1 ++ t) (chosen-sent p now limit id none then es))
]

pub chosen-none_sent : {A : Type 0} (p : Entry → List A) (now limit id : ℕ) → ((x : Entry) → waits x.stage ≡ true → p x ≡ []) → (es : Entries) → first_waiting now limit es ≡ None → chosen p (after_send now limit id es) ≡ chosen p es
chosen-none_sent p now limit id none [] is = refl
chosen-none_sent {A = A} p now limit id none (e ∷ es) is = elim (cases_Bool (waits e.1.stage)) [
  | inl h ↦ elim (cases_Bool (is_sendable now limit e.1.delivery)) [
    | inl g ↦ (let bad : Some e.1.delivery ≡ None = rw (h, g) at is in cc)
    | inr g ↦ rw (h, g, none e.1 h) (chosen-none_sent p now limit id none es (rw (h, g) at is))
  ]
  | inr h ↦ rw h (ap (λ (t : List A). p e.1 ++ t) (chosen-none_sent p now limit id none es (rw h at is)))
]
