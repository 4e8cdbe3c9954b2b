-- What may have something is read, or closed by then.
use Rattle.std.proofs.Common.{◌≡◌, ◌⊎◌, ◌&&◌, ℕ, List, [], ◌∷◌, ◌++◌, Bool, true, false, if◌then◌else◌, Option, Some, None, refl, sym, subst, inl, inr}
use Rattle.std.specs.Prelude.{◌||◌, is_none}
use Rattle.broker_sockets.specs.declared.network.Answer.{Answer}
use Rattle.broker_sockets.specs.declared.ready.Watched.{Watched}
use Rattle.broker_sockets.specs.declared.ready.Watched.TheVariants as watched
use Rattle.broker_turns.specs.declared.clients.Client.{Client}
use Rattle.broker_turns.specs.declared.lines.Line.{Line}
use Rattle.law_serving.specs.Calls.{Accepts, Accepts_link, Call, Dials, Finds, IsAmong, Lets_go, Reads, Reads_link, Settles, Tells, Through, Watches, Writes}
use Rattle.law_serving.specs.Channels.{Channel, Gift, Goes, IsNew, IsOf, IsReadOrShut, IsWritten, closes, gifts_in, given, is_same, put}

-- a client that is there and doesn't close, and a link that is there
abbrev pub IsOpen : {T : Type 0} → Option (Client T) → Type 0
IsOpen None = ⊥
IsOpen (Some client) = client.closing ≡ false

abbrev pub IsThere : {T : Type 0} → Option (Line T) → Type 0
IsThere None = ⊥
IsThere (Some line) = Unit {0}

or_none : (a b : Bool) → (a || b) ≡ false → (a ≡ false) × (b ≡ false)
or_none true b is = absurd cc
or_none false b is = (refl, is)

module _ {T : Type 0} where
  -- ---- what is given out

  put_wide : (closing : Bool) (bytes : List ℕ) (x : Channel T) → x.closing ≡ closing → (if closing then x else record x { waits = x.waits ++ bytes }).closing ≡ closing
  put_wide true bytes x is = is
  put_wide false bytes x is = is

  put_one : (its : Bool) (bytes : Option (List ℕ)) (x : Channel T) → (its && is_none bytes) ≡ false → x.closing ≡ false → (if its then put bytes x else x).closing ≡ false
  put_one true None x none wide = absurd cc
  put_one true (Some bytes) x none wide =
      let Wide : Bool → Type 0 = λ b. (if b then x else record x { waits = x.waits ++ bytes }).closing ≡ false in
      subst Wide (sym wide) (put_wide false bytes x wide)
  put_one false bytes x none wide = wide

  given_wide : (name : Watched) (gifts : List Gift) (x : Channel T) → closes name gifts ≡ false → x.closing ≡ false → (given name gifts x).closing ≡ false
  given_wide name [] x none wide = wide
  given_wide name (gift ∷ gifts) x none wide =
      let both = or_none (is_same gift.name name && is_none gift.bytes) (closes name gifts) none in
      given_wide name gifts (if is_same gift.name name then put gift.bytes x else x) both.1 (put_one (is_same gift.name name) gift.bytes x both.0 wide)

  -- ---- a call

  -- it goes on, and doesn't close
  abbrev Goes_on : Option (Channel T) → Type 0
  Goes_on o = (y : Channel T) × (o ≡ Some y) × (y.closing ≡ false)

  if_of : (its : Bool) (does : Channel T → Option (Channel T) → Type 0) (x : Channel T) (o : Option (Channel T)) → x.closing ≡ false → IsOf its does (Some x) o → (its ≡ true) ⊎ Goes_on o
  if_of true does x o wide is = inl refl
  if_of false does x o wide is = inr (x, is, wide)

  if_new : (its : Bool) (stream : T) (x : Channel T) (o : Option (Channel T)) → x.closing ≡ false → IsNew its stream (Some x) o → Goes_on o
  if_new true stream x o wide is = absurd cc
  if_new false stream x o wide is = (x, is, wide)

  if_written : (its : Bool) (stream : T) (offered : List ℕ) (answer : Answer) (after : T) (x : Channel T) (o : Option (Channel T)) → x.closing ≡ false → IsOf its (IsWritten stream offered answer after) (Some x) o → Goes_on o
  if_written true stream offered answer after x o wide is = (_, is.now, wide)
  if_written false stream offered answer after x o wide is = (x, is, wide)

  if_told : (name : Watched) (gifts : List Gift) (shuts : Bool) (x : Channel T) (o : Option (Channel T)) → closes name gifts ≡ shuts → x.closing ≡ false → o ≡ Some (given name gifts x) → (closes name gifts ≡ true) ⊎ Goes_on o
  if_told name gifts true x o is wide now = inl is
  if_told name gifts false x o is wide now = inr (given name gifts x, now, given_wide name gifts x is wide)

  one_call : (name : Watched) (call : Call T) (x : Channel T) (o : Option (Channel T)) → x.closing ≡ false → Goes name call (Some x) o → IsReadOrShut name call ⊎ Goes_on o
  one_call name (Accepts stream) x o wide is = inr (x, is, wide)
  one_call name (Accepts_link stream) x o wide is = inr (x, is, wide)
  one_call name (Dials address stream) x o wide is = inr (x, is, wide)
  one_call name (Watches other stream answer) x o wide is = inr (if_new (answer && is_same other name) stream x o wide is)
  one_call name (Reads key stream answer bytes after) x o wide is = if_of (is_same (watched.Client key) name) _ x o wide is
  one_call name (Reads_link other stream answer bytes frames goes_on after) x o wide is = if_of (is_same other name) _ x o wide is
  one_call name (Writes other stream offered answer after) x o wide is = inr (if_written (is_same other name) stream offered answer after x o wide is)
  one_call name (Lets_go other asked) x o wide is = if_of (is_same other name) _ x o wide is
  one_call name (Finds ready) x o wide is = inr (x, is, wide)
  one_call name (Tells told) x o wide is = if_told name (gifts_in told) (closes name (gifts_in told)) x o refl wide is.1
  one_call name Settles x o wide is = inr (x, is, wide)

  -- over calls: it is read or shut by one of them, or goes on
  pub goes_on_or : (name : Watched) (calls : List (Call T)) (x : Channel T) (o : Option (Channel T)) → x.closing ≡ false → Through (Goes name) calls (Some x) o → IsAmong (IsReadOrShut name) calls ⊎ Goes_on o
  goes_on_or name [] x o wide same = inr (x, same, wide)
  goes_on_or name (call ∷ calls) x o wide all = next (one_call name call x all.0 wide all.1) (λ y is wide_still. goes_on_or name calls y o wide_still (moved y is))
    where
      moved : (y : Channel T) → all.0 ≡ Some y → Through (Goes name) calls (Some y) o
      moved y is = let From : Option (Channel T) → Type 0 = λ v. Through (Goes name) calls v o in subst From is all.2

      next : IsReadOrShut name call ⊎ Goes_on all.0 → ((y : Channel T) → all.0 ≡ Some y → y.closing ≡ false → IsAmong (IsReadOrShut name) calls ⊎ Goes_on o) → IsAmong (IsReadOrShut name) (call ∷ calls) ⊎ Goes_on o
      next (inl here) rest = inl (inl here)
      next (inr on) rest = elim (rest on.0 on.1 on.2) [
        | inl later ↦ inl (inr later)
        | inr still ↦ inr still
      ]
