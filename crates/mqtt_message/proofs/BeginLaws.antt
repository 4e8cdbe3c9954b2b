-- What begins with a message begins with a string.
use Rattle.std.proofs.Common.{◌≡◌, List, ℕ, Result, Ok, Err, refl}
use Rattle.std.specs.Prelude.{IsOk}
use Rattle.mqtt_fields.specs.declared.fault.FieldFault.{FieldFault}
use Rattle.mqtt_fields.specs.Reading.{◌>>=◌}
use Rattle.mqtt_fields.specs.Numbers.{text}
use Rattle.mqtt_message.specs.declared.message.Message.{Message}
use Rattle.mqtt_message.specs.Parts.{name}
use Rattle.mqtt_message.specs.Spellings.{message}

-- what is read on was read
first_ok : {A B : Type 0} (r : Result A FieldFault) (f : A → Result B FieldFault) (x : B) → (r >>= f) ≡ Ok x → IsOk r
first_ok (Ok a) f x e = refl
first_ok (Err fault) f x e = absurd cc

ok_of : {A : Type 0} (r : Result A FieldFault) → IsOk r → (x : A) × (r ≡ Ok x)
ok_of (Ok a) ok = (a, refl)
ok_of (Err fault) ok = absurd cc

pub name_begins : (bs : List ℕ) (x : List ℕ × List ℕ) → name.at bs ≡ Ok x → IsOk (text.at bs)
name_begins bs x e = first_ok (text.at bs) _ x e

pub message_begins : (bs : List ℕ) (x : Message × List ℕ) → message.at bs ≡ Ok x → IsOk (text.at bs)
unfolding message
message_begins bs x e =
    let inner = ok_of _ (first_ok _ _ x e) in
    let front = ok_of (name.at bs) (first_ok (name.at bs) _ inner.0 inner.1) in
    name_begins bs front.0 front.1

pub ruleset begins = (name_begins, message_begins)
