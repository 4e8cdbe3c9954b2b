-- What a body reads is what is spelled, for each way to make a body of others.
use Rattle.std.proofs.Common.{◌≡◌, ℕ, zero, suc, ◌+◌, ◌<◌, ◌≤◌, ◌⊎◌, inl, inr, Bool, true, false, cond, eqb, List, [], ◌∷◌, ◌++◌, length, get_or, Option, Some, None, Result, Ok, Err, refl, sym, ap, subst, ◌∙◌, append_assoc, arith}
use Rattle.std.specs.Prelude.{IsTrue, ◌==◌, flat_map}
use Rattle.std.specs.List.{AllByRecursion}
use Rattle.std.proofs.lemmas.Bool.{eqb-true}
use Rattle.std.proofs.lemmas.Option.{same_Some}
use Rattle.std.proofs.lemmas.List.{append-nil, nil_from_length, length-append}
use Rattle.std.proofs.lemmas.List.Concat.{flat_map-cons}
use Rattle.mqtt_fields.specs.declared.fault.FieldFault.{FieldFault}
use Rattle.mqtt_fields.specs.Reading.{◌>>=◌}
use Rattle.mqtt_fields.specs.Field.{Field}
use Rattle.mqtt_fields.proofs.Laws.{IsBytes, IsBytes-after, IsField, bind_ok, guard_passed, ok_is}
use Rattle.mqtt_packets.specs.declared.fault.PacketFault.{PacketFault}
use Rattle.mqtt_packets.specs.declared.fault.PacketFault.TheVariants.{Malformed}
use Rattle.mqtt_packets.specs.declared.fault.PacketFault.TheVariants as faults
use Rattle.mqtt_packets.specs.Reading.{Fails, packet_fault, in_packet, field_at}
use Rattle.mqtt_packets.specs.Body.{Body, payload, only, then_, given, or_none, or_none_of, where_, many_at, many, valid, as_}

pub record IsBody {A : Type 0} (f : Body A) : Type 0 where
  pub found : (bs : List ℕ) (a : A) → IsBytes bs → f.of bs ≡ Ok a → f.Spells bs a
  pub reads : (bs : List ℕ) (a : A) → f.Spells bs a → f.of bs ≡ Ok a
  pub fits : (bs : List ℕ) (a : A) → f.Spells bs a → f.Fits a
  pub writes : (a : A) → f.Fits a → f.Spells (f.bytes a) a
  pub shortest : (bs : List ℕ) (a : A) → f.Spells bs a → length (f.bytes a) ≤ length bs

pub field_ok : {A : Type 0} (r : Result A FieldFault) (x : A) → in_packet r ≡ Ok x → r ≡ Ok x
field_ok (Ok y) x e = ap (λ (z : _). Ok z) (ok_is y x e)
field_ok (Err f) x e = absurd cc

pub payload_is : IsBody payload
payload_is = record { found = λ bs a fits e. ok_is bs a e; reads = λ bs a h. ap (λ (x : List ℕ). Ok x) h; fits = λ bs a h. tt; writes = λ a h. refl; shortest = λ bs a h. omega (arith, ap length h) }

pub only_is : {A : Type 0} (f : Field A) → IsField f → IsBody (only f)
only_is {A} f F = record {
  found = λ bs x fits e.
      let a = bind_ok (field_at f bs) (λ a. cond (length a.1 == 0) (Ok a.0) (Err Malformed)) x e in
      let g = guard_passed (length a.0.1 == 0) Malformed a.0.0 x a.2 in
      let t = F.takes bs a.0 fits (field_ok (f.at bs) a.0 a.1) in
      let none : a.0.1 ≡ [] = nil_from_length a.0.1 (eqb-true _ _ g.0) in
      subst (λ (y : A). (bs ≡ f.bytes y) × f.Fits y) g.1 (t.0 ∙ ap (λ (r : List ℕ). f.bytes a.0.0 ++ r) none ∙ append-nil (f.bytes a.0.0), t.1);
  reads = λ bs x h.
      let again : f.at bs ≡ Ok (x, []) = ap f.at (h.0 ∙ sym (append-nil (f.bytes x))) ∙ F.again x [] h.1 in
      rw again refl;
  fits = λ bs x h. h.1;
  writes = λ x h. (refl, h);
  shortest = λ bs x h. omega (arith, ap length h.0);
}

pub then_is : {A B : Type 0} (f : Field A) (g : A → Body B) → IsField f → ((a : A) → IsBody (g a)) → IsBody (then_ f g)
then_is {A} {B} f g F G = record {
  found = λ bs x fits e.
      let a = bind_ok (field_at f bs) (λ a. (g a.0).of a.1 >>= λ b. Ok (a.0, b)) x e in
      let b = bind_ok ((g a.0.0).of a.0.1) (λ b. Ok (a.0.0, b)) x a.2 in
      let t = F.takes bs a.0 fits (field_ok (f.at bs) a.0 a.1) in
      let s = (G a.0.0).found a.0.1 b.0 (IsBytes-after bs (f.bytes a.0.0) a.0.1 fits t.0) b.1 in
      let made : A × B = (a.0.0, b.0) in
      subst (λ (y : A × B). (then_ f g).Spells bs y) (ok_is made x b.2) (a.0.1, t.0, t.1, s);
  reads = λ bs x h.
      let one : f.at bs ≡ Ok (x.0, h.0) = ap f.at h.1 ∙ F.again x.0 h.0 h.2 in
      let two = (G x.0).reads h.0 x.1 h.3 in
      rw (one, two) refl;
  fits = λ bs x h. (h.2, (G x.0).fits h.0 x.1 h.3);
  writes = λ x h. ((g x.0).bytes x.1, refl, h.0, (G x.0).writes x.1 h.1);
  shortest = λ bs x h.
      let s : length ((g x.0).bytes x.1) ≤ length h.0 = (G x.0).shortest h.0 x.1 h.3 in
      let n : length bs ≡ length (f.bytes x.0) + length h.0 = ap length h.1 ∙ length-append (f.bytes x.0) h.0 in
      omega (arith, length-append (f.bytes x.0) ((g x.0).bytes x.1));
}

pub given_is : {A : Type 0} (b : Bool) (fault : PacketFault) (f : Body A) → IsBody f → IsBody (given b fault f)
given_is true fault f F = record {
  found = λ bs x fits e. (refl, F.found bs x fits e);
  reads = λ bs x h. F.reads bs x h.1;
  fits = λ bs x h. (refl, F.fits bs x h.1);
  writes = λ x h. (refl, F.writes x h.1);
  shortest = λ bs x h. F.shortest bs x h.1;
}
given_is false fault f F = record {
  found = λ bs x fits e. absurd cc;
  reads = λ bs x h. absurd cc;
  fits = λ bs x h. absurd cc;
  writes = λ x h. absurd cc;
  shortest = λ bs x h. absurd cc;
}

or_none_found : {A : Type 0} (a : A) (is_a : A → Bool) (f : Body A) (F : IsBody f) (bs : List ℕ) (x : A) → IsBytes bs → or_none_of a f bs ≡ Ok x → (or_none a is_a f).Spells bs x
or_none_found a is_a f F [] x fits e = inl (refl, sym (ok_is a x e))
or_none_found a is_a f F (b ∷ bs) x fits e = inr (omega arith, F.found (b ∷ bs) x fits e)

or_none_reads : {A : Type 0} (a : A) (is_a : A → Bool) (f : Body A) (F : IsBody f) (bs : List ℕ) (x : A) → (or_none a is_a f).Spells bs x → or_none_of a f bs ≡ Ok x
or_none_reads a is_a f F [] x (inl h) = ap (λ (y : _). Ok y) (sym h.1)
or_none_reads a is_a f F [] x (inr h) = absurd (omega (arith, h.0))
or_none_reads a is_a f F (b ∷ bs) x (inl h) = absurd cc
or_none_reads a is_a f F (b ∷ bs) x (inr h) = F.reads (b ∷ bs) x h.1

or_none_fits : {A : Type 0} (a : A) (is_a : A → Bool) (f : Body A) (F : IsBody f) (self : f.Fits a) (bs : List ℕ) (x : A) → (or_none a is_a f).Spells bs x → f.Fits x
or_none_fits a is_a f F self bs x (inl h) = subst f.Fits (sym h.1) self
or_none_fits a is_a f F self bs x (inr h) = F.fits bs x h.1

or_none_writes : {A : Type 0} (a : A) (is_a : A → Bool) (f : Body A) (F : IsBody f) (x : A) (b : Bool) → (b ≡ true → x ≡ a) → 0 < length (f.bytes x) → f.Fits x → (or_none a is_a f).Spells (cond b [] (f.bytes x)) x
or_none_writes a is_a f F x true same long fits = inl (refl, same refl)
or_none_writes a is_a f F x false same long fits = inr (long, F.writes x fits)

or_none_shortest : {A : Type 0} (a : A) (is_a : A → Bool) (f : Body A) (F : IsBody f) (bs : List ℕ) (x : A) (b : Bool) → (x ≡ a → b ≡ true) → (or_none a is_a f).Spells bs x → length (cond b [] (f.bytes x)) ≤ length bs
or_none_shortest a is_a f F bs x true is h = omega arith
or_none_shortest a is_a f F bs x false is (inl h) = let no : false ≡ true = is h.1 in absurd cc
or_none_shortest a is_a f F bs x false is (inr h) = F.shortest bs x h.1

pub or_none_is : {A : Type 0} (a : A) (is_a : A → Bool) (f : Body A) → IsBody f → ((x : A) → is_a x ≡ true → x ≡ a) → is_a a ≡ true → f.Fits a → ((x : A) → 0 < length (f.bytes x)) → IsBody (or_none a is_a f)
or_none_is a is_a f F same self fit long = record {
  found = or_none_found a is_a f F;
  reads = or_none_reads a is_a f F;
  fits = or_none_fits a is_a f F fit;
  writes = λ x h. or_none_writes a is_a f F x (is_a x) (same x) (long x) h;
  shortest = λ bs x h. or_none_shortest a is_a f F bs x (is_a x) (λ e. ap is_a e ∙ self) h;
}

pub where_is : {A B : Type 0} (b : Bool) (a : A) (f : Field A) (g : Body B) → IsField f → IsBody g → IsBody (where_ b a f g)
where_is true a f g F G = then_is f (λ _. g) F (λ _. G)
where_is {A} {B} false a f g F G = record {
  found = λ bs x fits e.
      let y = bind_ok (g.of bs) (λ y. Ok (a, y)) x e in
      let made : A × B = (a, y.0) in
      subst (λ (z : A × B). (z.0 ≡ a) × g.Spells bs z.1) (ok_is made x y.2) (refl, G.found bs y.0 fits y.1);
  reads = λ bs x h. rw (G.reads bs x.1 h.1, h.0) refl;
  fits = λ bs x h. (h.0, G.fits bs x.1 h.1);
  writes = λ x h. (h.0, G.writes x.1 h.1);
  shortest = λ bs x h. G.shortest bs x.1 h.1;
}

pub valid_is : {A : Type 0} (test : A → Bool) (fault : PacketFault) (f : Body A) → IsBody f → IsBody (valid test fault f)
valid_is {A} test fault f F = record {
  found = λ bs x fits e.
      let a = bind_ok (f.of bs) (λ a. cond (test a) (Ok a) (Err fault)) x e in
      let g = guard_passed (test a.0) fault a.0 x a.2 in
      subst (λ (y : A). f.Spells bs y × IsTrue (test y)) g.1 (F.found bs a.0 fits a.1, g.0);
  reads = λ bs x h. let t : test x ≡ true = h.1 in rw (F.reads bs x h.0, t) refl;
  fits = λ bs x h. (F.fits bs x h.0, h.1);
  writes = λ x h. (F.writes x h.0, h.1);
  shortest = λ bs x h. F.shortest bs x h.0;
}

pub as_is : {A B : Type 0} (to : A → B) (from : B → A) (f : Body A) → IsBody f → ((a : A) → f.Fits a → from (to a) ≡ a) → IsBody (as_ to from f)
as_is {A} {B} to from f F back = record {
  found = λ bs x fits e.
      let a = bind_ok (f.of bs) (λ a. Ok (to a)) x e in
      (a.0, sym (ok_is (to a.0) x a.2), F.found bs a.0 fits a.1);
  reads = λ bs x h. rw (F.reads bs h.0 h.2, h.1) refl;
  fits = λ bs x h.
      let fit = F.fits bs h.0 h.2 in
      let same : from x ≡ h.0 = ap from h.1 ∙ back h.0 fit in
      (subst f.Fits (sym same) fit, ap to same ∙ sym h.1);
  writes = λ x h. (from x, sym h.1, F.writes (from x) h.0);
  shortest = λ bs x h.
      let same : from x ≡ h.0 = ap from h.1 ∙ back h.0 (F.fits bs h.0 h.2) in
      subst (λ (a : A). length (f.bytes a) ≤ length bs) (sym same) (F.shortest bs h.0 h.2);
}
