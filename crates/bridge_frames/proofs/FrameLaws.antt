-- Frames are read as they are spelled.
use Rattle.std.proofs.Common.{◌≡◌, ℕ, zero, suc, ◌+◌, ◌≤◌, List, [], ◌∷◌, ◌++◌, length, Bool, true, false, cond, ltb, Option, Some, None, Result, Ok, Err, refl, sym, ap, subst, ◌∙◌, append-nil, arith}
use Rattle.std.specs.Int.{to_be_bytes, w8, w16, w32}
use Rattle.std.proofs.lemmas.Bool.{cond-false, le-ltb, ltb-false}
use Rattle.mqtt_fields.specs.declared.fault.FieldFault.{FieldFault}
use Rattle.mqtt_fields.specs.declared.fault.FieldFault.TheVariants as faults
use Rattle.mqtt_fields.specs.Reading.{Fails}
use Rattle.mqtt_fields.specs.Field.{Field, IsBytes, IsField, after, seen}
use Rattle.mqtt_fields.specs.Numbers.{number, long}
use Rattle.mqtt_fields.proofs.Laws.{IsBytes-after, bind_ok, ok_is, after_is, variant_is}
use Rattle.mqtt_fields.proofs.NumberLaws.{number_is, wide8, wide16, wide32, long_is}
use Rattle.mqtt_message.proofs.SpellingLaws.{coded_is}
use Rattle.causal_context.specs.Dots.{Dots}
use Rattle.causal_context.specs.Spelling.{context}
use Rattle.causal_context.specs.Spelling as contexts
use Rattle.causal_context.proofs.SpellingLaws.{context_is}
use Rattle.replica_store.specs.States.{State}
use Rattle.replica_bytes.specs.Stores.{state}
use Rattle.replica_bytes.proofs.Wholes.{state_is}
use Rattle.bridge_frames.specs.declared.body.FrameBody.{FrameBody}
use Rattle.bridge_frames.specs.declared.body.FrameBody.TheVariants.{Hello, Delta, Know, Forward, Got}
use Rattle.bridge_frames.specs.declared.fault.LinkFault.TheVariants.{TooLarge}
use Rattle.bridge_frames.specs.declared.kind.Kind.{Kind}
use Rattle.bridge_frames.specs.declared.kind.Kind.TheVariants as kinds
use Rattle.bridge_frames.specs.Kinds.{kind, kind_in, kind_number}
use Rattle.bridge_frames.specs.Forwards.{Numbered, got_number, numbered}
use Rattle.bridge_frames.specs.Memory.{head}
use Rattle.bridge_frames.specs.declared.greeting.Greeting.{Greeting}
use Rattle.bridge_frames.specs.Greetings.{greeting}
use Rattle.bridge_frames.proofs.ForwardLaws.{got_number_is, numbered_is}
use Rattle.bridge_frames.proofs.GreetingLaws.{greeting_is}
use Rattle.bridge_frames.proofs.Seen.{seen_fits}
use Rattle.bridge_frames.specs.Frames.{Frame, limit, length_by, length_in, as_hello, as_delta, as_know, as_forward, as_got, kind_of, body, Parts, frame_of, frame_parts, content, HasSpelling, Spells, spelling, whole_of, whole, frame_of_run, frame_in}

kind_back : (n : ℕ) (k : Kind) → kind_in n ≡ Some k → kind_number k ≡ n
kind_back zero k e = absurd cc
kind_back (suc zero) k e = absurd cc
kind_back (suc (suc zero)) k e = absurd cc
kind_back (suc (suc (suc zero))) k e = (let is : k ≡ kinds.Know = sym cc in rw is refl)
kind_back (suc (suc (suc (suc zero)))) k e = (let is : k ≡ kinds.Forward = sym cc in rw is refl)
kind_back (suc (suc (suc (suc (suc zero))))) k e = (let is : k ≡ kinds.Got = sym cc in rw is refl)
kind_back (suc (suc (suc (suc (suc (suc zero)))))) k e = (let is : k ≡ kinds.Delta = sym cc in rw is refl)
kind_back (suc (suc (suc (suc (suc (suc (suc zero))))))) k e = (let is : k ≡ kinds.Hello = sym cc in rw is refl)
kind_back (suc (suc (suc (suc (suc (suc (suc (suc n)))))))) k e = absurd cc

kind_forth : (k : Kind) → kind_in (kind_number k) ≡ Some k
kind_forth kinds.Hello = refl
kind_forth kinds.Delta = refl
kind_forth kinds.Know = refl
kind_forth kinds.Forward = refl
kind_forth kinds.Got = refl

kind_is : IsField kind
kind_is = coded_is kind_in kind_number (number w8) kind_back kind_forth (number_is w8 wide8)

hello_forth : (b : FrameBody) (g : Greeting) → as_hello b ≡ Some g → Hello g ≡ b
hello_forth (Hello x) g e = (let same : x ≡ g = cc in rw same refl)
hello_forth (Delta x) g e = absurd cc
hello_forth (Know x) g e = absurd cc
hello_forth (Forward x y) g e = absurd cc
hello_forth (Got x) g e = absurd cc

delta_forth : (b : FrameBody) (s : State) → as_delta b ≡ Some s → Delta s ≡ b
delta_forth (Hello x) s e = absurd cc
delta_forth (Delta x) s e = (let same : x ≡ s = cc in rw same refl)
delta_forth (Know x) s e = absurd cc
delta_forth (Forward x y) s e = absurd cc
delta_forth (Got x) s e = absurd cc

know_forth : (b : FrameBody) (s : Dots) → as_know b ≡ Some s → Know s ≡ b
know_forth (Hello x) s e = absurd cc
know_forth (Delta x) s e = absurd cc
know_forth (Know x) s e = (let same : x ≡ s = cc in rw same refl)
know_forth (Forward x y) s e = absurd cc
know_forth (Got x) s e = absurd cc

forward_forth : (b : FrameBody) (x : Numbered) → as_forward b ≡ Some x → Forward x.0 x.1 ≡ b
forward_forth (Hello x) s e = absurd cc
forward_forth (Delta x) s e = absurd cc
forward_forth (Know x) s e = absurd cc
forward_forth (Forward n f) s e = (let made : Numbered = (n, f) in let same : made ≡ s = cc in ap (λ (y : Numbered). Forward y.0 y.1) (sym same))
forward_forth (Got x) s e = absurd cc

got_forth : (b : FrameBody) (n : ℕ) → as_got b ≡ Some n → Got n ≡ b
got_forth (Hello x) s e = absurd cc
got_forth (Delta x) s e = absurd cc
got_forth (Know x) s e = absurd cc
got_forth (Forward x y) s e = absurd cc
got_forth (Got x) s e = (let same : x ≡ s = cc in rw same refl)

body_is : (k : Kind) → IsField (body k)
body_is kinds.Hello = variant_is Hello as_hello greeting (λ _. refl) hello_forth greeting_is
body_is kinds.Delta = variant_is Delta as_delta state (λ _. refl) delta_forth state_is
body_is kinds.Know = variant_is Know as_know context (λ _. refl) know_forth context_is
body_is kinds.Forward = variant_is (λ x. Forward x.0 x.1) as_forward numbered (λ _. refl) forward_forth numbered_is
body_is kinds.Got = variant_is Got as_got got_number (λ _. refl) got_forth got_number_is

-- a body of this kind fits no other
kind_same : (k : Kind) (b : FrameBody) → (body k).Fits b → kind_of b ≡ k
kind_same kinds.Hello (Hello _) fits = refl
kind_same kinds.Hello (Delta _) fits = absurd fits
kind_same kinds.Hello (Know _) fits = absurd fits
kind_same kinds.Hello (Forward _ _) fits = absurd fits
kind_same kinds.Hello (Got _) fits = absurd fits
kind_same kinds.Delta (Hello _) fits = absurd fits
kind_same kinds.Delta (Delta _) fits = refl
kind_same kinds.Delta (Know _) fits = absurd fits
kind_same kinds.Delta (Forward _ _) fits = absurd fits
kind_same kinds.Delta (Got _) fits = absurd fits
kind_same kinds.Know (Hello _) fits = absurd fits
kind_same kinds.Know (Delta _) fits = absurd fits
kind_same kinds.Know (Know _) fits = refl
kind_same kinds.Know (Forward _ _) fits = absurd fits
kind_same kinds.Know (Got _) fits = absurd fits
kind_same kinds.Forward (Hello _) fits = absurd fits
kind_same kinds.Forward (Delta _) fits = absurd fits
kind_same kinds.Forward (Know _) fits = absurd fits
kind_same kinds.Forward (Forward _ _) fits = refl
kind_same kinds.Forward (Got _) fits = absurd fits
kind_same kinds.Got (Hello _) fits = absurd fits
kind_same kinds.Got (Delta _) fits = absurd fits
kind_same kinds.Got (Know _) fits = absurd fits
kind_same kinds.Got (Forward _ _) fits = absurd fits
kind_same kinds.Got (Got _) fits = refl

abbrev parts : Field Parts
parts = after kind (λ k. after (number w16) (λ _. after (number w16) (λ _. body k)))

parts_is : IsField parts
parts_is = after_is kind _ kind_is (λ k. after_is (number w16) _ (number_is w16 wide16) (λ _. after_is (number w16) _ (number_is w16 wide16) (λ _. body_is k)))

parts_back : (x : Parts) → parts.Fits x → frame_parts (frame_of x) ≡ x
parts_back x fits = ap (λ k. (k, x.1)) (kind_same x.0 x.1.1.1 fits.1.1.1)

pub content_is : IsField content
unfolding content
content_is = seen_fits frame_of frame_parts parts parts_back (λ _. refl) parts_is

-- ---- a field that takes all of some bytes
pub all_read : {A : Type 0} (f : Field A) → IsField f → (bs : List ℕ) (a : A) → IsBytes bs → f.at bs ≡ Ok (a, []) → (bs ≡ f.bytes a) × f.Fits a
all_read f F bs a bytes e = (let s = F.takes bs (a, []) bytes e in (s.0 ∙ append-nil (f.bytes a), s.1))

pub all_again : {A : Type 0} (f : Field A) → IsField f → (bs : List ℕ) (a : A) → f.Fits a → bs ≡ f.bytes a → f.at bs ≡ Ok (a, [])
all_again f F bs a fits is = ap (λ (xs : List ℕ). f.at xs) (is ∙ sym (append-nil (f.bytes a))) ∙ F.again a [] fits

pub few : (run : List ℕ) → length run ≤ limit → long.Fits run
few run small = omega (arith, small)

pub long_same : (a b : List ℕ) → length a ≤ limit → length b ≤ limit → long.bytes a ≡ long.bytes b → a ≡ b
long_same a b x y e =
    let one = all_again long long_is (long.bytes a) a (few a x) refl in
    let two = all_again long long_is (long.bytes a) b (few b y) e in
    let both = sym one ∙ two in
    cc

-- ---- what a reader returned, and the spelling of any value
pub rest_left : {A : Type 0} (f : Field A) → IsField f → (bs rest : List ℕ) (x : A) → f.at bs ≡ Ok (x, rest) → (length rest ≡ 0 → ⊥) → (a : A) → f.Fits a → bs ≡ f.bytes a → ⊥
rest_left {A} f F bs rest x e some a fits is =
    let again = sym (all_again f F bs a fits is) ∙ e in
    let one : A × List ℕ = (a, []) in
    let two : A × List ℕ = (x, rest) in
    let none : [] ≡ rest = ap (λ (p : A × List ℕ). p.1) (ok_is one two again) in
    some (ap length (sym none))

none_left : (rest : List ℕ) → length rest ≡ 0 → rest ≡ []
none_left [] e = refl
none_left (b ∷ bs) e = absurd (omega (arith, e))

pub none_after : {A : Type 0} (f : Field A) → IsField f → (bs rest : List ℕ) (a : A) → IsBytes bs → f.at bs ≡ Ok (a, rest) → length rest ≡ 0 → (bs ≡ f.bytes a) × f.Fits a
none_after f F bs rest a bytes e none = all_read f F bs a bytes (e ∙ ap (λ (xs : List ℕ). Ok (a, xs)) (none_left rest none))

failed_with : {A : Type 0} (f : Field A) → IsField f → (bs : List ℕ) (fault : FieldFault) → f.at bs ≡ Err fault → (a : A) → f.Fits a → bs ≡ f.bytes a → ⊥
failed_with f F bs fault e a fits is = (let again = sym (all_again f F bs a fits is) ∙ e in absurd cc)

pub not_read : {A : Type 0} (f : Field A) → IsField f → (bs : List ℕ) (fault : FieldFault) → (fault ≡ faults.NoMemory → ⊥) → Fails fault (f.at bs) → (a : A) → f.Fits a → bs ≡ f.bytes a → ⊥
not_read f F bs faults.Short other e = failed_with f F bs faults.Short e
not_read f F bs faults.Malformed other e = failed_with f F bs faults.Malformed e
not_read f F bs faults.Repeated other e = failed_with f F bs faults.Repeated e
not_read f F bs faults.NotHere other e = failed_with f F bs faults.NotHere e
not_read f F bs faults.NoMemory other e = absurd (other refl)

pub context_fits : (s : Dots) → contexts.HasSpelling s → context.Fits s
unfolding context
context_fits s has = has

pub spells : (bs run : List ℕ) (f : Frame) → bs ≡ long.bytes run → length run ≤ limit → run ≡ content.bytes f → content.Fits f → Spells bs f
spells bs run f is small same fits = record {
  is = is ∙ ap (λ (xs : List ℕ). long.bytes xs) same;
  has = record { fits = fits; small = subst (λ (xs : List ℕ). length xs ≤ limit) same small };
}

pub not_content : (bs run : List ℕ) (f : Frame) → bs ≡ long.bytes run → length run ≤ limit → Spells bs f → run ≡ content.bytes f
not_content bs run f is small spelled = long_same run (content.bytes f) small spelled.has.small (sym is ∙ spelled.is)

-- ---- the frame that bytes spell
whole_is : {A : Type 0} (r : Result (A × List ℕ) FieldFault) (a : A) → whole_of r ≡ Some a → r ≡ Ok (a, [])
whole_is (Ok (x, [])) a e = (let same : x ≡ a = cc in rw same refl)
whole_is (Ok (x, b ∷ bs)) a e = absurd cc
whole_is (Err f) a e = absurd cc

guarded : {A : Type 0} (over : Bool) (o : Option A) (a : A) → cond over None o ≡ Some a → (over ≡ false) × (o ≡ Some a)
guarded true o a e = absurd cc
guarded false o a e = (refl, e)

-- what followed the length, where a frame was read
run_read : (o : Option (List ℕ)) (f : Frame) → frame_of_run o ≡ Some f → (run : List ℕ) × (o ≡ Some run) × (length run ≤ limit) × (content.at run ≡ Ok (f, []))
run_read None f e = absurd cc
run_read (Some run) f e =
    let g = guarded (ltb limit (length run)) (whole content run) f e in
    (run, refl, ltb-false limit (length run) g.0, whole_is (content.at run) f g.1)

pub is_spelled : (bs : List ℕ) (f : Frame) → IsBytes bs → frame_in bs ≡ Some f → Spells bs f
unfolding frame_in
is_spelled bs f bytes e =
    let r = run_read (whole long bs) f e in
    let one = all_read long long_is bs r.0 bytes (whole_is (long.at bs) r.0 r.1) in
    let own : IsBytes r.0 = IsBytes-after bs (to_be_bytes w32 (length r.0)) r.0 bytes one.0 in
    let two = all_read content content_is r.0 f own r.3 in
    spells bs r.0 f one.0 r.2 two.0 two.1

pub read_again : (f : Frame) → HasSpelling f → frame_in (spelling f) ≡ Some f
unfolding frame_in
read_again f has =
    let run = content.bytes f in
    let within : ltb limit (length run) ≡ false = le-ltb limit (length run) has.small in
    let one : whole long (spelling f) ≡ Some run = ap whole_of (all_again long long_is (spelling f) run (few run has.small) refl) in
    let two : whole content run ≡ Some f = ap whole_of (all_again content content_is run f has.fits refl) in
    ap frame_of_run one ∙ cond-false (ltb limit (length run)) None (whole content run) within ∙ two

pub frame_is : (bs : List ℕ) (f : Frame) → Spells bs f → frame_in bs ≡ Some f
frame_is bs f s = ap frame_in s.is ∙ read_again f s.has

some_same : {A : Type 0} (x y : A) → Some x ≡ Some y → x ≡ y
some_same x y e = cc

pub one_frame : (bs : List ℕ) (f g : Frame) → Spells bs f → Spells bs g → f ≡ g
one_frame bs f g s t = some_same f g (sym (frame_is bs f s) ∙ frame_is bs g t)

-- bytes that spell none are read as none
pub no_frame : (bs : List ℕ) → IsBytes bs → ((f : Frame) → Spells bs f → ⊥) → frame_in bs ≡ None
no_frame bs bytes none = elim (frame_in bs) as (λ (o : Option Frame). frame_in bs ≡ o → frame_in bs ≡ None) [
  | None ↦ λ e. e
  | Some f ↦ λ e. absurd (none f (is_spelled bs f bytes e))
] refl

pub no_run : (bs : List ℕ) → IsBytes bs → ((run : List ℕ) → length run ≤ limit → bs ≡ long.bytes run → ⊥) → frame_in bs ≡ None
no_run bs bytes none = no_frame bs bytes (λ f s. none (content.bytes f) s.has.small s.is)

-- a length that is too large stands before no frame
pub too_large : (bs : List ℕ) → IsBytes bs → length_in bs ≡ Err TooLarge → frame_in bs ≡ None
too_large bs bytes e = no_run bs bytes (λ run small is.
    let read : (number w32).at bs ≡ Ok (length run, run) = ap (number w32).at is ∙ (number_is w32 wide32).again (length run) run (few run small) in
    let within : ltb limit (length run) ≡ false = le-ltb limit (length run) small in
    let fine : length_in bs ≡ Ok (Some (4 + length run)) = ap length_by read ∙ cond-false (ltb limit (length run)) (Err TooLarge) (Ok (Some (4 + length run))) within in
    absurd (let no : Err TooLarge ≡ Ok (Some (4 + length run)) = sym e ∙ fine in cc))

-- ---- what is read of the head, before the body
after_read : {A B : Type 0} (f : Field A) (g : A → Field B) (bs r s : List ℕ) (a : A) (b : B) → f.at bs ≡ Ok (a, r) → (g a).at r ≡ Ok (b, s) → (after f g).at bs ≡ Ok ((a, b), s)
after_read f g bs r s a b one two = rw (one, two) refl

pub head_read : (bs one two rest : List ℕ) (k : Kind) (from to : ℕ) → kind.at bs ≡ Ok (k, one) → (number w16).at one ≡ Ok (from, two) → (number w16).at two ≡ Ok (to, rest) → head.at bs ≡ Ok ((k, (from, to)), rest)
head_read bs one two rest k from to a b c =
    after_read kind (λ _. after (number w16) (λ _. number w16)) bs one rest k (from, to) a (after_read (number w16) (λ _. number w16) one two rest from to b c)
