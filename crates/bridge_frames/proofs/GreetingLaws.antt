-- What a node says of itself is read as it is spelled.
use Rattle.std.proofs.Common.{◌≡◌, ℕ, nat_eq, List, ◌++◌, refl, sym, ap, ◌∙◌, append_assoc, arith}
use Rattle.std.specs.Int.{w16}
use Rattle.std.proofs.lemmas.Bool.{eqb-true}
use Rattle.mqtt_fields.specs.declared.fault.FieldFault.TheVariants.{Malformed}
use Rattle.mqtt_fields.specs.Field.{Field, IsField, after}
use Rattle.mqtt_fields.specs.Numbers.{number}
use Rattle.mqtt_fields.proofs.Laws.{after_is, tested_is}
use Rattle.mqtt_fields.proofs.NumberLaws.{number_is, wide16}
use Rattle.causal_context.specs.Spelling.{context}
use Rattle.causal_context.specs.Spelling as contexts
use Rattle.causal_context.proofs.SpellingLaws.{context_is}
use Rattle.bridge_frames.specs.declared.greeting.Greeting.{Greeting}
use Rattle.bridge_frames.specs.Forwards.{got_number}
use Rattle.bridge_frames.specs.Greetings.{format, GreetingParts, greeting_of, greeting_parts, greeting}
use Rattle.bridge_frames.proofs.ForwardLaws.{got_number_is}
use Rattle.bridge_frames.proofs.Seen.{seen_fits}

format_is : IsField format
format_is = tested_is (λ n. nat_eq n 1) Malformed (number w16) (number_is w16 wide16)

abbrev parts : Field GreetingParts
parts = after format (λ _. after got_number (λ _. after got_number (λ _. context)))

parts_is : IsField parts
parts_is = after_is format _ format_is (λ _. after_is got_number _ got_number_is (λ _. after_is got_number _ got_number_is (λ _. context_is)))

parts_back : (x : GreetingParts) → parts.Fits x → greeting_parts (greeting_of x) ≡ x
parts_back x fits = ap (λ (n : ℕ). (n, x.1)) (sym (eqb-true x.0 1 fits.0.1))

pub greeting_is : IsField greeting
unfolding greeting
greeting_is = seen_fits greeting_of greeting_parts parts parts_back (λ _. refl) parts_is

pub greeting_fits : (g : Greeting) → got_number.Fits g.gone → got_number.Fits g.took → contexts.HasSpelling g.dots → greeting.Fits g
unfolding greeting context
greeting_fits g gone took dots = ((omega arith, refl), (gone, (took, dots)))

-- what is appended part by part
pub greeting_written : (g : Greeting) (old a b c d : List ℕ) → a ≡ old ++ (number w16).bytes 1 → b ≡ a ++ got_number.bytes g.gone → c ≡ b ++ got_number.bytes g.took → d ≡ c ++ context.bytes g.dots → d ≡ old ++ greeting.bytes g
unfolding greeting
greeting_written g old a b c d one two three four =
    let first = (number w16).bytes 1 in
    let gone = got_number.bytes g.gone in
    let took = got_number.bytes g.took in
    let dots = context.bytes g.dots in
    let whole : d ≡ (((old ++ first) ++ gone) ++ took) ++ dots = four ∙ ap (λ xs. xs ++ dots) (three ∙ ap (λ xs. xs ++ took) (two ∙ ap (λ xs. xs ++ gone) one)) in
    whole ∙ append_assoc ((old ++ first) ++ gone) took dots ∙ append_assoc (old ++ first) gone (took ++ dots) ∙ append_assoc old first (gone ++ (took ++ dots))
