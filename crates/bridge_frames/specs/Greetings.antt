-- The bytes of what a node says of itself where a link begins.
use Rattle.std.specs.Prelude.{ℕ, nat_eq}
use Rattle.std.specs.Int.{w16}
use Rattle.mqtt_fields.specs.declared.fault.FieldFault.TheVariants.{Malformed}
use Rattle.mqtt_fields.specs.Field.{Field, after, tested, seen}
use Rattle.mqtt_fields.specs.Numbers.{number}
use Rattle.causal_context.specs.Dots.{Dots}
use Rattle.causal_context.specs.Spelling.{context}
use Rattle.bridge_frames.specs.declared.greeting.Greeting.{Greeting}
use Rattle.bridge_frames.specs.Forwards.{got_number}

-- the format of what follows, in two bytes: 1 is the only one
abbrev pub format : Field ℕ
format = tested (λ n. nat_eq n 1) Malformed (number w16)

abbrev pub GreetingParts : Type 0
GreetingParts = ℕ × (ℕ × (ℕ × Dots))

abbrev pub greeting_of : GreetingParts → Greeting
greeting_of x = record { gone = x.1.0; took = x.1.1.0; dots = x.1.1.1 }

abbrev pub greeting_parts : Greeting → GreetingParts
greeting_parts g = (1, (g.gone, (g.took, g.dots)))

-- the format; two numbers below 2^62, of the lane to the receiver and of the lane from it; and a context
unfoldable pub greeting : Field Greeting
greeting = seen greeting_of greeting_parts (after format (λ _. after got_number (λ _. after got_number (λ _. context))))
