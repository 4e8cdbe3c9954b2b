-- More bytes behind a context change nothing of what was read.
use Rattle.std.proofs.Common.{ℕ, zero, suc, Bool, true, false, cond, List, ◌++◌, Option, Some, None, Result, Ok, Err, refl}
use Rattle.std.specs.Int.{w16, w32, w64}
use Rattle.mqtt_fields.specs.declared.fault.FieldFault.{FieldFault}
use Rattle.mqtt_fields.specs.declared.fault.FieldFault.TheVariants.{Short, Malformed, Repeated, NotHere, NoMemory}
use Rattle.mqtt_fields.specs.Reading.{◌>>=◌}
use Rattle.mqtt_fields.specs.Field.{after, IsGrown, IsSteady}
use Rattle.mqtt_fields.specs.Numbers.{number}
use Rattle.mqtt_fields.proofs.SteadyLaws.{number_steady, after_steady, seen_steady}
use Rattle.causal_context.specs.declared.ranges.Range.{Range}
use Rattle.causal_context.specs.Ranges.{set_of}
use Rattle.causal_context.specs.Spelling.{range, ranges, context, ranges_at, with_first, may_follow}

-- a step after another
grown_bind : {A B : Type 0} (more : List ℕ) (r longer : Result (A × List ℕ) FieldFault) (next : A × List ℕ → Result (B × List ℕ) FieldFault)
    → IsGrown more r longer → ((a : A × List ℕ) → IsGrown more (next a) (next (a.0, a.1 ++ more))) → IsGrown more (r >>= next) (longer >>= next)
grown_bind more (Ok x) longer next g h = rw g (h x)
grown_bind more (Err Short) longer next g h = tt
grown_bind more (Err Malformed) longer next g h = rw g refl
grown_bind more (Err Repeated) longer next g h = rw g refl
grown_bind more (Err NotHere) longer next g h = rw g refl
grown_bind more (Err NoMemory) longer next g h = rw g refl

range_steady : IsSteady range
range_steady = seen_steady (λ x. record { node = x.0; first = x.1.0; last = x.1.1 }) (λ r. (r.node, (r.first, r.last))) (after (number w16) (λ _. after (number w64) (λ _. number w64)))
    (after_steady (number w16) (λ _. after (number w64) (λ _. number w64)) (number_steady w16) (λ _. after_steady (number w64) (λ _. number w64) (number_steady w64) (λ _. number_steady w64)))

tested_more : (more : List ℕ) (b : Bool) (r longer : Result (List Range × List ℕ) FieldFault) → IsGrown more r longer → IsGrown more (cond b r (Err Malformed)) (cond b longer (Err Malformed))
tested_more more true r longer g = g
tested_more more false r longer g = refl

many_steady : (n : ℕ) (before : Option Range) (bs more : List ℕ) → IsGrown more (ranges_at n before bs) (ranges_at n before (bs ++ more))
many_steady zero before bs more = refl
many_steady (suc n) before bs more =
    grown_bind more (range.at bs) (range.at (bs ++ more)) (λ x. cond (may_follow before x.0) (ranges_at n (Some x.0) x.1 >>= with_first x.0) (Err Malformed)) (range_steady bs more)
    (λ a. tested_more more (may_follow before a.0) (ranges_at n (Some a.0) a.1 >>= with_first a.0) (ranges_at n (Some a.0) (a.1 ++ more) >>= with_first a.0)
    (grown_bind more (ranges_at n (Some a.0) a.1) (ranges_at n (Some a.0) (a.1 ++ more)) (with_first a.0) (many_steady n (Some a.0) a.1 more) (λ y. refl)))

pub context_steady : IsSteady context
unfolding context ranges
context_steady bs more =
    grown_bind more (ranges.at bs) (ranges.at (bs ++ more)) (λ x. Ok (set_of x.0, x.1))
    (grown_bind more ((number w32).at bs) ((number w32).at (bs ++ more)) (λ n. ranges_at n.0 None n.1) (number_steady w32 bs more) (λ n. many_steady n.0 None n.1 more))
    (λ x. refl)
