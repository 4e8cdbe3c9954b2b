-- What is kept under one stamp is ordered by its bytes.
use Rattle.std.proofs.Common.{◌≡◌, ℕ, List, Option, Some, None, refl, sym, ap, ◌∙◌}
use Rattle.std.specs.declared.cmp.Ordering.{Ordering}
use Rattle.std.specs.declared.cmp.Ordering.TheVariants.{Equal}
use Rattle.std.specs.Cmp.{nat_cmp_total, then_total, on_total}
use Rattle.std.specs.Cmp.Lexicographic.{slice_cmp}
use Rattle.std.specs.Ordering.{nat_cmp, ordering_then}
use Rattle.std.proofs.lemmas.Cmp.{tied_itself}
use Rattle.mqtt_message.specs.declared.message.Message.{Message}
use Rattle.mqtt_message.specs.Spelling.{OptionalFits, optional_bytes}
use Rattle.mqtt_message.specs.Spellings.{message}
use Rattle.mqtt_message.proofs.EncodingLaws.{encodings_compare}
use Rattle.replica_store.specs.declared.kept.Kept.{Kept}
use Rattle.replica_store.specs.Stamps.{Stamp, stamp_cmp}
use Rattle.replica_store.specs.Retained.{content_cmp, kept_cmp}
use Rattle.replica_bytes.specs.Values.{kept}

same_stamp : (s : Stamp) → stamp_cmp s s ≡ Equal
same_stamp s = tied_itself (then_total (on_total (λ (s : Stamp). s.count) nat_cmp_total) (on_total (λ (s : Stamp). s.node) nat_cmp_total)) s

contents : (x y : Option Message) → OptionalFits message x → OptionalFits message y → content_cmp x y ≡ slice_cmp nat_cmp (optional_bytes message x) (optional_bytes message y)
contents None None a b = refl
contents None (Some n) a b = refl
contents (Some m) None a b = refl
contents (Some m) (Some n) a b = encodings_compare m n a b

pub by_bytes : (topic : List ℕ) (x y : Kept) → (kept topic).Fits x → (kept topic).Fits y → x.stamp ≡ y.stamp → kept_cmp x y ≡ slice_cmp nat_cmp (optional_bytes message x.message) (optional_bytes message y.message)
unfolding kept
by_bytes topic x y a b same =
    ap (λ (s : Stamp). ordering_then (stamp_cmp x.stamp s) (content_cmp x.message y.message)) (sym same)
    ∙ ap (λ (r : Ordering). ordering_then r (content_cmp x.message y.message)) (same_stamp x.stamp)
    ∙ contents x.message y.message a.1.0 b.1.0
