-- A topic filter is read as it stands, and another text isn't.
use Rattle.std.proofs.Common.{◌≡◌, ◌≢◌, ℕ, List, [], Ok, Err, refl}
use Rattle.mqtt_fields.specs.declared.fault.FieldFault.TheVariants.{Malformed}
use Rattle.mqtt_topics.specs.declared.fault.TopicFault.{TopicFault}
use Rattle.mqtt_topics.specs.declared.fault.TopicFault.TheVariants.{Empty, BadShare, Wildcard, NoMemory}
use Rattle.mqtt_topics.specs.Levels.{levels, ArePlaced}
use Rattle.mqtt_topics.specs.Testing.{is_filter}
use Rattle.mqtt_topics.specs.Topics.{IsFilter, IsFilterFault, IsShared, IsShare, filter_part}
use Rattle.mqtt_topics.proofs.Testing.{by_test, tells_filter}
use Rattle.replica_bytes.specs.Values.{filter_in}

pub read_filter : (text : List ℕ) → IsFilter text → filter_in text ≡ Ok text
read_filter text f = by_test (is_filter text) _ (λ e. rw e refl) (λ e. absurd ((tells_filter text).fails e (f.some, (f.share, f.placed))))

refused : (text : List ℕ) → (((text ≢ []) × ((IsShared text → IsShare text) × ArePlaced (levels (filter_part text)))) → ⊥) → filter_in text ≡ Err Malformed
refused text against = by_test (is_filter text) _ (λ e. absurd (against ((tells_filter text).holds e))) (λ e. rw e refl)

pub bad_filter : (text : List ℕ) (fault : TopicFault) → IsFilterFault text fault → filter_in text ≡ Err Malformed
bad_filter text Empty bad = refused text (λ h. h.0 bad)
bad_filter text BadShare bad = refused text (λ h. bad.1 (h.1.0 bad.0))
bad_filter text Wildcard bad = refused text (λ h. bad.2 h.1.1)
bad_filter text NoMemory bad = absurd bad
