-- What the parts of values say of their spelling.
use Rattle.std.proofs.Common.{ℕ, List}
use Rattle.mqtt_topics.specs.Topics.{IsFilter}
use Rattle.replica_bytes.specs.Values.{filter}
use Rattle.mqtt_topics.proofs.Testing.{passes}

pub filter_fits : (text : List ℕ) → IsFilter text → filter.Fits text
filter_fits text f = (f.fits, passes text f)

pub ruleset fits = (filter_fits)
