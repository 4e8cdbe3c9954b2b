use Rattle.replica_store.proofs.Views.{live_is, cover_is, cover_below_is, count_is}
use Rattle.replica_store.proofs.Keeping.{topics_are}
use Rattle.replica_store.proofs.Seeing.{seen_is}
use Rattle.replica_store.proofs.laws.state_shows_the_operations.Goals as goal

pub returns : goal.returns
returns c = record { seen = seen_is; live = live_is; cover = cover_is; cover_below = cover_below_is; count = count_is; topics = topics_are }
