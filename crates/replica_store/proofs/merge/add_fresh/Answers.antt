use Rattle.std.proofs.Common.{◌∙◌, map as map_list}
use Rattle.std.specs.Map.Iter.{deref_pair}
use Rattle.replica_store.proofs.Keeping.{taken_back}
use Rattle.replica_store.proofs.merge.add_fresh.Goals as goal

pub returns-in-Err-clause-err : goal.returns-in-Err-clause-err
returns-in-Err-clause-err c = c.take_out.ensures ∙ taken_back c.args.topics.now c.add_some.new.topics (map_list deref_pair c.args.fresh.now) c.requires c.add_some.ensures.others
