use Rattle.std.proofs.Common.{◌∙◌, Some, sym, ap}
use Rattle.std.proofs.lemmas.Result.{on_ok_weaker}
use Rattle.door_log.proofs.Keeping.{grown}
use Rattle.door_log.proofs.notes.Notes.come.Goals as goal

pub returns-in-Some-Coming : goal.returns-in-Some-Coming
returns-in-Some-Coming c =
    on_ok_weaker c.put.result
    (λ is.
    grown c.args.self.now c.args.connection c.args.bytes.now c.in-Some-Coming.held c.in_ok-held-in-Some-Coming.held c.take.new.self c.put.new.self
    (sym c.in-Some-Coming.ensures.found ∙ ap Some c.in-Some-Coming.field-0-is) c.take.ensures.left c.in_ok-held-in-Some-Coming.ensures is)
    c.put.ensures
