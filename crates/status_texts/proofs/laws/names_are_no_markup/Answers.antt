use Rattle.status_texts.proofs.Plain.{no_markup}
use Rattle.status_texts.proofs.laws.names_are_no_markup.Goals as goal

pub returns : goal.returns
returns c = no_markup
