use Rattle.status_texts.proofs.Without.{head_look_and_script_name_no_host}
use Rattle.status_texts.proofs.laws.head_look_and_script_name_no_host.Goals as goal

pub returns : goal.returns
returns c = head_look_and_script_name_no_host
