use Rattle.law_steps.proofs.WillLaws.{wills_are_passed_on, wills_stay_passed_on}
use Rattle.law_steps.proofs.wills.wills_are_passed_on.Goals as goal

pub returns-clause-passed : goal.returns-clause-passed
returns-clause-passed c = wills_are_passed_on

pub returns-clause-stays : goal.returns-clause-stays
returns-clause-stays c = wills_stay_passed_on
