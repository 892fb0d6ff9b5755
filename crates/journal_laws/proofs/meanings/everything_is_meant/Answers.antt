use Rattle.journal_laws.proofs.MeaningLaws.{command_meant, refusal_meant, reply_meant}
use Rattle.journal_laws.proofs.meanings.everything_is_meant.Goals as goal

pub returns-clause-commands : goal.returns-clause-commands
returns-clause-commands c = command_meant

pub returns-clause-refusals : goal.returns-clause-refusals
returns-clause-refusals c = refusal_meant

pub returns-clause-replies : goal.returns-clause-replies
returns-clause-replies c = reply_meant
