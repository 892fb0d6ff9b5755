use Rattle.flat_model_laws.proofs.CommandTextLaws.{read_line-command_text, command_text_apart}
use Rattle.flat_model_laws.proofs.CommandTextLawsOnly.{read_line_only}
use Rattle.flat_model_laws.proofs.texts.command_is_read_back.Goals as goal

pub returns : goal.returns
returns c = record { read = read_line-command_text; apart = command_text_apart; only = read_line_only }
