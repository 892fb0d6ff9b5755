use Rattle.flat_model.proofs.AuditSound.{sound_more, sound_last}
use Rattle.flat_model_laws.proofs.AuditLaws.{no_stranger_next, next_no_stranger}
use Rattle.flat_model_laws.proofs.audits.stranger_or_next.Goals as goal

pub returns-clause-follows : goal.returns-clause-follows
returns-clause-follows c = λ n log before h sound known is. sound_more n log before h sound (no_stranger_next n log before h known is)

pub returns-clause-no_stranger : goal.returns-clause-no_stranger
returns-clause-no_stranger c = λ n log before h sound strange. next_no_stranger n log before h (sound_last n log before h sound) strange
