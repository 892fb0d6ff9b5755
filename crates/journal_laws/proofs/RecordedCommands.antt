-- The recorded commands of a past, oldest first.
use Rattle.std.proofs.Common.{◌≡◌, List, [], ◌∷◌, ◌++◌, map, length, ◌∙◌}
use Rattle.std.proofs.lemmas.List.{reverse-append, length-reverse, length-map}
use Rattle.flat_model.specs.Command.{Command}
use Rattle.flat_model.specs.State.{State}
use Rattle.undo_journal.specs.Answer.{recorded_commands}

pub newest_is_last : (c : Command) (s : State) (past : List (Command × State)) → recorded_commands ((c, s) ∷ past) ≡ recorded_commands past ++ c ∷ []
newest_is_last c s past = reverse-append (c ∷ []) (map (λ e. e.0) past)

pub as_many : (past : List (Command × State)) → length (recorded_commands past) ≡ length past
as_many past = length-reverse (map (λ e. e.0) past) ∙ length-map past (λ e. e.0)
