-- The answers of a shell with a history or without. Without one, each line is answered by the machine as it is, whose past is then emptied.
use Rattle.std.specs.Prelude.{ℕ, Bool, true, false, List, [], ◌∷◌, ◌++◌}
use Rattle.flat_model.specs.Trace.{Line, read_trace}
use Rattle.trace_talk.specs.Points.{Point, answers_on, point_after, start_point, without_past}

-- what remains after a line: everything with a history, all but the past without one
abbrev pub remembered : Bool → Point → Point
remembered true p = p
remembered false p = without_past p

-- without a history: the state after these lines, and the answers to them
abbrev pub forgetful_after : Point → List Line → Point
forgetful_after p [] = p
forgetful_after p (line ∷ lines) = forgetful_after (without_past (point_after p (line ∷ []))) lines

abbrev pub forgetful_answers : Point → List Line → List ℕ
forgetful_answers p [] = []
forgetful_answers p (line ∷ lines) = answers_on p (line ∷ []) ++ forgetful_answers (without_past (point_after p (line ∷ []))) lines

-- by whether a history is remembered: the state after these lines, and the answers to them
abbrev pub after_by : Bool → Point → List Line → Point
after_by true p lines = point_after p lines
after_by false p lines = forgetful_after p lines

abbrev pub answers_by : Bool → Point → List Line → List ℕ
answers_by true p lines = answers_on p lines
answers_by false p lines = forgetful_answers p lines

-- from the start: the output for a text; with a history it is the output of a replay, `answers` of `flat_model`
abbrev pub output_of : Bool → List ℕ → List ℕ
output_of history text = answers_by history start_point (read_trace text)

-- how many of its lines are answered `refused`
abbrev pub refused_of : Bool → List ℕ → ℕ
refused_of history text = (after_by history start_point (read_trace text)).refused
