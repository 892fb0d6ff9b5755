-- Lines in two parts, with a history or without: the answers and the state after the second continue from where the first leaves them.
use Rattle.std.proofs.Common.{◌≡◌, ◌∙◌, ◌+◌, Bool, true, false, List, [], ◌∷◌, ◌++◌, append_assoc, append-nil, refl, sym, ap, arith}
use Rattle.flat_model.proofs.Sums.{count_by-cons}
use Rattle.flat_model.specs.Replies.{command_count, is_numbered}
use Rattle.flat_model.specs.Trace.{Line}
use Rattle.trace_talk.specs.Points.{Point, answers_on, point_after, without_past}
use Rattle.trace_talk.proofs.PointCuts.{answers_on_cut, point_cut}
use Rattle.shell_main.specs.Forgetful.{after_by, answers_by, forgetful_after, forgetful_answers, remembered}

pub forgetful_after_cut : (p : Point) (a b : List Line) → forgetful_after p (a ++ b) ≡ forgetful_after (forgetful_after p a) b
forgetful_after_cut p [] b = refl
forgetful_after_cut p (line ∷ a) b = forgetful_after_cut (without_past (point_after p (line ∷ []))) a b

pub forgetful_answers_cut : (p : Point) (a b : List Line) → forgetful_answers p (a ++ b) ≡ forgetful_answers p a ++ forgetful_answers (forgetful_after p a) b
forgetful_answers_cut p [] b = refl
forgetful_answers_cut p (line ∷ a) b =
    let one = answers_on p (line ∷ []) in
    let next = without_past (point_after p (line ∷ [])) in
    ap (λ x. one ++ x) (forgetful_answers_cut next a b) ∙ sym (append_assoc one (forgetful_answers next a) (forgetful_answers (forgetful_after next a) b))

pub after_by_cut : (history : Bool) (p : Point) (a b : List Line) → after_by history p (a ++ b) ≡ after_by history (after_by history p a) b
after_by_cut true p a b = point_cut p a b
after_by_cut false p a b = forgetful_after_cut p a b

pub answers_by_cut : (history : Bool) (p : Point) (a b : List Line) → answers_by history p (a ++ b) ≡ answers_by history p a ++ answers_by history (after_by history p a) b
answers_by_cut true p a b = answers_on_cut p a b
answers_by_cut false p a b = forgetful_answers_cut p a b

-- no line, and one line
pub after_none : (history : Bool) (p : Point) → p ≡ after_by history p []
after_none true p = search arith
after_none false p = refl

pub answers_none : (history : Bool) (p : Point) → answers_by history p [] ≡ []
answers_none true p = refl
answers_none false p = refl

pub after_one : (history : Bool) (p : Point) (line : Line) → remembered history (point_after p (line ∷ [])) ≡ after_by history p (line ∷ [])
after_one true p line = refl
after_one false p line = refl

pub answers_one : (history : Bool) (p : Point) (line : Line) → answers_by history p (line ∷ []) ≡ answers_on p (line ∷ [])
answers_one true p line = refl
answers_one false p line = append-nil (answers_on p (line ∷ []))

-- each setting numbers the lines alike
pub commands_by : (history : Bool) (p : Point) (lines : List Line) → (after_by history p lines).commands ≡ p.commands + command_count lines
commands_by true p lines = refl
commands_by false p [] = omega arith
commands_by false p (line ∷ lines) =
    let rest = commands_by false (without_past (point_after p (line ∷ []))) lines in
    let one = count_by-cons is_numbered line [] in
    let all = count_by-cons is_numbered line lines in
    omega (arith, rest, one, all)
