use Rattle.std.proofs.Common.{[], ◌∷◌, List, length, ap, ◌∙◌}
use Rattle.std.specs.Prelude.{codes}
use Rattle.std.specs.Fmt.{digits}
use Rattle.flat_model.specs.Command.{Command}
use Rattle.flat_model.specs.State.{State}
use Rattle.line_engine.specs.Listings.{all_groups, history_from, lines_bytes, paths_bytes}
use Rattle.c_library.specs.Status.{listing_info, listing_status}
use Rattle.c_library.proofs.StatusLaws.{all_by_zero, no_children, no_subtree}
use Rattle.c_library.proofs.laws.lists_by_status.Goals as goal

pub returns-clause-groups : goal.returns-clause-groups
returns-clause-groups c = λ e out info new groups h.
    let s = e.engine.machine.state in
    let x = all_by_zero out (paths_bytes (all_groups s)) (47 ∷ 0 ∷ 47 ∷ 97 ∷ 0 ∷ 47 ∷ 97 ∷ 47 ∷ 98 ∷ 0 ∷ 47 ∷ 99 ∷ 0 ∷ []) (length (all_groups s)) 4 h.answer info
    (ap paths_bytes groups) (ap length groups) h.answer_is h.status_is h.info_is in
    (x.0, x.1, h.new_is)

pub returns-clause-history : goal.returns-clause-history
unfolding digits
returns-clause-history c = λ e s t out info new past h.
    let p = e.engine.machine.past in
    let x = all_by_zero out (lines_bytes (history_from p 1)) (codes "exit 2\n") (length (history_from p 1)) 1 h.answer info
    (ap (λ (q : List (Command × State)). lines_bytes (history_from q 1)) past) (ap (λ (q : List (Command × State)). length (history_from q 1)) past) h.answer_is h.status_is h.info_is in
    (x.0, x.1, h.new_is)

pub returns-clause-no_children : goal.returns-clause-no_children
returns-clause-no_children c = λ e p out status info new g h. no_children e.engine.machine.state p out h.answer status info g h.answer_is h.status_is h.info_is

pub returns-clause-no_subtree : goal.returns-clause-no_subtree
returns-clause-no_subtree c = λ e p out status info new g h. no_subtree e.engine.machine.state p out h.answer status info g h.answer_is h.status_is h.info_is

pub returns-clause-no_path : goal.returns-clause-no_path
returns-clause-no_path c = λ e f out status info new h. (h.status_is ∙ ap listing_status h.answer_is, h.info_is ∙ ap listing_info h.answer_is)

pub returns-clause-closed : goal.returns-clause-closed
returns-clause-closed c = λ out status info new h. (h.0, h.2)
