use Rattle.std.proofs.Common.{◌≡◌, ℕ, List, map, eqb, None, sym, subst}
use Rattle.std.specs.Prelude.{IsSome}
use Rattle.std.specs.List.{All, IsDistinct}
use Rattle.std.specs.FinMap.{get}
use Rattle.flat_model.specs.Path.{Path}
use Rattle.undo_journal.proofs.KillUndo.{each_row, pids_of}
use Rattle.undo_journal.proofs.kill.undo_kill.Goals as goal

pub put_processes_back-requires-clause-homes : goal.put_processes_back-requires-clause-homes
put_processes_back-requires-clause-homes g c =
    each_row (λ e. IsSome (get c.args.charges.now.groups e.1)) c.as_slice.result.now
    (subst (λ (rows : List (ℕ × Path)). All (λ e. IsSome (get c.args.charges.now.groups e.1)) rows) (sym c.as_slice.ensures) c.requires.2)

pub put_processes_back-requires-clause-new : goal.put_processes_back-requires-clause-new
put_processes_back-requires-clause-new g c =
    each_row (λ e. get c.args.charges.now.home e.0
    ≡ None) c.as_slice.result.now (subst (λ (rows : List (ℕ × Path)). All (λ e. get c.args.charges.now.home e.0 ≡ None) rows)
    (sym c.as_slice.ensures) c.requires.0)

pub put_processes_back-requires-clause-apart : goal.put_processes_back-requires-clause-apart
put_processes_back-requires-clause-apart g c =
    subst (IsDistinct eqb) (pids_of c.as_slice.result.now)
    (subst (λ (rows : List (ℕ × Path)). IsDistinct eqb (map (λ e. e.0) rows)) (sym c.as_slice.ensures) c.requires.1)
