use Rattle.std.proofs.Common.{◌<◌, Some, None, Option, List, length, get_or, arith, sym, ap, ◌∙◌}
use Rattle.flat_model.specs.Path.{Path}
use Rattle.flat_model.proofs.PathLaws.{same_path_is}
use Rattle.pids_charge.proofs.InRows.{read_inside}
use Rattle.pids_charge.proofs.hints.KeptPaths.keeps.Goals as goal

pub returns-in-Some : goal.returns-in-Some
returns-in-Some g c = λ t.
    let items = c.self.inside.paths.items in
    let listed : c.args.row < length items = omega (arith, c.if-at-len.true, c.len.ensures, c.from-at.ensures, c.self.inside.paths.ok) in
    ap (λ (paths : List (Option Path)). get_or paths c.args.row None) (sym c.self.view_is)
    ∙ read_inside items c.args.row None c.index.result.now listed
    ∙ ap (λ k. get_or items k c.index.result.now) (sym c.from-at.ensures) ∙ sym c.index.ensures ∙ c.in-Some.is
    ∙ ap Some ((same_path_is c.in-Some.kept c.args.path.now).0 (sym c.is_same.ensures ∙ t))
