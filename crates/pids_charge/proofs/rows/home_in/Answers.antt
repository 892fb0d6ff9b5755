use Rattle.std.proofs.Common.{◌≡◌, Result, Ok, Err, MatchResult, IfOk, sym, ◌∙◌}
use Rattle.flat_model.specs.Path.{Path}
use Rattle.flat_model.proofs.PathLaws.{same_path_is}
use Rattle.pids_charge.proofs.rows.home_in.Goals as goal

-- a path that shares the text of an equal path is that path
equal : {E : Type 0} (Q : E → Type 0) (r : Result Path E) (home path : Path) → MatchResult r (λ p. p ≡ home) Q → home ≡ path → IfOk r (λ p. p ≡ path)
equal Q (Ok p) home path is e = is ∙ e
equal Q (Err x) home path is e = tt

pub returns-then-is_same : goal.returns-then-is_same
returns-then-is_same g c =
    equal _ c.share.result c.in-Some.home.now c.args.path.now c.share.ensures
    ((same_path_is c.in-Some.home.now c.args.path.now).0 (sym c.is_same.ensures ∙ c.if-is_same.true))
