use Rattle.std.proofs.Common.{◌≡◌, ◌≤◌, ℕ, true, false, List, subst, length}
use Rattle.inline_bytes.specs.declared.bytes.TheConstants.{INLINE_MAX}
use Rattle.flat_model.specs.PathText.{path_text}
use Rattle.group_path.proofs.PathTexts.{text_is}
use Rattle.group_path.proofs.path.GroupPath.share.Goals as goal
use Rattle.group_path.proofs.TooLong.{too_long}

pub returns-in_err-text : goal.returns-in_err-text
returns-in_err-text g c =
    let is = text_is c.self.inside.text c.args.self.now c.self.view_is c.self.invariant in
    too_long (λ p. p ≡ c.args.self.now) c.from_residual.result (length (path_text c.args.self.now)) INLINE_MAX c.from_residual.ensures.0
    (subst (λ (x : List ℕ). length x ≤ INLINE_MAX → false ≡ true) is c.in_err-text.ensures.few)
