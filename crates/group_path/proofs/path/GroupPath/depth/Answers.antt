use Rattle.std.proofs.Common.{List, ℕ, ◌%◌, ◌^◌, length, count_by, ap, ◌∙◌, arith}
use Rattle.flat_model.specs.PathText.{is_slash}
use Rattle.group_path.proofs.Depths.{slashes_are}
use Rattle.group_path.proofs.path.GroupPath.depth.Goals as goal

pub returns-then-text-gt1 : goal.returns-then-text-gt1
returns-then-text-gt1 g c =
    slashes_are c.self.inside.text c.args.self.now c.from.result c.self.view_is c.self.invariant
    (omega (arith, c.if-text-gt1.true, ap (λ (x : List ℕ). length x) c.as_slice-text.ensures))
    (c.from.ensures ∙ c.slashes.ensures ∙ ap (λ (x : List ℕ). count_by is_slash x % 2 ^ 8) c.as_slice-text.ensures)
