use Rattle.std.proofs.Common.{◌≡◌, ◌∙◌, ◌≤◌, ap, sym, arith, subst, length, take}
use Rattle.flat_model.specs.Path.{Path}
use Rattle.flat_model.specs.PathText.{spelled, path_text}
use Rattle.flat_model.proofs.PathTextLawsChild.{length-path_text-take}
use Rattle.group_path.proofs.PathTexts.{path_is, short_front, length_is}
use Rattle.group_path.proofs.path.GroupPath.prefix_len.Goals as goal

pub loop-name-init : goal.loop-name-init
loop-name-init g c =
    let is = ap (λ (p : Path). length (spelled p)) (c.into_iter-name-iterator.ensures.into_iter_gives ∙ c.first_names-name-items.ensures) in
    (tt, tt, omega arith, short_front c.args.n c.args.self.now (path_is c.self.inside.text c.args.self.now c.self.view_is c.self.invariant))

pub returns-clause-value : goal.returns-clause-value
returns-clause-value g c =
    let none = ap (λ (p : Path). length (spelled p)) c.in-None.ensures.steps.0 in
    let sum = c.loop-name.invariant.2 in
    let e : c.loop-name.len ≡ length (spelled (take c.args.n c.args.self.now)) = omega arith in
    length_is c.args.n c.args.self.now c.loop-name.len c.max.result e c.max.ensures

pub returns-clause-bound : goal.returns-clause-bound
returns-clause-bound g c = subst (λ n. n ≤ length (path_text c.args.self.now)) (sym (returns-clause-value g c)) (length-path_text-take c.args.n c.args.self.now)
