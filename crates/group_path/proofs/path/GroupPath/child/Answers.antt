use Rattle.std.proofs.Common.{◌≤◌, ◌+◌, ◌∙◌, ◌∷◌, ◌++◌, List, ℕ, ap, sym, subst, arith, length}
use Rattle.inline_bytes.specs.declared.bytes.TheConstants.{INLINE_MAX}
use Rattle.flat_model.specs.PathText.{child_fault}
use Rattle.group_path.proofs.GrammarTests.{child_short, child_few, child_faultless, child_names, answers_path}
use Rattle.group_path.proofs.PathTexts.{path_is}
use Rattle.group_path.proofs.path.GroupPath.child.Goals as goal

pub joined-requires : goal.joined-requires
joined-requires g c =
    let s = child_short c.args.self.now c.args.name.now c.in_ok-check_child.field-0
    (path_is c.self.inside.text c.args.self.now c.self.view_is c.self.invariant) (sym c.check_child.ensures ∙ c.in_ok-check_child.was) in
    let l = ap (λ (x : List ℕ). length x) c.spelled.ensures in
    omega arith

pub invariant_of-result : goal.invariant_of-result
invariant_of-result g c =
    child_faultless c.args.self.now c.args.name.now c.in_ok-text.text c.in_ok-check_child.field-0
    (path_is c.self.inside.text c.args.self.now c.self.view_is c.self.invariant) (sym c.check_child.ensures ∙ c.in_ok-check_child.was)
    (c.in_ok-text.ensures.same ∙ ap (λ (x : List ℕ). x ++ 47 ∷ c.args.name.now) c.spelled.ensures)

pub returns-clause-found : goal.returns-clause-found
returns-clause-found g c =
    child_names c.args.self.now c.args.name.now c.in_ok-text.text c.in_ok-check_child.field-0
    (path_is c.self.inside.text c.args.self.now c.self.view_is c.self.invariant) (sym c.check_child.ensures ∙ c.in_ok-check_child.was)
    (c.in_ok-text.ensures.same ∙ ap (λ (x : List ℕ). x ++ 47 ∷ c.args.name.now) c.spelled.ensures)

pub returns-clause-first : goal.returns-clause-first
returns-clause-first g c =
    answers_path (child_fault c.args.self.now c.args.name.now) _ _ c.in_ok-check_child.field-0 (sym c.check_child.ensures ∙ c.in_ok-check_child.was) (returns-clause-found g c)

pub returns-in_err-text-clause-few : goal.returns-in_err-text-clause-few
returns-in_err-text-clause-few g c =
    λ short. let few = child_few c.args.self.now c.args.name.now INLINE_MAX short in
    let ok = c.in_err-text.ensures.few (subst (λ (x : List ℕ). length x + 1 + length c.args.name.now ≤ INLINE_MAX) (sym c.spelled.ensures) few) in cc
