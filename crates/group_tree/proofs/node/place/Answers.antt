use Rattle.std.proofs.Common.{◌≡◌, sym, ap, refl, ◌∙◌}
use Rattle.group_tree.proofs.Calls.{answers_by}
use Rattle.flat_model.specs.Path.{name_cmp}
use Rattle.group_tree.specs.Node.{Branch}
use Rattle.group_tree.proofs.NameSearch.{searched}
use Rattle.group_tree.proofs.node.place.Goals as goal

-- the closure compares a child's name with the one that is looked for, and keeps that one
pub returns-clause-value : goal.returns-clause-value
returns-clause-value g c =
    let facts = c.binary_search_by.ensures in
    let by_name = facts.position (λ (k : Branch). name_cmp k.name c.args.name.now)
    (answers_by _ _ (λ f. f.0.now ≡ c.args.name.now) (λ f a r f' called is. (called.met.1 ∙ ap (name_cmp a.0.now.name) is, ap (λ n. n.now) called.met.0.0 ∙ is)) _ refl) in
    sym (searched c.args.name.now c.args.children.now _ c.requires facts.bound by_name)
