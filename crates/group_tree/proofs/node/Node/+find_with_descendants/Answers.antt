use Rattle.std.proofs.Common.{sym, ◌∙◌}
use Rattle.group_tree.proofs.Walk.{find_here, find_down, find_none}
use Rattle.group_tree.proofs.Descendants.{counts_here, counts_down}
use Rattle.group_tree.proofs.NodeBoxes.{opened}
use Rattle.group_tree.proofs.node.Node.+find_with_descendants.Goals as goal

pub returns-in-None-clause-found : goal.returns-in-None-clause-found
returns-in-None-clause-found g t c =
    let node = opened _ _ _ _ c.deref-inner.ensures c.self.view_is c.self.invariant.0 in
    find_here _ _ _ _ _ node.view_is node.invariant.ascending c.in-None.ensures.steps.0

pub returns-in-None-clause-counted : goal.returns-in-None-clause-counted
returns-in-None-clause-counted g t c =
    let node = opened _ _ _ _ c.deref-inner.ensures c.self.view_is c.self.invariant.0 in
    counts_here _ _ _ _ _ _ node.view_is node.invariant c.in-None.ensures.steps.0

pub returns-in-Ok-clause-found : goal.returns-in-Ok-clause-found
returns-in-Ok-clause-found g t c =
    let node = opened _ _ _ _ c.deref-inner.ensures c.self.view_is c.self.invariant.0 in
    c.find_with_descendants.ensures.found
    ∙ find_down _ _ _ _ _ _ _ _ _ _ node.view_is node.invariant.ascending c.in-Some.ensures.steps c.in-Ok.ensures.value c.deref.ensures.value c.index.ensures

pub returns-in-Ok-clause-counted : goal.returns-in-Ok-clause-counted
returns-in-Ok-clause-counted g t c =
    let node = opened _ _ _ _ c.deref-inner.ensures c.self.view_is c.self.invariant.0 in
    counts_down _ _ _ _ _ _ _ _ _ _ _ node.view_is node.invariant.ascending c.in-Some.ensures.steps c.in-Ok.ensures.value
    c.deref.ensures.value c.index.ensures c.find_with_descendants.ensures.counted

pub returns-in-Err-clause-found : goal.returns-in-Err-clause-found
returns-in-Err-clause-found g t c =
    let node = opened _ _ _ _ c.deref-inner.ensures c.self.view_is c.self.invariant.0 in
    find_none _ _ _ _ _ _ _ _ _ node.view_is node.invariant.ascending c.in-Some.ensures.steps c.in-Err.ensures.value c.deref.ensures.value

pub returns-in-Err-clause-counted : goal.returns-in-Err-clause-counted
returns-in-Err-clause-counted g t c =
    let node = opened _ _ _ _ c.deref-inner.ensures c.self.view_is c.self.invariant.0 in
    sym (find_none _ _ _ _ _ _ _ _ _ node.view_is node.invariant.ascending c.in-Some.ensures.steps c.in-Err.ensures.value c.deref.ensures.value)
