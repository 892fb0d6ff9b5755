use Rattle.std.proofs.Common.{rules, sym, ◌∙◌}
use Rattle.group_tree.proofs.Walk.{find_none, find_down}
use Rattle.group_tree.proofs.Chains.{chain_here, chain_step, at_false, at_true, not_both}
use Rattle.group_tree.proofs.InPlace.{pushes_below, refused_below, pushes_one, push_refused}
use Rattle.group_tree.proofs.NodeCopies.{falls_child, child_at_smaller}
use Rattle.group_tree.proofs.NodeBoxes.{opened}
use Rattle.group_tree.proofs.node.Node.+push_chain.Goals as goal

pub push_chain-requires : goal.push_chain-requires
push_chain-requires g t c κs within =
    let node = opened _ _ _ _ c.deref-inner.ensures c.self.view_is c.self.invariant.0 in
    let smaller = child_at_smaller _ _ _ _ _ _ _ node.view_is node.invariant.ascending c.deref.ensures.value c.index-child.ensures c.in-Ok.ensures.bound in
    (falls_child _ _ _ c.decreases smaller, search (rules, within))

pub returns-in-None-clause-chain : goal.returns-in-None-clause-chain
returns-in-None-clause-chain g t c = chain_here _ _ _ _ _ _ c.self.view_is c.self.invariant.0.ascending c.in-None.ensures.steps.0

pub returns-then-not-branch-clause-chain : goal.returns-then-not-branch-clause-chain
returns-then-not-branch-clause-chain g t c =
    let node = opened _ _ _ _ c.deref-inner.ensures c.self.view_is c.self.invariant.0 in
    sym (find_down _ _ _ _ _ _ _ _ _ _ node.view_is node.invariant.ascending c.in-Some.ensures.steps c.in-Ok.ensures.value
    c.deref.ensures.value c.index-child.ensures) ∙ at_false _ _ _ c.if-not-branch.true c.in_ok-push_chain-in-Ok.ensures.chain

pub returns-in-Err-clause-chain : goal.returns-in-Err-clause-chain
returns-in-Err-clause-chain g t c =
    let node = opened _ _ _ _ c.deref-inner.ensures c.self.view_is c.self.invariant.0 in
    sym (find_none _ _ _ _ _ _ _ _ _ node.view_is node.invariant.ascending c.in-Some.ensures.steps c.in-Err.ensures.value c.deref.ensures.value)

pub returns-in_ok-push-in-Ok-clause-chain : goal.returns-in_ok-push-in-Ok-clause-chain
returns-in_ok-push-in-Ok-clause-chain g t c =
    let node = opened _ _ _ _ c.deref-inner.ensures c.self.view_is c.self.invariant.0 in
    chain_step _ _ _ _ _ _ _ _ _ _ _ _ _ _ node.view_is node.invariant.ascending c.in-Some.ensures.steps c.in-Ok.ensures.value
    c.deref.ensures.value c.index-child.ensures c.attr-attr.ensures
    (at_true _ _ _ c.if-not-branch.false c.in_ok-push_chain-in-Ok.ensures.chain) c.in_ok-push-in-Ok.ensures.ok

pub returns-in_err-push_chain-in-Ok-clause-in_place : goal.returns-in_err-push_chain-in-Ok-clause-in_place
returns-in_err-push_chain-in-Ok-clause-in_place g t c = refused_below c.args.slots.now c.push_chain.new.slots _ _ _ _ _ c.in-Some.ensures.steps c.in_err-push_chain-in-Ok.ensures.in_place

pub returns-then-not-branch-clause-in_place : goal.returns-then-not-branch-clause-in_place
returns-then-not-branch-clause-in_place g t c = pushes_below c.args.slots.now c.push_chain.new.slots _ _ _ _ _ c.in-Some.ensures.steps c.in_ok-push_chain-in-Ok.ensures.in_place

pub returns-in_err-push-in-Ok-clause-in_place : goal.returns-in_err-push-in-Ok-clause-in_place
returns-in_err-push-in-Ok-clause-in_place g t c =
    push_refused c.args.slots.now c.push_chain.new.slots c.push.new.self _ _ _ _ _ c.in-Some.ensures.steps
    c.in_ok-push_chain-in-Ok.ensures.in_place c.in_err-push-in-Ok.ensures.err c.in_err-push-in-Ok.ensures.succeeds

pub returns-in_ok-push-in-Ok-clause-in_place : goal.returns-in_ok-push-in-Ok-clause-in_place
returns-in_ok-push-in-Ok-clause-in_place g t c =
    pushes_one c.args.slots.now c.push_chain.new.slots c.push.new.self _ _ _ _ _ c.in-Some.ensures.steps
    c.in_ok-push_chain-in-Ok.ensures.in_place c.in_ok-push-in-Ok.ensures.len c.in_ok-push-in-Ok.ensures.had_room

pub returns-in-None-clause-absent : goal.returns-in-None-clause-absent
returns-in-None-clause-absent g t c = λ none. not_both _ _ (returns-in-None-clause-chain g t c).0 none

pub returns-in_ok-push-in-Ok-clause-absent : goal.returns-in_ok-push-in-Ok-clause-absent
returns-in_ok-push-in-Ok-clause-absent g t c = λ none. not_both _ _ (returns-in_ok-push-in-Ok-clause-chain g t c).0 none

pub returns-in_err-push_chain-in-Ok-clause-absent : goal.returns-in_err-push_chain-in-Ok-clause-absent
returns-in_err-push_chain-in-Ok-clause-absent g t c =
    let node = opened _ _ _ _ c.deref-inner.ensures c.self.view_is c.self.invariant.0 in
    λ none. let e = c.in_err-push_chain-in-Ok.ensures.absent (find_down _ _ _ _ _ _ _ _ _ _ node.view_is node.invariant.ascending
    c.in-Some.ensures.steps c.in-Ok.ensures.value c.deref.ensures.value c.index-child.ensures ∙ none) in cc

pub returns-in_err-push-in-Ok-clause-absent : goal.returns-in_err-push-in-Ok-clause-absent
returns-in_err-push-in-Ok-clause-absent g t c =
    let node = opened _ _ _ _ c.deref-inner.ensures c.self.view_is c.self.invariant.0 in
    λ none. not_both _ _ (at_true _ _ _ c.if-not-branch.false c.in_ok-push_chain-in-Ok.ensures.chain).0
    (find_down _ _ _ _ _ _ _ _ _ _ node.view_is node.invariant.ascending c.in-Some.ensures.steps c.in-Ok.ensures.value c.deref.ensures.value c.index-child.ensures ∙ none)
