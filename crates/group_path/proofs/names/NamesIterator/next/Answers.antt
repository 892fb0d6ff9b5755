use Rattle.std.proofs.Common.{◌∙◌, ap, sym, arith, length, ℕ, List, option_map, Bor}
use Rattle.std.proofs.lemmas.Grind.{common_steps}
use Rattle.group_path.proofs.NextNames.{cut_slice, last_name}
use Rattle.group_path.proofs.names.NamesIterator.next.Goals as goal

pub returns-in-Some-clause-steps : goal.returns-in-Some-clause-steps
returns-in-Some-clause-steps c =
    cut_slice c.args.self.now c.self.inside.left c.in-Some.end _ c.in_ok-bytes.bytes.now c.self.view_is c.if-self-eq0.false
    (ap (option_map (λ (bytes : Bor (List ℕ)). bytes.now)) c.in_ok-bytes.was) (sym c.in-Some.is ∙ c.next_slash.ensures)

pub returns-in-Some-clause-goes : goal.returns-in-Some-clause-goes
returns-in-Some-clause-goes c = let e = returns-in-Some-clause-steps c in grind (arith, common_steps, ap length e)

pub returns-in-None-clause-steps : goal.returns-in-None-clause-steps
returns-in-None-clause-steps c =
    last_name c.args.self.now c.self.inside.left _ c.in_ok-bytes.bytes.now c.self.view_is c.if-self-eq0.false
    (ap (option_map (λ (bytes : Bor (List ℕ)). bytes.now)) c.in_ok-bytes.was) (sym c.in-None.is ∙ c.next_slash.ensures)

pub returns-in-None-clause-goes : goal.returns-in-None-clause-goes
returns-in-None-clause-goes c = let e = returns-in-None-clause-steps c in grind (arith, common_steps, ap length e)
