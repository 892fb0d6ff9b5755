-- Which limit of the hierarchy a new group meets first, and at which group.
use Rattle.std.specs.Prelude.{◌≡◌, ◌≤◌, ◌-◌, length, Option, IfSome, option_map}
use Rattle.std.specs.FinMap as fin
use Rattle.flat_model.specs.Path.{Path, parent, upward}
use Rattle.flat_model.specs.Step.{first_refusal, limit_met}
use Rattle.group_tree.specs.Groups.{Groups}
use Rattle.pids_charge.specs.Answers.{names_in, refusal_along}
use Rattle.pids_charge.specs.Events.{flat_of}
use Rattle.pids_charge.specs.declared.fault.ChargeRefusal.{ChargeRefusal}

-- the first limit that a new group at p meets, from its parent upward, or None
pub record IsFirstMet (tree : Groups) (p : Path) (met : Option ChargeRefusal) : Type 0 where
  pub first : option_map (refusal_along p) met ≡ first_refusal (limit_met (flat_of tree fin.empty) (parent p)) (upward (parent p))
  pub inside : IfSome met (λ met. names_in met ≤ length p - 1)
