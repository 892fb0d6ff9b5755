-- The tree's values, encoded as values that a model may have.
use Rattle.std.specs.Prelude.{◌≡◌, ℕ, Option, Some, None, refl}
use Rattle.std.specs.Coded.{Coded, code_by, coded×, coded_list, coded_ℕ, coded_option}
use Rattle.std.specs.FinMap as fin
use Rattle.flat_model.specs.Path.{Name}
use Rattle.flat_model.specs.StateCodes.{path_code}
use Rattle.group_tree.specs.declared.attr.Limit.{Limit}
use Rattle.group_tree.specs.declared.attr.Limit.TheVariants.{Unlimited, At}
use Rattle.group_tree.specs.declared.attr.Limits.{Limits}
use Rattle.group_tree.specs.declared.attr.Attr.{Attr}
use Rattle.group_tree.specs.Groups.{Groups}
use Rattle.group_tree.specs.Node.{Branch}

abbrev pub number_or_none : Limit → Option ℕ
number_or_none Unlimited = None
number_or_none (At n) = Some n

abbrev pub limit_by : Option ℕ → Limit
limit_by None = Unlimited
limit_by (Some n) = At n

abbrev pub limit_by-number_or_none : (l : Limit) → limit_by (number_or_none l) ≡ l
limit_by-number_or_none Unlimited = refl
limit_by-number_or_none (At n) = refl

abbrev pub limit_code : Coded Limit
limit_code = code_by (Option ℕ) (coded_option coded_ℕ) number_or_none limit_by limit_by-number_or_none

abbrev pub limits_code : Coded Limits
limits_code = code_by (Limit × (Limit × Limit))
    (coded× limit_code (coded× limit_code limit_code))
    (λ l. (l.pids, (l.descendants, l.depth)))
    (λ p. record { pids = p.0; descendants = p.1.0; depth = p.1.1 }) (λ _. refl)

abbrev pub attr_code : Coded Attr
attr_code = code_by (Limits × (ℕ × (ℕ × (ℕ × ℕ))))
    (coded× limits_code (coded× coded_ℕ (coded× coded_ℕ (coded× coded_ℕ coded_ℕ))))
    (λ a. (a.limits, (a.local, (a.total, (a.peak, a.slot)))))
    (λ p. record { limits = p.0; local = p.1.0; total = p.1.1.0; peak = p.1.1.1.0; slot = p.1.1.1.1 }) (λ _. refl)

abbrev pub groups_code : Coded Groups
groups_code = fin.code path_code attr_code

abbrev pub branch_code : Coded Branch
branch_code = code_by (Name × Groups) (coded× (coded_list coded_ℕ) groups_code) (λ b. (b.name, b.groups)) (λ p. record { name = p.0; groups = p.1 }) (λ _. refl)
