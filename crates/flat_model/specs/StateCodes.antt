-- The state, encoded as a value that a model may have: its parts as plain numbers, pairs, sums and lists.
use Rattle.std.specs.Prelude.{◌≡◌, ℕ, Option, Some, None, refl}
use Rattle.std.specs.Coded.{Coded, code_by, coded×, coded_ℕ, coded_list, coded_option}
use Rattle.std.specs.FinMap as map
use Rattle.std.specs.FinMap.{FinMap}
use Rattle.std.specs.Ordering.{nat_cmp}
use Rattle.flat_model.specs.Path.{Path, path_cmp}
use Rattle.flat_model.specs.State.{Limit, Unlimited, At, Limits, Attr, State}

abbrev pub path_code : Coded Path
path_code = coded_list (coded_list coded_ℕ)

abbrev pub number_of_limit : Limit → Option ℕ
number_of_limit Unlimited = None
number_of_limit (At n) = Some n

abbrev pub limit_of_number : Option ℕ → Limit
limit_of_number None = Unlimited
limit_of_number (Some n) = At n

pub limit_of_number_is : (l : Limit) → limit_of_number (number_of_limit l) ≡ l
limit_of_number_is Unlimited = refl
limit_of_number_is (At n) = refl

abbrev pub limit_code : Coded Limit
limit_code = code_by (Option ℕ) (coded_option coded_ℕ) number_of_limit limit_of_number limit_of_number_is

abbrev pub limits_code : Coded Limits
limits_code =
    code_by (Limit × (Limit × Limit)) (coded× limit_code (coded× limit_code limit_code))
    (λ l. (l.pids, (l.descendants, l.depth))) (λ t. record { pids = t.0; descendants = t.1.0; depth = t.1.1 }) (λ _. refl)

abbrev pub attr_code : Coded Attr
attr_code =
    code_by (Limits × (ℕ × (ℕ × ℕ))) (coded× limits_code (coded× coded_ℕ (coded× coded_ℕ coded_ℕ)))
    (λ a. (a.limits, (a.local, (a.total, a.peak)))) (λ t. record { limits = t.0; local = t.1.0; total = t.1.1.0; peak = t.1.1.1 }) (λ _. refl)

abbrev pub state_code : Coded State
state_code =
    code_by (FinMap path_cmp Attr × FinMap nat_cmp Path) (coded× (map.code path_code attr_code) (map.code coded_ℕ path_code))
    (λ s. (s.groups, s.home)) (λ t. record { groups = t.0; home = t.1 }) (λ _. refl)
