-- What a limit lets through, what it refuses, and that a counted fork keeps a state well formed.
use Rattle.std.proofs.Common.{◌≡◌, ℕ, ◌+◌, ◌-◌, ◌<◌, ◌≤◌, Bool, true, false, cond, not, ◌&&◌, List, [], ◌∷◌, length, Option, Some, None, refl, sym, ap, subst, ◌∙◌, arith, ltb}
use Rattle.std.proofs.lemmas.Bool.Decides.{nat_tests}
use Rattle.std.specs.Prelude.{option_map}
use Rattle.std.specs.Option.{option_or}
use Rattle.std.specs.FinMap.{get, insert, len, keys, values}
use Rattle.std.specs.List.{list_any}
use Rattle.flat_model.specs.Path.{Path, is_root, parent, at_or_below, strictly_below, same_path, upward}
use Rattle.flat_model.specs.State.{State, Attr, Limit, Limits, Unlimited, At}
use Rattle.flat_model.specs.Counts.{current, descendant_count, is_group, has_process, exceeds, reaches, asks, is_full, blocked_fork}
use Rattle.flat_model.specs.File.{readable, on_root, is_pids_max}
use Rattle.flat_model.specs.Command.{Command, MakeGroup, RemoveGroup, Fork, Exit, Move, SetLimit, Kill, Show, Locate, Undo, Refusal, Exists}
use Rattle.flat_model.specs.Command.{NoGroup, Descendants, Depth, NoSlot, RootFixed, HasChildren, HasProcesses, NoProcess, PidInUse}
use Rattle.flat_model.specs.Command.{OverPidsMax, NoFile, NotReadable}
use Rattle.flat_model.specs.Refuse.{refuse}
use Rattle.flat_model.specs.Step.{refusal, after, after_refusal, home_of, limit_met, first_refusal, blocked_make, raise_peak}
use Rattle.flat_model.specs.WellFormed.{WellFormed}
use Rattle.flat_model.specs.Limiting.{IsLimiting, IsWithinPids}
use Rattle.flat_model.proofs.PathMembers.{upward_are}
use Rattle.std.specs.Cmp.{nat_cmp_total}
use Rattle.flat_model.proofs.CountChanges.{count_inserted}
use Rattle.flat_model.proofs.PathLaws.{path_cmp-IsTotalOrder, path_cmp-IsAntisymmetric}
use Rattle.flat_model.proofs.Maps.{get-each}
use Rattle.flat_model.proofs.Options.{not_some_is_none}
use Rattle.flat_model.proofs.Nearest.{first_path_found, first_path_none, first_is_nearest}
use Rattle.flat_model.proofs.WellFormedSteps.{counted}
use Rattle.flat_model.proofs.Booleans.{both_by, not_and_false}

-- ---- tests of a limit
pub record IsPast (n : ℕ) (l : Limit) : Type 0 where
  pub most : ℕ
  pub limit : l ≡ At most
  pub past : most < n

past_by : (n : ℕ) (l : Limit) → exceeds n l ≡ true → IsPast n l
past_by n Unlimited e = cc
past_by n (At m) e = record { most = m; limit = refl; past = grind (arith, nat_tests) }

pub record IsMet (n : ℕ) (l : Limit) : Type 0 where
  pub most : ℕ
  pub limit : l ≡ At most
  pub met : most ≤ n

pub met_by : (n : ℕ) (l : Limit) → reaches n l ≡ true → IsMet n l
met_by n Unlimited e = cc
met_by n (At m) e = record { most = m; limit = refl; met = grind (arith, nat_tests) }

pub within_by : (n : ℕ) (l : Limit) (m : ℕ) → exceeds n l ≡ false → l ≡ At m → n ≤ m
within_by n Unlimited m e is = cc
within_by n (At k) m e is = let same : k ≡ m = cc in let h : n ≤ k = grind (arith, nat_tests) in omega arith

pub room_by : (n : ℕ) (l : Limit) (m : ℕ) → reaches n l ≡ false → l ≡ At m → n < m
room_by n Unlimited m e is = cc
room_by n (At k) m e is = let same : k ≡ m = cc in let h : n < k = grind (arith, nat_tests) in omega arith

-- the attributes of which a test was asked
pub record Asked (test : Attr → Bool) (o : Option Attr) : Type 0 where
  pub attr : Attr
  pub there : o ≡ Some attr
  pub yes : test attr ≡ true

pub asked_by : (test : Attr → Bool) (o : Option Attr) → asks test o ≡ true → Asked test o
asked_by test None e = cc
asked_by test (Some attr) e = record { attr = attr; there = refl; yes = e }

pub asked_no : (test : Attr → Bool) (o : Option Attr) (attr : Attr) → asks test o ≡ false → o ≡ Some attr → test attr ≡ false
asked_no test o attr e is = sym (ap (asks test) is) ∙ e

-- ---- pids.max

-- the group that blocks a fork is the nearest that the fork would bring past its limit
pub limiting : (s : State) (g a : Path) → blocked_fork s g ≡ Some a → IsLimiting s g a
limiting s g a e =
    let f = first_path_found (is_full s) (upward g) a e in
    let two = both_by (is_root a) (asks (λ attr. exceeds (current s a + 1) attr.limits.pids) (get s.groups a)) f.passes in
    let q = asked_by (λ attr. exceeds (current s a + 1) attr.limits.pids) (get s.groups a) two.1 in
    let p = past_by (current s a + 1) q.attr.limits.pids q.yes in
    record {
      above = (upward_are g a).0 (f.place, f.inside, f.there);
      not_root = two.0;
      attr = q.attr;
      there = q.there;
      most = p.most;
      limit = p.limit;
      past = p.past;
      nearest = λ b h under. first_is_nearest (is_full s) g a b e h under;
    }

-- where none blocks a fork, each group above has room for one process more
pub fork_fits : (s : State) (g : Path) → blocked_fork s g ≡ None → (a : Path) (attr : Attr) (m : ℕ) → at_or_below g a ≡ true
    → is_root a ≡ false → get s.groups a ≡ Some attr → attr.limits.pids ≡ At m → current s a + 1 ≤ m
fork_fits s g e a attr m above not_root there limit =
    let no = first_path_none (is_full s) (upward g) a e ((upward_are g a).1 above) in
    let left = not_and_false (is_root a) (asks (λ attr. exceeds (current s a + 1) attr.limits.pids) (get s.groups a)) no not_root in
    within_by (current s a + 1) attr.limits.pids m (asked_no (λ attr. exceeds (current s a + 1) attr.limits.pids) (get s.groups a) attr left there) limit

-- ---- only a fork is refused by pids.max
abbrev OfRefusal : (Path → Type 0) → Refusal → Type 0
OfRefusal P (OverPidsMax a) = P a
OfRefusal P _ = Unit {0}

abbrev IfOver : (Path → Type 0) → Option Refusal → Type 0
IfOver P None = Unit {0}
IfOver P (Some r) = OfRefusal P r

over_refuse : (P : Path → Type 0) (b : Bool) (r : Refusal) (rest : Option Refusal) → OfRefusal P r → IfOver P rest → IfOver P (refuse b r rest)
over_refuse P true r rest h k = h
over_refuse P false r rest h k = k

over_or : (P : Path → Type 0) (o rest : Option Refusal) → IfOver P o → IfOver P rest → IfOver P (option_or o rest)
over_or P None rest h k = k
over_or P (Some r) rest h k = h

over_walk : (P : Path → Type 0) (test : Path → Option Refusal) → ((a : Path) → IfOver P (test a)) → (ps : List Path) → IfOver P (first_refusal test ps)
over_walk P test h [] = tt
over_walk P test h (p ∷ ps) = over_or P (test p) (first_refusal test ps) (h p) (over_walk P test h ps)

over_met : (s : State) (P : Path → Type 0) (q a : Path) → IfOver P (limit_met s q a)
over_met s P q a =
    let deep = asks (λ attr. reaches (length q - length a) attr.limits.depth) (get s.groups a) in
    over_refuse P (asks (λ attr. reaches (descendant_count s a) attr.limits.descendants) (get s.groups a)) (Descendants a) (refuse deep (Depth a) None) tt
    (over_refuse P deep (Depth a) None tt tt)

over_fork : (P : Path → Type 0) (o : Option Path) → ((a : Path) → o ≡ Some a → P a) → IfOver P (option_map OverPidsMax o)
over_fork P None h = tt
over_fork P (Some a) h = h a refl

-- the command is a fork, and a is what limits it
abbrev IsForkLimitedBy : State → Command → Path → Type 0
IsForkLimitedBy s c a = (from : ℕ) × (child : ℕ) × (c ≡ Fork from child) × IsLimiting s (home_of s from) a

over_only : (slots : ℕ) (s : State) (c : Command) → IfOver (IsForkLimitedBy s c) (refusal slots s c)
over_only slots s (MakeGroup p) =
    let P = IsForkLimitedBy s (MakeGroup p) in
    over_refuse P (is_group s p) Exists _ tt
    (over_refuse P (not (is_group s (parent p))) (NoGroup (parent p)) _ tt
    (over_or P (blocked_make s p) _
    (over_walk P (limit_met s (parent p)) (over_met s P (parent p)) (upward (parent p)))
    (over_refuse P (ltb slots (len s.groups)) NoSlot None tt tt)))
over_only slots s (RemoveGroup p) =
    let P = IsForkLimitedBy s (RemoveGroup p) in
    over_refuse P (is_root p) RootFixed _ tt
    (over_refuse P (not (is_group s p)) (NoGroup p) _ tt
    (over_refuse P (list_any (λ q. strictly_below q p) (keys s.groups)) HasChildren _ tt
    (over_refuse P (list_any (λ q. same_path q p) (values s.home)) HasProcesses None tt tt)))
over_only slots s (Fork from child) =
    let P = IsForkLimitedBy s (Fork from child) in
    over_refuse P (not (has_process s from)) (NoProcess from) _ tt
    (over_refuse P (has_process s child) (PidInUse child) _ tt
    (over_fork P (blocked_fork s (home_of s from)) (λ a e. (from, child, refl, limiting s (home_of s from) a e))))
over_only slots s (Exit pid) = over_refuse (IsForkLimitedBy s (Exit pid)) (not (has_process s pid)) (NoProcess pid) None tt tt
over_only slots s (Move p pid) =
    let P = IsForkLimitedBy s (Move p pid) in
    over_refuse P (not (is_group s p)) (NoGroup p) _ tt (over_refuse P (not (has_process s pid)) (NoProcess pid) None tt tt)
over_only slots s (SetLimit p file value) =
    let P = IsForkLimitedBy s (SetLimit p file value) in
    over_refuse P (is_root p && is_pids_max file) NoFile _ tt (over_refuse P (not (is_group s p)) (NoGroup p) None tt tt)
over_only slots s (Kill g) =
    let P = IsForkLimitedBy s (Kill g) in
    over_refuse P (is_root g) NoFile _ tt (over_refuse P (not (is_group s g)) (NoGroup g) None tt tt)
over_only slots s (Show p file) =
    let P = IsForkLimitedBy s (Show p file) in
    over_refuse P (not (readable file)) NotReadable _ tt
    (over_refuse P (not (is_group s p)) (NoGroup p) _ tt
    (over_refuse P (is_root p && not (on_root file)) NoFile None tt tt))
over_only slots s (Locate pid) = over_refuse (IsForkLimitedBy s (Locate pid)) (not (has_process s pid)) (NoProcess pid) None tt tt
over_only slots s Undo = tt

pub fork_refused : (slots : ℕ) (s : State) (c : Command) (a : Path) → refusal slots s c ≡ Some (OverPidsMax a) → IsForkLimitedBy s c a
fork_refused slots s c a e = subst (IfOver (IsForkLimitedBy s c)) e (over_only slots s c)

fork_open : (a b : Bool) (x y : ℕ) (o : Option Path) → refuse a (NoProcess x) (refuse b (PidInUse y) (option_map OverPidsMax o)) ≡ None → (a ≡ false) × (b ≡ false) × (o ≡ None)
fork_open true b x y o e = cc
fork_open false true x y o e = cc
fork_open false false x y None e = (refl, refl, refl)
fork_open false false x y (Some a) e = cc

-- the tests that an accepted fork passed
pub fork_passed : (slots : ℕ) (s : State) (from child : ℕ) → refusal slots s (Fork from child) ≡ None → (not (has_process s from) ≡ false)
    × (has_process s child ≡ false) × (blocked_fork s (home_of s from) ≡ None)
fork_passed slots s from child e = fork_open (not (has_process s from)) (has_process s child) from child (blocked_fork s (home_of s from)) e

-- a refusal keeps a state well formed
pub kept_refused : (slots : ℕ) (s : State) (c : Command) (r : Refusal) → WellFormed slots s → refusal slots s c ≡ Some r → WellFormed slots (after_refusal s r)
kept_refused slots s c (OverPidsMax a) w e = counted slots s w a (fork_refused slots s c a e).3.not_root
kept_refused slots s c Exists w e = w
kept_refused slots s c (NoGroup p) w e = w
kept_refused slots s c (Descendants p) w e = w
kept_refused slots s c (Depth p) w e = w
kept_refused slots s c NoSlot w e = w
kept_refused slots s c RootFixed w e = w
kept_refused slots s c HasChildren w e = w
kept_refused slots s c HasProcesses w e = w
kept_refused slots s c (NoProcess p) w e = w
kept_refused slots s c (PidInUse p) w e = w
kept_refused slots s c NoFile w e = w
kept_refused slots s c NotReadable w e = w

-- one process more in each group at or above the child's home
pub current_forked : (s : State) (from child : ℕ) (g : Path) → has_process s child ≡ false → current (after s (Fork from child)) g ≡ cond (at_or_below (home_of s from) g) 1 0 + current s g
current_forked s from child g free = count_inserted nat_cmp_total (λ p. at_or_below p g) s.home child (home_of s from) (not_some_is_none _ free)

-- after a fork that was accepted no group at or above the child's home is past its limit by it
pub fork_within : (slots : ℕ) (s : State) (from child : ℕ) → refusal slots s (Fork from child) ≡ None → IsWithinPids (after s (Fork from child)) (home_of s from)
fork_within slots s from child e a attr m above not_root there limit =
    let tests = fork_passed slots s from child e in
    let was = as_before (get s.groups a) (sym (get-each path_cmp-IsTotalOrder path_cmp-IsAntisymmetric (raise_peak come (home_of s from)) s.groups a) ∙ there) in
    let fits = fork_fits s (home_of s from) tests.2 a was.0 m above not_root was.1 (ap (λ (l : Limits). l.pids) was.2 ∙ limit) in
    let one : ◌≡◌ {A = ℕ} (cond (at_or_below (home_of s from) a) 1 0) 1 = ap (λ b. cond b 1 0) above in
    let more = current_forked s from child a tests.1 in
    omega (arith, fits, one, more)
  where
    come : State
    come = record s { home = insert s.home child (home_of s from) }

    -- its limits are those that it had
    as_before : (o : Option Attr) → option_map (raise_peak come (home_of s from) a) o ≡ Some attr → (x : Attr) × (o ≡ Some x) × (x.limits ≡ attr.limits)
    as_before None e = cc
    as_before (Some x) e = (x, refl, (let same : raise_peak come (home_of s from) a x ≡ attr = cc in ap (λ (y : Attr). y.limits) same))
