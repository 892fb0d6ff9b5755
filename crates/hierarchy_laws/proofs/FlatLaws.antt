-- The tree's limits, groups and counts are those of the flat state, and no two become one.
use Rattle.std.proofs.Common.{◌≡◌, ℕ, ◌≤◌, ◌↔◌, true, false, [], ◌∷◌, Some, refl, sym, ap, ◌∙◌, is_some, arith}
use Rattle.std.proofs.lemmas.Bool.Decides.{nat_tests}
use Rattle.std.specs.Ordering.{nat_cmp}
use Rattle.std.specs.FinMap.{get, get-empty}
use Rattle.flat_model.specs.Path.{Name, Path}
use Rattle.flat_model.specs.State as flat
use Rattle.flat_model.specs.Counts.{reaches, is_group, has_process}
use Rattle.flat_model.proofs.MapValues.{contains-map_values}
use Rattle.group_tree.specs.declared.attr.Attr.{Attr}
use Rattle.group_tree.specs.declared.attr.Limit.{Limit}
use Rattle.group_tree.specs.declared.attr.Limit.TheVariants.{Unlimited, At}
use Rattle.group_tree.specs.Groups.{Groups, slot_of, chain_of}
use Rattle.group_tree.specs.Flat.{limit_of, limits_of, group_of, without_processes}

-- ---- limits and groups

abbrev limit_back : flat.Limit → Limit
limit_back flat.Unlimited = Unlimited
limit_back (flat.At n) = At n

limit_there : (a : Limit) → limit_back (limit_of a) ≡ a
limit_there Unlimited = refl
limit_there (At n) = refl

pub one_limit : (a b : Limit) → limit_of a ≡ limit_of b → a ≡ b
one_limit a b e = sym (limit_there a) ∙ ap limit_back e ∙ limit_there b

pub one_group : (a b : Attr) → group_of a ≡ group_of b → a.slot ≡ b.slot → a ≡ b
one_group a b e s =
    let p = one_limit a.limits.pids b.limits.pids (ap (λ (g : flat.Attr). g.limits.pids) e) in
    let d = one_limit a.limits.descendants b.limits.descendants (ap (λ (g : flat.Attr). g.limits.descendants) e) in
    let l = one_limit a.limits.depth b.limits.depth (ap (λ (g : flat.Attr). g.limits.depth) e) in
    let o = ap (λ (g : flat.Attr). g.local) e in
    let t = ap (λ (g : flat.Attr). g.total) e in
    let k = ap (λ (g : flat.Attr). g.peak) e in
    λ i. record { limits = record { pids = p i; descendants = d i; depth = l i }; local = o i; total = t i; peak = k i; slot = s i }

pub reached_is : (n m : ℕ) → (reaches n (limit_of (At m)) ≡ true) ↔ (m ≤ n)
reached_is n m = (λ e. grind (arith, nat_tests), λ h. grind (arith, nat_tests))

pub there_is : (m : Groups) (p : Path) → is_group (without_processes m) p ≡ is_some (get m p)
there_is m p = contains-map_values group_of m p

pub nobody_is : (m : Groups) (pid : ℕ) → has_process (without_processes m) pid ≡ false
nobody_is m pid = ap is_some (get-empty {X = Path} nat_cmp pid)

-- ---- three groups

pub slots_up : (m : Groups) (a b c : Name) (x y z : Attr) → get m (a ∷ []) ≡ Some x → get m (a ∷ b ∷ []) ≡ Some y
    → get m (a ∷ b ∷ c ∷ []) ≡ Some z → chain_of m (a ∷ b ∷ c ∷ []) ≡ z.slot ∷ y.slot ∷ x.slot ∷ []
slots_up m a b c x y z h k l = λ i. slot_of (l i) ∷ slot_of (k i) ∷ slot_of (h i) ∷ []
