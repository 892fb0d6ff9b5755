-- The copied children make the same node, and a child has fewer groups than the node.
use Rattle.std.proofs.Common.{◌≡◌, ℕ, ◌+◌, ◌<◌, ◌≤◌, List, [], ◌∷◌, length, take, get_or, ap, sym, ◌∙◌, subst, arith, suc, zero, length-append}
use Rattle.std.proofs.lemmas.List.{take_all}
use Rattle.std.specs.FinMap as fin
use Rattle.flat_model.specs.Path.{Name}
use Rattle.group_tree.specs.declared.attr.Attr.{Attr}
use Rattle.group_tree.specs.Node.{Branch, under, below, groups_of, HasAscendingNames, IsNode}
use Rattle.group_tree.specs.Sorted.{length-under}
use Rattle.group_tree.proofs.NodeCounts.{len-node}

pub falls_child : (n m t : ℕ) → m ≡ t → n < m → n < t
falls_child n m t e h = omega arith

-- the entries of one child are among those of all
child_le : (kids : List Branch) (i : ℕ) (d : Branch) → i < length kids → fin.len (get_or kids i d).groups ≤ length (below kids)
child_le [] i d h = absurd (omega arith)
child_le (k ∷ kids) zero d h =
    let whole = length-append (under k.name (fin.entries k.groups)) (below kids) in
    let first = length-under k.name (fin.entries k.groups) in
    let own = fin.len-entries k.groups in
    omega (arith, whole, first, own)
child_le (k ∷ kids) (suc i) d h =
    let whole = length-append (under k.name (fin.entries k.groups)) (below kids) in
    let rest = child_le kids i d (omega arith) in
    omega (arith, whole, rest)

pub child_smaller : (attr : Attr) (kids slice : List Branch) (b kid : Branch) (nm : Name) (i : ℕ)
    → ◌≡◌ {A = Branch} (record { name = nm; groups = groups_of attr kids }) b → HasAscendingNames kids → slice ≡ kids
    → kid ≡ get_or slice i kid → i < length slice → fin.len kid.groups < fin.len b.groups
child_smaller attr kids slice b kid nm i is h s item bound =
    let long = ap length s in
    let one : fin.len kid.groups ≡ fin.len (get_or kids i kid).groups = ap (λ (x : Branch). fin.len x.groups) (item ∙ ap (λ (x : List Branch). get_or x i kid) s) in
    let few = child_le kids i kid (omega (arith, long)) in
    let size : length (below kids) + 1 ≡ fin.len b.groups = sym (len-node attr kids h) ∙ ap (λ (c : Branch). fin.len c.groups) is in
    omega (arith, one, few, size)

pub child_at_smaller : (attr : Attr) (kids slice : List Branch) (b kid : Branch) (nm : Name) (i : ℕ)
    → ◌≡◌ {A = Branch} (record { name = nm; groups = groups_of attr kids }) b → HasAscendingNames kids → slice ≡ kids
    → kid ≡ get_or kids i kid → i < length slice → fin.len kid.groups < fin.len b.groups
child_at_smaller attr kids slice b kid nm i is h s item bound = child_smaller attr kids slice b kid nm i is h s (item ∙ ap (λ (x : List Branch). get_or x i kid) (sym s)) bound

pub copied : (attr : Attr) (kids slice new : List Branch) (b : Branch) (nm name bytes : Name) (n : ℕ)
    → ◌≡◌ {A = Branch} (record { name = nm; groups = groups_of attr kids }) b → slice ≡ kids → length slice ≤ n → new ≡ take n slice
    → name ≡ bytes → bytes ≡ nm → ◌≡◌ {A = Branch} (record { name = name; groups = groups_of attr new }) b
copied attr kids slice new b nm name bytes n is s all e named same =
    let kept : new ≡ kids = e ∙ take_all n slice all ∙ s in
    let called : name ≡ nm = named ∙ same in
    (λ j. record { name = called j; groups = groups_of attr (kept j) }) ∙ is

pub copied_node : (kids slice new : List Branch) (n d : ℕ) → IsNode kids d → slice ≡ kids → length slice ≤ n → new ≡ take n slice → IsNode new d
copied_node kids slice new n d h s all e = subst (λ (x : List Branch). IsNode x d) (sym (e ∙ take_all n slice all ∙ s)) h
