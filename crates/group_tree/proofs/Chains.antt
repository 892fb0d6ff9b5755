-- The slots on the way up.
use Rattle.std.proofs.Common.{◌≡◌, ℕ, Bool, true, false, not, List, [], ◌∷◌, ◌++◌, map, reverse, get_or, refl, ap, sym, ◌∙◌, subst, Ok, Option, Some, None, IsSome, MatchBool, append_assoc, append-nil}
use Rattle.std.specs.Prelude.{filter}
use Rattle.std.proofs.lemmas.List.{map-append, reverse-append}
use Rattle.std.proofs.lemmas.List.Elements.{filter-append}
use Rattle.std.specs.FinMap as fin
use Rattle.flat_model.specs.Path.{Name, Path, is_root, prefixes, upward}
use Rattle.group_tree.specs.declared.attr.Attr.{Attr}
use Rattle.group_tree.specs.Groups.{Groups, slot_of, groups_upward, chain_of}
use Rattle.group_tree.specs.Node.{Branch, groups_of, HasAscendingNames, place_of}
use Rattle.group_tree.proofs.Walk.{find_down}
use Rattle.group_tree.proofs.NodeSteps.{root_is_some}
use Rattle.flat_model.proofs.Lists.{reverse_map}

reverse_first : (p : Path) (ps : List Path) → reverse (p ∷ ps) ≡ reverse ps ++ p ∷ []
reverse_first p ps = reverse-append (p ∷ []) ps

-- the way up from below n: the way up there behind n, and then the root
pub upward-cons : (n : Name) (p : Path) → upward (n ∷ p) ≡ map (λ (q : Path). n ∷ q) (upward p) ++ [] ∷ []
upward-cons n p = reverse_first [] (map (λ (q : Path). n ∷ q) (prefixes p)) ∙ ap (λ (ps : List Path). ps ++ [] ∷ []) (reverse_map (λ (q : Path). n ∷ q) (prefixes p))

no_roots : (n : Name) (ps : List Path) → filter (λ q. not (is_root q)) (map (λ (q : Path). n ∷ q) ps) ≡ map (λ (q : Path). n ∷ q) ps
no_roots n [] = refl
no_roots n (p ∷ ps) = ap (λ (xs : List Path). (n ∷ p) ∷ xs) (no_roots n ps)

groups_upward-cons : (n : Name) (p : Path) → groups_upward (n ∷ p) ≡ map (λ (q : Path). n ∷ q) (upward p)
groups_upward-cons n p =
    ap (filter (λ q. not (is_root q))) (upward-cons n p)
    ∙ filter-append (λ q. not (is_root q)) (map (λ (q : Path). n ∷ q) (upward p)) ([] ∷ [])
    ∙ append-nil (filter (λ q. not (is_root q)) (map (λ (q : Path). n ∷ q) (upward p))) ∙ no_roots n (upward p)

-- the root comes last
upward_root : (p : Path) → upward p ≡ groups_upward p ++ [] ∷ []
upward_root [] = refl
upward_root (n ∷ p) = upward-cons n p ∙ ap (λ (ps : List Path). ps ++ [] ∷ []) (sym (groups_upward-cons n p))

-- the slots of a child's paths are the node's behind its name
slots_under : (old kid : Groups) (n : Name) (ps : List Path) → ((q : Path) → fin.get kid q ≡ fin.get old (n ∷ q))
    → map (λ q. slot_of (fin.get old q)) (map (λ (q : Path). n ∷ q) ps) ≡ map (λ q. slot_of (fin.get kid q)) ps
slots_under old kid n [] gets = refl
slots_under old kid n (p ∷ ps) gets = λ i. slot_of (sym (gets p) i) ∷ slots_under old kid n ps gets i

chain_of-cons : (old kid : Groups) (n : Name) (p : Path) → ((q : Path) → fin.get kid q ≡ fin.get old (n ∷ q)) → chain_of old (n ∷ p) ≡ chain_of kid p ++ slot_of (fin.get kid []) ∷ []
chain_of-cons old kid n p gets =
    ap (map (λ q. slot_of (fin.get old q))) (groups_upward-cons n p)
    ∙ slots_under old kid n (upward p) gets
    ∙ ap (map (λ q. slot_of (fin.get kid q))) (upward_root p)
    ∙ map-append (λ q. slot_of (fin.get kid q)) (groups_upward p) ([] ∷ [])

-- the chain of a group below a child
chain_down : (attr : Attr) (kids slice : List Branch) (b kid : Branch) (nm : Name) (names : Path) (n : Name) (p : Path) (i : ℕ) (a : Attr)
    → ◌≡◌ {A = Branch} (record { name = nm; groups = groups_of attr kids }) b → HasAscendingNames kids → names ≡ n ∷ p
    → Ok i ≡ place_of n slice → slice ≡ kids → kid ≡ get_or kids i kid → Some a ≡ fin.get kid.groups []
    → chain_of kid.groups p ++ a.slot ∷ [] ≡ chain_of b.groups names
chain_down attr kids slice b kid nm names n p i a is h e at s item own =
    let gets : (q : Path) → fin.get kid.groups q ≡ fin.get b.groups (n ∷ q) = λ q. find_down attr kids slice b kid nm (n ∷ q) n q i is h refl at s item in
    ap (λ (x : Option Attr). chain_of kid.groups p ++ slot_of x ∷ []) own ∙ sym (chain_of-cons b.groups kid.groups n p gets) ∙ ap (chain_of b.groups) (sym e)

pub chain_here : (attr : Attr) (kids : List Branch) (b : Branch) (nm : Name) (names : Path) (items : List ℕ)
    → ◌≡◌ {A = Branch} (record { name = nm; groups = groups_of attr kids }) b → HasAscendingNames kids → names ≡ []
    → IsSome (fin.get b.groups names) × (items ≡ items ++ chain_of b.groups names)
chain_here attr kids b nm names items is h e = (
  subst (λ (x : Path). IsSome (fin.get b.groups x)) (sym e) (root_is_some attr kids b nm is h),
  sym (append-nil items) ∙ ap (λ (x : Path). items ++ chain_of b.groups x) (sym e),
)

pub chain_step : (attr : Attr) (kids slice : List Branch) (b kid : Branch) (nm : Name) (names : Path) (n : Name) (p : Path) (i : ℕ)
    (a : Attr) (old mid new : List ℕ) → ◌≡◌ {A = Branch} (record { name = nm; groups = groups_of attr kids }) b → HasAscendingNames kids
    → names ≡ n ∷ p → Ok i ≡ place_of n slice → slice ≡ kids → kid ≡ get_or kids i kid → Some a ≡ fin.get kid.groups []
    → IsSome (fin.get kid.groups p) × (mid ≡ old ++ chain_of kid.groups p) → new ≡ mid ++ a.slot ∷ [] → IsSome (fin.get b.groups names)
    × (new ≡ old ++ chain_of b.groups names)
chain_step attr kids slice b kid nm names n p i a old mid new is h e at s item own c push = (
  subst IsSome (find_down attr kids slice b kid nm names n p i is h e at s item) c.0,
  push ∙ ap (λ (x : List ℕ). x ++ a.slot ∷ []) c.1 ∙ append_assoc old (chain_of kid.groups p) (a.slot ∷ [])
      ∙ ap (λ (x : List ℕ). old ++ x) (chain_down attr kids slice b kid nm names n p i a is h e at s item own),
)

pub at_false : (P Q : Type 0) (b : Bool) → b ≡ false → MatchBool b P Q → Q
at_false P Q true e h = cc
at_false P Q false e h = h

pub at_true : (P Q : Type 0) (b : Bool) → b ≡ true → MatchBool b P Q → P
at_true P Q true e h = h
at_true P Q false e h = cc

-- a group is not both there and absent
pub not_both : (Q : Type 0) (o : Option Attr) → IsSome o → o ≡ None → Q
not_both Q None some none = cc
not_both Q (Some a) some none = cc
