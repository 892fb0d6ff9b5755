-- A node keeps all but the number of its name in a box. What a call reads through a reference into the box is what the node has.
use Rattle.std.proofs.Common.{◌≡◌, ℕ, List, sym, subst, ◌∙◌}
use Rattle.flat_model.specs.Path.{Name}
use Rattle.group_tree.specs.declared.node.Inner.{Inner}
use Rattle.group_tree.specs.Groups.{Groups}
use Rattle.group_tree.specs.NameNumber.{IsNumberOf}
use Rattle.group_tree.specs.Node.{Branch, groups_of, IsNode}

-- a node of this name that is seen as b has these contents
pub record Holds {X : Type 0} (nm : Name) (b : Branch) (i : Inner X) : Type 0 where
  pub view_is : ◌≡◌ {A = Branch} (record { name = nm; groups = groups_of i.attr i.children.items }) b
  pub invariant : IsNode i.children.items i.descendants

-- what is read from the box
pub opened : {X : Type 0} (nm : Name) (b : Branch) (read held : Inner X) → read ≡ held
    → ◌≡◌ {A = Branch} (record { name = nm; groups = groups_of held.attr held.children.items }) b
    → IsNode held.children.items held.descendants → Holds nm b read
opened nm b read held same is h = subst (Holds nm b) (sym same) (record { view_is = is; invariant = h })

-- two reads of the same box have the same children
pub children_of : {X : Type 0} (slice : List Branch) (read again held : Inner X) → slice ≡ read.children.items → read ≡ held → again ≡ held
    → slice ≡ again.children.items
children_of slice read again held is same too = subst (λ (i : Inner _). slice ≡ i.children.items) (same ∙ sym too) is

-- the invariant, and what the map is, once the box was written
pub still_node : {X : Type 0} (now made : Inner X) (f : ℕ → ℕ) → now ≡ made → IsNode made.children.items (f made.descendants)
    → IsNode now.children.items (f now.descendants)
still_node now made f same h = subst (λ (i : Inner _). IsNode i.children.items (f i.descendants)) (sym same) h

pub still_groups : {X : Type 0} (P : Groups → Type 0) (now made : Inner X) → now ≡ made → P (groups_of made.attr made.children.items)
    → P (groups_of now.attr now.children.items)
still_groups P now made same h = subst (λ (i : Inner _). P (groups_of i.attr i.children.items)) (sym same) h

-- what is read from the box has the name of the node's number
pub still_named : {X : Type 0} (number : ℕ) (now made : Inner X) → now ≡ made → IsNumberOf made.name number → IsNumberOf now.name number
still_named number now made same h = subst (λ (i : Inner _). IsNumberOf i.name number) (sym same) h

pub copied_named : {X : Type 0} (number : ℕ) (name bytes : Name) (read held : Inner X) → name ≡ bytes → bytes ≡ read.name → read ≡ held
    → IsNumberOf held.name number → IsNumberOf name number
copied_named number name bytes read held same is again h =
    subst (λ n. IsNumberOf n number) (sym (same ∙ is)) (still_named number read held again h)
