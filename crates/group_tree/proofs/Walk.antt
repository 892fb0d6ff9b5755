-- One step down the tree, as an answer at a return needs it.
use Rattle.std.proofs.Common.{◌≡◌, ℕ, List, [], ◌∷◌, get_or, ap, sym, ◌∙◌, Ok, Err, Some, None}
use Rattle.std.specs.FinMap as fin
use Rattle.flat_model.specs.Path.{Name, Path}
use Rattle.group_tree.specs.declared.attr.Attr.{Attr}
use Rattle.group_tree.specs.Node.{Branch, groups_of, HasAscendingNames, place_of}
use Rattle.group_tree.proofs.Children.{found, missing, get_root, get_child}

pub find_here : (attr : Attr) (kids : List Branch) (b : Branch) (nm : Name) (names : Path)
    → ◌≡◌ {A = Branch} (record { name = nm; groups = groups_of attr kids }) b → HasAscendingNames kids → names ≡ []
    → Some attr ≡ fin.get b.groups names
find_here attr kids b nm names is ascending e = sym (get_root attr kids ascending) ∙ ap (λ (c : Branch). fin.get c.groups []) is ∙ ap (fin.get b.groups) (sym e)

pub find_down : (attr : Attr) (kids slice : List Branch) (b kid : Branch) (nm : Name) (names : Path) (n : Name) (p : Path) (i : ℕ)
    → ◌≡◌ {A = Branch} (record { name = nm; groups = groups_of attr kids }) b → HasAscendingNames kids → names ≡ n ∷ p
    → Ok i ≡ place_of n slice → slice ≡ kids → kid ≡ get_or kids i kid → fin.get kid.groups p ≡ fin.get b.groups names
find_down attr kids slice b kid nm names n p i is ascending e at s item =
    let f = found n kids i (ap (place_of n) (sym s) ∙ sym at) in
    ap (λ (k : Branch). fin.get k.groups p) item ∙ sym (f.has kid p) ∙ sym (get_child attr kids n p ascending) ∙ ap (λ (c : Branch). fin.get c.groups (n ∷ p)) is ∙ ap (fin.get b.groups) (sym e)

pub find_none : (attr : Attr) (kids slice : List Branch) (b : Branch) (nm : Name) (names : Path) (n : Name) (p : Path) (i : ℕ)
    → ◌≡◌ {A = Branch} (record { name = nm; groups = groups_of attr kids }) b → HasAscendingNames kids → names ≡ n ∷ p
    → Err i ≡ place_of n slice → slice ≡ kids → None ≡ fin.get b.groups names
find_none attr kids slice b nm names n p i is ascending e at s =
    sym (missing n kids i p ascending (ap (place_of n) (sym s) ∙ sym at)) ∙ sym (get_child attr kids n p ascending) ∙ ap (λ (c : Branch). fin.get c.groups (n ∷ p)) is ∙ ap (fin.get b.groups) (sym e)
