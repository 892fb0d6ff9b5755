-- The groups below a group, name by name.
use Rattle.std.proofs.Common.{◌≡◌, ◌≢◌, refl, ℕ, zero, suc, ◌+◌, ◌-◌, List, [], ◌∷◌, ◌++◌, length, flat_map, true, sym, ap, ◌∙◌, append_assoc, append-nil, length-append, arith}
use Rattle.std.proofs.lemmas.Grind.{flat_map-append}
use Rattle.flat_model.specs.Path.{Name, Path}
use Rattle.flat_model.specs.PathText.{depth_max, path_text}
use Rattle.flat_model.specs.State.{State}
use Rattle.flat_model.specs.Counts.{is_group}
use Rattle.line_engine.specs.Listings.{TellsAll, TellsSubtreeAt, names_below, groups_from, paths_bytes, subtree}
use Rattle.line_engine.proofs.ListingBytes.{told_all}
use Rattle.line_engine.specs.declared.listing.Listing.{Listing}
use Rattle.line_engine.specs.declared.listing.Listing.TheVariants as listing

-- the groups below p at these names, within n levels
abbrev pub groups_under : State → ℕ → Path → List Name → List Path
groups_under s n p names = flat_map (λ name. groups_from s n (p ++ name ∷ [])) names

-- all of them, and p before them
abbrev pub group_and_under : State → ℕ → Path → List Name → List Path
group_and_under s n p names = p ∷ groups_under s n p names

groups_from-levels : (s : State) (n : ℕ) (p : Path) → n ≢ 0 → group_and_under s (n - 1) p (names_below s p) ≡ groups_from s n p
groups_from-levels s zero p some = absurd (some refl)
groups_from-levels s (suc n) p some =
    let e : suc n - 1 ≡ n = omega arith in
    ap (λ m. group_and_under s m p (names_below s p)) e

-- ---- p itself

pub first_bytes : (old one two : List ℕ) (s : State) (n : ℕ) (p : Path) (names it : List Name) → one ≡ old ++ path_text p → two ≡ one ++ 0 ∷ [] → names ≡ names_below s p → it ≡ names
    → two ++ paths_bytes (groups_under s n p it) ≡ old ++ paths_bytes (group_and_under s n p (names_below s p))
first_bytes old one two s n p names it e f these i =
    ap (λ t. t ++ paths_bytes (groups_under s n p it)) (f ∙ ap (λ t. t ++ 0 ∷ []) e ∙ append_assoc old (path_text p) (0 ∷ []))
    ∙ append_assoc old (path_text p ++ 0 ∷ []) (paths_bytes (groups_under s n p it))
    ∙ ap (λ ns. old ++ paths_bytes (group_and_under s n p ns)) (i ∙ these)

pub first_count : (s : State) (n : ℕ) (p : Path) (names it : List Name) → names ≡ names_below s p → it ≡ names
    → 1 + length (groups_under s n p it) ≡ length (group_and_under s n p (names_below s p))
first_count s n p names it these i =
    let e : length (groups_under s n p it) ≡ length (groups_under s n p (names_below s p)) = ap (λ ns. length (groups_under s n p ns)) (i ∙ these) in
    omega (arith, e)

-- ---- one name more

pub more_bytes : (now new goal : List ℕ) (s : State) (n : ℕ) (p child : Path) (name : Name) (it rest : List Name) → it ≡ name ∷ rest
    → child ≡ p ++ name ∷ [] → new ≡ now ++ paths_bytes (groups_from s n child)
    → now ++ paths_bytes (groups_under s n p it) ≡ goal → new ++ paths_bytes (groups_under s n p rest) ≡ goal
more_bytes now new goal s n p child name it rest i c e was =
    ap (λ t. t ++ paths_bytes (groups_under s n p rest)) (e ∙ ap (λ q. now ++ paths_bytes (groups_from s n q)) c)
    ∙ append_assoc now (paths_bytes (groups_from s n (p ++ name ∷ []))) (paths_bytes (groups_under s n p rest))
    ∙ ap (λ t. now ++ t) (sym (flat_map-append (λ p. path_text p ++ 0 ∷ []) (groups_from s n (p ++ name ∷ [])) (groups_under s n p rest)))
    ∙ ap (λ ns. now ++ paths_bytes (groups_under s n p ns)) (sym i)
    ∙ was

pub more_count : (now below goal : ℕ) (s : State) (n : ℕ) (p child : Path) (name : Name) (it rest : List Name) → it ≡ name ∷ rest → child ≡ p ++ name ∷ [] → below ≡ length (groups_from s n child)
    → now + length (groups_under s n p it) ≡ goal → (now + below) + length (groups_under s n p rest) ≡ goal
more_count now below goal s n p child name it rest i c e was =
    let b : below ≡ length (groups_from s n (p ++ name ∷ [])) = e ∙ ap (λ q. length (groups_from s n q)) c in
    let u : length (groups_under s n p it) ≡ length (groups_from s n (p ++ name ∷ [])) + length (groups_under s n p rest) =
    ap (λ ns. length (groups_under s n p ns)) i ∙ length-append (groups_from s n (p ++ name ∷ [])) (groups_under s n p rest) in
    omega (arith, b, u, was)

-- ---- no name is left

pub all_bytes : (old now : List ℕ) (s : State) (n : ℕ) (p : Path) (it : List Name) → n ≢ 0 → it ≡ []
    → now ++ paths_bytes (groups_under s (n - 1) p it) ≡ old ++ paths_bytes (group_and_under s (n - 1) p (names_below s p)) → now ≡ old ++ paths_bytes (groups_from s n p)
all_bytes old now s n p it some i was =
    sym (append-nil now)
    ∙ ap (λ ns. now ++ paths_bytes (groups_under s (n - 1) p ns)) (sym i)
    ∙ was
    ∙ ap (λ ps. old ++ paths_bytes ps) (groups_from-levels s n p some)

pub all_count : (count : ℕ) (s : State) (n : ℕ) (p : Path) (it : List Name) → n ≢ 0 → it ≡ []
    → count + length (groups_under s (n - 1) p it) ≡ length (group_and_under s (n - 1) p (names_below s p)) → count ≡ length (groups_from s n p)
all_count count s n p it some i was =
    let none : length (groups_under s (n - 1) p it) ≡ 0 = ap (λ ns. length (groups_under s (n - 1) p ns)) i in
    omega (arith, none, was, ap (λ ps. length ps) (groups_from-levels s n p some))

-- ---- what a listing of them says

pub told_paths : (s now : State) (p : Path) (old bytes shown out : List ℕ) (count : ℕ) (a : Listing) → now ≡ s → old ≡ []
    → bytes ≡ old ++ paths_bytes (groups_from now (depth_max + 1) p) → count ≡ length (groups_from now (depth_max + 1) p) → shown ≡ bytes
    → TellsAll shown count out a → TellsAll (paths_bytes (subtree s p)) (length (subtree s p)) out a
told_paths s now p old bytes shown out count a n o b c e =
    told_all (paths_bytes (subtree s p)) shown out (length (subtree s p)) count a
    (e ∙ b ∙ ap (λ t. t ++ paths_bytes (groups_from now (depth_max + 1) p)) o ∙ ap (λ u. paths_bytes (groups_from u (depth_max + 1) p)) n)
    (c ∙ ap (λ u. length (groups_from u (depth_max + 1) p)) n)

pub told_subtree : (s : State) (p : Path) (out : List ℕ) (a : Listing) → is_group s p ≡ true → TellsAll (paths_bytes (subtree s p)) (length (subtree s p)) out a → TellsSubtreeAt s p out a
told_subtree s p out (listing.Listed len count) there h = (there, h.0, h.1)
told_subtree s p out listing.NoGroup there h = absurd h
told_subtree s p out listing.BadPath there h = absurd h
told_subtree s p out (listing.TooSmall needed) there h = (there, h)
told_subtree s p out listing.OutOfMemory there h = tt
