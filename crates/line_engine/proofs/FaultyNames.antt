-- Where the first name with a fault begins.
use Rattle.std.proofs.Common.{◌≡◌, ℕ, ◌+◌, ◌<◌, ◌≤◌, true, false, cond, not, nat_lt, List, [], ◌∷◌, length, drop, get_or, sum_by, refl, ap, sym, ◌∙◌, arith, is_some, length-append}
use Rattle.std.specs.List.{position_or_len, slice_split}
use Rattle.std.proofs.lemmas.Bool.Decides.{nat_tests}
use Rattle.std.proofs.lemmas.List.Sums.{fails_before_first, passes_at_first, sum_by-append, prefix_len-le-length, sum_by_more, sum_by_more_le}
use Rattle.flat_model.specs.Path.{Name}
use Rattle.flat_model.specs.PathText.{is_slash, depth_max, spelled, name_fault, names_in}
use Rattle.flat_model.proofs.PathTextLaws.{glued}
use Rattle.line_engine.specs.PathFaults.{place_of_name, first_faulty, faulty_name}

-- ---- the names of a text

pub names_cut : (text : List ℕ) → 2 ≤ length text → slice_split is_slash (drop 1 text) ≡ names_in text
names_cut [] h = absurd (omega arith)
names_cut (b ∷ []) h = absurd (omega arith)
names_cut (b ∷ c ∷ bytes) h = refl

length-spelled : (names : List Name) → length (spelled names) ≡ sum_by (λ name. length name + 1) names
length-spelled [] = refl
length-spelled (name ∷ names) = omega (arith, length-append name (spelled names), length-spelled names, sum_by-append (λ name. length name + 1) (name ∷ []) names)

-- the k-th name and a slash end within the text, and a byte
pub within : (text : List ℕ) (k : ℕ) (name : Name) → 2 ≤ length text → k < length (names_in text) → name ≡ get_or (names_in text) k name
    → place_of_name (names_in text) k + (length name + 1) ≤ length text + 1
within [] k name h lt e = absurd (omega arith)
within (b ∷ []) k name h lt e = absurd (omega arith)
within (b ∷ c ∷ bytes) k name h lt e =
    let names = slice_split is_slash (c ∷ bytes) in
    omega (arith, sum_by_more_le (λ name. length name + 1) names k name lt, ap (λ name. length name) e, length-spelled names, ap (λ xs. length xs) (glued (c ∷ bytes)))

-- ---- from name to name

pub place_more : (names : List Name) (k at : ℕ) (name : Name) → k < length names → name ≡ get_or names k name → at ≡ place_of_name names k
    → at + (length name + 1) ≡ place_of_name names (k + 1)
place_more names k at name lt e h = omega (arith, sum_by_more (λ name. length name + 1) names k name lt, ap (λ name. length name) e)

pub faultless_more : (names : List Name) (k : ℕ) (name : Name) → k < length names → name ≡ get_or names k name → is_some (name_fault 0 name) ≡ false
    → k ≤ position_or_len (λ name. is_some (name_fault 0 name)) names → k + 1 ≤ position_or_len (λ name. is_some (name_fault 0 name)) names
faultless_more names k name lt e f h =
    grind (arith, passes_at_first (λ name. is_some (name_fault 0 name)) names name)

-- ---- the end

found_at : (names : List Name) (k at : ℕ) → first_faulty names ≡ k → k < length names → at ≡ place_of_name names k → at ≡ faulty_name names
found_at names k at e lt h =
    let t : nat_lt k (length names) ≡ true = grind (arith, nat_tests) in
    h
    ∙ sym (ap (λ b. cond b (place_of_name names k) 0) t)
    ∙ sym (ap (λ first. cond (nat_lt first (length names)) (place_of_name names first) 0) e)

pub too_many : (names : List Name) (k at : ℕ) → k < length names → k ≤ position_or_len (λ name. is_some (name_fault 0 name)) names → k ≡ depth_max
    → at ≡ place_of_name names k → at ≡ faulty_name names
too_many names k at lt h e p = found_at names k at (omega arith) lt p

pub at_fault : (names : List Name) (k at : ℕ) (name : Name) → k < length names → name ≡ get_or names k name → is_some (name_fault 0 name) ≡ true
    → k ≤ position_or_len (λ name. is_some (name_fault 0 name)) names → k ≤ depth_max → at ≡ place_of_name names k → at ≡ faulty_name names
at_fault names k at name lt e f h few p = found_at names k at
    (grind (arith, fails_before_first (λ name. is_some (name_fault 0 name)) names k name)) lt p

pub all_faultless : (names : List Name) → length names ≤ position_or_len (λ name. is_some (name_fault 0 name)) names → length names ≤ depth_max → 0 ≡ faulty_name names
all_faultless names h few =
    let first = first_faulty names in
    let e : first ≡ length names = omega (arith, prefix_len-le-length (λ name. not (is_some (name_fault 0 name))) names) in
    let t : nat_lt first (length names) ≡ false = grind (arith, nat_tests) in
    sym (ap (λ b. cond b (place_of_name names first) 0) t)
