-- What the workers give, one after the other.
use Rattle.std.proofs.Common.{◌≡◌, ◌∙◌, ℕ, zero, suc, ◌+◌, ◌*◌, ◌≤◌, ◌<◌, List, [], ◌∷◌, ◌++◌, drop, length, sym, ap, subst, arith, slice_index_or, Result, Ok, Err, IfOk}
use Rattle.std.specs.List.{flat_map, sum_by}
use Rattle.std.proofs.Math.Nat.{add-mul}
use Rattle.std.proofs.lemmas.List.{take-append-drop, drop-drop, drop_all}
use Rattle.std.proofs.lemmas.List.Sums.{sum_by-cons}
use Rattle.std.specs.declared.alloc.AllocError.{AllocError}
use Rattle.replay_main.specs.RangeResults.{IsRun}
use Rattle.replay_main.specs.Script.{run_of}

-- where the work from each worker on begins with what that worker gives
pub runs_join : {X Z : Type 0} {post : ℕ → Result X AllocError → Type 0} (v : X → List Z) (rest part : ℕ → List Z) (xs : List X) (from end : ℕ)
    → IsRun post from end xs → ((i : ℕ) (x : X) → i < end → post i (Ok x) → v x ≡ part i)
    → ((i : ℕ) → rest i ≡ part i ++ rest (i + 1)) → rest end ≡ [] → flat_map v xs ≡ rest from
runs_join v rest part [] from end run each step last =
    let same : end ≡ from = omega (arith, run.len) in
    sym (ap (λ k. rest k) (sym same) ∙ last)
runs_join {X} {Z} {post} v rest part (x ∷ xs) from end run each step last =
    let inside : from < end = omega (arith, run.len) in
    let here : from + zero ≡ from = omega arith in
    let P : ℕ → Type 0 = λ n. post n (Ok x) in
    let first : v x ≡ part from = each from x inside (subst P here (run.each zero x (omega arith))) in
    let tail : IsRun post (from + 1) end xs = record {
      len = omega (arith, run.len);
      each = λ i d lt. let Q : ℕ → Type 0 = λ n. post n (Ok (slice_index_or xs i d)) in subst Q (omega arith) (run.each (suc i) d (omega (arith, lt)));
    } in
    let behind : flat_map v xs ≡ rest (from + 1) = runs_join v rest part xs (from + 1) end tail each step last in
    ap (λ t. v x ++ t) behind ∙ ap (λ t. t ++ rest (from + 1)) first ∙ sym (step from)

pub next_start : (size i : ℕ) → (i + 1) * size ≡ i * size + size
next_start size i = let a = add-mul i 1 size in omega (arith, a)

-- what is left from a worker on: its run, and what is left behind it
pub cut_run : {Y : Type 0} (size i : ℕ) (ys : List Y) → drop (i * size) ys ≡ run_of size i ys ++ drop ((i + 1) * size) ys
cut_run size i ys =
    sym (take-append-drop size (drop (i * size) ys))
    ∙ ap (λ t. run_of size i ys ++ t) (drop-drop size (i * size) ys ∙ ap (λ n. drop n ys) (sym (next_start size i)))

-- a map of lists that keeps joins, run by run
pub parts_join : {X Y Z : Type 0} {post : ℕ → Result X AllocError → Type 0} (v : X → List Z) (f : List Y → List Z) (ys : List Y) (size k : ℕ) (xs : List X)
    → ((fs bs : List Y) → f (fs ++ bs) ≡ f fs ++ f bs) → f [] ≡ [] → length ys ≤ k * size
    → IsRun post 0 k xs → ((i : ℕ) (x : X) → i < k → post i (Ok x) → v x ≡ f (run_of size i ys)) → flat_map v xs ≡ f ys
parts_join v f ys size k xs joins empty enough run each =
    let start : 0 * size ≡ 0 = omega arith in
    runs_join v (λ i. f (drop (i * size) ys)) (λ i. f (run_of size i ys)) xs 0 k run each
    (λ i. ap (λ t. f t) (cut_run size i ys) ∙ joins (run_of size i ys) (drop ((i + 1) * size) ys))
    (ap (λ t. f t) (drop_all (k * size) ys enough) ∙ empty)
    ∙ ap (λ n. f (drop n ys)) start

-- the sum of what all workers count
pub runs_sum : {X : Type 0} {post : ℕ → Result X AllocError → Type 0} (v : X → ℕ) (rest part : ℕ → ℕ) (xs : List X) (from end : ℕ)
    → IsRun post from end xs → ((i : ℕ) (x : X) → i < end → post i (Ok x) → v x ≡ part i)
    → ((i : ℕ) → rest i ≡ part i + rest (i + 1)) → rest end ≡ 0 → sum_by v xs ≡ rest from
runs_sum v rest part [] from end run each step last =
    let same : end ≡ from = omega (arith, run.len) in
    sym (ap (λ k. rest k) (sym same) ∙ last)
runs_sum {X} {post} v rest part (x ∷ xs) from end run each step last =
    let inside : from < end = omega (arith, run.len) in
    let here : from + zero ≡ from = omega arith in
    let P : ℕ → Type 0 = λ n. post n (Ok x) in
    let first : v x ≡ part from = each from x inside (subst P here (run.each zero x (omega arith))) in
    let tail : IsRun post (from + 1) end xs = record {
      len = omega (arith, run.len);
      each = λ i d lt. let Q : ℕ → Type 0 = λ n. post n (Ok (slice_index_or xs i d)) in subst Q (omega arith) (run.each (suc i) d (omega (arith, lt)));
    } in
    let behind : sum_by v xs ≡ rest (from + 1) = runs_sum v rest part xs (from + 1) end tail each step last in
    let all = sum_by-cons v x xs in
    let on = step from in
    omega (arith, all, behind, first, on)

-- what an Ok gives, if it gives anything
pub ok_gives : {X E : Type 0} (r : Result X E) (P Q : X → Type 0) → IfOk r P → ((x : X) → P x → Q x) → IfOk r Q
ok_gives (Ok x) P Q p f = f x p
ok_gives (Err e) P Q p f = tt
