-- Rows in order under a change of one of them.
use Rattle.std.proofs.Common.{◌≡◌, ◌≢◌, ℕ, zero, suc, ◌+◌, ◌<◌, ◌≤◌, Bool, true, false, cond, eqb, Option, Some, None, List, ◌∷◌, map, filter, count_by, refl, sym, ap, ◌∙◌, subst, arith}
use Rattle.std.specs.declared.cmp.Ordering.TheVariants.{Less, Equal, Greater}
use Rattle.std.specs.Ordering.{nat_cmp}
use Rattle.std.specs.List.{AllByRecursion}
use Rattle.std.specs.List.Sorted.{IsStrictlySortedBy}
use Rattle.std.specs.Map.{keys_of, lookup, remove_entry}
use Rattle.std.specs.BTreeMap.{is_at, insert_entry}
use Rattle.std.proofs.lemmas.Bool.{eqb-true, eqb-false, eq-eqb, ne_eqb, lt-ltb, le-ltb}
use Rattle.process_table.specs.Rows.{cons_row, rows_from}
use Rattle.flat_model.proofs.Sums.{count_by-cons}

-- ---- the order of two numbers
pub cmp_less : (a b : ℕ) → a < b → nat_cmp a b ≡ Less
cmp_less a b h = rw (lt-ltb a b h) refl

pub cmp_same : (a : ℕ) → nat_cmp a a ≡ Equal
cmp_same a = rw (le-ltb a a (omega arith), eq-eqb a a refl) refl

pub cmp_greater : (a b : ℕ) → b < a → nat_cmp a b ≡ Greater
cmp_greater a b h = rw (le-ltb a b (omega arith), ne_eqb a b (omega arith)) refl

pub count-same : (q x : ℕ) (xs : List ℕ) → eqb q x ≡ true → count_by (eqb q) (x ∷ xs) ≡ 1 + count_by (eqb q) xs
count-same q x xs e = let weight : Bool → ℕ = λ b. cond b 1 0 in let one : weight (eqb q x) ≡ 1 = ap weight e in omega (arith, count_by-cons (eqb q) x xs, one)

pub count-other : (q x : ℕ) (xs : List ℕ) → eqb q x ≡ false → count_by (eqb q) (x ∷ xs) ≡ count_by (eqb q) xs
count-other q x xs e = let weight : Bool → ℕ = λ b. cond b 1 0 in let none : weight (eqb q x) ≡ 0 = ap weight e in omega (arith, count_by-cons (eqb q) x xs, none)

module _ {X : Type 0} where
  -- 1 where the row of q passes, else 0
  abbrev pub counted : (ℕ × X → Bool) → ℕ → Option X → ℕ
  counted p q None = 0
  counted p q (Some x) = cond (p (q, x)) 1 0

  -- ---- what reads alike from k on has the same rows
  pub alike_from : (f g : ℕ → Option X) (k n : ℕ) → ((r : ℕ) → k ≤ r → g r ≡ f r) → rows_from g k n ≡ rows_from f k n
  unfolding rows_from
  alike_from f g k zero h = refl
  alike_from f g k (suc n) h = rw (h k (omega arith), alike_from f g (suc k) n (λ r le. h r (omega arith))) refl

  pub alike : (f g : ℕ → Option X) (k n : ℕ) → ((r : ℕ) → g r ≡ f r) → rows_from g k n ≡ rows_from f k n
  alike f g k n h = alike_from f g k n (λ r _. h r)

  module _ (f : ℕ → Option X) where
    -- ---- a number below all rows
    found_below : (q k n : ℕ) → q < k → lookup (is_at (nat_cmp q)) (rows_from f k n) ≡ None
    unfolding rows_from
    found_below q k zero h = refl
    found_below q k (suc n) h =
        let rest = found_below q (suc k) n (omega arith) in
        elim (f k) as (λ o. lookup (is_at (nat_cmp q)) (cons_row k o (rows_from f (suc k) n)) ≡ None) [ None ↦ rest | Some x ↦ rw (cmp_less q k h) rest ]

    put_below : (q : ℕ) (x : X) (k n : ℕ) → q < k → insert_entry nat_cmp (rows_from f k n) q x ≡ (q, x) ∷ rows_from f k n
    unfolding rows_from
    put_below q x k zero h = refl
    put_below q x k (suc n) h =
        let rest = put_below q x (suc k) n (omega arith) in
        elim (f k) as (λ o. insert_entry nat_cmp (cons_row k o (rows_from f (suc k) n)) q x ≡ (q, x) ∷ cons_row k o (rows_from f (suc k) n)) [ None ↦ rest | Some y ↦ rw (cmp_less q k h) refl ]

    taken_below : (q k n : ℕ) → q < k → remove_entry (is_at (nat_cmp q)) (rows_from f k n) ≡ rows_from f k n
    unfolding rows_from
    taken_below q k zero h = refl
    taken_below q k (suc n) h =
        let rest = taken_below q (suc k) n (omega arith) in
        elim (f k) as (λ o. remove_entry (is_at (nat_cmp q)) (cons_row k o (rows_from f (suc k) n)) ≡ cons_row k o (rows_from f (suc k) n)) [ None ↦ rest | Some y ↦ rw (cmp_less q k h, rest) refl ]

    counted_below : (p : ℕ × X → Bool) (q k n : ℕ) → q < k → count_by (eqb q) (map (λ e. e.0) (filter p (rows_from f k n))) ≡ 0
    unfolding rows_from
    counted_below p q k zero h = refl
    counted_below p q k (suc n) h =
        let rest = counted_below p q (suc k) n (omega arith) in
        let other : eqb q k ≡ false = ne_eqb q k (omega arith) in
        let count : List (ℕ × X) → ℕ = λ es. count_by (eqb q) (map (λ e. e.0) es) in
        elim (f k) as (λ o. count (filter p (cons_row k o (rows_from f (suc k) n))) ≡ 0) [
          | None ↦ rest
          | Some y ↦ elim (p (k, y)) as (λ b. count (cond b ((k, y) ∷ filter p (rows_from f (suc k) n)) (filter p (rows_from f (suc k) n))) ≡ 0) [
            | true ↦ count-other q k (map (λ e. e.0) (filter p (rows_from f (suc k) n))) other ∙ rest
            | false ↦ rest
          ]
        ]

    above : (j k n : ℕ) → j < k → AllByRecursion (λ y. nat_cmp j y ≡ Less) (keys_of (rows_from f k n))
    unfolding rows_from
    above j k zero h = tt
    above j k (suc n) h =
        let rest = above j (suc k) n (omega arith) in
        elim (f k) as (λ o. AllByRecursion (λ y. nat_cmp j y ≡ Less) (keys_of (cons_row k o (rows_from f (suc k) n)))) [ None ↦ rest | Some x ↦ (cmp_less j k h, rest) ]

    -- ---- rows ascend
    pub rows_ascend : (k n : ℕ) → IsStrictlySortedBy nat_cmp (keys_of (rows_from f k n))
    unfolding rows_from IsStrictlySortedBy
    rows_ascend k zero = tt
    rows_ascend k (suc n) =
        let rest = rows_ascend (suc k) n in
        elim (f k) as (λ o. IsStrictlySortedBy nat_cmp (keys_of (cons_row k o (rows_from f (suc k) n)))) [ None ↦ rest | Some x ↦ (above k (suc k) n (omega arith), rest) ]

    -- and their keys are numbers that are asked
    pub rows_within : (k n : ℕ) → AllByRecursion (λ y. y < k + n) (keys_of (rows_from f k n))
    unfolding rows_from
    rows_within k zero = tt
    rows_within k (suc n) =
        let rest = subst (λ m. AllByRecursion (λ y. y < m) (keys_of (rows_from f (suc k) n))) (omega arith) (rows_within (suc k) n) in
        elim (f k) as (λ o. AllByRecursion (λ y. y < k + suc n) (keys_of (cons_row k o (rows_from f (suc k) n)))) [ None ↦ rest | Some x ↦ (omega arith, rest) ]

    -- ---- what is read of a number
    pub rows_found : (q k n : ℕ) → k ≤ q → (k + n ≤ q → f q ≡ None) → lookup (is_at (nat_cmp q)) (rows_from f k n) ≡ f q
    unfolding rows_from
    rows_found q k zero le past = sym (past (omega arith))
    rows_found q k (suc n) le past =
        elim (eqb q k) as (λ b. eqb q k ≡ b → lookup (is_at (nat_cmp q)) (cons_row k (f k) (rows_from f (suc k) n)) ≡ f q) [
          | true ↦ λ e.
              rw (eqb-true q k e) (elim (f k) as (λ o. lookup (is_at (nat_cmp k)) (cons_row k o (rows_from f (suc k) n)) ≡ o)
              [ None ↦ found_below k (suc k) n (omega arith) | Some x ↦ rw (cmp_same k) refl ])
          | false ↦ λ e.
              let ne : q ≢ k = eqb-false q k e in
              let rest = rows_found q (suc k) n (omega arith) (λ h. past (omega arith)) in
              elim (f k) as (λ o. lookup (is_at (nat_cmp q)) (cons_row k o (rows_from f (suc k) n)) ≡ f q) [ None ↦ rest | Some x ↦ rw (cmp_greater q k (omega arith)) rest ]
        ] refl

    pub rows_counted : (p : ℕ × X → Bool) (q k n : ℕ) → k ≤ q → (k + n ≤ q → f q ≡ None) → count_by (eqb q) (map (λ e. e.0) (filter p (rows_from f k n))) ≡ counted p q (f q)
    unfolding rows_from
    rows_counted p q k zero le past = rw (past (omega arith)) refl
    rows_counted p q k (suc n) le past =
        let count : List (ℕ × X) → ℕ = λ es. count_by (eqb q) (map (λ e. e.0) es) in
        elim (eqb q k) as (λ b. eqb q k ≡ b → count (filter p (cons_row k (f k) (rows_from f (suc k) n))) ≡ counted p q (f q)) [
          | true ↦ λ e.
              let same : q ≡ k = eqb-true q k e in
              let rest = counted_below p q (suc k) n (omega arith) in
              subst (λ j. count (filter p (cons_row j (f j) (rows_from f (suc k) n))) ≡ counted p q (f q)) same
              (elim (f q) as (λ o. count (filter p (cons_row q o (rows_from f (suc k) n))) ≡ counted p q o) [
                | None ↦ rest
                | Some x ↦ elim (p (q, x)) as (λ b. count (cond b ((q, x) ∷ filter p (rows_from f (suc k) n)) (filter p (rows_from f (suc k) n))) ≡ cond b 1 0) [
                  | true ↦ let one = count-same q q (map (λ e. e.0) (filter p (rows_from f (suc k) n))) (eq-eqb q q refl) in omega (arith, one, rest)
                  | false ↦ rest
                ]
              ])
          | false ↦ λ e.
              let ne : q ≢ k = eqb-false q k e in
              let rest = rows_counted p q (suc k) n (omega arith) (λ h. past (omega arith)) in
              elim (f k) as (λ o. count (filter p (cons_row k o (rows_from f (suc k) n))) ≡ counted p q (f q)) [
                | None ↦ rest
                | Some x ↦ elim (p (k, x)) as (λ b. count (cond b ((k, x) ∷ filter p (rows_from f (suc k) n)) (filter p (rows_from f (suc k) n))) ≡ counted p q (f q)) [
                  | true ↦ count-other q k (map (λ e. e.0) (filter p (rows_from f (suc k) n))) e ∙ rest
                  | false ↦ rest
                ]
              ]
        ] refl

  -- ---- one row more, or another one
  pub rows_put : (f g : ℕ → Option X) (q : ℕ) (x : X) → g q ≡ Some x → ((r : ℕ) → r ≢ q → g r ≡ f r) → (k n : ℕ) → k ≤ q → q < k + n → rows_from g k n ≡ insert_entry nat_cmp (rows_from f k n) q x
  unfolding rows_from
  rows_put f g q x here others k zero le lt = absurd (omega arith)
  rows_put f g q x here others k (suc n) le lt =
      elim (eqb q k) as (λ b. eqb q k ≡ b → cons_row k (g k) (rows_from g (suc k) n) ≡ insert_entry nat_cmp (cons_row k (f k) (rows_from f (suc k) n)) q x) [
        | true ↦ λ e.
            let same : q ≡ k = eqb-true q k e in
            let rest = alike_from f g (suc k) n (λ r h. others r (omega arith)) in
            subst (λ j. cons_row j (g j) (rows_from g (suc k) n) ≡ insert_entry nat_cmp (cons_row j (f j) (rows_from f (suc k) n)) q x) same
            (rw (here, rest) (elim (f q) as (λ o. (q, x) ∷ rows_from f (suc k) n
            ≡ insert_entry nat_cmp (cons_row q o (rows_from f (suc k) n)) q x) [
              | None ↦ sym (put_below f q x (suc k) n (omega arith))
              | Some y ↦ rw (cmp_same q) refl
            ]))
        | false ↦ λ e.
            let ne : k ≢ q = λ h. eqb-false q k e (sym h) in
            let greater = cmp_greater q k (omega arith) in
            rw (others k ne, rows_put f g q x here others (suc k) n (omega arith) (omega arith))
            (elim (f k) as (λ o. cons_row k o (insert_entry nat_cmp (rows_from f (suc k) n) q x)
            ≡ insert_entry nat_cmp (cons_row k o (rows_from f (suc k) n)) q x) [ None ↦ refl | Some y ↦ rw greater refl ])
      ] refl

  -- ---- one row less
  pub rows_taken : (f g : ℕ → Option X) (q : ℕ) → g q ≡ None → ((r : ℕ) → r ≢ q → g r ≡ f r) → (k n : ℕ) → k ≤ q → rows_from g k n ≡ remove_entry (is_at (nat_cmp q)) (rows_from f k n)
  unfolding rows_from
  rows_taken f g q here others k zero le = refl
  rows_taken f g q here others k (suc n) le =
      elim (eqb q k) as (λ b. eqb q k ≡ b → cons_row k (g k) (rows_from g (suc k) n) ≡ remove_entry (is_at (nat_cmp q)) (cons_row k (f k) (rows_from f (suc k) n))) [
        | true ↦ λ e.
            let same : q ≡ k = eqb-true q k e in
            let rest = alike_from f g (suc k) n (λ r h. others r (omega arith)) in
            subst (λ j. cons_row j (g j) (rows_from g (suc k) n) ≡ remove_entry (is_at (nat_cmp q)) (cons_row j (f j) (rows_from f (suc k) n))) same
            (rw (here, rest) (elim (f q) as (λ o. rows_from f (suc k) n
            ≡ remove_entry (is_at (nat_cmp q)) (cons_row q o (rows_from f (suc k) n)))
            [ None ↦ sym (taken_below f q (suc k) n (omega arith)) | Some y ↦ rw (cmp_same q) refl ]))
        | false ↦ λ e.
            let ne : k ≢ q = λ h. eqb-false q k e (sym h) in
            let greater = cmp_greater q k (omega arith) in
            rw (others k ne, rows_taken f g q here others (suc k) n (omega arith))
            (elim (f k) as (λ o. cons_row k o (remove_entry (is_at (nat_cmp q)) (rows_from f (suc k) n))
            ≡ remove_entry (is_at (nat_cmp q)) (cons_row k o (rows_from f (suc k) n))) [ None ↦ refl | Some y ↦ rw greater refl ])
      ] refl
