-- Pages of cells under a change.
use Rattle.std.proofs.Common.{◌≡◌, ◌≢◌, ℕ, zero, suc, ◌/◌, ◌%◌, ◌<◌, ◌≤◌, true, false, cond, eqb, Option, None, List, [], ◌∷◌, ◌++◌, length}
use Rattle.std.proofs.Common.{get_or, set, refl, sym, ap, ◌∙◌, subst, arith, get_or-set_same, get_or-set_other}
use Rattle.std.proofs.lemmas.Bool.{eqb-true, eqb-false}
use Rattle.std.proofs.lemmas.List.{get_or_past, get_or_read}
use Rattle.process_table.specs.Cells.{cell_at}

-- one element more that is the default changes no read
pub read-padded : {X : Type 0} (xs : List X) (d : X) (k : ℕ) → get_or (xs ++ d ∷ []) k d ≡ get_or xs k d
read-padded [] d zero = refl
read-padded [] d (suc k) = refl
read-padded (x ∷ xs) d zero = refl
read-padded (x ∷ xs) d (suc k) = read-padded xs d k

module _ {X : Type 0} (pages : List (List (Option X))) where
  -- pages that read alike have the same cells
  pub same_cells : (after : List (List (Option X))) → ((p : ℕ) → get_or after p [] ≡ get_or pages p []) → (q : ℕ) → cell_at after q ≡ cell_at pages q
  unfolding cell_at
  same_cells after h q = ap (λ page. get_or page (q % 64) None) (h (q / 64))

  module _ (p : ℕ) (page : List (Option X)) (within : p < length pages) where
    -- a page that reads as the one before it
    pub same_page : ((k : ℕ) → get_or page k None ≡ get_or (get_or pages p []) k None) → (q : ℕ) → cell_at (set pages p page) q ≡ cell_at pages q
    unfolding cell_at
    same_page h q =
        elim (eqb (q / 64) p) as (λ b. eqb (q / 64) p ≡ b → get_or (get_or (set pages p page) (q / 64) []) (q % 64) None ≡ get_or (get_or pages (q / 64) []) (q % 64) None) [
          | true ↦ λ e. rw (eqb-true (q / 64) p e) (rw get_or-set_same (h (q % 64)))
          | false ↦ λ e. let ne : q / 64 ≢ p = eqb-false (q / 64) p e in rw get_or-set_other refl
        ] refl

  -- one cell of one page
  pub one_cell : (pid : ℕ) (v : Option X) → pid / 64 < length pages → get_or (set (get_or pages (pid / 64) []) (pid % 64) v) (pid % 64) None ≡ v
      → (q : ℕ) → cell_at (set pages (pid / 64) (set (get_or pages (pid / 64) []) (pid % 64) v)) q ≡ cond (eqb pid q) v (cell_at pages q)
  unfolding cell_at
  one_cell pid v listed kept q =
      let page = set (get_or pages (pid / 64) []) (pid % 64) v in
      elim (eqb pid q) as (λ b. eqb pid q ≡ b → get_or (get_or (set pages (pid / 64) page) (q / 64) []) (q % 64) None ≡ cond b v (get_or (get_or pages (q / 64) []) (q % 64) None)) [
        | true ↦ λ e. rw (← eqb-true pid q e) (rw get_or-set_same kept)
        | false ↦ λ e.
            let apart : pid ≢ q = eqb-false pid q e in
            elim (eqb (q / 64) (pid / 64)) as (λ b. eqb (q / 64) (pid / 64) ≡ b
            → get_or (get_or (set pages (pid / 64) page) (q / 64) []) (q % 64) None ≡ get_or (get_or pages (q / 64) []) (q % 64) None) [
              | true ↦ λ f.
                  let same : q / 64 ≡ pid / 64 = eqb-true _ _ f in
                  let ne : q % 64 ≢ pid % 64 = omega arith in
                  rw same (rw (get_or-set_same, get_or-set_other) refl)
              | false ↦ λ f. let ne : q / 64 ≢ pid / 64 = eqb-false _ _ f in rw get_or-set_other refl
            ] refl
      ] refl

  -- the pid's page is not listed
  pub no_page : (pid : ℕ) → length pages ≤ pid / 64 → cell_at pages pid ≡ None
  unfolding cell_at
  no_page pid h = rw (get_or_past pages (pid / 64) [] h) refl

  -- then there is nothing to be written
  pub none_there : (pid : ℕ) → length pages ≤ pid / 64 → (v : Option X) → v ≡ None → (q : ℕ) → cell_at pages q ≡ cond (eqb pid q) v (cell_at pages q)
  none_there pid h v e q =
      elim (eqb pid q) as (λ b. eqb pid q ≡ b → cell_at pages q ≡ cond b v (cell_at pages q)) [
        | true ↦ λ t. subst (λ n. cell_at pages n ≡ None) (eqb-true pid q t) (no_page pid h) ∙ sym e
        | false ↦ λ _. refl
      ] refl

module _ {X : Type 0} where
  -- pages that read alike, in the place of one page
  reads_alike : (pages : List (List (Option X))) (p : ℕ) (a b : List (Option X)) → p < length pages
      → ((k : ℕ) → get_or a k None ≡ get_or b k None) → (q : ℕ) → cell_at (set pages p a) q ≡ cell_at (set pages p b) q
  unfolding cell_at
  reads_alike pages p a b within h q =
      elim (eqb (q / 64) p) as (λ e. eqb (q / 64) p ≡ e → get_or (get_or (set pages p a) (q / 64) []) (q % 64) None ≡ get_or (get_or (set pages p b) (q / 64) []) (q % 64) None) [
        | true ↦ λ e.
            let at : q / 64 ≡ p = eqb-true (q / 64) p e in
            let left : get_or (set pages p a) (q / 64) [] ≡ a = rw at (get_or-set_same pages p a [] within) in
            let right : get_or (set pages p b) (q / 64) [] ≡ b = rw at (get_or-set_same pages p b [] within) in
            ap (λ l. get_or l (q % 64) None) left ∙ h (q % 64) ∙ ap (λ l. get_or l (q % 64) None) (sym right)
        | false ↦ λ e.
            let ne : q / 64 ≢ p = eqb-false (q / 64) p e in
            ap (λ l. get_or l (q % 64) None) (get_or-set_other pages p (q / 64) a [] ne ∙ sym (get_or-set_other pages p (q / 64) b [] ne))
      ] refl

  -- a write that reads back
  pub kept_within : (xs : List (Option X)) (k : ℕ) (v : Option X) → k < length xs → get_or (set xs k v) k None ≡ v
  kept_within xs k v h = get_or-set_same xs k v None h

  pub kept_read : (f : Option X → Option X) → f None ≡ None → (xs : List (Option X)) (k : ℕ) → get_or (set xs k (f (get_or xs k None))) k None ≡ f (get_or xs k None)
  kept_read f e [] zero = sym e
  kept_read f e [] (suc k) = sym e
  kept_read f e (x ∷ xs) zero = refl
  kept_read f e (x ∷ xs) (suc k) = kept_read f e xs k

  module _ (pages : List (List (Option X))) (pid : ℕ) (page : List (Option X)) (listed : pid / 64 < length pages) (read : page ≡ get_or pages (pid / 64) page) where
    is_page : get_or pages (pid / 64) [] ≡ page
    is_page = sym (get_or_read pages (pid / 64) page listed read [])

    -- the page that a call reads has the pid's cell
    pub cell_here : get_or page (pid % 64) None ≡ cell_at pages pid
    unfolding cell_at
    cell_here = rw is_page refl

    -- and a write of it is a write of the cell
    pub wrote : (v : Option X) → get_or (set page (pid % 64) v) (pid % 64) None ≡ v → (q : ℕ) → cell_at (set pages (pid / 64) (set page (pid % 64) v)) q ≡ cond (eqb pid q) v (cell_at pages q)
    wrote v kept = subst (λ l. (q : ℕ) → cell_at (set pages (pid / 64) (set l (pid % 64) v)) q ≡ cond (eqb pid q) v (cell_at pages q)) is_page
        (one_cell pages pid v listed (subst (λ l. get_or (set l (pid % 64) v) (pid % 64) None ≡ v) (sym is_page) kept))

    pub wrote_alike : (after : List (Option X)) → ((k : ℕ) → get_or after k None ≡ get_or page k None) → (q : ℕ) → cell_at (set pages (pid / 64) after) q ≡ cell_at pages q
    wrote_alike after h = same_page pages (pid / 64) after listed (λ k. h k ∙ ap (λ l. get_or l k None) (sym is_page))

    -- the same with a page that reads as after the write
    pub wrote_as : (v : Option X) (after : List (Option X)) → get_or (set page (pid % 64) v) (pid % 64) None ≡ v
        → ((k : ℕ) → get_or after k None ≡ get_or (set page (pid % 64) v) k None) → (q : ℕ)
        → cell_at (set pages (pid / 64) after) q ≡ cond (eqb pid q) v (cell_at pages q)
    wrote_as v after kept h q = reads_alike pages (pid / 64) after (set page (pid % 64) v) listed h q ∙ wrote v kept q
