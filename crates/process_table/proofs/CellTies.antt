-- The cells and the lists stay tied when a process comes, changes its row or leaves.
use Rattle.std.proofs.Common.{◌≡◌, ◌≢◌, ℕ, zero, suc, ◌+◌, ◌<◌, ◌≤◌, Bool, true, false, cond, eqb, Option, Some, None, List, [], ◌∷◌, ◌++◌}
use Rattle.std.proofs.Common.{length, count_by, get_or, refl, sym, ap, ◌∙◌, subst, arith, length-append}
use Rattle.std.specs.Option.{option_map}
use Rattle.std.proofs.lemmas.Bool.{eqb-true, eqb-false, eq-eqb, ne_eqb}
use Rattle.std.proofs.lemmas.List.{get_or_append_left, get_or_push}
use Rattle.process_table.specs.declared.process.Cell.{Cell}
use Rattle.process_table.specs.Cells.{at_place}
use Rattle.process_table.specs.Rows.{pid_count}
use Rattle.process_table.specs.Members.{list_at, IsAt, IsRead, HasLeft}
use Rattle.process_table.specs.Tied.{in_row, owed, IsTied, Owes}
use Rattle.process_table.proofs.RowLaws.{count-same}
use Rattle.flat_model.proofs.Sums.{count_by-cons, count_by-append}
use Rattle.process_table.proofs.SameNumbers.{count-IsPermutation}

-- ---- lists of numbers
pub count-push : (q x : ℕ) (xs : List ℕ) → count_by (eqb q) (xs ++ x ∷ []) ≡ count_by (eqb q) xs + cond (eqb q x) 1 0
count-push q x xs = let e = count_by-cons (eqb q) x [] in omega (arith, count_by-append (eqb q) xs (x ∷ []), e)

pub count-at : (xs : List ℕ) (k q : ℕ) → IsAt xs k q → 0 < count_by (eqb q) xs
count-at [] k q h = absurd (omega (arith, h.within))
count-at (x ∷ xs) zero q h = let e = count-same q x xs (eq-eqb q x (sym h.here)) in omega (arith, e)
count-at (x ∷ xs) (suc k) q h =
    let rest = count-at xs k q (record { within = omega (arith, h.within); here = h.here }) in
    let e = count_by-cons (eqb q) x xs in
    omega (arith, e, rest)

abbrev pub one_if : Bool → ℕ
one_if b = cond b 1 0

pub not_owed : (row p s q : ℕ) → q ≢ p → owed row p s q ≡ 0
not_owed row p s q ne = rw (ne_eqb q p ne) refl

pub same_either_way : (b : Bool) (n : ℕ) → cond b n n ≡ n
same_either_way true n = refl
same_either_way false n = refl

-- what holds of one number, and of each other
at_or_apart : {p : ℕ} {P : ℕ → Type 0} → P p → ((q : ℕ) → q ≢ p → P q) → (q : ℕ) → P q
at_or_apart {p} {P} here apart q = elim (eqb q p) as (λ b. eqb q p ≡ b → P q) [ true ↦ λ e. subst P (sym (eqb-true q p e)) here | false ↦ λ e. apart q (eqb-false q p e) ] refl

-- a place that stays
still_at : (xs ys : List ℕ) (place : ℕ) (moved : Option ℕ) (k q : ℕ) → HasLeft xs place moved ys → IsAt xs k q → k ≢ place → k ≢ length ys → IsAt ys k q
still_at xs ys place moved k q h at ne last =
    let within : k < length ys = omega (arith, h.fewer, at.within) in
    record { within = within; here = h.stay k ne within ∙ at.here }

module _ {X : Type 0} where
  -- a write of one number, by its cases
  pub written : (f g : ℕ → Option X) (p : ℕ) (v : Option X) → ((q : ℕ) → g q ≡ cond (eqb p q) v (f q)) → g p ≡ v
  written f g p v h = h p ∙ rw (eq-eqb p p refl) refl

  pub unwritten : (f g : ℕ → Option X) (p : ℕ) (v : Option X) → ((q : ℕ) → g q ≡ cond (eqb p q) v (f q)) → (q : ℕ) → q ≢ p → g q ≡ f q
  unwritten f g p v h q ne = let other : eqb p q ≡ false = ne_eqb p q (λ e. ne (sym e)) in h q ∙ rw other refl

module _ {A : Type 0} where
  -- a cell that counts in a row is in it
  pub its_row : (s : ℕ) (c : Cell A) → 0 < in_row s (Some c) → c.process.row ≡ s
  its_row s c h =
      elim (eqb c.process.row s) as (λ b. eqb c.process.row s ≡ b → 0 < cond b 1 0 → c.process.row ≡ s) [
        | true ↦ λ e _. eqb-true c.process.row s e
        | false ↦ λ _ l. absurd (omega (arith, l))
      ] refl h

  same_row : (s place : ℕ) (o : Option (Cell A)) → in_row s (option_map (at_place place) o) ≡ in_row s o
  same_row s place None = refl
  same_row s place (Some c) = refl

  pub is_owed : (s p : ℕ) (c : Cell A) → owed c.process.row p s p ≡ in_row s (Some c)
  is_owed s p c = rw (eq-eqb p p refl) refl

  -- ---- a pid leaves a list
  module _ (cells : ℕ → Option (Cell A)) (lists after : List (List ℕ)) (row place p : ℕ) (moved : Option ℕ)
      (o : Owes cells lists row place p) (left : HasLeft (list_at lists row) place moved (list_at after row)) (others : (s : ℕ) → s ≢ row → list_at after s ≡ list_at lists s) where
    -- the list without it
    fewer_counts : (q : ℕ) → count_by (eqb q) (list_at lists row) ≡ cond (eqb q p) 1 0 + count_by (eqb q) (list_at after row)
    fewer_counts q =
        sym (count-IsPermutation q _ _ left.others)
        ∙ count_by-cons (eqb q) (get_or (list_at lists row) place 0) (list_at after row)
        ∙ ap (λ x. cond (eqb q x) 1 0 + count_by (eqb q) (list_at after row)) o.here.here

    left_counts : (s q : ℕ) → count_by (eqb q) (list_at after s) ≡ in_row s (cells q)
    left_counts s q =
        elim (eqb s row) as (λ b. eqb s row ≡ b → count_by (eqb q) (list_at after s) ≡ in_row s (cells q)) [
          | true ↦ λ e.
              let mine : owed row p row q ≡ one_if (eqb q p) = ap (λ b. cond (eqb q p) (one_if b) 0) (eq-eqb row row refl) in
              subst (λ t. count_by (eqb q) (list_at after t) ≡ in_row t (cells q)) (sym (eqb-true s row e)) (omega (arith, fewer_counts q, o.counted row q, mine))
          | false ↦ λ e.
              let ne : s ≢ row = eqb-false s row e in
              let apart : row ≢ s = λ h. ne (sym h) in
              let none : owed row p s q ≡ 0 = ap (λ b. cond (eqb q p) (one_if b) 0) (ne_eqb row s apart) ∙ same_either_way (eqb q p) 0 in
              ap (count_by (eqb q)) (others s ne) ∙ omega (arith, o.counted s q, none)
        ] refl

    -- another pid of that row does not stand at the place
    elsewhere : (q : ℕ) (c : Cell A) → cells q ≡ Some c → c.process.row ≡ row → c.place ≢ place
    elsewhere q c is same at =
        let there : IsAt (list_at lists row) place q = subst (λ n. IsAt (list_at lists row) n q) at (subst (λ t. IsAt (list_at lists t) c.place q) same (o.placed q c is)) in
        let it : p ≡ q = sym o.here.here ∙ there.here in
        o.elsewhere c (ap cells it ∙ is) same at

    -- a pid that the last one of the list is not
    stays : (q : ℕ) (c : Cell A) → cells q ≡ Some c → (c.process.row ≡ row → c.place ≢ length (list_at after row)) → IsAt (list_at after c.process.row) c.place q
    stays q c is last =
        elim (eqb c.process.row row) as (λ b. eqb c.process.row row ≡ b → IsAt (list_at after c.process.row) c.place q) [
          | true ↦ λ e.
              let same : c.process.row ≡ row = eqb-true c.process.row row e in
              subst (λ t. IsAt (list_at after t) c.place q) (sym same)
              (still_at (list_at lists row) (list_at after row) place moved c.place q left (subst (λ t. IsAt (list_at lists t) c.place q) same (o.placed q c is)) (elsewhere q c is same) (last same))
          | false ↦ λ e. subst (λ l. IsAt l c.place q) (sym (others c.process.row (eqb-false c.process.row row e))) (o.placed q c is)
        ] refl

    -- no other pid comes to the place
    pub left_alone : moved ≡ None → IsTied cells after
    left_alone none = record {
      counted = left_counts;
      placed = λ q c is. stays q c is (λ same at.
          let past : length (list_at after row) ≤ place = subst (IsRead (list_at after row) place) none left.comes in
          elsewhere q c is same (omega (arith, past, at, left.fewer, o.here.within)));
      few = o.few;
    }

    module _ (m : ℕ) (some : moved ≡ Some m) where
      stands : IsAt (list_at after row) place m
      stands = subst (IsRead (list_at after row) place) some left.comes

      -- the pid that comes to the place
      came : (c : Cell A) → cells m ≡ Some c → IsAt (list_at after c.process.row) place m
      came c is =
          let positive : 0 < in_row row (cells m) = subst (λ n. 0 < n) (left_counts row m) (count-at (list_at after row) place m stands) in
          subst (λ t. IsAt (list_at after t) place m) (sym (its_row row c (subst (λ r. 0 < in_row row r) is positive))) stands

      pub left_moved : (changed : ℕ → Option (Cell A)) → ((q : ℕ) → changed q ≡ cond (eqb m q) (option_map (at_place place) (cells m)) (cells q)) → IsTied changed after
      left_moved changed h = record {
        counted = λ s q. left_counts s q ∙ sym (counts s q);
        placed = places;
        few = fews;
      }
        where
          counts : (s q : ℕ) → in_row s (changed q) ≡ in_row s (cells q)
          counts s q =
              elim (eqb m q) as (λ b. eqb m q ≡ b → in_row s (changed q) ≡ in_row s (cells q)) [
                | true ↦ λ e. let it : m ≡ q = eqb-true m q e in
                    subst (λ r. in_row s (changed r)
                    ≡ in_row s (cells r)) it (ap (in_row s) (written cells changed m (option_map (at_place place) (cells m)) h)
                    ∙ same_row s place (cells m))
                | false ↦ λ e. ap (in_row s) (unwritten cells changed m (option_map (at_place place) (cells m)) h q (λ it. eqb-false m q e (sym it)))
              ] refl

          mapped : (o : Option (Cell A)) (c : Cell A) → cells m ≡ o → option_map (at_place place) o ≡ Some c → IsAt (list_at after c.process.row) c.place m
          mapped None c is e = cc
          mapped (Some d) c is e = let it : at_place place d ≡ c = cc in subst (λ (c : Cell A). IsAt (list_at after c.process.row) c.place m) it (came d is)

          places : (q : ℕ) (c : Cell A) → changed q ≡ Some c → IsAt (list_at after c.process.row) c.place q
          places q c is =
              elim (eqb m q) as (λ b. eqb m q ≡ b → IsAt (list_at after c.process.row) c.place q) [
                | true ↦ λ e.
                    let it : m ≡ q = eqb-true m q e in
                    let new : option_map (at_place place) (cells m) ≡ Some c = sym (written cells changed m (option_map (at_place place) (cells m)) h) ∙ ap changed it ∙ is in
                    subst (λ r. IsAt (list_at after c.process.row) c.place r) it (mapped (cells m) c refl new)
                | false ↦ λ e.
                    let ne = eqb-false m q e in
                    let was : cells q ≡ Some c = sym (unwritten cells changed m (option_map (at_place place) (cells m)) h q (λ it. ne (sym it))) ∙ is in
                    stays q c was (λ same at.
                    let there : IsAt (list_at lists row) c.place q = subst (λ t. IsAt (list_at lists t) c.place q) same (o.placed q c was) in
                    ne (sym stands.here ∙ left.last stands.within ∙ ap (λ n. get_or (list_at lists row) n 0) (sym at) ∙ there.here))
              ] refl

          fews : (q : ℕ) → pid_count ≤ q → changed q ≡ None
          fews q h2 =
              elim (eqb m q) as (λ b. eqb m q ≡ b → changed q ≡ None) [
                | true ↦ λ e. let it : m ≡ q = eqb-true m q e in
                    subst (λ r. changed r ≡ None) it (written cells changed m (option_map (at_place place) (cells m)) h
                    ∙ ap (option_map (at_place place)) (o.few m (subst (λ n. pid_count ≤ n) (sym it) h2)))
                | false ↦ λ e. unwritten cells changed m (option_map (at_place place) (cells m)) h q (λ it. eqb-false m q e (sym it)) ∙ o.few q h2
              ] refl

  -- ---- a pid goes out of the cells
  pub taken_owes : (cells changed : ℕ → Option (Cell A)) (lists : List (List ℕ)) (p : ℕ) (c : Cell A) → IsTied cells lists
      → cells p ≡ Some c → ((q : ℕ) → changed q ≡ cond (eqb p q) None (cells q)) → Owes changed lists c.process.row c.place p
  taken_owes cells changed lists p c t is h = record { counted = counts; placed = places; few = fews; here = t.placed p c is; elsewhere = λ d e _ _. cc gone }
    where
      gone : changed p ≡ None
      gone = written cells changed p None h

      counts : (s q : ℕ) → count_by (eqb q) (list_at lists s) ≡ in_row s (changed q) + owed c.process.row p s q
      counts s = at_or_apart {p = p} {P = λ q. count_by (eqb q) (list_at lists s) ≡ in_row s (changed q) + owed c.process.row p s q}
          (omega (arith, t.counted s p, ap (in_row s) is, ap (in_row s) gone, is_owed s p c))
          (λ q ne. omega (arith, t.counted s q, ap (in_row s) (unwritten cells changed p None h q ne), not_owed c.process.row p s q ne))

      places : (q : ℕ) (d : Cell A) → changed q ≡ Some d → IsAt (list_at lists d.process.row) d.place q
      places = at_or_apart {p = p} {P = λ q. (d : Cell A) → changed q ≡ Some d → IsAt (list_at lists d.process.row) d.place q}
          (λ d e. cc gone)
          (λ q ne d e. t.placed q d (sym (unwritten cells changed p None h q ne) ∙ e))

      fews : (q : ℕ) → pid_count ≤ q → changed q ≡ None
      fews = at_or_apart {p = p} {P = λ q. pid_count ≤ q → changed q ≡ None} (λ _. gone) (λ q ne le. unwritten cells changed p None h q ne ∙ t.few q le)

  -- ---- a pid comes to the end of the list of a row
  module _ (cells changed : ℕ → Option (Cell A)) (lists after : List (List ℕ)) (p : ℕ) (d : Cell A) (t : IsTied cells lists) (small : p < pid_count)
      (place : d.place ≡ length (list_at lists d.process.row))
      (pushed : (s : ℕ) → list_at after s ≡ cond (eqb d.process.row s) (list_at lists s ++ p ∷ []) (list_at lists s))
      (h : (q : ℕ) → changed q ≡ cond (eqb p q) (Some d) (cells q)) where
    new : changed p ≡ Some d
    new = written cells changed p (Some d) h

    count_after : (s q : ℕ) → count_by (eqb q) (list_at after s) ≡ count_by (eqb q) (list_at lists s) + cond (eqb d.process.row s) (cond (eqb q p) 1 0) 0
    count_after s q =
        ap (count_by (eqb q)) (pushed s)
        ∙ elim (eqb d.process.row s) as (λ b. count_by (eqb q) (cond b (list_at lists s ++ p ∷ []) (list_at lists s))
        ≡ count_by (eqb q) (list_at lists s) + cond b (cond (eqb q p) 1 0) 0)
        [ true ↦ count-push q p (list_at lists s) | false ↦ omega arith ]

    -- what p was counted as, and what it is counted as
    counts_here : (s : ℕ) → count_by (eqb p) (list_at after s) ≡ in_row s (cells p) + in_row s (changed p)
    counts_here s =
        let joins : ℕ → ℕ = λ q. cond (eqb d.process.row s) (one_if (eqb q p)) 0 in
        let one : joins p ≡ one_if (eqb d.process.row s) = ap (λ b. cond (eqb d.process.row s) (one_if b) 0) (eq-eqb p p refl) in
        omega (arith, count_after s p, t.counted s p, one, ap (in_row s) new)

    counts_apart : (s q : ℕ) → q ≢ p → count_by (eqb q) (list_at after s) ≡ in_row s (changed q)
    counts_apart s q ne =
        let joins : ℕ → ℕ = λ q. cond (eqb d.process.row s) (one_if (eqb q p)) 0 in
        let none : joins q ≡ 0 = ap (λ b. cond (eqb d.process.row s) (one_if b) 0) (ne_eqb q p ne) ∙ same_either_way (eqb d.process.row s) 0 in
        omega (arith, count_after s q, t.counted s q, none, ap (in_row s) (unwritten cells changed p (Some d) h q ne))

    longer : (s k q : ℕ) → IsAt (list_at lists s) k q → IsAt (list_at after s) k q
    longer s k q at = subst (λ l. IsAt l k q) (sym (pushed s)) (elim (eqb d.process.row s) as (λ b. IsAt (cond b (list_at lists s ++ p ∷ []) (list_at lists s)) k q) [
      | true ↦ record { within = omega (arith, at.within, length-append (list_at lists s) (p ∷ [])); here = get_or_append_left (list_at lists s) (p ∷ []) 0 k at.within ∙ at.here }
      | false ↦ at
    ])

    at_end : IsAt (list_at after d.process.row) d.place p
    at_end = subst (λ l. IsAt l d.place p) (sym (pushed d.process.row
        ∙ ap (λ b. cond b (list_at lists d.process.row ++ p ∷ []) (list_at lists d.process.row))
        (eq-eqb d.process.row d.process.row refl)))
        (record { within = omega (arith, place, length-append (list_at lists d.process.row) (p ∷ [])); here = get_or_push (list_at lists d.process.row) p 0 d.place (sym place) })

    places : (q : ℕ) (e : Cell A) → changed q ≡ Some e → IsAt (list_at after e.process.row) e.place q
    places = at_or_apart {p = p} {P = λ q. (e : Cell A) → changed q ≡ Some e → IsAt (list_at after e.process.row) e.place q}
        (λ e f. let it : d ≡ e = cc new in subst (λ (e : Cell A). IsAt (list_at after e.process.row) e.place p) it at_end)
        (λ q ne e f. longer e.process.row e.place q (t.placed q e (sym (unwritten cells changed p (Some d) h q ne) ∙ f)))

    fews : (q : ℕ) → pid_count ≤ q → changed q ≡ None
    fews = at_or_apart {p = p} {P = λ q. pid_count ≤ q → changed q ≡ None} (λ le. absurd (omega (arith, le))) (λ q ne le. unwritten cells changed p (Some d) h q ne ∙ t.few q le)

    pub new_tied : cells p ≡ None → IsTied changed after
    new_tied none = record {
      counted = λ s. at_or_apart {p = p} {P = λ q. count_by (eqb q) (list_at after s) ≡ in_row s (changed q)} (omega (arith, counts_here s, ap (in_row s) none)) (counts_apart s);
      placed = places;
      few = fews;
    }

    pub new_owes : (c : Cell A) → cells p ≡ Some c → Owes changed after c.process.row c.place p
    new_owes c is = record {
      counted = λ s. at_or_apart {p = p} {P = λ q. count_by (eqb q) (list_at after s) ≡ in_row s (changed q) + owed c.process.row p s q}
          (omega (arith, counts_here s, ap (in_row s) is, is_owed s p c))
          (λ q ne. omega (arith, counts_apart s q ne, not_owed c.process.row p s q ne));
      placed = places;
      few = fews;
      here = longer c.process.row c.place p (t.placed p c is);
      elsewhere = λ e f same at.
          let it : d ≡ e = cc new in
          let row : d.process.row ≡ c.process.row = ap (λ (x : Cell A). x.process.row) it ∙ same in
          let end : d.place ≡ c.place = ap (λ (x : Cell A). x.place) it ∙ at in
          let long = ap (λ (n : ℕ). length (list_at lists n)) row in
          omega (arith, place, end, long, (t.placed p c is).within);
    }
