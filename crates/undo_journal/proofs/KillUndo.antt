-- The processes that a kill took can be put back.
use Rattle.std.proofs.Common.{◌≡◌, ℕ, Bool, true, false, T, cond, not, eqb, List, [], ◌∷◌, map, Some, None, refl, sym, ap, subst, ◌∙◌, rules}
use Rattle.std.specs.Prelude.{IsSome}
use Rattle.std.specs.Ordering.{nat_cmp, is_lt}
use Rattle.std.specs.Cmp.{nat_cmp_total, tied_itself}
use Rattle.std.specs.List.{All, AllByRecursion, IsDistinct}
use Rattle.std.specs.FinMap.{get, retain_keys, entries_sorted, nat_cmp-IsAntisymmetric, get-entries, get-retain_keys}
use Rattle.std.specs.FinMap.Entries.{find, is_sorted, below_all}
use Rattle.std.proofs.lemmas.Bool.{eqb-true}
use Rattle.std.proofs.lemmas.List.Elements.{All-head, All-tail, All-cons, All-weaker}
use Rattle.flat_model.specs.Path.{Path}
use Rattle.flat_model.specs.State.{State}
use Rattle.flat_model.specs.Command.{Kill}
use Rattle.flat_model.specs.Step.{after, lives_in}
use Rattle.flat_model.specs.Inverse.{Killed, lost}
use Rattle.flat_model.specs.WellFormed.{WellFormed}
use Rattle.pids_charge.specs.Lists.{row_of, rows_of}
use Rattle.pids_charge.specs.declared.lost.Lost.{Lost}
use Rattle.undo_journal.specs.History.{IsReady}
use Rattle.flat_model.proofs.Booleans.{first, second}
use Rattle.pids_charge.proofs.Entries.{found_each}

-- ---- rows whose numbers ascend

less_apart : (k q : ℕ) → T (is_lt (nat_cmp k q)) → eqb k q ≡ false
less_apart k q h = by (eqb k q) refl
  where
    by : (b : Bool) → eqb k q ≡ b → b ≡ false
    by true t = absurd (subst (λ o. T (is_lt o)) (ap (nat_cmp k) (sym (eqb-true k q t)) ∙ tied_itself nat_cmp_total k) h)
    by false t = refl

all_apart : (k : ℕ) (rs : List (ℕ × Path)) → T (below_all nat_cmp k rs) → AllByRecursion (λ y. eqb k y ≡ false) (map (λ e. e.0) rs)
all_apart k [] h = tt
all_apart k (e ∷ rs) h = (less_apart k e.0 (first _ _ h), all_apart k rs (second _ _ h))

-- and no two have the same
apart_each : (rs : List (ℕ × Path)) → T (is_sorted nat_cmp rs) → IsDistinct eqb (map (λ e. e.0) rs)
unfolding IsDistinct
apart_each [] h = tt
apart_each (e ∷ rs) h = (all_apart e.0 rs (first _ _ h), apart_each rs (second _ _ h))

-- ---- what a kill took

module _ (slots : ℕ) (t : State) (w : WellFormed slots t) (g : Path) where
  abbrev Left : ℕ × Path → Type 0
  Left e = (lives_in t g e.0 ≡ true) × (get t.home e.0 ≡ Some e.1)

  kept_is : (p : ℕ → Bool) (pid : ℕ) → get (retain_keys t.home p) pid ≡ cond (p pid) (get t.home pid) None
  kept_is p pid = get-retain_keys t.home p pid (λ x e. ap p (sym (nat_cmp-IsAntisymmetric pid x e)))

  left_by : (e : ℕ × Path) (b : Bool) → lives_in t g e.0 ≡ b → cond b (get t.home e.0) None ≡ Some e.1 → Left e
  left_by e true is h = (is, h)
  left_by e false is h = cc

  left_is : (e : ℕ × Path) → find nat_cmp e.0 (lost t g) ≡ Some e.1 → Left e
  left_is e f = left_by e (lives_in t g e.0) refl (sym (kept_is (lives_in t g) e.0) ∙ get-entries (retain_keys t.home (lives_in t g)) e.0 ∙ f)

  left : All Left (lost t g)
  left = All-weaker (λ e. find nat_cmp e.0 (lost t g) ≡ Some e.1) Left left_is (lost t g) (found_each (lost t g) (entries_sorted (retain_keys t.home (lives_in t g))))

  gone_is : (e : ℕ × Path) → Left e → get (after t (Kill g)).home e.0 ≡ None
  gone_is e l = kept_is (λ pid. not (lives_in t g pid)) e.0 ∙ ap (λ b. cond (not b) (get t.home e.0) None) l.0

  pub killed_ready : IsReady slots (after t (Kill g)) (Killed (lost t g))
  killed_ready = (
    All-weaker Left (λ e. get (after t (Kill g)).home e.0 ≡ None) gone_is (lost t g) left,
    apart_each (lost t g) (entries_sorted (retain_keys t.home (lives_in t g))),
    All-weaker Left (λ e. IsSome (get t.groups e.1)) (λ e l. w.homes e.0 e.1 l.1) (lost t g) left,
  )

-- ---- a list of lost processes, read as rows

module _ {A : Type 0} where
  pub each_row : (P : ℕ × Path → Type 0) (ls : List (Lost A)) → All P (rows_of ls) → All (λ l. P (row_of l)) ls
  each_row P [] h = search rules
  each_row P (l ∷ ls) h = All-cons (λ x. P (row_of x)) l ls (All-head P (row_of l) (rows_of ls) h) (each_row P ls (All-tail P (row_of l) (rows_of ls) h))

  pub pids_of : (ls : List (Lost A)) → map (λ e. e.0) (rows_of ls) ≡ map (λ l. l.pid) ls
  pids_of [] = refl
  pids_of (l ∷ ls) = ap (λ (ns : List ℕ). l.pid ∷ ns) (pids_of ls)
