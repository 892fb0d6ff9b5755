-- Processes whose groups are those of a list, one for each row.
use Rattle.std.proofs.Common.{◌≡◌, ℕ, Some, Result, Ok, Err, OnOk, OnErr, List, [], get_or, sym, ap, ◌∙◌, subst}
use Rattle.std.specs.BTreeMap.{is_at, insert_entry}
use Rattle.std.specs.List.{All}
use Rattle.std.specs.Map.{values_of, lookup}
use Rattle.std.specs.Option.{IfSome}
use Rattle.std.specs.Ordering.{nat_cmp}
use Rattle.std.proofs.lemmas.Map.Views.{IfSome-lookup_from_All, All-values-insert_entry}
use Rattle.flat_model.specs.Path.{Path}
use Rattle.process_table.specs.declared.process.Process.{Process}
use Rattle.process_table.specs.Chosen.{HaveOneHome}

module _ {A : Type 0} (homes : List Path) (rows : List (ℕ × Process A)) (all : All (λ p. p.home ≡ get_or homes p.row []) (values_of rows)) where
  its_home : (q : ℕ) (x : Process A) → lookup (is_at (nat_cmp q)) rows ≡ Some x → x.home ≡ get_or homes x.row []
  its_home q x is = subst (λ o. IfSome o (λ p. p.home ≡ get_or homes p.row [])) is (IfSome-lookup_from_All (λ p. p.home ≡ get_or homes p.row []) (is_at (nat_cmp q)) rows all)

  pub one_home : HaveOneHome (λ q. lookup (is_at (nat_cmp q)) rows)
  one_home p q x y a b same = its_home p x a ∙ ap (λ s. get_or homes s []) same ∙ sym (its_home q y b)

module _ {A E X : Type 0} (homes : List Path) (old new : List (ℕ × Process A)) (pid : ℕ) (x : Process A)
    (all : All (λ p. p.home ≡ get_or homes p.row []) (values_of old)) (here : x.home ≡ get_or homes x.row []) where
  -- a process that was put in, or was not
  pub put_homed : (r : Result X E) → OnOk r (new ≡ insert_entry nat_cmp old pid x) → OnErr r (new ≡ old) → All (λ p. p.home ≡ get_or homes p.row []) (values_of new)
  put_homed (Ok o) e f = subst (λ es. All (λ p. p.home ≡ get_or homes p.row []) (values_of es)) (sym e) (All-values-insert_entry nat_cmp pid x (λ p. p.home ≡ get_or homes p.row []) old all here)
  put_homed (Err o) e f = subst (λ es. All (λ p. p.home ≡ get_or homes p.row []) (values_of es)) (sym f) all
