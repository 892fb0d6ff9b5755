-- The start: the root alone, and process 1 in it.
use Rattle.std.proofs.Common.{◌≡◌, ℕ, ◌+◌, ◌<◌, ◌≤◌, ◌^◌, Bool, true, false, cond, Option, Some, None, List, [], ◌∷◌, length, IsSome, is_some, refl, sym, ap, ◌∙◌, subst, arith, rules}
use Rattle.std.specs.Cmp.{nat_cmp_total}
use Rattle.std.proofs.lemmas.List.Elements.{All-cons}
use Rattle.std.proofs.lemmas.List.Sums.{sum_by-cons}
use Rattle.pids_charge.proofs.Entries.{to_ascending}
use Rattle.std.specs.Option.{option_map}
use Rattle.std.specs.Ordering.{eq_by_cmp, nat_cmp}
use Rattle.std.specs.FinMap as fin
use Rattle.flat_model.specs.Path.{Path, path_cmp}
use Rattle.flat_model.specs.State.{start, fresh}
use Rattle.flat_model.specs.Mapped.{map_values}
use Rattle.flat_model.proofs.MapValues.{get-map_values}
use Rattle.flat_model.proofs.Maps.{key_of}
use Rattle.flat_model.proofs.PathLaws.{path_cmp-IsTotalOrder, path_cmp-IsAntisymmetric}
use Rattle.group_tree.specs.Groups.{Groups, IsClosed, only_root}
use Rattle.group_tree.specs.Flat.{group_of}
use Rattle.group_tree.specs.declared.attr.Attr.{Attr}
use Rattle.flat_model.specs.CommandText.{IsPid}
use Rattle.pids_charge.specs.Content.{Content, IsEmpty}
use Rattle.pids_charge.specs.Lists.{row_at}
use Rattle.pids_charge.specs.Recount.{AreAllFree, IsWhole, IsPlaced, charges_at, charges_of, state_of}
use Rattle.process_table.specs.declared.process.Process.{Process}

get-root : {X : Type 0} (a : X) (p : Path) → fin.get (fin.insert (fin.empty {R = path_cmp}) [] a) p ≡ cond (eq_by_cmp path_cmp p []) (Some a) None
get-root {X} a p = fin.get-insert path_cmp-IsTotalOrder fin.empty [] a p ∙ ap (cond (eq_by_cmp path_cmp p []) (Some a)) (fin.get-empty {X = X} path_cmp p)

-- there is no group but the root
pub alone : (a : Attr) (p : Path) → IsSome (fin.get (only_root a) p) → p ≡ []
alone a p i =
    elim (eq_by_cmp path_cmp p []) as (λ b. eq_by_cmp path_cmp p [] ≡ b → fin.get (only_root a) p ≡ cond b (Some a) None → p ≡ []) [
      | true ↦ λ t e. key_of path_cmp-IsAntisymmetric p [] t
      | false ↦ λ t e. let none = subst IsSome e i in cc
    ] refl (get-root a p)

over : (b : Bool) (a : Attr) → option_map group_of (cond b (Some a) None) ≡ cond b (Some (group_of a)) None
over true a = refl
over false a = refl

one_home : fin.from_sorted {R = nat_cmp} ((1, []) ∷ []) ≡ start.home
one_home = fin.same_map nat_cmp_total fin.nat_cmp-IsAntisymmetric _ _ (λ k.
    fin.get-from_sorted nat_cmp ((1, []) ∷ []) k tt
    ∙ sym (fin.get-insert nat_cmp_total (fin.empty {X = Path} {R = nat_cmp}) 1 [] k ∙ ap (cond (eq_by_cmp nat_cmp k 1) (Some [])) (fin.get-empty {X = Path} nat_cmp k)))

module _ {A : Type 0} (a : Attr) (tree : Groups) (is : tree ≡ only_root a) (x : Process A) (home : x.home ≡ []) where
  root_group : group_of a ≡ fresh → map_values group_of tree ≡ start.groups
  root_group f = fin.same_map path_cmp-IsTotalOrder path_cmp-IsAntisymmetric _ _ (λ q.
      get-map_values group_of tree q ∙ ap (λ (t : Groups). option_map group_of (fin.get t q)) is
      ∙ ap (option_map group_of) (get-root a q)
      ∙ over (eq_by_cmp path_cmp q []) a ∙ ap (λ y. cond (eq_by_cmp path_cmp q []) (Some y) None) f
      ∙ sym (get-root fresh q))

  pub start-is : group_of a ≡ fresh → state_of tree ((1, x) ∷ []) ≡ start
  start-is f =
      (λ i. record { groups = root_group f i; home = fin.from_sorted {R = nat_cmp} ((1, home i) ∷ []) })
      ∙ ap (λ h. record { groups = start.groups; home = h }) one_home

  lone : (p : Path) → IsSome (fin.get tree p) → p ≡ []
  lone p i = alone a p (subst (λ (t : Groups). IsSome (fin.get t p)) is i)

  one_group : fin.len tree ≡ 1
  one_group = ap (λ (t : Groups). fin.len t) is ∙ fin.len-insert path_cmp-IsTotalOrder fin.empty [] a
      ∙ ap (λ (o : Option Attr). cond (is_some o) (fin.len (fin.empty {X = Attr} {R = path_cmp}))
      (fin.len (fin.empty {X = Attr} {R = path_cmp}) + 1)) (fin.get-empty path_cmp []) ∙ ap (λ n. n + 1) (fin.len-empty path_cmp Attr)

  pub started : (slots leaves capacity : ℕ) (free : List ℕ) (content : Content) (held : ℕ)
      → IsClosed tree → AreAllFree slots free → slots < 2 ^ 16 → slots ≤ capacity → IsEmpty content held → x.row ≡ 0 → x.leaf ≡ 0 → 1 ≤ leaves
      → IsWhole slots leaves tree ((1, x) ∷ []) free capacity content held
  started slots leaves capacity free content held closed h few room empty row leaf some = record {
    has_slots = record {
      few = few;
      closed = closed;
      shallow = λ p i. omega (arith, ap length (lone p i));
      below = λ p pos i. absurd (omega (arith, pos, ap length (lone p i)));
      apart = λ p q pos more i j e. lone p i ∙ sym (lone q j);
      once = h.once;
      in_range = h.in_range;
      unused = λ p pos i. absurd (omega (arith, pos, ap length (lone p i)));
      whole = omega (arith, one_group, h.many);
    };
    room = room;
    recounted = record {
      ordered = to_ascending ((1, x) ∷ []) tt;
      pids = All-cons IsPid 1 [] (omega arith, omega arith) (search rules);
      placed = All-cons (λ p. IsPlaced leaves tree p) x []
          (record {
            home = subst (λ (q : Path). IsSome (fin.get tree q)) (sym home) closed.root;
            row = row ∙ sym (ap (row_at tree) home);
            leaf_below = omega (arith, leaf);
          }) (search rules);
      counted = λ s j. let none : charges_at tree x.home x.leaf s j ≡ 0 = ap (λ (q : Path). charges_at tree q x.leaf s j) home in
          omega (arith, empty.nothing s j, none, sum_by-cons (λ p. charges_of tree p s j) x []);
      held_is = omega (arith, empty.none, ap length home, sum_by-cons (λ p. length p.home) x []);
    };
  }
