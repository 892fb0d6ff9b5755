-- Processes by row, charges, and event totals.
use Rattle.std.proofs.Common.{◌≡◌, ◌≢◌, ◌↔◌, ℕ, zero, suc, ◌+◌, ◌-◌, ◌<◌, ◌≤◌, ◌^◌, Bool, true, false, cond, ◌&&◌, eqb, List, [], ◌∷◌, ◌++◌, map, length, Option, Some, None, is_some, refl, sym, ap, subst, ◌∙◌, arith}
use Rattle.std.proofs.lemmas.Bool.Decides.{nat_tests}
use Rattle.std.proofs.lemmas.List.{length-map}
use Rattle.std.proofs.lemmas.Option.{same_Some}
use Rattle.std.specs.Prelude.{option_map}
use Rattle.std.specs.FinMap.{get}
use Rattle.flat_model.specs.Command.{OverPidsMax}
use Rattle.flat_model.specs.Counts.{is_group}
use Rattle.flat_model.specs.Path.{Path, same_path}
use Rattle.flat_model.specs.State.{Attr, State, start}
use Rattle.flat_model.specs.Step.{after_refusal, count_up, counts_for}
use Rattle.flat_model.proofs.Maps.{get-each}
use Rattle.flat_model.proofs.PathLaws.{path_cmp-IsTotalOrder, path_cmp-IsAntisymmetric, same_path_itself}
use Rattle.flat_model.proofs.Reachable.{only_root, some_attr}
use Rattle.process_table.specs.Chosen.{HaveOneHome, chosen_at, member_at}
use Rattle.process_table.specs.declared.process.Process.{Process}
use Rattle.snzi_tokens.specs.Listed.{one_at, over_leaves}
use Rattle.pids_charge.specs.Content.{Content, IsEmpty}
use Rattle.pids_charge.specs.Events.{HasEvents, HasRoomForEvents}
use Rattle.pids_charge.specs.Lists.{row_of, rows_of}
use Rattle.pids_charge.specs.declared.lost.Lost.{Lost}
use Rattle.charge_laws.specs.Tables.{two}

-- ---- processes of a row

-- who has a pid is x or y
who : (x y z : Process ℕ) (q : ℕ) (P : Process ℕ → Type 0) → P x → P y → two x y q ≡ Some z → P z
who x y z q P px py e =
    elim (eqb q 1) as (λ b. cond b (Some x) (cond (eqb q 2) (Some y) None) ≡ Some z → P z) [
      | true ↦ λ h. subst P (same_Some x z h) px
      | false ↦ elim (eqb q 2) as (λ b. cond b (Some y) None ≡ Some z → P z) [ true ↦ λ h. subst P (same_Some y z h) py | false ↦ λ h. cc ]
    ] e

pub one_home : (x y : Process ℕ) → x.row ≡ y.row → HaveOneHome (two x y) ↔ (x.home ≡ y.home)
one_home x y s = (
  λ h. h 1 2 x y refl refl s,
  λ e p q v w hp hq _.
      who x y v p (λ (z : Process ℕ). z.home ≡ y.home) e refl hp ∙ sym (who x y w q (λ (z : Process ℕ). z.home ≡ y.home) e refl hq),
)

-- two processes of the slots of x and y that have one slot are the same one
apart_is : (x y v w : Process ℕ) (p q : ℕ) → x.row ≢ y.row → two x y p ≡ Some v → two x y q ≡ Some w → v.row ≡ w.row → v.home ≡ w.home
apart_is x y v w p q n hp hq =
    who x y v p (λ (a : Process ℕ). a.row ≡ w.row → a.home ≡ w.home)
    (who x y w q (λ (b : Process ℕ). x.row ≡ b.row → x.home ≡ b.home) (λ _. refl) (λ e. absurd (n e)) hq)
    (who x y w q (λ (b : Process ℕ). y.row ≡ b.row → y.home ≡ b.home) (λ e. absurd (n (sym e))) (λ _. refl) hq)
    hp

pub any_home : (x y : Process ℕ) → x.row ≢ y.row → HaveOneHome (two x y)
any_home x y n p q v w hp hq e = apart_is x y v w p q n hp hq e

abbrev flag : Bool → ℕ
flag b = cond b 1 0

pub member_is : (s : ℕ) (x : Process ℕ) → (member_at s (Some x) ≡ 1) ↔ (x.row ≡ s)
member_is s x =
    elim (eqb x.row s) as (λ b. eqb x.row s ≡ b → (flag b ≡ 1) ↔ (x.row ≡ s)) [
      | true ↦ λ t. (λ _. grind (arith, nat_tests), λ _. refl)
      | false ↦ λ t. (λ e. absurd (omega (arith, e)), λ e. grind (arith, nat_tests))
    ] refl

pub member_once : (s : ℕ) (o : Option (Process ℕ)) → member_at s o ≤ 1
member_once s None = omega arith
member_once s (Some x) = elim (eqb x.row s) as (λ b. cond b 1 0 ≤ 1) [ true ↦ omega arith | false ↦ omega arith ]

pub all_members : (s : ℕ) (o : Option (Process ℕ)) → chosen_at s [] o ≡ member_at s o
all_members s None = refl
all_members s (Some x) = refl

-- ---- charges

pub empty_is : (c : Content) (held n s : ℕ) → IsEmpty c held → (over_leaves n (c s) ≡ 0) × (held ≡ 0)
empty_is c held zero s e = (refl, e.none)
empty_is c held (suc n) s e = (omega (arith, (empty_is c held n s e).0, e.nothing s n), e.none)

itself : (n : ℕ) → eqb n n ≡ true
itself n = grind (arith, nat_tests)

charged_once : (s j : ℕ) → one_at s j s j ≡ 1
charged_once s j = (λ i. cond (itself s i && itself j i) 1 0)

pub charged_is : (held s j : ℕ) → IsEmpty (one_at s j) held → ⊥
charged_is held s j e = omega (arith, e.nothing s j, charged_once s j)

pub counted_is : IsEmpty (λ s j. 0) 1 → ⊥
counted_is e = omega (arith, e.none)

-- ---- lists of lost processes

pub rows_joined : (ls ms : List (Lost ℕ)) → rows_of (ls ++ ms) ≡ rows_of ls ++ rows_of ms
rows_joined [] ms = refl
rows_joined (l ∷ ls) ms = ap (λ rs. row_of l ∷ rs) (rows_joined ls ms)

pub as_many : (ls : List (Lost ℕ)) → length (rows_of ls) ≡ length ls
as_many ls = length-map ls row_of

-- ---- event totals

pub start_has_room : HasRoomForEvents start
start_has_room p attr h = subst (λ (a : Attr). (a.local < 2 ^ 64 - 1) × (a.total < 2 ^ 64 - 1)) (only_root p attr h).1 (omega arith, omega arith)

pub full_is : (s : State) (p : Path) (a : Attr) → get s.groups p ≡ Some a → a.total ≡ 18446744073709551615 → HasRoomForEvents s → ⊥
full_is s p a g e r = omega (arith, (r p a g).1, e)

pub full_locally_is : (s : State) (p : Path) (a : Attr) → get s.groups p ≡ Some a → a.local ≡ 18446744073709551615 → HasRoomForEvents s → ⊥
full_locally_is s p a g e r = omega (arith, (r p a g).0, e)

pub next_is : (s : State) (p : Path) (a : Attr) → get s.groups p ≡ Some a → HasRoomForEvents s → (a.local + 1 < 2 ^ 64) × (a.total + 1 < 2 ^ 64)
next_is s p a g r = (omega (arith, (r p a g).0), omega (arith, (r p a g).1))

-- what a refused fork leaves of a group
counted : (s : State) (a p : Path) → get (after_refusal s (OverPidsMax a)).groups p ≡ option_map (count_up a p) (get s.groups p)
counted s a p = get-each path_cmp-IsTotalOrder path_cmp-IsAntisymmetric (count_up a) s.groups p

was : (a p : Path) (o : Option Attr) (y : Attr) → option_map (count_up a p) o ≡ Some y → (x : Attr) × (count_up a p x ≡ y)
was a p None y e = cc
was a p (Some x) y e = (x, same_Some (count_up a p x) y e)

-- a number with one more is positive
one_more : (n m : ℕ) (b : Bool) → b ≡ true → n + cond b 1 0 ≡ m → 0 < m
one_more n m b t e = let one : n + 1 ≡ m = ap (λ (c : Bool). n + cond c 1 0) (sym t) ∙ e in omega (arith, one)

some_mapped : (a : Path) (o : Option Attr) → is_some o ≡ true → is_some (option_map (count_up a a) o) ≡ true
some_mapped a None e = e
some_mapped a (Some x) e = refl

pub refused_is : (s : State) (a : Path) → is_group s a ≡ true → HasEvents (after_refusal s (OverPidsMax a)) a
refused_is s a g = record {
  there = ap is_some (counted s a a) ∙ some_mapped a (get s.groups a) g;
  local = λ attr h.
      let x = was a a (get s.groups a) attr (sym (counted s a a) ∙ h) in
      one_more x.0.local attr.local (same_path a a) (same_path_itself a) (ap (λ (y : Attr). y.local) x.1);
  total = λ p attr h c.
      let x = was a p (get s.groups p) attr (sym (counted s a p) ∙ h) in
      one_more x.0.total attr.total (counts_for a p) c (ap (λ (y : Attr). y.total) x.1);
}

pub none_is : (a : Path) → HasEvents start a → ⊥
none_is a h =
    let x = some_attr (get start.groups a) h.there in
    let zero_local : 0 ≡ x.0.local = ap (λ (y : Attr). y.local) (only_root a x.0 x.1).1 in
    omega (arith, h.local x.0 x.1, zero_local)
