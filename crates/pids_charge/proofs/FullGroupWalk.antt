-- The walk from a path upward to the nearest full group.
use Rattle.std.proofs.Common.{◌≡◌, ℕ, suc, zero, ◌+◌, ◌<◌, ◌≤◌, ◌&&◌, Bool, true, false, not, cond, ltb, Option, Some, None, IsSome, List}
use Rattle.std.proofs.Common.{[], ◌∷◌, ◌++◌, map, length, take, option_map, refl, sym, ap, ◌∙◌, add-one, arith}
use Rattle.std.specs.Option.{option_or}
use Rattle.std.proofs.lemmas.List.{reverse-append, length-take-le}
use Rattle.std.proofs.lemmas.Bool.Decides.{nat_tests}
use Rattle.std.specs.FinMap as fin
use Rattle.flat_model.specs.Path.{Name, Path, is_root, prefixes, upward, at_or_below}
use Rattle.flat_model.specs.State.{State}
use Rattle.flat_model.specs.Counts.{first_path, blocked_fork, is_full, exceeds, asks, current}
use Rattle.flat_model.proofs.MapValues.{get-map_values}
use Rattle.group_tree.specs.Groups.{Groups, slot_of}
use Rattle.group_tree.specs.Flat.{group_of, limit_of}
use Rattle.group_tree.specs.declared.attr.Attr.{Attr}
use Rattle.snzi_tokens.specs.Listed.{over_leaves}
use Rattle.pids_charge.specs.Content.{Content}
use Rattle.pids_charge.specs.Events.{full_by, is_full_by}
use Rattle.pids_charge.specs.Lists.{Row}
use Rattle.pids_charge.specs.Recount.{Recounted, HasSlots, state_of}
use Rattle.pids_charge.proofs.PathCharges.{current-is}
use Rattle.flat_model.proofs.Lists.{reverse_map}

-- the number of names of the longest prefix of 1 to n names that passes the test
abbrev pub longest : (Path → Bool) → Path → ℕ → Option ℕ
longest test p zero = None
longest test p (suc n) = cond (test (take (suc n) p)) (Some (suc n)) (longest test p n)

-- ---- one step of the loop
pub longest-yes : (full : Path → Bool) (p : Path) (n : ℕ) → full (take (n + 1) p) ≡ true → longest full p (n + 1) ≡ Some (n + 1)
longest-yes full p n e = rw (add-one n) (ap (λ b. cond b (Some (suc n)) (longest full p n)) (rw (add-one n) at e))

pub longest-no : (full : Path → Bool) (p : Path) (n : ℕ) → full (take (n + 1) p) ≡ false → longest full p (n + 1) ≡ longest full p n
longest-no full p n e = rw (add-one n) (ap (λ b. cond b (Some (suc n)) (longest full p n)) (rw (add-one n) at e))

upward-cons : (n : Name) (p : Path) → upward (n ∷ p) ≡ map (λ (q : Path). n ∷ q) (upward p) ++ [] ∷ []
upward-cons n p = reverse-append ([] ∷ []) (map (λ (q : Path). n ∷ q) (prefixes p)) ∙ ap (λ (ps : List Path). ps ++ [] ∷ []) (reverse_map (λ (q : Path). n ∷ q) (prefixes p))

-- the longest prefix that passes, the root among them
abbrev longest0 : (Path → Bool) → Path → ℕ → Option ℕ
longest0 test p zero = cond (test []) (Some 0) None
longest0 test p (suc n) = cond (test (take (suc n) p)) (Some (suc n)) (longest0 test p n)

behind : (test : Path → Bool) (x : Name) (p : Path) (n : ℕ) → longest0 test (x ∷ p) (suc n) ≡ option_or (option_map suc (longest0 (λ q. test (x ∷ q)) p n)) (cond (test []) (Some 0) None)
behind test x p zero =
    elim (test (x ∷ [])) as (λ b. cond b (Some 1) (cond (test []) (Some 0) None) ≡ option_or (option_map suc (cond b (Some 0) None)) (cond (test []) (Some 0) None)) [ true ↦ refl | false ↦ refl ]
behind test x p (suc n) =
    elim (test (x ∷ take (suc n) p)) as (λ b. cond b (Some (suc (suc n))) (longest0 test (x ∷ p) (suc n))
    ≡ option_or (option_map suc (cond b (Some (suc n)) (longest0 (λ q. test (x ∷ q)) p n))) (cond (test []) (Some 0) None))
    [ true ↦ refl | false ↦ behind test x p n ]

first-append : (test : Path → Bool) (n : Name) (ps : List Path)
    → first_path test (map (λ (q : Path). n ∷ q) ps ++ [] ∷ [])
    ≡ option_or (option_map (λ (q : Path). n ∷ q) (first_path (λ q. test (n ∷ q)) ps)) (cond (test []) (Some []) None)
first-append test n [] = refl
first-append test n (p ∷ ps) =
    elim (test (n ∷ p)) as (λ b. cond b (Some (n ∷ p)) (first_path test (map (λ (q : Path). n ∷ q) ps ++ [] ∷ []))
    ≡ option_or (option_map (λ (q : Path). n ∷ q) (cond b (Some p) (first_path (λ q. test (n ∷ q)) ps)))
    (cond (test []) (Some []) None)) [ true ↦ refl | false ↦ first-append test n ps ]

taken : (x : Name) (p : Path) (o : Option ℕ) (b : Bool)
    → option_or (option_map (λ (q : Path). x ∷ q) (option_map (λ n. take n p) o)) (cond b (Some []) None)
    ≡ option_map (λ n. take n (x ∷ p)) (option_or (option_map suc o) (cond b (Some 0) None))
taken x p None true = refl
taken x p None false = refl
taken x p (Some n) b = refl

first-upward : (test : Path → Bool) (p : Path) → first_path test (upward p) ≡ option_map (λ n. take n p) (longest0 test p (length p))
first-upward test [] = elim (test []) as (λ b. cond {A = Option Path} b (Some []) None ≡ option_map (λ n. take n []) (cond b (Some 0) None)) [ true ↦ refl | false ↦ refl ]
first-upward test (x ∷ p) =
    ap (first_path test) (upward-cons x p) ∙ first-append test x (upward p)
    ∙ ap (λ o. option_or (option_map (λ (q : Path). x ∷ q) o) (cond (test []) (Some []) None)) (first-upward (λ q. test (x ∷ q)) p)
    ∙ taken x p (longest0 (λ q. test (x ∷ q)) p (length p)) (test [])
    ∙ ap (option_map (λ n. take n (x ∷ p))) (sym (behind test x p (length p)))

below_root : (test full : Path → Bool) (p : Path) → test [] ≡ false → ((a : Path) → 0 < length a → test a ≡ full a) → (n : ℕ) → n ≤ length p → longest0 test p n ≡ longest full p n
below_root test full p root same zero h = ap (λ b. cond b (Some 0) None) root
below_root test full p root same (suc n) h =
    let long : 0 < length (take (suc n) p) = omega (arith, length-take-le (suc n) p h) in
    ap (λ b. cond b (Some (suc n)) (longest0 test p n)) (same (take (suc n) p) long) ∙ ap (cond (full (take (suc n) p)) (Some (suc n))) (below_root test full p root same n (omega arith))

nonroot : (p : Path) → 0 < length p → is_root p ≡ false
nonroot [] h = absurd (omega arith)
nonroot (n ∷ p) h = refl

-- the first path upward that passes, the root apart, is the longest prefix that does
pub first_full : (full : Path → Bool) (p : Path) → first_path (λ a. not (is_root a) && full a) (upward p) ≡ option_map (λ n. take n p) (longest full p (length p))
first_full full p =
    first-upward (λ a. not (is_root a) && full a) p
    ∙ ap (option_map (λ n. take n p)) (below_root (λ a. not (is_root a) && full a) full p refl (λ a long. ap (λ b. not b && full a) (nonroot a long)) (length p) (omega arith))

asked_as : (leaves : ℕ) (content : Content) (o : Option Attr) (k : ℕ)
    → ((attr : Attr) → o ≡ Some attr → k ≡ over_leaves leaves (content attr.slot))
    → asks (λ attr. exceeds (k + 1) attr.limits.pids) (option_map group_of o) ≡ full_by leaves content o
asked_as leaves content None k h = refl
asked_as leaves content (Some attr) k h = ap (λ n. exceeds (n + 1) (limit_of attr.limits.pids)) (h attr refl)

module _ {A : Type 0} (slots leaves : ℕ) (tree : Groups) (es : List (Row A)) (content : Content) (held : ℕ)
    (d : Recounted leaves tree es content held) (free : List ℕ) (h : HasSlots slots tree free)
    (prefixes : (p q : Path) → IsSome (fin.get tree p) → at_or_below p q ≡ true → IsSome (fin.get tree q)) (s : State)
    (v : state_of tree es ≡ s) where
  full-is : (a : Path) → 0 < length a → is_full s a ≡ full_by leaves content (fin.get tree a)
  full-is a long =
      ap (λ (t : State). is_full t a) (sym v)
      ∙ ap (λ b. not b && asks (λ attr. exceeds (current (state_of tree es) a + 1) attr.limits.pids) (fin.get (state_of tree es).groups a)) (nonroot a long)
      ∙ ap (asks (λ attr. exceeds (current (state_of tree es) a + 1) attr.limits.pids)) (get-map_values group_of tree a)
      ∙ asked_as leaves content (fin.get tree a) (current (state_of tree es) a) (λ attr e.
      sym (current-is slots leaves tree es content held d free h prefixes a long (rw e refl)) ∙ ap (λ (o : Option Attr). over_leaves leaves (content (slot_of o))) e)

  full_anywhere : (a : Path) → is_full s a ≡ is_full_by leaves content tree a
  full_anywhere [] = refl
  full_anywhere (n ∷ p) = full-is (n ∷ p) (omega arith)

  pub blocked-is : (p : Path) → blocked_fork s p ≡ first_path (is_full_by leaves content tree) (upward p)
  blocked-is p = ap (λ (test : Path → Bool). first_path test (upward p)) (λ i a. full_anywhere a i)

-- a limit by `>=`
pub at_limit : (n most : ℕ) (b : Bool) → b ≡ not (ltb n most) → b ≡ ltb most (n + 1)
at_limit n most b e = grind (arith, nat_tests, e)
