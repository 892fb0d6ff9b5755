-- A new core.
use Rattle.std.proofs.Common.{◌≡◌, ◌≢◌, ◌⊎◌, ℕ, zero, suc, ◌%◌, List, [], ◌∷◌, replicate, refl, sym, ap, subst, arith}
use Rattle.std.proofs.lemmas.List.{length-replicate}
use Rattle.std.specs.Prelude.{slice_index}
use Rattle.snzi_core.specs.declared.holding.Role.TheVariants.{Main, Spent}
use Rattle.snzi_core.specs.declared.holding.Holding.{Holding}
use Rattle.snzi_core.specs.Shape.{WordKind, inner, leaf, stripe}
use Rattle.snzi_core.specs.Balance.{Stands, up}
use Rattle.snzi_core.specs.CoreState.{start, fresh, size, kind_of}
use Rattle.snzi_core.specs.Kept.{IsCore}

pub zeros : (n i : ℕ) → slice_index (replicate n 0) i ≡ 0
zeros zero i = refl
zeros (suc n) zero = refl
zeros (suc n) (suc i) = zeros n i

main_spent : (n : ℕ) → Main n ≢ Spent
main_spent n e = cc

pub start_core : (slots nodes : ℕ) → nodes % 2 ≡ 1 → IsCore (start slots nodes)
start_core slots nodes odd = record {
  odd = odd;
  words = length-replicate n 0;
  main = refl;
  made = omega arith;
  tables = ((λ _. (refl, refl)), tt);
  rule = ((λ i. stands i (kind_of (start slots nodes) i)), (refl, refl, (omega arith), (((λ i. let z = zeros n i in omega arith), λ e. absurd (main_spent 0 e)), tt)));
}
  where
    n : ℕ
    n = size slots nodes

    stands : (i : ℕ) (k : WordKind) → Stands (replicate n 0) (fresh n (Main 0) ∷ []) i k
    stands i (inner a b) = let z = zeros n i in let x : up (slice_index (replicate n 0) a) ≡ 0 = ap up (zeros n a) in let y : up (slice_index (replicate n 0) b) ≡ 0 = ap up (zeros n b) in omega arith
    stands i leaf = let z = zeros n i in omega arith
    stands i stripe = let z = zeros n i in omega arith

-- each of the four shapes has an odd number of nodes
pub odd_nodes : (nodes : ℕ) → (nodes ≡ 1) ⊎ (nodes ≡ 3) ⊎ (nodes ≡ 7) ⊎ (nodes ≡ 15) → nodes % 2 ≡ 1
odd_nodes nodes shape = omega (arith, shape)

pub start_kept : (slots nodes : ℕ) (words : List ℕ) (hands : List Holding) → words ≡ replicate (size slots nodes) 0
    → hands ≡ fresh (size slots nodes) (Main 0) ∷ [] → (nodes ≡ 1) ⊎ (nodes ≡ 3) ⊎ (nodes ≡ 7) ⊎ (nodes ≡ 15)
    → IsCore (record { slots = slots; nodes = nodes; words = words; hands = hands })
start_kept slots nodes words hands ws hs shape =
    subst (λ (x : List ℕ × List Holding). IsCore (record { slots = slots; nodes = nodes; words = x.0; hands = x.1 })) (λ i. (sym ws i, sym hs i))
    (start_core slots nodes (odd_nodes nodes shape))
