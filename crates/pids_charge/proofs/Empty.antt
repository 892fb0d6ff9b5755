-- A table of zeros holds nothing.
use Rattle.std.proofs.Common.{◌≡◌, ℕ, zero, suc, List, [], replicate, refl, ap, ◌∙◌, arith}
use Rattle.std.proofs.lemmas.List.{get_or_past}
use Rattle.std.specs.Prelude.{slice_index}
use Rattle.std.specs.List.{slice_index_or}
use Rattle.pids_charge.specs.Content.{IsEmpty}
use Rattle.pids_charge.specs.Table.{table_at, table_held}
use Rattle.pids_charge.specs.declared.plain.TheConstants.{SLOTS, LEAVES}

zero_at : (n j : ℕ) → slice_index (replicate n 0) j ≡ 0
zero_at zero j = get_or_past {X = ℕ} [] j 0 (omega arith)
zero_at (suc n) zero = refl
zero_at (suc n) (suc j) = zero_at n j

row_at : (s n : ℕ) (r : List ℕ) (j : ℕ) → slice_index r j ≡ 0 → slice_index (slice_index_or (replicate n r) s []) j ≡ 0
row_at s zero r j e = ap (λ x. slice_index x j) (get_or_past {X = List ℕ} [] s [] (omega arith)) ∙ get_or_past {X = ℕ} [] j 0 (omega arith)
row_at zero (suc n) r j e = e
row_at (suc s) (suc n) r j e = row_at s n r j e

pub empty_table : (rows : List (List ℕ)) → rows ≡ replicate SLOTS (replicate LEAVES 0) → IsEmpty (table_at rows) (table_held rows)
empty_table rows is = record {
  nothing = λ s j. ap (λ r. table_at r s j) is ∙ row_at s SLOTS (replicate LEAVES 0) j (zero_at LEAVES j);
  none = ap table_held is;
}
