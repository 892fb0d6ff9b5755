-- The lines of a text are no longer than the text.
use Rattle.std.proofs.Common.{ℕ, suc, ◌≤◌, Bool, true, false, cond, List, [], ◌∷◌, length, ◌==◌, arith}
use Rattle.std.specs.List.{All, AllByRecursion, onto_first, slice_split}
use Rattle.std.proofs.lemmas.List.Elements.{All-from_recursion}
use Rattle.flat_model.specs.Trace.{is_line_feed, lines_in, without_empty_end}

abbrev pub AreUpTo : ℕ → List (List ℕ) → Type 0
AreUpTo n parts = AllByRecursion (λ l. length l ≤ n) parts

more_room : (m n : ℕ) (parts : List (List ℕ)) → m ≤ n → AreUpTo m parts → AreUpTo n parts
more_room m n [] le u = tt
more_room m n (part ∷ parts) le u = (let a = u.0 in omega arith, more_room m n parts le u.1)

longer : (b n : ℕ) (parts : List (List ℕ)) → AreUpTo n parts → AreUpTo (suc n) (onto_first b parts)
longer b n [] u = (omega arith, tt)
longer b n (part ∷ parts) u = (let a = u.0 in omega arith, more_room n (suc n) parts (omega arith) u.1)

cut_by : (t : Bool) (b n : ℕ) (parts : List (List ℕ)) → AreUpTo n parts → AreUpTo (suc n) (cond t ([] ∷ parts) (onto_first b parts))
cut_by true b n parts u = (omega arith, more_room n (suc n) parts (omega arith) u)
cut_by false b n parts u = longer b n parts u

pieces_up_to : (text : List ℕ) → AreUpTo (length text) (slice_split is_line_feed text)
pieces_up_to [] = (omega arith, tt)
pieces_up_to (b ∷ text) = cut_by (is_line_feed b) b (length text) (slice_split is_line_feed text) (pieces_up_to text)

end_by : (t : Bool) (n : ℕ) (part : List ℕ) → length part ≤ n → AreUpTo n (cond t [] (part ∷ []))
end_by true n part le = tt
end_by false n part le = (le, tt)

without_end : (n : ℕ) (parts : List (List ℕ)) → AreUpTo n parts → AreUpTo n (without_empty_end parts)
without_end n [] u = tt
without_end n (part ∷ []) u = end_by (length part == 0) n part u.0
without_end n (part ∷ next ∷ parts) u = (u.0, without_end n (next ∷ parts) u.1)

pub lines_up_to : (n : ℕ) (text : List ℕ) → length text ≤ n → All (λ line. length line ≤ n) (lines_in text)
lines_up_to n text le =
    All-from_recursion (λ line. length line ≤ n) (lines_in text)
    (without_end n (slice_split is_line_feed text) (more_room (length text) n (slice_split is_line_feed text) le (pieces_up_to text)))
