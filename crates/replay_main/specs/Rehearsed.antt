-- The answers to a trace by given replies.
use Rattle.std.specs.Prelude.{ℕ, ◌+◌, Bool, false, List, [], ◌∷◌, ◌++◌, Option, Some, None}
use Rattle.flat_model.specs.Command.{Reply}
use Rattle.flat_model.specs.Replies.{fault_bytes, is_refused, reply_bytes}
use Rattle.flat_model.specs.Trace as trace

-- the answers from number n on, as far as there are replies
abbrev pub answers_at_hand : ℕ → List (Option trace.TextFault) → List (Option Reply) → List ℕ
answers_at_hand n [] rs = []
answers_at_hand n (Some f ∷ places) rs = fault_bytes n f ++ answers_at_hand (n + 1) places rs
answers_at_hand n (None ∷ places) [] = []
answers_at_hand n (None ∷ places) (None ∷ rs) = []
answers_at_hand n (None ∷ places) (Some r ∷ rs) = reply_bytes n r ++ answers_at_hand (n + 1) places rs

-- a reply that is `refused`; out of memory is not one
abbrev pub is_refusal : Option Reply → Bool
is_refusal None = false
is_refusal (Some r) = is_refused r
