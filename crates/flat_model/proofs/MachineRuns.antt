-- What a machine does with one command more.
use Rattle.std.proofs.Common.{◌≡◌, ℕ, List, [], ◌∷◌, ◌++◌, refl, ap}
use Rattle.flat_model.specs.Command.{Command, Reply}
use Rattle.flat_model.specs.Machine.{Machine, tick, replies, end_of}

pub end_of-push : (slots : ℕ) (m : Machine) (cs : List Command) (c : Command) → end_of slots m (cs ++ c ∷ []) ≡ (tick slots (end_of slots m cs) c).0
end_of-push slots m [] c = refl
end_of-push slots m (d ∷ cs) c = end_of-push slots (tick slots m d).0 cs c

pub replies-push : (slots : ℕ) (m : Machine) (cs : List Command) (c : Command) → replies slots m (cs ++ c ∷ []) ≡ replies slots m cs ++ (tick slots (end_of slots m cs) c).1 ∷ []
replies-push slots m [] c = refl
replies-push slots m (d ∷ cs) c = ap (λ (rs : List Reply). (tick slots m d).1 ∷ rs) (replies-push slots (tick slots m d).0 cs c)
