-- What a closure answers at each call, from a fact of what it captured that each call keeps.
use Rattle.std.proofs.Common.{List, [], ◌∷◌}
use denote.Param.Members.{Mut}
use Rattle.std.specs.Fn.{Called, ReturnsEach, AlwaysReturns}

module _ {F X R : Type 0} (g : Mut F X R) (P : X → R → Type 0) (I : F → Type 0) (step : (f : F) (a : X) (r : R) (f' : F) → Called g f a r f' → I f → P a r × I f') where
  answering_by : (xs : List X) (f : F) → I f → ReturnsEach g P f xs
  answering_by [] f i = tt
  answering_by (a ∷ xs) f i = λ r f' c. ((step f a r f' c i).0, answering_by xs f' (step f a r f' c i).1)

  pub answers_by : (f : F) → I f → AlwaysReturns g P f
  answers_by f i = record { at = λ xs. answering_by xs f i }
