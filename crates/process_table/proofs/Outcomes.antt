-- What an outcome says, said in other words.
use Rattle.std.proofs.Common.{Ok, Err, Result, OnOk, IfOk}

module _ {T E : Type 0} where
  pub on_ok : {P Q : Type 0} (r : Result T E) → (P → Q) → OnOk r P → OnOk r Q
  on_ok (Ok x) f h = f h
  on_ok (Err e) f h = tt

  pub if_ok : {P Q : T → Type 0} (r : Result T E) → ((x : T) → P x → Q x) → IfOk r P → IfOk r Q
  if_ok (Ok x) f h = f x h
  if_ok (Err e) f h = tt
