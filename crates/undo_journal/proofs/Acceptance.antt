-- Whether a command has a refusal.
use Rattle.std.specs.Prelude.{◌≡◌, refl, Bool, true, false, not, Option, None, Some, is_none, is_some, option_map}
use Rattle.std.proofs.Common.{sym, ap}
use Rattle.std.proofs.lemmas.Bool.{false≢true}

-- the charges refuse where the flat state does
pub decided : {X Y : Type 0} (f : X → Y) (o : Option X) (r : Option Y) → r ≡ option_map f o → is_none o ≡ is_none r
decided f None r e = sym (ap is_none e)
decided f (Some x) r e = sym (ap is_none e)

pub none_of : {X : Type 0} (o : Option X) (b : Bool) → is_some o ≡ not b → b ≡ is_none o
none_of None true e = refl
none_of None false e = absurd (false≢true e)
none_of (Some x) true e = absurd (false≢true (sym e))
none_of (Some x) false e = refl
