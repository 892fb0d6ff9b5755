-- Which word follows the number in the output for a reply.
use Rattle.std.proofs.Common.{◌≡◌, ◌↔◌, true, false, refl}
use Rattle.std.specs.Prelude.{nat_eq, codes}
use Rattle.std.specs.Fmt.{digits}
use Rattle.std.specs.List.{starts_with}
use Rattle.flat_model.specs.Command.{Reply, Done, Text, Undone, Refused, NothingToUndo}
use Rattle.flat_model.specs.Replies.{reply_bytes, is_refused}

pub refused_is : (r : Reply) → is_refused r ≡ starts_with nat_eq (reply_bytes 7 r) (codes "7 refused ")
unfolding digits
refused_is Done = refl
refused_is (Text text) = refl
refused_is (Undone c) = refl
refused_is (Refused r) = refl
refused_is NothingToUndo = refl

pub answered_is : (r : Reply) → (starts_with nat_eq (reply_bytes 7 r) (codes "7 ok\n") ≡ true) ↔ (is_refused r ≡ false)
unfolding digits
answered_is Done = (λ _. refl, λ _. refl)
answered_is (Text text) = (λ _. refl, λ _. refl)
answered_is (Undone c) = (λ _. refl, λ _. refl)
answered_is (Refused r) = (λ e. cc, λ e. cc)
answered_is NothingToUndo = (λ e. cc, λ e. cc)
