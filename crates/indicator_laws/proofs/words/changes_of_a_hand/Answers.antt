use Rattle.snzi_core.proofs.Hands.{gains, loses, raises}
use Rattle.indicator_laws.proofs.WordLaws.{gain_back, one_gained, not_two_gained, not_gained_elsewhere, not_another_role, wrapped_around, not_raised_more, not_raised_tokens}
use Rattle.indicator_laws.proofs.words.changes_of_a_hand.Goals as goal

pub returns : goal.returns
returns c = record {
  gained = gains;
  lost = loses;
  raised = raises;
  back = gain_back;
  one = one_gained;
  not_two = not_two_gained;
  not_elsewhere = not_gained_elsewhere;
  same_role = not_another_role;
  wraps = wrapped_around;
  not_more = not_raised_more;
  not_tokens = not_raised_tokens;
}
