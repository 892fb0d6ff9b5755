use Rattle.listing_laws.proofs.EngineAnswers.{fits, lacks, one_answer, ran, unchanged}
use Rattle.listing_laws.proofs.answers.lines_are_answered_once.Goals as goal

pub returns : goal.returns
returns c = record {
  fits = fits;
  lacks = lacks;
  one = one_answer;
  ran = ran;
  memory = unchanged;
  skipped = λ t u n d out h. h;
}
