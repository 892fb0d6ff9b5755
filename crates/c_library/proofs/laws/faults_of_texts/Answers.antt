use Rattle.flat_model.specs.PathText.{name_fault, path_fault}
use Rattle.c_library.proofs.laws.faults_of_texts.Goals as goal

pub returns : goal.returns
unfolding name_fault path_fault
returns c = record {
  path = λ number at. (λ h. h, λ h. h);
  empty = λ number at. (λ h. h, λ h. h);
  byte = λ number at. (λ h. h, λ h. h);
  long_text = λ number at. (λ h. h, λ h. h);
  many_names = λ number at. (λ h. h, λ h. h);
  long_name = λ number at. (λ h. h, λ h. h);
}
