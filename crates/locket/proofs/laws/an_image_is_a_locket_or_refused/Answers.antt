use Rattle.locket.proofs.Outcomes.{one_life, not_refused, refused_once, locket_or_refused, lives_are}
use Rattle.locket.proofs.laws.an_image_is_a_locket_or_refused.Goals as goal

pub returns : goal.returns
returns c = record {
  either = locket_or_refused;
  apart = not_refused;
  one_life = one_life;
  one_defect =
      refused_once;
  lawful = lives_are;
}
