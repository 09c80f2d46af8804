use Rattle.nearest.proofs.Nearests.{answers_are_nearest}
use Rattle.nearest.proofs.the_answer_is_the_nearest_common_base_by_descent.Goals as goal

pub returns : goal.returns
returns c = answers_are_nearest
