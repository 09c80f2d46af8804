use Rattle.descent.proofs.Ranks.{loop_free_ranks}
use Rattle.descent.proofs.facts.loop_free_links_have_rising_ranks.Goals as goal

pub returns : goal.returns
returns c links free = loop_free_ranks links free
