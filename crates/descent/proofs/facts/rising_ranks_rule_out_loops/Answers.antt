use Rattle.std.proofs.Common.{get_or}
use Rattle.descent.proofs.Ranks.{rising_loop_free, rising_antisymmetric, loop_path}
use Rattle.descent.proofs.facts.rising_ranks_rule_out_loops.Goals as goal

pub returns : goal.returns
returns c links rank rising =
    let free = rising_loop_free links rank rising in
    (free, (λ types loop. free (get_or types 0 0) (loop_path links types loop)), rising_antisymmetric links rank rising)
