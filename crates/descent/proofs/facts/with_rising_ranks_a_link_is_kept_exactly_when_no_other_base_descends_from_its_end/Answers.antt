use Rattle.descent.proofs.Keeping.{kept_unimplied, unimplied_kept}
use Rattle.descent.proofs.Ranks.{rising_loop_free}
use Rattle.descent.proofs.facts.with_rising_ranks_a_link_is_kept_exactly_when_no_other_base_descends_from_its_end.Goals as goal

pub returns : goal.returns
returns c links rank rising a b l =
    let free = rising_loop_free links rank rising in
    (kept_unimplied links free a b l, unimplied_kept links free a b l)
