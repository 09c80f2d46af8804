use Rattle.std.proofs.Common.{get_or, refl}
use Rattle.descent.specs.Links.{no_link}
use Rattle.descent.proofs.Flagging.{flag_of_unheld, unheld_of_flag}
use Rattle.descent.proofs.Keeping.{kept_unimplied, unimplied_kept}
use Rattle.descent.proofs.facts.trim_by_descent_flags_exactly_the_kept_links_by_one.Goals as goal

pub returns : goal.returns
returns c links flags free flagged k h =
    let a = (get_or links k no_link).from in
    let b = (get_or links k no_link).to in (
      (λ e. unimplied_kept links free a b (k, h, refl, refl) (unheld_of_flag (get_or flags k 0) e (flagged k h))),
      (λ kept. flag_of_unheld (get_or flags k 0) (kept_unimplied links free a b (k, h, refl, refl) kept) (flagged k h)),
    )
