-- When a walk can be made.
use Rattle.std.specs.Prelude.{ℕ, cond, List, Some, None, Option, nat_lt}
use Rattle.descent.specs.declared.link.Link.{Link}
use Rattle.descent.specs.declared.refusal.Refusal.{Refusal}
use Rattle.descent.specs.declared.refusal.Refusal.TheVariants.{ShortMarks, StrayLink}
use Rattle.descent.specs.Refusals.{stray_end}

abbrev pub stray_refusal : ℕ → Option ℕ → Option Refusal
stray_refusal n None = None
stray_refusal n (Some stray) = Some (StrayLink stray n)

-- the refusal of a walk over these links of n types with that many marks: too few marks first, then the first stray end
abbrev pub walk_refusal : ℕ → ℕ → List Link → Option Refusal
walk_refusal n marks links = cond (nat_lt marks n) (Some (ShortMarks marks n)) (stray_refusal n (stray_end n links))
