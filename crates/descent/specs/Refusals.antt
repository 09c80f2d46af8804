-- The number of each refusal and the values that it returns, and which refusal comes first.
use Rattle.std.specs.Prelude.{◌≡◌, ℕ, cond, List, [], ◌∷◌, Some, None, Ok, Err, Option, Result, nat_lt}
use Rattle.descent.specs.declared.link.Link.{Link}
use Rattle.descent.specs.declared.refusal.Report.{Report}
use Rattle.descent.specs.declared.refusal.Unmade.{Unmade}
use Rattle.descent.specs.declared.refusal.Refusal.{Refusal}
use Rattle.descent.specs.declared.refusal.Refusal.TheVariants.{NotBelow, ShortMarks, StrayLink, ManyTypes, ShortLevels, ShortFlags}

abbrev pub report_of : Refusal → Report
report_of (NotBelow number types) = record { number = 16; values = number ∷ types ∷ [] }
report_of (ShortMarks places types) = record { number = 17; values = places ∷ types ∷ [] }
report_of (StrayLink stray types) = record { number = 17; values = stray ∷ types ∷ [] }
report_of (ManyTypes types) = record { number = 17; values = types ∷ 1024 ∷ [] }
report_of (ShortLevels levels types) = record { number = 17; values = levels ∷ types ∷ [] }
report_of (ShortFlags places links) = record { number = 18; values = places ∷ links ∷ [] }

-- a call answers this refusal, or is not refused where there is none
abbrev pub Refuses : {X : Type 0} → Option Refusal → Result X Refusal → Type 0
Refuses refusal (Ok _) = refusal ≡ None
Refuses refusal (Err answered) = refusal ≡ Some answered

-- the same of a call that makes something, and hands back what it was given with the refusal
abbrev pub RefusesToMake : {X Y : Type 0} → Option Refusal → Result X (Unmade Y) → Type 0
RefusesToMake refusal (Ok _) = refusal ≡ None
RefusesToMake refusal (Err back) = refusal ≡ Some back.refusal

-- the refusal of a question about a and b, where there are n types
abbrev pub question_refusal : ℕ → ℕ → ℕ → Option Refusal
question_refusal n a b = cond (nat_lt a n) (cond (nat_lt b n) None (Some (NotBelow b n))) (Some (NotBelow a n))

-- the first end of a link, in the order of the list and from before to, that is not below n
abbrev pub stray_end : ℕ → List Link → Option ℕ
stray_end n [] = None
stray_end n (link ∷ links) = cond (nat_lt link.from n) (cond (nat_lt link.to n) (stray_end n links) (Some link.to)) (Some link.from)

-- the refusal of a gate over n types with that many levels
abbrev pub gate_refusal : ℕ → ℕ → Option Refusal
gate_refusal n levels = cond (nat_lt 1024 n) (Some (ManyTypes n)) (cond (nat_lt levels n) (Some (ShortLevels levels n)) None)
