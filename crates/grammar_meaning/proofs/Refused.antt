-- Lines are refused exactly at their bad place.
use Rattle.std.proofs.Common.{◌≡◌, ℕ, ◌+◌, List, [], ◌∷◌, ◌++◌, length, sym, refl, ap, ◌∙◌, subst, ⊎_elim, append_assoc, append-nil, arith}
use Rattle.grammar.specs.declared.fault.Fault.{Fault}
use Rattle.grammar.specs.declared.fault.Rule.{Rule}
use Rattle.grammar.specs.declared.fault.Rule.TheVariants.{Printable, Brackets, Length, Grammar}
use Rattle.grammar.specs.Grammar.{Line}
use Rattle.grammar_meaning.specs.BadPlaces.{Bad, GoesWrong, Breaks, BadPlace}
use Rattle.grammar_meaning.specs.Claims.{RefusesAtBadPlaces}
use Rattle.grammar.specs.Reading.{State, start, step, Memory, nothing, remember, unlawful, fault, unless, over, reading_from, reading}
use Rattle.grammar_meaning.proofs.Lists.{push_fronts}
use Rattle.grammar_meaning.proofs.Endings.{Ends, as_line, too_soon, ends}
use Rattle.grammar_meaning.proofs.Accepted.{not_both, next_column}
use Rattle.grammar_meaning.proofs.ReadFronts.{line_on}
use Rattle.grammar_meaning.proofs.Judged.{Calm, calm_start, not_bad, fits, breaks, judged}

-- one rule is broken at most
one_rule : (r q : Rule) (front rest : List ℕ) → Breaks r front rest → Breaks q front rest → r ≡ q
one_rule Printable Printable front rest x y = refl
one_rule Printable Brackets front rest x y = absurd (y.0 x)
one_rule Printable Length front rest x y = absurd (y.0 x)
one_rule Printable Grammar front rest x y = absurd (y.0 x)
one_rule Brackets Printable front rest x y = absurd (x.0 y)
one_rule Brackets Brackets front rest x y = refl
one_rule Brackets Length front rest x y = absurd (y.1 x.1)
one_rule Brackets Grammar front rest x y = absurd (y.1 x.1)
one_rule Length Printable front rest x y = absurd (x.0 y)
one_rule Length Brackets front rest x y = absurd (x.1 y.1)
one_rule Length Length front rest x y = refl
one_rule Length Grammar front rest x y = absurd (y.2 x.2)
one_rule Grammar Printable front rest x y = absurd (x.0 y)
one_rule Grammar Brackets front rest x y = absurd (x.1 y.1)
one_rule Grammar Length front rest x y = absurd (x.2 y.2)
one_rule Grammar Grammar front rest x y = refl

-- no front of it is bad
abbrev Sane : List ℕ → Type 0
Sane front = (head tail : List ℕ) → front ≡ head ++ tail → Bad head → ⊥

sane_none : Sane []
sane_none [] tail e x = not_bad [] start nothing calm_start x
sane_none (b ∷ head) tail e x = let z : ◌≡◌ {A = ℕ} 0 1 = cc in omega arith

sane_push : (front : List ℕ) (b : ℕ) → Sane front → (Bad (front ++ (b ∷ [])) → ⊥) → Sane (front ++ (b ∷ []))
sane_push front b h n head tail e x = ⊎_elim (λ q. n (subst Bad q x)) (λ q. h head q.0 q.1 x) (push_fronts front b head tail e)

-- a fault told at a front
module _ (front rest : List ℕ) (rule : Rule) (x : Fault) (sane : Sane front) (wrong : GoesWrong front rest) (breaks' : Breaks rule front rest) where
  placed : fault rule (length front + 1) ≡ unlawful x → BadPlace (front ++ rest) x
  placed e =
      let same : record { rule = rule; column = length front + 1 } ≡ x = cc in
      record {
        front = front;
        rest = rest;
        splits = refl;
        column = ap (λ y. y.column) (sym same);
        first = sane;
        wrong = wrong;
        rule = subst (λ r. Breaks r front rest) (ap (λ y. y.rule) same) breaks';
      }

refused : (bs front : List ℕ) (s : State) (m : Memory) (x : Fault) → Calm front s m → Sane front → reading_from s m (length front + 1) bs ≡ unlawful x → BadPlace (front ++ bs) x
refused [] front s m x h sane e = at_end (ends front s m (length front + 1) h.read.shape h.unstuck)
  where
    at_end : Ends front s m (length front + 1) → BadPlace (front ++ []) x
    at_end (as_line names q l y) = absurd (not_both (over s m (length front + 1)) names x q e)
    at_end (too_soon rule q y) =
        placed front [] rule x sane
        (λ names l. not_both (over s m (length front + 1)) names x (line_on [] h.read (subst (λ k. Line k names) (sym (append-nil front)) l)) e)
        y (sym q ∙ e)
refused (b ∷ bs) front s m x h sane e =
    let t = step s b in
    let c = length front + 1 in
    let k = remember t m c b in
    let more = front ++ (b ∷ []) in
    elim (judged front bs s m b h) [
      | fits q calm ↦
          let on : reading_from t k (c + 1) bs ≡ unlawful x = ap (λ o. unless o c (reading_from t k (c + 1) bs)) (sym q) ∙ e in
          let later = refused bs more t k x calm (sane_push front b sane (not_bad more t k calm)) (subst (λ c. reading_from t k c bs ≡ unlawful x) (next_column front b) on) in
          subst (λ l. BadPlace l x) (append_assoc front (b ∷ []) bs) later
      | breaks rule q bad y ↦ placed front (b ∷ bs) rule x sane bad y (ap (λ o. unless o c (reading_from t k (c + 1) bs)) (sym q) ∙ e)
    ]

-- the reading comes to a bad place, and stops there
module _ (line : List ℕ) (x : Fault) (place : BadPlace line x) where
  told : (front rest : List ℕ) (rule : Rule) → place.front ≡ front → place.rest ≡ rest → Breaks rule front rest → fault rule (length front + 1) ≡ unlawful x
  told front rest rule e r y =
      let mine : Breaks x.rule front rest = subst (λ f. Breaks x.rule f rest) e (subst (λ k. Breaks x.rule place.front k) r place.rule) in
      ap (λ q. fault q (length front + 1)) (one_rule rule x.rule front rest y mine)
      ∙ ap (λ c. fault x.rule c) (ap (λ f. length f + 1) (sym e) ∙ sym place.column)

  goes_wrong : (front rest : List ℕ) → place.front ≡ front → place.rest ≡ rest → GoesWrong front rest
  goes_wrong front rest e r = subst (λ f. GoesWrong f rest) e (subst (GoesWrong place.front) r place.wrong)

  stops : (rest front : List ℕ) (s : State) (m : Memory) → Calm front s m → place.front ≡ front → place.rest ≡ rest → reading_from s m (length front + 1) rest ≡ unlawful x
  stops [] front s m h e r = at_end (ends front s m (length front + 1) h.read.shape h.unstuck)
    where
      at_end : Ends front s m (length front + 1) → over s m (length front + 1) ≡ unlawful x
      at_end (as_line names q l y) = absurd (goes_wrong front [] e r names l)
      at_end (too_soon rule q y) = q ∙ told front [] rule e r y
  stops (b ∷ rest) front s m h e r =
      let t = step s b in
      let c = length front + 1 in
      let k = remember t m c b in
      elim (judged front rest s m b h) [
        | fits q calm ↦ absurd (not_bad (front ++ (b ∷ [])) t k calm (goes_wrong front (b ∷ rest) e r))
        | breaks rule q bad y ↦ ap (λ o. unless o c (reading_from t k (c + 1) rest)) q ∙ told front (b ∷ rest) rule e r y
      ]

  comes : (todo done : List ℕ) (s : State) (m : Memory) → Calm done s m → place.front ≡ done ++ todo → reading_from s m (length done + 1) (todo ++ place.rest) ≡ unlawful x
  comes [] done s m h e = stops place.rest done s m h (e ∙ append-nil done) refl
  comes (b ∷ todo) done s m h e =
      let t = step s b in
      let c = length done + 1 in
      let k = remember t m c b in
      let bs = todo ++ place.rest in
      let on : place.front ≡ (done ++ (b ∷ [])) ++ todo = e ∙ sym (append_assoc done (b ∷ []) todo) in
      elim (judged done bs s m b h) [
        | fits q calm ↦
            ap (λ o. unless o c (reading_from t k (c + 1) bs)) q
            ∙ subst (λ c. reading_from t k c bs ≡ unlawful x) (sym (next_column done b)) (comes todo (done ++ (b ∷ [])) t k calm on)
        | breaks rule q bad y ↦ absurd (place.first (done ++ (b ∷ [])) todo on bad)
      ]

pub refuses_at_bad_places : RefusesAtBadPlaces
refuses_at_bad_places line x = (
  (λ e. refused line [] start nothing x calm_start sane_none e),
  (λ h. ap reading h.splits ∙ comes line x h h.front [] start nothing calm_start refl),
)
