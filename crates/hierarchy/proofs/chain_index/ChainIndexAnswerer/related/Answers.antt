use Rattle.std.proofs.Common.{◌≡◌, ℕ, ◌<◌, Bool, true, false, None, Decides, sym, ◌∙◌, arith}
use mathlib.Core.Bool.{Bool-set}
use mathlib.Core.Logic.{∥∥₁_elim}
use borrow.Author.Tests.{clash}
use Rattle.std.proofs.lemmas.Bool.Decides.{nat_tests}
use Rattle.descent.specs.Answers.{Tells}
use Rattle.descent.specs.Computed.{descends}
use Rattle.descent.specs.Refusals.{question_refusal}
use Rattle.descent.proofs.Closures.{decides_descends}
use Rattle.hierarchy.proofs.chain_index.ChainIndexAnswerer.related.Goals as goal

told : {P : Type 0} (t u : Bool) → t ≡ u → Decides u P → Tells t P
told true u e d = d.0 (sym e)
told false u e d = λ p. clash (e ∙ d.1 p)

both_below : (n a b : ℕ) → question_refusal n a b ≡ None → (a < n) × (b < n)
both_below n a b e = (grind (arith, nat_tests), grind (arith, nat_tests))

pub returns-clause-answer : goal.returns-clause-answer
returns-clause-answer c =
    let s = c.args.self.now in
    let a = c.args.a in
    let b = c.args.b in
    let below = both_below s.types a b c.in_ok-check_question.ensures in (
      c.in_ok-check_question.ensures,
      told _ (descends s.links.now a b) (∥∥₁_elim s.answers (Bool-set _ _) (λ f. f a b below.0 below.1)) (decides_descends s.links.now a b),
    )
