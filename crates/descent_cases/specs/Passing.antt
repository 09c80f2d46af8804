-- The laws of a layer that passes each question on.
use Rattle.std.specs.Prelude.{ℕ}
use Rattle.descent.specs.Answers.{Laws}

pub passed_laws : {S Q : Type 0} {count : Q → ℕ} {relates : Q → ℕ → ℕ → Type 0} (below : S → Q) → Laws count relates → Laws (λ s. count (below s)) (λ s. relates (below s))
passed_laws below laws = record {
  reflexive = λ s a h. laws.reflexive (below s) a h;
  transitive = λ s a b c p q. laws.transitive (below s) a b c p q;
}
