-- What an answerer means: relations on numbers, their laws, and what a question answers.
use Rattle.std.specs.Prelude.{◌≡◌, ℕ, ◌<◌, Bool, true, false, Some, None, Ok, Err, Result}
use Rattle.descent.specs.declared.refusal.Refusal.{Refusal}
use Rattle.descent.specs.Refusals.{question_refusal}

-- two relations hold of the same numbers
abbrev pub Same : (ℕ → ℕ → Type 0) → (ℕ → ℕ → Type 0) → Type 0
Same R S = (a b : ℕ) → (R a b → S a b) × (S a b → R a b)

-- two relations hold of the same numbers below n
abbrev pub Agree : ℕ → (ℕ → ℕ → Type 0) → (ℕ → ℕ → Type 0) → Type 0
Agree n R S = (a b : ℕ) → a < n → b < n → (R a b → S a b) × (S a b → R a b)

-- yes where P holds, no where it does not
abbrev pub Tells : Bool → Type 0 → Type 0
Tells true P = P
Tells false P = P → ⊥

-- the relation holds from each number below the count to itself, and wherever two steps of it follow each other
pub record Laws {S : Type 0} (count : S → ℕ) (relates : S → ℕ → ℕ → Type 0) : Type 0 where
  pub reflexive : (s : S) (a : ℕ) → a < count s → relates s a a
  pub transitive : (s : S) (a b c : ℕ) → relates s a b → relates s b c → relates s a c

-- an answerer that was asked has the number of types and the relation that it had before
pub record Keeps {S : Type 0} (count : S → ℕ) (relates : S → ℕ → ℕ → Type 0) (before after : S) : Type 0 where
  pub same_count : count after ≡ count before
  pub same_relation : Same (relates after) (relates before)

-- what a question about a and b answers, where there are n types: a refusal for the first number that is not below n, else the relation
abbrev pub Answers : ℕ → (ℕ → ℕ → Type 0) → ℕ → ℕ → Result Bool Refusal → Type 0
Answers n R a b (Ok holds) = (question_refusal n a b ≡ None) × Tells holds (R a b)
Answers n R a b (Err refusal) = question_refusal n a b ≡ Some refusal
