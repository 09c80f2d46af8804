-- Loops over one row: what is written to its first entries, and that nothing else changes.
use Rattle.std.proofs.Common.{◌≡◌, ℕ, ◌+◌, ◌<◌, List, length, get_or, set, sym, ap, ◌∙◌, ⊎_elim, arith}
use Rattle.std.proofs.lemmas.List.{get_or-set_same, get_or-set_other}
use Rattle.std.proofs.lemmas.Bool.{cases_eq}

-- the first c entries from `to` on have the values, and nothing else is changed
abbrev pub Written : List ℕ → List ℕ → ℕ → (ℕ → ℕ) → ℕ → Type 0
Written before after to value c =
    ((k : ℕ) → k < c → get_or after (to + k) 0 ≡ value k)
    × ((j : ℕ) → ((k : ℕ) → k < c → j ≡ to + k → ⊥) → get_or after j 0 ≡ get_or before j 0)

pub written_more : (before now : List ℕ) (to : ℕ) (value : ℕ → ℕ) (c v : ℕ) → to + c < length now → v ≡ value c → Written before now to value c → Written before (set now (to + c) v) to value (c + 1)
written_more before now to value c v room e (done, rest) = (
  (λ k h. ⊎_elim
      (λ (s : k ≡ c). ap (λ (x : ℕ). get_or (set now (to + c) v) (to + x) 0) s ∙ get_or-set_same now (to + c) v 0 room ∙ e ∙ ap value (sym s))
      (λ (o : k ≡ c → ⊥). get_or-set_other now (to + c) (to + k) v 0 (λ z. o (omega arith)) ∙ done k (omega arith))
      (cases_eq k c)),
  (λ j out. get_or-set_other now (to + c) j v 0 (λ z. out c (omega arith) z) ∙ rest j (λ k h. out k (omega arith))),
)
