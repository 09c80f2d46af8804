-- The steps of the loops that lay types out by chain order.
use Rattle.std.proofs.Common.{◌≡◌, ℕ, zero, suc, ◌+◌, ◌-◌, ◌<◌, List, Some, None, sym, refl, ap, ◌∙◌, arith}
use Rattle.descent.specs.declared.link.Link.{Link}
use Rattle.chains.specs.ChainOrder.{next_base, Line, added, lengthened}
use Rattle.chains.specs.Places.{places}

abbrev pub line : ℕ → ℕ → List ℕ → List ℕ → Line
line last position chains positions = record { last = last; position = position; chains = chains; positions = positions }

module _ (links : List Link) (order : List ℕ) (c : ℕ) (w : Line) where
  pub lengthened_none : next_base links order w.chains w.last ≡ None → (m : ℕ) → lengthened links order c w m ≡ w
  lengthened_none e zero = refl
  lengthened_none e (suc m) = ap (λ o. lengthened links order c (added c w o) m) e ∙ lengthened_none e m

  pub lengthened_some : (u n i : ℕ) → i < n → Some u ≡ next_base links order w.chains w.last
      → lengthened links order c (added c w (Some u)) (n - (i + 1)) ≡ lengthened links order c w (n - i)
  lengthened_some u n i h e =
      let z : n - i ≡ suc (n - (i + 1)) = omega arith in
      sym (ap (lengthened links order c w) z ∙ ap (λ o. lengthened links order c (added c w o) (n - (i + 1))) (sym e))

pub same_places : {c c' : ℕ} {cs cs' ps ps' : List ℕ} → c ≡ c' → cs ≡ cs' → ps ≡ ps' → places c cs ps ≡ places c' cs' ps'
same_places {c} {c'} {cs} {cs'} {ps} {ps'} e f g = ap (λ (x : ℕ). places x cs ps) e ∙ ap (λ (x : List ℕ). places c' x ps) f ∙ ap (λ (x : List ℕ). places c' cs' x) g
