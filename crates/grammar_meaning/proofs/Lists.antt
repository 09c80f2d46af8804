-- Fronts of a list, and how often a byte stands in it.
use Rattle.std.proofs.Common.{◌≡◌, ℕ, suc, ◌+◌, true, false, cond, eqb, ◌⊎◌, List, [], ◌∷◌, ◌++◌, sym, refl, ap, ◌∙◌, inl, inr, ⊎_elim, arith}
use Rattle.std.proofs.lemmas.List.Sums.{sum_by_push, sum_by-append}
use Rattle.std.proofs.lemmas.Bool.{ne_eqb, both_ways}
use Rattle.grammar.specs.Bytes.{continues, opening, closing}
use Rattle.grammar_meaning.specs.Limits.{count}

pub count-push : (x : ℕ) (bs : List ℕ) (b : ℕ) → count x (bs ++ (b ∷ [])) ≡ count x bs + cond (eqb b x) 1 0
count-push x bs b = sum_by_push (λ y. cond (eqb y x) 1 0) bs b

pub count-append : (x : ℕ) (xs ys : List ℕ) → count x (xs ++ ys) ≡ count x xs + count x ys
count-append x xs ys = sum_by-append (λ y. cond (eqb y x) 1 0) xs ys

-- so many more brackets were opened than closed
abbrev pub Level : List ℕ → ℕ → Type 0
Level bs d = count opening bs ≡ count closing bs + d

pub level_same : (bs : List ℕ) (d b : ℕ) → eqb b opening ≡ false → eqb b closing ≡ false → Level bs d → Level (bs ++ (b ∷ [])) d
level_same bs d b o c h =
    let opened : count opening (bs ++ (b ∷ [])) ≡ count opening bs + 0 = count-push opening bs b ∙ ap (λ t. count opening bs + cond t 1 0) o in
    let shut : count closing (bs ++ (b ∷ [])) ≡ count closing bs + 0 = count-push closing bs b ∙ ap (λ t. count closing bs + cond t 1 0) c in
    omega arith

pub level_opens : (bs : List ℕ) (d : ℕ) → Level bs d → Level (bs ++ (opening ∷ [])) (suc d)
level_opens bs d h = omega (arith, count-push opening bs opening, count-push closing bs opening)

pub level_closes : (bs : List ℕ) (d : ℕ) → Level bs (suc d) → Level (bs ++ (closing ∷ [])) d
level_closes bs d h = omega (arith, count-push opening bs closing, count-push closing bs closing)

pub level_append : (xs ys : List ℕ) (d : ℕ) → Level xs 0 → Level ys d → Level (xs ++ ys) d
level_append xs ys d g h = omega (arith, count-append opening xs ys, count-append closing xs ys)

-- a byte of a word is no bracket
pub no_bracket : (k b : ℕ) → continues k ≡ false → continues b ≡ true → eqb b k ≡ false
no_bracket k b n y = ne_eqb b k (λ e. both_ways (continues b) (ap continues e ∙ n) y)

pub level_word : (bs : List ℕ) (d b : ℕ) → continues b ≡ true → Level bs d → Level (bs ++ (b ∷ [])) d
level_word bs d b e h = level_same bs d b (no_bracket opening b refl e) (no_bracket closing b refl e) h

-- a front of a list with one more byte is that list, or a front of what stands before the byte
pub push_fronts : (xs : List ℕ) (b : ℕ) (front rest : List ℕ) → xs ++ (b ∷ []) ≡ front ++ rest → (front ≡ xs ++ (b ∷ [])) ⊎ ((left : List ℕ) × (xs ≡ front ++ left))
push_fronts xs b [] rest e = inr (xs, refl)
push_fronts [] b (x ∷ []) rest e = let same : b ≡ x = cc in inl (ap (λ y. y ∷ []) (sym same))
push_fronts [] b (x ∷ (y ∷ front)) rest e = let none : ◌≡◌ {A = ℕ} 0 1 = cc in absurd (omega arith)
push_fronts (y ∷ xs) b (x ∷ front) rest e =
    let same : y ≡ x = cc in
    let later : xs ++ (b ∷ []) ≡ front ++ rest = cc in
    ⊎_elim (λ h. inl (cc)) (λ h. let left = h.1 in inr (h.0, (cc))) (push_fronts xs b front rest later)

pub not_empty : {X : Type 0} (xs ys : List X) (y : X) → xs ++ (y ∷ ys) ≡ [] → ⊥
not_empty [] ys y e = let z : ◌≡◌ {A = ℕ} 0 1 = cc in omega arith
not_empty (x ∷ xs) ys y e = let z : ◌≡◌ {A = ℕ} 0 1 = cc in omega arith
