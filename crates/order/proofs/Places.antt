-- The types ranked so far, by their places, and the rank of each.
use Rattle.std.proofs.Common.{◌≡◌, ℕ, suc, ◌+◌, ◌<◌, ◌≤◌, Bool, true, false, cond, not, ◌||◌, eqb, List, [], ◌∷◌, ◌++◌, length, get_or, sym, refl, ap, ◌∙◌, ⊎_elim, arith}
use Rattle.std.proofs.lemmas.Bool.{or_cases, or_right, or_parts, eq-eqb, ne_eqb, eqb-true, both_ways, cases_Bool}
use Rattle.std.proofs.lemmas.List.Folds.{list_any_at}
use Rattle.std.proofs.lemmas.List.Recursion.{or_push}
use Rattle.std.proofs.Math.Bool.{or-false}
use Rattle.order.specs.Order.{ranked}
use Rattle.order.specs.Ranks.{no_rank, rank_from, rank_of}
use Rattle.order.proofs.Tallies.{tally, tally_more}

-- a ranked type stands at some place
pub ranked-at : (xs : List ℕ) (t : ℕ) → ranked xs t ≡ true → (j : ℕ) × (j < length xs) × (get_or xs j 0 ≡ t)
ranked-at [] t e = absurd (both_ways false refl e)
ranked-at (x ∷ xs) t e =
    ⊎_elim
    (λ f. (0, omega arith, eqb-true x t f))
    (λ f. let r = ranked-at xs t f in (suc r.0, omega (arith, r.1), r.2))
    (or_cases (eqb x t) (ranked xs t) e)

-- and a type that stands at some place is ranked
pub at-ranked : (xs : List ℕ) (j t : ℕ) → j < length xs → get_or xs j 0 ≡ t → ranked xs t ≡ true
at-ranked xs j t h e = list_any_at (λ x. eqb x t) xs j 0 h (eq-eqb _ _ e)

pub ranked-push : (xs : List ℕ) (t u : ℕ) → ranked (xs ++ (t ∷ [])) u ≡ (ranked xs u || eqb t u)
ranked-push xs t u = or_push (λ ys. ranked ys u) (λ x. eqb x u) refl (λ x ys. refl) xs t

pub ranked_push_same : (xs : List ℕ) (t : ℕ) → ranked (xs ++ (t ∷ [])) t ≡ true
ranked_push_same xs t = ranked-push xs t t ∙ or_right _ _ (eq-eqb t t refl)

pub ranked_push_other : (xs : List ℕ) (t u : ℕ) → (u ≡ t → ⊥) → ranked (xs ++ (t ∷ [])) u ≡ ranked xs u
ranked_push_other xs t u d = ranked-push xs t u ∙ ap (λ b. ranked xs u || b) (ne_eqb t u (λ q. d (sym q))) ∙ or-false (ranked xs u)

-- one type more is ranked
pub tally_push : (n : ℕ) (xs : List ℕ) (t : ℕ) → t < n → ranked xs t ≡ false → tally n (ranked (xs ++ (t ∷ []))) ≡ tally n (ranked xs) + 1
tally_push n xs t h e = tally_more n (ranked xs) (ranked (xs ++ (t ∷ []))) t h e (ranked_push_same xs t) (ranked_push_other xs t)

-- the rank of an unranked type, of a ranked one, and of the type at a place
rank_step : (r : ℕ) (x : ℕ) (xs : List ℕ) (t : ℕ) (b : Bool) → eqb x t ≡ b → rank_from r (x ∷ xs) t ≡ cond b r (rank_from (r + 1) xs t)
rank_step r x xs t b e = ap (λ b. cond b r (rank_from (r + 1) xs t)) e

rank_none : (r : ℕ) (xs : List ℕ) (t : ℕ) → ranked xs t ≡ false → rank_from r xs t ≡ no_rank
rank_none r [] t e = refl
rank_none r (x ∷ xs) t e = let p = or_parts (eqb x t) (ranked xs t) e in rank_step r x xs t false p.0 ∙ rank_none (r + 1) xs t p.1

rank_place : (r : ℕ) (xs : List ℕ) (t : ℕ) → ranked xs t ≡ true → (j : ℕ) × (rank_from r xs t ≡ r + j) × (j < length xs) × (get_or xs j 0 ≡ t)
rank_place r [] t e = absurd (both_ways false refl e)
rank_place r (x ∷ xs) t e =
    ⊎_elim
    (λ f. (0, rank_step r x xs t true f ∙ omega arith, omega arith, eqb-true x t f))
    (λ f.
    let below : ranked xs t ≡ true = ⊎_elim (λ g. absurd (both_ways (eqb x t) f g)) (λ g. g) (or_cases (eqb x t) (ranked xs t) e) in
    let p = rank_place (r + 1) xs t below in
    (suc p.0, rank_step r x xs t false f ∙ p.1 ∙ omega arith, omega (arith, p.2), p.3))
    (cases_Bool (eqb x t))

pub unranked_rank : (xs : List ℕ) (t : ℕ) → ranked xs t ≡ false → rank_of xs t ≡ no_rank
unranked_rank xs t e = rank_none 0 xs t e

-- a ranked type stands at the place of its rank
pub ranked_rank : (xs : List ℕ) (t : ℕ) → ranked xs t ≡ true → (rank_of xs t < length xs) × (get_or xs (rank_of xs t) 0 ≡ t)
ranked_rank xs t e =
    let p = rank_place 0 xs t e in
    let q : rank_of xs t ≡ p.0 = p.1 ∙ omega arith in
    (omega (arith, p.2, q), ap (λ j. get_or xs j 0) q ∙ p.3)

rank_from_push : (r : ℕ) (xs : List ℕ) (t u : ℕ) → rank_from r (xs ++ (t ∷ [])) u ≡ cond (ranked xs u) (rank_from r xs u) (cond (eqb t u) (r + length xs) no_rank)
rank_from_push r [] t u = ap (λ m. cond (eqb t u) m no_rank) (let z : r ≡ r + 0 = omega arith in z)
rank_from_push r (x ∷ xs) t u =
    ⊎_elim
    (λ f.
    rank_step r x (xs ++ (t ∷ [])) u true f
    ∙ sym (ap (λ b. cond (b || ranked xs u) (cond b r (rank_from (r + 1) xs u)) (cond (eqb t u) (r + suc (length xs)) no_rank)) f))
    (λ f.
    let m : (r + 1) + length xs ≡ r + suc (length xs) = omega arith in
    rank_step r x (xs ++ (t ∷ [])) u false f ∙ rank_from_push (r + 1) xs t u
    ∙ ap (λ k. cond (ranked xs u) (rank_from (r + 1) xs u) (cond (eqb t u) k no_rank)) m
    ∙ sym (ap (λ b. cond (b || ranked xs u) (cond b r (rank_from (r + 1) xs u)) (cond (eqb t u) (r + suc (length xs)) no_rank)) f))
    (cases_Bool (eqb x u))

-- the type at the new last place has the next rank, and each other one keeps its own
pub rank_push_same : (xs : List ℕ) (t : ℕ) → ranked xs t ≡ false → rank_of (xs ++ (t ∷ [])) t ≡ length xs
rank_push_same xs t e =
    let z : 0 + length xs ≡ length xs = omega arith in
    rank_from_push 0 xs t t
    ∙ ap (λ b. cond b (rank_of xs t) (cond (eqb t t) (0 + length xs) no_rank)) e
    ∙ ap (λ b. cond b (0 + length xs) no_rank) (eq-eqb t t refl) ∙ z

pub rank_push_other : (xs : List ℕ) (t u : ℕ) → (u ≡ t → ⊥) → rank_of (xs ++ (t ∷ [])) u ≡ rank_of xs u
rank_push_other xs t u d =
    rank_from_push 0 xs t u
    ∙ ap (λ b. cond (ranked xs u) (rank_of xs u) (cond b (0 + length xs) no_rank)) (ne_eqb t u (λ q. d (sym q)))
    ∙ ⊎_elim
    (λ e. ap (λ b. cond b (rank_of xs u) no_rank) e)
    (λ e. ap (λ b. cond b (rank_of xs u) no_rank) e ∙ sym (unranked_rank xs u e))
    (cases_Bool (ranked xs u))

-- a table entry that holds a type's rank tells whether the type is ranked
pub rank_tells : (xs : List ℕ) (t m : ℕ) → length xs ≤ no_rank → m ≡ rank_of xs t → eqb m no_rank ≡ not (ranked xs t)
rank_tells xs t m h e =
    ⊎_elim
    (λ (r : ranked xs t ≡ true). let k = (ranked_rank xs t r).0 in ne_eqb m no_rank (λ q. omega arith) ∙ sym (ap not r))
    (λ (r : ranked xs t ≡ false). eq-eqb m no_rank (e ∙ unranked_rank xs t r) ∙ sym (ap not r))
    (cases_Bool (ranked xs t))
