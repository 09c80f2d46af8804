-- Walks of a function below n come round, and a round of links is a loop.
use Rattle.std.proofs.Common.{◌≡◌, ℕ, zero, suc, ◌+◌, ◌-◌, ◌<◌, ◌≤◌, Bool, true, false, cond, ◌&&◌, ◌||◌, eqb, ◌⊎◌, List, [], ◌∷◌, map, length, get_or, Some, None, sym, refl, ap, ◌∙◌, subst, inl, inr, ⊎_elim, add-one, arith}
use Rattle.std.specs.List.{range_with_len, find}
use Rattle.std.specs.Option.{option_map, unwrap_or}
use Rattle.std.proofs.lemmas.List.FromFn.{length-map-range_with_len, get_or-map-range_with_len}
use Rattle.std.proofs.lemmas.Bool.{or_cases, or_left, and_parts, and_from, eq-eqb, ne_eqb, eqb-true, eqb-false, both_ways, cases_Bool}
use Rattle.descent.specs.declared.link.Link.{Link}
use Rattle.descent.specs.Links.{Linked, Within}
use Rattle.descent.specs.Loops.{Loop}
use Rattle.order.specs.Order.{lowest}
use Rattle.order.specs.Down.{down, walked, Round}
use Rattle.order.proofs.Lowest.{lowest_some, lowest_none, lowest-first, option_cases}
use Rattle.order.proofs.Tallies.{tally, tally_le, tally_none, tally_more}

module _ (f : ℕ → ℕ) where
  pub walked_more : (t i : ℕ) → walked f t (i + 1) ≡ f (walked f t i)
  walked_more t i = ap (walked f t) (add-one i)

  pub walked_add : (t i j : ℕ) → walked f t (i + j) ≡ walked f (walked f t i) j
  walked_add t i zero = let z : i + 0 ≡ i = omega arith in ap (walked f t) z
  walked_add t i (suc j) = let z : i + suc j ≡ suc (i + j) = omega arith in ap (walked f t) z ∙ ap f (walked_add t i j)

-- whether u is one of the first i of a sequence
abbrev visited : (ℕ → ℕ) → ℕ → ℕ → Bool
visited x zero u = false
visited x (suc i) u = eqb (x i) u || visited x i u

visited_at : (x : ℕ → ℕ) (i u : ℕ) → visited x i u ≡ true → (j : ℕ) × (j < i) × (x j ≡ u)
visited_at x zero u e = absurd (both_ways false refl e)
visited_at x (suc i) u e =
    ⊎_elim
    (λ f. (i, omega arith, eqb-true (x i) u f))
    (λ f. let r = visited_at x i u f in (r.0, omega (arith, r.1), r.2))
    (or_cases (eqb (x i) u) (visited x i u) e)

-- of the first i of a sequence below n, two are equal, or i numbers below n are visited
repeats : (n : ℕ) (x : ℕ → ℕ) (i : ℕ) → ((j : ℕ) → x j < n) → ((j : ℕ) × ((k : ℕ) × (j < k) × (k < i) × (x j ≡ x k))) ⊎ (tally n (visited x i) ≡ i)
repeats n x zero h = inr (tally_none n)
repeats n x (suc i) h =
    ⊎_elim
    (λ (r : (j : ℕ) × ((k : ℕ) × (j < k) × (k < i) × (x j ≡ x k))). inl (r.0, (r.1.0, r.1.1, omega (arith, r.1.2), r.1.3)))
    (λ (r : tally n (visited x i) ≡ i).
    ⊎_elim
    (λ (e : visited x i (x i) ≡ true). let v = visited_at x i (x i) e in inl (v.0, (i, v.1, omega arith, v.2)))
    (λ (e : visited x i (x i) ≡ false).
    inr (tally_more n (visited x i) (visited x (suc i)) (x i) (h i) e (or_left (eqb (x i) (x i)) (visited x i (x i)) (eq-eqb (x i) (x i) refl))
    (λ u d. ap (λ b. b || visited x i u) (ne_eqb (x i) u (λ q. d (sym q))))
    ∙ ap (λ m. m + 1) r ∙ add-one i))
    (cases_Bool (visited x i (x i))))
    (repeats n x i h)

-- after n steps below n, one stands where one comes round
pub comes_round : (n : ℕ) (f : ℕ → ℕ) (t : ℕ) → ((i : ℕ) → walked f t i < n) → (p : ℕ) × (0 < p) × (p ≤ n) × (walked f (walked f t n) p ≡ walked f t n)
comes_round n f t h =
    ⊎_elim
    (λ (r : (j : ℕ) × ((k : ℕ) × (j < k) × (k < n + 1) × (walked f t j ≡ walked f t k))).
    let j = r.0 in
    let k = r.1.0 in
    let lt : j < k = r.1.1 in
    let le : k < n + 1 = r.1.2 in
    let a : n + (k - j) ≡ k + (n - j) = omega arith in
    let b : j + (n - j) ≡ n = omega arith in (
      k - j,
      omega arith,
      omega arith,
      sym (walked_add f t n (k - j)) ∙ ap (walked f t) a ∙ walked_add f t k (n - j)
          ∙ ap (λ s. walked f s (n - j)) (sym r.1.3) ∙ sym (walked_add f t j (n - j)) ∙ ap (walked f t) b,
    ))
    (λ (r : tally n (visited (walked f t) (n + 1)) ≡ n + 1). let z : ⊥ = omega (arith, tally_le n (visited (walked f t) (n + 1))) in absurd z)
    (repeats n (walked f t) (n + 1) h)

-- and the first time that one does is a round
pub first_round : (f : ℕ → ℕ) (t p : ℕ) → 0 < p → walked f t p ≡ t → (k : ℕ) × (k ≤ p) × Round f t k
first_round f t p h e =
    let test : ℕ → Bool = λ i. eqb (walked f t (i + 1)) t in
    ⊎_elim
    (λ (none : lowest test 0 p ≡ None).
    let q : (p - 1) + 1 ≡ p = omega arith in
    absurd (eqb-false (walked f t ((p - 1) + 1)) t (lowest_none test 0 p (p - 1) none (omega arith) (omega arith)) (ap (walked f t) q ∙ e)))
    (λ (some : (i : ℕ) × (lowest test 0 p ≡ Some i)).
    let i = some.0 in
    let w = lowest_some test 0 p i some.1 in (
      i + 1,
      omega (arith, w.1),
      record {
        some = omega arith;
        back = eqb-true _ _ w.0;
        first = λ j g l c.
            let q : (j - 1) + 1 ≡ j = omega arith in
            eqb-false (walked f t ((j - 1) + 1)) t (lowest-first test 0 p i (j - 1) some.1 (omega arith) (omega arith)) (ap (walked f t) q ∙ c);
      },
    ))
    (option_cases (lowest test 0 p))

-- the types of a round along links, written from its end, are a loop
pub round_loop : (links : List Link) (f : ℕ → ℕ) (t k : ℕ) (types : List ℕ) → Round f t k → ((i : ℕ) → Linked links (f (walked f t i)) (walked f t i))
    → length types ≡ k → ((i : ℕ) → i < k → get_or types i 0 ≡ walked f t (k - 1 - i)) → Loop links types
round_loop links f t k types r linked long at = record {
  some = omega (arith, r.some);
  different = λ i j lt h e.
      let a = k - 1 - j in
      let b = k - 1 - i in
      let same : walked f t a ≡ walked f t b = sym (at j (omega arith)) ∙ sym e ∙ at i (omega arith) in
      let whole : b + (k - b) ≡ k = omega arith in
      r.first (a + (k - b)) (omega arith) (omega arith)
      (walked_add f t a (k - b) ∙ ap (λ s. walked f s (k - b)) same ∙ sym (walked_add f t b (k - b)) ∙ ap (walked f t) whole ∙ r.back);
  next = λ i h.
      let m = k - 1 - (i + 1) in
      let up : k - 1 - i ≡ suc m = omega arith in
      subst (λ (x : ℕ). Linked links x (get_or types (i + 1) 0)) (sym (at i (omega arith) ∙ ap (walked f t) up))
      (subst (λ (y : ℕ). Linked links (f (walked f t m)) y) (sym (at (i + 1) (omega arith))) (linked m));
  back = λ i h.
      let z : k - 1 - i ≡ 0 = omega arith in
      let up : suc (k - 1 - 0) ≡ k = omega (arith, r.some) in
      subst (λ (x : ℕ). Linked links x (get_or types 0 0)) (sym (at i (omega arith) ∙ ap (walked f t) z ∙ sym r.back ∙ ap (walked f t) (sym up)))
      (subst (λ (y : ℕ). Linked links (f (walked f t (k - 1 - 0))) y) (sym (at 0 (omega (arith, r.some)))) (linked (k - 1 - 0)));
}

-- the step down, link by link
down_hit : (l : Link) (links : List Link) (test : ℕ → Bool) (t : ℕ) → (eqb l.to t && test l.from) ≡ true → down (l ∷ links) test t ≡ l.from
down_hit l links test t e = ap (λ b. unwrap_or (option_map (λ k. k.from) (cond b (Some l) (find (λ k. eqb k.to t && test k.from) links))) t) e

down_miss : (l : Link) (links : List Link) (test : ℕ → Bool) (t : ℕ) → (eqb l.to t && test l.from) ≡ false → down (l ∷ links) test t ≡ down links test t
down_miss l links test t e = ap (λ b. unwrap_or (option_map (λ k. k.from) (cond b (Some l) (find (λ k. eqb k.to t && test k.from) links))) t) e

-- the step leads along a link, from a type that passes the test
abbrev Leads : List Link → (ℕ → Bool) → ℕ → Type 0
Leads links test t = Linked links (down links test t) t × (test (down links test t) ≡ true)

leads_now : (l : Link) (links : List Link) (test : ℕ → Bool) (t : ℕ) → (eqb l.to t && test l.from) ≡ true → Leads (l ∷ links) test t
leads_now l links test t e =
    let w = and_parts (eqb l.to t) (test l.from) e in
    let d = down_hit l links test t e in
    ((0, omega arith, sym d, eqb-true _ _ w.0), ap test d ∙ w.1)

leads_later : (l : Link) (links : List Link) (test : ℕ → Bool) (t : ℕ) → (eqb l.to t && test l.from) ≡ false → Leads links test t → Leads (l ∷ links) test t
leads_later l links test t e r =
    let d = down_miss l links test t e in
    ((suc r.0.0, omega (arith, r.0.1), r.0.2 ∙ sym d, r.0.3), ap test d ∙ r.1)

-- where a subtype passes the test, the step leads to one
pub down-leads : (links : List Link) (test : ℕ → Bool) (t a : ℕ) → Linked links a t → test a ≡ true → Linked links (down links test t) t × (test (down links test t) ≡ true)
down-leads [] test t a (k, h, p, q) e = let z : ⊥ = omega arith in absurd z
down-leads (l ∷ links) test t a (zero, h, p, q) e = leads_now l links test t (and_from _ _ (eq-eqb _ _ q) (ap test p ∙ e))
down-leads (l ∷ links) test t a (suc k, h, p, q) e =
    ⊎_elim
    (λ f. leads_now l links test t f)
    (λ f. leads_later l links test t f (down-leads links test t a (k, omega arith, p, q) e))
    (cases_Bool (eqb l.to t && test l.from))

-- where each type below n that passes the test has a subtype that passes it
module _ (n : ℕ) (links : List Link) (within : Within links n) (test : ℕ → Bool)
    (has : (t : ℕ) → t < n → test t ≡ true → (a : ℕ) × Linked links a t × (test a ≡ true)) where
  leads : (t : ℕ) → t < n → test t ≡ true → Linked links (down links test t) t × (test (down links test t) ≡ true)
  leads t h e = let a = has t h e in down-leads links test t a.0 a.1 a.2

  module _ (t : ℕ) (below : t < n) (passes : test t ≡ true) where
    pub walked_stays : (i : ℕ) → (walked (down links test) t i < n) × (test (walked (down links test) t i) ≡ true)
    walked_stays zero = (below, passes)
    walked_stays (suc i) =
        let w = walked_stays i in
        let d = leads (walked (down links test) t i) w.0 w.1 in
        (subst (λ (x : ℕ). x < n) d.0.2 (within d.0.0 d.0.1).0, d.1)

    pub walked_linked : (i : ℕ) → Linked links (down links test (walked (down links test) t i)) (walked (down links test) t i)
    walked_linked i = let w = walked_stays i in (leads (walked (down links test) t i) w.0 w.1).0

    -- n steps down lead to a type on a round
    pub down_round : (p : ℕ) × (0 < p) × (p ≤ n) × (walked (down links test) (walked (down links test) t n) p ≡ walked (down links test) t n)
    down_round = comes_round n (down links test) t (λ i. (walked_stays i).0)

  -- so there is a loop
  pub some_loop : (t : ℕ) → t < n → test t ≡ true → (types : List ℕ) × Loop links types
  some_loop t h e =
      let f = down links test in
      let s = walked f t n in
      let w = walked_stays t h e n in
      let p = down_round t h e in
      let r = first_round f s p.0 p.1 p.3 in
      let k = r.0 in
      let types = map (λ i. walked f s (k - 1 - i)) (range_with_len 0 k) in (
        types,
        round_loop links f s k types r.2 (walked_linked s w.0 w.1) (length-map-range_with_len (λ i. walked f s (k - 1 - i)) 0 k)
            (λ i l. get_or-map-range_with_len (λ i. walked f s (k - 1 - i)) 0 k i i 0 l (omega arith)),
      )
