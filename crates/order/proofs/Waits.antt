-- The links that a type waits for, and the types that are ranked.
use Rattle.std.proofs.Common.{◌≡◌, ℕ, ◌+◌, Bool, true, false, cond, not, ◌&&◌, ◌||◌, eqb, ◌≢◌, List, [], ◌∷◌, ◌++◌, sym, refl, ap, ◌∙◌, ⊎_elim, arith}
use Rattle.std.proofs.lemmas.List.Sums.{sum_by-cons}
use Rattle.std.proofs.lemmas.Bool.{eq-eqb, ne_eqb, cases_eq}
use Rattle.descent.specs.declared.link.Link.{Link}
use Rattle.order.specs.Order.{ranked, subtypes_ranked}
use Rattle.order.specs.Waiting.{waiting_of, links_between}
use Rattle.order.proofs.Places.{ranked_push_same, ranked_push_other}

-- a type's subtypes are all ranked exactly where it waits for no link
pub subtypes_waiting : (links : List Link) (done : List ℕ) (u : ℕ) → subtypes_ranked links done u ≡ eqb (waiting_of links done u) 0
subtypes_waiting [] done u = refl
subtypes_waiting (l ∷ links) done u =
    let rest = subtypes_waiting links done u in
    let cons : waiting_of (l ∷ links) done u ≡ cond (not (ranked done l.from) && eqb l.to u) 1 0 + waiting_of links done u =
    sum_by-cons (λ (k : Link). cond (not (ranked done k.from) && eqb k.to u) 1 0) l links in
    let both : (x y : Bool) → ((not y || x) && subtypes_ranked links done u) ≡ eqb (cond (not x && y) 1 0 + waiting_of links done u) 0 = λ x y.
    elim x as (λ x. ((not y || x) && subtypes_ranked links done u) ≡ eqb (cond (not x && y) 1 0 + waiting_of links done u) 0) [
      | true ↦ elim y as (λ y. ((not y || true) && subtypes_ranked links done u) ≡ eqb (0 + waiting_of links done u) 0) [
        | true ↦ rest ∙ ap (λ m. eqb m 0) (let z : waiting_of links done u ≡ 0 + waiting_of links done u = omega arith in z)
        | false ↦ rest ∙ ap (λ m. eqb m 0) (let z : waiting_of links done u ≡ 0 + waiting_of links done u = omega arith in z)
      ]
      | false ↦ elim y as (λ y. ((not y || false) && subtypes_ranked links done u) ≡ eqb (cond y 1 0 + waiting_of links done u) 0) [
        | true ↦ sym (ne_eqb (1 + waiting_of links done u) 0 (λ e. omega arith))
        | false ↦ rest ∙ ap (λ m. eqb m 0) (let z : waiting_of links done u ≡ 0 + waiting_of links done u = omega arith in z)
      ]
    ] in
    both (ranked done l.from) (eqb l.to u) ∙ ap (λ m. eqb m 0) (sym cons)

abbrev one_if : Bool → ℕ
one_if b = cond b 1 0

-- once t is ranked, its links are waited for no more
pub waiting_push : (links : List Link) (done : List ℕ) (t u : ℕ) → ranked done t ≡ false → waiting_of links done u ≡ waiting_of links (done ++ (t ∷ [])) u + links_between links t u
waiting_push [] done t u e = refl
waiting_push (l ∷ links) done t u e =
    let rest = waiting_push links done t u e in
    let more = done ++ (t ∷ []) in
    let old : waiting_of (l ∷ links) done u ≡ cond (not (ranked done l.from) && eqb l.to u) 1 0 + waiting_of links done u =
    sum_by-cons (λ (k : Link). cond (not (ranked done k.from) && eqb k.to u) 1 0) l links in
    let new : waiting_of (l ∷ links) more u ≡ cond (not (ranked more l.from) && eqb l.to u) 1 0 + waiting_of links more u =
    sum_by-cons (λ (k : Link). cond (not (ranked more k.from) && eqb k.to u) 1 0) l links in
    let gone : links_between (l ∷ links) t u ≡ cond (eqb l.from t && eqb l.to u) 1 0 + links_between links t u =
    sum_by-cons (λ (k : Link). cond (eqb k.from t && eqb k.to u) 1 0) l links in
    ⊎_elim
    (λ (same : l.from ≡ t).
    let x : ranked done l.from ≡ false = ap (ranked done) same ∙ e in
    let y : ranked more l.from ≡ true = ap (ranked more) same ∙ ranked_push_same done t in
    let p : one_if (not (ranked done l.from) && eqb l.to u) ≡ one_if (eqb l.to u) = ap (λ b. cond (not b && eqb l.to u) 1 0) x in
    let q : one_if (not (ranked more l.from) && eqb l.to u) ≡ 0 = ap (λ b. cond (not b && eqb l.to u) 1 0) y in
    let r : one_if (eqb l.from t && eqb l.to u) ≡ one_if (eqb l.to u) = ap (λ b. cond (b && eqb l.to u) 1 0) (eq-eqb _ _ same) in
    omega arith)
    (λ (other : l.from ≢ t).
    let p : one_if (not (ranked more l.from) && eqb l.to u) ≡ one_if (not (ranked done l.from) && eqb l.to u) =
    ap (λ b. cond (not b && eqb l.to u) 1 0) (ranked_push_other done t l.from other) in
    let r : one_if (eqb l.from t && eqb l.to u) ≡ 0 = ap (λ b. cond (b && eqb l.to u) 1 0) (ne_eqb _ _ other) in
    omega arith)
    (cases_eq l.from t)
