-- A path that leads back to its start holds a loop.
use Rattle.std.proofs.Common.{◌≡◌, ℕ, zero, suc, ◌+◌, ◌-◌, ◌<◌, List, [], ◌∷◌, length, get_or, take, drop, sym, refl, ◌∙◌, subst, ⊎_elim, arith}
use Rattle.std.proofs.lemmas.List.{get_or-take, get_or-drop, length-take-le, length-drop}
use Rattle.std.proofs.lemmas.Bool.{cases_eq}
use Rattle.descent.specs.declared.link.Link.{Link}
use Rattle.descent.specs.Links.{Linked, Path, one, more}
use Rattle.descent.specs.Loops.{Loop}
use Rattle.descent.proofs.Finite.{Either, either_below}

-- each type linked to the next, and the last to b
pub record Trail (links : List Link) (types : List ℕ) (b : ℕ) : Type 0 where
  pub some : 0 < length types
  pub next : (i : ℕ) → i + 1 < length types → Linked links (get_or types i 0) (get_or types (i + 1) 0)
  pub last : (i : ℕ) → i + 1 ≡ length types → Linked links (get_or types i 0) b

module _ (links : List Link) where
  -- the types of a path, without its end
  trail : {a b : ℕ} → Path links a b → (types : List ℕ) × (get_or types 0 0 ≡ a) × Trail links types b
  trail (one {a} {b} l) = (
    a ∷ [],
    refl,
    record {
      some = omega arith;
      next = λ i h. let none : ⊥ = omega arith in absurd none;
      last = λ i h. let e : i ≡ 0 = omega arith in subst (λ (k : ℕ). Linked links (get_or (a ∷ []) k 0) b) (sym e) l;
    },
  )
  trail (more {a} {b = w} {c = b} l p) =
      let rest = trail p in
      let ts = rest.0 in
      let t = rest.2 in (
        a ∷ ts,
        refl,
        record {
          some = omega arith;
          next = nexts ts w rest.1 t l;
          last = lasts ts t;
        },
      )
    where
      nexts : (ts : List ℕ) (w : ℕ) → get_or ts 0 0 ≡ w → Trail links ts b → Linked links a w → (i : ℕ) → i + 1 < length (a ∷ ts) → Linked links (get_or (a ∷ ts) i 0) (get_or (a ∷ ts) (i + 1) 0)
      nexts ts w e t l zero h = subst (Linked links a) (sym e) l
      nexts ts w e t l (suc i) h =
          let f : suc i + 1 ≡ suc (i + 1) = omega arith in
          subst (λ (k : ℕ). Linked links (get_or ts i 0) (get_or (a ∷ ts) k 0)) (sym f) (t.next i (omega arith))

      lasts : (ts : List ℕ) → Trail links ts b → (i : ℕ) → i + 1 ≡ length (a ∷ ts) → Linked links (get_or (a ∷ ts) i 0) b
      lasts ts t zero h = let none : ⊥ = omega (arith, t.some) in absurd none
      lasts ts t (suc i) h = t.last i (omega arith)

  -- a trail from a type to itself
  abbrev Round : List ℕ → Type 0
  Round types = Trail links types (get_or types 0 0)

  -- two places with the same type cut a shorter round out
  shorter : (types : List ℕ) → Round types → (i j : ℕ) → i < j → j < length types → get_or types i 0 ≡ get_or types j 0 → (ts : List ℕ) × (length ts < length types) × Round ts
  shorter types round i j less within same =
      let size = j - i in
      let ts = take size (drop i types) in
      let long : length ts ≡ size = length-take-le size (drop i types) (omega (arith, length-drop i types)) in
      let at : (k : ℕ) → k < size → get_or ts k 0 ≡ get_or types (i + k) 0 = λ k h. get_or-take size (drop i types) k 0 h ∙ get_or-drop i types k 0 in
      let first : get_or ts 0 0 ≡ get_or types j 0 = at 0 (omega arith) ∙ subst (λ (x : ℕ). get_or types x 0 ≡ get_or types j 0) {x = i} {y = i + 0} (omega arith) same in (
        ts,
        omega arith,
        record {
          some = omega arith;
          next = λ k h.
              let e : i + (k + 1) ≡ (i + k) + 1 = omega arith in
              subst (λ (x : ℕ). Linked links x (get_or ts (k + 1) 0)) (sym (at k (omega arith)))
              (subst (λ (x : ℕ). Linked links (get_or types (i + k) 0) x) (sym (at (k + 1) (omega arith)))
              (subst (λ (x : ℕ). Linked links (get_or types (i + k) 0) (get_or types x 0)) (sym e) (round.next (i + k) (omega arith))));
          last = λ k h.
              let e : (i + k) + 1 ≡ j = omega arith in
              subst (λ (x : ℕ). Linked links x (get_or ts 0 0)) (sym (at k (omega arith)))
              (subst (Linked links (get_or types (i + k) 0)) (sym first)
              (subst (λ (x : ℕ). Linked links (get_or types (i + k) 0) (get_or types x 0)) e (round.next (i + k) (omega arith))));
        },
      )

  -- two places hold the same type, or none do
  either_repeats : (types : List ℕ) → Either ((j : ℕ) × (j < length types) × ((i : ℕ) × (i < j) × (get_or types i 0 ≡ get_or types j 0)))
  either_repeats types =
      either_below (λ j. (i : ℕ) × (i < j) × (get_or types i 0 ≡ get_or types j 0))
      (λ j. either_below (λ i. get_or types i 0 ≡ get_or types j 0) (λ i. cases_eq (get_or types i 0) (get_or types j 0)) j) (length types)

  loop_of_round : (size : ℕ) (types : List ℕ) → length types < size → Round types → (ts : List ℕ) × Loop links ts
  loop_of_round zero types h round = let none : ⊥ = omega arith in absurd none
  loop_of_round (suc size) types h round =
      ⊎_elim
      (λ (twice : (j : ℕ) × (j < length types) × ((i : ℕ) × (i < j) × (get_or types i 0 ≡ get_or types j 0))).
      let s = shorter types round twice.2.0 twice.0 twice.2.1 twice.1 twice.2.2 in
      loop_of_round size s.0 (omega (arith, s.1)) s.2)
      (λ none. (types, record { some = round.some; different = λ i j l k e. none (j, k, (i, l, e)); next = round.next; back = round.last }))
      (either_repeats types)

  pub path_loop : (a : ℕ) → Path links a a → (ts : List ℕ) × Loop links ts
  path_loop a p =
      let t = trail p in
      loop_of_round (suc (length t.0)) t.0 (omega arith) (subst (Trail links t.0) (sym t.1) t.2)
