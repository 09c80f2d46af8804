-- Rising ranks rule out loops, and links without a loop have them.
use Rattle.std.proofs.Common.{◌≡◌, ℕ, zero, suc, ◌-◌, ◌<◌, true, false, List, length, get_or, sym, refl, subst, inl, inr, ⊎_elim, add-one, arith}
use Rattle.std.proofs.lemmas.Bool.{cases_eq, cases_Bool, both_ways}
use Rattle.descent.specs.declared.link.Link.{Link}
use Rattle.descent.specs.Computed.{descends}
use Rattle.descent.specs.Kept.{LongPath}
use Rattle.descent.specs.Links.{no_link, Linked, Path, one, more, Descends}
use Rattle.descent.specs.Loops.{Loop, LoopFree, Rising}
use Rattle.descent.proofs.Closures.{decides_descends}
use Rattle.descent.proofs.Descents.{path_split, descent_then_link, link_then_descent}
use Rattle.descent.proofs.Finite.{Either, either_not, either_like, either_below, tally, tally_less}

module _ (links : List Link) (rank : ℕ → ℕ) (rising : Rising links rank) where
  pub rising_path : {a b : ℕ} → Path links a b → rank a < rank b
  rising_path (one {a} {b} l) = rising a b l
  rising_path (more {a} {b} {c} l p) = omega (arith, rising a b l, rising_path p)

  pub rising_loop_free : LoopFree links
  rising_loop_free a p = omega (arith, rising_path p)

  pub rising_antisymmetric : (a b : ℕ) → Descends links a b → Descends links b a → a ≡ b
  rising_antisymmetric a b (inl e) q = e
  rising_antisymmetric a b (inr p) (inl e) = sym e
  rising_antisymmetric a b (inr p) (inr q) = let none : ⊥ = omega (arith, rising_path p, rising_path q) in absurd none

-- ---- a loop leads from its first type back to it
module _ (links : List Link) (types : List ℕ) (loop : Loop links types) where
  along : (i : ℕ) → i < length types → Descends links (get_or types 0 0) (get_or types i 0)
  along zero h = inl refl
  along (suc i) h =
      let next : Linked links (get_or types i 0) (get_or types (suc i) 0) = subst (λ (k : ℕ). Linked links (get_or types i 0) (get_or types k 0)) (add-one i) (loop.next i (omega arith)) in
      inr (descent_then_link links _ _ _ (along i (omega arith)) next)

  pub loop_path : Path links (get_or types 0 0) (get_or types 0 0)
  loop_path =
      let last = length types - 1 in
      descent_then_link links _ _ _ (along last (omega (arith, loop.some))) (loop.back last (omega (arith, loop.some)))

-- ---- descents and paths are decided
pub either_descends : (links : List Link) (a b : ℕ) → Either (Descends links a b)
either_descends links a b =
    ⊎_elim
    (λ (e : descends links a b ≡ true). inl ((decides_descends links a b).0 e))
    (λ (e : descends links a b ≡ false). inr (λ d. both_ways (descends links a b) e ((decides_descends links a b).1 d)))
    (cases_Bool (descends links a b))

-- some base of a has Q, or none has
pub either_base : (links : List Link) (a : ℕ) (Q : ℕ → Type 0) → ((w : ℕ) → Either (Q w)) → Either ((w : ℕ) × Linked links a w × Q w)
either_base links a Q each =
    either_like
    (λ (s : (k : ℕ) × (k < length links) × (((get_or links k no_link).from ≡ a) × Q (get_or links k no_link).to)). ((get_or links s.0 no_link).to, (s.0, s.1, s.2.0, refl), s.2.1))
    (λ (s : (w : ℕ) × Linked links a w × Q w). (s.1.0, s.1.1, (s.1.2, subst Q (sym s.1.3) s.2)))
    (either_below (λ k. ((get_or links k no_link).from ≡ a) × Q (get_or links k no_link).to) (λ k. both (cases_eq (get_or links k no_link).from a) (each (get_or links k no_link).to)) (length links))
  where
    both : {P S : Type 0} → Either P → Either S → Either (P × S)
    both (inl p) (inl s) = inl (p, s)
    both (inl p) (inr none) = inr (λ x. none x.1)
    both (inr none) s = inr (λ x. none x.0)

pub either_path : (links : List Link) (a b : ℕ) → Either (Path links a b)
either_path links a b =
    either_like
    (λ (s : (w : ℕ) × Linked links a w × Descends links w b). link_then_descent links a s.0 b s.1 s.2)
    (λ p. ⊎_elim (λ (l : Linked links a b). (b, l, inl refl)) (λ (s : (w : ℕ) × Linked links a w × Path links w b). (s.0, s.1, inr s.2)) (path_split p))
    (either_base links a (λ w. Descends links w b) (λ w. either_descends links w b))

pub either_long_path : (links : List Link) (a b : ℕ) → Either (LongPath links a b)
either_long_path links a b = either_base links a (λ w. Path links w b) (λ w. either_path links w b)

-- ---- the rank of a type: how many links have an end that no path from it reaches
module _ (links : List Link) (free : LoopFree links) where
  abbrev Beyond : ℕ → ℕ → Type 0
  Beyond a k = Path links a (get_or links k no_link).to → ⊥

  either_beyond : (a k : ℕ) → Either (Beyond a k)
  either_beyond a k = either_not (either_path links a (get_or links k no_link).to)

  abbrev rank : ℕ → ℕ
  rank a = tally (Beyond a) (either_beyond a) (length links)

  pub loop_free_ranks : (rank : ℕ → ℕ) × Rising links rank
  loop_free_ranks = (
    rank,
    λ a b l. tally_less (Beyond a) (Beyond b) (either_beyond a) (either_beyond b) (λ k none p. none (more l p)) (length links) l.0 l.1
        (λ none. none (subst (Path links a) (sym l.3) (one l)))
        (λ p. free b (subst (Path links b) l.3 p)),
  )
