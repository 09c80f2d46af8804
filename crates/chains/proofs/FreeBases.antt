-- The base of lowest rank that is on no chain, found by one pass over the links.
use Rattle.std.specs.Prelude.{◌≡◌, ℕ, ◌+◌, ◌<◌, ◌≤◌, true, false, ◌&&◌, List, length, Some, None, slice_index, slice_index_or, refl}
use Rattle.std.proofs.Common.{sym, ap, subst, ◌∙◌, ⊎_elim, arith}
use Rattle.std.proofs.lemmas.Bool.{and_parts, and_from, eqb-true, eq-eqb, cases_Bool, cases_eq}
use Rattle.descent.specs.declared.link.Link.{Link}
use Rattle.descent.specs.Links.{no_link, Linked}
use Rattle.chains.specs.ChainOrder.{no_chain, off, base, next_base}
use Rattle.chains.specs.Ranked.{Ranked}
use Rattle.chains.specs.Firsts.{first_at, first_none, base_linked, linked_base}

-- u is a base of t on no chain
abbrev Free : List Link → List ℕ → ℕ → ℕ → Type 0
Free links chains t u = Linked links t u × (slice_index chains u ≡ no_chain)

-- after i links: the lowest rank of a base of t on no chain, or n
pub record Lowest (n : ℕ) (links : List Link) (order rank chains : List ℕ) (t i lowest : ℕ) : Type 0 where
  pub most : lowest ≤ n
  pub is_base : lowest < n → Linked links t (slice_index order lowest) × (slice_index chains (slice_index order lowest) ≡ no_chain)
  pub least : (k : ℕ) → k < i → k < length links → (slice_index_or links k no_link).from ≡ t → slice_index chains (slice_index_or links k no_link).to ≡ no_chain → lowest ≤ slice_index rank (slice_index_or links k no_link).to

pub lowest_none : (n : ℕ) (links : List Link) (order rank chains : List ℕ) (t : ℕ) → Lowest n links order rank chains t 0 n
lowest_none n links order rank chains t = record {
  most = omega arith;
  is_base = λ h. let z : ⊥ = omega arith in absurd z;
  least = λ k h l e f. omega arith;
}

module _ {n : ℕ} {links : List Link} {order rank chains : List ℕ} {t i lowest : ℕ} (ranks : Ranked n links order rank) (s : Lowest n links order rank chains t i lowest) where
  -- a link that is passed over, since it has no base on no chain, or one of no lower rank
  pub lowest_keeps : ((slice_index_or links i no_link).from ≡ t → slice_index chains (slice_index_or links i no_link).to ≡ no_chain → lowest ≤ slice_index rank (slice_index_or links i no_link).to)
      → Lowest n links order rank chains t (i + 1) lowest
  lowest_keeps f = record {
    most = s.most;
    is_base = s.is_base;
    least = λ k h l e g.
        ⊎_elim
        (λ (q : k ≡ i). subst (λ (x : ℕ). lowest ≤ slice_index rank (slice_index_or links x no_link).to) (sym q) (f (subst (λ (x : ℕ). (slice_index_or links x no_link).from ≡ t) q e) (subst (λ (x : ℕ). slice_index chains (slice_index_or links x no_link).to ≡ no_chain) q g)))
        (λ (q : k ≡ i → ⊥). s.least k (omega arith) l e g)
        (cases_eq k i);
  }

  pub lowest_takes : i < length links → (slice_index_or links i no_link).from ≡ t → slice_index chains (slice_index_or links i no_link).to ≡ no_chain → slice_index rank (slice_index_or links i no_link).to < lowest
      → Lowest n links order rank chains t (i + 1) (slice_index rank (slice_index_or links i no_link).to)
  lowest_takes h e f less =
      let to = (slice_index_or links i no_link).to in
      let at = ranks.ranks to (ranks.within i h).1 in
      record {
        most = omega (arith, at.0);
        is_base = λ _. (subst (Linked links t) (sym at.1) (i, h, e, refl), ap (λ x. slice_index chains x) at.1 ∙ f);
        least = λ k j l d g.
            ⊎_elim
            (λ (q : k ≡ i). let z = ap (λ x. slice_index rank (slice_index_or links x no_link).to) q in omega arith)
            (λ (q : k ≡ i → ⊥). omega (arith, s.least k (omega arith) l d g))
            (cases_eq k i);
      }

module _ {n : ℕ} {links : List Link} {order rank chains : List ℕ} {t i lowest : ℕ} (ranks : Ranked n links order rank) (s : Lowest n links order rank chains t i lowest) (all : length links ≤ i) where
  -- whoever is a free base has no lower rank
  free_above : (r : ℕ) → r < n → (base links t (slice_index order r) && off chains (slice_index order r)) ≡ true → lowest ≤ r
  free_above r h e =
      let u = slice_index_or order r 0 in
      let parts = and_parts (base links t u) (off chains u) e in
      let l = base_linked links t u parts.0 in
      let free : slice_index_or chains u 0 ≡ no_chain = eqb-true _ _ parts.1 in
      let low = s.least l.0 (omega (arith, l.1)) l.1 l.2 (ap (λ x. slice_index chains x) l.3 ∙ free) in
      let same : slice_index_or rank (slice_index_or links l.0 no_link).to 0 ≡ r = ap (λ x. slice_index rank x) l.3 ∙ (ranks.types r h).1 in
      omega (arith, low, same)

  not_free : (r : ℕ) → r < n → r < lowest → (base links t (slice_index order r) && off chains (slice_index order r)) ≡ false
  not_free r h less =
      ⊎_elim
      (λ (e : (base links t (slice_index order r) && off chains (slice_index order r)) ≡ true). let z : ⊥ = omega (arith, free_above r h e) in absurd z)
      (λ e. e)
      (cases_Bool (base links t (slice_index order r) && off chains (slice_index order r)))

  pub lowest_some : lowest < n → next_base links order chains t ≡ Some (slice_index order lowest)
  lowest_some h =
      let b = s.is_base h in
      first_at (λ u. base links t u && off chains u) order lowest (omega (arith, ranks.long))
      (and_from _ _ (linked_base links t (slice_index order lowest) b.0) (eq-eqb _ _ b.1))
      (λ r l. not_free r (omega arith) l)

  pub lowest_end : n ≤ lowest → next_base links order chains t ≡ None
  lowest_end h = first_none (λ u. base links t u && off chains u) order (λ r l. not_free r (omega (arith, ranks.long)) (omega (arith, ranks.long)))
