-- Standing chains renumbered from 0: joining keeps the decomposer's meaning.
use Rattle.std.specs.Prelude.{◌≡◌, ℕ, ◌<◌, true, List, Decides, refl}
use Rattle.std.proofs.Common.{sym, ap, subst, ◌∙◌, ⊎_elim, arith}
use Rattle.std.proofs.lemmas.List.FromFn.{get_or-map-range_with_len}
use Rattle.std.proofs.lemmas.Bool.{cases_order}
use Rattle.std.proofs.lemmas.Bool.Decides.{Decides-eqb, Decides-below_or}
use Rattle.descent.specs.declared.link.Link.{Link}
use Rattle.chains.specs.Chains.{Chained}
use Rattle.chains.specs.Counting.{some, passing}
use Rattle.chains.specs.Ends.{Strung}
use Rattle.chains.specs.Joining.{chain_of, position_of, on, stands, renumbered, joined}
use Rattle.chains.specs.Meaning.{Decomposes, JoinedFrom}
use Rattle.chains.specs.Places.{Places}
use Rattle.chains.specs.Counts.{passing_above, passing-at}
use Rattle.chains.specs.Strung.{chained_strung, chain_first, turns_strung}

pub decides_stands : (n : ℕ) (s : Places) (c : ℕ) → Decides (stands n s c) ((t : ℕ) × (t < n) × (chain_of s t ≡ c))
decides_stands n s c = Decides-below_or (on s c) (λ t. chain_of s t ≡ c) (λ m. some m (on s c)) (λ t. Decides-eqb (chain_of s t) c) refl (λ _. refl) n

module _ {n : ℕ} {links : List Link} {s : Places} (strung : Strung n links s) where
  abbrev after : Places
  after = renumbered n s

  abbrev number : ℕ → ℕ
  number c = passing c (stands n s)

  chain_after : (t : ℕ) → t < n → chain_of after t ≡ number (chain_of s t)
  chain_after t h = get_or-map-range_with_len (λ t. passing (chain_of s t) (stands n s)) 0 n t t 0 h (omega arith)

  -- the chain of a type stands
  has_type : (t : ℕ) → t < n → stands n s (chain_of s t) ≡ true
  has_type t h = (decides_stands n s (chain_of s t)).1 (t, h, refl)

  -- two chains that stand have different numbers
  same_chain : (t u : ℕ) → t < n → u < n → chain_of after t ≡ chain_of after u → chain_of s t ≡ chain_of s u
  same_chain t u h i x =
      let y : number (chain_of s t) ≡ number (chain_of s u) = sym (chain_after t h) ∙ x ∙ chain_after u i in
      ⊎_elim
      (λ e. e)
      (⊎_elim
      (λ (l : chain_of s t < chain_of s u). let z : ⊥ = omega (arith, y, passing_above (chain_of s t) (chain_of s u) (stands n s) l (has_type t h)) in absurd z)
      (λ (l : chain_of s u < chain_of s t). let z : ⊥ = omega (arith, y, passing_above (chain_of s u) (chain_of s t) (stands n s) l (has_type u i)) in absurd z))
      (cases_order (chain_of s t) (chain_of s u))

  pub strung_chained : Chained n links (renumbered n s).chains (renumbered n s).positions (renumbered n s).count
  strung_chained = record {
    below = λ t h. omega (arith, chain_after t h, passing_above (chain_of s t) s.count (stands n s) (strung.below t h) (has_type t h));
    apart = λ t u h i x y. strung.apart t u h i (same_chain t u h i x) y;
    begins = λ c h.
        let k = passing-at s.count c (stands n s) h in
        let t = (decides_stands n s k.0).0 k.2 in
        let f = chain_first strung (position_of s t.0) t.0 t.1 refl in
        (f.0, f.1, chain_after f.0 f.1 ∙ ap number (f.2.here ∙ t.2) ∙ k.3, f.2.start);
    follows = λ t p h x.
        let b = strung.follows t p h x in
        (b.0, b.1, chain_after b.0 b.1 ∙ ap number b.2 ∙ sym (chain_after t h), b.3, b.4);
  }

-- joining keeps the meaning
pub joined_chained : (n : ℕ) (links : List Link) (s : Places) → Chained n links s.chains s.positions s.count
    → Chained n links (joined n links s).chains (joined n links s).positions (joined n links s).count
joined_chained n links s c = strung_chained (turns_strung n links s.count s 0 (chained_strung c))

-- joining over a decomposer has the meaning
pub joining_decomposes : (Gives : ℕ → List Link → List ℕ → List ℕ → List ℕ → ℕ → Type 0) → Decomposes Gives → Decomposes (JoinedFrom Gives)
joining_decomposes Gives meaning n links order rank chains positions count few ranks (before, gave, e) =
    subst (λ (x : Places). Chained n links x.chains x.positions x.count) (sym e)
    (joined_chained n links before (meaning n links order rank before.chains before.positions before.count few ranks gave))
