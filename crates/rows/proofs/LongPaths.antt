-- The computed longer path is a path of two or more links, and the kept entry of a link.
use Rattle.std.proofs.Common.{◌≡◌, ℕ, Bool, true, false, List, [], ◌∷◌, Decides, sym, refl, subst, inl, inr, ⊎_elim, arith}
use Rattle.std.proofs.lemmas.Bool.{cases_Bool, cond-true, cond-false, false≢true}
use Rattle.std.proofs.lemmas.Bool.Decides.{Decides-eqb, Decides-or, Decides-and, Decides-like}
use Rattle.descent.specs.declared.link.Link.{Link}
use Rattle.descent.specs.Computed.{descends}
use Rattle.descent.specs.Kept.{LongPath}
use Rattle.descent.specs.Links.{Linked, Path, Descends}
use Rattle.descent.proofs.Closures.{linked_tail, linked_cases, decides_descends}
use Rattle.descent.proofs.Descents.{path_split, link_then_descent}
use Rattle.rows.specs.KeptEntries.{some_base, long_path, kept_entry}

decides_some_base : (links : List Link) (a : ℕ) (test : ℕ → Bool) (Q : ℕ → Type 0) → ((w : ℕ) → Decides (test w) (Q w)) → Decides (some_base links a test) ((w : ℕ) × Linked links a w × Q w)
decides_some_base [] a test Q each = ((λ e. absurd (false≢true e)), (λ (w, l, q). let none : ⊥ = omega (arith, l.1) in absurd none))
decides_some_base (l ∷ links) a test Q each =
    Decides-like (some_base (l ∷ links) a test)
    (⊎_elim
    (λ (here : (l.from ≡ a) × Q l.to). (l.to, (0, omega arith, here.0, refl), here.1))
    (λ (later : (w : ℕ) × Linked links a w × Q w). (later.0, linked_tail l links a later.0 later.1, later.2)))
    (λ (w, k, q).
    ⊎_elim
    (λ (e : (a ≡ l.from) × (l.to ≡ w)). inl (sym e.0, subst Q (sym e.1) q))
    (λ (later : Linked links a w). inr (w, later, q))
    (linked_cases l links a w k))
    (Decides-or _ _ (Decides-and _ _ (Decides-eqb l.from a) (each l.to)) (decides_some_base links a test Q each))

-- a path is a link and then a descent
decides_path : (links : List Link) (w b : ℕ) → Decides (some_base links w (λ x. descends links x b)) (Path links w b)
decides_path links w b =
    Decides-like (some_base links w (λ x. descends links x b))
    (λ (s : (x : ℕ) × Linked links w x × Descends links x b). link_then_descent links w s.0 b s.1 s.2)
    (λ p. ⊎_elim (λ (l : Linked links w b). (b, l, inl refl)) (λ (s : (x : ℕ) × Linked links w x × Path links x b). (s.0, s.1, inr s.2)) (path_split p))
    (decides_some_base links w (λ x. descends links x b) (λ x. Descends links x b) (λ x. decides_descends links x b))

pub decides_long_path : (links : List Link) (a b : ℕ) → Decides (long_path links a b) (LongPath links a b)
decides_long_path links a b = decides_some_base links a (λ w. some_base links w (λ x. descends links x b)) (λ w. Path links w b) (λ w. decides_path links w b)

module _ (links : List Link) (l : Link) where
  pub long_entry : LongPath links l.from l.to → kept_entry links l ≡ 0
  long_entry p = cond-true (long_path links l.from l.to) 0 1 ((decides_long_path links l.from l.to).1 p)

  pub short_entry : (LongPath links l.from l.to → ⊥) → kept_entry links l ≡ 1
  short_entry none =
      ⊎_elim
      (λ (e : long_path links l.from l.to ≡ true). absurd (none ((decides_long_path links l.from l.to).0 e)))
      (λ (e : long_path links l.from l.to ≡ false). cond-false (long_path links l.from l.to) 0 1 e)
      (cases_Bool (long_path links l.from l.to))

  pub entry_short : kept_entry links l ≡ 1 → LongPath links l.from l.to → ⊥
  entry_short e p = let z = long_entry p in omega arith
