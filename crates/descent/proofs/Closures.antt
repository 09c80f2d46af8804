-- Descent by one more link, and that descent is decided.
use Rattle.std.proofs.Common.{◌≡◌, ℕ, zero, suc, ◌⊎◌, List, [], ◌∷◌, Decides, sym, refl, subst, inl, inr, ⊎_elim, arith}
use Rattle.std.proofs.lemmas.Bool.Decides.{Decides-eqb, Decides-or, Decides-and, Decides-like}
use Rattle.descent.specs.declared.link.Link.{Link}
use Rattle.descent.specs.Computed.{descends}
use Rattle.descent.specs.Links.{Linked, Path, one, more, Descends}
use Rattle.descent.proofs.Descents.{descends_refl, descends_trans, descends-link}

-- a descent by one more link: by the others, or by the others to its start and from its end
abbrev pub Through : Link → List Link → ℕ → ℕ → Type 0
Through l links a b = Descends links a b ⊎ (Descends links a l.from × Descends links l.to b)

pub linked_tail : (l : Link) (links : List Link) (a b : ℕ) → Linked links a b → Linked (l ∷ links) a b
linked_tail l links a b (k, h, e, f) = (suc k, omega arith, e, f)

pub linked_cases : (l : Link) (links : List Link) (a b : ℕ) → Linked (l ∷ links) a b → ((a ≡ l.from) × (l.to ≡ b)) ⊎ Linked links a b
linked_cases l links a b (zero, h, e, f) = inl (sym e, f)
linked_cases l links a b (suc k, h, e, f) = inr (k, omega arith, e, f)

path_tail : (l : Link) {links : List Link} {a b : ℕ} → Path links a b → Path (l ∷ links) a b
path_tail l (one k) = one (linked_tail l _ _ _ k)
path_tail l (more k p) = more (linked_tail l _ _ _ k) (path_tail l p)

descends_tail : (l : Link) (links : List Link) (a b : ℕ) → Descends links a b → Descends (l ∷ links) a b
descends_tail l links a b (inl e) = inl e
descends_tail l links a b (inr p) = inr (path_tail l p)

from_through : (l : Link) (links : List Link) (a b : ℕ) → Through l links a b → Descends (l ∷ links) a b
from_through l links a b (inl d) = descends_tail l links a b d
from_through l links a b (inr (up, on)) =
    descends_trans (l ∷ links) a l.from b (descends_tail l links a l.from up)
    (descends_trans (l ∷ links) l.from l.to b (descends-link (l ∷ links) l.from l.to (0, omega arith, refl, refl)) (descends_tail l links l.to b on))

-- a link in front of a descent
through_link : (l : Link) (links : List Link) (a b c : ℕ) → ((a ≡ l.from) × (l.to ≡ b)) ⊎ Linked links a b → Through l links b c → Through l links a c
through_link l links a b c (inl (e, f)) (inl d) = inr (inl e, subst (λ (x : ℕ). Descends links x c) (sym f) d)
through_link l links a b c (inl (e, f)) (inr (up, on)) = inr (inl e, on)
through_link l links a b c (inr k) (inl d) = inl (descends_trans links a b c (descends-link links a b k) d)
through_link l links a b c (inr k) (inr (up, on)) = inr (descends_trans links a b l.from (descends-link links a b k) up, on)

through_path : (l : Link) (links : List Link) (a b : ℕ) → Path (l ∷ links) a b → Through l links a b
through_path l links a b (one k) = through_link l links a b b (linked_cases l links a b k) (inl (descends_refl links b))
through_path l links a b (more {b = w} k p) = through_link l links a w b (linked_cases l links a w k) (through_path l links w b p)

to_through : (l : Link) (links : List Link) (a b : ℕ) → Descends (l ∷ links) a b → Through l links a b
to_through l links a b (inl e) = inl (inl e)
to_through l links a b (inr p) = through_path l links a b p

no_path : {a b : ℕ} → Path [] a b → ⊥
no_path (one k) = omega (arith, k.1)
no_path (more k p) = no_path p

pub decides_descends : (links : List Link) (a b : ℕ) → Decides (descends links a b) (Descends links a b)
decides_descends [] a b = Decides-like (descends [] a b) inl (⊎_elim (λ (e : a ≡ b). e) (λ (p : Path [] a b). absurd (no_path p))) (Decides-eqb a b)
decides_descends (l ∷ links) a b =
    Decides-like (descends (l ∷ links) a b) (from_through l links a b) (to_through l links a b)
    (Decides-or _ _ (decides_descends links a b) (Decides-and _ _ (decides_descends links a l.from) (decides_descends links l.to b)))
