-- Paths join and split, descent is reflexive and transitive, and what it carries.
use Rattle.std.proofs.Common.{ℕ, ◌⊎◌, List, sym, subst, inl, inr, ⊎_elim}
use Rattle.descent.specs.declared.link.Link.{Link}
use Rattle.descent.specs.Links.{Linked, Path, one, more, Descends}
pub use Rattle.descent.specs.Laws.{path_join, descends_refl, descends_trans}

-- a path's first link, and the rest
pub path_split : {links : List Link} {a c : ℕ} → Path links a c → Linked links a c ⊎ ((b : ℕ) × Linked links a b × Path links b c)
path_split (one l) = inl l
path_split (more {a} {b} {c} l p) = inr (b, l, p)

-- a path's last link, and what leads to it
pub path_split_last : {links : List Link} {a c : ℕ} → Path links a c → Linked links a c ⊎ ((b : ℕ) × Path links a b × Linked links b c)
path_split_last (one l) = inl l
path_split_last (more {a} {b} {c} l p) =
    ⊎_elim (λ (k : Linked _ b c). inr (b, one l, k)) (λ (s : (x : ℕ) × Path _ b x × Linked _ x c). inr (s.0, more l s.1, s.2)) (path_split_last p)

pub descends-link : (links : List Link) (a b : ℕ) → Linked links a b → Descends links a b
descends-link links a b l = inr (one l)

-- one more link at the end of a descent, and at its start: a path
pub descent_then_link : (links : List Link) (a b c : ℕ) → Descends links a b → Linked links b c → Path links a c
descent_then_link links a b c (inl e) l = subst (λ (x : ℕ). Path links x c) (sym e) (one l)
descent_then_link links a b c (inr p) l = path_join p (one l)

pub link_then_descent : (links : List Link) (a b c : ℕ) → Linked links a b → Descends links b c → Path links a c
link_then_descent links a b c l (inl e) = subst (λ (x : ℕ). Path links a x) e (one l)
link_then_descent links a b c l (inr p) = more l p

-- what holds of a type, and of the end of each link that starts where it holds, holds of all that it descends from
pub path_carries : {links : List Link} {a b : ℕ} → Path links a b → (M : ℕ → Type 0) → ((x y : ℕ) → Linked links x y → M x → M y) → M a → M b
path_carries (one {a} {b} l) M step here = step a b l here
path_carries (more {a} {b} {c} l p) M step here = path_carries p M step (step a b l here)

pub descent_carries : (links : List Link) (a b : ℕ) → Descends links a b → (M : ℕ → Type 0) → ((x y : ℕ) → Linked links x y → M x → M y) → M a → M b
descent_carries links a b (inl e) M step here = subst M e here
descent_carries links a b (inr p) M step here = path_carries p M step here
