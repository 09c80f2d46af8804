-- That descent is reflexive and transitive, and so are the opposite and a gate over such a relation: an answerer gives these with its meaning.
use Rattle.std.specs.Prelude.{ℕ, min, List, length, refl}
use Rattle.std.proofs.Common.{sym, subst, inl, inr, arith}
use Rattle.descent.specs.declared.link.Link.{Link}
use Rattle.descent.specs.Answers.{Laws}
use Rattle.descent.specs.Layers.{Swapped, Gated}
use Rattle.descent.specs.Links.{Path, one, more, Descends}

pub path_join : {links : List Link} {a b c : ℕ} → Path links a b → Path links b c → Path links a c
path_join (one l) q = more l q
path_join (more l p) q = more l (path_join p q)

pub descends_refl : (links : List Link) (a : ℕ) → Descends links a a
descends_refl links a = inl refl

pub descends_trans : (links : List Link) (a b c : ℕ) → Descends links a b → Descends links b c → Descends links a c
descends_trans links a b c (inl e) q = subst (λ (x : ℕ). Descends links x c) (sym e) q
descends_trans links a b c (inr p) (inl e) = subst (λ (x : ℕ). Descends links a x) e (inr p)
descends_trans links a b c (inr p) (inr q) = inr (path_join p q)

pub descent_laws : {S : Type 0} (count : S → ℕ) (links : S → List Link) → Laws count (λ s. Descends (links s))
descent_laws count links = record {
  reflexive = λ s a h. descends_refl (links s) a;
  transitive = λ s a b c p q. descends_trans (links s) a b c p q;
}

pub opposite_laws : {S Q : Type 0} {count : Q → ℕ} {relates : Q → ℕ → ℕ → Type 0} (below : S → Q) → Laws count relates
    → Laws (λ s. count (below s)) (λ s. Swapped (relates (below s)))
opposite_laws below laws = record {
  reflexive = λ s a h. laws.reflexive (below s) a h;
  transitive = λ s a b c p q. laws.transitive (below s) c b a q p;
}

pub gate_laws : {S Q : Type 0} {count : Q → ℕ} {relates : Q → ℕ → ℕ → Type 0} (below : S → Q) (levels : S → List ℕ) → Laws count relates
    → Laws (λ s. min (count (below s)) (length (levels s))) (λ s. Gated (levels s) (relates (below s)))
gate_laws below levels laws = record {
  reflexive = λ s a h. (laws.reflexive (below s) a (omega arith), omega arith);
  transitive = λ s a b c p q. (laws.transitive (below s) a b c p.0 q.0, omega arith);
}
