-- Kept links: they have the descent of all, every set with that descent has them, and which they are by the other bases.
use Rattle.std.proofs.Common.{◌≡◌, ℕ, zero, suc, ◌+◌, ◌<◌, List, sym, refl, ◌∙◌, subst, inl, inr, ⊎_elim, arith}
use Rattle.descent.specs.declared.link.Link.{Link}
use Rattle.descent.specs.Answers.{Same}
use Rattle.descent.specs.Kept.{LongPath, Kept, KeepsExactly}
use Rattle.descent.specs.Links.{link, Linked, Path, one, more, Descends}
use Rattle.descent.specs.Loops.{LoopFree, Rising}
use Rattle.descent.specs.Trims.{Implied}
use Rattle.descent.proofs.Descents.{path_join}
use Rattle.descent.proofs.Ranks.{rising_path, either_long_path, loop_free_ranks}

-- ---- a path of kept links for each link
module _ (links kept : List Link) (keeps : KeepsExactly links kept) (rank : ℕ → ℕ) (rising : Rising links rank) where
  -- a path whose links have paths of kept links has one itself
  kept_path_by : (span : ℕ) → ((x y : ℕ) → rank y < rank x + span → Linked links x y → Path kept x y) → (a b : ℕ) → rank b < rank a + span → Path links a b → Path kept a b
  kept_path_by span each a b h (one l) = each a b h l
  kept_path_by span each a b h (more {b = w} l p) =
      path_join
      (each a w (omega (arith, rising_path links rank rising p)) l)
      (kept_path_by span each w b (omega (arith, rising a w l)) p)

  -- by less and less rank between the ends: a link that is not kept has a longer path, whose links span less
  kept_path_of_link : (span a b : ℕ) → rank b < rank a + span → Linked links a b → Path kept a b
  kept_path_of_link zero a b h l = let none : ⊥ = omega (arith, rising a b l) in absurd none
  kept_path_of_link (suc span) a b h l =
      ⊎_elim
      (λ (long : LongPath links a b).
      let w = long.0 in
      path_join
      (kept_path_of_link span a w (omega (arith, rising_path links rank rising long.2)) long.1)
      (kept_path_by span (kept_path_of_link span) w b (omega (arith, rising a w long.1)) long.2))
      (λ (none : LongPath links a b → ⊥). one ((keeps a b).1 (l, none)))
      (either_long_path links a b)

  path_of_kept : {a b : ℕ} → Path kept a b → Path links a b
  path_of_kept (one {a} {b} l) = one ((keeps a b).0 l).0
  path_of_kept (more {a} {b} l p) = more ((keeps a b).0 l).0 (path_of_kept p)

  pub kept_same_descent : Same (Descends kept) (Descends links)
  kept_same_descent a b = (
    ⊎_elim (λ (e : a ≡ b). inl e) (λ (p : Path kept a b). inr (path_of_kept p)),
    ⊎_elim (λ (e : a ≡ b). inl e) (λ (p : Path links a b). inr (kept_path_by (suc (rank b)) (kept_path_of_link (suc (rank b))) a b (omega arith) p)),
  )

pub kept_same_descent_free : (links kept : List Link) → LoopFree links → KeepsExactly links kept → Same (Descends kept) (Descends links)
kept_same_descent_free links kept free keeps = let r = loop_free_ranks links free in kept_same_descent links kept keeps r.0 r.1

-- ---- every set with that descent has the kept links
long_path : {links : List Link} {a b c : ℕ} → Path links a b → Path links b c → LongPath links a c
long_path (one {a} {b} l) q = (b, l, q)
long_path (more {b = w} l p) q = (w, l, path_join p q)

module _ (links others : List Link) (same : Same (Descends others) (Descends links)) where
  -- the first link of such a path that leaves a leads to b, else there were a longer path
  kept_in : (a b : ℕ) → (LongPath links a b → ⊥) → (x : ℕ) → x ≡ a → Path others x b → Linked others a b
  kept_in a b short x here (one l) = subst (λ (y : ℕ). Linked others y b) here l
  kept_in a b short x here (more {b = w} l p) =
      ⊎_elim
      (λ (e : x ≡ w). kept_in a b short w (sym e ∙ here) p)
      (λ (first : Path links x w).
      ⊎_elim
      (λ (e : w ≡ b). subst (λ (y : ℕ). Linked others y b) here (subst (Linked others x) e l))
      (λ (rest : Path links w b). absurd (short (subst (λ (y : ℕ). LongPath links y b) here (long_path first rest))))
      ((same w b).0 (inr p)))
      ((same x w).0 (inr (one l)))

  pub contains_kept : LoopFree links → (a b : ℕ) → Kept links a b → Linked others a b
  contains_kept free a b (l, short) =
      let apart : a ≡ b → ⊥ = λ e. free b (subst (λ (x : ℕ). Path links x b) e (one l)) in
      ⊎_elim (λ (e : a ≡ b). absurd (apart e)) (λ (p : Path others a b). kept_in a b short a refl p) ((same a b).1 (inr (one l)))

-- ---- kept, by the other bases
module _ (links : List Link) (free : LoopFree links) (a b : ℕ) (l : Linked links a b) where
  pub kept_unimplied : Kept links a b → Implied links (Descends links) (link a b) → ⊥
  kept_unimplied (_, short) (w, m, other, d) = ⊎_elim (λ (e : w ≡ b). other e) (λ (p : Path links w b). short (w, m, p)) d

  pub unimplied_kept : (Implied links (Descends links) (link a b) → ⊥) → Kept links a b
  unimplied_kept none = (l, λ (w, m, p). none (w, m, (λ e. free b (subst (λ (x : ℕ). Path links x b) e p)), inr p))
