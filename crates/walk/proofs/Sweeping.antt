-- One link of a sweep: what a new mark does, and what a link that marks nothing leaves.
use Rattle.std.proofs.Common.{◌≡◌, ℕ, ◌+◌, ◌<◌, ◌≤◌, cond, eqb, List, length, get_or, set, sym, refl, ◌∙◌, subst, inr, ⊎_elim, arith, below_more}
use Rattle.std.proofs.lemmas.List.{get_or-set_same, get_or-set_other}
use Rattle.std.proofs.lemmas.List.Sums.{sum_by-set}
use Rattle.std.proofs.lemmas.Bool.{cases_eq}
use Rattle.descent.specs.declared.link.Link.{Link}
use Rattle.descent.specs.Links.{no_link, Linked, Descends}
use Rattle.descent.proofs.Descents.{descent_then_link, descent_carries}
use Rattle.walk.specs.Sweeps.{Marked, Reached, Closed, Swept, unmarked}
use Rattle.walk.specs.declared.search.Progress.{Progress}
use Rattle.walk.specs.declared.search.Progress.TheVariants.{Found, Grew, Still}

reached_more : (links : List Link) (a : ℕ) (m : List ℕ) (x y : ℕ) → Linked links x y → Marked m x → Reached links a m → Reached links a (set m y 1)
reached_more links a m x y l here reached k h =
    ⊎_elim
    (λ (e : k ≡ y). subst (λ (z : ℕ). Descends links a z) (sym e) (inr (descent_then_link links a x y (reached x here) l)))
    (λ (ne : k ≡ y → ⊥). reached k (subst (λ (z : ℕ). 0 < z) (get_or-set_other m y k 1 0 ne) h))
    (cases_eq k y)

kept_more : (m : List ℕ) (y : ℕ) → y < length m → (k : ℕ) → Marked m k → Marked (set m y 1) k
kept_more m y within k h =
    ⊎_elim
    (λ (e : k ≡ y). subst (λ (z : ℕ). Marked (set m y 1) z) (sym e) (omega (arith, get_or-set_same m y 1 0 within)))
    (λ (ne : k ≡ y → ⊥). omega (arith, get_or-set_other m y k 1 0 ne))
    (cases_eq k y)

fewer_unmarked : (m : List ℕ) (y : ℕ) → y < length m → get_or m y 0 ≡ 0 → unmarked (set m y 1) < unmarked m
fewer_unmarked m y within e = omega (arith, rw e at (sum_by-set (λ x. cond (eqb x 0) 1 0) m y 1 0 within))

swept_marked : (links : List Link) (i : ℕ) (old m : List ℕ) (sought y : ℕ) → y < length m → get_or m y 0 ≡ 0 → unmarked m ≤ unmarked old → Swept links i old (set m y 1) sought Grew
swept_marked links i old m sought y within e most = omega (arith, fewer_unmarked m y within e)

swept_passed : (links : List Link) (i : ℕ) (old m : List ℕ) (sought : ℕ) (progress : Progress) → (Marked m (get_or links i no_link).from → Marked m (get_or links i no_link).to)
    → Swept links i old m sought progress → Swept links (i + 1) old m sought progress
swept_passed links i old m sought Found here swept = swept
swept_passed links i old m sought Grew here swept = swept
swept_passed links i old m sought Still here swept = (swept.0, below_more (λ k. Marked m (get_or links k no_link).from → Marked m (get_or links k no_link).to) i swept.1 here)

-- what holds between the links of a sweep
pub record Turn (links : List Link) (old : List ℕ) (sought i : ℕ) (m : List ℕ) (progress : Progress) : Type 0 where
  pub reached : (a : ℕ) → Reached links a old → Reached links a m
  pub kept : (k : ℕ) → Marked old k → Marked m k
  pub unseen : get_or m sought 0 ≡ 0
  pub most : unmarked m ≤ unmarked old
  pub swept : Swept links i old m sought progress

module _ (links : List Link) (old : List ℕ) (sought i : ℕ) (m : List ℕ) (progress : Progress) (turn : Turn links old sought i m progress) where
  pub turn_marked : i < length links → (get_or links i no_link).to < length m → Marked m (get_or links i no_link).from → get_or m (get_or links i no_link).to 0 ≡ 0
      → ((get_or links i no_link).to ≡ sought → ⊥) → Turn links old sought (i + 1) (set m (get_or links i no_link).to 1) Grew
  turn_marked within room from to ne =
      let y = (get_or links i no_link).to in
      record {
        reached = λ a s. reached_more links a m (get_or links i no_link).from y (i, within, refl, refl) from (turn.reached a s);
        kept = λ k h. kept_more m y room k (turn.kept k h);
        unseen = get_or-set_other m y sought 1 0 (λ e. ne (sym e)) ∙ turn.unseen;
        most = omega (arith, fewer_unmarked m y room to, turn.most);
        swept = swept_marked links (i + 1) old m sought y room to turn.most;
      }

  pub turn_passed : (Marked m (get_or links i no_link).from → Marked m (get_or links i no_link).to) → Turn links old sought (i + 1) m progress
  turn_passed here = record { reached = turn.reached; kept = turn.kept; unseen = turn.unseen; most = turn.most; swept = swept_passed links i old m sought progress here turn.swept }

  pub turn_at : (m' : List ℕ) (progress' : Progress) → m' ≡ m → progress' ≡ progress → Turn links old sought i m' progress'
  turn_at m' progress' e f = subst (λ (p : Progress). Turn links old sought i m' p) (sym f) (subst (λ (x : List ℕ). Turn links old sought i x progress) (sym e) turn)

-- where no link leads out of the marks, nothing that a marked type descends from is unmarked
pub still_apart : (links : List Link) (a b : ℕ) (m : List ℕ) → Closed links (length links) m → Marked m a → get_or m b 0 ≡ 0 → Descends links a b → ⊥
still_apart links a b m closed here none d =
    let there : Marked m b = descent_carries links a b d (Marked m)
    (λ x y l h. subst (Marked m) l.3 (closed l.0 l.1 (subst (Marked m) (sym l.2) h))) here in
    omega arith
