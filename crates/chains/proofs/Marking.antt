-- One pass over the links of higher-ranked types first marks what descends from a type.
use Rattle.std.proofs.Common.{◌≡◌, ℕ, ◌+◌, ◌<◌, ◌≤◌, true, false, cond, eqb, ◌⊎◌, List, length, get_or, set, sym, refl, ap, ◌∙◌, subst, inl, inr, ⊎_elim, arith}
use Rattle.std.proofs.lemmas.List.{get_or-set_same, get_or-set_other}
use Rattle.std.proofs.lemmas.Bool.{cases_eq, cases_Bool, cases_lt}
use Rattle.std.proofs.lemmas.Bool.Decides.{not_from_Decides}
use Rattle.std.proofs.lemmas.Bool.Decides.{Decides-below_or, Decides-eqb}
use Rattle.std.proofs.Math.Logic.{∥∥₁_elim}
use Rattle.std.proofs.Math.Nat.{ℕ_set}
use Rattle.std.proofs.Math.Bridge.{le_prop}
use Rattle.std.proofs.Math.Bool.{Bool-set}
use Rattle.descent.specs.declared.link.Link.{Link}
use Rattle.descent.specs.Computed.{descends}
use Rattle.descent.specs.Links.{no_link, Linked, Path, Descends}
use Rattle.descent.proofs.Closures.{decides_descends}
use Rattle.descent.proofs.Descents.{descends-link, descends_trans, path_split}
use Rattle.chains.specs.Counting.{some}
use Rattle.chains.specs.Ranked.{Ranked, Falling}

-- ranked types hold only that there is a proof of this; where a link stands in the table is found again by a search
pub known_falling : {links : List Link} {rank falling : List ℕ} → ∥ Falling links rank falling ∥₁ → Falling links rank falling
known_falling {links} {rank} {falling} x =
    let here = λ (k : ℕ). Decides-below_or (λ i. eqb (get_or falling i 0) k) (λ i. get_or falling i 0 ≡ k) (λ m. some m (λ i. eqb (get_or falling i 0) k)) (λ i. Decides-eqb (get_or falling i 0) k) refl (λ _. refl) (length falling) in
    record {
      long = ∥∥₁_elim x (ℕ_set _ _) (λ f. f.long);
      below = λ i h. ∥∥₁_elim x le_prop (λ f. f.below i h);
      all = λ k h. (here k).0 (∥∥₁_elim x (Bool-set _ _) (λ f. (here k).1 (f.all k h)));
      falls = λ i j h l. ∥∥₁_elim x le_prop (λ f. f.falls i j h l);
    }

-- after i links, in the order of the table: marks are 0 or 1; who is marked descends from t, t is marked, and so is the start of each of those links whose end descends from t
pub record Marking (n : ℕ) (links : List Link) (falling marks : List ℕ) (t i : ℕ) : Type 0 where
  pub bits : (x : ℕ) → x < n → (get_or marks x 0 ≡ 0) ⊎ (get_or marks x 0 ≡ 1)
  pub sound : (x : ℕ) → x < n → get_or marks x 0 ≡ 1 → Descends links x t
  pub here : get_or marks t 0 ≡ 1
  pub swept : (j : ℕ) → j < i → j < length falling → Descends links (get_or links (get_or falling j 0) no_link).to t → get_or marks (get_or links (get_or falling j 0) no_link).from 0 ≡ 1

module _ {n : ℕ} {links : List Link} {order rank falling marks : List ℕ} {t i : ℕ} (ranks : Ranked n links order rank) (falls : Falling links rank falling) (s : Marking n links falling marks t i) (in' : i < length falling) where
  abbrev k : ℕ
  k = get_or falling i 0

  abbrev from : ℕ
  from = (get_or links k no_link).from

  abbrev to : ℕ
  to = (get_or links k no_link).to

  k_below : k < length links
  k_below = falls.below i in'

  the_link : Linked links from to
  the_link = (k, k_below, refl, refl)

  -- the end of the link is marked already where it descends from t: the links from it came before
  marked_before : Descends links to t → get_or marks to 0 ≡ 1
  marked_before (inl e) = ap (λ x. get_or marks x 0) e ∙ s.here
  marked_before (inr p) =
      ⊎_elim
      (λ (l : Linked links to t). by_link t l (inl refl))
      (λ (l : (b : ℕ) × Linked links to b × Path links b t). by_link l.0 l.1 (inr l.2))
      (path_split p)
    where
      by_link : (b : ℕ) → Linked links to b → Descends links b t → get_or marks to 0 ≡ 1
      by_link b l d =
          let w = falls.all l.0 l.1 in
          let j = w.0 in
          let start : (get_or links (get_or falling j 0) no_link).from ≡ to = ap (λ x. (get_or links x no_link).from) w.2 ∙ l.2 in
          let end : (get_or links (get_or falling j 0) no_link).to ≡ b = ap (λ x. (get_or links x no_link).to) w.2 ∙ l.3 in
          let rises = ranks.rising from to the_link in
          let higher : get_or rank (get_or links (get_or falling j 0) no_link).from 0 ≡ get_or rank to 0 = ap (λ x. get_or rank x 0) start in
          let early : j < i = ⊎_elim
          (λ (h : j < i). h)
          (λ (h : i ≤ j).
          ⊎_elim
          (λ (e : i ≡ j). let z : ⊥ = omega (arith, rises, higher, ap (λ x. get_or rank (get_or links (get_or falling x 0) no_link).from 0) e) in absurd z)
          (λ (e : i ≡ j → ⊥). let z : ⊥ = omega (arith, rises, higher, falls.falls i j (omega arith) w.1) in absurd z)
          (cases_eq i j))
          (cases_lt j i) in
          ap (λ x. get_or marks x 0) (sym start) ∙ s.swept j early w.1 (subst (λ (x : ℕ). Descends links x t) (sym end) d)

  -- the end is not marked: nothing to do
  pub marking_skip : (get_or marks to 0 ≡ 1 → ⊥) → Marking n links falling marks t (i + 1)
  marking_skip unmarked = record {
    bits = s.bits;
    sound = s.sound;
    here = s.here;
    swept = λ j l h d.
        ⊎_elim
        (λ (e : j ≡ i). absurd (unmarked (marked_before (subst (λ (x : ℕ). Descends links (get_or links (get_or falling x 0) no_link).to t) e d))))
        (λ (e : j ≡ i → ⊥). s.swept j (omega arith) h d)
        (cases_eq j i);
  }

  -- the end is marked: so is the start then
  pub marking_more : n ≤ length marks → get_or marks to 0 ≡ 1 → Marking n links falling (set marks from 1) t (i + 1)
  marking_more room marked =
      let start : from < n = (ranks.within k k_below).0 in
      let end : to < n = (ranks.within k k_below).1 in
      let at : get_or (set marks from 1) from 0 ≡ 1 = get_or-set_same marks from 1 0 (omega arith) in
      let old : (x : ℕ) → (x ≡ from → ⊥) → get_or (set marks from 1) x 0 ≡ get_or marks x 0 = λ x e. get_or-set_other marks from x 1 0 e in
      let at_from : (x : ℕ) → x ≡ from → get_or (set marks from 1) x 0 ≡ 1 = λ x e. ap (λ y. get_or (set marks from 1) y 0) e ∙ at in
      let still : (x : ℕ) → get_or marks x 0 ≡ 1 → get_or (set marks from 1) x 0 ≡ 1 = λ x m. ⊎_elim (at_from x) (λ (e : x ≡ from → ⊥). old x e ∙ m) (cases_eq x from) in
      record {
        bits = λ x l. ⊎_elim (λ (e : x ≡ from). inr (at_from x e)) (λ (e : x ≡ from → ⊥). ⊎_elim (λ z. inl (old x e ∙ z)) (λ z. inr (old x e ∙ z)) (s.bits x l)) (cases_eq x from);
        sound = λ x l m.
            ⊎_elim
            (λ (e : x ≡ from). subst (λ (y : ℕ). Descends links y t) (sym e) (descends_trans links from to t (descends-link links from to the_link) (s.sound to end marked)))
            (λ (e : x ≡ from → ⊥). s.sound x l (sym (old x e) ∙ m))
            (cases_eq x from);
        here = still t s.here;
        swept = λ j l h d.
            ⊎_elim
            (λ (e : j ≡ i). at_from _ (ap (λ x. (get_or links (get_or falling x 0) no_link).from) e))
            (λ (e : j ≡ i → ⊥). still _ (s.swept j (omega arith) h d))
            (cases_eq j i);
      }

-- at the end a type is marked exactly where it descends from t
pub marking_all : {n : ℕ} {links : List Link} {rank falling marks : List ℕ} {t i : ℕ} → Falling links rank falling → Marking n links falling marks t i → length falling ≤ i
    → (x : ℕ) → x < n → get_or marks x 0 ≡ cond (descends links x t) 1 0
marking_all {n} {links} {rank} {falling} {marks} {t} {i} falls s all x h =
    ⊎_elim
    (λ (e : descends links x t ≡ true). marked ((decides_descends links x t).0 e) ∙ sym (ap (λ b. cond b 1 0) e))
    (λ (e : descends links x t ≡ false).
    ⊎_elim
    (λ (z : get_or marks x 0 ≡ 0). z ∙ sym (ap (λ b. cond b 1 0) e))
    (λ (m : get_or marks x 0 ≡ 1). absurd (not_from_Decides (descends links x t) (decides_descends links x t) e (s.sound x h m)))
    (s.bits x h))
    (cases_Bool (descends links x t))
  where
    by_link : (b : ℕ) → Linked links x b → Descends links b t → get_or marks x 0 ≡ 1
    by_link b l d =
        let w = falls.all l.0 l.1 in
        let start : (get_or links (get_or falling w.0 0) no_link).from ≡ x = ap (λ y. (get_or links y no_link).from) w.2 ∙ l.2 in
        let end : (get_or links (get_or falling w.0 0) no_link).to ≡ b = ap (λ y. (get_or links y no_link).to) w.2 ∙ l.3 in
        ap (λ y. get_or marks y 0) (sym start) ∙ s.swept w.0 (omega (arith, w.1)) w.1 (subst (λ (y : ℕ). Descends links y t) (sym end) d)

    marked : Descends links x t → get_or marks x 0 ≡ 1
    marked (inl e) = ap (λ y. get_or marks y 0) e ∙ s.here
    marked (inr p) =
        ⊎_elim
        (λ (l : Linked links x t). by_link t l (inl refl))
        (λ (l : (b : ℕ) × Linked links x b × Path links b t). by_link l.0 l.1 (inr l.2))
        (path_split p)
