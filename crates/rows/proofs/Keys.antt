-- At most m elements of a list pass a test, where those that pass have different keys below m.
use Rattle.std.proofs.Common.{◌≡◌, ℕ, zero, suc, ◌+◌, ◌*◌, ◌<◌, ◌≤◌, Bool, true, false, ◌⊎◌, List, length, get_or, take, set, replicate, sum, count_by, sym, refl, ap, ◌∙◌, subst, inl, inr, ⊎_elim, mul-one, add-one, arith}
use Rattle.std.proofs.ByRecursion.{All-from_get_or, sum_by_le}
use Rattle.std.proofs.lemmas.List.{length-set, length-replicate, get_or-replicate, get_or-set_same, get_or-set_other, take_all}
use Rattle.std.proofs.lemmas.List.Sums.{sum_by-cons, sum_by-set, count_by_more_yes, count_by_more_no}
use Rattle.std.proofs.lemmas.Bool.{cases_Bool, cases_eq}

sum_of_zeros : (m : ℕ) → sum (replicate m 0) ≡ 0
sum_of_zeros zero = refl
sum_of_zeros (suc m) = sum_by-cons (λ x. x) 0 (replicate m 0) ∙ omega (arith, sum_of_zeros m)

module _ {X : Type 0} (passes : X → Bool) (xs : List X) (d : X) (key : ℕ → ℕ) (m : ℕ) where
  -- a mark for each key below m: 1 for the keys of the first k elements that pass, and 0 for the others
  record Marks (k : ℕ) : Type 0 where
    marks : List ℕ
    long : length marks ≡ m
    total : sum marks ≡ count_by passes (take k xs)
    each : (v : ℕ) → v < m → (get_or marks v 0 ≡ 0) ⊎ ((get_or marks v 0 ≡ 1) × ((i : ℕ) × (i < k) × (passes (get_or xs i d) ≡ true) × (key i ≡ v)))

  module _ (below : (i : ℕ) → i < length xs → passes (get_or xs i d) ≡ true → key i < m)
      (apart : (i j : ℕ) → i < j → j < length xs → passes (get_or xs i d) ≡ true → passes (get_or xs j d) ≡ true → key i ≡ key j → ⊥) where
    unmarked : (k : ℕ) → k < length xs → passes (get_or xs k d) ≡ true → (now : Marks k) → get_or now.marks (key k) 0 ≡ 0
    unmarked k h e now = ⊎_elim (λ z. z) (λ (_, s). absurd (apart s.0 k s.1 h s.2 e s.3)) (now.each (key k) (below k h e))

    mark : (k : ℕ) → k < length xs → passes (get_or xs k d) ≡ true → Marks k → Marks (k + 1)
    mark k h e now =
        let v = key k in
        let old = now.marks in
        let in' : v < length old = omega (arith, below k h e, now.long) in
        record {
          marks = set old v 1;
          long = length-set old v 1 ∙ now.long;
          total = omega (arith, sum_by-set (λ x. x) old v 1 0 in', unmarked k h e now, now.total, count_by_more_yes passes xs k d h e);
          each = λ u l. ⊎_elim
              (λ (s : u ≡ v). inr (ap (λ (x : ℕ). get_or (set old v 1) x 0) s ∙ get_or-set_same old v 1 0 in', (k, omega arith, e, sym s)))
              (λ (o : u ≡ v → ⊥).
              let same = get_or-set_other old v u 1 0 o in
              ⊎_elim (λ z. inl (same ∙ z)) (λ (z, s). inr (same ∙ z, (s.0, omega (arith, s.1), s.2, s.3))) (now.each u l))
              (cases_eq u v);
        }

    pass_over : (k : ℕ) → k < length xs → passes (get_or xs k d) ≡ false → Marks k → Marks (k + 1)
    pass_over k h e now = record {
      marks = now.marks;
      long = now.long;
      total = now.total ∙ sym (count_by_more_no passes xs k d h e);
      each = λ u l. ⊎_elim inl (λ (z, s). inr (z, (s.0, omega (arith, s.1), s.2, s.3))) (now.each u l);
    }

    marks_of : (k : ℕ) → k ≤ length xs → Marks k
    marks_of zero h = record {
      marks = replicate m 0;
      long = length-replicate m 0;
      total = sum_of_zeros m;
      each = λ v l. inl (get_or-replicate m v 0 0 l);
    }
    marks_of (suc k) h =
        subst Marks (add-one k)
        (⊎_elim
        (λ e. mark k (omega arith) e (marks_of k (omega arith)))
        (λ e. pass_over k (omega arith) e (marks_of k (omega arith)))
        (cases_Bool (passes (get_or xs k d))))

    pub few_by_keys : count_by passes xs ≤ m
    few_by_keys =
        let all = marks_of (length xs) (omega arith) in
        let ones : sum all.marks ≤ length all.marks * 1 =
        sum_by_le (λ x. x) 1 all.marks (All-from_get_or (λ x. x ≤ 1) all.marks 0 (λ v h. ⊎_elim (λ z. omega arith) (λ (z, _). omega arith) (all.each v (omega (arith, all.long))))) in
        let whole : count_by passes (take (length xs) xs) ≡ count_by passes xs = ap (count_by passes) (take_all (length xs) xs (omega arith)) in
        omega (arith, mul-one (length all.marks), all.long, all.total)
