-- The links with entry 1 are the kept links, and as many as the entries count.
use Rattle.std.proofs.Common.{◌≡◌, ℕ, zero, suc, ◌+◌, ◌<◌, Bool, true, false, cond, eqb, List, [], ◌∷◌, map, length, get_or, sym, refl, ◌∙◌, subst, ⊎_elim, arith}
use Rattle.std.proofs.lemmas.List.Sums.{sum_by-cons}
use Rattle.std.proofs.lemmas.Bool.{cases_Bool, eqb-true, eq-eqb}
use Rattle.descent.specs.declared.link.Link.{Link}
use Rattle.descent.specs.Kept.{LongPath, KeepsExactly}
use Rattle.descent.specs.Links.{no_link, Linked}
use Rattle.descent.specs.Trims.{ones}
use Rattle.descent.proofs.Closures.{linked_tail, linked_cases}
use Rattle.descent.proofs.Keeping.{kept_same_descent_free, contains_kept}
use Rattle.rows.specs.KeptEntries.{kept_entry, kept_links, marked}
use Rattle.rows.specs.Meaning.{KeptEntriesAreTheReduction}
use Rattle.rows.proofs.LongPaths.{short_entry, entry_short}

-- ---- the marked links, where each link is marked by a function of it
module _ (entry : Link → ℕ) where
  -- a link from a to b that has entry 1
  abbrev One : List Link → ℕ → ℕ → Type 0
  One links a b = (k : ℕ) × (k < length links) × ((get_or links k no_link).from ≡ a) × ((get_or links k no_link).to ≡ b) × (entry (get_or links k no_link) ≡ 1)

  later : (l : Link) (links : List Link) (a b : ℕ) → One links a b → One (l ∷ links) a b
  later l links a b (k, h, e, f, g) = (suc k, omega arith, e, f, g)

  marked_one : (links : List Link) (a b : ℕ) → Linked (marked (map entry links) links) a b → One links a b
  marked_one [] a b (k, h, e, f) = let none : ⊥ = omega arith in absurd none
  marked_one (l ∷ links) a b at =
      let rest = marked (map entry links) links in
      ⊎_elim
      (λ (yes : eqb (entry l) 1 ≡ true).
      let front : Linked (l ∷ rest) a b = subst (λ (x : Bool). Linked (cond x (l ∷ rest) rest) a b) yes at in
      ⊎_elim
      (λ (here : (a ≡ l.from) × (l.to ≡ b)). (0, omega arith, sym here.0, here.1, eqb-true (entry l) 1 yes))
      (λ (on : Linked rest a b). later l links a b (marked_one links a b on))
      (linked_cases l rest a b front))
      (λ (no : eqb (entry l) 1 ≡ false).
      later l links a b (marked_one links a b (subst (λ (x : Bool). Linked (cond x (l ∷ rest) rest) a b) no at)))
      (cases_Bool (eqb (entry l) 1))

  one_marked : (links : List Link) (a b : ℕ) → One links a b → Linked (marked (map entry links) links) a b
  one_marked [] a b (k, h, e, f, g) = let none : ⊥ = omega arith in absurd none
  one_marked (l ∷ links) a b (zero, h, e, f, g) =
      let rest = marked (map entry links) links in
      subst (λ (x : Bool). Linked (cond x (l ∷ rest) rest) a b) (sym (eq-eqb (entry l) 1 g)) (0, omega arith, e, f)
  one_marked (l ∷ links) a b (suc k, h, e, f, g) =
      let rest = marked (map entry links) links in
      let on : Linked rest a b = one_marked links a b (k, omega arith, e, f, g) in
      ⊎_elim
      (λ (yes : eqb (entry l) 1 ≡ true). subst (λ (x : Bool). Linked (cond x (l ∷ rest) rest) a b) (sym yes) (linked_tail l rest a b on))
      (λ (no : eqb (entry l) 1 ≡ false). subst (λ (x : Bool). Linked (cond x (l ∷ rest) rest) a b) (sym no) on)
      (cases_Bool (eqb (entry l) 1))

  marked_length : (links : List Link) → length (marked (map entry links) links) ≡ ones (map entry links)
  marked_length [] = refl
  marked_length (l ∷ links) =
      let rest = marked (map entry links) links in
      let front : ones (map entry (l ∷ links)) ≡ cond (eqb (entry l) 1) 1 0 + ones (map entry links) = sum_by-cons (λ x. cond (eqb x 1) 1 0) (entry l) (map entry links) in
      both (eqb (entry l) 1) rest (marked_length links) ∙ sym front
    where
      both : (b : Bool) (rest : List Link) → length rest ≡ ones (map entry links) → length (cond b (l ∷ rest) rest) ≡ cond b 1 0 + ones (map entry links)
      both true rest e = omega arith
      both false rest e = omega arith

-- ---- the kept links
pub keeps_exactly : (links : List Link) → KeepsExactly links (kept_links links)
keeps_exactly links a b = (
  (λ l. let at = marked_one (kept_entry links) links a b l in (
    (at.0, at.1, at.2, at.3),
    λ p. entry_short links (get_or links at.0 no_link) at.4
        (subst (λ (x : ℕ). LongPath links x (get_or links at.0 no_link).to) (sym at.2) (subst (λ (y : ℕ). LongPath links a y) (sym at.3) p)),
  )),
  (λ (l, short). one_marked (kept_entry links) links a b (
    l.0,
    l.1,
    l.2,
    l.3,
    short_entry links (get_or links l.0 no_link)
        (λ p. short (subst (λ (x : ℕ). LongPath links x b) l.2 (subst (λ (y : ℕ). LongPath links (get_or links l.0 no_link).from y) l.3 p))),
  )),
)

pub reduction : KeptEntriesAreTheReduction
reduction = record {
  exactly = keeps_exactly;
  same = λ links free. kept_same_descent_free links (kept_links links) free (keeps_exactly links);
  least = λ links others free same a b l. contains_kept links others same free a b ((keeps_exactly links a b).0 l);
  number = λ links. marked_length (kept_entry links) links;
}
