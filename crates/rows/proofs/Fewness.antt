-- A type has at most one kept link into each chain.
use Rattle.std.proofs.Common.{◌≡◌, ℕ, ◌+◌, ◌*◌, ◌/◌, ◌<◌, ◌≤◌, Bool, true, eqb, List, length, get_or, sym, refl, ap, ◌∙◌, subst, ⊎_elim, mul_comm, arith}
use Rattle.std.proofs.lemmas.Nat.{div-mul-add}
use Rattle.std.proofs.lemmas.List.{length-map, get_or-map}
use Rattle.std.proofs.lemmas.Bool.{cases_order, eqb-true}
use Rattle.descent.specs.declared.link.Link.{Link}
use Rattle.descent.specs.Kept.{Kept}
use Rattle.descent.specs.Links.{no_link, Linked, Path}
use Rattle.chains.specs.Chains.{Chained}
use Rattle.chains.specs.Ranked.{Ranked}
use Rattle.rows.specs.KeptEntries.{kept_entry, kept_of, kept_count, Different}
use Rattle.rows.specs.Meaning.{KeptLinksAreFew}
use Rattle.rows.proofs.Keys.{few_by_keys}
use Rattle.rows.proofs.Layouts.{along_chain}
use Rattle.rows.proofs.LongPaths.{entry_short}
use Rattle.rows.proofs.RowPlaces.{row_fits}

module _ {n : ℕ} {links : List Link} {order rank chains positions : List ℕ} {count : ℕ} (ranked : Ranked n links order rank) (chained : Chained n links chains positions count) where
  base_below : (a b : ℕ) → Linked links a b → b < n
  base_below a b l = subst (λ (x : ℕ). x < n) l.3 (ranked.within l.0 l.1).1

  -- the later one on the chain has a longer path by way of the earlier one
  not_later : (a b d : ℕ) → Kept links a b → Kept links a d → get_or chains b 0 ≡ get_or chains d 0 → get_or positions b 0 < get_or positions d 0 → ⊥
  not_later a b d p q same less =
      ⊎_elim
      (λ (e : b ≡ d). let z = ap (λ (x : ℕ). get_or positions x 0) e in omega arith)
      (λ (path : Path links b d). q.1 (b, p.0, path))
      (along_chain chained b d (base_below a b p.0) (base_below a d q.0) same (omega arith))

  one_kept : (a b d : ℕ) → Kept links a b → Kept links a d → get_or chains b 0 ≡ get_or chains d 0 → b ≡ d
  one_kept a b d p q same =
      ⊎_elim
      (λ (e : get_or positions b 0 ≡ get_or positions d 0). chained.apart b d (base_below a b p.0) (base_below a d q.0) same e)
      (⊎_elim
      (λ (l : get_or positions b 0 < get_or positions d 0). absurd (not_later a b d p q same l))
      (λ (l : get_or positions d 0 < get_or positions b 0). absurd (not_later a d b q p (sym same) l)))
      (cases_order (get_or positions b 0) (get_or positions d 0))

  module _ (different : Different links) where
    abbrev start : ℕ → ℕ
    start i = (get_or links i no_link).from

    abbrev end : ℕ → ℕ
    end i = (get_or links i no_link).to

    abbrev key : ℕ → ℕ
    key i = start i * count + get_or chains (end i) 0

    abbrev passes : ℕ → Bool
    passes i = eqb (get_or (kept_of links) i 0) 1

    kept_at : (i : ℕ) → i < length links → passes i ≡ true → Kept links (start i) (end i)
    kept_at i h e =
        ((i, h, refl, refl), entry_short links (get_or links i no_link) (sym (get_or-map (kept_entry links) links i no_link 0 h) ∙ eqb-true (get_or (kept_of links) i 0) 1 e))

    on_chain : (i : ℕ) → i < length links → get_or chains (end i) 0 < count
    on_chain i h = chained.below (end i) (ranked.within i h).1

    keys_apart : (i j : ℕ) → i < j → j < length links → passes i ≡ true → passes j ≡ true → key i ≡ key j → ⊥
    keys_apart i j h l e f same =
        let low : i < length links = omega arith in
        let starts : start i ≡ start j =
        sym (div-mul-add (start i) count (get_or chains (end i) 0) (on_chain i low)) ∙ ap (λ (x : ℕ). x / count) same ∙ div-mul-add (start j) count (get_or chains (end j) 0) (on_chain j l) in
        let rows : start i * count ≡ start j * count = ap (λ (x : ℕ). x * count) starts in
        let onto : get_or chains (end i) 0 ≡ get_or chains (end j) 0 = omega arith in
        let second : Kept links (start i) (end j) = subst (λ (x : ℕ). Kept links x (end j)) (sym starts) (kept_at j l f) in
        different i j h l starts (one_kept (start i) (end i) (end j) (kept_at i low e) second onto)

    few_kept : kept_count links ≤ count * n
    few_kept =
        let size : length (kept_of links) ≡ length links = length-map links (kept_entry links) in
        let few : kept_count links ≤ n * count =
        few_by_keys (λ x. eqb x 1) (kept_of links) 0 key (n * count)
        (λ i h e. let low : i < length links = omega arith in
        omega (arith, on_chain i low, row_fits (start i) n count (n * count) (ranked.within i low).0 (omega arith)))
        (λ i j h l. keys_apart i j h (omega arith)) in
        omega (arith, mul_comm n count)

pub kept_few : KeptLinksAreFew
kept_few = record {
  one_in_a_chain = λ n links order rank chains positions count ranked chained. one_kept ranked chained;
  few = λ n links order rank chains positions count ranked chained different. few_kept ranked chained different;
}
