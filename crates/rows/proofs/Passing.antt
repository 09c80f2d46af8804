-- The pass in falling rank: what stands when the types of rank r and above are done.
use Rattle.std.proofs.Common.{◌≡◌, ℕ, ◌+◌, ◌-◌, ◌*◌, ◌<◌, ◌≤◌, List, [], ◌∷◌, ◌++◌, length, get_or, take, drop, sym, refl, ap, ◌∙◌, subst, ⊎_elim, arith}
use Rattle.std.proofs.lemmas.List.{ext_get_or, length-drop, get_or-drop, length-take-le, get_or-take, get_or_push, take_at, take-take, length-append, length-map, get_or-map}
use Rattle.std.proofs.lemmas.Bool.{cases_eq}
use Rattle.descent.specs.Links.{no_link, Linked, Descends}
use Rattle.rows.specs.declared.layout.Layout.{Layout}
use Rattle.rows.specs.KeptEntries.{kept_entry, kept_of}
use Rattle.rows.specs.Layouts.{links_in, from_of, to_of, rank_in}
use Rattle.rows.specs.Rows.{rows_of}
use Rattle.rows.specs.Steps.{Whole, Outside, KeptFrom}
use Rattle.rows.proofs.LaidOut.{Laid}
use Rattle.rows.proofs.Answering.{entry_lowest}
use Rattle.rows.proofs.Lowests.{lowest_one}
use Rattle.rows.proofs.RowPlaces.{row_fits, all_rows_stand}
use Rattle.rows.proofs.Visiting.{whole_outside}

-- each place from n on is the same
pub drop_same : (n : ℕ) (xs ys : List ℕ) → length xs ≡ length ys → ((j : ℕ) → n ≤ j → get_or xs j 0 ≡ get_or ys j 0) → drop n xs ≡ drop n ys
drop_same n xs ys long same =
    ext_get_or 0 (drop n xs) (drop n ys) (length-drop n xs ∙ ap (λ (m : ℕ). m - n) long ∙ sym (length-drop n ys))
    (λ i h. get_or-drop n xs i 0 ∙ same (n + i) (omega arith) ∙ sym (get_or-drop n ys i 0))

-- the last of what is left of a list, and what is then left
pub last_left : (xs left whole : List ℕ) (x : ℕ) → whole ≡ left ++ x ∷ [] → whole ≡ take (length whole) xs
    → (length whole ≡ length left + 1) × (x ≡ get_or xs (length left) 0) × (left ≡ take (length left) xs)
last_left xs left whole x e f =
    let n = length left in
    let long : length whole ≡ n + 1 = ap length e ∙ length-append left (x ∷ []) in (
      long,
      sym (get_or_push left x 0 n refl) ∙ ap (λ (l : List ℕ). get_or l n 0) (sym e ∙ f) ∙ get_or-take (length whole) xs n 0 (omega arith),
      sym (take_at left (x ∷ []) n refl) ∙ ap (take n) (sym e ∙ f) ∙ take-take n (length whole) xs (omega arith),
    )

pub record Passed (layout : Layout) (r : ℕ) (kept_before kept before index : List ℕ) : Type 0 where
  pub rows : (a : ℕ) → a < layout.types → r ≤ rank_in layout a → Whole layout index a
  pub rows_rest : (j : ℕ) → layout.types * layout.chains ≤ j → get_or index j 0 ≡ get_or before j 0
  pub entries : (i : ℕ) → i < length (links_in layout) → r ≤ rank_in layout (from_of layout i) → get_or kept i 0 ≡ kept_entry (links_in layout) (get_or (links_in layout) i no_link)
  pub entries_rest : (i : ℕ) → length (links_in layout) ≤ i → get_or kept i 0 ≡ get_or kept_before i 0

module _ {layout : Layout} (laid : Laid layout) (kept_before before : List ℕ) where
  module _ (r : ℕ) (below : r < layout.types) (kept index : List ℕ) (passed : Passed layout (r + 1) kept_before kept before index) where
    abbrev t : ℕ
    t = get_or layout.order.now r 0

    -- the rows of the bases of the type of rank r stand
    pub bases_stand : (b : ℕ) → Linked (links_in layout) t b → Whole layout index b
    bases_stand b l =
        let rank : rank_in layout t ≡ r = (laid.ranked.types r below).1 in
        let under : b < layout.types = subst (λ (x : ℕ). x < layout.types) l.3 (laid.ranked.within l.0 l.1).1 in
        passed.rows b under (omega (arith, laid.ranked.rising t b l))

    -- the type of rank r is the only one of that rank
    type_of_rank : (a : ℕ) → a < layout.types → rank_in layout a ≡ r → a ≡ t
    type_of_rank a h e = sym (laid.ranked.ranks a h).1 ∙ ap (λ (x : ℕ). get_or layout.order.now x 0) e

    other_rank : (a : ℕ) → (rank_in layout a ≡ r → ⊥) → a ≡ t → ⊥
    other_rank a o e = o (ap (rank_in layout) e ∙ (laid.ranked.types r below).1)

    pub passed_more : (kept' index' : List ℕ) → Whole layout index' t → Outside layout.chains t index index' → KeptFrom layout t layout.types kept kept'
        → Passed layout r kept_before kept' before index'
    passed_more kept' index' row outside from = record {
      rows = λ a h le. ⊎_elim
          (λ (e : rank_in layout a ≡ r). subst (Whole layout index') (sym (type_of_rank a h e)) row)
          (λ (o : rank_in layout a ≡ r → ⊥). whole_outside laid t a index index' (other_rank a o) outside (passed.rows a h (omega arith)))
          (cases_eq (rank_in layout a) r);
      rows_rest = λ j h. outside j (λ c k e. let fits = row_fits t layout.types layout.chains _ (laid.ranked.types r below).0 h in omega arith) ∙ passed.rows_rest j h;
      entries = λ i h le.
          let start : from_of layout i < layout.types = (laid.ranked.within i h).0 in
          ⊎_elim
          (λ (e : rank_in layout (from_of layout i) ≡ r). from.own i h (type_of_rank (from_of layout i) start e) (laid.ranked.ranks (to_of layout i) (laid.ranked.within i h).1).0)
          (λ (o : rank_in layout (from_of layout i) ≡ r → ⊥). from.others i (λ _ e. other_rank (from_of layout i) o e) ∙ passed.entries i h (omega arith))
          (cases_eq (rank_in layout (from_of layout i)) r);
      entries_rest = λ i h. from.others i (λ l _. omega arith) ∙ passed.entries_rest i h;
    }

  module _ (kept index : List ℕ) (passed : Passed layout 0 kept_before kept before index) where
    pub end_rows : layout.types * layout.chains ≤ length index
        → take (layout.types * layout.chains) index ≡ rows_of layout.types (links_in layout) layout.chain.now layout.position.now layout.chains
    end_rows room =
        all_rows_stand layout.types (links_in layout) layout.chain.now layout.position.now layout.chains index room
        (λ a c h k. lowest_one layout.types layout.chain.now layout.position.now (Descends (links_in layout) a) c _ _
        (passed.rows a h (omega arith) c k) (entry_lowest laid.small laid.ranked laid.chained a c))

    pub end_kept : length (links_in layout) ≤ length kept → take (length (links_in layout)) kept ≡ kept_of (links_in layout)
    end_kept room =
        let links = links_in layout in
        let size : length (take (length links) kept) ≡ length links = length-take-le (length links) kept room in
        ext_get_or 0 (take (length links) kept) (kept_of links) (size ∙ sym (length-map links (kept_entry links)))
        (λ i h.
        let low : i < length links = omega arith in
        get_or-take (length links) kept i 0 low ∙ passed.entries i low (omega arith) ∙ sym (get_or-map (kept_entry links) links i no_link 0 low))
