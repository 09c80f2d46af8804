-- Types strung on chains, of which some may have no type: first and last types, and a chain put behind the last type of another.
use Rattle.std.specs.Prelude.{◌≡◌, ℕ, zero, suc, ◌+◌, ◌<◌, ◌≤◌, Bool, true, cond, not, ◌&&◌, ◌||◌, leb, List, Some, None, Decides, Option, ◌==◌, ◌≢◌, nat_le, refl}
use Rattle.std.proofs.Common.{sym, ap, subst, ◌∙◌, ⊎_elim, arith}
use Rattle.std.proofs.lemmas.List.FromFn.{get_or-map-range_with_len}
use Rattle.std.proofs.lemmas.Bool.{cases_eq, and_parts, both_ways, false≢true, not-true, eqb-false, eq-eqb, ne_eqb, leb-true, le-leb}
use Rattle.std.proofs.lemmas.Bool.Decides.{Decides-and, Decides-eqb, Decides-below_and}
use Rattle.descent.specs.declared.link.Link.{Link}
use Rattle.descent.specs.Computed.{descends, every}
use Rattle.descent.specs.Links.{Path}
use Rattle.descent.proofs.Closures.{decides_descends}
use Rattle.order.specs.Order.{lowest}
use Rattle.order.proofs.Lowest.{lowest_some, lowest_none, option_cases}
use Rattle.chains.specs.Chains.{Chained}
use Rattle.chains.specs.Ends.{Strung, First, Last}
use Rattle.chains.specs.Joining.{chain_of, position_of, on, first_type, last_type, leads, takes, put_behind, put_on_end, turn, turns}
use Rattle.chains.specs.Places.{Places, places}

pub chained_strung : {n : ℕ} {links : List Link} {chains positions : List ℕ} {count : ℕ} → Chained n links chains positions count → Strung n links (places count chains positions)
chained_strung c = record { below = c.below; apart = c.apart; follows = c.follows }

-- ---- the one number that passes a test
lowest_only : (test : ℕ → Bool) (n t : ℕ) → t < n → test t ≡ true → ((u : ℕ) → u < n → test u ≡ true → u ≡ t) → lowest test 0 n ≡ Some t
lowest_only test n t h e only =
    ⊎_elim
    (λ (none : lowest test 0 n ≡ None). absurd (both_ways (test t) (lowest_none test 0 n t none (omega arith) (omega arith)) e))
    (λ (found : (u : ℕ) × (lowest test 0 n ≡ Some u)). let w = lowest_some test 0 n found.0 found.1 in found.1 ∙ ap Some (only found.0 (omega (arith, w.1)) w.0))
    (option_cases (lowest test 0 n))

lowest-nothing : (test : ℕ → Bool) (n : ℕ) → ((u : ℕ) → u < n → test u ≢ true) → lowest test 0 n ≡ None
lowest-nothing test n none =
    ⊎_elim
    (λ (e : lowest test 0 n ≡ None). e)
    (λ (found : (u : ℕ) × (lowest test 0 n ≡ Some u)). let w = lowest_some test 0 n found.0 found.1 in absurd (none found.0 (omega (arith, w.1)) w.0))
    (option_cases (lowest test 0 n))

-- ---- first and last types
abbrev is_first : Places → ℕ → ℕ → Bool
is_first s c t = on s c t && position_of s t == 0

abbrev lower : Places → ℕ → ℕ → ℕ → Bool
lower s c t u = not (on s c u) || nat_le (position_of s u) (position_of s t)

abbrev is_last : ℕ → Places → ℕ → ℕ → Bool
is_last n s c t = on s c t && every n (lower s c t)

decides_first : (s : Places) (c t : ℕ) → Decides (is_first s c t) ((chain_of s t ≡ c) × (position_of s t ≡ 0))
decides_first s c t = Decides-and _ _ (Decides-eqb (chain_of s t) c) (Decides-eqb (position_of s t) 0)

decides_lower : (s : Places) (c t u : ℕ) → Decides (lower s c t u) (chain_of s u ≡ c → position_of s u ≤ position_of s t)
decides_lower s c t u =
    ⊎_elim
    (λ (e : chain_of s u ≡ c).
    let f : lower s c t u ≡ leb (position_of s u) (position_of s t) = ap (λ b. not b || nat_le (position_of s u) (position_of s t)) (eq-eqb _ _ e) in
    ((λ g _. leb-true _ _ (sym f ∙ g)), (λ h. f ∙ le-leb _ _ (h e))))
    (λ (e : chain_of s u ≡ c → ⊥). ((λ _ g. absurd (e g)), (λ _. ap (λ b. not b || nat_le (position_of s u) (position_of s t)) (ne_eqb _ _ e))))
    (cases_eq (chain_of s u) c)

decides_last : (n : ℕ) (s : Places) (c t : ℕ) → Decides (is_last n s c t) ((chain_of s t ≡ c) × ((u : ℕ) → u < n → chain_of s u ≡ c → position_of s u ≤ position_of s t))
decides_last n s c t =
    Decides-and _ _ (Decides-eqb (chain_of s t) c)
    (Decides-below_and (lower s c t) (λ u. chain_of s u ≡ c → position_of s u ≤ position_of s t) (λ m. every m (lower s c t)) (decides_lower s c t) refl (λ _. refl) n)

pub first_some : (n : ℕ) (s : Places) (c t : ℕ) → first_type n s c ≡ Some t → (t < n) × First s c t
first_some n s c t e =
    let w = lowest_some (is_first s c) 0 n t e in
    let d = (decides_first s c t).0 w.0 in
    (omega (arith, w.1), record { here = d.0; start = d.1 })

pub last_some : (n : ℕ) (s : Places) (c t : ℕ) → last_type n s c ≡ Some t → (t < n) × Last n s c t
last_some n s c t e =
    let w = lowest_some (is_last n s c) 0 n t e in
    let d = (decides_last n s c t).0 w.0 in
    (omega (arith, w.1), record { here = d.0; top = d.1 })

pub last_nothing : (n : ℕ) (s : Places) (c : ℕ) → ((t : ℕ) → t < n → chain_of s t ≢ c) → last_type n s c ≡ None
last_nothing n s c none = lowest-nothing (is_last n s c) n (λ t h e. none t h ((decides_last n s c t).0 e).0)

module _ {n : ℕ} {links : List Link} {s : Places} (strung : Strung n links s) where
  pub first_is : (c t : ℕ) → t < n → First s c t → first_type n s c ≡ Some t
  first_is c t h f =
      lowest_only (is_first s c) n t h ((decides_first s c t).1 (f.here, f.start))
      (λ u l e. let d = (decides_first s c u).0 e in strung.apart u t l h (d.0 ∙ sym f.here) (d.1 ∙ sym f.start))

  pub last_is : (c t : ℕ) → t < n → Last n s c t → last_type n s c ≡ Some t
  last_is c t h f =
      lowest_only (is_last n s c) n t h ((decides_last n s c t).1 (f.here, f.top))
      (λ u l e.
      let d = (decides_last n s c u).0 e in
      let a = f.top u l d.0 in
      let b = d.1 t h f.here in
      strung.apart u t l h (d.0 ∙ sym f.here) (omega arith))

  -- from a type down to the first on its chain
  pub chain_first : (p t : ℕ) → t < n → position_of s t ≡ p → (u : ℕ) × (u < n) × First s (chain_of s t) u
  chain_first zero t h e = (t, h, record { here = refl; start = e })
  chain_first (suc p) t h e =
      let b = strung.follows t p h (e ∙ omega arith) in
      let r = chain_first p b.0 b.1 b.3 in
      (r.0, r.1, record { here = r.2.here ∙ b.2; start = r.2.start })

-- ---- a chain that takes another
pub takes_true : (n : ℕ) (links : List Link) (s : Places) (c d : ℕ) → takes n links s c d ≡ true
    → (d ≢ c) × ((u : ℕ) × (f : ℕ) × (last_type n s d ≡ Some u) × (first_type n s c ≡ Some f) × (descends links u f ≡ true))
takes_true n links s c d e =
    let parts = and_parts (not (d == c)) (leads links (last_type n s d) (first_type n s c)) e in
    (eqb-false _ _ (not-true _ parts.0), ends (last_type n s d) (first_type n s c) parts.1)
  where
    ends : (x y : Option ℕ) → leads links x y ≡ true → (u : ℕ) × (f : ℕ) × (x ≡ Some u) × (y ≡ Some f) × (descends links u f ≡ true)
    ends None y e = absurd (false≢true e)
    ends (Some u) None e = absurd (false≢true e)
    ends (Some u) (Some f) e = (u, f, refl, refl, e)

-- ---- chain c put behind u, the last type on chain d, from which a path leads to its first type
pub record Joins (n : ℕ) (links : List Link) (s : Places) (c d u f : ℕ) : Type 0 where
  pub strung : Strung n links s
  pub other : d ≡ c → ⊥
  pub last_below : u < n
  pub last : Last n s d u
  pub first_below : f < n
  pub first : First s c f
  pub path : Path links u f

module _ {n : ℕ} {links : List Link} {s : Places} {c d u f : ℕ} (j : Joins n links s c d u f) where
  abbrev after : Places
  after = put_behind n s c (Some u)

  chain_after : (t : ℕ) → t < n → chain_of after t ≡ cond (on s c t) (chain_of s u) (chain_of s t)
  chain_after t h = get_or-map-range_with_len (λ t. cond (on s c t) (chain_of s u) (chain_of s t)) 0 n t t 0 h (omega arith)

  position_after : (t : ℕ) → t < n → position_of after t ≡ cond (on s c t) (position_of s u + 1 + position_of s t) (position_of s t)
  position_after t h = get_or-map-range_with_len (λ t. cond (on s c t) (position_of s u + 1 + position_of s t) (position_of s t)) 0 n t t 0 h (omega arith)

  pub moved_chain : (t : ℕ) → t < n → chain_of s t ≡ c → chain_of after t ≡ d
  moved_chain t h e = chain_after t h ∙ ap (λ b. cond b (chain_of s u) (chain_of s t)) (eq-eqb _ _ e) ∙ j.last.here

  pub moved_position : (t : ℕ) → t < n → chain_of s t ≡ c → position_of after t ≡ position_of s u + 1 + position_of s t
  moved_position t h e = position_after t h ∙ ap (λ b. cond b (position_of s u + 1 + position_of s t) (position_of s t)) (eq-eqb _ _ e)

  pub kept_chain : (t : ℕ) → t < n → (chain_of s t ≢ c) → chain_of after t ≡ chain_of s t
  kept_chain t h e = chain_after t h ∙ ap (λ b. cond b (chain_of s u) (chain_of s t)) (ne_eqb _ _ e)

  pub kept_position : (t : ℕ) → t < n → (chain_of s t ≢ c) → position_of after t ≡ position_of s t
  kept_position t h e = position_after t h ∙ ap (λ b. cond b (position_of s u + 1 + position_of s t) (position_of s t)) (ne_eqb _ _ e)

  -- a type that moved and one that did not differ
  never : (t v : ℕ) → t < n → v < n → chain_of s t ≡ c → (chain_of s v ≢ c) → chain_of after t ≡ chain_of after v → position_of after t ≢ position_of after v
  never t v h i e g x y =
      let on-d : chain_of s v ≡ d = sym (kept_chain v i g) ∙ sym x ∙ moved_chain t h e in
      omega (arith, moved_position t h e, kept_position v i g, y, j.last.top v i on-d)

  after_apart : (t v : ℕ) → t < n → v < n → chain_of after t ≡ chain_of after v → position_of after t ≡ position_of after v → t ≡ v
  after_apart t v h i x y =
      ⊎_elim
      (λ (e : chain_of s t ≡ c).
      ⊎_elim
      (λ (g : chain_of s v ≡ c). j.strung.apart t v h i (e ∙ sym g) (omega (arith, moved_position t h e, moved_position v i g, y)))
      (λ (g : chain_of s v ≡ c → ⊥). absurd (never t v h i e g x y))
      (cases_eq (chain_of s v) c))
      (λ (e : chain_of s t ≡ c → ⊥).
      ⊎_elim
      (λ (g : chain_of s v ≡ c). absurd (never v t i h g e (sym x) (sym y)))
      (λ (g : chain_of s v ≡ c → ⊥). j.strung.apart t v h i (sym (kept_chain t h e) ∙ x ∙ kept_chain v i g) (sym (kept_position t h e) ∙ y ∙ kept_position v i g))
      (cases_eq (chain_of s v) c))
      (cases_eq (chain_of s t) c)

  abbrev Before : ℕ → ℕ → Type 0
  Before t p = (v : ℕ) × (v < n) × (chain_of after v ≡ chain_of after t) × (position_of after v ≡ p) × Path links v t

  -- the first type that moved comes behind u
  first_follows : (t p : ℕ) → t < n → chain_of s t ≡ c → position_of s t ≡ 0 → position_of after t ≡ p + 1 → Before t p
  first_follows t p h e z y =
      let same : f ≡ t = j.strung.apart f t j.first_below h (j.first.here ∙ sym e) (j.first.start ∙ sym z) in
      let apart : chain_of s u ≡ c → ⊥ = λ g. j.other (sym j.last.here ∙ g) in (
        u,
        j.last_below,
        kept_chain u j.last_below apart ∙ j.last.here ∙ sym (moved_chain t h e),
        kept_position u j.last_below apart ∙ omega (arith, moved_position t h e, z, y),
        subst (Path links u) same j.path,
      )

  -- the others as before
  moved_follows : (t p q : ℕ) → t < n → chain_of s t ≡ c → position_of s t ≡ q + 1 → position_of after t ≡ p + 1 → Before t p
  moved_follows t p q h e z y =
      let b = j.strung.follows t q h z in
      let on-c : chain_of s b.0 ≡ c = b.2 ∙ e in (
        b.0,
        b.1,
        moved_chain b.0 b.1 on-c ∙ sym (moved_chain t h e),
        moved_position b.0 b.1 on-c ∙ omega (arith, moved_position t h e, z, y, b.3),
        b.4,
      )

  kept_follows : (t p : ℕ) → t < n → (chain_of s t ≢ c) → position_of after t ≡ p + 1 → Before t p
  kept_follows t p h e y =
      let b = j.strung.follows t p h (sym (kept_position t h e) ∙ y) in
      let apart : chain_of s b.0 ≡ c → ⊥ = λ g. e (sym b.2 ∙ g) in
      (b.0, b.1, kept_chain b.0 b.1 apart ∙ b.2 ∙ sym (kept_chain t h e), kept_position b.0 b.1 apart ∙ b.3, b.4)

  after_follows : (t p : ℕ) → t < n → position_of after t ≡ p + 1 → Before t p
  after_follows t p h y =
      ⊎_elim
      (λ (e : chain_of s t ≡ c). by_position (position_of s t) refl e)
      (λ (e : chain_of s t ≡ c → ⊥). kept_follows t p h e y)
      (cases_eq (chain_of s t) c)
    where
      by_position : (q : ℕ) → position_of s t ≡ q → chain_of s t ≡ c → Before t p
      by_position zero z e = first_follows t p h e z y
      by_position (suc q) z e = moved_follows t p q h e (z ∙ omega arith) y

  pub after_strung : Strung n links (put_behind n s c (Some u))
  after_strung = record {
    below = λ t h.
        ⊎_elim
        (λ (e : chain_of s t ≡ c). omega (arith, moved_chain t h e, j.last.here, j.strung.below u j.last_below))
        (λ (e : chain_of s t ≡ c → ⊥). omega (arith, kept_chain t h e, j.strung.below t h))
        (cases_eq (chain_of s t) c);
    apart = after_apart;
    follows = after_follows;
  }

-- what takes chain c does join it
pub takes_joins : {n : ℕ} {links : List Link} {s : Places} → Strung n links s → (c d u f : ℕ) → (d ≢ c) → (u < n) × Last n s d u → (f < n) × First s c f → descends links u f ≡ true → Joins n links s c d u f
takes_joins {n} {links} {s} strung c d u f other last first e = record {
  strung = strung;
  other = other;
  last_below = last.0;
  last = last.1;
  first_below = first.0;
  first = first.1;
  path =
      ⊎_elim
      (λ (same : u ≡ f). absurd (other (sym last.1.here ∙ ap (chain_of s) same ∙ first.1.here)))
      (λ (p : Path links u f). p)
      ((decides_descends links u f).0 e);
}

-- ---- turns
module _ (n : ℕ) (links : List Link) where
  turn_found : (s : Places) (c : ℕ) (o : Option ℕ) → lowest (takes n links s c) 0 s.count ≡ o → Strung n links s → Strung n links (put_on_end n s c o) × ((put_on_end n s c o).count ≡ s.count)
  turn_found s c None e strung = (strung, refl)
  turn_found s c (Some d) e strung =
      let w = lowest_some (takes n links s c) 0 s.count d e in
      let t = takes_true n links s c d w.0 in
      let u = t.1.0 in
      let f = t.1.1 in
      let j = takes_joins strung c d u f t.0 (last_some n s d u t.1.2) (first_some n s c f t.1.3) t.1.4 in
      let same : put_on_end n s c (Some d) ≡ put_behind n s c (Some u) = ap (put_behind n s c) t.1.2 in
      (subst (Strung n links) (sym same) (after_strung j), ap (λ (x : Places). x.count) same)

  pub turn_strung : (s : Places) (c : ℕ) → Strung n links s → Strung n links (turn n links s c) × ((turn n links s c).count ≡ s.count)
  turn_strung s c strung = turn_found s c (lowest (takes n links s c) 0 s.count) refl strung

  pub turns_strung : (m : ℕ) (s : Places) (c : ℕ) → Strung n links s → Strung n links (turns n links s c m)
  turns_strung zero s c strung = strung
  turns_strung (suc m) s c strung = turns_strung m (turn n links s c) (c + 1) (turn_strung s c strung).0
