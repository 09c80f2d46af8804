-- The order as it grows: what holds of it at each step, and where it ends.
use Rattle.std.proofs.Common.{◌≡◌, ℕ, zero, suc, ◌+◌, ◌-◌, ◌<◌, ◌≤◌, true, false, not, ◌||◌, eqb, ◌⊎◌, List, [], ◌∷◌, ◌++◌, length, get_or, Some, None, sym, refl, ap, ◌∙◌, subst, inl, inr, ⊎_elim, arith}
use Rattle.std.proofs.lemmas.List.{length_push, get_or_push, get_or_append_left}
use Rattle.std.proofs.lemmas.Bool.{or_cases, or_parts, and_parts, and_cases, eq-eqb, eqb-true, not-true, not-false, both_ways, cases_lt}
use Rattle.descent.specs.declared.link.Link.{Link}
use Rattle.descent.specs.Links.{Linked}
use Rattle.order.specs.Order.{ranked, subtypes_ranked, ready, lowest, grown, extended, order_of}
use Rattle.order.specs.Meaning.{Rises}
use Rattle.order.proofs.Lowest.{lowest_some, option_cases}
use Rattle.order.proofs.Tallies.{tally, tally_none, tally_le}
use Rattle.order.proofs.Places.{ranked-at, at-ranked, tally_push}

-- where the subtypes of t are all ranked, each is
pub subtypes_each : (links : List Link) (done : List ℕ) (a t : ℕ) → subtypes_ranked links done t ≡ true → Linked links a t → ranked done a ≡ true
subtypes_each [] done a t e (k, h, p, q) = let z : ⊥ = omega arith in absurd z
subtypes_each (l ∷ links) done a t e (zero, h, p, q) =
    let w = and_parts (not (eqb l.to t) || ranked done l.from) (subtypes_ranked links done t) e in
    ⊎_elim
    (λ f. absurd (both_ways (eqb l.to t) (not-true _ f) (eq-eqb _ _ q)))
    (λ f. ap (ranked done) (sym p) ∙ f)
    (or_cases (not (eqb l.to t)) (ranked done l.from) w.0)
subtypes_each (l ∷ links) done a t e (suc k, h, p, q) =
    let w = and_parts (not (eqb l.to t) || ranked done l.from) (subtypes_ranked links done t) e in
    subtypes_each links done a t w.1 (k, omega arith, p, q)

-- where they are not, some subtype is unranked
pub subtypes_not : (links : List Link) (done : List ℕ) (t : ℕ) → subtypes_ranked links done t ≡ false → (a : ℕ) × Linked links a t × (ranked done a ≡ false)
subtypes_not [] done t e = absurd (both_ways true e refl)
subtypes_not (l ∷ links) done t e =
    ⊎_elim
    (λ f.
    let w = or_parts (not (eqb l.to t)) (ranked done l.from) f in
    (l.from, (0, omega arith, refl, eqb-true _ _ (not-false _ w.0)), w.1))
    (λ f.
    let r = subtypes_not links done t f in
    (r.0, (suc r.1.0, omega (arith, r.1.1), r.1.2, r.1.3), r.2))
    (and_cases (not (eqb l.to t) || ranked done l.from) (subtypes_ranked links done t) e)

-- one step of the order, and its end
module _ (n : ℕ) (links : List Link) (done : List ℕ) where
  pub extended_none : lowest (ready links done) 0 n ≡ None → (m : ℕ) → extended n links done m ≡ done
  extended_none e zero = refl
  extended_none e (suc m) = ap (λ o. extended n links (grown done o) m) e ∙ extended_none e m

  pub extended_some : (r t : ℕ) → r < n → lowest (ready links done) 0 n ≡ Some t → extended n links (done ++ (t ∷ [])) (n - (r + 1)) ≡ extended n links done (n - r)
  extended_some r t h e =
      let k : n - r ≡ suc (n - (r + 1)) = omega arith in
      sym (ap (extended n links done) k ∙ ap (λ o. extended n links (grown done o) (n - (r + 1))) e)

-- what holds of the types that are ranked so far
pub record Sound (n : ℕ) (links : List Link) (done : List ℕ) : Type 0 where
  pub rises : Rises links done
  pub counted : tally n (ranked done) ≡ length done
  pub below : (i : ℕ) → i < length done → get_or done i 0 < n
  pub apart : (i j : ℕ) → i < j → j < length done → get_or done i 0 ≡ get_or done j 0 → ⊥

pub sound_push : (n : ℕ) (links : List Link) (done : List ℕ) (t : ℕ) → t < n → ready links done t ≡ true → Sound n links done → Sound n links (done ++ (t ∷ []))
sound_push n links done t h e s =
    let w = and_parts (not (ranked done t)) (subtypes_ranked links done t) e in
    let new : ranked done t ≡ false = not-true _ w.0 in
    let long = length_push done t in
    let old : (i : ℕ) → i < length done → get_or (done ++ (t ∷ [])) i 0 ≡ get_or done i 0 = λ i k. get_or_append_left done (t ∷ []) 0 i k in
    let last : (i : ℕ) → length done ≤ i → i < length (done ++ (t ∷ [])) → get_or (done ++ (t ∷ [])) i 0 ≡ t = λ i k m. let i-is : length done ≡ i = omega arith in get_or_push done t 0 i i-is in
    record {
      rises = λ a b i l k g.
          ⊎_elim
          (λ (c : i < length done).
          let r = s.rises a b i l c (sym (old i c) ∙ g) in
          (r.0, r.1, old r.0 (omega (arith, r.1)) ∙ r.2))
          (λ (c : length done ≤ i).
          let t-is : t ≡ b = sym (last i c k) ∙ g in
          let r = ranked-at done a (subtypes_each links done a t w.1 (l.0, l.1, l.2, l.3 ∙ sym t-is)) in
          (r.0, omega (arith, r.1), old r.0 r.1 ∙ r.2))
          (cases_lt i (length done));
      counted = tally_push n done t h new ∙ ap (λ m. m + 1) s.counted ∙ sym long;
      below = λ i k.
          ⊎_elim
          (λ (c : i < length done). subst (λ (x : ℕ). x < n) (sym (old i c)) (s.below i c))
          (λ (c : length done ≤ i). subst (λ (x : ℕ). x < n) (sym (last i c k)) h)
          (cases_lt i (length done));
      apart = λ i j lt k g.
          let early : i < length done = omega arith in
          ⊎_elim
          (λ (c : j < length done). s.apart i j lt c (sym (old i early) ∙ g ∙ old j c))
          (λ (c : length done ≤ j). both_ways (ranked done t) new (at-ranked done i t early (sym (old i early) ∙ g ∙ last j c k)))
          (cases_lt j (length done));
    }

pub sound_none : (n : ℕ) (links : List Link) → Sound n links []
sound_none n links = record {
  rises = λ a b i l h g. let z : ⊥ = omega arith in absurd z;
  counted = tally_none n;
  below = λ i h. let z : ⊥ = omega arith in absurd z;
  apart = λ i j h k g. omega arith;
}

-- sound at the end; and there no type is ready, or m types were ranked
extended_sound : (n : ℕ) (links : List Link) (done : List ℕ) (m : ℕ) → Sound n links done
    → Sound n links (extended n links done m) × ((lowest (ready links (extended n links done m)) 0 n ≡ None) ⊎ (length (extended n links done m) ≡ length done + m))
extended_sound n links done zero s = (s, inr (omega arith))
extended_sound n links done (suc m) s =
    ⊎_elim
    (λ e.
    let x : extended n links done (suc m) ≡ done = extended_none n links done e (suc m) in
    (subst (Sound n links) (sym x) s, inl (ap (λ d. lowest (ready links d) 0 n) x ∙ e)))
    (λ (p : (t : ℕ) × (lowest (ready links done) 0 n ≡ Some t)).
    let t = p.0 in
    let w = lowest_some (ready links done) 0 n t p.1 in
    let x : extended n links done (suc m) ≡ extended n links (done ++ (t ∷ [])) m = ap (λ o. extended n links (grown done o) m) p.1 in
    let r = extended_sound n links (done ++ (t ∷ [])) m (sound_push n links done t (omega (arith, w.1)) w.0 s) in
    let long = length_push done t in (
      subst (Sound n links) (sym x) r.0,
      ⊎_elim (λ e. inl (ap (λ d. lowest (ready links d) 0 n) x ∙ e)) (λ e. inr (omega (arith, ap length x, e, long))) r.1,
    ))
    (option_cases (lowest (ready links done) 0 n))

module _ (n : ℕ) (links : List Link) where
  pub order_sound : Sound n links (order_of n links)
  order_sound = (extended_sound n links [] n (sound_none n links)).0

  -- no type is ready at the end, unless all are ranked
  pub order_ends : (lowest (ready links (order_of n links)) 0 n ≡ None) ⊎ (length (order_of n links) ≡ n)
  order_ends = ⊎_elim (λ e. inl e) (λ e. inr (omega (arith, e))) (extended_sound n links [] n (sound_none n links)).1

  pub order_fits : length (order_of n links) ≤ n
  order_fits = omega (arith, order_sound.counted, tally_le n (ranked (order_of n links)))
