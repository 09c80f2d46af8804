-- The computed flags and the computed nearest common base are those of the relation.
use Rattle.std.proofs.Common.{◌≡◌, ℕ, zero, suc, ◌<◌, Bool, true, false, cond, not, ◌&&◌, ◌||◌, List, [], ◌∷◌, length, get_or, Some, None, Decides, Option, sym, refl, ◌∙◌, subst, inl, inr, ⊎_elim, arith}
use Rattle.std.proofs.lemmas.List.{get_or-map}
use Rattle.std.proofs.lemmas.Bool.{cases_eq, cases_Bool, both_ways, and_parts, and_from, and_cases, false≢true}
use Rattle.std.proofs.lemmas.Bool.Decides.{Decides-eqb, Decides-or, Decides-and, Decides-not, Decides-like, not_from_Decides}
use Rattle.descent.specs.declared.link.Link.{Link}
use Rattle.descent.specs.Computed.{Computes, implied, flags, every, lowest, common, near, nearest}
use Rattle.descent.specs.Links.{no_link, Linked, Within}
use Rattle.descent.specs.Nearests.{Common, Undercuts, Near, Nearest}
use Rattle.descent.specs.Trims.{Implied, Flag, Flagged}
use Rattle.descent.proofs.Bases.{no_common_base}
use Rattle.descent.proofs.Lowest.{lowest_some, lowest_none, lowest-first, option_cases}
use Rattle.descent.proofs.Closures.{linked_tail, linked_cases}

-- ---- flags
module _ (n : ℕ) (holds : ℕ → ℕ → Bool) (R : ℕ → ℕ → Type 0) (computes : Computes n holds R) where
  decides_implied : (links : List Link) → Within links n → (link : Link) → link.to < n → Decides (implied links holds link.from link.to) (Implied links R link)
  decides_implied [] within link below = ((λ e. absurd (false≢true e)), (λ (w, l, other, r). let none : ⊥ = omega (arith, l.1) in absurd none))
  decides_implied (l ∷ links) within link below =
      Decides-like (implied (l ∷ links) holds link.from link.to)
      (⊎_elim
      (λ (here : (l.from ≡ link.from) × ((l.to ≡ link.to → ⊥) × R l.to link.to)). (l.to, (0, omega arith, here.0, refl), here.1.0, here.1.1))
      (λ (later : Implied links R link). (later.0, linked_tail l links link.from later.0 later.1, later.2, later.3)))
      (λ (w, k, other, r).
      ⊎_elim
      (λ (e : (link.from ≡ l.from) × (l.to ≡ w)). inl (sym e.0, ((λ f. other (sym e.1 ∙ f)), subst (λ (x : ℕ). R x link.to) (sym e.1) r)))
      (λ (later : Linked links link.from w). inr (w, later, other, r))
      (linked_cases l links link.from w k))
      (Decides-or _ _
      (Decides-and _ _ (Decides-eqb l.from link.from) (Decides-and _ _ (Decides-not _ (Decides-eqb l.to link.to)) (computes l.to link.to (within 0 (omega arith)).1 below)))
      (decides_implied links (λ k h. within (suc k) (omega arith)) link below))

  flag_computed : {P : Type 0} (b : Bool) → Decides b P → Flag (cond b 0 1) P
  flag_computed true d = inl (refl, d.0 refl)
  flag_computed false d = inr (refl, not_from_Decides false d refl)

  pub flags_computed : (links : List Link) → Within links n → Flagged links R (length links) (flags links holds)
  flags_computed links within k h =
      let link = get_or links k no_link in
      let flag = λ (x : Link). cond (implied links holds x.from x.to) 0 1 in
      subst (λ (f : ℕ). Flag f (Implied links R link)) (sym (get_or-map flag links k no_link 0 h)) (flag_computed (implied links holds link.from link.to) (decides_implied links within link (within k h).1))

-- ---- the lowest number that passes
abbrev Lowest : ℕ → (ℕ → Bool) → Option ℕ → Type 0
Lowest n p (Some c) = (c < n) × (p c ≡ true) × ((e : ℕ) → e < c → p e ≡ false)
Lowest n p None = (c : ℕ) → c < n → p c ≡ false

lowest_is : (n : ℕ) (p : ℕ → Bool) → Lowest n p (lowest p 0 n)
lowest_is n p =
    ⊎_elim
    (λ (e : lowest p 0 n ≡ None). subst (Lowest n p) (sym e) (λ c h. lowest_none p 0 n c e (omega arith) (omega arith)))
    (λ (f : (t : ℕ) × (lowest p 0 n ≡ Some t)).
    let r = lowest_some p 0 n f.0 f.1 in
    subst (Lowest n p) (sym f.1) (omega (arith, r.1), r.0, (λ e h. lowest-first p 0 n f.0 e f.1 (omega arith) h)))
    (option_cases (lowest p 0 n))

every-at : (n : ℕ) (p : ℕ → Bool) → every n p ≡ true → (d : ℕ) → d < n → p d ≡ true
every-at zero p e d h = let none : ⊥ = omega arith in absurd none
every-at (suc n) p e d h =
    let parts = and_parts (p n) (every n p) e in
    ⊎_elim (λ (s : d ≡ n). subst (λ (x : ℕ). p x ≡ true) (sym s) parts.0) (λ (ne : d ≡ n → ⊥). every-at n p parts.1 d (omega arith)) (cases_eq d n)

every_from : (n : ℕ) (p : ℕ → Bool) → ((d : ℕ) → d < n → p d ≡ true) → every n p ≡ true
every_from zero p each = refl
every_from (suc n) p each = and_from (p n) (every n p) (each n (omega arith)) (every_from n p (λ d h. each d (omega arith)))

-- where a test fails of some number below n, there is one
some_fails : (n : ℕ) (p : ℕ → Bool) → every n p ≡ false → (d : ℕ) × (d < n) × (p d ≡ false)
some_fails zero p e = absurd (false≢true (sym e))
some_fails (suc n) p e =
    ⊎_elim
    (λ (yes : p n ≡ true). let s = some_fails n p (subst (λ (x : Bool). (x && every n p) ≡ false) yes e) in (s.0, omega (arith, s.1), s.2))
    (λ (fails : p n ≡ false). (n, omega arith, fails))
    (cases_Bool (p n))

-- ---- the nearest common base
decides_implication : {P Q : Type 0} (x y : Bool) → Decides x P → Decides y Q → Decides (not x || y) (P → Q)
decides_implication true y p q = ((λ e _. q.0 e), (λ f. q.1 (f (p.0 refl))))
decides_implication false y p q = ((λ _ h. absurd (not_from_Decides false p refl h)), (λ _. refl))

-- a number that does not yield to another undercuts it
implication_fails : {P Q : Type 0} (x y : Bool) → Decides x P → Decides y Q → (not x || y) ≡ false → P × (Q → ⊥)
implication_fails true y p q e = (p.0 refl, not_from_Decides y q e)
implication_fails false y p q e = absurd (false≢true (sym e))

module _ (n : ℕ) (holds : ℕ → ℕ → Bool) (R : ℕ → ℕ → Type 0) (computes : Computes n holds R)
    (reflexive : (x : ℕ) → x < n → R x x) (transitive : (x y z : ℕ) → R x y → R y z → R x z) (a b : ℕ) (first : a < n) (second : b < n) where
  decides_common : (c : ℕ) → c < n → Decides (common holds a b c) (Common n R a b c)
  decides_common c h =
      Decides-like (common holds a b c) (λ (p : R a c × R b c). (h, p.0, p.1)) (λ (p : Common n R a b c). (p.1, p.2)) (Decides-and _ _ (computes a c first h) (computes b c second h))

  decides_below : (c d : ℕ) → c < n → d < n → Decides (common holds a b d && holds d c) (Common n R a b d × R d c)
  decides_below c d h k = Decides-and _ _ (decides_common d k) (computes d c k h)

  abbrev yields : ℕ → ℕ → Bool
  yields c d = not (common holds a b d && holds d c) || holds c d

  decides_yields : (c d : ℕ) → c < n → d < n → Decides (yields c d) (Common n R a b d × R d c → R c d)
  decides_yields c d h k = decides_implication _ _ (decides_below c d h k) (computes c d h k)

  decides_near : (c : ℕ) → c < n → Decides (near n holds a b c) (Near n R a b c)
  decides_near c h = (
    (λ e.
        let parts = and_parts (common holds a b c) (every n (yields c)) e in
        ((decides_common c h).0 parts.0, λ d other r. (decides_yields c d h other.0).0 (every-at n (yields c) parts.1 d other.0) (other, r))),
    (λ (here, others). and_from (common holds a b c) (every n (yields c)) ((decides_common c h).1 here)
        (every_from n (yields c) (λ d k. (decides_yields c d h k).1 (λ p. others d p.0 p.1)))),
  )

  -- a common base that is not near is undercut
  undercut : (c : ℕ) → c < n → near n holds a b c ≡ false → Common n R a b c → (d : ℕ) × Undercuts n R a b c d
  undercut c h e here =
      let fails : every n (yields c) ≡ false = ⊎_elim (λ (f : common holds a b c ≡ false). absurd (not_from_Decides (common holds a b c) (decides_common c h) f here)) (λ f. f) (and_cases (common holds a b c) (every n (yields c)) e) in
      let s = some_fails n (yields c) fails in
      let u = implication_fails _ _ (decides_below c s.0 h s.1) (computes c s.0 h s.1) s.2 in
      (s.0, (u.0.0, u.0.1, u.1))

  from_lowest : (o : Option ℕ) → Lowest n (near n holds a b) o → Nearest n R a b o
  from_lowest (Some c) (h, e, lower) = ((decides_near c h).0 e, λ x l other. both_ways (near n holds a b x) (lower x l) ((decides_near x (omega arith)).1 other))
  from_lowest None none = no_common_base n R a b reflexive transitive (λ c h here. undercut c h (none c h) here)

  pub nearest_computed : Nearest n R a b (nearest n holds a b)
  nearest_computed = from_lowest (nearest n holds a b) (lowest_is n (near n holds a b))

  -- where there is a common base there is a nearest one
  pub nearest_exists : (c : ℕ) → Common n R a b c → (m : ℕ) × (nearest n holds a b ≡ Some m) × Nearest n R a b (Some m)
  nearest_exists c here = some (nearest n holds a b) nearest_computed
    where
      some : (o : Option ℕ) → Nearest n R a b o → (m : ℕ) × (o ≡ Some m) × Nearest n R a b (Some m)
      some (Some m) found = (m, refl, found)
      some None none = absurd (none c here)
