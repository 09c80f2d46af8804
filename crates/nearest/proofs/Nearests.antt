-- The nearest common base: it is one, and the computed one is it.
use Rattle.std.proofs.Common.{◌≡◌, ℕ, ◌<◌, List, length, Some, None, Ok, Option, sym, refl, ap, subst, ⊎_elim, arith}
use Rattle.std.proofs.lemmas.Bool.{cases_order, cond-true, lt-ltb}
use Rattle.descent.specs.declared.link.Link.{Link}
use Rattle.descent.specs.Answers.{Agree}
use Rattle.descent.specs.Computed.{descends, nearest}
use Rattle.descent.specs.Laws.{descends_refl, descends_trans}
use Rattle.descent.specs.Links.{Descends}
use Rattle.descent.specs.Nearests.{Common, Near, Nearest}
use Rattle.descent.proofs.Closures.{decides_descends}
use Rattle.descent.proofs.Computing.{nearest_computed}
use Rattle.names.specs.Finding.{name_of, number_in}
use Rattle.names.proofs.Numbers.{stands}
use Rattle.register.specs.Asking.{numbers_found, numbers_answer}
use Rattle.register.specs.Entries.{Entries}
use Rattle.nearest.specs.ByNames.{nearest_of, name_of_some, answer_for, NamesNearest, AnswersAreNearest}

module _ (n : ℕ) (R S : ℕ → ℕ → Type 0) (same : Agree n R S) (a b : ℕ) (first : a < n) (second : b < n) where
  common_by : (c : ℕ) → Common n R a b c → Common n S a b c
  common_by c (h, p, q) = (h, (same a c first h).0 p, (same b c second h).0 q)

  common_back : (c : ℕ) → Common n S a b c → Common n R a b c
  common_back c (h, p, q) = (h, (same a c first h).1 p, (same b c second h).1 q)

  near_by : (c : ℕ) → Near n R a b c → Near n S a b c
  near_by c (here, others) = (common_by c here, λ d other r. (same c d here.0 other.0).0 (others d (common_back d other) ((same d c other.0 here.0).1 r)))

  near_back : (c : ℕ) → Near n S a b c → Near n R a b c
  near_back c (here, others) = (common_back c here, λ d other r. (same c d here.0 other.0).1 (others d (common_by d other) ((same d c other.0 here.0).0 r)))

  -- relations that agree have the same nearest common base
  pub nearest_by : (x : Option ℕ) → Nearest n R a b x → Nearest n S a b x
  nearest_by (Some c) (here, lower) = (near_by c here, λ e h other. lower e h (near_back e other))
  nearest_by None none = λ c here. none c (common_back c here)

module _ (n : ℕ) (R : ℕ → ℕ → Type 0) (a b : ℕ) where
  pub nearest_one : (x y : Option ℕ) → Nearest n R a b x → Nearest n R a b y → x ≡ y
  nearest_one (Some c) (Some d) p q =
      ⊎_elim (λ (e : c ≡ d). ap {B = Option ℕ} (λ k. Some k) e) (⊎_elim (λ (lt : c < d). absurd (q.1 c lt p.0)) (λ (gt : d < c). absurd (p.1 d gt q.0))) (cases_order c d)
  nearest_one (Some c) None p q = absurd (q c p.0.0)
  nearest_one None (Some d) p q = absurd (p d q.0.0)
  nearest_one None None p q = refl

pub nearest_descent : (n : ℕ) (links : List Link) (a b : ℕ) → a < n → b < n → Nearest n (Descends links) a b (nearest n (descends links) a b)
nearest_descent n links a b first second =
    nearest_computed n (descends links) (Descends links) (λ x y h k. decides_descends links x y) (λ x h. descends_refl links x) (descends_trans links) a b first second

-- ---- by names
found_below : (names : List (List ℕ)) (first second : List ℕ) (x y : Option ℕ) (a b : ℕ) → number_in names first ≡ x → number_in names second ≡ y → numbers_found x y ≡ Ok (a, b) → (a < length names) × (b < length names)
found_below names first second (Some c) (Some d) a b p q e =
    let same : ◌≡◌ {A = ℕ × ℕ} (c, d) (a, b) = cc in
    let i : c ≡ a = ap (λ (x : ℕ × ℕ). x.0) same in
    let j : d ≡ b = ap (λ (x : ℕ × ℕ). x.1) same in
    (omega (arith, (stands names first c p).0), omega (arith, (stands names second d q).0))
found_below names first second (Some c) None a b p q e = absurd (grind arith)
found_below names first second None y a b p q e = absurd (grind arith)

-- the numbers of two names of a settled register are below the number of types
pub asked : (settled : Option ℕ) (names : List (List ℕ)) (first second : List ℕ) (a b : ℕ) → numbers_answer settled names first second ≡ Ok (a, b) → (a < length names) × (b < length names)
asked (Some k) names first second a b e = found_below names first second (number_in names first) (number_in names second) a b refl refl e
asked None names first second a b e = absurd (grind arith)

named : (e : Entries) (a b : ℕ) (x : Option ℕ) → Nearest (length e.names) (Descends e.links) a b x → NamesNearest e a b (name_of_some e.names x)
named e a b (Some c) found =
    let here : name_of e.names c ≡ Some _ = cond-true _ _ _ (lt-ltb c (length e.names) found.0.0.0) in
    subst (NamesNearest e a b) (sym here) (c, here, found)
named e a b None none = none

pub answers_are_nearest : AnswersAreNearest
answers_are_nearest c first second a b e =
    let h = asked c.settled c.entries.names first second a b e in (
      name_of_some c.entries.names (nearest_of c.entries a b),
      ap (answer_for c.entries) e,
      named c.entries a b (nearest_of c.entries a b) (nearest_descent (length c.entries.names) c.entries.links a b h.0 h.1),
    )
