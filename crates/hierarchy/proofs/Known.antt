-- A search through links.
use Rattle.std.proofs.Common.{◌≡◌, ℕ, zero, suc, ◌<◌, Bool, true, false, ◌||◌, List, [], ◌∷◌, length, get_or, take, drop, sym, refl, ap, ◌∙◌, ⊎_elim, arith}
use Rattle.std.proofs.lemmas.List.{at_drop_more}
use Rattle.std.proofs.lemmas.Bool.{or_left, or_right, and_from, eq-eqb, ne_eqb, and_left, and_right, cases_eq}
use Rattle.descent.specs.declared.link.Link.{Link}
use Rattle.descent.specs.Answers.{Tells}
use Rattle.descent.specs.Links.{no_link, Linked}
use Rattle.hierarchy.specs.Entering.{is_link, has_link}

not_link : (l : Link) (a b : ℕ) → (l.from ≡ a → l.to ≡ b → ⊥) → is_link a b l ≡ false
not_link l a b f = ⊎_elim (λ p. and_right _ _ (ne_eqb _ _ (f p))) (λ p. and_left _ _ (ne_eqb _ _ p)) (cases_eq l.from a)

pub has_hit : (ls : List Link) (i a b : ℕ) → i < length ls → (get_or ls i no_link).from ≡ a → (get_or ls i no_link).to ≡ b → has_link (drop i ls) a b ≡ true
has_hit ls i a b h p q = at_drop_more (λ t. has_link t a b) ls i no_link h ∙ or_left (is_link a b (get_or ls i no_link)) _ (and_from _ _ (eq-eqb _ _ p) (eq-eqb _ _ q))

-- a link that is found from a place on is found
pub has_skips : (ls : List Link) (a b i : ℕ) → has_link (drop i ls) a b ≡ true → has_link ls a b ≡ true
has_skips ls a b zero e = e
has_skips [] a b (suc i) e = e
has_skips (l ∷ ls) a b (suc i) e = or_right (is_link a b l) (has_link ls a b) (has_skips ls a b i e)

-- a search by the links themselves tells it
tells_has : (ls : List Link) (a b : ℕ) (t : Bool) → Tells t (Linked ls a b) → has_link ls a b ≡ t
tells_has ls a b true l = has_skips ls a b l.0 (has_hit ls l.0 a b l.1 l.2 l.3)
tells_has [] a b false f = refl
tells_has (l ∷ ls) a b false f =
    ap (λ t. t || has_link ls a b) (not_link l a b (λ p q. f (zero, omega arith, p, q)))
    ∙ tells_has ls a b false (λ w. f (suc w.0, omega (arith, w.1), w.2, w.3))

-- what a search through the front of a table tells
pub search_tells : (xs ys : List Link) (n a b : ℕ) (t : Bool) → ys ≡ take n xs → Tells t (Linked ys a b) → has_link (take n xs) a b ≡ t
search_tells xs ys n a b t e h = ap (λ l. has_link l a b) (sym e) ∙ tells_has ys a b t h
