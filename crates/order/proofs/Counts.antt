-- The links that a type waits for, as one more link is taken off.
use Rattle.std.proofs.Common.{◌≡◌, ℕ, ◌+◌, ◌<◌, ◌≤◌, cond, ◌&&◌, eqb, List, length, get_or, take, arith}
use Rattle.std.proofs.lemmas.List.Sums.{count_by_more_yes, sum_by-take-le}
use Rattle.std.proofs.lemmas.Bool.{and_from, eq-eqb}
use Rattle.descent.specs.declared.link.Link.{Link}
use Rattle.descent.specs.Links.{no_link}
use Rattle.order.specs.Waiting.{links_between}

module _ (links : List Link) (i : ℕ) (in' : i < length links) (a : ℕ) where
  -- a link from a to u is one of them
  between_one : (u : ℕ) → (get_or links i no_link).from ≡ a → (get_or links i no_link).to ≡ u → links_between (take (i + 1) links) a u ≡ links_between (take i links) a u + 1
  between_one u e f = count_by_more_yes (λ l. eqb l.from a && eqb l.to u) links i no_link in' (and_from _ _ (eq-eqb _ _ e) (eq-eqb _ _ f))

  -- one link more, from a: its base's entry is not 0
  pub between_waits : (table : List ℕ) (u all : ℕ) → (get_or links i no_link).from ≡ a → (get_or links i no_link).to ≡ u
      → get_or table u 0 + links_between (take i links) a u ≡ all → links_between links a u ≤ all → 1 ≤ get_or table u 0
  between_waits table u all e f k h =
      omega (arith, between_one u e f, sum_by-take-le (λ (l : Link). cond (eqb l.from a && eqb l.to u) 1 0) links (i + 1))
