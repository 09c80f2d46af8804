-- Descent, flags and the nearest common base, computed.
use Rattle.std.specs.Prelude.{ℕ, zero, suc, ◌<◌, Bool, true, cond, not, ◌&&◌, ◌||◌, List, [], ◌∷◌, map, Decides, Option, ◌==◌, find}
use Rattle.std.specs.List.{range_with_len, list_any}
use Rattle.descent.specs.declared.link.Link.{Link}

-- by no links each number descends from itself alone; one more link joins what leads to its start with what its end leads to
abbrev pub descends : List Link → ℕ → ℕ → Bool
descends [] a b = a == b
descends (link ∷ links) a b = descends links a b || (descends links a link.from && descends links link.to b)

-- `holds` says of each two numbers below n whether the relation holds
abbrev pub Computes : ℕ → (ℕ → ℕ → Bool) → (ℕ → ℕ → Type 0) → Type 0
Computes n holds R = (a b : ℕ) → a < n → b < n → Decides (holds a b) (R a b)

-- some link of the list leads from a to another number than b that is related to b
abbrev pub implied : List Link → (ℕ → ℕ → Bool) → ℕ → ℕ → Bool
implied links R a b = list_any (λ link. link.from == a && (not (link.to == b) && R link.to b)) links

abbrev pub flags : List Link → (ℕ → ℕ → Bool) → List ℕ
flags links R = map (λ (link : Link). cond (implied links R link.from link.to) 0 1) links

-- the test holds of each number below n
abbrev pub every : ℕ → (ℕ → Bool) → Bool
every zero p = true
every (suc n) p = p n && every n p

-- the lowest that passes the test, of the m numbers from t on
abbrev pub lowest : (ℕ → Bool) → ℕ → ℕ → Option ℕ
lowest test t m = find test (range_with_len t m)

abbrev pub common : (ℕ → ℕ → Bool) → ℕ → ℕ → ℕ → Bool
common R a b c = R a c && R b c

-- c is a common base, and related to each common base that is related to it
abbrev pub near : ℕ → (ℕ → ℕ → Bool) → ℕ → ℕ → ℕ → Bool
near n R a b c = common R a b c && every n (λ d. not (common R a b d && R d c) || R c d)

abbrev pub nearest : ℕ → (ℕ → ℕ → Bool) → ℕ → ℕ → Option ℕ
nearest n R a b = lowest (near n R a b) 0 n
