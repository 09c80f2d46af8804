-- Chain order: in rank order, each type on no chain begins the next chain; while the chain's last type has bases on no chain, the one of lowest rank is added.
use Rattle.std.specs.Prelude.{ℕ, zero, suc, ◌+◌, Bool, false, cond, ◌&&◌, ◌||◌, List, [], ◌∷◌, replicate, Some, None, Option, ◌==◌, slice_index, slice_set}
use Rattle.descent.specs.declared.link.Link.{Link}
use Rattle.chains.specs.Places.{Places, places}

-- what stands for the chain of a type that is on none
abbrev pub no_chain : ℕ
no_chain = 65535

-- whether the type t is on no chain
abbrev pub off : List ℕ → ℕ → Bool
off chains t = slice_index chains t == no_chain

-- whether b is a base of a: some link runs from a to b
abbrev pub base : List Link → ℕ → ℕ → Bool
base [] a b = false
base (l ∷ links) a b = (l.from == a && l.to == b) || base links a b

-- the first of a list that passes the test
abbrev pub first : (ℕ → Bool) → List ℕ → Option ℕ
first test [] = None
first test (t ∷ types) = cond (test t) (Some t) (first test types)

-- of the bases of t that are on no chain, the one of lowest rank: the first in the order
abbrev pub next_base : List Link → List ℕ → List ℕ → ℕ → Option ℕ
next_base links order chains t = first (λ u. base links t u && off chains u) order

-- a chain in the making: its last type, the position of that, and the tables
pub record Line : Type 0 where
  pub last : ℕ
  pub position : ℕ
  pub chains : List ℕ
  pub positions : List ℕ

-- the type, where there is one, put on the end of chain c
abbrev pub added : ℕ → Line → Option ℕ → Line
added c w None = w
added c w (Some u) = record { last = u; position = w.position + 1; chains = slice_set w.chains u c; positions = slice_set w.positions u (w.position + 1) }

-- chain c with up to m types more
abbrev pub lengthened : List Link → List ℕ → ℕ → Line → ℕ → Line
lengthened links order c w zero = w
lengthened links order c w (suc m) = lengthened links order c (added c w (next_base links order w.chains w.last)) m

-- the type t begins the next chain
abbrev pub begun : ℕ → Places → Line
begun t s = record { last = t; position = 0; chains = slice_set s.chains t s.count; positions = slice_set s.positions t 0 }

-- the chain is complete: one more
abbrev pub ended : ℕ → Line → Places
ended c w = places (c + 1) w.chains w.positions

-- the types of a list in turn: each that is on no chain begins the next one
abbrev pub laid : ℕ → List Link → List ℕ → List ℕ → Places → Places
laid n links order [] s = s
laid n links order (t ∷ types) s =
    laid n links order types (cond (off s.chains t) (ended s.count (lengthened links order s.count (begun t s) n)) s)

-- chain order over n types
abbrev pub chain_order : ℕ → List Link → List ℕ → Places
chain_order n links order = laid n links order order (places 0 (replicate n no_chain) (replicate n no_chain))
