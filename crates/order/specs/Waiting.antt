-- How many links a type waits for before it is ready.
use Rattle.std.specs.Prelude.{ℕ, not, ◌&&◌, List, count_by, ◌==◌}
use Rattle.descent.specs.declared.link.Link.{Link}
use Rattle.order.specs.Order.{ranked}

-- how many links run to t from an unranked type
abbrev pub waiting_of : List Link → List ℕ → ℕ → ℕ
waiting_of links done t = count_by (λ l. not (ranked done l.from) && l.to == t) links

-- how many links run from a to b
abbrev pub links_between : List Link → ℕ → ℕ → ℕ
links_between links a b = count_by (λ l. (l.from == a) && l.to == b) links
