-- What a settle of a script may write, by its method.
use Rattle.std.specs.Prelude.{ℕ, List}
use Rattle.descent.specs.declared.link.Link.{Link}
use Rattle.chains.specs.Meaning.{ByChainOrder, JoinedFrom}
use Rattle.script.specs.declared.method.Method.{Method}
use Rattle.script.specs.declared.method.Method.TheVariants.{Joined, Chains}

abbrev pub given : Method → ℕ → List Link → List ℕ → List ℕ → List ℕ → ℕ → Type 0
given Joined = JoinedFrom ByChainOrder
given Chains = ByChainOrder
