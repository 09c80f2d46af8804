-- The base of lowest rank that is on no chain: what is found.
use Rattle.std.specs.Prelude.{◌≡◌, ℕ, ◌<◌, ◌&&◌, List, length, Some, slice_index}
use Rattle.std.proofs.Common.{subst}
use Rattle.std.proofs.lemmas.Bool.{and_parts, eqb-true}
use Rattle.descent.specs.declared.link.Link.{Link}
use Rattle.descent.specs.Links.{Linked}
use Rattle.chains.specs.ChainOrder.{no_chain, off, base, next_base}
use Rattle.chains.specs.Firsts.{first_some, base_linked}

-- what is found is a type, a base, and on no chain
pub next_base_some : (n : ℕ) (links : List Link) (order chains : List ℕ) (t u : ℕ) → ((i : ℕ) → i < length order → slice_index order i < n) → next_base links order chains t ≡ Some u
    → (u < n) × Linked links t u × (slice_index chains u ≡ no_chain)
next_base_some n links order chains t u below e =
    let r = first_some (λ u. base links t u && off chains u) order u e in
    let parts = and_parts (base links t u) (off chains u) r.0 in
    (subst (λ (x : ℕ). x < n) r.1.2 (below r.1.0 r.1.1), base_linked links t u parts.0, eqb-true _ _ parts.1)
