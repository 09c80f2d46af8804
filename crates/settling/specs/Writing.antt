-- What the second part of settling does: rows and kept entries, or a short index.
use Rattle.std.specs.Prelude.{◌≡◌, ℕ, ◌*◌, ◌<◌, ◌≤◌, List, ◌++◌, length, drop, Ok, Err, Result}
use Rattle.descent.specs.declared.link.Link.{Link}
use Rattle.rows.specs.KeptEntries.{kept_of, kept_count}
use Rattle.rows.specs.Rows.{rows_of}
use Rattle.settling.specs.declared.outcome.Settled.{Settled}
use Rattle.settling.specs.declared.outcome.Unsettled.{Unsettled}
use Rattle.settling.specs.declared.outcome.Unsettled.TheVariants.{ShortTable, Loop, ShortIndex}

pub record Writes (n : ℕ) (links : List Link) (count : ℕ) (chain position kept₀ index₀ : List ℕ) (s : Settled) (kept₁ index₁ : List ℕ) : Type 0 where
  pub types : s.types ≡ n
  pub links_count : s.links ≡ length links
  pub chains : s.chains ≡ count
  pub kept_count_is : s.kept ≡ kept_count links
  pub fits : n * count ≤ length index₀
  pub kept : kept₁ ≡ kept_of links ++ drop (length links) kept₀
  pub index : index₁ ≡ rows_of n links chain position count ++ drop (n * count) index₀

abbrev pub WritesAs : ℕ → List Link → ℕ → List ℕ → List ℕ → List ℕ → List ℕ → Result Settled Unsettled → List ℕ → List ℕ → Type 0
WritesAs n links count chain position kept index (Ok s) kept' index' = Writes n links count chain position kept index s kept' index'
WritesAs n links count chain position kept index (Err ShortTable) kept' index' = ⊥
WritesAs n links count chain position kept index (Err (Loop size)) kept' index' = ⊥
WritesAs n links count chain position kept index (Err (ShortIndex needed)) kept' index' = (needed ≡ n * count) × (length index < needed)
