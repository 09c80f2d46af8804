-- Worked examples: types with their links and places, and the rows and kept entries that they have.
use Rattle.std.specs.Prelude.{◌≡◌, ℕ, List, [], ◌∷◌, map}
use Rattle.descent.specs.declared.link.Link.{Link}
use Rattle.descent.specs.Links.{link}
use Rattle.chains.specs.Chains.{Chained}
use Rattle.chains.specs.Ranked.{Ranked}
use Rattle.rows.specs.Rows.{rows_of}
use Rattle.rows.specs.KeptEntries.{kept_of, kept_count, Different}

pub record Example : Type 0 where
  pub types : ℕ
  pub links : List Link
  pub chains : List ℕ
  pub positions : List ℕ
  pub count : ℕ

-- rows, kept entries and the number of kept links
pub record Result : Type 0 where
  pub rows : List ℕ
  pub kept : List ℕ
  pub number : ℕ

abbrev example : ℕ → List Link → List ℕ → List ℕ → ℕ → Example
example types links chains positions count = record { types = types; links = links; chains = chains; positions = positions; count = count }

abbrev result : List ℕ → List ℕ → ℕ → Result
result rows kept number = record { rows = rows; kept = kept; number = number }

abbrev pub result_of : Example → Result
result_of e = result (rows_of e.types e.links e.chains e.positions e.count) (kept_of e.links) (kept_count e.links)

-- 0 below 1 and 2, and 1 and 3 below 2
abbrev pub four : List Link
four = link 0 1 ∷ link 0 2 ∷ link 1 2 ∷ link 3 2 ∷ []

abbrev pub examples : List Example
examples =
    -- no types; one type
    example 0 [] [] [] 0
    ∷ example 1 [] (0 ∷ []) (0 ∷ []) 1
    -- the chains 0 1 2 and 3
    ∷ example 4 four (0 ∷ 0 ∷ 0 ∷ 1 ∷ []) (0 ∷ 1 ∷ 2 ∷ 0 ∷ []) 2
    -- 0 and 2 below 1, and 1 below 3 and 4: the chains 0 1 3 and 2 4
    ∷ example 5 (link 0 1 ∷ link 2 1 ∷ link 1 3 ∷ link 1 4 ∷ []) (0 ∷ 0 ∷ 1 ∷ 0 ∷ 1 ∷ []) (0 ∷ 1 ∷ 0 ∷ 2 ∷ 1 ∷ []) 2
    ∷ []

abbrev pub results : List Result
results =
    result [] [] 0
    ∷ result (0 ∷ []) [] 0
    ∷ result (0 ∷ 65535 ∷ 1 ∷ 65535 ∷ 2 ∷ 65535 ∷ 2 ∷ 0 ∷ []) (1 ∷ 0 ∷ 1 ∷ 1 ∷ []) 3
    ∷ result (0 ∷ 1 ∷ 1 ∷ 1 ∷ 1 ∷ 0 ∷ 2 ∷ 65535 ∷ 65535 ∷ 1 ∷ []) (1 ∷ 1 ∷ 1 ∷ 1 ∷ []) 4
    ∷ []

-- each example has the rows and the kept entries that are stated
abbrev pub RowsWorked : Type 0
RowsWorked = map result_of examples ≡ results

-- the types of the third example are ranked and laid out in chains, and no two of its links are the same
abbrev pub FourLaidOut : Type 0
FourLaidOut =
    Ranked 4 four (0 ∷ 1 ∷ 3 ∷ 2 ∷ []) (0 ∷ 1 ∷ 3 ∷ 2 ∷ [])
    × Chained 4 four (0 ∷ 0 ∷ 0 ∷ 1 ∷ []) (0 ∷ 1 ∷ 2 ∷ 0 ∷ []) 2
    × Different four
