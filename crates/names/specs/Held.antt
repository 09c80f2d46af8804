-- What a value of `Names` holds.
use Rattle.std.specs.Prelude.{◌≡◌, ℕ, ◌≤◌, List, length, vec_items, vec_len}
use Rattle.names.specs.declared.names.Names.{Names}
use Rattle.names.specs.Limits.{most_types, most_bytes}
use Rattle.names.specs.Tables.{bytes_of, names_at, pool_of, spans_of, Different}

-- its names, in the order of their numbers: the part of the pool that each entry of the name table marks
abbrev pub names_in : Names → List (List ℕ)
names_in n = names_at (vec_items n.pool) (vec_items n.spans) n.count

-- how many bytes its pool has
abbrev pub pool_size : Names → ℕ
pool_size n = vec_len n.pool

-- how many entries its name table has
abbrev pub table_size : Names → ℕ
table_size n = vec_len n.spans

-- it holds exactly these names, which are different and within the limits, in a pool of `size` bytes and a name table of `places` entries
pub record Holds (names : List (List ℕ)) (size places : ℕ) (n : Names) : Type 0 where
  pub read : names_in n ≡ names
  pub pool : vec_items n.pool ≡ pool_of names size
  pub table : vec_items n.spans ≡ spans_of names places
  pub pool_size_is : pool_size n ≡ size
  pub table_size_is : table_size n ≡ places
  pub count : n.count ≡ length names
  pub used : n.used ≡ length (bytes_of names)
  pub few_types : (length names ≤ places) × (length names ≤ most_types)
  pub few_bytes : (length (bytes_of names) ≤ size) × (length (bytes_of names) ≤ most_bytes)
  pub different : Different names
