-- The lengths of the tables of a register.
use Rattle.std.specs.Prelude.{ℕ, vec_len}
use Rattle.register.specs.declared.tables.Tables.{Tables}
use Rattle.register.specs.declared.tables.TableSizes.{TableSizes}

abbrev pub lengths_of : Tables → TableSizes
lengths_of t =
    let n = t.numbered in
    record {
      pool = vec_len t.pool;
      names = vec_len t.names;
      links = vec_len n.links;
      order = vec_len n.order;
      chain = vec_len n.chain;
      position = vec_len n.position;
      kept = vec_len n.kept;
      index = vec_len n.index;
    }

-- the sizes for so many types and links, with a pool and an index of their own sizes
abbrev pub of_counts : ℕ → ℕ → ℕ → ℕ → TableSizes
of_counts types links pool index =
    record { pool = pool; names = types; links = links; order = types; chain = types; position = types; kept = links; index = index }
