-- The tables of what is entered: the names and links at their front, and 0 in the rest.
use Rattle.std.specs.Prelude.{◌≡◌, vec_items}
use Rattle.descent.specs.Links.{no_link}
use Rattle.hierarchy.specs.Books.{book_of}
use Rattle.names.specs.Tables.{padded, pool_of, spans_of}
use Rattle.register.specs.declared.register.Register.{Register}
use Rattle.register.specs.Contents.{contents_of}

pub record HoldsEntries (r : Register) : Type 0 where
  pub pool : vec_items r.names.pool ≡ pool_of (contents_of r).entries.names (contents_of r).room.pool
  pub names : vec_items r.names.spans ≡ spans_of (contents_of r).entries.names (contents_of r).room.names
  pub links : (book_of r.numbered).held.table ≡ padded no_link (contents_of r).room.links (contents_of r).entries.links

-- whatever calls were made, the three tables are determined by their lengths and by what is entered
abbrev pub TablesHoldExactlyTheEntries : Type 0
TablesHoldExactlyTheEntries = (r : Register) → HoldsEntries r
