-- A layout of types in chains: what it holds.
use Rattle.std.specs.Prelude.{ℕ, ◌*◌, List, slice_index, slice_index_or}
use Rattle.descent.specs.declared.link.Link.{Link}
use Rattle.descent.specs.Links.{no_link}
use Rattle.rows.specs.declared.layout.Layout.{Layout}
use Rattle.rows.specs.Rows.{rows_of}

abbrev pub links_in : Layout → List Link
links_in layout = layout.links.now

-- the ends of link i, and the rank of a type
abbrev pub from_of : Layout → ℕ → ℕ
from_of layout i = (slice_index_or (links_in layout) i no_link).from

abbrev pub to_of : Layout → ℕ → ℕ
to_of layout i = (slice_index_or (links_in layout) i no_link).to

abbrev pub rank_in : Layout → ℕ → ℕ
rank_in layout t = slice_index layout.rank.now t

-- the rows of the types, and the number of their places
abbrev pub rows_in : Layout → List ℕ
rows_in layout = rows_of layout.types (links_in layout) layout.chain.now layout.position.now layout.chains

abbrev pub row_places : Layout → ℕ
row_places layout = layout.types * layout.chains
