-- The tables hold what is entered, and 0 in the rest.
use Rattle.std.proofs.Common.{◌≡◌, ℕ, ◌+◌, ◌-◌, ◌<◌, ◌≤◌, List, ◌++◌, length, take, drop, replicate, sym, ap, ◌∙◌, arith, length-drop}
use Rattle.std.proofs.lemmas.List.{same_lists, take-append-drop, length-replicate, length-take-le, get_or-drop, get_or_default, get_or-replicate}
use Rattle.descent.specs.declared.link.Link.{Link}
use Rattle.descent.specs.Links.{no_link}
use Rattle.hierarchy.specs.Tables.{ZeroFrom}
use Rattle.names.specs.Tables.{padded}
use Rattle.register.proofs.Backing.{links_few}
use Rattle.book_meaning.specs.Tables.{TablesHoldExactlyTheEntries}

zero_rest : (table : List Link) (count : ℕ) → count ≤ length table → ZeroFrom count table → drop count table ≡ replicate (length table - count) no_link
zero_rest table count few zeros =
    same_lists (drop count table) (replicate (length table - count) no_link) (length-drop count table ∙ sym (length-replicate (length table - count) no_link))
    (λ k d h.
    let inside : k < length table - count = omega (arith, length-drop count table, h) in
    get_or-drop count table k d ∙ get_or_default table (count + k) d no_link (omega (arith, inside)) ∙ zeros (count + k) (omega arith) ∙ sym (get_or-replicate (length table - count) k no_link d inside))

zeros_padded : (table : List Link) (count : ℕ) → count ≤ length table → ZeroFrom count table → table ≡ padded no_link (length table) (take count table)
zeros_padded table count few zeros =
    sym (take-append-drop count table) ∙ ap (λ ls. take count table ++ ls) (zero_rest table count few zeros ∙ ap (λ n. replicate (length table - n) no_link) (sym (length-take-le count table few)))

pub tables_hold : TablesHoldExactlyTheEntries
tables_hold r = record {
  pool = r.names.whole_pool;
  names = r.names.whole_table;
  links = zeros_padded r.numbered.entered.links.items r.numbered.entered.count (links_few r) r.numbered.entered.zeros;
}
