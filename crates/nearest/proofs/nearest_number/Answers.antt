use Rattle.std.proofs.Common.{◌≡◌, ℕ, ◌<◌, ◌≤◌, true, List, length, get_or, is_some, Some, None, Option, sym, refl, ap, ◌∙◌, subst, arith}
use Rattle.std.proofs.lemmas.Bool.{false≢true}
use Rattle.descent.specs.declared.link.Link.{Link}
use Rattle.descent.specs.Layers.{Gated}
use Rattle.descent.specs.Links.{Descends}
use Rattle.descent.specs.Nearests.{Nearest}
use Rattle.hierarchy.specs.declared.book.Hierarchy.{Hierarchy}
use Rattle.hierarchy.specs.Books.{book_of}
use Rattle.hierarchy.specs.Entering.{links_in}
use Rattle.hierarchy.specs.Indexes.{types_of, indexed_types}
use Rattle.register.specs.declared.register.Register.{Register}
use Rattle.register.specs.Contents.{contents_of}
use Rattle.register.proofs.Backing.{links_within, register_answers}
use Rattle.nearest.specs.ByNames.{nearest_of}
use Rattle.nearest.proofs.Gating.{Ordered, ordered, order_below, order_once, nearest_through}
use Rattle.nearest.proofs.nearest_number.Goals as goal

settled_order : (r : Register) → is_some (contents_of r).settled ≡ true → Ordered (length (contents_of r).entries.names) (contents_of r).entries.links (contents_of r).written.order
settled_order r s = let c = contents_of r in ordered c.settled (length c.entries.names) c.entries.links c.written.order c.written.chain c.written.position c.written.kept c.written.index s (register_answers r)

types_few : (r : Register) → length (contents_of r).entries.names ≤ 1024
types_few r = omega (arith, r.named, r.numbered.entered.few_types.1)

settled_types : (settled : Option ℕ) (types : ℕ) → is_some settled ≡ true → types_of settled types ≡ types
settled_types (Some chains) types s = refl
settled_types None types s = absurd (false≢true s)

-- an order table that holds the whole order, by what was read of the register
read_order : (r : Register) (book : Hierarchy) (types : ℕ) (table : List ℕ) → is_some (contents_of r).settled ≡ true → book ≡ r.numbered → types ≡ (book_of book).held.types → table ≡ (book_of book).written.order
    → (types ≡ length (contents_of r).entries.names) × Ordered types (contents_of r).entries.links table
read_order r book types table s e t o =
    let n : types ≡ length (contents_of r).entries.names = t ∙ ap (λ (b : Hierarchy). (book_of b).held.types) e ∙ r.named in
    let w : table ≡ (contents_of r).written.order = o ∙ ap (λ (b : Hierarchy). (book_of b).written.order) e in
    (n, subst (λ (k : ℕ). Ordered k (contents_of r).entries.links table) (sym n) (subst (Ordered (length (contents_of r).entries.names) (contents_of r).entries.links) (sym w) (settled_order r s)))

pub fill_ranks-requires-clause-below : goal.fill_ranks-requires-clause-below
fill_ranks-requires-clause-below c k h =
    let r = c.args.register.now in
    let o = read_order r c.numbered-book.result.now c.types.result c.order.result.now c.requires.settled c.numbered-book.ensures c.types.ensures c.order.ensures in
    omega (arith, order_below c.types.result (contents_of r).entries.links c.order.result.now o.1 k h, o.0, types_few r)

pub fill_ranks-requires-clause-once : goal.fill_ranks-requires-clause-once
fill_ranks-requires-clause-once c =
    let r = c.args.register.now in
    let o = read_order r c.numbered-book.result.now c.types.result c.order.result.now c.requires.settled c.numbered-book.ensures c.types.ensures c.order.ensures in
    order_once c.types.result (contents_of r).entries.links c.order.result.now o.1

-- what was found through a gate of the ranks is the nearest common base
found_is : (r : Register) (book : Hierarchy) (types indexed : ℕ) (links : List Link) (table levels : List ℕ) (a b : ℕ) (found : Option ℕ)
    → is_some (contents_of r).settled ≡ true → book ≡ r.numbered → types ≡ (book_of book).held.types → table ≡ (book_of book).written.order
    → indexed ≡ indexed_types (book_of book) → links ≡ links_in (book_of book).held
    → ((k : ℕ) → k < types → get_or levels (get_or table k 0) 0 ≡ k) → a < length (contents_of r).entries.names → b < length (contents_of r).entries.names
    → Nearest indexed (Gated levels (Descends links)) a b found → found ≡ nearest_of (contents_of r).entries a b
found_is r book types indexed links table levels a b found s e t o i l ranks first second h =
    let n = length (contents_of r).entries.names in
    let own = (contents_of r).entries.links in
    let d = read_order r book types table s e t o in
    let ordered-by : Ordered n own table = subst (λ (k : ℕ). Ordered k own table) d.0 d.1 in
    let ranked : (k : ℕ) → k < n → get_or levels (get_or table k 0) 0 ≡ k = subst (λ (m : ℕ). (k : ℕ) → k < m → get_or levels (get_or table k 0) 0 ≡ k) d.0 ranks in
    let all : indexed ≡ n = i ∙ ap (λ (x : Hierarchy). indexed_types (book_of x)) e ∙ settled_types (contents_of r).settled (book_of r.numbered).held.types s ∙ r.named in
    let same : links ≡ own = l ∙ ap (λ (x : Hierarchy). links_in (book_of x).held) e in
    nearest_through n own table ordered-by levels (links_within r) ranked a b first second found
    (subst (λ (k : ℕ). Nearest k (Gated levels (Descends own)) a b found) all (subst (λ (x : List Link). Nearest indexed (Gated levels (Descends x)) a b found) same h))

pub returns : goal.returns
returns c =
    found_is c.args.register.now c.numbered-book.result.now c.types.result c.chain_index.result.types c.chain_index.result.links.now c.order.result.now c.fill_ranks.new.ranks c.args.a c.args.b c.nearest_gated.result
    c.requires.settled c.numbered-book.ensures c.types.ensures c.order.ensures c.chain_index.ensures.types c.chain_index.ensures.links c.fill_ranks.ensures c.requires.first c.requires.second c.nearest_gated.ensures
