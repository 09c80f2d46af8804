-- Tables of the program's sizes are never too short for what its register holds.
use Rattle.std.proofs.Common.{◌≡◌, ℕ, zero, suc, ◌*◌, ◌<◌, ◌≤◌, Bool, true, false, cond, ◌||◌, eqb, ltb, List, length, get_or, sym, ap, ◌∙◌, ⊎_elim, mul-le-mul, arith}
use Rattle.std.proofs.lemmas.List.{length-take}
use Rattle.std.proofs.lemmas.Bool.{cond-true, cond-false, eq-eqb, ne_eqb, le-ltb, cases_eq, false≢true}
use Rattle.descent.specs.declared.link.Link.{Link}
use Rattle.order.specs.Order.{order_of}
use Rattle.order.specs.Ranks.{ranks_of}
use Rattle.chains.specs.Chains.{Chained}
use Rattle.chains.specs.Meaning.{ByChainOrder, JoinedFrom}
use Rattle.chains.specs.ChainOrders.{chain_order_meaning}
use Rattle.chains.specs.Renumbering.{joining_decomposes}
use Rattle.settling.specs.Settling.{Tables, short, NeedsIndex}
use Rattle.hierarchy.specs.SettledBooks.{Sizes, tables_of}
use Rattle.hierarchy.specs.Books.{book_of}
use Rattle.hierarchy.proofs.SettledTables.{order_ranked}
use Rattle.register.specs.declared.register.Register.{Register}
use Rattle.register.specs.Contents.{contents_of}
use Rattle.register.specs.Places.{Room}
use Rattle.register.proofs.Backing.{links_few, links_within}
use Rattle.program.specs.NewTables.{OverTables}

-- numbers below m that are all values at the numbers below n are no more than those
pub onto_fits : (n m : ℕ) (value : ℕ → ℕ) → ((c : ℕ) → c < m → (t : ℕ) × (t < n) × (value t ≡ c)) → m ≤ n
onto_fits zero zero value onto = omega arith
onto_fits zero (suc m) value onto = let z : ⊥ = omega (arith, (onto 0 (omega arith)).1) in absurd z
onto_fits (suc n) zero value onto = omega arith
onto_fits (suc n) (suc m) value onto =
    let less = onto_fits n m (λ t. cond (eqb (value t) m) (value n) (value t)) step in omega (arith, less)
  where
    -- a number is the value at another place than n, or at n: then the place of the highest takes it over
    step : (c : ℕ) → c < m → (t : ℕ) × (t < n) × (cond (eqb (value t) m) (value n) (value t) ≡ c)
    step c h =
        let here = onto c (omega arith) in
        let top = onto m (omega arith) in
        ⊎_elim
        (λ (last : here.0 ≡ n).
        let other : top.0 ≡ n → ⊥ = λ e. omega (arith, top.2, here.2, ap value e, ap value last) in
        (top.0, omega (arith, top.1, other), cond-true _ _ _ (eq-eqb (value top.0) m top.2) ∙ ap value (sym last) ∙ here.2))
        (λ (other : here.0 ≡ n → ⊥).
        (here.0, omega (arith, here.1, other), cond-false _ _ _ (ne_eqb (value here.0) m (λ e. omega (arith, here.2, e))) ∙ here.2))
        (cases_eq here.0 n)

chains_fit : (n : ℕ) (links : List Link) (chains positions : List ℕ) (count : ℕ) → Chained n links chains positions count → count ≤ n
chains_fit n links chains positions count chained = onto_fits n count (λ t. get_or chains t 0) (λ c h. let b = chained.begins c h in (b.0, b.1, b.2))

types_few : (r : Register) → OverTables (contents_of r) → length (contents_of r).entries.names ≤ 128
types_few r over = let names : (contents_of r).room.names ≡ 128 = ap (λ (x : Room). x.names) over.room in omega (arith, names, r.named, r.room, r.numbered.entered.few_types.0)

neither : (a b : Bool) → a ≡ false → b ≡ false → (a || b) ≡ false
neither true b e f = absurd (false≢true (sym e))
neither false b e f = f

roomy : (n links : ℕ) (t : Tables) → n ≤ 128 → links ≤ 512 → length t.order ≡ 128 → length t.chain ≡ 128 → length t.position ≡ 128 → length t.loop ≡ 128 → length t.scratch ≡ 512 → length t.kept ≡ 512
    → short n links t ≡ false
roomy n links t few few_links o c p l s k =
    neither (ltb (length t.order) n) _ (le-ltb (length t.order) n (omega arith))
    (neither (ltb (length t.chain) n) _ (le-ltb (length t.chain) n (omega arith))
    (neither (ltb (length t.position) n) _ (le-ltb (length t.position) n (omega arith))
    (neither (ltb (length t.loop) n) _ (le-ltb (length t.loop) n (omega arith))
    (neither (ltb (length t.scratch) (4 * n)) (ltb (length t.kept) links) (le-ltb (length t.scratch) (4 * n) (omega arith)) (le-ltb (length t.kept) links (omega arith))))))

pub tables_suffice : (r : Register) (loop scratch : List ℕ) → OverTables (contents_of r) → length loop ≡ 128 → length scratch ≡ 512
    → short (length (contents_of r).entries.names) (length (contents_of r).entries.links) (tables_of (contents_of r).written loop scratch) ≡ true → ⊥
tables_suffice r loop scratch over l s e =
    let c = contents_of r in
    let w = over.written in
    let links : c.room.links ≡ 512 = ap (λ (x : Room). x.links) over.room in
    let few : length c.entries.links ≤ 512 = omega (arith, links, links_few r, length-take (book_of r.numbered).held.count (book_of r.numbered).held.table) in
    let room = roomy (length c.entries.names) (length c.entries.links) (tables_of c.written loop scratch) (types_few r over) few
    (ap (λ (x : Sizes). x.order) w) (ap (λ (x : Sizes). x.chain) w) (ap (λ (x : Sizes). x.position) w) l s (ap (λ (x : Sizes). x.kept) w) in
    false≢true (sym room ∙ e)

-- the index has a row for each type, of an entry for each chain
pub index_suffices : (r : Register) (loop scratch : List ℕ) (needed : ℕ) (after : Tables) → OverTables (contents_of r)
    → NeedsIndex (JoinedFrom ByChainOrder) (length (contents_of r).entries.names) (contents_of r).entries.links (tables_of (contents_of r).written loop scratch) needed after → ⊥
index_suffices r loop scratch needed after over x =
    let c = contents_of r in
    let n = length c.entries.names in
    let small : n ≤ 128 = types_few r over in
    let size : length c.written.index ≡ 16384 = ap (λ (s : Sizes). s.index) over.written in
    let ranked = order_ranked n c.entries.links (omega arith) (links_within r) x.ranked in
    let chained = joining_decomposes ByChainOrder chain_order_meaning n c.entries.links (order_of n c.entries.links) (ranks_of n c.entries.links) x.chains x.positions x.count (omega arith) ranked x.given in
    let few = chains_fit n c.entries.links x.chains x.positions x.count chained in
    let narrow : x.count ≤ 128 = omega (arith, few, small) in
    let product : n * x.count ≤ 128 * 128 = mul-le-mul small narrow in
    omega (arith, product, x.needs, x.lacks, size)
