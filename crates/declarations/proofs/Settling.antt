-- A settle, as an event of a history.
use Rattle.std.proofs.Common.{◌≡◌, ℕ, ◌*◌, ◌≤◌, Bool, true, false, ◌||◌, ltb, List, [], ◌++◌, length, take, Some, Ok, Err, Result, sym, refl, ap, ◌∙◌, subst, arith}
use Rattle.std.proofs.lemmas.List.{take_at, length-take-le, length-map}
use Rattle.std.proofs.lemmas.Bool.{ltb-false, true≢false}
use Rattle.descent.specs.declared.link.Link.{Link}
use Rattle.descent.specs.Links.{Within}
use Rattle.descent.specs.Loops.{LoopFree}
use Rattle.descent.specs.Trims.{ones}
use Rattle.order.specs.Order.{order_of}
use Rattle.order.specs.Ranks.{ranks_of}
use Rattle.order.proofs.WholeOrders.{unranked_where_loop}
use Rattle.chains.specs.Chains.{Chained}
use Rattle.chains.specs.Meaning.{Decomposes}
use Rattle.chains.specs.Places.{Places, places}
use Rattle.rows.specs.KeptEntries.{kept_of, kept_count, Different}
use Rattle.rows.proofs.Fewness.{kept_few}
use Rattle.settling.specs.declared.outcome.Settled.{Settled}
use Rattle.settling.specs.declared.outcome.Unsettled.{Unsettled}
use Rattle.settling.specs.declared.outcome.Unsettled.TheVariants.{ShortTable, Loop as LoopFound, ShortIndex}
use Rattle.settling.specs.Settling.{Giving, Tables, short}
use Rattle.hierarchy.specs.Books.{Written}
use Rattle.hierarchy.specs.SettledBooks.{settled_by, sizes_of, tables_of}
use Rattle.hierarchy.proofs.SettledTables.{order_ranked}
use Rattle.register.specs.Entries.{Entries}
use Rattle.register.specs.Contents.{Contents}
use Rattle.register.specs.Settling.{Settles}
use Rattle.declarations.specs.Marks.{aside_of}
use Rattle.declarations.specs.Books.{State, with_contents}
use Rattle.declarations.specs.Histories.{settles, moment, step, SettlesRight, SettleRight}
use Rattle.declarations.specs.Telling.{setup_of, kept_by, moment_of, places_in, entries_in, GivenBy, Goes, SettleGoes}
use Rattle.declarations.proofs.Going.{goes_by}

-- what every book's entries keep
pub record Fit (e : Entries) : Type 0 where
  pub small : length e.names ≤ 1024
  pub within : Within e.links (length e.names)
  pub different : Different e.links

or_false : (x y : Bool) → (x || y) ≡ false → (x ≡ false) × (y ≡ false)
or_false true y e = absurd (true≢false e)
or_false false y e = (refl, e)

-- the loop table has a place for each type
loop_room : (n links : ℕ) (t : Tables) → short n links t ≡ false → n ≤ length t.loop
loop_room n links t e =
    let a = or_false (ltb (length t.order) n) _ e in
    let b = or_false (ltb (length t.chain) n) _ a.1 in
    let c = or_false (ltb (length t.position) n) _ b.1 in
    let d = or_false (ltb (length t.loop) n) _ c.1 in
    ltb-false (length t.loop) n d.0

kept_front : (links : List Link) (kept rest : List ℕ) → kept ≡ kept_of links ++ rest → take (length links) kept ≡ kept_of links
kept_front links kept rest e = ap (take (length links)) e ∙ take_at (kept_of links) rest (length links) (length-map links _)

same_settled : {t t' l l' c c' k k' : ℕ} → t ≡ t' → l ≡ l' → c ≡ c' → k ≡ k' → ◌≡◌ {A = Settled} (record { types = t; links = l; chains = c; kept = k }) (record { types = t'; links = l'; chains = c'; kept = k' })
same_settled e f g h = λ i. record { types = e i; links = f i; chains = g i; kept = h i }

-- what a settle leaves: all but the tables that it writes and whether it is settled
module _ (Gives : Giving) (meaning : Decomposes Gives) (s : State) (after : Contents) (fit : Fit s.contents.entries) (loop scratch loop' scratch' : List ℕ) (wide : length loop' ≡ length loop) where
  free_of_loops : length (order_of (length s.contents.entries.names) s.contents.entries.links) ≡ length s.contents.entries.names → LoopFree s.contents.entries.links
  free_of_loops whole = unranked_where_loop.whole_loop_free (length s.contents.entries.names) s.contents.entries.links fit.within whole

  laid_out : (given : Places) → length (order_of (length s.contents.entries.names) s.contents.entries.links) ≡ length s.contents.entries.names
      → Gives (length s.contents.entries.names) s.contents.entries.links (order_of (length s.contents.entries.names) s.contents.entries.links) given.chains given.positions given.count
      → Chained (length s.contents.entries.names) s.contents.entries.links given.chains given.positions given.count
  laid_out given whole gives =
      let n = length s.contents.entries.names in
      let links = s.contents.entries.links in
      meaning n links (order_of n links) (ranks_of n links) given.chains given.positions given.count fit.small (order_ranked n links fit.small fit.within whole) gives

  -- the setup stays
  setup_same : (r : Result Settled Unsettled) → Settles Gives s.contents loop scratch r after loop' scratch' → setup_of (with_contents s after) ≡ setup_of s
  setup_same r h =
      ap (λ (c : Contents). record { number = c.number; room = c.room; sizes = sizes_of after.written }) h.same ∙ ap (λ k. record { number = s.contents.number; room = s.contents.room; sizes = k }) h.sizes

  -- the moment, but for what was kept
  moment_by : (r : Result Settled Unsettled) → Settles Gives s.contents loop scratch r after loop' scratch'
      → moment_of (with_contents s after) ≡ moment s.contents.entries (aside_of s.mark s.contents.entries) s.opened (kept_by (settled_by r s.contents.settled) (take (length s.contents.entries.links) after.written.kept))
  moment_by r h = ap (λ (c : Contents). moment c.entries (aside_of s.mark c.entries) s.opened (kept_by c.settled (take (length c.entries.links) after.written.kept))) h.same

  entries_same : (r : Result Settled Unsettled) → Settles Gives s.contents loop scratch r after loop' scratch' → after.entries ≡ s.contents.entries
  entries_same r h = ap (λ (c : Contents). c.entries) h.same

  -- accepted
  accepted : (n : Settled) → Settles Gives s.contents loop scratch (Ok n) after loop' scratch' → GivenBy Gives s.contents.entries (places_in after n.chains) (Ok n) × Goes s (settles (length loop) (length scratch) (places_in after n.chains) (entries_in after) (Ok n)) (with_contents s after)
  accepted n h =
      let e = s.contents.entries in
      let t = h.tables.1 in
      let same = entries_same (Ok n) h in
      let given = places n.chains (take (length e.names) after.written.chain) (take (length e.names) after.written.position) in
      let kept : take (length e.links) after.written.kept ≡ kept_of e.links = kept_front e.links after.written.kept _ t.kept in
      let chained = laid_out given t.ranked t.given in
      let few : kept_count e.links ≤ n.chains * length e.names = kept_few.few (length e.names) e.links (order_of (length e.names) e.links) (ranks_of (length e.names) e.links) given.chains given.positions n.chains (order_ranked (length e.names) e.links fit.small fit.within t.ranked) chained fit.different in
      let right : SettlesRight (sizes_of s.contents.written) (length e.names) e.links given (take (length e.links) after.written.kept) n = record {
        loop_free = free_of_loops t.ranked;
        chained = chained;
        fits = t.fits;
        answer = same_settled t.types t.links_count refl t.kept_count_is;
        entries = kept;
        few = subst (λ m. m ≤ n.chains * n.types) (sym t.kept_count_is) (subst (λ m. kept_count e.links ≤ n.chains * m) (sym t.types) few);
      } in
      let R : Entries → Type 0 = λ x. SettleRight (sizes_of s.contents.written) e (length loop) (length scratch) (places n.chains (take (length x.names) after.written.chain) (take (length x.names) after.written.position)) (take (length x.links) after.written.kept) (Ok n) in
      let S : Entries → Type 0 = λ x. moment_of (with_contents s after) ≡ step (settles (length loop) (length scratch) (places n.chains (take (length x.names) after.written.chain) (take (length x.names) after.written.position)) (take (length x.links) after.written.kept) (Ok n)) (moment_of s) in
      let G : Entries → Type 0 = λ x. GivenBy Gives e (places n.chains (take (length x.names) after.written.chain) (take (length x.names) after.written.position)) (Ok n) in (
        subst G (sym same) t.given,
        goes_by s (with_contents s after) (settles (length loop) (length scratch) (places_in after n.chains) (entries_in after) (Ok n)) (setup_same (Ok n) h)
            (subst S (sym same) (moment_by (Ok n) h ∙ ap (λ k. moment e (aside_of s.mark e) s.opened (Some (record { entries = take (length e.links) after.written.kept; number = k }))) (ap ones kept ∙ sym t.kept_count_is)))
            (subst R (sym same) (h.tables.0, right)),
      )

  -- refused
  refused : (x : Unsettled) → Settles Gives s.contents loop scratch (Err x) after loop' scratch' → (given : Places) × GivenBy Gives s.contents.entries given (Err x) × Goes s (settles (length loop) (length scratch) given [] (Err x)) (with_contents s after)
  refused ShortTable h =
      let w : after.written ≡ s.contents.written = ap (λ (t : Tables). record { order = t.order; chain = t.chain; position = t.position; kept = t.kept; index = t.index }) h.tables.1 in
      let e = s.contents.entries in (
        places 0 [] [],
        tt,
        goes_by s (with_contents s after) (settles (length loop) (length scratch) (places 0 [] []) [] (Err ShortTable)) (setup_same (Err ShortTable) h)
            (moment_by (Err ShortTable) h ∙ ap (λ (w : Written). moment e (aside_of s.mark e) s.opened (kept_by s.contents.settled (take (length e.links) w.kept))) w)
            h.tables.0,
      )
  refused (LoopFound size) h =
      let t = h.tables.1 in
      let e = s.contents.entries in
      let room = loop_room (length e.names) (length e.links) (tables_of s.contents.written loop scratch) h.tables.0 in (
        places 0 [] [],
        tt,
        goes_by s (with_contents s after) (settles (length loop) (length scratch) (places 0 [] []) [] (Err (LoopFound size))) (setup_same (Err (LoopFound size)) h)
            (moment_by (Err (LoopFound size)) h)
            (h.tables.0, (take size loop', t.written, length-take-le size loop' (omega (arith, t.bound, wide, room)))),
      )
  refused (ShortIndex needed) h =
      let t = h.tables.1 in
      let given = places t.count t.chains t.positions in (
        given,
        t.given,
        goes_by s (with_contents s after) (settles (length loop) (length scratch) given [] (Err (ShortIndex needed))) (setup_same (Err (ShortIndex needed)) h)
            (moment_by (Err (ShortIndex needed)) h)
            (h.tables.0, record { loop_free = free_of_loops t.ranked; chained = laid_out given t.ranked t.given; needs = t.needs; lacks = t.lacks }),
      )

  pub settle_goes : (r : Result Settled Unsettled) → Settles Gives s.contents loop scratch r after loop' scratch' → SettleGoes Gives s (length loop) (length scratch) r (with_contents s after)
  settle_goes (Ok n) h = accepted n h
  settle_goes (Err x) h = refused x h
