-- The tables of the ranking: what they hold after each type that gets a rank.
use Rattle.std.proofs.Common.{◌≡◌, ℕ, ◌+◌, ◌-◌, ◌<◌, ◌≤◌, true, false, not, ◌&&◌, eqb, ◌≢◌, List, [], ◌∷◌, ◌++◌, length, get_or, take, drop, set, Some, None, sym, ap, ◌∙◌, subst, ⊎_elim, arith, length-set}
use Rattle.std.proofs.lemmas.List.{length_push, length-take-le, take_more_set, drop-set-lt, drop-drop, get_or-set_same, get_or-set_other, take_at}
use Rattle.std.proofs.lemmas.List.FromFn.{fill_by_all}
use Rattle.std.proofs.lemmas.Bool.{and_parts, not-true, cases_eq}
use Rattle.descent.specs.declared.link.Link.{Link}
use Rattle.order.specs.Order.{ranked, subtypes_ranked, ready, lowest, extended, order_of}
use Rattle.order.specs.Ranks.{rank_of, ranks_of}
use Rattle.order.specs.Waiting.{waiting_of, links_between}
use Rattle.order.proofs.Lowest.{waits_for_none, lowest_some, lowest_same}
use Rattle.order.proofs.Tallies.{tally, tally_le, tally_none}
use Rattle.order.proofs.Places.{rank_tells, rank_push_same, rank_push_other, tally_push}
use Rattle.order.proofs.Orders.{extended_none, extended_some}
use Rattle.order.proofs.Waits.{subtypes_waiting, waiting_push}

-- what the tables hold once the types of done are ranked
pub record Tables (n : ℕ) (links : List Link) (done rank waiting : List ℕ) : Type 0 where
  pub small : n ≤ 65535
  pub room : length rank ≡ n
  pub counted : tally n (ranked done) ≡ length done
  pub ranks : (u : ℕ) → u < n → get_or rank u 0 ≡ rank_of done u
  pub waits : (u : ℕ) → u < n → get_or waiting u 0 ≡ waiting_of links done u

module _ {n : ℕ} {links : List Link} {done rank waiting : List ℕ} (s : Tables n links done rank waiting) where
  few : length done ≤ n
  few = omega (arith, s.counted, tally_le n (ranked done))

  -- a type is ready exactly where the tables say that it is unranked and waits for none
  ready_table : (u : ℕ) → u < n → waits_for_none rank waiting u ≡ ready links done u
  ready_table u h =
      ap (λ b. b && eqb (get_or waiting u 0) 0) (rank_tells done u (get_or rank u 0) (omega (arith, few, s.small)) (s.ranks u h))
      ∙ ap (λ b. not (ranked done u) && b) (ap (λ m. eqb m 0) (s.waits u h) ∙ sym (subtypes_waiting links done u))

  lowest_table : lowest (waits_for_none rank waiting) 0 n ≡ lowest (ready links done) 0 n
  lowest_table = lowest_same (waits_for_none rank waiting) (ready links done) 0 n (λ t h. ready_table t (omega arith))

  module _ {t : ℕ} (next : Some t ≡ lowest (waits_for_none rank waiting) 0 n) where
    next_ready : (ready links done t ≡ true) × (t < n)
    next_ready = let r = lowest_some (ready links done) 0 n t (sym (next ∙ lowest_table)) in (r.0, omega (arith, r.1))

    next_unranked : ranked done t ≡ false
    next_unranked = not-true _ (and_parts (not (ranked done t)) (subtypes_ranked links done t) next_ready.0).0

    next_room : length done < n
    next_room = omega (arith, tally_push n done t next_ready.1 next_unranked, tally_le n (ranked (done ++ (t ∷ []))), s.counted)

    table_waits : (u : ℕ) → u < n → links_between links t u ≤ get_or waiting u 0
    table_waits u h = omega (arith, s.waits u h, waiting_push links done t u next_unranked)

    next_tables : (after : List ℕ) → ((u : ℕ) → u < n → get_or after u 0 + links_between links t u ≡ get_or waiting u 0)
        → Tables n links (done ++ (t ∷ [])) (set rank t (length done)) after
    next_tables after h = record {
      small = s.small;
      room = omega (arith, s.room, length-set rank t (length done));
      counted = tally_push n done t next_ready.1 next_unranked ∙ ap (λ m. m + 1) s.counted ∙ sym (length_push done t);
      ranks = λ u k.
          ⊎_elim
          (λ (same : u ≡ t).
          let in' : t < length rank = omega (arith, next_ready.1, s.room) in
          ap (λ v. get_or (set rank t (length done)) v 0) same ∙ get_or-set_same rank t (length done) 0 in'
          ∙ sym (rank_push_same done t next_unranked) ∙ ap (rank_of (done ++ (t ∷ []))) (sym same))
          (λ (other : u ≢ t). get_or-set_other rank t u (length done) 0 other ∙ s.ranks u k ∙ sym (rank_push_other done t u other))
          (cases_eq u t);
      waits = λ u k. omega (arith, s.waits u k, waiting_push links done t u next_unranked, h u k);
    }

-- the ranking after r types: they stand at the front of the order, and what is left gives the whole of it
pub record Ranking (n : ℕ) (links : List Link) (order rank waiting : List ℕ) (r : ℕ) : Type 0 where
  pub places : n ≤ length order
  pub count : r ≤ n
  pub tables : Tables n links (take r order) rank waiting
  pub left : extended n links (take r order) (n - r) ≡ order_of n links

-- its start
pub ranking_none : {n : ℕ} {links : List Link} {order rank waiting : List ℕ} → n ≤ 65535 → n ≤ length order → length rank ≡ n
    → ((u : ℕ) → u < n → get_or rank u 0 ≡ 65535) → ((u : ℕ) → u < n → get_or waiting u 0 ≡ waiting_of links [] u) → Ranking n links order rank waiting 0
ranking_none {n} {links} small places room ranks waits =
    let z : n - 0 ≡ n = omega arith in
    record {
      places = places;
      count = omega arith;
      tables = record { small = small; room = room; counted = tally_none n; ranks = ranks; waits = waits };
      left = ap (extended n links []) z;
    }

module _ {n : ℕ} {links : List Link} {order rank waiting : List ℕ} {r : ℕ} (s : Ranking n links order rank waiting r) where
  long : length (take r order) ≡ r
  long = length-take-le r order (omega (arith, s.places, s.count))

  -- one type more
  module _ {t : ℕ} (next : Some t ≡ lowest (waits_for_none rank waiting) 0 n) where
    pub next_place : r < n
    next_place = omega (arith, next_room s.tables next, long)

    pub next_type_lem : t < n
    next_type_lem = (next_ready s.tables next).1

    pub next_waits : (u : ℕ) → u < n → links_between links t u ≤ get_or waiting u 0
    next_waits = table_waits s.tables next

    pub next_ranking : {after : List ℕ} → ((u : ℕ) → u < n → get_or after u 0 + links_between links t u ≡ get_or waiting u 0)
        → Ranking n links (set order r t) (set rank t r) after (r + 1)
    next_ranking {after} h =
        let grows : take (r + 1) (set order r t) ≡ take r order ++ (t ∷ []) = take_more_set order r t (omega (arith, next_place, s.places)) in
        record {
          places = omega (arith, s.places, length-set order r t);
          count = omega (arith, next_place);
          tables =
              subst (λ (m : ℕ). Tables n links (take (r + 1) (set order r t)) (set rank t m) after) long
              (subst (λ (d : List ℕ). Tables n links d (set rank t (length (take r order))) after) (sym grows)
              (next_tables s.tables next after h));
          left =
              ap (λ d. extended n links d (n - (r + 1))) grows
              ∙ extended_some n links (take r order) r t next_place (sym (next ∙ lowest_table s.tables)) ∙ s.left;
        }

  -- its end: no type is ready, and the front is the order
  module _ (none : None ≡ lowest (waits_for_none rank waiting) 0 n) where
    pub end_order : take r order ≡ order_of n links
    end_order = sym (extended_none n links (take r order) (sym (none ∙ lowest_table s.tables)) (n - r)) ∙ s.left

    pub end_count : r ≡ length (order_of n links)
    end_count = sym long ∙ ap length end_order

  -- the same where each type has its place
  pub whole_order : n ≤ r → take r order ≡ order_of n links
  whole_order h = let z : n - r ≡ 0 = omega arith in sym (ap (extended n links (take r order)) z) ∙ s.left

  -- then the table holds the ranks
  pub end_ranks : take r order ≡ order_of n links → (rest : List ℕ) → take n (rank ++ rest) ≡ ranks_of n links
  end_ranks e rest =
      take_at rank rest n s.tables.room
      ∙ fill_by_all (rank_of (order_of n links)) rank n 0 s.tables.room (λ k l. s.tables.ranks k l ∙ ap (λ d. rank_of d k) e)

-- a write at the next place leaves the places past it
pub rest_more : (order first : List ℕ) (r t : ℕ) → drop r order ≡ drop r first → drop (r + 1) (set order r t) ≡ drop (r + 1) first
rest_more order first r t e =
    let h : r < r + 1 = omega arith in
    drop-set-lt (r + 1) order r t h ∙ sym (drop-drop 1 r order) ∙ ap (drop 1) e ∙ drop-drop 1 r first
