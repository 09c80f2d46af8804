-- What the order means: ranks that rise, and no loop where all types are ranked.
use Rattle.std.proofs.Common.{◌≡◌, ℕ, ◌<◌, true, not, List, [], ◌∷◌, length, get_or, sym, refl, ap, ◌∙◌, subst, ⊎_elim, arith}
use Rattle.std.proofs.lemmas.Bool.{cases_order, cases_eq, not_from_false, not-true}
use Rattle.descent.specs.declared.link.Link.{Link}
use Rattle.descent.specs.Links.{link, Linked, Within}
use Rattle.descent.specs.Loops.{Rising}
use Rattle.descent.proofs.Ranks.{rising_loop_free, loop_path}
pub use Rattle.descent.proofs.Ranks.{rising_path as path_rises}
use Rattle.order.specs.Order.{ranked, order_of}
use Rattle.order.specs.Ranks.{rank_of}
use Rattle.order.specs.Meaning.{RanksRise, UnrankedWhereLoop, Once, EachTypeOnce}
use Rattle.order.specs.Worked.{SelfLoop}
use Rattle.order.proofs.Tallies.{tally_full}
use Rattle.order.proofs.Places.{ranked-at, at-ranked, ranked_rank}
use Rattle.order.proofs.Orders.{order_sound, order_fits}
use Rattle.order.proofs.Left.{left_has, left_some}
use Rattle.order.proofs.Rounds.{some_loop}

module _ (n : ℕ) (links : List Link) where
  -- the type at a place has that place for its rank
  pub place_rank : (i : ℕ) → i < length (order_of n links) → rank_of (order_of n links) (get_or (order_of n links) i 0) ≡ i
  place_rank i h =
      let order = order_of n links in
      let t = get_or order i 0 in
      let s = order_sound n links in
      let r = ranked_rank order t (at-ranked order i t h refl) in
      ⊎_elim
      (λ e. e)
      (λ d. ⊎_elim (λ lt. absurd (s.apart (rank_of order t) i lt h r.1)) (λ gt. absurd (s.apart i (rank_of order t) gt r.0 (sym r.1))) d)
      (cases_order (rank_of order t) i)

  module _ (whole : length (order_of n links) ≡ n) where
    pub whole_ranked : (t : ℕ) → t < n → ranked (order_of n links) t ≡ true
    whole_ranked = tally_full n (ranked (order_of n links)) ((order_sound n links).counted ∙ whole)

    -- a type's rank is below n, and the type stands at the place of its rank
    pub whole_rank : (t : ℕ) → t < n → (rank_of (order_of n links) t < n) × (get_or (order_of n links) (rank_of (order_of n links) t) 0 ≡ t)
    whole_rank t h = let r = ranked_rank (order_of n links) t (whole_ranked t h) in (omega (arith, r.0), r.1)

    pub whole_once : Once n (order_of n links)
    whole_once = record {
      types = (order_sound n links).below;
      place = λ t h. ranked-at (order_of n links) t (whole_ranked t h);
      only = λ i j h k e. sym (place_rank i h) ∙ ap (rank_of (order_of n links)) e ∙ place_rank j k;
    }

    pub whole_rises : Within links n → Rising links (rank_of (order_of n links))
    whole_rises within a b l =
        let order = order_of n links in
        let below : b < n = subst (λ (x : ℕ). x < n) l.3 (within l.0 l.1).1 in
        let r = ranked_rank order b (whole_ranked b below) in
        let up = (order_sound n links).rises a b (rank_of order b) l r.0 r.1 in
        let j : up.0 < length order = omega (arith, r.0, up.1) in
        let at : rank_of order a ≡ up.0 = ap (rank_of order) (sym up.2) ∙ place_rank up.0 j in
        omega (arith, up.1, at)

pub ranks_rise : RanksRise
ranks_rise = record {
  ranked = λ n links. (order_sound n links).rises;
  whole = λ n links within whole. whole_rises n links whole within;
}

pub unranked_where_loop : UnrankedWhereLoop
unranked_where_loop = record {
  unranked_loop = λ n links within short.
      let left = left_some n links short in
      some_loop n links within (λ t. not (ranked (order_of n links) t))
      (λ t h e. let a = left_has n links short t h (not-true _ e) in (a.0, a.1, not_from_false _ a.2))
      left.0 left.1 (not_from_false _ left.2);
  loop_unranked = λ n links within types l.
      ⊎_elim
      (λ whole. absurd (rising_loop_free links (rank_of (order_of n links)) (whole_rises n links whole within) (get_or types 0 0) (loop_path links types l)))
      (λ apart. omega (arith, order_fits n links))
      (cases_eq (length (order_of n links)) n);
  whole_loop_free = λ n links within whole. rising_loop_free links (rank_of (order_of n links)) (whole_rises n links whole within);
}

pub each_type_once : EachTypeOnce
each_type_once n links whole = whole_once n links whole

pub self_loop : SelfLoop
self_loop t = record {
  some = omega arith;
  different = λ i j h k e. omega arith;
  next = λ i h. let z : ⊥ = omega arith in absurd z;
  back = λ i h. let z : 0 ≡ i = omega arith in subst (λ (k : ℕ). Linked (link t t ∷ []) (get_or (t ∷ []) k 0) t) z (0, omega arith, refl, refl);
}
