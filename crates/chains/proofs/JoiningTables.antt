-- The tables while chains are joined: their start, each turn, and their end.
use Rattle.std.proofs.Common.{◌≡◌, ℕ, ◌+◌, ◌-◌, ◌<◌, ◌≤◌, true, cond, List, map, length, get_or, set, Some, None, sym, refl, ap, ◌∙◌, subst, ⊎_elim, arith}
use Rattle.std.specs.List.{range_with_len}
use Rattle.std.proofs.lemmas.List.FromFn.{fill_by_all, get_or-map-range_with_len, length-map-range_with_len}
use Rattle.std.proofs.lemmas.Bool.{cases_Bool, eq-eqb, ne_eqb, not_from_true, not_from_false}
use Rattle.descent.specs.declared.link.Link.{Link}
use Rattle.descent.specs.Computed.{descends}
use Rattle.order.specs.Order.{lowest}
use Rattle.chains.specs.Chains.{Chained}
use Rattle.chains.specs.Counting.{passing}
use Rattle.chains.specs.Ends.{no_type, Strung, Stands, Bare, Ends, has_last, is_host}
use Rattle.chains.specs.Joining.{chain_of, put_behind, turns, stands, renumbered}
use Rattle.chains.specs.Places.{Places, places}
use Rattle.chains.specs.Counts.{passing_same}
use Rattle.chains.proofs.Lines.{same_places}
use Rattle.chains.specs.Renumbering.{decides_stands}
use Rattle.chains.specs.Strung.{after_strung}
use Rattle.chains.proofs.Turns.{AtTurn, turn_none, turn_some, host_below, host_joins, turn_ends, turn_standing, turns_more}

-- ---- the start: each chain stands
module _ {n : ℕ} {links : List Link} {chains positions : List ℕ} {count : ℕ} (c : Chained n links chains positions count) where
  -- the table of first types has a type on each chain
  pub firsts_on : (first : List ℕ) → ((t : ℕ) → t < n → get_or positions t 0 ≡ 0 → get_or first (get_or chains t 0) 0 ≡ t)
      → (d : ℕ) → d < count → (get_or first d 0 < n) × (get_or chains (get_or first d 0) 0 ≡ d) × (get_or positions (get_or first d 0) 0 ≡ 0)
  firsts_on first firsts d h =
      let b = c.begins d h in
      let e : get_or first d 0 ≡ b.0 = ap (λ x. get_or first x 0) (sym b.2) ∙ firsts b.0 b.1 b.3 in
      (subst (λ (x : ℕ). x < n) (sym e) b.1, ap (λ x. get_or chains x 0) e ∙ b.2, ap (λ x. get_or positions x 0) e ∙ b.3)

  pub all_stand : (first last : List ℕ) → ((t : ℕ) → t < n → get_or positions t 0 ≡ 0 → get_or first (get_or chains t 0) 0 ≡ t)
      → ((d : ℕ) → d < count → (get_or last d 0 < n) × (get_or chains (get_or last d 0) 0 ≡ d))
      → ((t : ℕ) → t < n → get_or positions t 0 ≤ get_or positions (get_or last (get_or chains t 0) 0) 0)
      → (d : ℕ) → d < count → Stands n (places count chains positions) d (get_or first d 0) (get_or last d 0)
  all_stand first last firsts lasts tops d h =
      let f = firsts_on first firsts d h in
      let l = lasts d h in
      record {
        first_below = f.0;
        first_type = record { here = f.1; start = f.2 };
        last_below = l.0;
        last_type = record { here = l.1; top = λ u k e. subst (λ (x : ℕ). get_or positions u 0 ≤ get_or positions (get_or last x 0) 0) e (tops u k) };
      }

-- ---- before the turn of chain c
pub record Turning (n : ℕ) (links : List Link) (start : Places) (count : ℕ) (chains positions first last : List ℕ) (c : ℕ) : Type 0 where
  pub strung : Strung n links (places count chains positions)
  pub ends : Ends n (places count chains positions) first last
  pub standing : (d : ℕ) → c ≤ d → d < count → Stands n (places count chains positions) d (get_or first d 0) (get_or last d 0)
  pub left : turns n links (places count chains positions) c (count - c) ≡ turns n links start 0 count

module _ {n : ℕ} {links : List Link} {start : Places} {count : ℕ} {chains positions first last : List ℕ} {c : ℕ} (s : Turning n links start count chains positions first last c) (below : c < count) where
  abbrev before : Places
  before = places count chains positions

  -- the marks are made
  pub at_turn : (marks : List ℕ) → n ≤ 1024 → ((x : ℕ) → x < n → get_or marks x 0 ≡ cond (descends links x (get_or first c 0)) 1 0) → AtTurn n links before first last marks c
  at_turn marks small marked = record { small = small; strung = s.strung; ends = s.ends; here = s.standing c (omega arith) below; marked = marked }

  module _ {marks : List ℕ} (a : AtTurn n links before first last marks c) where
    -- the chain that takes it is one, and its last type is a type
    pub turning_host : {d : ℕ} → Some d ≡ lowest (is_host c last marks) 0 count → (d < count) × (get_or last d 0 < n)
    turning_host found = (host_below a found, (host_joins a found).last_below)

    pub turning_skip : None ≡ lowest (is_host c last marks) 0 count → Turning n links start count chains positions first last (c + 1)
    turning_skip e = record {
      strung = s.strung;
      ends = s.ends;
      standing = λ d h k. s.standing d (omega arith) k;
      left = ap (λ x. turns n links x (c + 1) (count - (c + 1))) (sym (turn_none a e)) ∙ turns_more n links before c count below ∙ s.left;
    }

    pub turning_more : {d : ℕ} → Some d ≡ lowest (is_host c last marks) 0 count → count ≤ length last → (chains' positions' : List ℕ)
        → places count chains' positions' ≡ put_behind n before c (Some (get_or last d 0))
        → Turning n links start count chains' positions' first (set (set last d (get_or last c 0)) c no_type) (c + 1)
    turning_more {d} found room chains' positions' e =
        let after = put_behind n before c (Some (get_or last d 0)) in
        let last' = set (set last d (get_or last c 0)) c no_type in
        record {
          strung = subst (Strung n links) (sym e) (after_strung (host_joins a found));
          ends = subst (λ (x : Places). Ends n x first last') (sym e) (turn_ends a found room below);
          standing = λ f h k. subst (λ (x : Places). Stands n x f (get_or first f 0) (get_or last' f 0)) (sym e) (turn_standing a found room below f h k (s.standing f (omega arith) k));
          left = ap (λ x. turns n links x (c + 1) (count - (c + 1))) (e ∙ sym (turn_some a found)) ∙ turns_more n links before c count below ∙ s.left;
        }

-- ---- the end
module _ (n : ℕ) (s : Places) (first last : List ℕ) (small : n ≤ 1024) (ends : Ends n s first last) where
  -- a chain stands where the table has a last type
  stands_table : (d : ℕ) → d < s.count → has_last last d ≡ stands n s d
  stands_table d h =
      ⊎_elim
      (λ (none : (get_or last d 0 ≡ no_type) × Bare n s d).
      not_from_true _ (eq-eqb _ _ none.0)
      ∙ sym (⊎_elim (λ (e : stands n s d ≡ true). let t = (decides_stands n s d).0 e in absurd (none.1 t.0 t.1 t.2)) (λ e. e) (cases_Bool (stands n s d))))
      (λ (here : Stands n s d (get_or first d 0) (get_or last d 0)).
      not_from_false _ (ne_eqb _ _ (λ (e : get_or last d 0 ≡ no_type). omega (arith, here.last_below)))
      ∙ sym ((decides_stands n s d).1 (get_or last d 0, here.last_below, here.last_type.here)))
      (ends d h)

  pub number_table : (d : ℕ) → d ≤ s.count → passing d (has_last last) ≡ passing d (stands n s)
  number_table d h = passing_same d (stands n s) (has_last last) (λ e l. stands_table e (omega arith))

  -- the chain table renumbered
  pub renumbered_table : (count : ℕ) (number chains : List ℕ) → ((t : ℕ) → t < n → chain_of s t < s.count)
      → ((d : ℕ) → d < s.count → get_or number d 0 ≡ passing d (has_last last))
      → count ≡ passing s.count (has_last last)
      → chains ≡ map (λ t. get_or number (chain_of s t) 0) (range_with_len 0 n)
      → places count chains s.positions ≡ renumbered n s
  renumbered_table count number chains below numbers counts e =
      same_places (counts ∙ number_table s.count (omega arith))
      (e
      ∙ fill_by_all (λ t. passing (chain_of s t) (stands n s)) (map (λ t. get_or number (chain_of s t) 0) (range_with_len 0 n)) n 0 (length-map-range_with_len (λ t. get_or number (chain_of s t) 0) 0 n)
      (λ t h. get_or-map-range_with_len (λ t. get_or number (chain_of s t) 0) 0 n t t 0 h (omega arith) ∙ numbers (chain_of s t) (below t h) ∙ number_table (chain_of s t) (omega (arith, below t h))))
      refl
