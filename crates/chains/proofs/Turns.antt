-- The turn of a chain, by the tables of first and last types and the marks.
use Rattle.std.proofs.Common.{◌≡◌, ℕ, zero, suc, ◌+◌, ◌-◌, ◌<◌, ◌≤◌, Bool, true, false, cond, not, ◌&&◌, eqb, List, length, get_or, set, Some, None, sym, refl, ap, ◌∙◌, subst, inl, inr, ⊎_elim, arith, length-set}
use Rattle.std.proofs.lemmas.List.{get_or-set_same, get_or-set_other}
use Rattle.std.proofs.lemmas.Bool.{cases_eq, eq-eqb, ne_eqb}
use Rattle.descent.specs.declared.link.Link.{Link}
use Rattle.descent.specs.Computed.{descends}
use Rattle.order.specs.Order.{lowest}
use Rattle.order.proofs.Lowest.{lowest_same, lowest_some}
use Rattle.order.proofs.WholeOrders.{path_rises}
use Rattle.chains.specs.Ends.{no_type, Strung, Stands, Bare, Ends, is_host}
use Rattle.chains.specs.Joining.{chain_of, position_of, first_type, last_type, leads, takes, put_behind, put_on_end, turn, turns}
use Rattle.chains.specs.Places.{Places}
use Rattle.chains.specs.Ranked.{Ranked}
use Rattle.chains.specs.Strung.{Joins, first_is, last_is, last_nothing, takes_true, takes_joins, moved_chain, moved_position, kept_chain, kept_position}

-- ---- positions are at most ranks, and so below the number of types
module _ {n : ℕ} {links : List Link} {s : Places} {order rank : List ℕ} (strung : Strung n links s) (ranks : Ranked n links order rank) where
  position_rank : (p t : ℕ) → t < n → position_of s t ≡ p → p ≤ get_or rank t 0
  position_rank zero t h e = omega arith
  position_rank (suc p) t h e =
      let b = strung.follows t p h (e ∙ omega arith) in
      omega (arith, position_rank p b.0 b.1 b.3, path_rises links (λ x. get_or rank x 0) ranks.rising b.4)

  pub position_below : (t : ℕ) → t < n → position_of s t < n
  position_below t h = omega (arith, position_rank (position_of s t) t h refl, (ranks.ranks t h).0)

-- ---- who takes chain c
-- at the turn of chain c, which stands: the tables hold the ends of the chains, and the types with a path to its first type are marked
pub record AtTurn (n : ℕ) (links : List Link) (s : Places) (first last marks : List ℕ) (c : ℕ) : Type 0 where
  pub small : n ≤ 1024
  pub strung : Strung n links s
  pub ends : Ends n s first last
  pub here : Stands n s c (get_or first c 0) (get_or last c 0)
  pub marked : (x : ℕ) → x < n → get_or marks x 0 ≡ cond (descends links x (get_or first c 0)) 1 0

module _ {n : ℕ} {links : List Link} {s : Places} {first last marks : List ℕ} {c : ℕ} (a : AtTurn n links s first last marks c) where
  abbrev strung : Strung n links s
  strung = a.strung

  abbrev here : Stands n s c (get_or first c 0) (get_or last c 0)
  here = a.here

  abbrev f : ℕ
  f = get_or first c 0

  bit : (b : Bool) → eqb (cond b 1 0) 1 ≡ b
  bit true = refl
  bit false = refl

  host_takes : (d : ℕ) → d < s.count → is_host c last marks d ≡ takes n links s c d
  host_takes d h =
      let head = first_is strung c f here.first_below here.first_type in
      ⊎_elim
      (λ (none : (get_or last d 0 ≡ no_type) × Bare n s d).
      ap (λ b. not (eqb d c) && (not b && eqb (get_or marks (get_or last d 0) 0) 1)) (eq-eqb _ _ none.0)
      ∙ sym (ap (λ o. not (eqb d c) && leads links o (first_type n s c)) (last_nothing n s d none.1)))
      (λ (stands : Stands n s d (get_or first d 0) (get_or last d 0)).
      let u = get_or last d 0 in
      let some : eqb u no_type ≡ false = ne_eqb _ _ (λ (e : u ≡ no_type). omega (arith, stands.last_below, a.small)) in
      let mark : eqb (get_or marks u 0) 1 ≡ descends links u f = ap (λ m. eqb m 1) (a.marked u stands.last_below) ∙ bit (descends links u f) in
      let end = last_is strung d u stands.last_below stands.last_type in
      ap (λ b. not (eqb d c) && (not b && eqb (get_or marks u 0) 1)) some
      ∙ ap (λ b. not (eqb d c) && b) mark
      ∙ sym (ap (λ o. not (eqb d c) && leads links o (first_type n s c)) end ∙ ap (λ o. not (eqb d c) && leads links (Some u) o) head))
      (a.ends d h)

  hosts : lowest (is_host c last marks) 0 s.count ≡ lowest (takes n links s c) 0 s.count
  hosts = lowest_same (is_host c last marks) (takes n links s c) 0 s.count (λ d h. host_takes d (omega arith))

  pub turn_none : None ≡ lowest (is_host c last marks) 0 s.count → turn n links s c ≡ s
  turn_none e = ap (put_on_end n s c) (sym (e ∙ hosts))

  module _ {d : ℕ} (found : Some d ≡ lowest (is_host c last marks) 0 s.count) where
    taken : lowest (takes n links s c) 0 s.count ≡ Some d
    taken = sym (found ∙ hosts)

    pub host_below : d < s.count
    host_below = omega (arith, (lowest_some (takes n links s c) 0 s.count d taken).1)

    -- its last type stands in the table
    host_stands : Stands n s d (get_or first d 0) (get_or last d 0) × (last_type n s d ≡ Some (get_or last d 0)) × Joins n links s c d (get_or last d 0) (get_or first c 0)
    host_stands =
        let t = takes_true n links s c d (lowest_some (takes n links s c) 0 s.count d taken).0 in
        ⊎_elim
        (λ (none : (get_or last d 0 ≡ no_type) × Bare n s d). let e : None ≡ Some t.1.0 = sym (last_nothing n s d none.1) ∙ t.1.2 in let z : ◌≡◌ {A = ℕ} 0 1 = cc in let y : ⊥ = omega arith in absurd y)
        (λ (stands : Stands n s d (get_or first d 0) (get_or last d 0)).
        let end = last_is strung d (get_or last d 0) stands.last_below stands.last_type in
        let same : Some t.1.0 ≡ Some (get_or last d 0) = sym t.1.2 ∙ end in
        let u-is : t.1.0 ≡ get_or last d 0 = cc in
        let head : Some t.1.1 ≡ Some f = sym t.1.3 ∙ first_is strung c f here.first_below here.first_type in
        let f-is : t.1.1 ≡ f = cc in
        let path : descends links (get_or last d 0) f ≡ true = ap (λ x. descends links x f) (sym u-is) ∙ ap (descends links t.1.0) (sym f-is) ∙ t.1.4 in
        (stands, end, takes_joins strung c d (get_or last d 0) f t.0 (stands.last_below, stands.last_type) (here.first_below, here.first_type) path))
        (a.ends d host_below)

    pub host_joins : Joins n links s c d (get_or last d 0) (get_or first c 0)
    host_joins = host_stands.2

    pub turn_some : turn n links s c ≡ put_behind n s c (Some (get_or last d 0))
    turn_some = ap (put_on_end n s c) taken ∙ ap (put_behind n s c) host_stands.1

    abbrev after : Places
    after = put_behind n s c (Some (get_or last d 0))

    abbrev last' : List ℕ
    last' = set (set last d (get_or last c 0)) c no_type

    kept : (e : ℕ) → (e ≡ c → ⊥) → (e ≡ d → ⊥) → get_or last' e 0 ≡ get_or last e 0
    kept e g h = get_or-set_other (set last d (get_or last c 0)) c e no_type 0 g ∙ get_or-set_other last d e (get_or last c 0) 0 h

    -- chain c has no type
    bare : Bare n after c
    bare t h e =
        ⊎_elim
        (λ (on : chain_of s t ≡ c). host_joins.other (sym (moved_chain host_joins t h on) ∙ e))
        (λ (off : chain_of s t ≡ c → ⊥). off (sym (kept_chain host_joins t h off) ∙ e))
        (cases_eq (chain_of s t) c)

    -- chain d ends with the last type of chain c
    longer : Stands n after d (get_or first d 0) (get_or last c 0)
    longer =
        let j = host_joins in
        let old = host_stands.0 in
        let off : chain_of s (get_or first d 0) ≡ c → ⊥ = λ e. j.other (sym old.first_type.here ∙ e) in
        let end = here.last_type in
        record {
          first_below = old.first_below;
          first_type = record {
            here = kept_chain j (get_or first d 0) old.first_below off ∙ old.first_type.here;
            start = kept_position j (get_or first d 0) old.first_below off ∙ old.first_type.start;
          };
          last_below = here.last_below;
          last_type = record {
            here = moved_chain j (get_or last c 0) here.last_below end.here;
            top = λ v h e.
                let mine = moved_position j (get_or last c 0) here.last_below end.here in
                ⊎_elim
                (λ (on : chain_of s v ≡ c). omega (arith, mine, moved_position j v h on, end.top v h on))
                (λ (off : chain_of s v ≡ c → ⊥). omega (arith, mine, kept_position j v h off, j.last.top v h (sym (kept_chain j v h off) ∙ e)))
                (cases_eq (chain_of s v) c);
          };
        }

    -- any other chain is as it was
    same_bare : (e : ℕ) → (e ≡ c → ⊥) → (e ≡ d → ⊥) → Bare n s e → Bare n after e
    same_bare e g h none t l x =
        ⊎_elim
        (λ (on : chain_of s t ≡ c). h (sym x ∙ moved_chain host_joins t l on))
        (λ (off : chain_of s t ≡ c → ⊥). none t l (sym (kept_chain host_joins t l off) ∙ x))
        (cases_eq (chain_of s t) c)

    same_stands : (e x y : ℕ) → (e ≡ c → ⊥) → (e ≡ d → ⊥) → Stands n s e x y → Stands n after e x y
    same_stands e x y g h old =
        let j = host_joins in
        let off-x : chain_of s x ≡ c → ⊥ = λ z. g (sym old.first_type.here ∙ z) in
        let off-y : chain_of s y ≡ c → ⊥ = λ z. g (sym old.last_type.here ∙ z) in
        record {
          first_below = old.first_below;
          first_type = record { here = kept_chain j x old.first_below off-x ∙ old.first_type.here; start = kept_position j x old.first_below off-x ∙ old.first_type.start };
          last_below = old.last_below;
          last_type = record {
            here = kept_chain j y old.last_below off-y ∙ old.last_type.here;
            top = λ v l z.
                ⊎_elim
                (λ (on : chain_of s v ≡ c). absurd (h (sym z ∙ moved_chain j v l on)))
                (λ (off : chain_of s v ≡ c → ⊥). omega (arith, kept_position j v l off, kept_position j y old.last_below off-y, old.last_type.top v l (sym (kept_chain j v l off) ∙ z)))
                (cases_eq (chain_of s v) c);
          };
        }

    module _ (room : s.count ≤ length last) (below : c < s.count) where
      last_c : get_or last' c 0 ≡ no_type
      last_c = get_or-set_same (set last d (get_or last c 0)) c no_type 0 (omega (arith, length-set last d (get_or last c 0)))

      last_d : get_or last' d 0 ≡ get_or last c 0
      last_d = get_or-set_other (set last d (get_or last c 0)) c d no_type 0 host_joins.other ∙ get_or-set_same last d (get_or last c 0) 0 (omega (arith, host_below))

      pub turn_ends : Ends n after first last'
      turn_ends e h =
          ⊎_elim
          (λ (g : e ≡ c). inl (ap (λ x. get_or last' x 0) g ∙ last_c, subst (Bare n after) (sym g) bare))
          (λ (g : e ≡ c → ⊥).
          ⊎_elim
          (λ (k : e ≡ d).
          inr (subst (λ (x : ℕ). Stands n after x (get_or first x 0) (get_or last' x 0)) (sym k) (subst (Stands n after d (get_or first d 0)) (sym last_d) longer)))
          (λ (k : e ≡ d → ⊥).
          ⊎_elim
          (λ (none : (get_or last e 0 ≡ no_type) × Bare n s e). inl (kept e g k ∙ none.0, same_bare e g k none.1))
          (λ (old : Stands n s e (get_or first e 0) (get_or last e 0)).
          inr (subst (Stands n after e (get_or first e 0)) (sym (kept e g k)) (same_stands e (get_or first e 0) (get_or last e 0) g k old)))
          (a.ends e h))
          (cases_eq e d))
          (cases_eq e c)

      -- the chains whose turn comes later stand
      pub turn_standing : (e : ℕ) → c + 1 ≤ e → e < s.count → Stands n s e (get_or first e 0) (get_or last e 0) → Stands n after e (get_or first e 0) (get_or last' e 0)
      turn_standing e g h old =
          let apart : e ≡ c → ⊥ = λ x. omega arith in
          ⊎_elim
          (λ (k : e ≡ d). subst (λ (x : ℕ). Stands n after x (get_or first x 0) (get_or last' x 0)) (sym k) (subst (Stands n after d (get_or first d 0)) (sym last_d) longer))
          (λ (k : e ≡ d → ⊥). subst (Stands n after e (get_or first e 0)) (sym (kept e apart k)) (same_stands e (get_or first e 0) (get_or last e 0) apart k old))
          (cases_eq e d)

-- ---- turns
pub turns_more : (n : ℕ) (links : List Link) (s : Places) (c count : ℕ) → c < count → turns n links (turn n links s c) (c + 1) (count - (c + 1)) ≡ turns n links s c (count - c)
turns_more n links s c count h = let z : count - c ≡ suc (count - (c + 1)) = omega arith in sym (ap (turns n links s c) z)
