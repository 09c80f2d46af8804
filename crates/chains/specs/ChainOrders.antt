-- Chain order has a decomposer's meaning.
use Rattle.std.specs.Prelude.{◌≡◌, ℕ, zero, suc, ◌+◌, ◌<◌, ◌≤◌, Bool, true, false, cond, ◌⊎◌, List, [], ◌∷◌, length, replicate, Some, None, Option, ◌≢◌, slice_index, slice_index_or, slice_set, refl}
use Rattle.std.proofs.Common.{sym, ap, subst, ◌∙◌, inl, inr, ⊎_elim, arith, length-set}
use Rattle.std.proofs.lemmas.List.{get_or-set_same, get_or-set_other, get_or-replicate, length-replicate}
use Rattle.std.proofs.lemmas.Bool.{eqb-true, eqb-false, cases_eq}
use Rattle.descent.specs.declared.link.Link.{Link}
use Rattle.descent.specs.Links.{Path, one}
use Rattle.chains.specs.Chains.{Chained}
use Rattle.chains.specs.ChainOrder.{no_chain, off, next_base, Line, added, lengthened, begun, ended, laid, chain_order}
use Rattle.chains.specs.Places.{Places, places}
use Rattle.chains.specs.Ranked.{Ranked}
use Rattle.chains.specs.NextBases.{next_base_some}

-- t is on some chain
abbrev On : List ℕ → ℕ → Type 0
On chains t = slice_index chains t ≡ no_chain → ⊥

-- a type just before t on its chain, at position p
abbrev Before : ℕ → List Link → List ℕ → List ℕ → ℕ → ℕ → ℕ → Type 0
Before n links chains positions c p t = (u : ℕ) × (u < n) × (slice_index chains u ≡ c) × (slice_index positions u ≡ p) × Path links u t

-- the types that are on a chain stand as a decomposer's do
record Partly (n : ℕ) (links : List Link) (chains positions : List ℕ) (count : ℕ) : Type 0 where
  long : length chains ≡ n
  long' : length positions ≡ n
  below : (t : ℕ) → t < n → On chains t → slice_index chains t < count
  apart : (t u : ℕ) → t < n → u < n → On chains t → slice_index chains t ≡ slice_index chains u → slice_index positions t ≡ slice_index positions u → t ≡ u
  begins : (c : ℕ) → c < count → (t : ℕ) × (t < n) × (slice_index chains t ≡ c) × (slice_index positions t ≡ 0)
  follows : (t p : ℕ) → t < n → On chains t → slice_index positions t ≡ p + 1 → Before n links chains positions (slice_index chains t) p t

-- one more type, u, comes to position p of chain c, where nothing stands, and there are then count' chains
record Comes (n : ℕ) (links : List Link) (chains positions : List ℕ) (count u c p count' : ℕ) : Type 0 where
  partly : Partly n links chains positions count
  type : u < n
  free : slice_index_or chains u 0 ≡ no_chain
  few : count ≤ no_chain
  grows : count ≤ count'
  fits : c < count'
  real : c < no_chain
  fresh : (t : ℕ) → t < n → slice_index chains t ≡ c → slice_index positions t ≢ p
  starts : (d : ℕ) → d < count' → (d < count) ⊎ ((d ≡ c) × (p ≡ 0))
  before : (q : ℕ) → p ≡ q + 1 → Before n links chains positions c q u

module _ {n : ℕ} {links : List Link} {chains positions : List ℕ} {count u c p count' : ℕ} (s : Comes n links chains positions count u c p count') where
  abbrev chains' : List ℕ
  chains' = slice_set chains u c

  abbrev positions' : List ℕ
  positions' = slice_set positions u p

  chain_here : slice_index_or (slice_set chains u c) u 0 ≡ c
  chain_here = get_or-set_same chains u c 0 (omega (arith, s.type, s.partly.long))

  position_here : slice_index_or (slice_set positions u p) u 0 ≡ p
  position_here = get_or-set_same positions u p 0 (omega (arith, s.type, s.partly.long'))

  chain_there : (t : ℕ) → (t ≢ u) → slice_index (slice_set chains u c) t ≡ slice_index chains t
  chain_there t other = get_or-set_other chains u t c 0 other

  position_there : (t : ℕ) → (t ≢ u) → slice_index (slice_set positions u p) t ≡ slice_index positions t
  position_there t other = get_or-set_other positions u t p 0 other

  chain_at : (t : ℕ) → t ≡ u → slice_index (slice_set chains u c) t ≡ c
  chain_at t same = ap (λ x. slice_index (slice_set chains u c) x) same ∙ chain_here

  position_at : (t : ℕ) → t ≡ u → slice_index (slice_set positions u p) t ≡ p
  position_at t same = ap (λ x. slice_index (slice_set positions u p) x) same ∙ position_here

  -- who was on a chain is another, and still on it
  another : (t : ℕ) → On chains t → t ≢ u
  another t on e = on (ap (λ x. slice_index chains x) e ∙ s.free)

  was_on : (t : ℕ) → (t ≢ u) → On (slice_set chains u c) t → On chains t
  was_on t other on e = on (chain_there t other ∙ e)

  stays_on : (t : ℕ) → On chains t → On (slice_set chains u c) t
  stays_on t on e = on (sym (chain_there t (another t on)) ∙ e)

  comes_on : On (slice_set chains u c) u
  comes_on e = omega (arith, sym chain_here ∙ e, s.real)

  comes_apart : (t v : ℕ) → t < n → v < n → On chains' t → slice_index chains' t ≡ slice_index chains' v → slice_index positions' t ≡ slice_index positions' v → t ≡ v
  comes_apart t v h i on x y =
      ⊎_elim
      (λ (e : t ≡ u).
      ⊎_elim
      (λ (f : v ≡ u). e ∙ sym f)
      (λ (f : v ≡ u → ⊥). absurd (s.fresh v i (sym (chain_there v f) ∙ sym x ∙ chain_at t e) (sym (position_there v f) ∙ sym y ∙ position_at t e)))
      (cases_eq v u))
      (λ (e : t ≡ u → ⊥).
      ⊎_elim
      (λ (f : v ≡ u). absurd (s.fresh t h (sym (chain_there t e) ∙ x ∙ chain_at v f) (sym (position_there t e) ∙ y ∙ position_at v f)))
      (λ (f : v ≡ u → ⊥). s.partly.apart t v h i (was_on t e on) (sym (chain_there t e) ∙ x ∙ chain_there v f) (sym (position_there t e) ∙ y ∙ position_there v f))
      (cases_eq v u))
      (cases_eq t u)

  -- a type before another is one still
  still_before : (t d q : ℕ) → d < no_chain → Before n links chains positions d q t → Before n links chains' positions' d q t
  still_before t d q real b =
      let other = another b.0 (λ z. omega (arith, sym b.2 ∙ z)) in
      (b.0, b.1, chain_there b.0 other ∙ b.2, position_there b.0 other ∙ b.3, b.4)

  comes_follows : (t q : ℕ) → t < n → On chains' t → slice_index positions' t ≡ q + 1 → Before n links chains' positions' (slice_index chains' t) q t
  comes_follows t q h on y =
      ⊎_elim
      (λ (e : t ≡ u).
      let b = still_before u c q s.real (s.before q (sym (position_at t e) ∙ y)) in
      subst (λ (d : ℕ). Before n links chains' positions' d q t) (sym (chain_at t e)) (b.0, b.1, b.2, b.3, subst (Path links b.0) (sym e) b.4))
      (λ (e : t ≡ u → ⊥).
      let on' = was_on t e on in
      let real : slice_index_or chains t 0 < no_chain = omega (arith, s.partly.below t h on', s.few) in
      let b = still_before t (slice_index chains t) q real (s.partly.follows t q h on' (sym (position_there t e) ∙ y)) in
      subst (λ (d : ℕ). Before n links chains' positions' d q t) (sym (chain_there t e)) b)
      (cases_eq t u)

  come : Partly n links (slice_set chains u c) (slice_set positions u p) count'
  come = record {
    long = length-set chains u c ∙ s.partly.long;
    long' = length-set positions u p ∙ s.partly.long';
    below = λ t h on.
        ⊎_elim
        (λ (e : t ≡ u). omega (arith, chain_at t e, s.fits))
        (λ (e : t ≡ u → ⊥). omega (arith, chain_there t e, s.partly.below t h (was_on t e on), s.grows))
        (cases_eq t u);
    apart = comes_apart;
    begins = λ d h.
        ⊎_elim
        (λ (l : d < count).
        let b = s.partly.begins d l in
        let other = another b.0 (λ z. omega (arith, sym b.2 ∙ z, s.few)) in
        (b.0, b.1, chain_there b.0 other ∙ b.2, position_there b.0 other ∙ b.3))
        (λ (x : (d ≡ c) × (p ≡ 0)). (u, s.type, chain_here ∙ sym x.0, position_here ∙ x.1))
        (s.starts d h);
    follows = comes_follows;
  }

-- a chain in the making, c, the last of c + 1
record Lining (n : ℕ) (links : List Link) (c : ℕ) (w : Line) : Type 0 where
  partly : Partly n links w.chains w.positions (c + 1)
  inside : w.last < n
  chain : slice_index_or w.chains w.last 0 ≡ c
  position : slice_index_or w.positions w.last 0 ≡ w.position
  top : (t : ℕ) → t < n → slice_index w.chains t ≡ c → slice_index w.positions t ≤ w.position

-- who is on a chain stays on one
abbrev Kept : ℕ → List ℕ → List ℕ → Type 0
Kept n chains after = (t : ℕ) → t < n → On chains t → On after t

lining : {n : ℕ} {links : List Link} {chains positions : List ℕ} {count u c p : ℕ} (s : Comes n links chains positions count u c p (c + 1))
    → ((t : ℕ) → t < n → slice_index chains t ≡ c → slice_index positions t ≤ p)
    → Lining n links c (record { last = u; position = p; chains = slice_set chains u c; positions = slice_set positions u p })
lining {u = u} {p = p} s lower = record {
  partly = come s;
  inside = s.type;
  chain = chain_here s;
  position = position_here s;
  top = λ t h x.
      ⊎_elim
      (λ (e : t ≡ u). omega (arith, position_at s t e))
      (λ (e : t ≡ u → ⊥). omega (arith, position_there s t e, lower t h (sym (chain_there s t e) ∙ x)))
      (cases_eq t u);
}

module _ (n : ℕ) (links : List Link) (order : List ℕ) (below : (i : ℕ) → i < length order → slice_index order i < n) where
  module _ (c : ℕ) (real : c < no_chain) where
    added_keeps : (w : Line) (o : Option ℕ) → next_base links order w.chains w.last ≡ o → Lining n links c w → Lining n links c (added c w o) × Kept n w.chains (added c w o).chains
    added_keeps w None e s = (s, λ t h on. on)
    added_keeps w (Some u) e s =
        let b = next_base_some n links order w.chains w.last u below e in
        let comes : Comes n links w.chains w.positions (c + 1) u c (w.position + 1) (c + 1) = record {
          partly = s.partly;
          type = b.0;
          free = b.2;
          few = omega arith;
          grows = omega arith;
          fits = omega arith;
          real = real;
          fresh = λ t h x y. omega (arith, s.top t h x);
          starts = λ d h. inl h;
          before = λ q x. (w.last, s.inside, s.chain, s.position ∙ omega arith, one b.1);
        } in
        (lining comes (λ t h x. omega (arith, s.top t h x)), λ t h on. stays_on comes t on)

    lengthened_keeps : (m : ℕ) (w : Line) → Lining n links c w → Lining n links c (lengthened links order c w m) × Kept n w.chains (lengthened links order c w m).chains
    lengthened_keeps zero w s = (s, λ t h on. on)
    lengthened_keeps (suc m) w s =
        let o = next_base links order w.chains w.last in
        let r = added_keeps w o refl s in
        let x = lengthened_keeps m (added c w o) r.0 in
        (x.0, λ t h on. x.1 t h (r.1 t h on))

  -- a type on no chain begins the next one
  begun_keeps : (t : ℕ) (s : Places) → t < n → s.count < no_chain → slice_index s.chains t ≡ no_chain → Partly n links s.chains s.positions s.count
      → Lining n links s.count (begun t s) × Kept n s.chains (begun t s).chains × On (begun t s).chains t
  begun_keeps t s h real free q =
      let none : (v : ℕ) → v < n → slice_index s.chains v ≡ s.count → ⊥ = λ v i x. omega (arith, x, q.below v i (λ z. omega (arith, x, z))) in
      let comes : Comes n links s.chains s.positions s.count t s.count 0 (s.count + 1) = record {
        partly = q;
        type = h;
        free = free;
        few = omega arith;
        grows = omega arith;
        fits = omega arith;
        real = real;
        fresh = λ v i x y. none v i x;
        starts = λ d i. ⊎_elim (λ e. inr (e, refl)) (λ e. inl (omega arith)) (cases_eq d s.count);
        before = λ r x. let z : ⊥ = omega arith in absurd z;
      } in
      (lining comes (λ v i x. absurd (none v i x)), (λ v i on. stays_on comes v on), comes_on comes)

  -- one type of the order: it is on a chain then
  turn : (t : ℕ) (s : Places) (b : Bool) → off s.chains t ≡ b → t < n → s.count < no_chain → Partly n links s.chains s.positions s.count →
      let r : Places = cond b (ended s.count (lengthened links order s.count (begun t s) n)) s in
      Partly n links r.chains r.positions r.count × Kept n s.chains r.chains × On r.chains t × (r.count ≤ s.count + 1)
  turn t s true e h real q =
      let b = begun_keeps t s h real (eqb-true _ _ e) q in
      let x = lengthened_keeps s.count real n (begun t s) b.0 in
      (x.0.partly, (λ v i on. x.1 v i (b.1 v i on)), x.1 t h b.2, omega arith)
  turn t s false e h real q = (q, (λ v i on. on), eqb-false _ _ e, omega arith)

  laid_keeps : (types : List ℕ) (s : Places) → ((i : ℕ) → i < length types → slice_index types i < n) → s.count + length types < no_chain → Partly n links s.chains s.positions s.count →
      let r : Places = laid n links order types s in
      Partly n links r.chains r.positions r.count × Kept n s.chains r.chains × ((i : ℕ) → i < length types → On r.chains (slice_index types i))
  laid_keeps [] s b m q = (q, (λ v i on. on), (λ i h. let z : ⊥ = omega arith in absurd z))
  laid_keeps (t ∷ types) s b m q =
      let h : t < n = b 0 (omega arith) in
      let x = turn t s (off s.chains t) refl h (omega arith) q in
      let s' : Places = cond (off s.chains t) (ended s.count (lengthened links order s.count (begun t s) n)) s in
      let y = laid_keeps types s' (λ i l. b (suc i) (omega arith)) (omega (arith, x.3)) x.0 in
      (y.0, (λ v i on. y.1 v i (x.1 v i on)), by_place (On (laid n links order types s').chains) t types (y.1 t h x.2) y.2)
    where
      by_place : (P : ℕ → Type 0) (t : ℕ) (ts : List ℕ) → P t → ((i : ℕ) → i < length ts → P (slice_index ts i)) → (i : ℕ) → i < length (t ∷ ts) → P (slice_index (t ∷ ts) i)
      by_place P t ts p f zero h = p
      by_place P t ts p f (suc i) h = f i (omega arith)

pub chain_order_chained : (n : ℕ) (links : List Link) (order rank : List ℕ) → n ≤ 1024 → Ranked n links order rank →
    Chained n links (chain_order n links order).chains (chain_order n links order).positions (chain_order n links order).count
chain_order_chained n links order rank few ranks =
    let none : (t : ℕ) → t < n → On (replicate n no_chain) t → ⊥ = λ t h on. on (get_or-replicate n t no_chain 0 h) in
    let below : (i : ℕ) → i < length order → slice_index order i < n = λ i h. (ranks.types i (omega (arith, ranks.long))).0 in
    let empty : Partly n links (replicate n no_chain) (replicate n no_chain) 0 = record {
      long = length-replicate n no_chain;
      long' = length-replicate n no_chain;
      below = λ t h on. absurd (none t h on);
      apart = λ t u h i on x y. absurd (none t h on);
      begins = λ c h. let z : ⊥ = omega arith in absurd z;
      follows = λ t p h on x. absurd (none t h on);
    } in
    let r = laid_keeps n links order below order (places 0 (replicate n no_chain) (replicate n no_chain)) below (omega (arith, ranks.long)) empty in
    let q = r.0 in
    let on : (t : ℕ) → t < n → On (chain_order n links order).chains t = λ t h.
    let at = ranks.ranks t h in subst (On (chain_order n links order).chains) at.1 (r.2 (slice_index rank t) (omega (arith, at.0, ranks.long))) in
    record {
      below = λ t h. q.below t h (on t h);
      apart = λ t u h i x y. q.apart t u h i (on t h) x y;
      begins = q.begins;
      follows = λ t p h x. q.follows t p h (on t h) x;
    }

-- the same of tables that are those of chain order
pub chain_order_meaning : (n : ℕ) (links : List Link) (order rank chains positions : List ℕ) (count : ℕ) → n ≤ 1024 → Ranked n links order rank →
    places count chains positions ≡ chain_order n links order → Chained n links chains positions count
chain_order_meaning n links order rank chains positions count few ranks e =
    subst (λ (s : Places). Chained n links s.chains s.positions s.count) (sym e) (chain_order_chained n links order rank few ranks)
