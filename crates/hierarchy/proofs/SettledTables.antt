-- The tables of a settled book answer.
use Rattle.std.proofs.Common.{◌≡◌, ℕ, ◌+◌, ◌*◌, ◌<◌, ◌≤◌, Bool, true, false, cond, ◌||◌, ltb, leb, List, ◌++◌, length, get_or, take, drop, Some, None, Ok, Err, Decides, Option, Result, sym, refl, ap, ◌∙◌, subst, ⊎_elim, arith, ltb-false, lt-ltb, le-leb}
use borrow.Author.Tests.{lt-leb, clash}
use Rattle.std.proofs.lemmas.List.{get_or-take, get_or_append_left, length-append, take_all, take_at, length-map}
use Rattle.std.proofs.str.Laws.{order as compared}
use mathlib.Core.Logic.{∥∥₁_elim, ∥∥₁_map}
use native.Mathlib.Bridge.{le_prop}
use Rattle.descent.specs.declared.link.Link.{Link}
use Rattle.descent.specs.Links.{Within}
use Rattle.descent.specs.Computed.{descends}
use Rattle.descent.specs.Refusals.{question_refusal}
use Rattle.descent.specs.declared.refusal.Refusal.TheVariants.{NotBelow}
use Rattle.descent.proofs.Closures.{decides_descends}
use Rattle.order.specs.Order.{order_of}
use Rattle.order.specs.Ranks.{ranks_of}
use Rattle.chains.specs.Chains.{Chained}
use Rattle.chains.specs.Ranked.{Ranked}
use Rattle.rows.specs.Rows.{rows_of}
use Rattle.rows.specs.KeptEntries.{kept_of}
use Rattle.rows.proofs.RowPlaces.{all_rows_length, row_fits}
use Rattle.rows.proofs.Answering.{rows_answer}
use Rattle.std.proofs.lemmas.List.FromFn.{length-range_with_len}
use Rattle.chains.specs.Meaning.{Decomposes}
use Rattle.settling.specs.declared.outcome.Settled.{Settled}
use Rattle.settling.specs.declared.outcome.Unsettled.{Unsettled}
use Rattle.settling.specs.declared.outcome.Unsettled.TheVariants.{ShortTable, Loop, ShortIndex}
use Rattle.settling.specs.Settling.{Giving, Tables, short, SettlesAs}
use Rattle.settling.proofs.Ranking.{whole_ranked}
use Rattle.hierarchy.specs.Answering.{EntriesTell, IndexAnswers, Answering}
use Rattle.hierarchy.specs.SettledBooks.{tables, settled_by}

-- a test that tells what another says
agree : {P : Type 0} (x y : ℕ) (t : Bool) → (x ≤ y → P) → (P → x ≤ y) → Decides t P → leb x y ≡ t
agree x y true f g d = le-leb x y (g (d.0 refl))
agree x y false f g d = lt-leb x y (⊎_elim (λ h. h) (λ h. absurd (clash (d.1 (f h)))) (compared y x))

module _ (n : ℕ) (links : List Link) (order rank chain position rest : List ℕ) (count : ℕ) (small : n ≤ 1024) (ranked : Ranked n links order rank)
    (chained : Chained n links (take n chain) (take n position) count) (chain-room : n ≤ length chain) (position-room : n ≤ length position) where
  abbrev rows : List ℕ
  rows = rows_of n links (take n chain) (take n position) count

  entry_tells : (a b : ℕ) → a < n → b < n → leb (get_or (rows ++ rest) (a * count + get_or chain b 0) 0) (get_or position b 0) ≡ descends links a b
  entry_tells a b h k =
      let at-chain = get_or-take n chain b 0 k in
      let at_position = get_or-take n position b 0 k in
      let below : get_or chain b 0 < count = omega (arith, chained.below b k) in
      let inside : a * count + get_or chain b 0 < length rows = omega (arith, row_fits a n count (n * count) h (omega arith), all_rows_length n links (take n chain) (take n position) count) in
      let told = rows_answer n links order rank (take n chain) (take n position) count (omega arith) ranked chained a b h k in
      ap (λ x. leb x (get_or position b 0)) (get_or_append_left rows rest 0 (a * count + get_or chain b 0) inside)
      ∙ ap (λ x. leb (get_or rows (a * count + x) 0) (get_or position b 0)) (sym at-chain)
      ∙ ap (λ x. leb (get_or rows (a * count + get_or (take n chain) b 0) 0) x) (sym at_position)
      ∙ agree _ _ (descends links a b) told.1 told.0 (decides_descends links a b)

  pub index_answers : IndexAnswers count n links chain position (rows ++ rest)
  index_answers = (
    omega (arith, length-append rows rest, all_rows_length n links (take n chain) (take n position) count),
    chain-room,
    position-room,
    λ b h. subst (λ (x : ℕ). x < count) (get_or-take n chain b 0 h) (chained.below b h),
    entry_tells,
  )

-- a whole order ranks each type, by the ranks that the order defines
pub order_ranked : (n : ℕ) (links : List Link) → n ≤ 1024 → Within links n → length (order_of n links) ≡ n → Ranked n links (order_of n links) (ranks_of n links)
order_ranked n links small within whole =
    let len : length (ranks_of n links) ≡ n = simp length-map (length-range_with_len 0 n) in
    whole_ranked n links (ranks_of n links) within whole small (take_all n (ranks_of n links) (omega arith))

neither : (a b : Bool) → (a || b) ≡ false → (a ≡ false) × (b ≡ false)
neither true b e = absurd (clash (sym e))
neither false b e = (refl, e)

-- tables that are not short have room for each type
chain_fits : (n m : ℕ) (t : Tables) → short n m t ≡ false → (n ≤ length t.chain) × (n ≤ length t.position)
chain_fits n m t e =
    let a = neither (ltb (length t.order) n) _ e in
    let b = neither (ltb (length t.chain) n) _ a.1 in
    let c = neither (ltb (length t.position) n) _ b.1 in
    (ltb-false _ _ b.0, ltb-false _ _ c.0)

-- what settling leaves answers
module _ (Gives : Giving) (meaning : Decomposes Gives) (n : ℕ) (links : List Link) (before after : Tables) (settled : Option ℕ)
    (small : n ≤ 1024) (within : Within links n) (same_chain : length after.chain ≡ length before.chain) (same-position : length after.position ≡ length before.position) where
  pub answering_after : (r : Result Settled Unsettled) → SettlesAs Gives n links before r after
      → Answering settled n links before.order before.chain before.position before.kept before.index
      → Answering (settled_by r settled) n links after.order after.chain after.position after.kept after.index
  answering_after (Ok s) x old =
      let w = x.1 in
      let fits = chain_fits n (length links) before x.0 in
      let ranked = order_ranked n links small within w.ranked in
      let chained = meaning n links (order_of n links) (ranks_of n links) (take n after.chain) (take n after.position) s.chains small ranked w.given in
      let len : length (kept_of links) ≡ length links = simp length-map in (
        w.ranked,
        ap (take n) w.order ∙ take_at (order_of n links) (drop n before.order) n w.ranked,
        ap (take (length links)) w.kept ∙ take_at (kept_of links) (drop (length links) before.kept) (length links) len,
        subst (IndexAnswers s.chains n links after.chain after.position) (sym w.index)
            (index_answers n links (order_of n links) (ranks_of n links) after.chain after.position (drop (n * s.chains) before.index) s.chains small ranked chained (omega arith) (omega arith)),
      )
  answering_after (Err ShortTable) x old = subst (λ t. Answering settled n links t.order t.chain t.position t.kept t.index) (sym x.1) old
  answering_after (Err (Loop size)) x old = tt
  answering_after (Err (ShortIndex needed)) x old = tt

-- tables that hold the same
pub same_tables : {o o' c c' p p' k k' i i' : List ℕ} (l s : List ℕ) → o ≡ o' → c ≡ c' → p ≡ p' → k ≡ k' → i ≡ i'
    → tables o c p k i l s ≡ tables o' c' p' k' i' l s
same_tables l s a b d e f = cc

-- what settling does to tables, it does to tables that hold the same
pub settles_same : (Gives : Giving) (n : ℕ) (links : List Link) (r : Result Settled Unsettled) {t u t' u' : Tables} → t ≡ u → t' ≡ u' → SettlesAs Gives n links t r t' → SettlesAs Gives n links u r u'
settles_same Gives n links r {t} {u} {t'} {u'} e f x = subst (λ (y : Tables). SettlesAs Gives n links u r y) f (subst (λ (y : Tables). SettlesAs Gives n links y r t') e x)

-- a question about two types is not refused
pub not_refused : (n a b : ℕ) → a < n → b < n → question_refusal n a b ≡ None
not_refused n a b h k =
    ap (λ t. cond t (cond (ltb b n) None (Some (NotBelow b n))) (Some (NotBelow a n))) (lt-ltb a n h)
    ∙ ap (λ t. cond t None (Some (NotBelow b n))) (lt-ltb b n k)

-- what a settled book's tables say, by parts
abbrev pub IndexParts : ℕ → ℕ → List Link → List ℕ → List ℕ → List ℕ → Type 0
IndexParts count n links chain position index =
    (n * count ≤ length index) × (n ≤ length chain) × (n ≤ length position) × ((b : ℕ) → b < n → get_or chain b 0 < count) × ∥ EntriesTell count n links chain position index ∥₁

parts_settled : (count n : ℕ) (links : List Link) (order chain position kept index : List ℕ) → ∥ Answering (Some count) n links order chain position kept index ∥₁ → IndexParts count n links chain position index
parts_settled count n links order chain position kept index x = (
  ∥∥₁_elim x le_prop (λ y. y.3.0),
  ∥∥₁_elim x le_prop (λ y. y.3.1),
  ∥∥₁_elim x le_prop (λ y. y.3.2),
  λ b h. ∥∥₁_elim x le_prop (λ y. y.3.3 b h),
  ∥∥₁_map x (λ y. y.3.4),
)

pub index_parts : (settled : Option ℕ) (count n : ℕ) (links links' : List Link) (order chain chain' position position' kept index index' : List ℕ) → settled ≡ Some count
    → links' ≡ links → chain' ≡ chain → position' ≡ position → index' ≡ index
    → ∥ Answering settled n links order chain position kept index ∥₁ → IndexParts count n links' chain' position' index'
index_parts settled count n links links' order chain chain' position position' kept index index' e a b c d x =
    subst (λ (l : List Link). IndexParts count n l chain' position' index') (sym a)
    (subst (λ (l : List ℕ). IndexParts count n links l position' index') (sym b)
    (subst (λ (l : List ℕ). IndexParts count n links chain l index') (sym c)
    (subst (λ (l : List ℕ). IndexParts count n links chain position l) (sym d)
    (parts_settled count n links order chain position kept index
    (subst (λ (s : Option ℕ). ∥ Answering s n links order chain position kept index ∥₁) e x)))))
