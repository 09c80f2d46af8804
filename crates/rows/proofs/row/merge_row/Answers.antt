use Rattle.std.proofs.Common.{◌≡◌, ℕ, ◌+◌, ◌*◌, ◌<◌, min, [], ◌∷◌, ◌++◌, length, get_or, set, sym, ap, ◌∙◌, subst, arith, length-append}
use Rattle.rows.proofs.Lowering.{Written, written_more}
use Rattle.rows.proofs.RowPlaces.{rows_apart}
use Rattle.rows.proofs.row.merge_row.Goals as goal

pub loop-to-preserved : goal.loop-to-preserved
loop-to-preserved c =
    let before = c.args.index.now in
    let index = c.loop-to.index in
    let chains = c.args.layout.now.chains in
    let k = length c.loop-to.yielded in
    let to = c.args.t * chains in
    let from = c.args.base * chains in
    let value = λ (x : ℕ). min (get_or before (to + x) 0) (get_or before (from + x) 0) in
    let inv = c.loop-to.invariant in
    let first = c.in-Some.ensures.steps.0 in
    let second = c.in-Some.ensures.steps.1 in
    let to-is : c.in-Some.to ≡ to + k = first.1.1 ∙ inv.3 in
    let from-is : c.in-Some.from ≡ from + k = second.1.1 ∙ inv.5 in
    let below : k < chains = omega (arith, first.1.0, inv.3, inv.4) in
    let own : get_or index c.in-Some.to 0 ≡ get_or before (to + k) 0 = ap (λ (x : ℕ). get_or index x 0) to-is ∙ inv.2.1 (to + k) (λ j h e. omega arith) in
    let base : get_or index c.in-Some.from 0 ≡ get_or before (from + k) 0 =
    ap (λ (x : ℕ). get_or index x 0) from-is ∙ inv.2.1 (from + k) (λ j h. rows_apart c.args.t c.args.base chains k j below (omega arith) c.requires.apart) in
    let lower : c.min.result ≡ value k = c.min.ensures ∙ ap (λ (v : ℕ). min v (get_or index c.in-Some.from 0)) own ∙ ap (λ (v : ℕ). min (get_or before (to + k) 0) v) base in
    let more : length (c.loop-to.yielded ++ (c.in-Some.to, c.in-Some.from) ∷ []) ≡ k + 1 = length-append _ _ in
    let P : ℕ → Type 0 = λ n. Written before (set index c.in-Some.to c.min.result) to value n in
    let Q : ℕ → Type 0 = λ p. Written before (set index p c.min.result) to value (k + 1) in (
      (tt, tt),
      tt,
      subst P (sym more) (subst Q (sym to-is) (written_more before index to value k c.min.result (omega (arith, c.requires.room)) lower inv.2)),
      omega (arith, more, first.1.2, inv.3),
      first.0 ∙ inv.4,
      omega (arith, more, second.1.2, inv.5),
      second.0 ∙ inv.6,
      omega (arith, more, below),
    )

pub returns-clause-outside : goal.returns-clause-outside
returns-clause-outside c j out = c.loop-to.invariant.2.1 j (λ k h. out k (omega (arith, c.loop-to.invariant.7)))
