use Rattle.std.proofs.Common.{◌≡◌, ◌+◌, ◌-◌, ◌≤◌, length, take, drop, ap, ◌∙◌, arith, rules}
use Rattle.names.specs.Tables.{part}
use Rattle.names.proofs.Keeping.{marked_end, marked_part}
use Rattle.names.proofs.names.Names.marked.Goals as goal

pub slice_bounds-result-end : goal.slice_bounds-result-end
slice_bounds-result-end c =
    let n = c.args.self.now in
    let s = c.index.result.now in
    let h : s.start + s.length ≤ length c.deref.result.now = omega (arith, c.deref.ensures.len, marked_end n c.args.number s c.requires.entered c.index.ensures) in
    search rules

pub returns : goal.returns
returns c =
    let n = c.args.self.now in
    let s = c.index.result.now in
    let e : s.start + s.length - s.start ≡ s.length = omega arith in
    rw c.range.ensures
    (ap (λ k. take k (drop s.start c.deref.result.now)) e
    ∙ ap (λ l. part l s) c.deref.ensures.value
    ∙ marked_part n c.args.number s c.requires.entered c.index.ensures)
