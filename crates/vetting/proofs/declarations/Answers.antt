use Rattle.std.proofs.Common.{◌≡◌, ◌++◌, length, sym, ap, ◌∙◌, arith}
use Rattle.std.specs.Option.{option_map}
use Rattle.texts.specs.Texts.{lines_of}
use Rattle.texts.specs.Lines.{lines_left}
use Rattle.texts.proofs.Lines.{lines_count}
use Rattle.vetting.specs.Vetting.{with_lines, none, shown_tally}
use Rattle.vetting.specs.Tallies.{tally_of}
use Rattle.vetting.proofs.declarations.Goals as goal

pub loop-line-init : goal.loop-line-init
loop-line-init c =
    let t = c.args.text.now in
    let all : lines_left (option_map (λ x. x.now) c.into_iter-line-iterator.result.rest) ≡ lines_of t = ap (λ s. lines_left (option_map (λ x. x.now) s.rest)) c.into_iter-line-iterator.ensures.into_iter_gives ∙ c.of-line-items.ensures in (
      tt,
      tt,
      ap (λ o. with_lines (record { shown = o; declarations = 0; lines = 0 }) (lines_left (option_map (λ x. x.now) c.into_iter-line-iterator.result.rest))) c.new.ensures.items ∙ ap (with_lines none) all,
      omega (arith, lines_count t, ap length all),
    )

pub returns : goal.returns
returns c =
    let tally = tally_of c.loop-line.tally in
    let whole : tally ≡ with_lines none (lines_of c.args.text.now) = sym (ap (with_lines tally) c.in-None.ensures.steps) ∙ c.loop-line.invariant.2 in
    c.in_ok-extend_from_slice.ensures.items
    ∙ ap (λ b. tally.shown ++ b) (c.as_bytes.ensures.value ∙ c.in_ok-counts.ensures.ok)
    ∙ ap shown_tally whole
