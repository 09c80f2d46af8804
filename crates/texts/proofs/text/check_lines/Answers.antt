use Rattle.std.proofs.Common.{◌≡◌, ◌+◌, length, ap, ap₂, ◌∙◌, arith, inl}
use Rattle.std.specs.Option.{option_map}
use Rattle.std.specs.Iterator.Adapters.{enumerate_source, enumerate_count}
use Rattle.texts.specs.declared.text.Lines.{Lines}
use Rattle.texts.specs.Texts.{lines_of, checked_lines}
use Rattle.texts.specs.Lines.{lines_left}
use Rattle.texts.proofs.Lines.{lines_count}
use Rattle.texts.proofs.text.check_lines.Goals as goal

-- the lines are few enough to be counted
pub loop-before-init : goal.loop-before-init
loop-before-init c =
    let same = c.into_iter-before-iterator.ensures.into_iter_gives in
    let all : lines_left (option_map (λ x. x.now) (enumerate_source {I = Lines} c.into_iter-before-iterator.result).rest) ≡ lines_of c.args.text.now =
    ap (λ s. lines_left (option_map (λ x. x.now) (enumerate_source {I = Lines} s).rest)) same ∙ ap (λ s. lines_left (option_map (λ x. x.now) s.rest)) c.enumerate-before-items.ensures.source ∙ c.of.ensures in
    let none : enumerate_count {I = Lines} c.into_iter-before-iterator.result ≡ 0 = ap enumerate_count same ∙ c.enumerate-before-items.ensures.count in
    ((tt, tt, inl (omega (arith, lines_count c.args.text.now, ap length all))), tt, ap₂ (λ k ls. checked_lines c.args.source (k + 1) ls) none all)
