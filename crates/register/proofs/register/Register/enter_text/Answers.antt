use Rattle.std.proofs.Common.{◌≡◌, ◌+◌, length, sym, ap, ap₂, ◌∙◌, subst, arith, inl}
use Rattle.std.specs.Option.{option_map}
use Rattle.std.specs.Iterator.Adapters.{enumerate_source, enumerate_count}
use Rattle.texts.specs.declared.text.Lines.{Lines}
use Rattle.texts.specs.Texts.{lines_of}
use Rattle.texts.specs.Lines.{lines_left}
use Rattle.texts.proofs.Lines.{lines_count}
use Rattle.grammar.specs.Reading.{reading}
use Rattle.register.specs.Contents.{contents_of}
use Rattle.register.specs.Entries.{names_on}
use Rattle.register.specs.Places.{no_names}
use Rattle.register.proofs.Growth.{grown_refl}
use Rattle.register.proofs.Going.{Going, lines_lack, lines_enter, lines_on}
use Rattle.register.proofs.register.Register.enter_text.Goals as goal

-- the lines are few enough to be counted

pub loop-before-init : goal.loop-before-init
loop-before-init c =
    let start = contents_of c.args.self.now in
    let same = c.into_iter-before-iterator.ensures.into_iter_gives in
    let all : lines_left (option_map (λ x. x.now) (enumerate_source {I = Lines} c.into_iter-before-iterator.result).rest) ≡ lines_of c.args.text.now =
    ap (λ s. lines_left (option_map (λ x. x.now) (enumerate_source {I = Lines} s).rest)) same ∙ ap (λ s. lines_left (option_map (λ x. x.now) s.rest)) c.enumerate-before-items.ensures.source ∙ c.of.ensures in
    let none : enumerate_count {I = Lines} c.into_iter-before-iterator.result ≡ 0 = ap enumerate_count same ∙ c.enumerate-before-items.ensures.count in (
      (tt, tt, inl (omega (arith, lines_count c.args.text.now, ap length all))),
      tt,
      record { grown = grown_refl start; lacks = ap₂ (λ k ls. lines_lack c.args.source (k + 1) ls start) none all; enters = ap (λ ls. lines_enter ls start) all },
      omega (arith, lines_count c.args.text.now, ap length all, none),
    )

pub loop-before-preserved : goal.loop-before-preserved
loop-before-preserved c =
    let start = contents_of c.args.self.now in
    let here = contents_of c.loop-before.self in
    let next = contents_of c.enter_line.new.self in
    let names = names_on (reading c.in-Some.bytes.now) in
    let lines = lines_of c.args.text.now in
    let left = lines_left (option_map (λ x. x.now) (enumerate_source c.loop-before.before-iterator).rest) in
    let more = lines_left (option_map (λ x. x.now) (enumerate_source c.next.new.self).rest) in
    let step = c.in-Some.ensures.steps in
    let none = ap (λ k. no_names here.room c.args.source (k + 1) here.entries names) (sym step.1) ∙ c.in_ok-enter_line.ensures.0 in
    let on = lines_on c.args.source (enumerate_count c.loop-before.before-iterator + 1) left c.in-Some.bytes.now more step.0 next c.loop-before.invariant.2 none c.in_ok-enter_line.ensures.1 in (
      (tt, tt, inl (omega (arith, c.loop-before.invariant.3, ap length step.0, step.2))),
      tt,
      subst (λ k. Going start (lines_lack c.args.source 1 lines start) (lines_enter lines start) (lines_lack c.args.source (k + 1) more) (lines_enter more) next) (sym step.2) on,
      omega (arith, c.loop-before.invariant.3, ap length step.0, step.2),
    )
