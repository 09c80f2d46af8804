use Rattle.std.proofs.Common.{rules, length, ap}
use Rattle.std.specs.Option.{option_map}
use Rattle.texts.proofs.Lines.{lines_step}
use Rattle.texts.proofs.text.LinesIterator.next.Goals as goal

pub returns-clause-steps : goal.returns-clause-steps
returns-clause-steps c = lines_step _ _ c.in_ok-self.field-0.now _ (ap (option_map (λ x. x.now)) c.in_ok-self.was) c.split_at_byte.ensures.before c.split_at_byte.ensures.after

pub returns-clause-goes : goal.returns-clause-goes
returns-clause-goes c =
    let e = lines_step (option_map (λ x. x.now) c.args.self.now.rest) (option_map (λ x. x.now) c.split_at_byte.result.1) c.in_ok-self.field-0.now c.split_at_byte.result.0.now (ap (option_map (λ x. x.now)) c.in_ok-self.was) c.split_at_byte.ensures.before c.split_at_byte.ensures.after in
    let f = ap length e in
    search rules
