use Rattle.std.proofs.Common.{sym, refl}
use Rattle.grammar.specs.Reading.{fresh, in_word}
use Rattle.grammar.proofs.Leading.{word_refused}
use Rattle.grammar.proofs.cursor.Cursor.word.Goals as goal

pub returns-in_err-end : goal.returns-in_err-end
returns-in_err-end c = word_refused c.args.self _ c.in_err-end.field-0.0 c.from_residual.ensures.1 (λ p ns. c.in_err-end.ensures p fresh in_word ns (sym c.if-not-begins_word.ensures.value, refl))
