use Rattle.std.proofs.Common.{◌≡◌, sym, ap, codes, rules, arith}
use Rattle.std.proofs.lemmas.Slice.Eq.{text_from_reads}
use Rattle.script.specs.Lines.{keyword_of}
use Rattle.script.proofs.line.keyword_of.Goals as goal

pub returns-in-tables : goal.returns-in-tables
returns-in-tables c = let same : c.args.word.now ≡ codes "tables" = text_from_reads c.args.word.now (codes "tables") (omega arith) (search rules) in sym (ap keyword_of same)

pub returns-in-shipped : goal.returns-in-shipped
returns-in-shipped c = let same : c.args.word.now ≡ codes "shipped" = text_from_reads c.args.word.now (codes "shipped") (omega arith) (search rules) in sym (ap keyword_of same)

pub returns-in-withdraw : goal.returns-in-withdraw
returns-in-withdraw c = let same : c.args.word.now ≡ codes "withdraw" = text_from_reads c.args.word.now (codes "withdraw") (omega arith) (search rules) in sym (ap keyword_of same)

pub returns-in-settle : goal.returns-in-settle
returns-in-settle c = let same : c.args.word.now ≡ codes "settle" = text_from_reads c.args.word.now (codes "settle") (omega arith) (search rules) in sym (ap keyword_of same)
