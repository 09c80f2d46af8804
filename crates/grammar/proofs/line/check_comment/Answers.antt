use Rattle.grammar.proofs.Comments.{comment_found, comment_lawful}
use Rattle.grammar.proofs.line.check_comment.Goals as goal

pub returns-in-Some : goal.returns-in-Some
returns-in-Some c = comment_found c.args.rest.now c.in-Some.place c.in-Some.ensures

pub returns-in-None : goal.returns-in-None
returns-in-None c = comment_lawful c.args.rest.now c.in-None.ensures
