use Rattle.declarations.specs.Books.{state_of}
use Rattle.declarations.specs.Telling.{setup_of}
use Rattle.declarations.proofs.Keeping.{law_kept}
use Rattle.declarations.proofs.claims.every_history_that_a_book_can_have_had_keeps_the_law.Goals as goal

pub returns : goal.returns
returns g c h b t = law_kept g.A.Answerer.count g.A.Answerer.relates (setup_of (state_of b)) h t.right
