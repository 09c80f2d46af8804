use Rattle.std.proofs.Common.{◌≡◌, take, vec_items}
use Rattle.declarations.specs.Books.{state_of}
use Rattle.declarations.specs.Telling.{setup_of}
use Rattle.declarations.proofs.Running.{Under}
use Rattle.declarations.proofs.run.run.Given as goal

-- the calls made so far, with their answers, are a history that the book has had
abbrev pub invariant-loop-call : goal.invariant-loop-call
invariant-loop-call g l =
    (setup_of (state_of l.book) ≡ setup_of (state_of l.initial.book))
    × Under g.D.Decomposer.gives (take l.call-index l.calls) (vec_items l.answers) (state_of l.book)
