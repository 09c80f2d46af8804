use Rattle.std.proofs.Common.{◌≡◌, ◌-◌, List, length}
use Rattle.grammar.specs.Grammar.{Named}
use Rattle.grammar.specs.Reading.{Part, fresh, in_word}
use Rattle.grammar.specs.Posts.{reads, Further}
use Rattle.grammar.proofs.cursor.Cursor.word.Given as goal

-- the reading comes to the end of the word so far
abbrev pub invariant-loop-end : goal.invariant-loop-end
invariant-loop-end l = Further l.self l.end × (l.end.depth ≡ l.self.depth) × ((p : Part) (ns : List Named) → reads p fresh ns l.self ≡ reads p in_word ns l.end)

abbrev pub decreases-loop-end : goal.decreases-loop-end
decreases-loop-end l = length l.end.line.now - l.end.pos
