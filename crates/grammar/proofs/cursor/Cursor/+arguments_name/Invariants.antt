use Rattle.std.proofs.Common.{◌+◌, ◌-◌, ◌*◌, length}
use Rattle.grammar.proofs.cursor.Cursor.+arguments_name.Given as goal

abbrev pub decreases-arguments : goal.decreases-arguments
decreases-arguments l = 2 * (length l.self.line.now - l.self.pos) + 1

abbrev pub decreases-name : goal.decreases-name
decreases-name l = 2 * (length l.self.line.now - l.self.pos)
