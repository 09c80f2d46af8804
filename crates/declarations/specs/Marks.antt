-- What a mark says of what was entered.
use Rattle.std.specs.Prelude.{ℕ, Some, None, Option}
use Rattle.register.specs.Entries.{Entries}
use Rattle.register.specs.Contents.{first_of}
use Rattle.declarations.specs.declared.ticket.Mark.{Mark}

-- how many types and links were entered when the open trial began; none where no trial is open
abbrev pub types_marked : Option Mark → ℕ
types_marked None = 0
types_marked (Some m) = m.types

abbrev pub links_marked : Option Mark → ℕ
links_marked None = 0
links_marked (Some m) = m.links

-- what was laid aside by the trial that is open
abbrev pub aside_of : Option Mark → Entries → Option Entries
aside_of None e = None
aside_of (Some m) e = Some (first_of m.types m.links e)
