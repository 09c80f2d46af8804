-- The tally of the lines so far, as the code keeps it.
use Rattle.std.specs.Prelude.{vec_items}
use Rattle.vetting.specs.declared.tally.Tally.{Tally as Kept}
use Rattle.vetting.specs.Vetting.{Tally}

abbrev pub tally_of : Kept → Tally
tally_of t = record { shown = vec_items t.shown; declarations = t.declarations; lines = t.lines }
