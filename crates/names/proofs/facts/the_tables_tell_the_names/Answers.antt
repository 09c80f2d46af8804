use Rattle.std.proofs.Common.{length, refl}
use Rattle.names.specs.Tables.{pool_of, spans_of}
use Rattle.names.proofs.Laying.{named}
use Rattle.names.proofs.facts.the_tables_tell_the_names.Goals as goal

pub returns : goal.returns
returns c names size places = named (pool_of names size) (spans_of names places) size places (length names) names refl refl refl
