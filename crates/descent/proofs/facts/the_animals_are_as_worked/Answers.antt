use Rattle.std.proofs.Common.{refl, arith}
use Rattle.descent.specs.Computed.{descends}
use Rattle.descent.specs.Links.{Descends}
use Rattle.descent.specs.Worked.{animals}
use Rattle.descent.proofs.Closures.{decides_descends}
use Rattle.descent.proofs.Computing.{flags_computed, nearest_computed}
use Rattle.descent.proofs.Descents.{descends_refl, descends_trans}
use Rattle.descent.proofs.Strays.{within_from_no_stray}
use Rattle.descent.proofs.facts.the_animals_are_as_worked.Goals as goal

pub returns : goal.returns
returns c = (
  refl,
  refl,
  refl,
  refl,
  flags_computed 4 (descends animals) (Descends animals) (λ a b _ _. decides_descends animals a b) animals (within_from_no_stray 4 animals refl),
  nearest_computed 4 (descends animals) (Descends animals) (λ a b _ _. decides_descends animals a b) (λ x _. descends_refl animals x) (descends_trans animals) 0 3 (omega arith) (omega arith),
  nearest_computed 4 (λ a b. descends animals b a) (λ a b. Descends animals b a) (λ a b _ _. decides_descends animals b a) (λ x _. descends_refl animals x) (λ x y z p q. descends_trans animals z y x q p) 1 3 (omega arith) (omega arith),
)
