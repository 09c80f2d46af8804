-- Lines that are lawful and find their places, and what they enter.
use Rattle.std.proofs.Common.{◌≡◌, ℕ, ◌+◌, List, [], ◌∷◌, ◌++◌, None, Ok, Option, sym, refl, ap, ◌∙◌, subst, ap₂}
use Rattle.grammar.specs.Grammar.{Named}
use Rattle.grammar.specs.Reading.{lawful, reading}
use Rattle.texts.specs.declared.refusal.Source.{Source}
use Rattle.texts.specs.Texts.{judged, checked_lines}
use Rattle.register.specs.Entries.{Entries, with_names, names_on, with_lines}
use Rattle.register.specs.Places.{Room, first, no_names, no_lines}

-- a line
pub record Reads (r : Room) (line : List ℕ) (e after : Entries) : Type 0 where
  pub held : List Named
  pub is_lawful : reading line ≡ lawful held
  pub enters : with_names e held ≡ after
  pub finds : (source : Source) (k : ℕ) → no_names r source k e held ≡ None

-- lines in turn
abbrev pub ReadsAll : Room → Entries → List (List ℕ) → Entries → Type 0
ReadsAll r e [] after = e ≡ after
ReadsAll r e (line ∷ lines) after = (next : Entries) × Reads r line e next × ReadsAll r next lines after

module _ (r : Room) where
  pub reads_append : (e : Entries) (xs ys : List (List ℕ)) (middle after : Entries) → ReadsAll r e xs middle → ReadsAll r middle ys after → ReadsAll r e (xs ++ ys) after
  reads_append e [] ys middle after p q = subst (λ x. ReadsAll r x ys after) (sym p) q
  reads_append e (x ∷ xs) ys middle after (next, p, ps) q = (next, p, reads_append next xs ys middle after ps q)

  -- an empty line enters nothing
  pub reads_empty : (e : Entries) → ReadsAll r e ([] ∷ []) e
  reads_empty e = (e, record { held = []; is_lawful = refl; enters = refl; finds = λ source k. refl }, refl)

  pub all_entered : (e : Entries) (lines : List (List ℕ)) (after : Entries) → ReadsAll r e lines after → with_lines e lines ≡ after
  all_entered e [] after p = p
  all_entered e (line ∷ lines) after (next, p, ps) =
      ap (λ x. with_lines x lines) (ap (λ o. with_names e (names_on o)) p.is_lawful ∙ p.enters) ∙ all_entered next lines after ps

  pub all_found : (source : Source) (k : ℕ) (e : Entries) (lines : List (List ℕ)) (after : Entries) → ReadsAll r e lines after → no_lines r source k e lines ≡ None
  all_found source k e [] after p = refl
  all_found source k e (line ∷ lines) after (next, p, ps) =
      ap₂ (λ (o : Option _) (x : Entries). first o (no_lines r source (k + 1) x lines))
      (ap (λ o. no_names r source k e (names_on o)) p.is_lawful ∙ p.finds source k)
      (ap (λ o. with_names e (names_on o)) p.is_lawful ∙ p.enters)
      ∙ all_found source (k + 1) next lines after ps

  pub all_lawful : (source : Source) (k : ℕ) (e : Entries) (lines : List (List ℕ)) (after : Entries) → ReadsAll r e lines after → checked_lines source k lines ≡ Ok tt
  all_lawful source k e [] after p = refl
  all_lawful source k e (line ∷ lines) after (next, p, ps) =
      ap (λ o. judged source k o (checked_lines source (k + 1) lines)) p.is_lawful ∙ all_lawful source (k + 1) next lines after ps
