-- Texts enter lawful names only.
use Rattle.std.proofs.Common.{◌≡◌, ℕ, List, [], ◌∷◌, map, Some, None, Option, refl}
use Rattle.std.proofs.ByRecursion.{All-push}
use Rattle.names.specs.Finding.{number_in}
use Rattle.grammar.specs.Grammar.{Named}
use Rattle.grammar.specs.Reading.{Outcome, lawful, unlawful, reading}
use Rattle.texts.specs.Texts.{lines_of}
use Rattle.register.specs.Entries.{Entries, entries, number_for, unless_known, with_name, with_base, with_bases, with_names, names_on, with_lines}
use Rattle.printing_meaning.specs.LawfulNames.{LawfulName, LawfulNames, TextsEnterLawfulNames}
use Rattle.printing_meaning.proofs.Lawful.{lines_hold_lawful_names}

unless_known_lem : (o : Option ℕ) (names : List (List ℕ)) (bytes : List ℕ) → LawfulNames names → LawfulName bytes → LawfulNames (unless_known o names bytes)
unless_known_lem (Some k) names bytes h g = h
unless_known_lem None names bytes h g = All-push LawfulName names bytes h g

with_bases_lem : (from : ℕ) (e : Entries) (bases : List Named) → LawfulNames e.names → LawfulNames (map (λ (n : Named). n.bytes) bases) → LawfulNames (with_bases from e bases).names
with_bases_lem from e [] h g = h
with_bases_lem from e (base ∷ bases) h g =
    with_bases_lem from (with_base from e base.bytes) bases (unless_known_lem (number_in e.names base.bytes) e.names base.bytes h g.0) g.1

with_names_lem : (e : Entries) (ns : List Named) → LawfulNames e.names → LawfulNames (map (λ (n : Named). n.bytes) ns) → LawfulNames (with_names e ns).names
with_names_lem e [] h g = h
with_names_lem e (n ∷ ns) h g =
    with_bases_lem (number_for e.names n.bytes) (entries (with_name e.names n.bytes) e.links) ns (unless_known_lem (number_in e.names n.bytes) e.names n.bytes h g.0) g.1

names_on_lem : (line : List ℕ) (o : Outcome) → reading line ≡ o → LawfulNames (map (λ (n : Named). n.bytes) (names_on o))
names_on_lem line (lawful names) e = lines_hold_lawful_names line names e
names_on_lem line (unlawful fault) e = tt

with_lines_lem : (e : Entries) (lines : List (List ℕ)) → LawfulNames e.names → LawfulNames (with_lines e lines).names
with_lines_lem e [] h = h
with_lines_lem e (line ∷ lines) h = with_lines_lem (with_names e (names_on (reading line))) lines (with_names_lem e (names_on (reading line)) h (names_on_lem line (reading line) refl))

pub texts_enter_lawful_names_lem : TextsEnterLawfulNames
texts_enter_lawful_names_lem e shipped own h = with_lines_lem (with_lines e (lines_of shipped)) (lines_of own) (with_lines_lem e (lines_of shipped) h)
