-- Lines of one new name each.
use Rattle.std.proofs.Common.{◌≡◌, ℕ, ◌+◌, ◌≤◌, cond, List, [], ◌∷◌, ◌++◌, length, None, Ok, Err, Option, Result, sym, ap, ◌∙◌, subst, ap₂, append_assoc, append-nil, arith}
use Rattle.std.proofs.lemmas.List.{length-append}
use Rattle.std.proofs.lemmas.Bool.{cond-true, and_from, lt-ltb, le-leb}
use Rattle.names.specs.declared.refusal.Refusal.{Refusal as NameRefusal}
use Rattle.names.specs.declared.refusal.Refusal.TheVariants.{NoTypePlace as NoEntry, NoBytePlace as NoBytes}
use Rattle.names.specs.Limits.{most_types, most_bytes}
use Rattle.names.specs.Tables.{bytes_of, Different}
use Rattle.names.specs.Finding.{number_in}
use Rattle.names.specs.Entering.{has_entry, has_bytes, place_answer, answer_by}
use Rattle.names.proofs.Laying.{bytes_of-append}
use Rattle.grammar.specs.Grammar.{named}
use Rattle.texts.specs.declared.refusal.Place.{Place}
use Rattle.register.specs.Entries.{entries, unless_known}
use Rattle.register.specs.Places.{Room, first, name_refusal, no_name}
use Rattle.printing_meaning.specs.LawfulNames.{LawfulName, LawfulNames}
use Rattle.printing_meaning.proofs.Numbered.{new_name}
use Rattle.printing_meaning.proofs.LinesRead.{Reads, ReadsAll}

-- names that find their places
pub record Fit (r : Room) (names : List (List ℕ)) : Type 0 where
  pub types : (length names ≤ r.names) × (length names ≤ most_types)
  pub bytes : (length (bytes_of names) ≤ r.pool) × (length (bytes_of names) ≤ most_bytes)

module _ (r : Room) (all : List (List ℕ)) (different : Different all) (fit : Fit r all) where
  -- the next of the names
  module _ (done : List (List ℕ)) (name : List ℕ) (more : List (List ℕ)) (is : done ++ (name ∷ more) ≡ all) where
    new : number_in done name ≡ None
    new = new_name done name more (subst Different (sym is) different)

    place_found : place_answer r.pool r.names done (length name) ≡ Ok tt
    place_found =
        let types = length-append done (name ∷ more) in
        let all_types = ap length is in
        let bytes = ap length (bytes_of-append done (name ∷ more)) ∙ length-append (bytes_of done) (name ++ bytes_of more) in
        let name-bytes = length-append name (bytes_of more) in
        let all-bytes = ap (λ l. length (bytes_of l)) is in
        let inner : Result (Unit {0}) NameRefusal = cond (has_bytes r.pool done (length name)) (Ok tt) (Err NoBytes) in
        cond-true (has_entry r.names done) inner (Err NoEntry)
        (and_from _ _ (lt-ltb (length done) r.names (omega (arith, fit.types.0))) (lt-ltb (length done) most_types (omega (arith, fit.types.1))))
        ∙ cond-true (has_bytes r.pool done (length name)) (Ok tt) (Err NoBytes)
        (and_from _ _ (le-leb (length (bytes_of done) + length name) r.pool (omega (arith, fit.bytes.0))) (le-leb (length (bytes_of done) + length name) most_bytes (omega (arith, fit.bytes.1))))

    name_found : (at : Place) → no_name r done name at ≡ None
    name_found at = ap₂ (λ (o : Option ℕ) (p : Result (Unit {0}) NameRefusal). name_refusal at (answer_by o p (length done))) new place_found

    pub name_reads : LawfulName name → Reads r name (entries done []) (entries (done ++ (name ∷ [])) [])
    name_reads lawful =
        record {
          held = named 1 name ∷ [];
          is_lawful = lawful;
          enters = ap (λ o. entries (unless_known o done name) []) new;
          finds = λ source k. ap (λ o. first o None) (name_found (record { source = source; line = k; column = 1 }));
        }

  pub names_read : (done todo : List (List ℕ)) → done ++ todo ≡ all → LawfulNames todo → ReadsAll r (entries done []) todo (entries all [])
  names_read done [] is h = ap (λ l. entries l []) (sym (append-nil done) ∙ is)
  names_read done (name ∷ todo) is h =
      (entries (done ++ (name ∷ [])) [], name_reads done name todo is h.0, names_read (done ++ (name ∷ [])) todo (append_assoc done (name ∷ []) todo ∙ is) h.1)
