-- A printed book reads back.
use Rattle.std.proofs.Common.{◌≡◌, ℕ, ◌≤◌, ltb, List, [], ◌∷◌, ◌++◌, length, None, Ok, Err, Option, Result, sym, refl, ap, subst, ap₂, arith}
use Rattle.std.specs.List.{AllByRecursion}
use Rattle.std.proofs.ByRecursion.{All-weaker}
use Rattle.std.proofs.lemmas.Bool.{cond-false, le-ltb}
use Rattle.descent.specs.declared.link.Link.{Link}
use Rattle.descent.specs.Links.{Linked}
use Rattle.texts.specs.declared.refusal.Source.TheVariants.{Own}
use Rattle.texts.specs.declared.refusal.Refusal.{Refusal as TextRefusal}
use Rattle.texts.specs.declared.refusal.Refusal.TheVariants.{TooLong}
use Rattle.texts.specs.Texts.{lines_of, then, checked_texts}
use Rattle.register.specs.declared.refusal.Refusal.{Refusal}
use Rattle.register.specs.Entries.{Entries, entries, nothing}
use Rattle.register.specs.Places.{Room, no_texts, once_lawful}
use Rattle.printing.specs.Printed.{printed}
use Rattle.printing_meaning.specs.LawfulNames.{LawfulName}
use Rattle.printing_meaning.specs.RoundTrip.{Printable, ReadsBack, read_back, PrintedBooksReadBack}
use Rattle.printing_meaning.proofs.Lawful.{Good, good_from_lawful}
use Rattle.printing_meaning.proofs.Having.{has_from_linked, linked_from_has}
use Rattle.printing_meaning.proofs.PrintedLinks.{type_links, types_had, types_have, before-none}
use Rattle.printing_meaning.proofs.Fewness.{few_printed}
use Rattle.printing_meaning.proofs.TextLines.{type_texts, printed_lines}
use Rattle.printing_meaning.proofs.Lengths.{printed_long}
use Rattle.printing_meaning.proofs.Numbered.{numbered}
use Rattle.printing_meaning.proofs.LinesRead.{ReadsAll, reads_append, reads_empty, all_entered, all_found, all_lawful}
use Rattle.printing_meaning.proofs.NamesRead.{names_read}
use Rattle.printing_meaning.proofs.TypesRead.{types_read}

module _ (types : List (List ℕ)) (kept : List Link) (r : Room) (p : Printable types kept r) where
  good : AllByRecursion Good types
  good = All-weaker LawfulName Good good_from_lawful types p.lawful

  abbrev links : List Link
  links = type_links kept types 0 types

  fewer : length links ≤ length kept
  fewer = few_printed kept types 0 types

  lines_read : ReadsAll r nothing (types ++ (type_texts kept types 0 types ++ ([] ∷ []))) (entries types links)
  lines_read =
      let a = p.few_links.0 in
      let b = p.few_links.1 in
      let numbers = numbered types p.different in
      reads_append r nothing types (type_texts kept types 0 types ++ ([] ∷ [])) (entries types []) (entries types links)
      (names_read r types p.different (record { types = p.few_types; bytes = p.few_bytes }) [] types refl p.lawful)
      (reads_append r (entries types []) (type_texts kept types 0 types) ([] ∷ []) (entries types links) (entries types links)
      (types_read r types kept good numbers 0 types [] good numbers (before-none 0 0) (omega (arith, fewer), omega (arith, fewer)))
      (reads_empty r (entries types links)))

  text_read : ReadsAll r nothing (lines_of (printed types kept)) (entries types links)
  text_read = subst (λ ls. ReadsAll r nothing ls (entries types links)) (sym (printed_lines types kept good)) lines_read

  entered : read_back types kept ≡ entries types links
  entered = all_entered r nothing (lines_of (printed types kept)) (entries types links) text_read

  lawful_texts : checked_texts [] (printed types kept) ≡ Ok tt
  lawful_texts =
      let text = printed types kept in
      let long = printed_long types kept good p.few_types.1 p.few_bytes.1 (omega (arith, fewer, p.few_links.1)) in
      ap₂ (λ (x y : Result (Unit {0}) TextRefusal). then x y)
      (cond-false (ltb 1048576 (length text)) (Err (TooLong Own)) (Ok tt) (le-ltb 1048576 (length text) long))
      (all_lawful r Own 1 nothing (lines_of text) (entries types links) text_read)

  places_found : no_texts r nothing [] (printed types kept) ≡ None
  places_found = all_found r Own 1 nothing (lines_of (printed types kept)) (entries types links) text_read

  pub reads_back : ReadsBack types kept r
  reads_back =
      record {
        accepted = ap₂ (λ (x : Result (Unit {0}) TextRefusal) (y : Option Refusal). once_lawful x y) lawful_texts places_found;
        same_types = ap (λ (e : Entries). e.names) entered;
        no_more_links = λ a b l.
            linked_from_has kept a b (types_had kept types 0 types a b (has_from_linked links a b (subst (λ (e : Entries). Linked e.links a b) entered l)));
        all_links = λ a b l.
            let (k, h, e, f) = l in
            let ends = p.within k h in
            let from = ends.0 in
            let to = ends.1 in
            subst (λ (e : Entries). Linked e.links a b) (sym entered)
            (linked_from_has links a b (types_have kept types 0 types a b (omega arith) (omega arith) (omega arith) (has_from_linked kept a b l)));
      }

pub printed_books_read_back : PrintedBooksReadBack
printed_books_read_back types kept r p = reads_back types kept r p
