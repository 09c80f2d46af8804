-- Whether what texts enter finds its places, name by name, and what a load answers.
use Rattle.std.specs.Prelude.{ℕ, ◌+◌, cond, ◌&&◌, List, [], ◌∷◌, length, Some, None, Ok, Err, Option, Result, nat_lt}
use Rattle.descent.specs.declared.link.Link.{Link}
use Rattle.descent.specs.Links.{link}
use Rattle.hierarchy.specs.Entering.{has_link}
use Rattle.names.specs.declared.refusal.Entry.{Entry}
use Rattle.names.specs.declared.refusal.Refusal.{Refusal as NameRefusal}
use Rattle.names.specs.declared.refusal.Refusal.TheVariants.{NoTypePlace as NoEntry, NoBytePlace as NoBytes}
use Rattle.names.specs.Entering.{enter_answer}
use Rattle.grammar.specs.Grammar.{Named}
use Rattle.grammar.specs.Reading.{reading}
use Rattle.texts.specs.declared.refusal.Source.{Source}
use Rattle.texts.specs.declared.refusal.Source.TheVariants.{Shipped, Own}
use Rattle.texts.specs.declared.refusal.Place.{Place}
use Rattle.texts.specs.declared.refusal.Refusal.{Refusal as TextRefusal}
use Rattle.texts.specs.Refusals.{place}
use Rattle.texts.specs.Texts.{lines_of, checked_texts}
use Rattle.register.specs.declared.refusal.Refusal.{Refusal}
use Rattle.register.specs.declared.refusal.Refusal.TheVariants.{Text, NoTypePlace, NoBytePlace, NoLinkPlace}
use Rattle.register.specs.Entries.{Entries, entries, number_for, with_name, with_base, with_names, with_lines, names_on}

-- how many bytes the pool has, and how many entries the name table and the link table
pub record Room : Type 0 where
  pub pool : ℕ
  pub names : ℕ
  pub links : ℕ

abbrev pub room : ℕ → ℕ → ℕ → Room
room pool names links = record { pool = pool; names = names; links = links }

-- the first of two refusals
abbrev pub first : Option Refusal → Option Refusal → Option Refusal
first (Some refusal) next = Some refusal
first None next = next

abbrev pub name_refusal : Place → Result Entry NameRefusal → Option Refusal
name_refusal at (Ok entry) = None
name_refusal at (Err NoEntry) = Some (NoTypePlace at)
name_refusal at (Err NoBytes) = Some (NoBytePlace at)

-- a new name needs an entry of the name table, and its bytes of the pool
abbrev pub no_name : Room → List (List ℕ) → List ℕ → Place → Option Refusal
no_name r names bytes at = name_refusal at (enter_answer r.pool r.names names bytes)

-- a new link needs an entry of the link table
abbrev pub no_link_place : Room → List Link → Link → Place → Option Refusal
no_link_place r links l at =
    cond (has_link links l.from l.to) None
    (cond (nat_lt (length links) r.links && nat_lt (length links) 8192) None (Some (NoLinkPlace at)))

abbrev pub no_base : Room → ℕ → Entries → List ℕ → Place → Option Refusal
no_base r from e base at = first (no_name r e.names base at) (no_link_place r e.links (link from (number_for e.names base)) at)

abbrev pub no_bases : Room → Source → ℕ → ℕ → Entries → List Named → Option Refusal
no_bases r source line from e [] = None
no_bases r source line from e (base ∷ bases) =
    first (no_base r from e base.bytes (place source line base.column)) (no_bases r source line from (with_base from e base.bytes) bases)

abbrev pub no_names : Room → Source → ℕ → Entries → List Named → Option Refusal
no_names r source line e [] = None
no_names r source line e (name ∷ bases) =
    first (no_name r e.names name.bytes (place source line name.column))
    (no_bases r source line (number_for e.names name.bytes) (entries (with_name e.names name.bytes) e.links) bases)

-- the lines of a text from number k on
abbrev pub no_lines : Room → Source → ℕ → Entries → List (List ℕ) → Option Refusal
no_lines r source k e [] = None
no_lines r source k e (line ∷ lines) = first (no_names r source k e (names_on (reading line))) (no_lines r source (k + 1) (with_names e (names_on (reading line))) lines)

abbrev pub no_texts : Room → Entries → List ℕ → List ℕ → Option Refusal
no_texts r e shipped own = first (no_lines r Shipped 1 e (lines_of shipped)) (no_lines r Own 1 (with_lines e (lines_of shipped)) (lines_of own))

abbrev pub or_else : Option Refusal → Result (Unit {0}) Refusal
or_else None = Ok tt
or_else (Some refusal) = Err refusal

abbrev pub once_lawful : Result (Unit {0}) TextRefusal → Option Refusal → Result (Unit {0}) Refusal
once_lawful (Ok lawful) next = or_else next
once_lawful (Err refusal) next = Err (Text refusal)

-- the texts are lawful; then, name by name, all finds its place
abbrev pub load_answer : Room → Entries → List ℕ → List ℕ → Result (Unit {0}) Refusal
load_answer r e shipped own = once_lawful (checked_texts shipped own) (no_texts r e shipped own)
