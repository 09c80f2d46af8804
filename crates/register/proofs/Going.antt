-- A load under way: what is left to enter decides.
use Rattle.std.proofs.Common.{◌≡◌, ℕ, ◌+◌, ◌<◌, List, [], ◌∷◌, map, length, get_or, drop, None, Ok, Err, Option, Result, sym, ap, ◌∙◌, arith}
use Rattle.std.proofs.lemmas.List.{at_drop_more}
use Rattle.grammar.specs.declared.declaration.Name.{Name}
use Rattle.grammar.specs.Declarations.{name_of}
use Rattle.grammar.specs.Grammar.{Named}
use Rattle.grammar.specs.Reading.{reading}
use Rattle.texts.specs.declared.refusal.Source.{Source}
use Rattle.texts.specs.declared.refusal.Source.TheVariants.{Own}
use Rattle.texts.specs.Refusals.{place}
use Rattle.register.specs.declared.refusal.Refusal.{Refusal}
use Rattle.register.specs.declared.refusal.Unloaded.{Unloaded}
use Rattle.register.specs.declared.refusal.Unloaded.TheVariants.{Refused, NoMemory}
use Rattle.register.specs.Entries.{Entries, entries, number_for, with_name, with_base, with_bases, with_names, with_lines, names_on}
use Rattle.register.specs.Places.{first, no_base, no_bases, no_names, no_lines}
use Rattle.register.specs.Contents.{Contents, changed, unsettled}
use Rattle.register.specs.Growing.{Grown, NameEnters, Enters, EntersUnless}
use Rattle.texts.specs.declared.refusal.Place.{Place}
use Rattle.register.proofs.Parts.{number_below}
use Rattle.register.proofs.Growth.{grown_name, grown-base, grown_self, grown_trans, grown_is}

pub grown_bases : (c : Contents) (e : Entries) (from : ℕ) (bases : List Named) → Grown c (changed c e) → Grown c (changed c (with_bases from e bases))
grown_bases c e from [] g = g
grown_bases c e from (base ∷ bases) g = grown_bases c (with_base from e base.bytes) from bases (grown_trans g (grown-base (changed c e) from base.bytes))

pub grown_names : (c : Contents) (e : Entries) (names : List Named) → Grown c (changed c e) → Grown c (changed c (with_names e names))
grown_names c e [] g = g
grown_names c e (name ∷ bases) g = grown_bases c (entries (with_name e.names name.bytes) e.links) (number_for e.names name.bytes) bases (grown_trans g (grown_name (changed c e) name.bytes))

pub grown_lines : (c : Contents) (e : Entries) (lines : List (List ℕ)) → Grown c (changed c e) → Grown c (changed c (with_lines e lines))
grown_lines c e [] g = g
grown_lines c e (line ∷ lines) g = grown_lines c (with_names e (names_on (reading line))) lines (grown_names c e (names_on (reading line)) g)

-- from the contents at the start: what then is missing and what all enters, by what is left now, settled or not
pub record Going (start : Contents) (missing : Option Refusal) (all : Entries) (left : Contents → Option Refusal) (rest : Contents → Entries) (here : Contents) : Type 0 where
  pub grown : Grown start here
  pub lacks : left (unsettled here) ≡ missing
  pub enters : rest (unsettled here) ≡ all

module _ {start here next : Contents} {missing : Option Refusal} {all : Entries} (left left' : Contents → Option Refusal) (rest rest' : Contents → Entries) (lack : Option Refusal) (part : Entries) where
  -- a part was entered
  pub going_on : Going start missing all left rest here → left (unsettled here) ≡ first lack (left' (changed here part)) → rest (unsettled here) ≡ rest' (changed here part) → Grown here (changed here part)
      → lack ≡ None → unsettled next ≡ changed here part → Going start missing all left' rest' next
  going_on g splits goes more none is = record {
    grown = grown_is is (grown_trans g.grown more);
    lacks = ap left' is ∙ sym (ap (λ o. first o (left' (changed here part))) none) ∙ sym splits ∙ g.lacks;
    enters = ap rest' is ∙ sym goes ∙ g.enters;
  }

-- what bases, and lines from number k on, lack and enter
abbrev pub bases_lack : Source → ℕ → ℕ → List Name → Contents → Option Refusal
bases_lack source line from bases c = no_bases c.room source line from c.entries (map name_of bases)

abbrev pub bases_enter : ℕ → List Name → Contents → Entries
bases_enter from bases c = with_bases from c.entries (map name_of bases)

abbrev pub lines_lack : Source → ℕ → List (List ℕ) → Contents → Option Refusal
lines_lack source k lines c = no_lines c.room source k c.entries lines

abbrev pub lines_enter : List (List ℕ) → Contents → Entries
lines_enter lines c = with_lines c.entries lines

bases_split : (source : Source) (line from : ℕ) (bases : List Name) (i : ℕ) (d : Name) → i < length bases → (here : Contents) → bases_lack source line from (drop i bases) here ≡ first (no_base here.room from here.entries (name_of (get_or bases i d)).bytes (place source line (name_of (get_or bases i d)).column)) (bases_lack source line from (drop (i + 1) bases) (changed here (with_base from here.entries (name_of (get_or bases i d)).bytes)))
bases_split source line from bases i d h here = at_drop_more (λ bs. bases_lack source line from bs here) bases i d h

module _ (source : Source) (line from : ℕ) (bases : List Name) (i : ℕ) (d : Name) (h : i < length bases) {start here next : Contents} {missing : Option Refusal} {all : Entries} where
  pub bases_on : Going start missing all (bases_lack source line from (drop i bases)) (bases_enter from (drop i bases)) here
      → no_base here.room from here.entries (name_of (get_or bases i d)).bytes (place source line (name_of (get_or bases i d)).column) ≡ None
      → unsettled next ≡ changed here (with_base from here.entries (name_of (get_or bases i d)).bytes)
      → Going start missing all (bases_lack source line from (drop (i + 1) bases)) (bases_enter from (drop (i + 1) bases)) next
  bases_on g none is =
      going_on (bases_lack source line from (drop i bases)) (bases_lack source line from (drop (i + 1) bases)) (bases_enter from (drop i bases)) (bases_enter from (drop (i + 1) bases))
      (no_base here.room from here.entries (name_of (get_or bases i d)).bytes (place source line (name_of (get_or bases i d)).column))
      (with_base from here.entries (name_of (get_or bases i d)).bytes)
      g (bases_split source line from bases i d h here) (at_drop_more (λ bs. bases_enter from bs here) bases i d h) (grown-base here from (name_of (get_or bases i d)).bytes) none is

-- the first name of a line found no place
pub name_off : (start after : Contents) (source : Source) (line : ℕ) (name : Named) (bases : List Named) (refusal : Refusal) → NameEnters start name.bytes (place source line name.column) (Err refusal) after
    → Enters (no_names start.room source line start.entries (name ∷ bases)) (with_names start.entries (name ∷ bases)) start (Err refusal) after
name_off start after source line name bases refusal h =
    (ap (λ o. first o (no_bases start.room source line (number_for start.entries.names name.bytes) (entries (with_name start.entries.names name.bytes) start.entries.links) bases)) h.0, grown_is (ap unsettled h.1) (grown_self start))

-- it was entered, and so were, or not, the bases
pub names_then : (start middle after : Contents) (source : Source) (line number : ℕ) (name : Named) (bases : List Named) (r : Result (Unit {0}) Refusal)
    → NameEnters start name.bytes (place source line name.column) (Ok number) middle
    → Enters (no_bases middle.room source line number middle.entries bases) (with_bases number middle.entries bases) middle r after
    → Enters (no_names start.room source line start.entries (name ∷ bases)) (with_names start.entries (name ∷ bases)) start r after
names_then start middle after source line number name bases (Ok u) h g =
    let m = h.2 in (
      ap (λ o. first o (no_bases start.room source line (number_for start.entries.names name.bytes) (entries (with_name start.entries.names name.bytes) start.entries.links) bases)) h.0
          ∙ ap (λ k. no_bases start.room source line k (entries (with_name start.entries.names name.bytes) start.entries.links) bases) (sym h.1)
          ∙ ap (λ (c : Contents). no_bases c.room source line number c.entries bases) (sym m)
          ∙ g.0,
      g.1 ∙ ap (λ (c : Contents). changed c (with_bases number c.entries bases)) m ∙ ap (λ k. changed start (with_bases k (entries (with_name start.entries.names name.bytes) start.entries.links) bases)) h.1,
    )
names_then start middle after source line number name bases (Err refusal) h g =
    let m = h.2 in (
      ap (λ o. first o (no_bases start.room source line (number_for start.entries.names name.bytes) (entries (with_name start.entries.names name.bytes) start.entries.links) bases)) h.0
          ∙ ap (λ k. no_bases start.room source line k (entries (with_name start.entries.names name.bytes) start.entries.links) bases) (sym h.1)
          ∙ ap (λ (c : Contents). no_bases c.room source line number c.entries bases) (sym m)
          ∙ g.0,
      grown_trans (grown_is m (grown_name start name.bytes)) g.1,
    )

-- it is below the number of names then
pub name_first : (start after : Contents) (bytes : List ℕ) (at : Place) (number : ℕ) → NameEnters start bytes at (Ok number) after → number < length after.entries.names
name_first start after bytes at number h = omega (arith, h.1, number_below start.entries.names bytes, ap (λ (c : Contents). length c.entries.names) h.2)

module _ (source : Source) (number : ℕ) (lines : List (List ℕ)) (line : List ℕ) (more : List (List ℕ)) (step : lines ≡ line ∷ more) {start here : Contents} (next : Contents) {missing : Option Refusal} {all : Entries} where
  -- a line was entered
  pub lines_on : Going start missing all (lines_lack source number lines) (lines_enter lines) here
      → no_names here.room source number here.entries (names_on (reading line)) ≡ None
      → unsettled next ≡ changed here (with_names here.entries (names_on (reading line)))
      → Going start missing all (lines_lack source (number + 1) more) (lines_enter more) next
  lines_on g none is =
      going_on (lines_lack source number lines) (lines_lack source (number + 1) more) (lines_enter lines) (lines_enter more)
      (no_names here.room source number here.entries (names_on (reading line))) (with_names here.entries (names_on (reading line)))
      g (ap (λ ls. lines_lack source number ls here) step) (ap (λ ls. lines_enter ls here) step) (grown_names here here.entries (names_on (reading line)) (grown_self here)) none is

pub texts-then : (start middle after : Contents) (lack : Option Refusal) (shipped own : List (List ℕ)) (r : Result (Unit {0}) Unloaded)
    → lack ≡ None → unsettled middle ≡ changed start (with_lines start.entries shipped)
    → EntersUnless (lines_lack Own 1 own middle) (lines_enter own middle) middle r after
    → EntersUnless (first lack (lines_lack Own 1 own (changed start (with_lines start.entries shipped)))) (lines_enter own (changed start (with_lines start.entries shipped))) start r after
texts-then start middle after lack shipped own (Ok u) none is h = (
  ap (λ o. first o (lines_lack Own 1 own (changed start (with_lines start.entries shipped)))) none ∙ ap (lines_lack Own 1 own) (sym is) ∙ h.0,
  h.1 ∙ ap (λ c. changed c (lines_enter own c)) is,
)
texts-then start middle after lack shipped own (Err (Refused refusal)) none is h = (
  ap (λ o. first o (lines_lack Own 1 own (changed start (with_lines start.entries shipped)))) none ∙ ap (lines_lack Own 1 own) (sym is) ∙ h.0,
  grown_trans (grown_is is (grown_lines start start.entries shipped (grown_self start))) h.1,
)
texts-then start middle after lack shipped own (Err NoMemory) none is h = grown_trans (grown_is is (grown_lines start start.entries shipped (grown_self start))) h
