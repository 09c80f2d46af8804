-- What the parts of a load do: they enter something, or stop at a refusal with some of it entered. Whether it is settled
-- then is not told here: a load ends that once all is entered.
use Rattle.std.specs.Prelude.{◌≡◌, ℕ, List, ◌++◌, Some, None, Ok, Err, Option, Result}
use Rattle.descent.specs.declared.link.Link.{Link}
use Rattle.texts.specs.declared.refusal.Place.{Place}
use Rattle.register.specs.declared.refusal.Refusal.{Refusal}
use Rattle.register.specs.declared.refusal.Unloaded.{Unloaded}
use Rattle.register.specs.declared.refusal.Unloaded.TheVariants.{Refused, NoMemory}
use Rattle.register.specs.Entries.{Entries, entries, number_for, with_name}
use Rattle.register.specs.Places.{no_name}
use Rattle.register.specs.Contents.{Contents, changed, unsettled}

-- nothing but entries came in, after those that there were
pub record Grown (before after : Contents) : Type 0 where
  pub same : unsettled after ≡ changed before after.entries
  pub more_names : List (List ℕ)
  pub names : after.entries.names ≡ before.entries.names ++ more_names
  pub more_links : List Link
  pub links : after.entries.links ≡ before.entries.links ++ more_links

-- a name is entered and its number answered, or refused with nothing changed
abbrev pub NameEnters : Contents → List ℕ → Place → Result ℕ Refusal → Contents → Type 0
NameEnters c bytes at (Ok number) after =
    (no_name c.room c.entries.names bytes at ≡ None) × (number ≡ number_for c.entries.names bytes)
    × (unsettled after ≡ changed c (entries (with_name c.entries.names bytes) c.entries.links))
NameEnters c bytes at (Err refusal) after = (no_name c.room c.entries.names bytes at ≡ Some refusal) × (after ≡ c)

-- all finds its place and is entered, or else the first that finds none is refused
abbrev pub Enters : Option Refusal → Entries → Contents → Result (Unit {0}) Refusal → Contents → Type 0
Enters missing e c (Ok entered) after = (missing ≡ None) × (unsettled after ≡ changed c e)
Enters missing e c (Err refusal) after = (missing ≡ Some refusal) × Grown c after

-- the same, want of memory apart
abbrev pub EntersUnless : Option Refusal → Entries → Contents → Result (Unit {0}) Unloaded → Contents → Type 0
EntersUnless missing e c (Ok entered) after = (missing ≡ None) × (unsettled after ≡ changed c e)
EntersUnless missing e c (Err (Refused refusal)) after = (missing ≡ Some refusal) × Grown c after
EntersUnless missing e c (Err NoMemory) after = Grown c after
