-- What entering a name and taking names back answer, and which names there are then.
use Rattle.std.specs.Prelude.{◌≡◌, ℕ, ◌+◌, Bool, cond, ◌&&◌, List, [], ◌∷◌, ◌++◌, length, take, Some, None, Ok, Err, Option, Result, nat_le, nat_lt}
use Rattle.names.specs.declared.refusal.Entry.{Entry}
use Rattle.names.specs.declared.refusal.Entry.TheVariants.{Known, New}
use Rattle.names.specs.declared.refusal.Refusal.{Refusal}
use Rattle.names.specs.declared.refusal.Refusal.TheVariants.{NoTypePlace, NoBytePlace}
use Rattle.names.specs.declared.refusal.NotEntered.{NotEntered}
use Rattle.names.specs.Limits.{most_types, most_bytes}
use Rattle.names.specs.Tables.{bytes_of}
use Rattle.names.specs.Finding.{number_in}

-- a name table of `places` entries has one for one type more
abbrev pub has_entry : ℕ → List (List ℕ) → Bool
has_entry places names = nat_lt (length names) places && nat_lt (length names) most_types

-- a pool of `size` bytes has a place for that many bytes more
abbrev pub has_bytes : ℕ → List (List ℕ) → ℕ → Bool
has_bytes size names bytes = nat_le (length (bytes_of names) + bytes) size && nat_le (length (bytes_of names) + bytes) most_bytes

-- whether a type with that many bytes finds its places: an entry first, then its bytes
abbrev pub place_answer : ℕ → ℕ → List (List ℕ) → ℕ → Result (Unit {0}) Refusal
place_answer size places names bytes = cond (has_entry places names) (cond (has_bytes size names bytes) (Ok tt) (Err NoBytePlace)) (Err NoTypePlace)

-- a known name is found; a new one gets the next number, if it finds its places
abbrev pub answer_by : Option ℕ → Result (Unit {0}) Refusal → ℕ → Result Entry Refusal
answer_by (Some number) place next = Ok (Known number)
answer_by None (Ok found) next = Ok (New next)
answer_by None (Err refusal) next = Err refusal

abbrev pub enter_answer : ℕ → ℕ → List (List ℕ) → List ℕ → Result Entry Refusal
enter_answer size places names bytes = answer_by (number_in names bytes) (place_answer size places names (length bytes)) (length names)

-- the names after that answer: a new name stands last
abbrev pub names_after : List (List ℕ) → List ℕ → Result Entry Refusal → List (List ℕ)
names_after names bytes (Ok (New number)) = names ++ (bytes ∷ [])
names_after names bytes (Ok (Known number)) = names
names_after names bytes (Err refusal) = names

-- nothing changes unless the name is new
abbrev pub SameUnlessNew : {X : Type 0} → Result Entry Refusal → X → X → Type 0
SameUnlessNew (Ok (New number)) before after = Unit {0}
SameUnlessNew (Ok (Known number)) before after = after ≡ before
SameUnlessNew (Err refusal) before after = after ≡ before

-- no more types are left than there are
abbrev pub back_answer : List (List ℕ) → ℕ → Result (Unit {0}) NotEntered
back_answer names left = cond (nat_le left (length names)) (Ok tt) (Err (record { left = left; types = length names }))

-- the first names are left
abbrev pub names_left : List (List ℕ) → ℕ → Result (Unit {0}) NotEntered → List (List ℕ)
names_left names left (Ok done) = take left names
names_left names left (Err refusal) = names

-- nothing changes where it is refused
abbrev pub SameIfRefused : {X : Type 0} → Result (Unit {0}) NotEntered → X → X → Type 0
SameIfRefused (Ok done) before after = Unit {0}
SameIfRefused (Err refusal) before after = after ≡ before
