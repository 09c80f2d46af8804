-- What entering a type or a link answers, and what is entered then.
use Rattle.std.specs.Prelude.{ℕ, ◌+◌, ◌-◌, Bool, false, cond, ◌&&◌, ◌||◌, List, [], ◌∷◌, ◌++◌, length, take, replicate, Some, None, Ok, Err, vec_items, Option, Result, ◌==◌, nat_lt, slice_set}
use Rattle.descent.specs.declared.link.Link.{Link}
use Rattle.descent.specs.Links.{no_link, link}
use Rattle.descent.specs.Refusals.{stray_end}
use Rattle.hierarchy.specs.declared.entered.Entered.{Entered}
use Rattle.hierarchy.specs.declared.entering.Entry.{Entry}
use Rattle.hierarchy.specs.declared.entering.Entry.TheVariants.{New, Known}
use Rattle.hierarchy.specs.declared.refusal.Refusal.{Refusal}
use Rattle.hierarchy.specs.declared.refusal.Refusal.TheVariants.{NoTypePlace, NoLinkPlace, NotBelow, NotEntered}

-- what was entered: places for types, types, links, and the table that holds the links at its front
pub record Held : Type 0 where
  pub room : ℕ
  pub types : ℕ
  pub count : ℕ
  pub table : List Link

abbrev pub held_of : Entered → Held
held_of e = record { room = e.room; types = e.types; count = e.count; table = vec_items e.links }

-- the links in force
abbrev pub links_in : Held → List Link
links_in h = take h.count h.table

abbrev pub type_answer : Held → Result ℕ Refusal
type_answer h = cond (nat_lt h.types h.room && nat_lt h.types 1024) (Ok h.types) (Err NoTypePlace)

abbrev pub with_type : Held → Result ℕ Refusal → Held
with_type h (Ok t) = record { room = h.room; types = t + 1; count = h.count; table = h.table }
with_type h (Err refusal) = h

abbrev pub is_link : ℕ → ℕ → Link → Bool
is_link a b l = l.from == a && l.to == b

-- whether a link of the list runs from a to b
abbrev pub has_link : List Link → ℕ → ℕ → Bool
has_link [] a b = false
has_link (l ∷ ls) a b = is_link a b l || has_link ls a b

-- both ends are types; a known link is not entered twice; there is a place for a new one
abbrev pub link_answer : Held → ℕ → ℕ → Result Entry Refusal
link_answer h a b =
    cond (nat_lt a h.types)
    (cond (nat_lt b h.types)
    (cond (has_link (links_in h) a b) (Ok Known)
    (cond (nat_lt h.count (length h.table) && nat_lt h.count 8192) (Ok New) (Err NoLinkPlace)))
    (Err (NotBelow b h.types)))
    (Err (NotBelow a h.types))

abbrev pub with_link : Held → ℕ → ℕ → Result Entry Refusal → Held
with_link h a b (Ok New) = record { room = h.room; types = h.types; count = h.count + 1; table = slice_set h.table h.count (link a b) }
with_link h a b (Ok Known) = h
with_link h a b (Err refusal) = h

-- the places from k on set to 0
abbrev pub cleared : ℕ → List Link → List Link
cleared k table = take k table ++ replicate (length table - k) no_link

-- no more types and links than there are, and no link that is left leads out of the types that are left
abbrev pub left_answer : Option ℕ → ℕ → Result (Unit {0}) Refusal
left_answer None types = Ok tt
left_answer (Some number) types = Err (NotBelow number types)

abbrev pub back_answer : Held → ℕ → ℕ → Result (Unit {0}) Refusal
back_answer h types links =
    cond (nat_lt h.types types || nat_lt h.count links) (Err NotEntered) (left_answer (stray_end types (take links h.table)) types)

abbrev pub with_back : Held → ℕ → ℕ → Result (Unit {0}) Refusal → Held
with_back h types links (Ok u) = record { room = h.room; types = types; count = links; table = cleared links h.table }
with_back h types links (Err refusal) = h
