-- What a register holds, all tables included: the pool and the name table follow from the names, the link table from the links.
use Rattle.std.specs.Prelude.{◌≡◌, ℕ, cond, ◌||◌, List, length, take, replicate, None, Ok, Err, Option, Result, nat_lt}
use Rattle.hierarchy.specs.Books.{Written, book_of}
use Rattle.descent.specs.Refusals.{stray_end}
use Rattle.hierarchy.specs.declared.refusal.Refusal.{Refusal as NumberRefusal}
use Rattle.hierarchy.specs.declared.refusal.Refusal.TheVariants.{NotEntered}
use Rattle.hierarchy.specs.Answering.{Answering}
use Rattle.hierarchy.specs.Entering.{links_in, left_answer}
use Rattle.names.specs.Held.{names_in, pool_size, table_size}
use Rattle.register.specs.declared.register.Register.{Register}
use Rattle.register.specs.declared.tables.TableSizes.{TableSizes}
use Rattle.register.specs.declared.refusal.Refusal.{Refusal}
use Rattle.register.specs.declared.refusal.Unloaded.{Unloaded}
use Rattle.register.specs.declared.refusal.Unloaded.TheVariants.{Refused, NoMemory}
use Rattle.register.specs.Entries.{Entries, entries, nothing, with_texts}
use Rattle.register.specs.Places.{Room, room, load_answer}

-- the register's number, the sizes of the tables of names, bytes and links, what was entered, the tables that settling
-- writes, and the number of chains where it is settled
pub record Contents : Type 0 where
  pub number : ℕ
  pub room : Room
  pub entries : Entries
  pub written : Written
  pub settled : Option ℕ

abbrev pub contents : ℕ → Room → Entries → Written → Option ℕ → Contents
contents number r e w settled = record { number = number; room = r; entries = e; written = w; settled = settled }

abbrev pub contents_of : Register → Contents
contents_of r =
    let book = book_of r.numbered in
    contents book.number (room (pool_size r.names) (table_size r.names) (length book.held.table))
    (entries (names_in r.names) (links_in book.held)) book.written book.settled

-- a register with nothing entered, over tables of these lengths
abbrev pub new_contents : ℕ → TableSizes → Contents
new_contents number t =
    contents number (room t.pool t.names t.links) nothing
    (record { order = replicate t.order 65535; chain = replicate t.chain 65535; position = replicate t.position 65535; kept = replicate t.kept 65535; index = replicate t.index 65535 })
    None

-- other entries, and not settled
abbrev pub changed : Contents → Entries → Contents
changed c e = contents c.number c.room e c.written None

-- the same, and not settled
abbrev pub unsettled : Contents → Contents
unsettled c = changed c c.entries

-- an accepted load enters what its lines enter; a refused one changes nothing at all
abbrev pub after_load : Contents → List ℕ → List ℕ → Result (Unit {0}) Refusal → Contents
after_load c shipped own (Ok loaded) = changed c (with_texts c.entries shipped own)
after_load c shipped own (Err refusal) = c

-- the first types and links
abbrev pub first_of : ℕ → ℕ → Entries → Entries
first_of types links e = entries (take types e.names) (take links e.links)

-- no more types and links than there are, and no link that is left leads out of the types that are left
abbrev pub back_answer : Contents → ℕ → ℕ → Result (Unit {0}) NumberRefusal
back_answer c types links =
    cond (nat_lt (length c.entries.names) types || nat_lt (length c.entries.links) links) (Err NotEntered)
    (left_answer (stray_end types (take links c.entries.links)) types)

-- the first types and links are left, and the places of the others are 0
abbrev pub after_back : Contents → ℕ → ℕ → Result (Unit {0}) NumberRefusal → Contents
after_back c types links (Ok done) = changed c (first_of types links c.entries)
after_back c types links (Err refusal) = c

-- settled, with that many chains, or not
abbrev pub with_chains : Contents → Option ℕ → Contents
with_chains c chains = contents c.number c.room c.entries c.written chains

-- what the tables say of that many chains, for what was entered
abbrev pub Answers : Option ℕ → Contents → Type 0
Answers chains c = Answering chains (length c.entries.names) c.entries.links c.written.order c.written.chain c.written.position c.written.kept c.written.index

-- a load answers as the questions say and leaves what the answer says; for want of memory it changes nothing
abbrev pub LoadsAs : Contents → List ℕ → List ℕ → Result (Unit {0}) Unloaded → Contents → Type 0
LoadsAs c shipped own (Ok loaded) after = (load_answer c.room c.entries shipped own ≡ Ok tt) × (after ≡ after_load c shipped own (Ok tt))
LoadsAs c shipped own (Err (Refused refusal)) after = (load_answer c.room c.entries shipped own ≡ Err refusal) × (after ≡ after_load c shipped own (Err refusal))
LoadsAs c shipped own (Err NoMemory) after = after ≡ c
