-- Which histories a book can have had.
use Rattle.std.specs.Prelude.{◌≡◌, ℕ, List, [], ◌∷◌, length, take, Some, None, Ok, Err, Option, Result}
use Rattle.descent.specs.Trims.{ones}
use Rattle.order.specs.Order.{order_of}
use Rattle.chains.specs.Places.{Places, places}
use Rattle.settling.specs.declared.outcome.Settled.{Settled}
use Rattle.settling.specs.declared.outcome.Unsettled.{Unsettled}
use Rattle.settling.specs.declared.outcome.Unsettled.TheVariants.{ShortTable, Loop as LoopFound, ShortIndex}
use Rattle.settling.specs.Settling.{Giving}
use Rattle.hierarchy.specs.SettledBooks.{sizes_of}
use Rattle.register.specs.declared.refusal.Unloaded.{Unloaded}
use Rattle.register.specs.declared.refusal.Unloaded.TheVariants.{Refused, NoMemory}
use Rattle.register.specs.Contents.{Contents}
use Rattle.register.specs.Entries.{Entries}
use Rattle.declarations.specs.declared.book.Book.{Book}
use Rattle.declarations.specs.Marks.{aside_of}
use Rattle.declarations.specs.Books.{State, state_of}
use Rattle.declarations.specs.Histories.{Event, loads, settles, History, Kept, Moment, moment, moment_after, Setup, AllRight}

abbrev pub setup_of : State → Setup
setup_of s = record { number = s.contents.number; room = s.contents.room; sizes = sizes_of s.contents.written }

-- the kept entries of the links, where the book is settled
abbrev pub kept_by : Option ℕ → List ℕ → Option Kept
kept_by None entries = None
kept_by (Some chains) entries = Some (record { entries = entries; number = ones entries })

abbrev pub kept_in : Contents → Option Kept
kept_in c = kept_by c.settled (take (length c.entries.links) c.written.kept)

abbrev pub moment_of : State → Moment
moment_of s = moment s.contents.entries (aside_of s.mark s.contents.entries) s.opened (kept_in s.contents)

-- the book is as the history leaves it, and each call of the history was answered right
pub record TellsState (h : History) (s : State) : Type 0 where
  pub is : moment_of s ≡ moment_after h
  pub right : AllRight (setup_of s) h

abbrev pub Tells : History → Book → Type 0
Tells h b = TellsState h (state_of b)

-- whatever history the book can have had, with this event it is one that the book can have had after it
abbrev pub Goes : State → Event → State → Type 0
Goes s e after = (h : History) → TellsState h s → TellsState (e ∷ h) after

-- a load that was refused for want of memory is no event
abbrev pub LoadGoes : State → List ℕ → List ℕ → Result (Unit {0}) Unloaded → State → Type 0
LoadGoes s shipped own (Ok loaded) after = Goes s (loads shipped own (Ok tt)) after
LoadGoes s shipped own (Err (Refused refusal)) after = Goes s (loads shipped own (Err refusal)) after
LoadGoes s shipped own (Err NoMemory) after = after ≡ s

-- the places at the front of the chain and position tables, and the kept entries, as a settle left them
abbrev pub places_in : Contents → ℕ → Places
places_in c count = places count (take (length c.entries.names) c.written.chain) (take (length c.entries.names) c.written.position)

abbrev pub entries_in : Contents → List ℕ
entries_in c = take (length c.entries.links) c.written.kept

-- the places are those that the decomposer gave, where it was called
abbrev pub GivenBy : Giving → Entries → Places → Result Settled Unsettled → Type 0
GivenBy Gives e given (Ok s) = Gives (length e.names) e.links (order_of (length e.names) e.links) given.chains given.positions given.count
GivenBy Gives e given (Err ShortTable) = Unit {0}
GivenBy Gives e given (Err (LoopFound size)) = Unit {0}
GivenBy Gives e given (Err (ShortIndex needed)) = Gives (length e.names) e.links (order_of (length e.names) e.links) given.chains given.positions given.count

-- the event of a settle that left the book so: the places in the tables are those that the decomposer gave; where it was
-- refused for its index, the decomposer gave some
abbrev pub SettleGoes : Giving → State → (loop scratch : ℕ) → Result Settled Unsettled → State → Type 0
SettleGoes Gives s loop scratch (Ok n) after =
    GivenBy Gives s.contents.entries (places_in after.contents n.chains) (Ok n)
    × Goes s (settles loop scratch (places_in after.contents n.chains) (entries_in after.contents) (Ok n)) after
SettleGoes Gives s loop scratch (Err refusal) after =
    (given : Places) × GivenBy Gives s.contents.entries given (Err refusal) × Goes s (settles loop scratch given [] (Err refusal)) after
