-- Histories of calls: what was called and answered, what is in force after it, and which answers are right.
use Rattle.std.specs.Prelude.{◌≡◌, ℕ, ◌+◌, ◌*◌, ◌<◌, ◌≤◌, Bool, true, false, ◌||◌, List, [], ◌∷◌, length, Some, None, Ok, Err, Option, Result, nat_lt}
use Rattle.descent.specs.declared.link.Link.{Link}
use Rattle.descent.specs.Loops.{Loop, LoopFree}
use Rattle.chains.specs.Chains.{Chained}
use Rattle.chains.specs.Places.{Places}
use Rattle.rows.specs.KeptEntries.{kept_of, kept_count}
use Rattle.settling.specs.declared.outcome.Settled.{Settled}
use Rattle.settling.specs.declared.outcome.Unsettled.{Unsettled}
use Rattle.settling.specs.declared.outcome.Unsettled.TheVariants.{ShortTable, Loop as LoopFound, ShortIndex}
use Rattle.hierarchy.specs.SettledBooks.{Sizes}
use Rattle.register.specs.declared.refusal.Refusal.{Refusal}
use Rattle.register.specs.declared.refusal.NotAsked.{NotAsked}
use Rattle.register.specs.Asking.{numbers_answer, said_of}
use Rattle.register.specs.Entries.{Entries, nothing, with_texts}
use Rattle.register.specs.Places.{Room, load_answer}
use Rattle.declarations.specs.declared.ticket.Ticket.{Ticket}
use Rattle.declarations.specs.declared.ticket.NotOpen.{NotOpen}
use Rattle.declarations.specs.declared.ticket.Unopened.{Unopened}
use Rattle.declarations.specs.Trials.{open_answer, spend_answer}

-- a call with what it was given, and its answer. A settle comes with the entries of its loop and scratch tables, the places
-- that its decomposer gave, if it was called, and the kept entries that it wrote, if it was accepted
pub data Event : Type 0 where
  loads : (shipped own : List ℕ) → Result (Unit {0}) Refusal → Event
  opens : Result Ticket Unopened → Event
  keeps : Ticket → Result (Unit {0}) NotOpen → Event
  withdraws : Ticket → Result (Unit {0}) NotOpen → Event
  settles : (loop scratch : ℕ) (given : Places) (kept : List ℕ) → Result Settled Unsettled → Event
  asks : (first second : List ℕ) → Result Bool NotAsked → Event

-- the newest event first
abbrev pub History : Type 0
History = List Event

-- the kept entries that a settle wrote, and the number of kept links that it answered
pub record Kept : Type 0 where
  pub entries : List ℕ
  pub number : ℕ

-- at a moment: what is in force, what the open trial has laid aside, how many trials were opened, and what the last
-- accepted settle kept, while the book is settled
pub record Moment : Type 0 where
  pub force : Entries
  pub aside : Option Entries
  pub opened : ℕ
  pub settled : Option Kept

abbrev pub moment : Entries → Option Entries → ℕ → Option Kept → Moment
moment force aside opened settled = record { force = force; aside = aside; opened = opened; settled = settled }

abbrev pub beginning : Moment
beginning = moment nothing None 0 None

-- what was laid aside comes back in place of what is in force
abbrev pub put_back : Option Entries → Entries → Entries
put_back (Some aside) force = aside
put_back None force = force

-- told from the texts and from which calls were accepted
abbrev pub step : Event → Moment → Moment
step (loads shipped own (Ok loaded)) m = moment (with_texts m.force shipped own) m.aside m.opened None
step (loads shipped own (Err refusal)) m = m
step (opens (Ok ticket)) m = moment m.force (Some m.force) (m.opened + 1) m.settled
step (opens (Err refusal)) m = m
step (keeps ticket (Ok kept)) m = moment m.force None m.opened m.settled
step (keeps ticket (Err refusal)) m = m
step (withdraws ticket (Ok withdrawn)) m = moment (put_back m.aside m.force) None m.opened None
step (withdraws ticket (Err refusal)) m = m
step (settles loop scratch given kept (Ok s)) m = moment m.force m.aside m.opened (Some (record { entries = kept; number = s.kept }))
step (settles loop scratch given kept (Err ShortTable)) m = m
step (settles loop scratch given kept (Err (LoopFound size))) m = moment m.force m.aside m.opened None
step (settles loop scratch given kept (Err (ShortIndex needed))) m = moment m.force m.aside m.opened None
step (asks first second answer) m = m

abbrev pub moment_after : History → Moment
moment_after [] = beginning
moment_after (e ∷ before) = step e (moment_after before)

-- what a book is made with: its number, and the sizes of its tables
pub record Setup : Type 0 where
  pub number : ℕ
  pub room : Room
  pub sizes : Sizes

-- order, chain, position and loop tables need an entry for each type, scratch four, kept one for each link
abbrev pub is_short : Sizes → ℕ → ℕ → ℕ → ℕ → Bool
is_short k types links loop scratch =
    nat_lt k.order types || (nat_lt k.chain types || (nat_lt k.position types
    || (nat_lt loop types || (nat_lt scratch (4 * types) || nat_lt k.kept links))))

-- an accepted settle: no loop; the decomposer gave chains; the index has a place for each row; the kept links are written and
-- counted, and there are at most as many as chains times types
pub record SettlesRight (k : Sizes) (types : ℕ) (links : List Link) (given : Places) (kept : List ℕ) (s : Settled) : Type 0 where
  pub loop_free : LoopFree links
  pub chained : Chained types links given.chains given.positions given.count
  pub fits : types * given.count ≤ k.index
  pub answer : s ≡ record { types = types; links = length links; chains = given.count; kept = kept_count links }
  pub entries : kept ≡ kept_of links
  pub few : s.kept ≤ s.chains * s.types

-- a settle refused for its index: no loop, and more rows than the index has places for
pub record LacksIndex (k : Sizes) (types : ℕ) (links : List Link) (given : Places) (needed : ℕ) : Type 0 where
  pub loop_free : LoopFree links
  pub chained : Chained types links given.chains given.positions given.count
  pub needs : needed ≡ types * given.count
  pub lacks : k.index < needed

-- there is a loop of so many types
abbrev pub HasLoop : List Link → ℕ → Type 0
HasLoop links size = (types : List ℕ) × Loop links types × (length types ≡ size)

abbrev pub SettleRight : Sizes → Entries → (loop scratch : ℕ) → Places → List ℕ → Result Settled Unsettled → Type 0
SettleRight k e loop scratch given kept (Err ShortTable) = is_short k (length e.names) (length e.links) loop scratch ≡ true
SettleRight k e loop scratch given kept (Err (LoopFound size)) = (is_short k (length e.names) (length e.links) loop scratch ≡ false) × HasLoop e.links size
SettleRight k e loop scratch given kept (Err (ShortIndex needed)) = (is_short k (length e.names) (length e.links) loop scratch ≡ false) × LacksIndex k (length e.names) e.links given needed
SettleRight k e loop scratch given kept (Ok s) = (is_short k (length e.names) (length e.links) loop scratch ≡ false) × SettlesRight k (length e.names) e.links given kept s

-- the answer is what the call's questions, put in their sequence at that moment, say
abbrev pub Right : Setup → Moment → Event → Type 0
Right k m (loads shipped own answer) = answer ≡ load_answer k.room m.force shipped own
Right k m (opens answer) = answer ≡ open_answer k.number m.aside m.opened
Right k m (keeps ticket answer) = answer ≡ spend_answer k.number m.aside m.opened ticket
Right k m (withdraws ticket answer) = answer ≡ spend_answer k.number m.aside m.opened ticket
Right k m (settles loop scratch given kept answer) = SettleRight k.sizes m.force loop scratch given kept answer
Right k m (asks first second answer) = answer ≡ said_of m.force.links (numbers_answer m.settled m.force.names first second)

-- each call of the history was answered right where it stood
abbrev pub AllRight : Setup → History → Type 0
AllRight k [] = Unit {0}
AllRight k (e ∷ before) = Right k (moment_after before) e × AllRight k before
