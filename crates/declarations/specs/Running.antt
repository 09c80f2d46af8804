-- A list of calls on a new book: the history that they and their answers make.
use Rattle.std.specs.Prelude.{◌≡◌, ℕ, Bool, List, [], ◌∷◌, ◌++◌, Ok, Err, Result}
use Rattle.chains.specs.Places.{Places}
use Rattle.settling.specs.declared.outcome.Settled.{Settled}
use Rattle.settling.specs.declared.outcome.Unsettled.{Unsettled}
use Rattle.settling.specs.Settling.{Giving}
use Rattle.hierarchy.specs.SettledBooks.{sizes}
use Rattle.register.specs.declared.refusal.Refusal.{Refusal}
use Rattle.register.specs.declared.refusal.NotAsked.{NotAsked}
use Rattle.register.specs.Entries.{Entries}
use Rattle.register.specs.Places.{room}
use Rattle.declarations.specs.declared.book.Book.{Book}
use Rattle.declarations.specs.declared.call.Call.{Call}
use Rattle.declarations.specs.declared.call.Call.TheVariants.{Load, Open, Keep, Withdraw, Settle, Ask}
use Rattle.declarations.specs.declared.call.Answer.{Answer}
use Rattle.declarations.specs.declared.call.Answer.TheVariants.{Load as Loaded, Open as Opened, Keep as WasKept, Withdraw as Withdrawn, Settle as WasSettled, Ask as Asked}
use Rattle.declarations.specs.declared.call.Stub.{Stub}
use Rattle.register.specs.declared.tables.TableSizes.{TableSizes}
use Rattle.declarations.specs.declared.ticket.Ticket.{Ticket}
use Rattle.declarations.specs.declared.ticket.NotOpen.{NotOpen}
use Rattle.declarations.specs.declared.ticket.Unopened.{Unopened}
use Rattle.declarations.specs.Books.{State, state_of}
use Rattle.declarations.specs.Histories.{Event, loads, opens, keeps, withdraws, settles, asks, History, moment_after, Setup}
use Rattle.declarations.specs.Law.{Law}
use Rattle.declarations.specs.Telling.{setup_of, Tells, Goes, GivenBy}

-- a ticket by its two numbers
abbrev pub ticket_of : Stub → Ticket
ticket_of s = record { book = s.book; trial = s.trial }

abbrev pub stub_of : Ticket → Stub
stub_of t = record { book = t.book; trial = t.trial }

abbrev pub handed_out : Result Ticket Unopened → Result Stub Unopened
handed_out (Ok ticket) = Ok (stub_of ticket)
handed_out (Err refusal) = Err refusal

abbrev pub came_back : Result (Unit {0}) NotOpen → Result (Unit {0}) Stub
came_back (Ok spent) = Ok tt
came_back (Err refusal) = Err (stub_of refusal.ticket)

-- a call with its answer, where these entries were in force, is this event
abbrev pub Happened : {D : Type 0} → (D → Giving) → Entries → Call D → Answer → Event → Type 0
Happened gives e (Load shipped own) answer event = (r : Result (Unit {0}) Refusal) × (answer ≡ Loaded r) × (event ≡ loads shipped.now own.now r)
Happened gives e Open answer event = (r : Result Ticket Unopened) × (answer ≡ Opened (handed_out r)) × (event ≡ opens r)
Happened gives e (Keep stub) answer event = (r : Result (Unit {0}) NotOpen) × (answer ≡ WasKept (came_back r)) × (event ≡ keeps (ticket_of stub) r)
Happened gives e (Withdraw stub) answer event = (r : Result (Unit {0}) NotOpen) × (answer ≡ Withdrawn (came_back r)) × (event ≡ withdraws (ticket_of stub) r)
Happened gives e (Settle decomposer table scratch) answer event =
    (r : Result Settled Unsettled) × (given : Places) × (kept : List ℕ) × (answer ≡ WasSettled r) × (event ≡ settles table scratch given kept r) × GivenBy (gives decomposer) e given r
Happened gives e (Ask first second) answer event = (r : Result Bool NotAsked) × (answer ≡ Asked r) × (event ≡ asks first.now second.now r)

-- the calls and their answers, in their sequence, are this history
pub data Recorded {D : Type 0} (gives : D → Giving) : List (Call D) → List Answer → History → Type 0 where
  none_yet : Recorded gives [] [] []
  one_more : {calls : List (Call D)} {answers : List Answer} {h : History} (call : Call D) (answer : Answer) (event : Event) →
      Recorded gives calls answers h → Happened gives (moment_after h).force call answer event → Recorded gives (calls ++ (call ∷ [])) (answers ++ (answer ∷ [])) (event ∷ h)

abbrev pub setup_for : ℕ → TableSizes → Setup
setup_for number t = record { number = number; room = room t.pool t.names t.links; sizes = sizes t.order t.chain t.position t.kept t.index }

-- the calls on a new book, with their answers, make a history that keeps the law and that the book has had
pub record Ran {D S : Type 0} (gives : D → Giving) (count : S → ℕ) (relates : S → ℕ → ℕ → Type 0) (k : Setup) (calls : List (Call D)) (answers : List Answer) (book : Book) : Type 0 where
  pub history : History
  pub recorded : Recorded gives calls answers history
  pub law : Law count relates k history
  pub setup : setup_of (state_of book) ≡ k
  pub tells : Tells history book

-- the histories of a book go on with an event, and what it was made with stays
pub record Moves (before : State) (event : Event) (after : State) : Type 0 where
  pub goes : Goes before event after
  pub setup : setup_of after ≡ setup_of before

-- the answer to a call of each kind, and the event that it is
abbrev pub LoadMoves : State → List ℕ → List ℕ → Answer → State → Type 0
LoadMoves before shipped own answer after = (r : Result (Unit {0}) Refusal) × (answer ≡ Loaded r) × Moves before (loads shipped own r) after

abbrev pub OpenMoves : State → Answer → State → Type 0
OpenMoves before answer after = (r : Result Ticket Unopened) × (answer ≡ Opened (handed_out r)) × Moves before (opens r) after

abbrev pub KeepMoves : State → Stub → Answer → State → Type 0
KeepMoves before stub answer after = (r : Result (Unit {0}) NotOpen) × (answer ≡ WasKept (came_back r)) × Moves before (keeps (ticket_of stub) r) after

abbrev pub WithdrawMoves : State → Stub → Answer → State → Type 0
WithdrawMoves before stub answer after = (r : Result (Unit {0}) NotOpen) × (answer ≡ Withdrawn (came_back r)) × Moves before (withdraws (ticket_of stub) r) after

abbrev pub SettleMoves : Giving → State → ℕ → ℕ → Answer → State → Type 0
SettleMoves Gives before table scratch answer after =
    (r : Result Settled Unsettled) × (given : Places) × (kept : List ℕ) × (answer ≡ WasSettled r) × GivenBy Gives before.contents.entries given r × Moves before (settles table scratch given kept r) after

abbrev pub AskMoves : State → List ℕ → List ℕ → Answer → State → Type 0
AskMoves before first second answer after = (r : Result Bool NotAsked) × (answer ≡ Asked r) × Moves before (asks first second r) after

-- a call was answered: it is an event that the book's histories go on with
pub record CallMoves {D : Type 0} (gives : D → Giving) (before : State) (call : Call D) (answer : Answer) (after : State) : Type 0 where
  pub event : Event
  pub happened : Happened gives before.contents.entries call answer event
  pub moves : Moves before event after
