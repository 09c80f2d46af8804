-- What a book holds, and what each call leaves.
use Rattle.std.specs.Prelude.{◌≡◌, ℕ, ◌+◌, min, Bool, List, length, Some, None, Ok, Err, Option, Result}
use Rattle.settling.specs.declared.outcome.Settled.{Settled}
use Rattle.settling.specs.declared.outcome.Unsettled.{Unsettled}
use Rattle.settling.specs.Settling.{Giving}
use Rattle.register.specs.declared.refusal.NotAsked.{NotAsked}
use Rattle.register.specs.declared.refusal.Unloaded.{Unloaded}
use Rattle.register.specs.Entries.{Entries}
use Rattle.register.specs.Contents.{Contents, contents_of, changed, first_of, LoadsAs}
use Rattle.register.specs.Settling.{Settles}
use Rattle.declarations.specs.declared.book.Book.{Book}
use Rattle.declarations.specs.declared.ticket.Mark.{Mark}
use Rattle.declarations.specs.declared.ticket.Ticket.{Ticket}
use Rattle.declarations.specs.declared.ticket.NotOpen.{NotOpen}
use Rattle.declarations.specs.declared.ticket.Unopened.{Unopened}
use Rattle.declarations.specs.Trials.{spend_answer}

-- the contents of all tables; how many trials were opened, what was entered when the open one began; questions answered
pub record State : Type 0 where
  pub contents : Contents
  pub opened : ℕ
  pub mark : Option Mark
  pub asks : ℕ

abbrev pub state : Contents → ℕ → Option Mark → ℕ → State
state c opened mark asks = record { contents = c; opened = opened; mark = mark; asks = asks }

abbrev pub state_of : Book → State
state_of b = state (contents_of b.register) b.opened b.mark b.asks

-- a book's contents changed, and nothing else
abbrev pub with_contents : State → Contents → State
with_contents s c = state c s.opened s.mark s.asks

-- what a load does to the contents; the rest stays
abbrev pub BookLoads : State → List ℕ → List ℕ → Result (Unit {0}) Unloaded → State → Type 0
BookLoads s shipped own r after = LoadsAs s.contents shipped own r after.contents × (after ≡ with_contents s after.contents)

-- what is entered now
abbrev pub mark_now : Entries → Mark
mark_now e = record { types = length e.names; links = length e.links }

abbrev pub after_open : State → Result Ticket Unopened → State
after_open s (Ok ticket) = state s.contents (s.opened + 1) (Some (mark_now s.contents.entries)) s.asks
after_open s (Err refusal) = s

-- a trial ends, and what was entered when it began is told
abbrev pub EndsTrial : State → Ticket → Result Mark NotOpen → State → Type 0
EndsTrial s ticket (Ok m) after = (spend_answer s.contents.number s.mark s.opened ticket ≡ Ok tt) × (s.mark ≡ Some m) × (after ≡ state s.contents s.opened None s.asks)
EndsTrial s ticket (Err refusal) after = (spend_answer s.contents.number s.mark s.opened ticket ≡ Err refusal) × (after ≡ s)

abbrev pub after_keep : State → Result (Unit {0}) NotOpen → State
after_keep s (Ok kept) = state s.contents s.opened None s.asks
after_keep s (Err refusal) = s

-- what was entered since the trial began is taken back, and its places are 0
abbrev pub back_to : Option Mark → Contents → Contents
back_to (Some m) c = changed c (first_of m.types m.links c.entries)
back_to None c = c

abbrev pub after_withdraw : State → Result (Unit {0}) NotOpen → State
after_withdraw s (Ok withdrawn) = state (back_to s.mark s.contents) s.opened None s.asks
after_withdraw s (Err refusal) = s

-- what a settle does to the contents; the rest stays
pub record BookSettles (Gives : Giving) (s : State) (loop scratch : List ℕ) (r : Result Settled Unsettled) (after : State) (loop' scratch' : List ℕ) : Type 0 where
  pub contents : Settles Gives s.contents loop scratch r after.contents loop' scratch'
  pub rest : after ≡ with_contents s after.contents

-- the count of answered questions stays at its largest value
abbrev pub after_ask : State → Result Bool NotAsked → State
after_ask s (Ok said) = state s.contents s.opened s.mark (min (s.asks + 1) 4294967295)
after_ask s (Err refusal) = s
