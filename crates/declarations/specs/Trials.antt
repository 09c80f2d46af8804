-- What the opening of a trial and the end of one answer.
use Rattle.std.specs.Prelude.{ℕ, ◌+◌, cond, ◌&&◌, Some, None, Ok, Err, Option, Result, ◌==◌, nat_lt}
use Rattle.declarations.specs.declared.ticket.Ticket.{Ticket}
use Rattle.declarations.specs.declared.ticket.NotOpen.{NotOpen}
use Rattle.declarations.specs.declared.ticket.Unopened.{Unopened}
use Rattle.declarations.specs.declared.ticket.Unopened.TheVariants.{TrialOpen, NoMoreTrials}

-- how many trials can be counted
abbrev pub most_trials : ℕ
most_trials = 4294967295

-- no trial is open, and fewer than that many were opened
abbrev pub open_answer : {X : Type 0} → ℕ → Option X → ℕ → Result Ticket Unopened
open_answer book (Some aside) opened = Err TrialOpen
open_answer book None opened = cond (nat_lt opened most_trials) (Ok (record { book = book; trial = opened + 1 })) (Err NoMoreTrials)

-- the ticket's two numbers are those of the open trial; the ticket comes back where they are not
abbrev pub spend_answer : {X : Type 0} → ℕ → Option X → ℕ → Ticket → Result (Unit {0}) NotOpen
spend_answer book (Some aside) opened ticket = cond (ticket.book == book && ticket.trial == opened) (Ok tt) (Err (record { ticket = ticket }))
spend_answer book None opened ticket = Err (record { ticket = ticket })
