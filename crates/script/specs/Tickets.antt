-- The ticket that a script holds: from an open until a keep or a withdraw.
use Rattle.std.specs.Prelude.{ℕ, ◌+◌, cond, Some, None, Option, nat_lt}
use Rattle.std.specs.Option.{option_map}
use Rattle.declarations.specs.declared.call.Stub.{Stub}
use Rattle.script.specs.declared.tickets.Tickets.{Tickets}

-- an open is accepted where no trial is open and one more can be counted
abbrev pub open_from : Option ℕ → ℕ → Tickets
open_from None opened = cond (nat_lt opened 4294967295) (record { held = Some (opened + 1); opened = opened + 1 }) (record { held = None; opened = opened })
open_from (Some trial) opened = record { held = Some trial; opened = opened }

abbrev pub after_open : Tickets → Tickets
after_open t = open_from t.held t.opened

-- the ticket that is spent, by the numbers of book and trial
abbrev pub spent : Tickets → Option Stub
spent t = option_map (λ trial. record { book = 0; trial = trial }) t.held

abbrev pub after_spend : Tickets → Tickets
after_spend t = record { held = None; opened = t.opened }
