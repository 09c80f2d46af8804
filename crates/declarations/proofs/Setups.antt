-- What a book is made with stays.
use Rattle.std.proofs.Common.{◌≡◌, ℕ, List, Result, ap, ◌∙◌}
use Rattle.settling.specs.declared.outcome.Settled.{Settled}
use Rattle.settling.specs.declared.outcome.Unsettled.{Unsettled}
use Rattle.settling.specs.Settling.{Giving}
use Rattle.hierarchy.specs.SettledBooks.{sizes_of}
use Rattle.register.specs.Contents.{Contents}
use Rattle.declarations.specs.Books.{State, BookSettles}
use Rattle.declarations.specs.Telling.{setup_of}

pub settle_setup : (Gives : Giving) (s after : State) (loop scratch loop' scratch' : List ℕ) (r : Result Settled Unsettled) → BookSettles Gives s loop scratch r after loop' scratch' → setup_of after ≡ setup_of s
settle_setup Gives s after loop scratch loop' scratch' r h =
    let c = h.contents in
    ap (λ (x : Contents). record { number = x.number; room = x.room; sizes = sizes_of after.contents.written }) c.same ∙ ap (λ k. record { number = s.contents.number; room = s.contents.room; sizes = k }) c.sizes
