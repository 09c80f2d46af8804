-- A settle as a call of a list.
use Rattle.std.proofs.Common.{◌≡◌, ℕ, ◌+◌, ◌<◌, ◌≤◌, List, [], ◌∷◌, ◌++◌, length, get_or, take, None, Ok, Err, Result, sym, refl, ap, ◌∙◌, subst, take_all}
use Rattle.std.proofs.lemmas.List.{take_more, length-replicate}
use Rattle.settling.specs.declared.outcome.Settled.{Settled}
use Rattle.settling.specs.declared.outcome.Unsettled.{Unsettled}
use Rattle.settling.specs.Settling.{Giving}
use Rattle.hierarchy.specs.SettledBooks.{sizes}
use Rattle.register.specs.declared.tables.Tables.{Tables}
use Rattle.register.specs.Contents.{new_contents}
use Rattle.register.specs.Entries.{Entries}
use Rattle.register.specs.Places.{room}
use Rattle.declarations.specs.declared.book.Book.{Book}
use Rattle.declarations.specs.declared.call.Call.{Call}
use Rattle.declarations.specs.declared.call.Answer.{Answer}
use Rattle.register.specs.declared.tables.TableSizes.{TableSizes}
use Rattle.declarations.specs.Histories.{History, Moment, moment_after, Setup, AllRight}
use Rattle.declarations.proofs.Keeping.{law_kept}
use Rattle.declarations.specs.declared.call.Answer.TheVariants.{Settle as WasSettled}
use Rattle.declarations.specs.Books.{State, state, state_of}
use Rattle.declarations.specs.Telling.{setup_of, places_in, entries_in, SettleGoes, TellsState}
use Rattle.declarations.specs.Running.{SettleMoves, Happened, Recorded, one_more, CallMoves, Ran, setup_for}
use Rattle.register.specs.Tables.{lengths_of}

settle_moves_at : (Gives : Giving) (before after : State) (loop scratch : ℕ) (r : Result Settled Unsettled) → SettleGoes Gives before loop scratch r after → setup_of after ≡ setup_of before → SettleMoves Gives before loop scratch (WasSettled r) after
settle_moves_at Gives before after loop scratch (Ok n) h setup = (Ok n, places_in after.contents n.chains, entries_in after.contents, refl, h.0, record { goes = h.1; setup = setup })
settle_moves_at Gives before after loop scratch (Err x) h setup = (Err x, h.0, [], refl, h.1, record { goes = h.2; setup = setup })

pub settle_moves : (Gives : Giving) (before after : State) (loop scratch loop' scratch' : ℕ) (r : Result Settled Unsettled) → loop ≡ loop' → scratch ≡ scratch' → SettleGoes Gives before loop scratch r after → setup_of after ≡ setup_of before → SettleMoves Gives before loop' scratch' (WasSettled r) after
settle_moves Gives before after loop scratch loop' scratch' r e f h setup =
    subst (λ n. SettleMoves Gives before n scratch' (WasSettled r) after) e (subst (λ n. SettleMoves Gives before loop n (WasSettled r) after) f (settle_moves_at Gives before after loop scratch r h setup))

-- a list of calls under way: those made so far, with their answers, are a history that the book has had
pub record Under {D : Type 0} (gives : D → Giving) (calls : List (Call D)) (answers : List Answer) (s : State) : Type 0 where
  pub history : History
  pub recorded : Recorded gives calls answers history
  pub tells : TellsState history s

pub under_more : {D : Type 0} (gives : D → Giving) (calls : List (Call D)) (i : ℕ) (call : Call D) (answers answers' : List Answer) (answer : Answer) (s after : State)
    → Under gives (take i calls) answers s → i < length calls → call ≡ get_or calls i call → CallMoves gives s call answer after → answers' ≡ answers ++ (answer ∷ []) → Under gives (take (i + 1) calls) answers' after
under_more {D} gives calls i call answers answers' answer s after u h is m pushed =
    let H : Entries → Type 0 = λ e. Happened gives e call answer m.event in
    let happened : Happened gives (moment_after u.history).force call answer m.event = subst H (ap (λ (x : Moment). x.force) u.tells.is) m.happened in
    let taken : take (i + 1) calls ≡ take i calls ++ (call ∷ []) = take_more calls i call h ∙ ap (λ c. take i calls ++ (c ∷ [])) (sym is) in
    let C : List (Call D) → Type 0 = λ cs. Recorded gives cs answers' (m.event ∷ u.history) in
    let A : List Answer → Type 0 = λ given. Recorded gives (take i calls ++ (call ∷ [])) given (m.event ∷ u.history) in
    record {
      history = m.event ∷ u.history;
      recorded = subst C (sym taken) (subst A (sym pushed) (one_more call answer m.event u.recorded happened));
      tells = m.moves.goes u.history u.tells;
    }

pub all_ran : {D S : Type 0} (gives : D → Giving) (count : S → ℕ) (relates : S → ℕ → ℕ → Type 0) (k : Setup) (calls : List (Call D)) (i : ℕ) (answers : List Answer) (book : Book)
    → Under gives (take i calls) answers (state_of book) → length calls ≤ i → setup_of (state_of book) ≡ k → Ran gives count relates k calls answers book
all_ran {D} gives count relates k calls i answers book u all setup =
    let C : List (Call D) → Type 0 = λ cs. Recorded gives cs answers u.history in
    let K : Setup → Type 0 = λ x. AllRight x u.history in
    record {
      history = u.history;
      recorded = subst C (take_all i calls all) u.recorded;
      law = law_kept count relates k u.history (subst K setup u.tells.right);
      setup = setup;
      tells = u.tells;
    }

abbrev setup_from : ℕ → TableSizes → ℕ → ℕ → ℕ → ℕ → ℕ → Setup
setup_from number t order chain position kept index = record { number = number; room = room t.pool t.names t.links; sizes = sizes order chain position kept index }

-- what a new book over such tables is made with
pub new_setup : (number : ℕ) (t : TableSizes) (tables : Tables) (s : State) → lengths_of tables ≡ t → s ≡ state (new_contents number (lengths_of tables)) 0 None 0 → setup_of s ≡ setup_for number t
new_setup number t tables s h e =
    ap setup_of e ∙ ap (λ k. setup_of (state (new_contents number k) 0 None 0)) h
    ∙ (λ i. setup_from number t (length-replicate {A = ℕ} t.order 65535 i) (length-replicate {A = ℕ} t.chain 65535 i) (length-replicate {A = ℕ} t.position 65535 i) (length-replicate {A = ℕ} t.kept 65535 i) (length-replicate {A = ℕ} t.index 65535 i))
