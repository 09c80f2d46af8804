-- The steps of a script: the calls that they make, and what is printed for them.
use Rattle.std.specs.Prelude.{ℕ, ◌*◌, List, [], ◌∷◌, ◌++◌, drop, vec_items}
use Rattle.declarations.specs.declared.call.Answer.{Answer}
use Rattle.declarations.specs.declared.call.Call.{Call}
use Rattle.declarations.specs.declared.call.Call.TheVariants as call
use Rattle.declarations.specs.declared.call.Stub.{Stub}
use Rattle.script.specs.declared.method.Method.{Method}
use Rattle.script.specs.declared.step.Step.{Step}
use Rattle.script.specs.declared.step.Step.TheVariants as step
use Rattle.script.specs.Shown.{shown_answer, shown_remark}

-- a call by its bytes and numbers; a settle with the entries of its loop table and of its working memory
pub data Called : Type 0 where
  loads : List ℕ → List ℕ → Called
  opens : Called
  keeps : Stub → Called
  withdraws : Stub → Called
  settles : Method → ℕ → ℕ → Called
  asks : List ℕ → List ℕ → Called

abbrev pub called_by : Call Method → Called
called_by (call.Load shipped own) = loads shipped.now own.now
called_by call.Open = opens
called_by (call.Keep stub) = keeps stub
called_by (call.Withdraw stub) = withdraws stub
called_by (call.Settle method table scratch) = settles method table scratch
called_by (call.Ask first second) = asks first.now second.now

-- a step makes a call, or only prints a line
pub data Doing : Type 0 where
  makes : Called → Doing
  prints : List ℕ → Doing

abbrev pub doing : Step → Doing
doing (step.Load shipped own) = makes (loads (vec_items shipped) (vec_items own))
doing step.Open = makes opens
doing (step.Keep stub) = makes (keeps stub)
doing (step.Withdraw stub) = makes (withdraws stub)
doing (step.Settle method types) = makes (settles method types (4 * types))
doing (step.Ask first second) = makes (asks first.now second.now)
doing (step.Remark remark) = prints (shown_remark remark)

-- the calls of some steps
abbrev pub calls_with : Doing → List Called → List Called
calls_with (makes c) cs = c ∷ cs
calls_with (prints l) cs = cs

abbrev pub calls_in : List Doing → List Called
calls_in [] = []
calls_in (d ∷ ds) = calls_with d (calls_in ds)

abbrev pub shown_next : List Answer → List ℕ
shown_next [] = []
shown_next (a ∷ more) = shown_answer a

-- a step that makes a call has the next answer
abbrev pub shown_step : Doing → List Answer → List ℕ
shown_step (makes c) answers = shown_next answers
shown_step (prints l) answers = l

abbrev pub answers_after : Doing → List Answer → List Answer
answers_after (makes c) answers = drop 1 answers
answers_after (prints l) answers = answers

abbrev pub shown_steps : List Doing → List Answer → List ℕ
shown_steps [] answers = []
shown_steps (d ∷ ds) answers = shown_step d answers ++ shown_steps ds (answers_after d answers)
