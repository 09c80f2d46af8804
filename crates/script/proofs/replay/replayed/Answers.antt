use Rattle.std.proofs.Common.{◌≡◌, map, vec_items, ap, ◌∙◌, subst}
use Rattle.std.proofs.lemmas.Result.{IfOk-weaker}
use Rattle.declarations.specs.Running.{Ran, setup_for}
use Rattle.register.specs.declared.tables.TableSizes.{TableSizes}
use Rattle.script.specs.Methods.{given}
use Rattle.script.specs.Reading.{Reading, reading_of, script_of}
use Rattle.script.specs.Replaying.{sizes_of, walk_types, walk_relates, Replayed}
use Rattle.script.specs.Steps.{called_by, doing, calls_in, shown_steps}
use Rattle.script.proofs.replay.replayed.Goals as goal

pub returns : goal.returns
returns c =
    let input = c.args.input.now in
    let outcome = c.in_ok-outcome.outcome in
    let answers = c.deref-4.result.now in
    let read : reading_of c.in_ok-script.script ≡ script_of input = c.in_ok-script.ensures in
    let sizes : c.from-sizes.result ≡ sizes_of (script_of input).lengths = c.from-sizes.ensures ∙ ap (λ (r : Reading). sizes_of r.lengths) read in
    IfOk-weaker c.print_steps.result (λ v. vec_items v ≡ shown_steps (map doing c.deref-3.result.now) answers) (λ v. Replayed input (vec_items v))
    (λ v e. record {
      calls = c.deref-2.result.now;
      answers = vec_items outcome.answers;
      book = outcome.book;
      called =
          ap (map called_by) c.deref-2.ensures.value ∙ c.in_ok-calls.ensures
          ∙ ap (λ l. calls_in (map doing l)) c.deref.ensures.value ∙ ap (λ (r : Reading). calls_in r.steps) read;
      ran =
          subst (λ (t : TableSizes). Ran given walk_types walk_relates (setup_for 0 t) c.deref-2.result.now (vec_items outcome.answers) outcome.book) sizes c.in_ok-outcome.ensures;
      shown =
          e ∙ ap (λ l. shown_steps (map doing l) answers) c.deref-3.ensures.value
          ∙ ap (λ (r : Reading). shown_steps r.steps answers) read ∙ ap (shown_steps (script_of input).steps) c.deref-4.ensures.value;
    })
    c.print_steps.ensures
