use Rattle.std.proofs.Common.{List, [], vec_items, sym, refl, ◌∙◌, subst, arith}
use Rattle.declarations.specs.declared.call.Answer.{Answer}
use Rattle.declarations.specs.Books.{state_of}
use Rattle.declarations.specs.Running.{Recorded, none_yet, setup_for}
use Rattle.declarations.proofs.Running.{under_more, all_ran, new_setup}
use Rattle.declarations.proofs.run.run.Goals as goal

pub loop-call-init : goal.loop-call-init
loop-call-init g c =
    let A : List Answer → Type 0 = λ given. Recorded g.D.Decomposer.gives [] given [] in
    (refl, record { history = []; recorded = subst A (sym c.new-answers.ensures.items) none_yet; tells = c.new-book.ensures.told })

pub loop-call-preserved : goal.loop-call-preserved
loop-call-preserved g c =
    let m = c.in_ok-answer.ensures in (
      m.moves.setup ∙ c.loop-call.invariant.0,
      under_more g.D.Decomposer.gives c.args.calls.now c.loop-call.call-index c.call-item.result (vec_items c.loop-call.answers) (vec_items c.push.new.self) c.in_ok-answer.answer (state_of c.loop-call.book) (state_of c.answer_to.new.book)
          c.loop-call.invariant.1 (omega arith) c.call-item.is m c.in_ok-push.ensures.items,
    )

pub returns : goal.returns
returns g c =
    all_ran g.D.Decomposer.gives g.A.Answerer.count g.A.Answerer.relates (setup_for c.args.number c.args.sizes) c.args.calls.now c.loop-call.call-index (vec_items c.loop-call.answers) c.loop-call.book
    c.loop-call.invariant.1 c.loop-call-test.false
    (c.loop-call.invariant.0 ∙ new_setup c.args.number c.args.sizes c.in_ok-tables.tables (state_of c.new-book.result) c.in_ok-tables.ensures c.new-book.ensures.after)
