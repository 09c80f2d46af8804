use Rattle.descent.specs.Answers.{Keeps}
use Rattle.descent.proofs.Flagging.{Unimplied}
use Rattle.descent.proofs.trim.flag.Given as goal

abbrev pub invariant-loop-k : goal.invariant-loop-k
invariant-loop-k g l =
    let m = g.A.Answerer in
    record {
      kept : Keeps m.count m.relates l.initial.answerer l.answerer;
      unimplied : Unimplied l.links (m.relates l.initial.answerer) l.link l.k;
    }
