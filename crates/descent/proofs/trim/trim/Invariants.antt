use Rattle.std.proofs.Common.{◌≡◌, drop}
use Rattle.descent.specs.Answers.{Keeps}
use Rattle.descent.specs.Trims.{Flagged}
use Rattle.descent.proofs.trim.trim.Given as goal

abbrev pub invariant-loop-i : goal.invariant-loop-i
invariant-loop-i g l =
    let m = g.A.Answerer in
    record {
      kept : Keeps m.count m.relates l.initial.answerer l.answerer;
      flagged : Flagged l.links (m.relates l.initial.answerer) l.i l.flags;
      rest : drop l.i l.flags ≡ drop l.i l.initial.flags;
    }
