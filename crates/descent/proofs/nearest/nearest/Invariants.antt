use Rattle.std.proofs.Common.{ℕ, ◌<◌}
use Rattle.descent.specs.Answers.{Keeps}
use Rattle.descent.specs.Nearests.{Common, Yields, Undercuts}
use Rattle.descent.proofs.nearest.nearest.Given as goal

abbrev pub invariant-bases : goal.invariant-bases
invariant-bases g l =
    let m = g.A.Answerer in
    record {
      kept : Keeps m.count m.relates l.initial.answerer l.answerer;
      undercut : (c : ℕ) → c < l.c → Common (m.count l.initial.answerer) (m.relates l.initial.answerer) l.a l.b c
          → (d : ℕ) × Undercuts (m.count l.initial.answerer) (m.relates l.initial.answerer) l.a l.b c d;
    }

abbrev pub invariant-loop-d : goal.invariant-loop-d
invariant-loop-d g l =
    let m = g.A.Answerer in
    record {
      kept : Keeps m.count m.relates l.initial.answerer l.answerer;
      yields : (d : ℕ) → d < l.d → Yields (m.count l.initial.answerer) (m.relates l.initial.answerer) l.a l.b l.c d;
    }
