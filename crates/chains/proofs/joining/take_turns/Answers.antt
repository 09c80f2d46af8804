use Rattle.std.proofs.Common.{◌≡◌, ℕ, ◌+◌, List, length, get_or, set, Some, sym, ap, ◌∙◌, subst, arith}
use Rattle.chains.specs.Ends.{no_type}
use Rattle.chains.specs.Joining.{put_behind}
use Rattle.chains.specs.Places.{places}
use Rattle.chains.proofs.JoiningTables.{Turning, at_turn, turning_host, turning_skip, turning_more}
use Rattle.chains.proofs.Turns.{position_below}
use Rattle.chains.proofs.joining.take_turns.Goals as goal
use Rattle.chains.proofs.joining.take_turns.Goals.{in-Some, in_default}

pub bounds-last-d : goal.bounds-last-d
bounds-last-d c =
    let a = at_turn c.loop-c.invariant.0 c.loop-c-test.true c.mark_paths.new.marks c.args.ranked.now.few c.mark_paths.ensures in
    omega (arith, (turning_host c.loop-c.invariant.0 c.loop-c-test.true a c.in-Some.ensures).0, c.loop-c.invariant.1)

pub bounds-last-d-in-Some : goal.bounds-last-d-in-Some
bounds-last-d-in-Some c =
    let a = at_turn c.loop-c.invariant.0 c.loop-c-test.true c.mark_paths.new.marks c.args.ranked.now.few c.mark_paths.ensures in
    omega (arith, (turning_host c.loop-c.invariant.0 c.loop-c-test.true a c.in-Some.ensures).0, c.loop-c.invariant.1)

pub put_behind-requires-clause-below : goal.put_behind-requires-clause-below
put_behind-requires-clause-below c =
    let a = at_turn c.loop-c.invariant.0 c.loop-c-test.true c.mark_paths.new.marks c.args.ranked.now.few c.mark_paths.ensures in
    omega (arith, c.loop-c.invariant.3, c.requires.chain_room, (turning_host c.loop-c.invariant.0 c.loop-c-test.true a c.in-Some.ensures).1)

pub put_behind-requires-clause-low : goal.put_behind-requires-clause-low
put_behind-requires-clause-low c t h =
    omega (arith, c.args.ranked.now.few, position_below c.loop-c.invariant.0.strung c.args.ranked.now.ranked t (omega (arith, c.loop-c.invariant.3, c.requires.chain_room)))

pub loop-c-preserved : goal.loop-c-preserved
loop-c-preserved c =
    let n = c.args.ranked.now.types in
    let links = c.args.ranked.now.links.now in
    let count = c.args.count in
    let first = c.args.first.now in
    let last = c.loop-c.last in
    let i = c.loop-c.c in
    let m = c.match-find_host in
    let start = places count c.args.chain.now c.args.position.now in
    let s = c.loop-c.invariant.0 in
    let a = at_turn s c.loop-c-test.true c.mark_paths.new.marks c.args.ranked.now.few c.mark_paths.ensures in
    let long : length c.loop-c.chain ≡ n = c.loop-c.invariant.3 ∙ c.requires.chain_room in
    let there : (chains positions lasts : List ℕ) → m.chain ≡ chains → m.position ≡ positions → m.last ≡ lasts → Turning n links start count chains positions first lasts (i + 1)
    → Turning n links start count m.chain m.position first m.last (i + 1) = λ chains positions lasts e f g t.
    subst (λ (x : List ℕ). Turning n links start count x m.position first m.last (i + 1)) (sym e)
    (subst (λ (x : List ℕ). Turning n links start count chains x first m.last (i + 1)) (sym f)
    (subst (λ (x : List ℕ). Turning n links start count chains positions first x (i + 1)) (sym g) t)) in (
      elim m.branch [
        | in-Some w ↦
            there w.put_behind.new.chain w.put_behind.new.position (set (set last w.in-Some.d (get_or last i 0)) i no_type) w.chain-is w.position-is w.last-is
            (turning_more s c.loop-c-test.true a w.in-Some.ensures (omega (arith, c.loop-c.invariant.1)) w.put_behind.new.chain w.put_behind.new.position
            (w.put_behind.ensures count ∙ ap (λ k. put_behind k (places count c.loop-c.chain c.loop-c.position) i (Some (get_or last w.in-Some.d 0))) long))
        | in_default w ↦ there c.loop-c.chain c.loop-c.position last w.chain-is w.position-is w.last-is (turning_skip s c.loop-c-test.true a w.in_default.ensures)
      ],
      m.auto.last ∙ c.loop-c.invariant.1,
      c.mark_paths.auto.marks ∙ c.loop-c.invariant.2,
      m.auto.chain ∙ c.loop-c.invariant.3,
      m.auto.position ∙ c.loop-c.invariant.4,
    )
