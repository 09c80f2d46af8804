use Rattle.std.proofs.Common.{◌≡◌, ℕ, List, ◌∷◌, Option, true, false, Bor, sym, ap, ◌∙◌, subst}
use Rattle.std.specs.Option.{option_map}
use Rattle.texts.specs.Lines.{lines_left, Steps}
use Rattle.script.specs.Reading.{reading_of, begun, with_bytes, with_lines}
use Rattle.script.proofs.Readings.{lines_some}
use Rattle.script.proofs.reading.read_script.Goals as goal
use Rattle.script.proofs.reading.read_script.Goals.{in-Some+in_ok-add_bytes, in_default}

pub loop-line-init : goal.loop-line-init
loop-line-init c =
    let input = c.args.input.now in
    let before = option_map (λ (x : Bor (List ℕ)). x.now) c.of-lines.result.rest in
    let behind = option_map (λ (x : Bor (List ℕ)). x.now) c.next.new.self.rest in
    let left = lines_left (option_map (λ (x : Bor (List ℕ)). x.now) c.into_iter-line-iterator.result.rest) in
    let same : left ≡ lines_left behind = ap (λ s. lines_left (option_map (λ x. x.now) s.rest)) c.into_iter-line-iterator.ensures.into_iter_gives in (
      tt,
      tt,
      elim c.match-next.branch [
        | in-Some+in_ok-add_bytes w ↦ (
            let line = w.in-Some.line.now in
            let steps : lines_left before ≡ line ∷ lines_left behind = subst (λ (r : Option (Bor (List ℕ))). Steps before (option_map (λ x. x.now) r) behind) w.in-Some.is c.next.ensures.steps in
            ap (λ s. with_lines false (reading_of s) left) w.script-is
            ∙ ap (λ r. with_lines false r left) w.in_ok-add_bytes.ensures
            ∙ ap (λ r. with_lines false (with_bytes true r line) left) c.new-script.ensures
            ∙ ap (λ l. with_lines true begun (line ∷ l)) same
            ∙ ap (with_lines true begun) (sym steps ∙ c.of-lines.ensures)
            )
        | in_default w ↦ absurd (lines_some input (sym c.of-lines.ensures ∙ subst (λ (r : Option (Bor (List ℕ))). Steps before (option_map (λ x. x.now) r) behind) w.in_default.is c.next.ensures.steps))
      ],
    )
