-- Texts put one after another.
use Rattle.std.proofs.Common.{◌≡◌, ℕ, ◌+◌, ◌≤◌, List, [], ◌++◌, length, take, drop, sym, refl, ap, ◌∙◌, ap₂, append_assoc, add-zero, arith}
use Rattle.std.proofs.lemmas.List.{length-append, length-take-le, take-append-drop, take_at, drop_at, drop-drop}
use Rattle.names.specs.Tables.{written}
use Rattle.printing.specs.declared.output.Output.{Output}
use Rattle.printing.specs.Putting.{Puts, EndFits}

written_none : (at : ℕ) (out : List ℕ) → written at [] out ≡ out
written_none at out = ap (λ k. take at out ++ drop k out) (add-zero at) ∙ take-append-drop at out

written_more : (at : ℕ) (text left out : List ℕ) → at + length text ≤ length out → written (at + length text) left (written at text out) ≡ written at (text ++ left) out
written_more at text left out h =
    let front = take at out ++ text in
    let n = at + length text in
    let rest = drop n out in
    let long : length front ≡ n = length-append (take at out) text ∙ omega (arith, length-take-le at out (omega arith)) in
    let split : written at text out ≡ front ++ rest = sym (append_assoc (take at out) text rest) in
    let end : n + length left ≡ at + length (text ++ left) = omega (arith, length-append text left) in
    let tail : drop (n + length left) (written at text out) ≡ drop (at + length (text ++ left)) out =
    sym (drop-drop (length left) n (written at text out)) ∙ ap (drop (length left)) (ap (drop n) split ∙ drop_at front rest n long) ∙ drop-drop (length left) n out ∙ ap (λ k. drop k out) end in
    ap₂ (λ (a b : List ℕ). a ++ (left ++ b)) (ap (take n) split ∙ take_at front rest n long) tail
    ∙ append_assoc (take at out) text (left ++ drop (at + length (text ++ left)) out)
    ∙ ap (λ l. take at out ++ l) (sym (append_assoc text left (drop (at + length (text ++ left)) out)))

-- what is left to put into the output as it is now completes what was to be put at the start
pub record Goes (left : List ℕ) (now : Output) (all : List ℕ) (start : Output) : Type 0 where
  pub same : now.out.ghost_name ≡ start.out.ghost_name
  pub kept : length now.out.now ≡ length start.out.now
  pub ends : now.at + length left ≡ start.at + length all
  pub holds : now.at + length left ≤ length start.out.now → written now.at left now.out.now ≡ written start.at all start.out.now

pub goes_start : (all : List ℕ) (start : Output) → Goes all start all start
goes_start all start = record { same = refl; kept = refl; ends = refl; holds = λ h. refl }

module _ {all : List ℕ} {start : Output} where
  -- what is left, written in another way
  pub goes_as : {left : List ℕ} {now : Output} (other : List ℕ) → left ≡ other → Goes left now all start → Goes other now all start
  goes_as {left} {now} other e g =
      let n = ap length e in
      record {
        same = g.same;
        kept = g.kept;
        ends = omega (arith, g.ends);
        holds = λ h. ap (λ l. written now.at l now.out.now) (sym e) ∙ g.holds (omega arith);
      }

  pub goes_says : {now : Output} (text left : List ℕ) → Goes (text ++ left) now all start → EndFits all start → EndFits text now
  goes_says text left g s = omega (arith, g.ends, length-append text left)

  pub goes_on : {now : Output} (text left : List ℕ) (after : Output) → Goes (text ++ left) now all start → Puts text now after → Goes left after all start
  goes_on {now} text left after g p =
      let long = length-append text left in
      record {
        same = p.same ∙ g.same;
        kept = p.size ∙ g.kept;
        ends = omega (arith, g.ends, p.end);
        holds = λ h.
            let fits : now.at + length text ≤ length now.out.now = omega (arith, g.kept, p.end) in
            ap₂ (λ (k : ℕ) (l : List ℕ). written k left l) p.end (p.holds (omega (arith, p.end))) ∙ written_more now.at text left now.out.now fits ∙ g.holds (omega (arith, p.end));
      }

  pub goes_end : {now : Output} → Goes [] now all start → Puts all start now
  goes_end {now} g =
      let e : now.at ≡ start.at + length all = omega (arith, g.ends) in
      record { same = g.same; size = g.kept; end = e; holds = λ h. sym (written_none now.at now.out.now) ∙ g.holds (omega arith) }
