-- One event more of a history.
use Rattle.std.proofs.Common.{◌≡◌, ◌≤◌, ◌∷◌, length, take, Some, Ok, Option, sym, ap, ◌∙◌, subst}
use Rattle.descent.specs.Links.{Within}
use Rattle.register.specs.Contents.{Contents, back_answer}
use Rattle.register.proofs.Backing.{back_accepted}
use Rattle.declarations.specs.declared.ticket.Mark.{Mark}
use Rattle.declarations.specs.Marks.{types_marked, links_marked}
use Rattle.declarations.specs.Books.{State}
use Rattle.declarations.specs.Histories.{Event, Moment, step, Setup, Right, AllRight}
use Rattle.declarations.specs.Telling.{setup_of, moment_of, Goes}

pub goes_by : (s after : State) (e : Event) → setup_of after ≡ setup_of s → moment_of after ≡ step e (moment_of s) → Right (setup_of s) (moment_of s) e → Goes s e after
goes_by s after e same moves right = λ h t.
    let R : Moment → Type 0 = λ m. Right (setup_of s) m e in
    let A : Setup → Type 0 = λ k. AllRight k (e ∷ h) in
    record {
      is = moves ∙ ap (step e) t.is;
      right = subst A (sym same) (subst R t.is right, t.right);
    }

-- what the register is taken back to is there
pub back_to_mark : (mark : Option Mark) (m : Mark) (c : Contents) → mark ≡ Some m → types_marked mark ≤ length c.entries.names → links_marked mark ≤ length c.entries.links → Within (take (links_marked mark) c.entries.links) (types_marked mark)
    → back_answer c m.types m.links ≡ Ok tt
back_to_mark mark m c e t l w =
    let T : Option Mark → Type 0 = λ o. types_marked o ≤ length c.entries.names in
    let L : Option Mark → Type 0 = λ o. links_marked o ≤ length c.entries.links in
    let W : Option Mark → Type 0 = λ o. Within (take (links_marked o) c.entries.links) (types_marked o) in
    back_accepted c m.types m.links (subst T e t) (subst L e l) (subst W e w)
