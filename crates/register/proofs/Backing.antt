-- Taking back, where it is accepted; and what every register keeps.
use Rattle.std.proofs.Common.{◌≡◌, ℕ, suc, ◌≤◌, ◌||◌, ltb, List, [], ◌∷◌, length, take, None, Ok, refl, ap, ◌∙◌, subst, arith}
use Rattle.std.proofs.lemmas.Bool.{cond-true, cond-false, le-ltb, lt-ltb}
use Rattle.descent.specs.declared.link.Link.{Link}
use Rattle.descent.specs.Links.{Within}
use Rattle.descent.specs.Refusals.{stray_end}
use Rattle.hierarchy.specs.Books.{book_of}
use Rattle.hierarchy.specs.Entering.{left_answer}
use Rattle.register.specs.Contents.{Contents, back_answer}
use Rattle.register.specs.declared.register.Register.{Register}
use Rattle.register.specs.Contents.{contents_of, Answers}
use Rattle.hierarchy.specs.Answering.{Answering}

no_stray_within : (n : ℕ) (links : List Link) → Within links n → stray_end n links ≡ None
no_stray_within n [] w = refl
no_stray_within n (l ∷ links) w =
    cond-true _ _ _ (lt-ltb _ _ (w 0 (omega arith)).0) ∙ cond-true _ _ _ (lt-ltb _ _ (w 0 (omega arith)).1) ∙ no_stray_within n links (λ k h. w (suc k) (omega arith))

-- it is accepted where no more is asked for than there is, and no link leads out
pub back_accepted : (c : Contents) (types links : ℕ) → types ≤ length c.entries.names → links ≤ length c.entries.links → Within (take links c.entries.links) types → back_answer c types links ≡ Ok tt
back_accepted c types links t l w =
    cond-false _ _ _ (ap (λ x. x || ltb (length c.entries.links) links) (le-ltb _ _ t) ∙ le-ltb _ _ l) ∙ ap (λ o. left_answer o types) (no_stray_within types (take links c.entries.links) w)

-- what every register keeps
pub links_few : (r : Register) → (book_of r.numbered).held.count ≤ length (book_of r.numbered).held.table
links_few r = omega (arith, r.numbered.entered.few_links.0, r.numbered.entered.links.ok.0)

pub links_within : (r : Register) → Within (contents_of r).entries.links (length (contents_of r).entries.names)
links_within r = subst (Within (contents_of r).entries.links) r.named r.numbered.entered.within

pub register_answers : (r : Register) → ∥ Answers (contents_of r).settled (contents_of r) ∥₁
register_answers r =
    let c = contents_of r in
    subst (λ n. ∥ Answering c.settled n c.entries.links c.written.order c.written.chain c.written.position c.written.kept c.written.index ∥₁) r.named r.numbered.answering
