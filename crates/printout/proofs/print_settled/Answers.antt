use Rattle.std.proofs.Common.{◌≡◌, true, is_ok, sym, ap, ◌∙◌, rules}
use Rattle.hierarchy.specs.declared.book.Hierarchy.{Hierarchy}
use Rattle.hierarchy.specs.Books.{book_of}
use Rattle.hierarchy.specs.Entering.{links_in}
use Rattle.hierarchy.specs.Indexes.{settled_answer}
use Rattle.names.specs.Held.{names_in}
use Rattle.register.specs.Contents.{contents_of}
use Rattle.register.proofs.Backing.{register_answers}
use Rattle.printout.specs.Printouts.{printed_or}
use Rattle.printout.proofs.Marks.{prints}
use Rattle.printout.proofs.print_settled.Goals as goal

pub returns : goal.returns
returns c =
    let r = c.args.register.now in
    let h : c.numbered-numbered.result.now ≡ r.numbered = c.numbered-numbered.ensures in
    let names : names_in c.names.result.now ≡ (contents_of r).entries.names = ap names_in c.names.ensures in
    let kept : c.kept.result.now ≡ (contents_of r).written.kept = c.kept.ensures ∙ ap (λ (x : Hierarchy). (book_of x).written.kept) h in
    let links : c.links.result.now ≡ (contents_of r).entries.links = c.links.ensures ∙ ap (λ (x : Hierarchy). links_in (book_of x).held) h in
    let settled : is_ok (settled_answer (contents_of r).settled) ≡ true =
    ap (λ (x : Hierarchy). is_ok (settled_answer x.chains)) (sym h) ∙ ap is_ok (sym c.settled_chains.ensures) ∙ sym c.in_ok-map_err.ensures.variant in
    let p = prints (contents_of r) (names_in c.names.result.now) c.kept.result.now c.links.result.now c.args.out.now settled (register_answers r) names kept links in
    let shown : c.map_err-2.result ≡ printed_or c.print.result = search rules in
    record { answer = shown ∙ p.answers c.print.result c.print.ensures.answer; output = p.writes c.print.new.out c.print.ensures.output }
