use Rattle.std.proofs.Common.{◌≡◌, is_ok, ap, ◌∙◌}
use Rattle.register.specs.Contents.{contents_of, back_answer}
use Rattle.declarations.specs.Books.{State}
use Rattle.declarations.proofs.Going.{back_to_mark}
use Rattle.declarations.proofs.book.Book.withdraw.Goals as goal

pub unwrap-requires : goal.unwrap-requires
unwrap-requires c =
    let self = c.args.self.now in
    let mark = c.in_ok-mark.mark in
    let h = c.in_ok-mark.ensures in
    let same : contents_of c.end_trial.new.self.register ≡ contents_of self.register = ap (λ (s : State). s.contents) h.2 in
    let ok = back_to_mark self.mark mark (contents_of self.register) h.1 self.marked_types self.marked_links self.marked_within in
    ap is_ok (c.take_back.ensures.answer ∙ ap (λ x. back_answer x mark.types mark.links) same ∙ ok)
