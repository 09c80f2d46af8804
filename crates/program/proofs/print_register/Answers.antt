use Rattle.std.proofs.Common.{◌≡◌, ℕ, true, false, ltb, List, length, take, drop, vec_items, refl, ap, ◌∙◌, subst}
use Rattle.std.proofs.lemmas.List.{take_at}
use Rattle.std.proofs.lemmas.Result.{IfOk-weaker}
use Rattle.descent.specs.declared.link.Link.{Link}
use Rattle.hierarchy.specs.declared.book.Hierarchy.{Hierarchy}
use Rattle.hierarchy.specs.Books.{book_of}
use Rattle.hierarchy.specs.Entering.{links_in}
use Rattle.names.specs.declared.names.Names.{Names}
use Rattle.names.specs.Held.{names_in}
use Rattle.printing.specs.Printed.{printed}
use Rattle.rows.specs.KeptEntries.{marked}
use Rattle.register.specs.declared.register.Register.{Register}
use Rattle.register.specs.Contents.{contents_of}
use Rattle.program.specs.Program.{shown_report, placeless, shown_text}
use Rattle.program.proofs.Printing.{printed_front, short_of, text_shown, text_short}
use Rattle.program.proofs.print_register.Goals as goal

-- the text of what was read of a register
read_text : (r : Register) (names : Names) (book : Hierarchy) (kept : List ℕ) (links : List Link) → names ≡ r.names → book ≡ r.numbered
    → kept ≡ (book_of book).written.kept → links ≡ links_in (book_of book).held
    → printed (names_in names) (marked kept links) ≡ printed (contents_of r).entries.names (marked (contents_of r).written.kept (contents_of r).entries.links)
read_text r names book kept links n b k l =
    ap (λ (x : Names). printed (names_in x) (marked kept links)) n
    ∙ ap (λ (x : List ℕ). printed (names_in r.names) (marked x links)) k
    ∙ ap (λ (x : List Link). printed (names_in r.names) (marked (book_of book).written.kept x)) l
    ∙ ap (λ (x : Hierarchy). printed (names_in r.names) (marked (book_of x).written.kept (links_in (book_of x).held))) b

pub returns-in-Ok : goal.returns-in-Ok
returns-in-Ok c =
    let before = c.deref_mut.result.now in
    let after = c.print.new.out in
    let text = printed (names_in c.names.result.now) (marked c.kept.result.now c.links.result.now) in
    let own = read_text c.args.register.now c.names.result.now c.numbered-book.result.now c.kept.result.now c.links.result.now
    c.names.ensures c.numbered-book.ensures c.kept.ensures c.links.ensures in
    let front = printed_front text before (length before) refl c.in-Ok.length after c.in-Ok.ensures.answer c.in-Ok.ensures.output in
    let size : length before ≡ 8192 = c.deref_mut.ensures.len ∙ c.in_ok-out.ensures.len in
    let fits : ltb 8192 (length text) ≡ false = subst (λ (n : ℕ). ltb n (length text) ≡ false) size front.0 in
    c.truncate.ensures.items
    ∙ ap (take c.in-Ok.length) (take_at after (drop (length after) (vec_items c.in_ok-out.out)) c.in_ok-out.out.len (front.2 ∙ c.deref_mut.ensures.len))
    ∙ front.1 ∙ text_shown text fits ∙ ap shown_text own

pub returns-in-Err : goal.returns-in-Err
returns-in-Err c =
    let before = c.deref_mut.result.now in
    let text = printed (names_in c.names.result.now) (marked c.kept.result.now c.links.result.now) in
    let own = read_text c.args.register.now c.names.result.now c.numbered-book.result.now c.kept.result.now c.links.result.now
    c.names.ensures c.numbered-book.ensures c.kept.ensures c.links.ensures in
    let size : length before ≡ 8192 = c.deref_mut.ensures.len ∙ c.in_ok-out.ensures.len in
    let over : ltb 8192 (length text) ≡ true = subst (λ (n : ℕ). ltb n (length text) ≡ true) size (short_of text before (length before) refl c.in-Err.short c.in-Err.ensures.answer) in
    IfOk-weaker c.refused_without_place.result (λ v. vec_items v ≡ shown_report (placeless c.number.result))
    (λ v. vec_items v ≡ shown_text (printed (contents_of c.args.register.now).entries.names (marked (contents_of c.args.register.now).written.kept (contents_of c.args.register.now).entries.links)))
    (λ v e. e ∙ ap (λ n. shown_report (placeless n)) c.number.ensures ∙ text_short text over ∙ ap shown_text own) c.refused_without_place.ensures
