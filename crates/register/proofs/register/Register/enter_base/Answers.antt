use Rattle.std.proofs.Common.{◌≡◌, of_calls, Some, sym, ap, ◌∙◌}
use Rattle.descent.specs.Links.{link}
use Rattle.names.specs.Held.{names_in, pool_size, table_size}
use Rattle.hierarchy.specs.Books.{book_of, after_link}
use Rattle.register.specs.declared.refusal.Refusal.TheVariants.{NoLinkPlace}
use Rattle.register.specs.Entries.{number_for, with_base}
use Rattle.register.specs.Contents.{contents_of, unsettled}
use Rattle.register.specs.Growing.{Enters}
use Rattle.register.specs.Places.{first, no_link_place, no_base}
use Rattle.register.proofs.Parts.{contents_from, linking, base_unplaced}
use Rattle.register.proofs.Growth.{grown_name, grown_is, grown_self, left_by, mapped_err}
use Rattle.register.proofs.register.Register.enter_base.Goals as goal

pub returns-in_err-to : goal.returns-in_err-to
returns-in_err-to c =
    let before = contents_of c.args.self.now in
    let h = c.in_err-to.ensures in
    left_by (λ r. Enters (no_base before.room c.args.from before.entries c.args.base.now c.args.at) (with_base c.args.from before.entries c.args.base.now) before r (contents_of c.enter_name.new.self))
    c.from_residual.result c.in_err-to.field-0.0 c.from_residual.ensures.1
    (ap (λ o. first o (no_link_place before.room before.entries.links (link c.args.from (number_for before.entries.names c.args.base.now)) c.args.at)) h.0, grown_is (ap unsettled h.1) (grown_self before))

pub returns-in_err-map_err : goal.returns-in_err-map_err
returns-in_err-map_err c =
    let before = contents_of c.args.self.now in
    let middle = c.enter_name.new.self in
    let l = linking before c.args.base.now c.args.at c.enter_name.new.self c.args.from c.in_ok-to.to c.in_ok-to.ensures c.requires in
    let x = mapped_err _ c.enter_link-entered.result c.map_err.result c.in_err-map_err.field-0.0 c.map_err.ensures.cases c.in_err-map_err.was in
    let u = base_unplaced l x.0 (book_of c.enter_link-entered.new.self) (sym x.1 ∙ c.enter_link-entered.ensures.answer) (c.enter_link-entered.ensures.after ∙ ap (after_link (book_of middle.numbered) c.args.from c.in_ok-to.to) x.1) in
    let p : c.in_err-map_err.field-0.0 ≡ NoLinkPlace c.args.at = search of_calls in
    left_by (λ r. Enters (no_base before.room c.args.from before.entries c.args.base.now c.args.at) (with_base c.args.from before.entries c.args.base.now) before r (contents_from (names_in middle.names) (pool_size middle.names) (table_size middle.names) (book_of c.enter_link-entered.new.self)))
    c.from_residual-in_err-map_err.result c.in_err-map_err.field-0.0 c.from_residual-in_err-map_err.ensures.1
    (u.1 ∙ ap Some (sym p), grown_is u.2 (grown_name before c.args.base.now))
