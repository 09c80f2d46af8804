use Rattle.std.proofs.Common.{ℕ, ◌+◌, ◌*◌, ◌<◌, ◌≤◌, length, get_or, set, sym, ◌∙◌, subst, arith}
use Rattle.std.proofs.lemmas.List.{get_or-set_other}
use Rattle.rows.specs.Steps.{Whole}
use Rattle.rows.proofs.LaidOut.{laid_out}
use Rattle.rows.proofs.RowPlaces.{row_fits}
use Rattle.rows.proofs.Visiting.{base_other, whole_outside, row_own}
use Rattle.rows.proofs.write.write_row.Goals as goal

pub visit_bases-requires-clause-bases : goal.visit_bases-requires-clause-bases
visit_bases-requires-clause-bases c b l =
    let laid = laid_out c.args.layout.now in
    whole_outside laid c.args.t b c.args.index.now c.empty_row.new.index (base_other laid c.args.t b l) c.empty_row.ensures.outside (c.requires.bases b l)

pub bounds-index-place : goal.bounds-index-place
bounds-index-place c =
    let layout = c.args.layout.now in
    let fits : c.args.t * layout.chains + layout.chains ≤ length c.args.index.now = row_fits c.args.t layout.types layout.chains _ c.requires.below c.requires.index_room in
    omega (arith, (laid_out c.args.layout.now).chained.below c.args.t c.requires.below)

pub returns-clause-row : goal.returns-clause-row
returns-clause-row c =
    let layout = c.args.layout.now in
    let t = c.args.t in
    let index = c.visit_bases.new.index in
    let fits : t * layout.chains + layout.chains ≤ length c.args.index.now = row_fits t layout.types layout.chains _ c.requires.below c.requires.index_room in
    let on : get_or layout.chain.now t 0 < layout.chains = (laid_out layout).chained.below t c.requires.below in
    subst (λ (x : ℕ). Whole layout (set index x (get_or layout.position.now t 0)) t) (sym c.place.ensures) (row_own (laid_out layout) t c.requires.below index (omega arith) c.visit_bases.ensures.row)

pub returns-clause-outside : goal.returns-clause-outside
returns-clause-outside c j out =
    let layout = c.args.layout.now in
    let on = (laid_out layout).chained.below c.args.t c.requires.below in
    get_or-set_other c.visit_bases.new.index c.place.result j (get_or layout.position.now c.args.t 0) 0 (λ e. out (get_or layout.chain.now c.args.t 0) on (e ∙ c.place.ensures))
    ∙ c.visit_bases.ensures.outside j out ∙ c.empty_row.ensures.outside j out
