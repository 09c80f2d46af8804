use Rattle.std.proofs.Common.{◌≡◌, ℕ, List, length, drop, Ok, Err, vec_items, sym, ap, ◌∙◌, arith}
use Rattle.std.proofs.lemmas.Result.{IfOk-weaker}
use Rattle.std.proofs.lemmas.Bool.{cond-true, cond-false, le-ltb, lt-ltb}
use Rattle.order.specs.Order.{order_of}
use Rattle.chains.specs.Meaning.{ByChainOrder, JoinedFrom}
use Rattle.settling.specs.declared.outcome.Settled.{Settled}
use Rattle.settling.specs.declared.outcome.Report.{Report}
use Rattle.settling.specs.declared.outcome.Unsettled.{Unsettled}
use Rattle.settling.specs.declared.outcome.Unsettled.TheVariants.{ShortTable, Loop, ShortIndex}
use Rattle.settling.specs.Numbers.{report_of}
use Rattle.hierarchy.specs.SettledBooks.{tables_of}
use Rattle.printing.specs.Printed.{printed}
use Rattle.rows.specs.KeptEntries.{marked}
use Rattle.register.specs.declared.register.Register.{Register}
use Rattle.register.specs.Contents.{Contents, contents_of}
use Rattle.register.specs.Settling.{Settles}
use Rattle.program.specs.NewTables.{OverTables}
use Rattle.program.specs.Program.{shown_report, placeless, shown_text, shown_entries}
use Rattle.program.proofs.Fitting.{tables_suffice, index_suffices}
use Rattle.program.proofs.Printing.{kept-marked}
use Rattle.program.proofs.settle_and_print.Goals as goal

abbrev shown_contents : Contents → List ℕ
shown_contents c = shown_text (printed c.entries.names (marked c.written.kept c.entries.links))

-- a settled register is printed with the kept links of what was entered
settled_shown : (before after : Contents) (loop scratch loop' scratch' : List ℕ) (s : Settled) → Settles (JoinedFrom ByChainOrder) before loop scratch (Ok s) after loop' scratch' → shown_contents after ≡ shown_entries before.entries
settled_shown before after loop scratch loop' scratch' s x =
    let e = before.entries in
    let w = x.tables.1 in
    ap (λ (y : Contents). shown_text (printed y.entries.names (marked after.written.kept y.entries.links))) x.same
    ∙ ap (λ ls. shown_text (printed e.names ls)) (kept-marked e.links after.written.kept (drop (length e.links) before.written.kept) w.kept)
    ∙ sym (cond-false _ _ _ (le-ltb (length (order_of (length e.names) e.links)) (length e.names) (omega (arith, w.ranked))))

-- a register that is not settled has a loop
unsettled_shown : (r : Register) (after : Contents) (loop scratch loop' scratch' : List ℕ) (u : Unsettled) → OverTables (contents_of r) → length loop ≡ 128 → length scratch ≡ 512
    → Settles (JoinedFrom ByChainOrder) (contents_of r) loop scratch (Err u) after loop' scratch' → shown_report (placeless (report_of u).number) ≡ shown_entries (contents_of r).entries
unsettled_shown r after loop scratch loop' scratch' ShortTable over l s x = absurd (tables_suffice r loop scratch over l s x.tables.0)
unsettled_shown r after loop scratch loop' scratch' (Loop size) over l s x =
    let e = (contents_of r).entries in
    sym (cond-true _ _ _ (lt-ltb (length (order_of (length e.names) e.links)) (length e.names) x.tables.1.unranked))
unsettled_shown r after loop scratch loop' scratch' (ShortIndex needed) over l s x = absurd (index_suffices r loop scratch needed (tables_of after.written loop' scratch') over x.tables.1)

pub returns-in-Ok : goal.returns-in-Ok
returns-in-Ok c =
    let before = contents_of c.args.register.now in
    let after = contents_of c.settle.new.self in
    let shown = settled_shown before after c.deref_mut.result.now c.deref_mut-2.result.now c.settle.new.table c.settle.new.scratch c.in-Ok.field-0 c.in-Ok.ensures in
    IfOk-weaker c.print_register.result (λ v. vec_items v ≡ shown_contents after) (λ v. vec_items v ≡ shown_entries before.entries) (λ v e. e ∙ shown) c.print_register.ensures

pub returns : goal.returns
returns c =
    let r = c.args.register.now in
    let shown = unsettled_shown r (contents_of c.settle.new.self) c.deref_mut.result.now c.deref_mut-2.result.now c.settle.new.table c.settle.new.scratch c.in-Err.unsettled c.requires
    (c.deref_mut.ensures.len ∙ c.in_ok-table.ensures.len) (c.deref_mut-2.ensures.len ∙ c.in_ok-scratch.ensures.len) c.in-Err.ensures in
    IfOk-weaker c.refused_without_place.result (λ v. vec_items v ≡ shown_report (placeless c.report.result.number)) (λ v. vec_items v ≡ shown_entries (contents_of r).entries)
    (λ v e. e ∙ ap (λ (x : Report). shown_report (placeless x.number)) c.report.ensures ∙ shown) c.refused_without_place.ensures
