use Rattle.std.proofs.Common.{map, vec_items, Ok, Err, subst}
use Rattle.grammar.specs.Declarations.{name_of, names_of}
use Rattle.register.specs.Entries.{with_bases, with_names}
use Rattle.register.specs.Places.{no_bases, no_names}
use Rattle.register.specs.Contents.{contents_of}
use Rattle.register.specs.Growing.{NameEnters, Enters}
use Rattle.register.proofs.Growth.{left_by}
use Rattle.register.proofs.Going.{name_off, names_then, name_first}
use Rattle.register.proofs.register.Register.enter_declaration.Goals as goal

pub returns-in_err-from : goal.returns-in_err-from
returns-in_err-from c =
    let start = contents_of c.args.self.now in
    let after = contents_of c.enter_name.new.self in
    let line = c.args.line in
    let d = c.args.declaration.now in
    let refusal = c.in_err-from.field-0.0 in
    let h = subst (λ at. NameEnters start d.name.bytes.now at (Err refusal) after) c.at.ensures c.in_err-from.ensures in
    left_by (λ r. Enters (no_names start.room line.source line.number start.entries (names_of d)) (with_names start.entries (names_of d)) start r after)
    c.from_residual.result refusal c.from_residual.ensures.1
    (name_off start after line.source line.number (name_of d.name) (map name_of (vec_items d.bases)) refusal h)

pub enter_bases-requires : goal.enter_bases-requires
enter_bases-requires c = name_first (contents_of c.args.self.now) (contents_of c.enter_name.new.self) c.args.declaration.now.name.bytes.now c.at.result c.in_ok-from.from c.in_ok-from.ensures

pub returns : goal.returns
returns c =
    let start = contents_of c.args.self.now in
    let middle = contents_of c.enter_name.new.self in
    let after = contents_of c.enter_bases.new.self in
    let number = c.in_ok-from.from in
    let line = c.args.line in
    let d = c.args.declaration.now in
    let h = subst (λ at. NameEnters start d.name.bytes.now at (Ok number) middle) c.at.ensures c.in_ok-from.ensures in
    let g = subst (λ bs. Enters (no_bases middle.room line.source line.number number middle.entries (map name_of bs)) (with_bases number middle.entries (map name_of bs)) middle c.enter_bases.result after) c.deref.ensures.value c.enter_bases.ensures in
    names_then start middle after line.source line.number number (name_of d.name) (map name_of (vec_items d.bases)) c.enter_bases.result h g
