use Rattle.std.proofs.Common.{◌+◌, ◌<◌, ◌++◌, ◌^◌, Some, None, drop, codes, refl, rules, arith}
use Rattle.names.proofs.Keeping.{holds_itself}
use Rattle.printing.specs.Books.{names_of, links_of}
use Rattle.printing.specs.Printed.{base_names, parted}
use Rattle.printing.proofs.Lowests.{next_is}
use Rattle.printing.proofs.Putting.{goes_says, goes_on, goes_end}
use Rattle.printing.proofs.LinesLeft.{base_next, bases_over}
use Rattle.printing.proofs.book.Book.put_bases.Goals as goal

pub put-requires : goal.put-requires
put-requires c =
    let b = c.args.self.now in
    let next = next_is b c.args.of c.loop-base.least (Some c.in-Some.base) c.in-Some.ensures in
    let separator = c.loop-base.separator.now in
    goes_says separator _ (base_next (names_of b) (links_of b) c.args.of c.loop-base.least separator c.loop-base.invariant.0 c.in-Some.base _ next refl) c.requires

-- the separator is put, and then the base
pub put-requires-in-Some : goal.put-requires-in-Some
put-requires-in-Some c =
    let b = c.args.self.now in
    let next = next_is b c.args.of c.loop-base.least (Some c.in-Some.base) c.in-Some.ensures in
    let separator = c.loop-base.separator.now in
    let name = c.name.result.now in
    let rest = parted (codes ", ") (base_names (links_of b) c.args.of (c.in-Some.base + 1) (drop (c.in-Some.base + 1) (names_of b))) in
    let parts = goes_on separator (name ++ rest) _ (base_next (names_of b) (links_of b) c.args.of c.loop-base.least separator c.loop-base.invariant.0 c.in-Some.base name next c.name.ensures) c.put.ensures in
    goes_says name rest parts c.requires

pub overflow_add-least : goal.overflow_add-least
overflow_add-least c =
    let b = c.args.self.now in
    let next = next_is b c.args.of c.loop-base.least (Some c.in-Some.base) c.in-Some.ensures in
    let fits : c.in-Some.base + 1 < 2 ^ 16 = omega (arith, next.1, (holds_itself b.names.now).few_types.1) in
    search rules

pub loop-base-smaller : goal.loop-base-smaller
loop-base-smaller c =
    let next = next_is c.args.self.now c.args.of c.loop-base.least (Some c.in-Some.base) c.in-Some.ensures in
    omega (arith, next.0, next.1)

pub loop-base-preserved : goal.loop-base-preserved
loop-base-preserved c =
    let b = c.args.self.now in
    let next = next_is b c.args.of c.loop-base.least (Some c.in-Some.base) c.in-Some.ensures in
    let separator = c.loop-base.separator.now in
    let name = c.name.result.now in
    let rest = parted (codes ", ") (base_names (links_of b) c.args.of (c.in-Some.base + 1) (drop (c.in-Some.base + 1) (names_of b))) in
    let parts = goes_on separator (name ++ rest) _ (base_next (names_of b) (links_of b) c.args.of c.loop-base.least separator c.loop-base.invariant.0 c.in-Some.base name next c.name.ensures) c.put.ensures in
    (goes_on name rest _ parts c.put-in-Some.ensures, omega (arith, next.1))

pub returns : goal.returns
returns c =
    let b = c.args.self.now in
    let none = next_is b c.args.of c.loop-base.least None c.in_default.ensures in
    goes_end (bases_over (names_of b) (links_of b) c.args.of c.loop-base.least c.loop-base.separator.now c.loop-base.invariant.0 c.loop-base.invariant.1 none)
