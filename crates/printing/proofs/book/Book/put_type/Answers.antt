use Rattle.std.proofs.Common.{List, ℕ, [], ◌++◌, get_or, codes}
use Rattle.printing.specs.Books.{names_of, links_of}
use Rattle.printing.specs.Printed.{base_names, parted, type_line}
use Rattle.printing.proofs.Putting.{Goes, goes_says, goes_on, goes_end}
use Rattle.printing.proofs.LinesLeft.{line_starts, no_line}
use Rattle.printing.proofs.book.Book.put_type.Goals as goal
use Rattle.printing.proofs.book.Book.put_type.Goals.{After-name}

pub returns-then-is_none : goal.returns-then-is_none
returns-then-is_none c = no_line c.args.self.now c.args.of c.next_base.result c.next_base.ensures c.if-is_none.ensures c.args.out.now

abbrev bases : (c : After-name) → List (List ℕ)
bases c = base_names (links_of c.args.self.now) c.args.of 0 (names_of c.args.self.now)

-- the name is next, then the bases, and byte 10
to_name : (c : After-name)
    → Goes (c.name.result.now ++ (parted (codes " < ") (bases c) ++ codes "\n")) c.args.out.now (type_line (get_or (names_of c.args.self.now) c.args.of []) (bases c)) c.args.out.now
to_name c = line_starts c.args.self.now c.args.of c.next_base.result c.next_base.ensures c.if-is_none.ensures c.name.result.now c.args.out.now c.name.ensures

pub put-requires : goal.put-requires
put-requires c = goes_says c.name.result.now (parted (codes " < ") (bases c) ++ codes "\n") (to_name c) c.requires

pub put_bases-requires : goal.put_bases-requires
put_bases-requires c =
    let before = (goal.at.put_bases-requires c).After-name in
    let text = parted (codes " < ") (bases before) in
    goes_says text (codes "\n") (goes_on c.name.result.now (text ++ codes "\n") _ (to_name before) c.put.ensures) c.requires

pub put-requires-2 : goal.put-requires-2
put-requires-2 c =
    let before = (goal.at.put-requires-2 c).After-name in
    let text = parted (codes " < ") (bases before) in
    goes_says (codes "\n") [] (goes_on text (codes "\n") _ (goes_on c.name.result.now (text ++ codes "\n") _ (to_name before) c.put.ensures) c.put_bases.ensures) c.requires

pub returns : goal.returns
returns c =
    let before = (goal.at.returns c).After-name in
    let text = parted (codes " < ") (bases before) in
    let based = goes_on text (codes "\n") _ (goes_on c.name.result.now (text ++ codes "\n") _ (to_name before) c.put.ensures) c.put_bases.ensures in
    goes_end (goes_on (codes "\n") [] _ based c.put-2.ensures)
