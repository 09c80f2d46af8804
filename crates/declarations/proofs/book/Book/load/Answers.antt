use Rattle.register.specs.Contents.{contents_of}
use Rattle.declarations.specs.Books.{state_of}
use Rattle.declarations.proofs.Loading.{load_stays, load_goes}
use Rattle.declarations.proofs.book.Book.load.Goals as goal

pub invariant_of-self : goal.invariant_of-self
invariant_of-self c =
    let self = c.args.self.now in
    let s = load_stays self.mark (contents_of self.register) (contents_of c.load.new.self) c.args.shipped.now c.args.own.now self.marked_types self.marked_links self.marked_within c.load.result c.load.ensures in
    record { marked_types = s.types; marked_links = s.links; marked_within = s.within }

pub returns-clause-told : goal.returns-clause-told
returns-clause-told c =
    let self = c.args.self.now in
    let after = contents_of c.load.new.self in
    let s = load_stays self.mark (contents_of self.register) after c.args.shipped.now c.args.own.now self.marked_types self.marked_links self.marked_within c.load.result c.load.ensures in
    load_goes (state_of self) after c.args.shipped.now c.args.own.now c.load.result c.load.ensures s
