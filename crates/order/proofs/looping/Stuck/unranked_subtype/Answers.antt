use Rattle.std.proofs.Common.{◌<◌, length, arith}
use Rattle.std.specs.List.{All}
use Rattle.std.proofs.iter.Serving.{serving}
use Rattle.std.proofs.lemmas.List.Elements.{All-from_get_or}
use Rattle.descent.specs.declared.link.Link.{Link}
use Rattle.descent.specs.Links.{no_link}
use Rattle.order.proofs.looping.Stuck.unranked_subtype.Goals as goal

pub find-requires-clause-callable : goal.find-requires-clause-callable
find-requires-clause-callable c =
    let s = c.args.self.now in
    let starts : All (λ (l : Link). l.from < length s.rank.now) s.links.now = All-from_get_or (λ (l : Link). l.from < length s.rank.now) s.links.now no_link (λ k h. omega (arith, (s.within k h).0, s.room)) in
    grind serving
