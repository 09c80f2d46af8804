use Rattle.std.proofs.Common.{◌<◌, true, false, length, arith}
use Rattle.std.proofs.lemmas.Grind.{common_steps}
use Rattle.std.proofs.lemmas.Bool.Decides.{nat_tests}
use Rattle.hierarchy.proofs.Known.{search_tells}
use Rattle.hierarchy.proofs.LinkTables.{within_entered, distinct_entered, zero_entered}
use Rattle.hierarchy.proofs.entered.Entered.enter_link.Goals as goal

pub returns-then-is_known-clause-answer : goal.returns-then-is_known-clause-answer
returns-then-is_known-clause-answer c =
    let s = c.args.self.now in
    let known = search_tells s.links.items c.links.result.now s.count c.args.from c.args.to true c.links.ensures c.if-is_known.ensures in
    grind (arith, common_steps, nat_tests)

pub returns-then-count-len-clause-answer : goal.returns-then-count-len-clause-answer
returns-then-count-len-clause-answer c =
    let s = c.args.self.now in
    let new = search_tells s.links.items c.links.result.now s.count c.args.from c.args.to false c.links.ensures c.if-is_known.ensures in
    grind (arith, common_steps, nat_tests)

pub invariant_of-self : goal.invariant_of-self
invariant_of-self c =
    let s = c.args.self.now in
    let xs = s.links.items in
    let room : s.count < length xs = omega (arith, s.links.ok.0) in
    let new = search_tells s.links.items c.links.result.now s.count c.args.from c.args.to false c.links.ensures c.if-is_known.ensures in
    record {
      few_types = s.few_types;
      few_links = (omega arith, omega arith);
      within = within_entered xs s.count s.types c.args.from c.args.to room s.within (grind (arith, nat_tests)) (grind (arith, nat_tests));
      different = distinct_entered xs s.count s.types c.args.from c.args.to room s.different new;
      zeros = zero_entered xs s.count s.types c.args.from c.args.to room s.zeros;
    }

pub returns-clause-answer : goal.returns-clause-answer
returns-clause-answer c =
    let s = c.args.self.now in
    let new = search_tells s.links.items c.links.result.now s.count c.args.from c.args.to false c.links.ensures c.if-is_known.ensures in
    grind (arith, common_steps, nat_tests)
