use Rattle.std.proofs.Common.{◌≡◌, ◌∙◌, sym, refl, arith, rules}
use borrow.Author.Tests.{tests}
use Rattle.std.specs.List.{find, range_with_len}
use Rattle.std.specs.Option.{option_map}
use Rattle.std.proofs.lemmas.Iterator.{YieldsList-from_range}
use Rattle.std.proofs.lemmas.Iterator.Adapters.{option_map_id}
use Rattle.std.proofs.lemmas.Iterator.Search.{find_from_yields_List}
use Rattle.chains.specs.Ends.{is_host}
use Rattle.chains.proofs.Finds.{find_lowest}
use Rattle.chains.proofs.joining.find_host.Goals as goal

pub returns : goal.returns
returns c =
    let test = is_host c.args.c c.args.last.now c.args.marks.now in
    let found : option_map (λ x. x) c.find.result ≡ find test (range_with_len 0 c.args.count) =
    find_from_yields_List test _ _ c.find.result c.find.ensures.ran (YieldsList-from_range 0 c.args.count c.args.count refl (omega arith)) (λ x b q k. search (rules, tests)) in
    sym (option_map_id c.find.result) ∙ found ∙ find_lowest test 0 c.args.count
