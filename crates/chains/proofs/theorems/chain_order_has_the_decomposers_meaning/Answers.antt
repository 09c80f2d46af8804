use Rattle.chains.specs.ChainOrders.{chain_order_meaning}
use Rattle.chains.proofs.theorems.chain_order_has_the_decomposers_meaning.Goals as goal

pub returns : goal.returns
returns c = chain_order_meaning
