use Rattle.order.proofs.WholeOrders.{ranks_rise}
use Rattle.order.proofs.theorems.ranks_rise_along_each_link.Goals as goal

pub returns : goal.returns
returns c = ranks_rise
