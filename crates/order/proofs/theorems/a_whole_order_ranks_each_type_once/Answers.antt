use Rattle.order.proofs.WholeOrders.{each_type_once}
use Rattle.order.proofs.theorems.a_whole_order_ranks_each_type_once.Goals as goal

pub returns : goal.returns
returns c = each_type_once
