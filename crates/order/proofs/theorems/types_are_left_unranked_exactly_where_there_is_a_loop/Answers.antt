use Rattle.order.proofs.WholeOrders.{unranked_where_loop}
use Rattle.order.proofs.theorems.types_are_left_unranked_exactly_where_there_is_a_loop.Goals as goal

pub returns : goal.returns
returns c = unranked_where_loop
