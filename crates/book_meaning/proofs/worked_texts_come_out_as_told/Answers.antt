use Rattle.std.proofs.Common.{refl}
use Rattle.order.proofs.WholeOrders.{self_loop}
use Rattle.book_meaning.proofs.worked_texts_come_out_as_told.Goals as goal

pub returns : goal.returns
returns c = (refl, refl, refl, self_loop 0, refl, refl)
