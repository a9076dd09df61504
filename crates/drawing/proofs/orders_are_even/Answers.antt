use Rattle.drawing.proofs.Even.{even_orders}
use Rattle.drawing.proofs.Orders.{orders}
use Rattle.drawing.proofs.orders_are_even.Goals as goal

pub returns : goal.returns
returns c = record { one_to_one = orders; even = even_orders }
