-- Orders of paths: rows in which each of 1 to 64 paths stands once. Assumes nothing.
use Rattle.std.specs.Prelude.{ℕ, Bool, ◌&&◌, List, length, take, nat_le}
use Rattle.paths.specs.declared.order.Order.{Order}
use Rattle.paths.specs.Plan.{all_below, different}

-- none twice, and all below n
abbrev pub none_twice : ℕ → List ℕ → Bool
none_twice n xs = different xs && all_below n xs

abbrev pub is_order : List ℕ → Bool
is_order xs = nat_le 1 (length xs) && nat_le (length xs) 64 && none_twice (length xs) xs

-- an order of the code as a list
abbrev pub order_of : Order → List ℕ
order_of o = take o.count o.numbers
