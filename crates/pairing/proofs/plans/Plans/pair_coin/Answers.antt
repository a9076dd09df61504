use Rattle.std.proofs.Common.{◌++◌, length, drop, length-take, sym, ap, arith}
use Rattle.pairing.specs.Coins.{left_by}
use Rattle.pairing.specs.Plans.{both_of}
use Rattle.pairing.proofs.Bytes.{order_room, coin_made, coin_goes}
use Rattle.pairing.proofs.Promises.{promised}
use Rattle.pairing.proofs.plans.Plans.pair_coin.Goals as goal

pub returns-in_err-order-clause-promise : goal.returns-in_err-order-clause-promise
returns-in_err-order-clause-promise c = promised c.args.self.now

pub slice_bounds-copy_from_slice-end : goal.slice_bounds-copy_from_slice-end
slice_bounds-copy_from_slice-end c =
    let l = order_room (both_of c.args.self.now) c.args.question c.args.coin.now _ c.in_ok-order.ensures in
    omega (arith, ap length c.as_slice-numbers.ensures.numbers)

pub slice_bounds-copy_from_slice-end-2 : goal.slice_bounds-copy_from_slice-end-2
slice_bounds-copy_from_slice-end-2 c =
    let l = order_room (both_of c.args.self.now) c.args.question c.args.coin.now _ c.in_ok-order.ensures in
    simp length-take (omega (arith, ap length c.as_slice-numbers.ensures.numbers))

pub copy_from_slice-requires : goal.copy_from_slice-requires
copy_from_slice-requires c =
    let l = order_room (both_of c.args.self.now) c.args.question c.args.coin.now _ c.in_ok-order.ensures in
    simp length-take (omega (arith, ap length c.as_slice-numbers.ensures.numbers))

pub returns : goal.returns
returns c =
    let s = c.args.self.now in
    let bs = c.args.coin.now in
    let o = c.in_ok-order.ensures in
    let numbers = c.as_slice-numbers.result.now in
    let e = coin_made (both_of s) c.args.question bs _ numbers _ o c.as_slice-numbers.ensures.numbers (ap (λ zs. zs ++ drop (length numbers) bs) c.copy_from_slice.ensures.after) in
    let g = coin_goes (both_of s) c.args.question bs _ _ c.type_inv.coin o e in
    record { answer = sym e; left = sym (ap (λ g. left_by g bs) e); coin = g; promise = promised s }
