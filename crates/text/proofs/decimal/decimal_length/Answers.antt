-- `text::decimal_length` meets its contract: the digits are one more than the whole logarithm. Assumes nothing.
use mathlib.Core.Path.{sym, ap}
use native.Mathlib.Omega.{arith}
use lib.ListN.{length}
use Rattle.text.proofs.Decimals.{one_digit, decimal_between}
use Rattle.text.proofs.decimal.decimal_length.Goals as goal

pub returns-then-n-lt10 : goal.returns-then-n-lt10
returns-then-n-lt10 c = sym (ap length (one_digit _ (omega arith)))

pub returns : goal.returns
returns c =
    let log = c.ilog10.ensures in
    sym (decimal_between _ _ (omega arith) log.power_le log.next_power_gt)
