-- `number` meets its contract.
use native.Mathlib.Omega.{arith}
use mathlib.Core.List.{[]}
use borrow.Author.Rules.{rules}
use Rattle.lines.proofs.Lines.{wrote_number, all_copied}
use Rattle.lines.proofs.number.Goals as goal

pub returns : goal.returns
returns c =
    let d = c.digits_of-n in (
      wrote_number {ys = c.copy_from_slice.new.self} c.args.at c.args.end d.new.out [] _ (omega arith) d.ensures.0.1 d.ensures.2
          (all_copied (search rules)) (search rules),
      omega arith,
    )
