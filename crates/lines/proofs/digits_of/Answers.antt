-- `digits_of` meets its contract.
use Rattle.lines.proofs.Lines.{fewest_ten, spelt}
use Rattle.lines.proofs.digits_of.Goals as goal

pub returns : goal.returns
returns c =
    let d = c.decimal.ensures in
    (d.in_bounds, fewest_ten _ c.args.x c.ranges.x.fits d.len, spelt _ c.args.x _ d.len d.digits)
