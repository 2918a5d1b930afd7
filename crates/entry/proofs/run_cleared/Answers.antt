-- `run_cleared` meets its contract.
use mathlib.Core.Path.{◌≡◌, ◌∙◌}
use Prim.Native.Nat.{ℕ, ◌-◌}
use native.Mathlib.Nat.{sub-zero}
use lib.ListN.{length, take}
use lib.Seq.{length-take-le}
use Rattle.entry.proofs.Answering.{cleared}
use Rattle.entry.proofs.run_cleared.Goals as goal

pub returns : goal.returns
returns c =
    let n : ℕ = c.work_words-need.result in let l : length (take (n - 0) c.args.work.now) ≡ n = simp sub-zero (length-take-le n
    c.args.work.now (rw c.work_words-need.ensures c.requires.enough)) in record {
      runs = c.run-r.ensures;
      work = rw (←
          c.work_words-need.ensures) (c.clear.ensures ∙ simp sub-zero (cleared c.args.work.now c.run-r.new.work n (c.run-r.auto.work ∙ l)));
    }
