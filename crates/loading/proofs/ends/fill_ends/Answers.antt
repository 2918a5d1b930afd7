-- `fill_ends` meets its contract.
use native.Mathlib.Omega.{arith}
use Rattle.layout.proofs.Words.{keep_trans, keep_set}
use Rattle.loading.proofs.Table.{table_more, table_at, laid}
use Rattle.loading.proofs.ends.fill_ends.Goals as goal

pub loop-p-preserved : goal.loop-p-preserved
loop-p-preserved c =
    rw c.put.ensures (record {
      keep = keep_trans c.loop-p.invariant.keep (keep_set _ _ _ _ _ (omega arith) (omega arith));
      table = table_more (omega arith) c.row_of-row.ensures (table_at (omega arith) c.loop-p.invariant.table);
    })

pub returns : goal.returns
returns c = laid c.put_bases.ensures c.loop-p.invariant.keep (table_at (omega arith) c.loop-p.invariant.table)
