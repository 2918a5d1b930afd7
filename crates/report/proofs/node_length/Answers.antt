-- `node_length` meets its contract.
use mathlib.Core.List.{[], ◌∷◌}
use native.Mathlib.Omega.{arith}
use Rattle.writing.proofs.Spelling.{long_as, long_just, long_then}
use Rattle.writing.proofs.After.{measures_own}
use Rattle.report.proofs.Nodes.{node_parts, node_spelled, output_read}
use Rattle.report.proofs.node_length.Goals as goal

pub length_after-input-requires : goal.length_after-input-requires
length_after-input-requires c = ((node_spelled c.node_at-n.ensures c.requires.0).input, c.requires.1)

pub section_length-left-requires : goal.section_length-left-requires
section_length-left-requires c = (node_spelled c.node_at-n.ensures c.requires.0).left

pub section_length-right-requires : goal.section_length-right-requires
section_length-right-requires c = (node_spelled c.node_at-n.ensures c.requires.0).right

pub length_after-output-requires : goal.length_after-output-requires
length_after-output-requires c = ((node_spelled c.node_at-n.ensures c.requires.0).output, measures_own c.length_after-input.ensures)

pub section_length-result-requires : goal.section_length-result-requires
section_length-result-requires c = (node_spelled c.node_at-n.ensures c.requires.0).result

pub returns : goal.returns
returns c =
    record {
      long = long_as (node_parts c.node_at-n.ensures) (long_then (long_just (c.node_at-n.result.rule ∷ c.node_at-n.result.kids ∷
          c.node_at-n.result.place ∷ []) (omega arith)) (long_then c.length_after-input.ensures.long (long_then c.section_length-left.ensures
          (long_then c.section_length-right.ensures (long_then c.length_after-output.ensures.long c.section_length-result.ensures
          c.sum.ensures) c.sum-2.ensures) c.sum-types.ensures) c.sum-3.ensures) c.sum-length.ensures);
      output = rw (output_read c.node_at-n.ensures) at c.length_after-output.ensures;
    }
