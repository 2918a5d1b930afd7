-- `write_node` meets its contract.
use Rattle.report.proofs.Writing.{three_fits, input_fits, left_fits, right_fits, output_fits, result_fits, node_written}
use Rattle.report.proofs.write_node.Goals as goal

pub write_three-first-requires : goal.write_three-first-requires
write_three-first-requires c = search three_fits

pub write_after-input-requires : goal.write_after-input-requires
write_after-input-requires c = input_fits c.node_at-n.ensures c.requires.0 c.requires.1 c.write_three-first.ensures

pub write_section-right-requires : goal.write_section-right-requires
write_section-right-requires c =
    left_fits c.node_at-n.ensures c.requires.0 c.requires.1 c.write_three-first.ensures c.write_after-input.ensures

pub write_section-next-requires : goal.write_section-next-requires
write_section-next-requires c =
    right_fits c.node_at-n.ensures c.requires.0 c.requires.1 c.write_three-first.ensures c.write_after-input.ensures
    c.write_section-right.ensures

pub write_after-output-requires : goal.write_after-output-requires
write_after-output-requires c =
    output_fits c.node_at-n.ensures c.requires.0 c.requires.1 c.write_three-first.ensures c.write_after-input.ensures
    c.write_section-right.ensures c.write_section-next.ensures

pub write_section-end-requires : goal.write_section-end-requires
write_section-end-requires c =
    result_fits c.node_at-n.ensures c.requires.0 c.requires.1 c.write_three-first.ensures c.write_after-input.ensures
    c.write_section-right.ensures c.write_section-next.ensures c.write_after-output.ensures

pub returns : goal.returns
returns c =
    node_written c.node_at-n.ensures c.requires.0 c.requires.1 c.write_three-first.ensures c.write_after-input.ensures
    c.write_section-right.ensures c.write_section-next.ensures c.write_after-output.ensures c.write_section-end.ensures
