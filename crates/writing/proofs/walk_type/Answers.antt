-- `walk_type` meets its contract.
use Prim.Native.Nat.{◌+◌, ◌-◌}
use lib.Seq.{get_or-set_same}
use Rattle.writing.proofs.Steps.{held_small}
use Rattle.writing.proofs.Types.{type_held, writing_again, going_less, going_waiting, far_end, writing_first, writing_now, writing_end}
use Rattle.writing.proofs.walk_type.Goals as goal

pub put-requires : goal.put-requires
put-requires c = ((far_end c.type_length.ensures c.requires.spelled.says c.requires.room).3, held_small (type_held c.requires.spelled))

pub loop-pen-init : goal.loop-pen-init
loop-pen-init c =
    writing_first (search) (rw c.put.ensures (get_or-set_same c.args.report.now (c.args.at + c.type_length.result - 1) c.args.r 0 (far_end
    c.type_length.ensures c.requires.spelled.says c.requires.room).3))

pub write_head-pen-requires : goal.write_head-pen-requires
write_head-pen-requires c =
    going_waiting c.requires.spelled.ground (writing_now c.type_length.ensures c.args.report.now c.put.ensures c.loop-pen.invariant
    c.requires.spelled.says c.requires.room) c.loop-pen-test.true

pub loop-pen-smaller : goal.loop-pen-smaller
loop-pen-smaller c =
    going_less (writing_now c.type_length.ensures c.args.report.now c.put.ensures c.loop-pen.invariant c.requires.spelled.says
    c.requires.room) c.loop-pen-test.true c.write_head-pen.ensures

pub loop-pen-preserved : goal.loop-pen-preserved
loop-pen-preserved c = search writing_again

pub returns : goal.returns
returns c = search writing_end
