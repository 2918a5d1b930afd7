-- `conclude` meets its contract.
use Rattle.judging.proofs.Nodes.{node_keep, node_words}
use Rattle.judging.proofs.Paying.{conclude_spent, conclude_less, conclude_done}
use Rattle.judging.proofs.Steps.{stop_is}
use Rattle.judging.proofs.conclude.Goals as goal

pub returns-in_err-paid : goal.returns-in_err-paid
returns-in_err-paid c = rw (stop_is _ c.from_residual.ensures.1) (conclude_spent c.charge.ensures c.in_err-paid.was)

pub charged_since-requires : goal.charged_since-requires
charged_since-requires c = search (conclude_less c.charge.ensures c.in_ok-paid.was c.requires, c.requires.less)

pub returns : goal.returns
returns c =
    conclude_done c.charge.ensures c.in_ok-paid.was c.requires c.charged_since.ensures (node_keep c.put4.ensures c.put4-2.ensures
    c.put4-3.ensures) (node_words c.put4.ensures c.put4-2.ensures c.put4-3.ensures)
