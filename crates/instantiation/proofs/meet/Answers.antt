-- `meet` meets its contract.
use Rattle.instantiation.proofs.Solving.{side_unknown, etvar_named}
use Rattle.instantiation.proofs.meet.Goals as goal

pub name_of-requires : goal.name_of-requires
name_of-requires c = search side_unknown

pub name_of-requires-2 : goal.name_of-requires-2
name_of-requires-2 c = search etvar_named
