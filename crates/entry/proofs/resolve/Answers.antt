-- `resolve` meets its contract.
use Rattle.entry.proofs.Resolving.{resolve_else, apply_pre, resolve_spent, resolve_less, resolve_done}
use Rattle.entry.proofs.resolve.Goals as goal

pub returns-in_err-r : goal.returns-in_err-r
returns-in_err-r c = resolve_else c.in_err-r.was c.from_residual.ensures.1

pub apply_ctx_type-requires : goal.apply_ctx_type-requires
apply_ctx_type-requires c = apply_pre c.in_ok-r.was c.requires

pub returns-in_err-found : goal.returns-in_err-found
returns-in_err-found c = resolve_spent c.in_ok-r.was c.apply_ctx_type.ensures c.in_err-found.was c.from_residual-in_err-found.ensures.1

pub charged_since-requires : goal.charged_since-requires
charged_since-requires c = resolve_less c.in_ok-r.was c.apply_ctx_type.ensures c.requires c.in_ok-found.was

pub returns : goal.returns
returns c = resolve_done c.in_ok-r.was c.apply_ctx_type.ensures c.in_ok-found.was c.charged_since.ensures
