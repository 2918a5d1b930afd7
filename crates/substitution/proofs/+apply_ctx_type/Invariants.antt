-- The measure of `apply_ctx_type`: the budget left falls.
use Rattle.substitution.proofs.+apply_ctx_type.Given as goal

abbrev pub decreases-apply_ctx_type : goal.decreases-apply_ctx_type
decreases-apply_ctx_type l = l.st.left
