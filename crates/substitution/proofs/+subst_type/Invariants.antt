-- The measure of `subst_type`: the budget left falls.
use Rattle.substitution.proofs.+subst_type.Given as goal

abbrev pub decreases-subst_type : goal.decreases-subst_type
decreases-subst_type l = l.st.left
