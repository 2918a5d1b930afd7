-- The program's sides as the definition's, and what is done with a Forall by the side on which it stands.
use Rattle.definition.specs.Syntax.{TyVar, Ty, etvar, tvar_bnd, etvar_bnd, mark, Ctx, Side, on_l, on_r}
use Rattle.definition.specs.Run.{M, done}
use Rattle.definition.specs.Contexts.{Key, k_tvar, k_mark, ◌▹◌}
use Rattle.definition.specs.Types.{subst}
use Rattle.definition.specs.Rules.{Here, ◌from◌}
use Rattle.rules.specs.declared.Side as program
use Rattle.rules.specs.declared.Side.TheVariants.{L, R}

abbrev pub side : program.Side → Side
side L = on_l
side R = on_r

-- on the left an unknown stands for the name, and the unknown and a mark are pushed; on the right the name is pushed
abbrev pub opened_ty : Side → TyVar → Ty → M Ty
opened_ty on_l b T = subst b (etvar b) T
opened_ty on_r b T = λ l n. done T l n

abbrev pub opened_ctx : Here → Side → Ctx → TyVar → Ctx
opened_ctx h on_l Γ b = Γ ▹ etvar_bnd b from h ▹ mark b from h
opened_ctx h on_r Γ b = Γ ▹ tvar_bnd b from h

-- right of which the output stands: the mark or the name
abbrev pub binder : Side → TyVar → Key
binder on_l b = k_mark b
binder on_r b = k_tvar b
