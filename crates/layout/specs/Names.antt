-- The program's names and search keys as the definition's.
use Rattle.definition.specs.Syntax as syntax
use Rattle.definition.specs.Contexts as contexts
use Rattle.layout.specs.declared.TmVar.{TmVar}
use Rattle.layout.specs.declared.TyVar.{TyVar}
use Rattle.layout.specs.declared.Key.{Key}
use Rattle.layout.specs.declared.Key.TheVariants.{Var, TVar, ETVar, SETVar, Mark}

abbrev pub tm : TmVar → syntax.TmVar
tm x = record { number = x.0 }

abbrev pub ty : TyVar → syntax.TyVar
ty a = record { number = a.0 }

abbrev pub key : Key → contexts.Key
key (Var x) = contexts.k_var (tm x)
key (TVar a) = contexts.k_tvar (ty a)
key (ETVar a) = contexts.k_etvar (ty a)
key (SETVar a) = contexts.k_setvar (ty a)
key (Mark a) = contexts.k_mark (ty a)
