-- The contracts of subst_type and apply_ctx_type: the definition's `subst` and `apply`, charges and all.
use Rattle.std.specs.Prelude.{List, ℕ, Result}
use Rattle.definition.specs.Syntax.{Ty, Ctx}
use Rattle.definition.specs.Types.{subst, apply}
use Rattle.layout.specs.Names.{ty}
use Rattle.layout.specs.Denotes.{Den, Run}
use Rattle.layout.specs.Room.{Room}
use Rattle.layout.specs.declared.TyVar.{TyVar}
use Rattle.layout.specs.declared.State.{State}
use Rattle.layout.specs.declared.Span.{Span}
use Rattle.layout.specs.declared.Made.{Made}
use Rattle.layout.specs.declared.Spent.{Spent}
use Rattle.substitution.specs.Passing.{Makes}

-- ## Substitution: what b denotes, for the name a in what r denotes

pub record SubstPre (q w : List ℕ) (s : State) (b r : ℕ) : Type 0 where
  pub spare : ℕ
  pub room : Room q w s spare
  pub new : Ty
  pub by : Den q w s.top b new
  pub type : Ty
  pub den : Den q w s.top r type

pub record Substed (q w w' : List ℕ) (s : State) (a : TyVar) (b r : ℕ) (z : Result Made Spent) : Type 0 where
  pub makes : (B : Ty) → Den q w s.top b B → (T : Ty) → Den q w s.top r T → Makes q w w' s z (subst (ty a) B T s.left s.fresh)

-- ## Application of the context g to what r denotes

pub record ApplyPre (q w : List ℕ) (s : State) (g : Span) (r : ℕ) : Type 0 where
  pub spare : ℕ
  pub room : Room q w s spare
  pub ctx : Ctx
  pub run : Run q w s.top g.at g.n ctx
  pub type : Ty
  pub den : Den q w s.top r type

pub record Applied (q w w' : List ℕ) (s : State) (g : Span) (r : ℕ) (z : Result Made Spent) : Type 0 where
  pub makes : (Γ : Ctx) → Run q w s.top g.at g.n Γ → (T : Ty) → Den q w s.top r T → Makes q w w' s z (apply Γ T s.left s.fresh)
