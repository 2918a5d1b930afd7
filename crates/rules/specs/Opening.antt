-- Opening a Forall: on the right its body under its name, on the left an instance of it.
use Rattle.std.specs.Prelude.{◌≡◌, List, ℕ, ◌+◌, ◌*◌, Result, Ok, Err}
use Rattle.definition.specs.Syntax.{TyVar, Ty, forall, Ctx, Side}
use Rattle.definition.specs.Run.{Out, done, stop}
use Rattle.layout.specs.Names.{ty}
use Rattle.layout.specs.Words.{Keep}
use Rattle.layout.specs.Denotes.{Den, Run}
use Rattle.layout.specs.Room.{Room}
use Rattle.layout.specs.declared.Span.{Span}
use Rattle.layout.specs.declared.State.{State}
use Rattle.types.specs.Reading.{HeldAs}
use Rattle.judging.specs.Asking.{here}
use Rattle.judging.specs.declared.Here.{Here}
use Rattle.rules.specs.declared.Body.{Body}
use Rattle.layout.specs.declared.Spent.{Spent}
use Rattle.rules.specs.Built.{Built}
use Rattle.rules.specs.Sides.{opened_ty, opened_ctx}

-- a rule starts with a Forall r
pub record ForallPre (q w : List ℕ) (s : State) (g : Span) (r : ℕ) : Type 0 where
  pub room : Room q w s (20 + 28 * g.n)
  pub Γ : Ctx
  pub run : Run q w s.top g.at g.n Γ
  pub held : HeldAs q w s.top r 6

-- o has the name b, the context Δ and the type T
pub record Opens (q w' : List ℕ) (s : State) (o : Body) (b : TyVar) (Δ : Ctx) (T : Ty) : Type 0 where
  pub name : ty o.b ≡ b
  pub run : Run q w' o.st.top o.g.at o.g.n Δ
  pub den : Den q w' o.st.top o.ty T
  pub fresh : o.st.fresh ≡ s.fresh

-- the body in the context Δ, as the type that O comes to; or O takes more than the budget
pub data Instances (q w w' : List ℕ) (s : State) (g : Span) (b : TyVar) (Δ : Ctx) : Result Body Spent → Out Ty → Type 0 where
  opened : {o : Body} {T : Ty} → Built w w' s o.st (4 * g.n + 10) → Opens q w' s o b Δ T
      → Instances q w w' s g b Δ (Ok o) (done T o.st.left s.fresh)
  spent : {x : Spent} → Keep s.top s.low w w' → Instances q w w' s g b Δ (Err x) stop

-- the Forall r was opened, as one that stands on the side sd
pub record OpensOn (h : Here) (q w w' : List ℕ) (s : State) (g : Span) (r : ℕ) (sd : Side) (z : Result Body Spent) : Type 0 where
  pub opens : (Γ : Ctx) (b : TyVar) (T : Ty) → Run q w s.top g.at g.n Γ → Den q w s.top r (forall b T)
      → Instances q w w' s g b (opened_ctx (here h) sd Γ b) z (opened_ty sd b T s.left s.fresh)
