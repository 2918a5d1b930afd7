-- "A solution that leads back to itself therefore ends in 6": what leads to an unknown, what a ring of solutions is, and which runs apply a
-- context to a type.
use Rattle.std.specs.Prelude.{◌≡◌, ℕ}
use Rattle.std.proofs.Math.Option.{some}
use Rattle.definition.specs.Syntax.{TyVar, Ty, etvar, arrow, forall, Ctx, Judgement}
use Rattle.definition.specs.Run.{done, M, ◌>>=◌}
use Rattle.definition.specs.Contexts.{k_setvar, find}
use Rattle.definition.specs.Types.{apply}
use Rattle.definition.specs.Rules.{Result, Here, rule, judge_step, judge}

-- ---- "Context application is charged one for every call of apply_ctx_type_once in its first pass, followed solutions included"

-- following solutions, a type comes to the unknown a
pub data Leads (Γ : Ctx) (a : TyVar) : Ty → Type 0 where
  here : Leads Γ a (etvar a)
  follow : {b : TyVar} {B : Ty} → find (k_setvar b) Γ ≡ some B → Leads Γ a B → Leads Γ a (etvar b)
  left : {A B : Ty} → Leads Γ a A → Leads Γ a (arrow A B)
  right : {A B : Ty} → Leads Γ a B → Leads Γ a (arrow A B)
  under : {b : TyVar} {A : Ty} → Leads Γ a A → Leads Γ a (forall b A)

-- "A solution that leads back to itself": that of a
pub record Ring (Γ : Ctx) (a : TyVar) : Type 0 where
  pub solution : Ty
  pub solved : find (k_setvar a) Γ ≡ some solution
  pub back : Leads Γ a solution

-- ---- A run that comes to apply Γ to A, from the budget l, with n fresh names taken

-- at once, in its first part, in what follows a part that ended, or in a judgement's step; and so does every run that is equal to such a one
pub data Applies (Γ : Ctx) (A : Ty) : (B : Type 0) → M B → ℕ → ℕ → Type 1 where
  itself : {l n : ℕ} → Applies Γ A Ty (apply Γ A) l n
  first : {B C : Type 0} {x : M B} (f : B → M C) {l n : ℕ} → Applies Γ A B x l n → Applies Γ A C (x >>= f) l n
  after : {B C : Type 0} (x : M B) (f : B → M C) {b : B} {l n l' n' : ℕ} → x l n ≡ done b l' n' → Applies Γ A C (f b) l' n'
      → Applies Γ A C (x >>= f) l n
  judging : (h : Here) (j : Judgement) {l n : ℕ} → Applies Γ A Result (judge_step rule judge h j) l n → Applies Γ A Result (judge h j) l n
