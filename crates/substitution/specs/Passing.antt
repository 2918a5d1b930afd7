-- What a run that makes a type goes through: the state it comes to, what it has built, and the type it ends in.
use Rattle.std.specs.Prelude.{◌≡◌, List, ℕ, ◌+◌, ◌*◌, ◌≤◌, Result, Ok, Err}
use Rattle.definition.specs.Syntax.{pick, Ty}
use Rattle.definition.specs.Run.{Out, done, stop}
use Rattle.definition.specs.Types.{same_name}
use Rattle.layout.specs.Names.{ty}
use Rattle.layout.specs.States.{paid, raised}
use Rattle.layout.specs.Words.{Keep}
use Rattle.layout.specs.Denotes.{Den}
use Rattle.layout.specs.declared.TyVar.{TyVar}
use Rattle.layout.specs.declared.State.{State}
use Rattle.layout.specs.declared.Made.{Made}
use Rattle.layout.specs.declared.Spent.{Spent}
use Rattle.types.specs.Reading.{Named}
use Rattle.types.specs.Making.{PutArrow, PutForall}

-- ## States

-- one unit is paid
abbrev pub pay : State → State
pay s = paid s 1

-- from w and s to w' and s': n units were paid, or more, and for each four words were built, or fewer
pub record Passed (w w' : List ℕ) (s s' : State) (n : ℕ) : Type 0 where
  pub keep : Keep s.top s.low w w'
  pub up : s.top ≤ s'.top
  pub low : s'.low ≡ s.low
  pub fresh : s'.fresh ≡ s.fresh
  pub paid : s'.left + n ≤ s.left
  pub built : s'.top + 4 * s'.left ≤ s.top + 4 * s.left

-- ## What is returned

-- what the code returned from w and s is what the definition says: a type, the budget left and no fresh name; or the budget is spent
pub data Makes (q w w' : List ℕ) (s : State) : Result Made Spent → Out Ty → Type 0 where
  made : {m : Made} {T : Ty} → Passed w w' s m.st 1 → Den q w' m.st.top m.ty T → Makes q w w' s (Ok m) (done T m.st.left s.fresh)
  spent : {x : Spent} → Keep s.top s.low w w' → Makes q w w' s (Err x) stop

-- ## The leaves

-- the name that r has, and the reference that it becomes
pub record Chosen (q w : List ℕ) (t : ℕ) (a : TyVar) (b r x : ℕ) : Type 0 where
  pub name : TyVar
  pub named : Named q w t r name
  pub is : x ≡ pick (same_name (ty name) (ty a)) b r

-- a record at the top of work
pub record ArrowMade (q w w' : List ℕ) (s : State) (l r : ℕ) (m : Made) : Type 0 where
  pub st : m.st ≡ raised s 4
  pub put : PutArrow q w w' s.top l r m.ty

pub record ForallMade (q w w' : List ℕ) (s : State) (a : TyVar) (r : ℕ) (m : Made) : Type 0 where
  pub st : m.st ≡ raised s 4
  pub put : PutForall q w w' s.top a r m.ty
