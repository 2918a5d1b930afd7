-- What the rules of instantiation require and ensure, on either side.
use Rattle.std.specs.Prelude.{◌≡◌, Bool, true, false, List, [], ◌∷◌, ℕ, ◌<◌, Ok}
use Rattle.definition.specs.Syntax.{TyVar, Ty, etvar, Ctx, Side, on_l, on_r, rule_number}
use Rattle.definition.specs.Contexts.{before}
use Rattle.definition.specs.Rules.{ty_code}
use Rattle.layout.specs.Sizes.{INT}
use Rattle.layout.specs.Denotes.{Den, Run}
use Rattle.layout.specs.Names.{ty}
use Rattle.layout.specs.declared.Entry.{Entry}
use Rattle.layout.specs.declared.Key.TheVariants.{SETVar}
use Rattle.layout.specs.declared.Span.{Span}
use Rattle.layout.specs.declared.State.{State}
use Rattle.layout.specs.declared.TyVar as declared
use Rattle.judging.specs.Asking.{EntryFrom, inst_ask, RulePre}
use Rattle.judging.specs.declared.Here.{Here}
use Rattle.judging.specs.declared.Rule.{Rule}
use Rattle.judging.specs.Ending.{Step}
use Rattle.judging.specs.Names.{rule_of}
use Rattle.contexts.specs.Build.{Replaced}
use Rattle.contexts.specs.declared.Opened.{Opened}
use Rattle.rules.specs.declared.Side as program
use Rattle.rules.specs.declared.Side.TheVariants.{L, R}

-- the one of the two that stands on it
abbrev pub on_side : {X : Type 0} → Side → X → X → X
on_side on_l x y = x
on_side on_r x y = y

-- the other side
abbrev pub other_of : program.Side → program.Side
other_of L = R
other_of R = L

-- a rule for types of one form: what t denotes has the code n
pub record FormPre (side : Side) (q w : List ℕ) (s : State) (g : Span) (a t n : ℕ) : Type 0 where
  pub pre : RulePre q w s g (inst_ask side a t)
  pub code : (T : Ty) → Den q w s.top t T → ty_code T ≡ n

-- ## Rules without premises

-- in every context and for all unknowns that are denoted, the first stands before the second or it does not
pub record Meets (q w : List ℕ) (s : State) (g : Span) (a b : ℕ) (r : Bool) : Type 0 where
  pub is : (Γ : Ctx) (x y : TyVar) → Run q w s.top g.at g.n Γ → Den q w s.top a (etvar x) → Den q w s.top b (etvar y) → before Γ x y ≡ r

-- the type has no parts, and is no unknown that can be reached
pub record SolvePre (side : Side) (q w : List ℕ) (s : State) (g : Span) (a t : ℕ) : Type 0 where
  pub pre : RulePre q w s g (inst_ask side a t)
  pub plain : (T : Ty) → Den q w s.top t T → ty_code T < 5
  pub late : Meets q w s g a t false

-- the type is an unknown that can be reached
pub record ReachPre (side : Side) (q w : List ℕ) (s : State) (g : Span) (a t : ℕ) : Type 0 where
  pub form : FormPre side q w s g a t 4
  pub early : Meets q w s g a t true

-- a context with a solved by the type r was built, and the rule n gives it
pub record SolvedBy (h : Here) (w w' : List ℕ) (s : State) (g : Span) (a : declared.TyVar) (r : ℕ) (n : Rule) (z : Step) : Type 0 where
  pub o : Opened
  pub e : Entry
  pub made : EntryFrom h (SETVar a) r e
  pub replaced : Replaced w w' s g (ty a) (e ∷ []) o
  pub is : z ≡ Ok (record { st = o.st; g = o.g; ty = INT; rule = rule_number (rule_of n); kids = 0; charge = 0 })
