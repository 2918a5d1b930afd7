-- What the steps of a rule give: before its judgements, between them, and at its end.
use Rattle.std.specs.Prelude.{◌≡◌, Bool, true, false, List, ℕ, ◌+◌, ◌*◌, ◌≤◌, length, Result, Ok, Err}
use Rattle.definition.specs.Syntax.{TyVar, Ty, etvar, arrow, forall, var_bnd, etvar_bnd, Ctx, TypeError}
use Rattle.definition.specs.Run.{Out, done, fail, stop, M, ◌>>=◌, give}
use Rattle.definition.specs.Rules.{◌from◌, parameter, branch, instantiate}
use Rattle.definition.specs.Contexts.{Key, k_tvar, ◌▹◌, right_of, solved_and_right}
use Rattle.layout.specs.Sizes.{CAP}
use Rattle.layout.specs.Names.{tm}
use Rattle.layout.specs.States.{fresh_name}
use Rattle.layout.specs.Words.{Keep}
use Rattle.layout.specs.Denotes.{Den, Run}
use Rattle.layout.specs.Room.{Room}
use Rattle.layout.specs.declared.Made.{Made}
use Rattle.layout.specs.declared.Span.{Span}
use Rattle.layout.specs.declared.State.{State}
use Rattle.layout.specs.declared.TmVar.{TmVar}
use Rattle.types.specs.Reading.{Held}
use Rattle.substitution.specs.Passing.{Passed}
use Rattle.judging.specs.declared.Answer.{Answer}
use Rattle.judging.specs.declared.Bad.{Bad}
use Rattle.judging.specs.declared.Here.{Here}
use Rattle.judging.specs.declared.Stop.{Stop}
use Rattle.judging.specs.declared.Stop.TheVariants.{Fail, Spent}
use Rattle.judging.specs.Asking.{here}
use Rattle.judging.specs.Ending.{Failed, Step}
use Rattle.rules.specs.declared.Lam.{Lam}
use Rattle.rules.specs.declared.Both.{Both}

-- ## Before: a fresh unknown for what a lambda gives

-- a rule starts, with the written type a of the parameter
pub record LamPre (q w : List ℕ) (s : State) (g : Span) (a : ℕ) : Type 0 where
  pub room : Room q w s (20 + 28 * g.n)
  pub names : s.fresh + 2 * s.left + 2 ≤ CAP
  pub below : g.at + 4 * g.n ≤ s.top
  pub type : Ty
  pub den : Den q w s.top a type

-- x : A and the unknown are pushed; the unknown and the lambda's type are made
pub record LamIn (h : Here) (q w w' : List ℕ) (s : State) (g : Span) (x : TmVar) (a : ℕ) (o : Lam) : Type 0 where
  pub keep : Keep s.top s.low w w'
  pub up : s.top ≤ o.st.top
  pub most : o.st.top ≤ s.top + 14 + 4 * g.n
  pub low : o.st.low ≡ s.low
  pub left : o.st.left ≡ s.left
  pub fresh : o.st.fresh ≡ s.fresh + 1
  pub run : (Γ : Ctx) (A : Ty) → Run q w s.top g.at g.n Γ → Den q w s.top a A
      → Run q w' o.st.top o.g.at o.g.n (Γ ▹ var_bnd (tm x) A from here h ▹ etvar_bnd (fresh_name s.fresh) from here h)
  pub unknown : Den q w' o.st.top o.b (etvar (fresh_name s.fresh))
  pub arrow : (A : Ty) → Den q w s.top a A → Den q w' o.st.top o.ty (arrow A (etvar (fresh_name s.fresh)))

-- ## Between: types are made or compared, which may end the rule

-- two types, and room for all that the budget allows; and a context
pub record Two (q w : List ℕ) (s : State) (a b : ℕ) : Type 0 where
  pub spare : ℕ
  pub room : Room q w s spare
  pub A : Ty
  pub B : Ty
  pub left : Den q w s.top a A
  pub right : Den q w s.top b B

pub record TwoIn (q w : List ℕ) (s : State) (g : Span) (a b : ℕ) : Type 0 where
  pub two : Two q w s a b
  pub Γ : Ctx
  pub run : Run q w s.top g.at g.n Γ

-- from w and s a step that the definition says came to an x, of which D says what y holds of it; y holds the state too
pub data GoesOrEnds {X Y : Type 0} (q w w' : List ℕ) (s : State) (st : Y → State) (D : X → Y → Type 0) : Result Y Stop → Out X → Type 0 where
  goes : {y : Y} {x : X} → Passed w w' s (st y) 0 → D x y → GoesOrEnds q w w' s st D (Ok y) (done x (st y).left s.fresh)
  fails : {b : Bad} {e : TypeError} {l : ℕ} → Keep s.top s.low w w' → Failed q w' b e l → GoesOrEnds q w w' s st D (Err (Fail b)) (fail e l)
  stops : Keep s.top s.low w w' → GoesOrEnds q w w' s st D (Err Spent) stop

-- strict mode's parameter: the comparison gives nothing
abbrev pub Nothing : Unit {0} → State → Type 0
Nothing u y = Unit {0}

pub record Compared (h : Here) (q w w' : List ℕ) (s : State) (g : Span) (a p : ℕ) (z : Result State Stop) : Type 0 where
  pub passes : (Γ : Ctx) (A P : Ty) → Run q w s.top g.at g.n Γ → Den q w s.top a A → Den q w s.top p P
      → GoesOrEnds q w w' s (λ y. y) Nothing z (parameter h.manner.compares_parameter Γ A P s.left s.fresh)

-- two types with the context applied, the first first; or as they are
abbrev pub Dens : List ℕ → List ℕ → Ty × Ty → Both → Type 0
Dens q w T y = Den q w y.st.top y.a T.0 × Den q w y.st.top y.b T.1

abbrev pub apply_both : Bool → Ctx → Ty → Ty → M (Ty × Ty)
apply_both b Γ A B = branch b Γ A >>= λ A'. branch b Γ B >>= λ B'. give (A', B')

pub record AppliedBoth (applies : Bool) (q w w' : List ℕ) (s : State) (g : Span) (a b : ℕ) (z : Result Both Stop) : Type 0 where
  pub passes : (Γ : Ctx) (A B : Ty) → Run q w s.top g.at g.n Γ → Den q w s.top a A → Den q w s.top b B
      → GoesOrEnds q w w' s (λ y. y.st) (Dens q w') z (apply_both applies Γ A B s.left s.fresh)

-- a type for the name that a Forall binds
abbrev pub DenOne : List ℕ → List ℕ → Ty → Made → Type 0
DenOne q w T y = Den q w y.st.top y.ty T

pub record Instantiated (q w w' : List ℕ) (s : State) (ty by : ℕ) (z : Result Made Stop) : Type 0 where
  pub passes : (A B : Ty) → Den q w s.top ty A → Den q w s.top by B
      → GoesOrEnds q w w' s (λ y. y.st) (DenOne q w') z (instantiate B A s.left s.fresh)

-- ## The end: from the context Γ and the type A that came back to F Γ and G A, with some words more

pub record Finished (q w w' : List ℕ) (s : State) (g : Span) (ty more : ℕ) (F : Ctx → Ctx) (G : Ty → Ty) (rule kids : ℕ) (z : Step) : Type 0 where
  pub answer : Answer
  pub is : z ≡ Ok answer
  pub rule_is : answer.rule ≡ rule
  pub kids_is : answer.kids ≡ kids
  pub keep : Keep s.top s.low w w'
  pub up : s.top ≤ answer.st.top
  pub most : answer.st.top ≤ s.top + 4 * g.n + more
  pub low : answer.st.low ≡ s.low
  pub left : answer.st.left ≡ s.left
  pub fresh : answer.st.fresh ≡ s.fresh
  pub run : {Γ : Ctx} → Run q w s.top g.at g.n Γ → Run q w' answer.st.top answer.g.at answer.g.n (F Γ)
  pub den : {A : Ty} → Den q w s.top ty A → Den q w' answer.st.top answer.ty (G A)

-- the context and the type as they are
pub record PlainOut (s : State) (g : Span) (ty rule kids : ℕ) (z : Step) : Type 0 where
  pub is : z ≡ Ok (record { st = s; g = g; ty = ty; rule = rule; kids = kids; charge = 0 })
  pub finished : (q w : List ℕ) → Finished q w w s g ty 0 (λ (Γ : Ctx). Γ) (λ (A : Ty). A) rule kids z

-- break3's right, and before it the solved entries of its left where these are kept
unfoldable pub kept : Bool → Key → Ctx → Ctx
kept true = solved_and_right
kept false = right_of

pub record KeepOut (keeps : Bool) (w w' : List ℕ) (r : Answer) (k : Key) (ty rule kids : ℕ) (z : Step) : Type 0 where
  pub finished : (q : List ℕ) → Finished q w w' r.st r.g ty 0 (kept keeps k) (λ (A : Ty). A) rule kids z

-- all that is kept there, with the Forall of the body type
pub record TabsOut (q w w' : List ℕ) (s : State) (g : Span) (a : TyVar) (body : ℕ) (z : Step) : Type 0 where
  pub finished : Finished q w w' s g body 4 (solved_and_right (k_tvar a)) (forall a) 13 1 z

-- room for a Forall's record and for the entries
pub record TabsPre (q w : List ℕ) (s : State) (g : Span) (body : ℕ) : Type 0 where
  pub held : Held q w s.top body
  pub below : g.at + 4 * g.n ≤ s.top
  pub room : s.top + 4 + 4 * g.n ≤ s.low
  pub low : s.low ≤ length w
