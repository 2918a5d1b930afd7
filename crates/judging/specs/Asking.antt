-- The judgement that is asked: by its kind, a context, the place of an expression and references to types.
use Rattle.std.specs.Prelude.{◌≡◌, List, ℕ, ◌+◌, ◌*◌, ◌≤◌, ◌<◌, ◌^◌, length}
use Rattle.definition.specs.Syntax.{TyVar, Ty, etvar, Binding, Expr, Ctx, Side, on_l, on_r, Judgement, infer, check, infer_app, subtype, inst}
use Rattle.definition.specs.Question as question
use Rattle.definition.specs.Contexts.{binding_key, binding_type}
use Rattle.definition.specs.Rules as rules
use Rattle.definition.specs.Rules.{◌from◌}
use Rattle.layout.specs.Sizes.{CAP}
use Rattle.layout.specs.Names.{key}
use Rattle.layout.specs.Places.{ExprAt}
use Rattle.layout.specs.Denotes.{Den, AsEntry, SmallEntry, Run, Base}
use Rattle.layout.specs.Room.{Room}
use Rattle.layout.specs.declared.Entry.{Entry}
use Rattle.layout.specs.declared.Key.{Key}
use Rattle.layout.specs.declared.Span.{Span}
use Rattle.layout.specs.declared.State.{State}
use Rattle.judging.specs.declared.Ask.{Ask}
use Rattle.judging.specs.declared.Here.{Here}
use Rattle.judging.specs.declared.Mode.{Mode}

abbrev pub mode : Mode → question.Mode
mode m = record { compares_parameter = m.compares_parameter; applies_branches = m.applies_branches }

-- what the program's judgement runs in
abbrev pub here : Here → rules.Here
here h = record { manner = mode h.manner }

-- the entry that its rule pushes or solves there, by a key and a type reference
pub record EntryFrom (h : Here) (k : Key) (r : ℕ) (e : Entry) : Type 0 where
  pub small : r < 2 ^ 32 → SmallEntry e
  pub is : {q w : List ℕ} {t : ℕ} {b : Binding} → binding_key b ≡ key k → Den q w t r (binding_type b) → AsEntry q w t e (b from here h)

pub data Asks (q w : List ℕ) (t : ℕ) (g : Span) (a : Ask) : Judgement → Type 0 where
  as_infer : {Γ : Ctx} {e : Expr} → a.kind ≡ 1 → Run q w t g.at g.n Γ → ExprAt q a.ex e → Asks q w t g a (infer Γ e)
  as_check : {Γ : Ctx} {e : Expr} {B : Ty} → a.kind ≡ 2 → Run q w t g.at g.n Γ → ExprAt q a.ex e → Den q w t a.right B
      → Asks q w t g a (check Γ e B)
  as_app : {Γ : Ctx} {e : Expr} {A : Ty} → a.kind ≡ 3 → Run q w t g.at g.n Γ → ExprAt q a.ex e → Den q w t a.left A
      → Asks q w t g a (infer_app Γ e A)
  as_sub : {Γ : Ctx} {A B : Ty} → a.kind ≡ 4 → a.ex ≡ 0 → Run q w t g.at g.n Γ → Den q w t a.left A → Den q w t a.right B
      → Asks q w t g a (subtype Γ A B)
  as_inst_l : {Γ : Ctx} {x : TyVar} {T : Ty} → a.kind ≡ 5 → a.ex ≡ 0 → Run q w t g.at g.n Γ → Den q w t a.left (etvar x)
      → Den q w t a.right T → Asks q w t g a (inst on_l Γ x T)
  as_inst_r : {Γ : Ctx} {x : TyVar} {T : Ty} → a.kind ≡ 6 → a.ex ≡ 0 → Run q w t g.at g.n Γ → Den q w t a.left T
      → Den q w t a.right (etvar x) → Asks q w t g a (inst on_r Γ x T)

-- the six judgements as they are asked
abbrev pub infer_ask : ℕ → Ask
infer_ask e = record { kind = 1; ex = e; left = 0; right = 0 }

abbrev pub check_ask : ℕ → ℕ → Ask
check_ask e B = record { kind = 2; ex = e; left = 0; right = B }

abbrev pub app_ask : ℕ → ℕ → Ask
app_ask A e = record { kind = 3; ex = e; left = A; right = 0 }

abbrev pub sub_ask : ℕ → ℕ → Ask
sub_ask A B = record { kind = 4; ex = 0; left = A; right = B }

abbrev pub inst_ask : Side → ℕ → ℕ → Ask
inst_ask on_l a T = record { kind = 5; ex = 0; left = a; right = T }
inst_ask on_r a T = record { kind = 6; ex = 0; left = T; right = a }

-- what is asked can be written into a node
pub record Small (a : Ask) : Type 0 where
  pub kind : a.kind < 2 ^ 32
  pub ex : a.ex < 2 ^ 32
  pub left : a.left < 2 ^ 32
  pub right : a.right < 2 ^ 32

-- room to enter: the words of the input context are paid by entering
pub record Ready (q w : List ℕ) (s : State) (g : Span) : Type 0 where
  pub base : Base q w s.top
  pub fits : s.top + 32 * s.left ≤ s.low + 4 * g.n
  pub over : s.top ≤ s.low
  pub low : s.low ≤ length w
  pub cap : length w ≤ CAP
  pub names : s.fresh + 2 * s.left ≤ CAP

-- what a judgement requires
pub record JudgePre (q w : List ℕ) (s : State) (g : Span) (a : Ask) : Type 0 where
  pub ready : Ready q w s g
  pub small : Small a
  pub j : Judgement
  pub asks : Asks q w s.top g a j

-- what a rule requires: what entering paid for stands ready
pub record RulePre (q w : List ℕ) (s : State) (g : Span) (a : Ask) : Type 0 where
  pub room : Room q w s (20 + 28 * g.n)
  pub names : s.fresh + 2 * s.left + 2 ≤ CAP
  pub small : Small a
  pub j : Judgement
  pub asks : Asks q w s.top g a j
