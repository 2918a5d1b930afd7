-- The six judgements and their 37 rules, after 000: "000 decides for plain mode." Each rule is drawn above its definition, what it asks over
-- the line, from left to right as it is asked. In the drawings
--   Γ ⊢ .. ⊣ Δ       is a judgement with its input and its output context, entries oldest first: x : A, a, ^a, ^a = A and $a are VarBnd,
--                    TVarBnd, ETVarBnd, SETVarBnd and Mark, and Γ, x : A is Γ with that entry pushed (as types, a and ^a are Var and ETVar);
--   Γ[^a], Γ[Θ]      in one drawing are any context, and the same with Θ in the place of its earliest ^a, or at its end where it has none
--                    (`replace`);
--   Δ, x : _, Θ      after ⊣ is any context, cut at its earliest entry for x, whatever type that has: it need not be the one that the rule
--                    pushed (case (d)); where there is none, Δ is all of it and Θ is empty. So too Δ, b, Θ and Δ, $b, Θ (`right_of`,
--                    `solved_and_right`); solved Δ are its solved entries;
--   [Γ]A, [R/a]A     are A with the context applied, and with R for a, each charged (Types);
--   A ≈ B            says that they differ at most in the names bound by Forall (`same_ty`);
--   a not in T       says that neither Var a nor ETVar a is free in T (`occurs`);
--   before Γ a b     says that both are unsolved in Γ, and that ^a's earliest entry is the later one (Contexts);
--   b fresh          takes the next fresh name (Run).
-- No context is asked to be well-formed, nor a type to have its names in one. Of several rules that fit, the first arm's is taken (`inst_rule`,
-- where Reach, Arr and All come before Solve, `subtype_rule`, `check_rule`); what chooses a rule is asked there. Refusals are not drawn: they are
-- where no arm fits, where x has no entry, and where Solve's conditions (is_mono, then a not in T) or strict ChkLam's do not hold.
use Rattle.std.specs.Prelude.{ℕ, zero, suc, ◌+◌, Bool, true, false, ◌&&◌, ◌||◌, List, [], ◌∷◌, length, leb, eqb}
use Rattle.std.proofs.Math.Option.{Option, none, some}
use Rattle.definition.specs.Syntax
use Rattle.definition.specs.Syntax.{pick, TmVar, TyVar, Ty, int, bool, var, etvar, arrow, forall, Expr, evar, app, abs, tapp, tabs, ann, lit_int, lit_bool, let_in, if_then_else, bin_op, Binding, var_bnd, tvar_bnd, etvar_bnd, setvar_bnd, mark, Entry, Ctx, Side, on_l, on_r, Judgement, infer, check, infer_app, subtype, inst, given, Rule, Tree, node, Trees, leaf, ◌&◌, unbound_variable, application_type_error, type_application_error, occurs_check, subtyping_error, instantiation_error, parameter_mismatch}
use Rattle.definition.specs.Question.{Mode}
use Rattle.definition.specs.Run.{M, ◌>>=◌, give, refuse, halt, charge, fresh}
use Rattle.definition.specs.Contexts.{k_var, k_tvar, k_mark, find, right_of, ◌▹◌, replace, solved_and_right, before}
use Rattle.definition.specs.Types.{types_compute, same_name, is_mono, occurs, subst, apply}

-- what a rule gives: which it is, its result type (Int where the judgement gives none), output context and children; and what a judgement gives:
-- result type, output context, tree
abbrev pub Fired : Type 0
Fired = Rule × Ty × Ctx × Trees

abbrev pub Result : Type 0
Result = Ty × Ctx × Tree

-- the judgements that a rule asks
abbrev pub Judge : Type 0
Judge = Judgement → M Result

-- ---- What a judgement runs in: the mode

pub record Here : Type 0 where
  pub manner : Mode

-- the question's judgement
abbrev pub outside : Mode → Here
outside m = record { manner = m }

-- the entry that a rule pushes or solves here
infixl 70 ◌from◌
abbrev pub ◌from◌ : Binding → Here → Entry
b from h = record { binding = b }

-- rules for the six judgements: from what the judgement runs in and the judgements that a rule asks
abbrev pub Rules : Type 0
Rules = Here → Judge → Judgement → M Fired

-- a rule without premises, of a judgement that gives no type
unfoldable pub closes : Rule → Ctx → M Fired
closes r Γ = give (r, int, Γ, leaf)

-- ---- "The order of match arms is the priority": the first arm that is there, and what stands last otherwise

infixr 25 ◌or_else◌
unfoldable pub ◌or_else◌ : {R : Type 0} → Option R → R → R
none or_else r = r
some x or_else r = x

unfoldable pub when : {R : Type 0} → Bool → R → Option R
when b r = pick b (some r) none

unfoldable pub on : {X R : Type 0} → Option X → (X → R) → Option R
on none k = none
on (some x) k = some (k x)

unfoldable pub on_both : {X Y R : Type 0} → Option X → Option Y → (X → Y → R) → Option R
on_both none o k = none
on_both (some x) none k = none
on_both (some x) (some y) k = some (k x y)

-- ---- The parts of a type that an arm asks for

unfoldable pub ty_code : Ty → ℕ
ty_code int = 1
ty_code bool = 2
ty_code (var a) = 3
ty_code (etvar a) = 4
ty_code (arrow A B) = 5
ty_code (forall a A) = 6

unfoldable pub as_var : Ty → Option TyVar
as_var int = none
as_var bool = none
as_var (var a) = some a
as_var (etvar a) = none
as_var (arrow A B) = none
as_var (forall a A) = none

unfoldable pub as_etvar : Ty → Option TyVar
as_etvar int = none
as_etvar bool = none
as_etvar (var a) = none
as_etvar (etvar a) = some a
as_etvar (arrow A B) = none
as_etvar (forall a A) = none

unfoldable pub as_arrow : Ty → Option (Ty × Ty)
as_arrow int = none
as_arrow bool = none
as_arrow (var a) = none
as_arrow (etvar a) = none
as_arrow (arrow A B) = some (A, B)
as_arrow (forall a A) = none

unfoldable pub as_forall : Ty → Option (TyVar × Ty)
as_forall int = none
as_forall bool = none
as_forall (var a) = none
as_forall (etvar a) = none
as_forall (arrow A B) = none
as_forall (forall a A) = some (a, A)

-- ---- inst_l and inst_r: Γ ⊢ ^a :=< T ⊣ Δ on the left, Γ ⊢ T :=< ^a ⊣ Δ on the right

unfoldable pub other : Side → Side
other on_l = on_r
other on_r = on_l

unfoldable pub inst_solve : Side → Rule
inst_solve on_l = Syntax.InstLSolve
inst_solve on_r = Syntax.InstRSolve

unfoldable pub inst_reach : Side → Rule
inst_reach on_l = Syntax.InstLReach
inst_reach on_r = Syntax.InstRReach

unfoldable pub inst_arr : Side → Rule
inst_arr on_l = Syntax.InstLArr
inst_arr on_r = Syntax.InstRArr

-- is_mono T    a not in T    (and neither Reach, Arr nor All fits)
-- ------------------------------- InstLSolve; InstRSolve with T :=< ^a
-- Γ[^a] ⊢ ^a :=< T ⊣ Γ[^a = T]
--
-- 000's last arm refuses with InstantiationError, 16, where T is no monotype: no question comes there (`never_16`, promises Main).
unfoldable pub solve : Here → Side → Ctx → TyVar → Ty → M Fired
solve h s Γ a T =
    pick (is_mono T)
    (pick (occurs a T) (refuse (occurs_check a T)) (closes (inst_solve s) (replace a (setvar_bnd a T from h ∷ []) Γ)))
    (refuse (instantiation_error a T))

-- before Γ[^b] a b
-- --------------------------------- InstLReach; InstRReach with ^b :=< ^a
-- Γ[^b] ⊢ ^a :=< ^b ⊣ Γ[^b = ^a]
unfoldable pub reach : Here → Side → Ctx → TyVar → TyVar → M Fired
reach h s Γ a b = closes (inst_reach s) (replace b (setvar_bnd b (etvar a) from h ∷ []) Γ)

-- a solved as an arrow of two fresh unknowns: Γ[^a = ^b → ^c, ^b, ^c]
unfoldable pub split : Here → TyVar → TyVar → TyVar → Ctx → Ctx
split h a b c Γ = replace a (setvar_bnd a (arrow (etvar b) (etvar c)) from h ∷ etvar_bnd b from h ∷ etvar_bnd c from h ∷ []) Γ

-- b, c fresh    Γ[^a = ^b → ^c, ^b, ^c] ⊢ A :=< ^b ⊣ Δ    Δ ⊢ ^c :=< [Δ]B ⊣ Θ
-- ----------------------------------------------------------------------------- InstLArr; InstRArr with the sides of :=< exchanged
-- Γ[^a] ⊢ ^a :=< A → B ⊣ Θ
unfoldable pub inst_arrow : Here → Judge → Side → Ctx → TyVar → Ty → Ty → M Fired
inst_arrow h judge s Γ a A B = do
  b ← fresh
  c ← fresh
  (C, Δ, t) ← judge (inst (other s) (split h a b c Γ) b A)
  B' ← apply Δ B
  (D, Θ, t') ← judge (inst s Δ c B')
  give (inst_arr s, int, Θ, t & t' & leaf)

-- Γ, b ⊢ ^a :=< T ⊣ Δ, b, Θ                       Γ, ^b, $b ⊢ [^b/b]T :=< ^a ⊣ Δ, $b, Θ
-- -------------------------- InstLAllR            -------------------------------------- InstRAllL
-- Γ ⊢ ^a :=< ∀b. T ⊣ Θ                            Γ ⊢ ∀b. T :=< ^a ⊣ Θ
unfoldable pub inst_forall : Here → Judge → Side → Ctx → TyVar → TyVar → Ty → M Fired
inst_forall h judge on_l Γ a b T = do
  (C, Δ, t) ← judge (inst on_l (Γ ▹ tvar_bnd b from h) a T)
  give (Syntax.InstLAllR, int, right_of (k_tvar b) Δ, t & leaf)
inst_forall h judge on_r Γ a b T = do
  T' ← subst b (etvar b) T
  (C, Δ, t) ← judge (inst on_r (Γ ▹ etvar_bnd b from h ▹ mark b from h) a T')
  give (Syntax.InstRAllL, int, right_of (k_mark b) Δ, t & leaf)

unfoldable pub inst_rule : Here → Judge → Side → Ctx → TyVar → Ty → M Fired
inst_rule h judge s Γ a int = solve h s Γ a int
inst_rule h judge s Γ a bool = solve h s Γ a bool
inst_rule h judge s Γ a (var b) = solve h s Γ a (var b)
inst_rule h judge s Γ a (etvar b) = pick (before Γ a b) (reach h s Γ a b) (solve h s Γ a (etvar b))
inst_rule h judge s Γ a (arrow A B) = inst_arrow h judge s Γ a A B
inst_rule h judge s Γ a (forall b T) = inst_forall h judge s Γ a b T

-- ---- subtype: Γ ⊢ A <: B ⊣ Δ

-- Γ ⊢ B₁ <: A₁ ⊣ Δ    Δ ⊢ A₂ <: B₂ ⊣ Θ
-- -------------------------------------- SubArr: "SubArr does not apply the context between its halves; InstLArr and InstRArr do."
-- Γ ⊢ A₁ → A₂ <: B₁ → B₂ ⊣ Θ
unfoldable pub sub_arr : Here → Judge → Ctx → Ty × Ty → Ty × Ty → M Fired
sub_arr h judge Γ (A₁, A₂) (B₁, B₂) = do
  (C, Δ, t) ← judge (subtype Γ B₁ A₁)
  (D, Θ, t') ← judge (subtype Δ A₂ B₂)
  give (Syntax.SubArr, int, Θ, t & t' & leaf)

-- Γ, b ⊢ A <: T ⊣ Δ, b, Θ
-- ------------------------ SubAllR
-- Γ ⊢ A <: ∀b. T ⊣ Θ
unfoldable pub sub_all_r : Here → Judge → Ctx → Ty → TyVar × Ty → M Fired
sub_all_r h judge Γ A (b, T) = do
  (C, Δ, t) ← judge (subtype (Γ ▹ tvar_bnd b from h) A T)
  give (Syntax.SubAllR, int, right_of (k_tvar b) Δ, t & leaf)

-- Γ, ^a, $a ⊢ [^a/a]T <: B ⊣ Δ, $a, Θ
-- ------------------------------------ SubAllL
-- Γ ⊢ ∀a. T <: B ⊣ Θ
unfoldable pub sub_all_l : Here → Judge → Ctx → Ty → TyVar × Ty → M Fired
sub_all_l h judge Γ B (a, T) = do
  T' ← subst a (etvar a) T
  (C, Δ, t) ← judge (subtype (Γ ▹ etvar_bnd a from h ▹ mark a from h) T' B)
  give (Syntax.SubAllL, int, right_of (k_mark a) Δ, t & leaf)

-- a not in B    Γ ⊢ ^a :=< B ⊣ Δ                  a not in A    Γ ⊢ A :=< ^a ⊣ Δ
-- ------------------------------- SubInstL        ------------------------------- SubInstR
-- Γ ⊢ ^a <: B ⊣ Δ                                 Γ ⊢ A <: ^a ⊣ Δ
unfoldable pub sub_inst : Here → Judge → Rule → Side → Ctx → Ty → TyVar → M Fired
sub_inst h judge r s Γ T a = do
  (C, Δ, t) ← judge (inst s Γ a T)
  give (r, int, Δ, t & leaf)

unfoldable pub not_in : Ty → Option TyVar → Option TyVar
not_in T none = none
not_in T (some a) = pick (occurs a T) none (some a)

unfoldable pub same_base : Ty → Ty → Bool
same_base A B = leb (ty_code A) 2 && eqb (ty_code A) (ty_code B)

unfoldable pub same : Option TyVar → Option TyVar → Bool
same none o = false
same (some a) none = false
same (some a) (some b) = same_name a b

-- ------------------- SubRefl, and of Bool        ----------------- SubReflTVar        ------------------- SubReflETVar
-- Γ ⊢ Int <: Int ⊣ Γ                              Γ ⊢ a <: a ⊣ Γ                       Γ ⊢ ^a <: ^a ⊣ Γ
--
-- "SubAllR comes before SubAllL, both before SubInstL, that before SubInstR."
unfoldable pub subtype_rule : Here → Judge → Ctx → Ty → Ty → M Fired
subtype_rule h judge Γ A B =
    when (same_base A B) (closes Syntax.SubRefl Γ)
    or_else when (same (as_var A) (as_var B)) (closes Syntax.SubReflTVar Γ)
    or_else when (same (as_etvar A) (as_etvar B)) (closes Syntax.SubReflETVar Γ)
    or_else on_both (as_arrow A) (as_arrow B) (sub_arr h judge Γ)
    or_else on (as_forall B) (sub_all_r h judge Γ A)
    or_else on (as_forall A) (sub_all_l h judge Γ B)
    or_else on (not_in B (as_etvar A)) (sub_inst h judge Syntax.SubInstL on_l Γ B)
    or_else on (not_in A (as_etvar B)) (sub_inst h judge Syntax.SubInstR on_r Γ A)
    or_else refuse (subtyping_error A B)

-- ---- check: Γ ⊢ e ⇐ B ⊣ Δ

unfoldable pub expr_code : Expr → ℕ
expr_code (evar p x) = 16
expr_code (app p e e') = 17
expr_code (abs p x A e) = 18
expr_code (tapp p e A) = 19
expr_code (tabs p a e) = 20
expr_code (ann p e A) = 21
expr_code (lit_int p l h) = 22
expr_code (lit_bool p b) = 23
expr_code (let_in p x e e') = 24
expr_code (if_then_else p e e' e'') = 25
expr_code (bin_op p o e e') = 26

unfoldable pub as_abs : Expr → Option (TmVar × Ty × Expr)
as_abs (evar p x) = none
as_abs (app p e e') = none
as_abs (abs p x A e) = some (x, A, e)
as_abs (tapp p e A) = none
as_abs (tabs p a e) = none
as_abs (ann p e A) = none
as_abs (lit_int p l h) = none
as_abs (lit_bool p b) = none
as_abs (let_in p x e e') = none
as_abs (if_then_else p e e' e'') = none
as_abs (bin_op p o e e') = none

-- Order 2: "A programmer in strict mode wrote a parameter of type forall A, A to A, where forall B, B to B was expected, and got 17. Document 01's
-- comparison, name for name, was too narrow. Strict parameters are equal when they differ only in the names bound by Forall. A bound name is not
-- a free one of the same number, and Var is not ETVar. Plain mode is untouched; demand 3 is proved again for strict."
-- Two types are walked together, under the letters of the Foralls passed in each, innermost first.
abbrev pub Letters : Type 0
Letters = List (TyVar × TyVar)

-- two Vars: the innermost Foralls that bind one of them bind both; where none does, both are free, and are compared name for name
unfoldable pub same_var : Letters → TyVar → TyVar → Bool
same_var [] a b = same_name a b
same_var ((c, d) ∷ ls) a b = pick (same_name c a || same_name d b) (same_name c a && same_name d b) (same_var ls a b)

-- in this comparison no Forall binds an ETVar (reading 2.1), though in `occurs` and `subst` it does
unfoldable pub same_ty : Letters → Ty → Ty → Bool
same_ty ls int B = eqb (ty_code B) 1
same_ty ls bool B = eqb (ty_code B) 2
same_ty ls (var a) B = on (as_var B) (λ b. same_var ls a b) or_else false
same_ty ls (etvar a) B = on (as_etvar B) (λ b. same_name a b) or_else false
same_ty ls (arrow A A') B = on (as_arrow B) (λ (C, C'). same_ty ls A C && same_ty ls A' C') or_else false
same_ty ls (forall a A) B = on (as_forall B) (λ (b, C). same_ty ((a, b) ∷ ls) A C) or_else false

-- "ChkLam first applies the context to the expected parameter and compares the written parameter with it, name for name; unequal is 17,
-- written type left, applied type right." By order 2 it is up to bound names. The written one is compared as written (reading 7); applying is
-- paid for first (reading 8), comparing costs nothing (reading 2.4).
unfoldable pub parameter : Bool → Ctx → Ty → Ty → M (Unit {0})
parameter false Γ A P = give tt
parameter true Γ A P = do P' ← apply Γ P; pick (same_ty [] A P') (give tt) (refuse (parameter_mismatch A P'))

-- strict: A ≈ [Γ]P    Γ, x : P ⊢ e ⇐ C ⊣ Δ, x : _, Θ
-- ---------------------------------------------------- ChkLam, which binds P as it stood (reading 6)
-- Γ ⊢ λx:A. e ⇐ P → C ⊣ Θ
unfoldable pub chk_lam : Here → Judge → Ctx → TmVar × Ty × Expr → Ty × Ty → M Fired
chk_lam h judge Γ (x, A, e) (P, C) = do
  u ← parameter h.manner.compares_parameter Γ A P
  (D, Δ, t) ← judge (check (Γ ▹ var_bnd x P from h) e C)
  give (Syntax.ChkLam, int, right_of (k_var x) Δ, t & leaf)

-- Γ, a ⊢ e ⇐ T ⊣ Δ, a, Θ
-- ----------------------- ChkAll
-- Γ ⊢ e ⇐ ∀a. T ⊣ Θ
unfoldable pub chk_all : Here → Judge → Ctx → Expr → TyVar × Ty → M Fired
chk_all h judge Γ e (a, T) = do
  (C, Δ, t) ← judge (check (Γ ▹ tvar_bnd a from h) e T)
  give (Syntax.ChkAll, int, right_of (k_tvar a) Δ, t & leaf)

-- Γ ⊢ e ⇒ A ⊣ Δ    Δ ⊢ [Δ]A <: [Δ]B ⊣ Θ
-- ---------------------------------------- ChkSub
-- Γ ⊢ e ⇐ B ⊣ Θ
unfoldable pub chk_sub : Here → Judge → Ctx → Expr → Ty → M Fired
chk_sub h judge Γ e B = do
  (A, Δ, t) ← judge (infer Γ e)
  A' ← apply Δ A
  B' ← apply Δ B
  (C, Θ, t') ← judge (subtype Δ A' B')
  give (Syntax.ChkSub, int, Θ, t & t' & leaf)

-- ----------------- ChkLitInt        --------------------- ChkLitBool
-- Γ ⊢ 1 ⇐ Int ⊣ Γ                    Γ ⊢ true ⇐ Bool ⊣ Γ
--
-- "ChkAll before ChkSub."
unfoldable pub check_rule : Here → Judge → Ctx → Expr → Ty → M Fired
check_rule h judge Γ e B =
    when (eqb (expr_code e) 22 && eqb (ty_code B) 1) (closes Syntax.ChkLitInt Γ)
    or_else when (eqb (expr_code e) 23 && eqb (ty_code B) 2) (closes Syntax.ChkLitBool Γ)
    or_else on_both (as_abs e) (as_arrow B) (chk_lam h judge Γ)
    or_else on (as_forall B) (chk_all h judge Γ e)
    or_else chk_sub h judge Γ e B

-- ---- infer_app: Γ ⊢ e • A ⇒⇒ C ⊣ Δ, for a function's type A as it stands (reading 9)

-- Γ ⊢ e ⇐ A ⊣ Δ
-- ------------------------ InfAppArr
-- Γ ⊢ e • A → C ⇒⇒ C ⊣ Δ
unfoldable pub inf_app_arr : Here → Judge → Ctx → Expr → Ty × Ty → M Fired
inf_app_arr h judge Γ e (A, C) = do
  (D, Δ, t) ← judge (check Γ e A)
  give (Syntax.InfAppArr, C, Δ, t & leaf)

-- b, c fresh    Γ[^a = ^b → ^c, ^b, ^c] ⊢ e ⇐ ^b ⊣ Δ
-- ---------------------------------------------------- InfAppETVar
-- Γ[^a] ⊢ e • ^a ⇒⇒ ^c ⊣ Δ
unfoldable pub inf_app_etvar : Here → Judge → Ctx → Expr → TyVar → M Fired
inf_app_etvar h judge Γ e a = do
  b ← fresh
  c ← fresh
  (D, Δ, t) ← judge (check (split h a b c Γ) e (etvar b))
  give (Syntax.InfAppETVar, etvar c, Δ, t & leaf)

unfoldable pub infer_app_rule : Here → Judge → Ctx → Expr → Ty → M Fired
infer_app_rule h judge Γ e A =
    on (as_arrow A) (inf_app_arr h judge Γ e)
    or_else on (as_etvar A) (inf_app_etvar h judge Γ e)
    or_else refuse (application_type_error A)

-- ---- infer: Γ ⊢ e ⇒ A ⊣ Δ

-- x : A the earliest entry for x in Γ
-- ------------------------------------ InfVar
-- Γ ⊢ x ⇒ A ⊣ Γ
unfoldable pub inf_var : TmVar → Ctx → Option Ty → M Fired
inf_var x Γ none = refuse (unbound_variable x)
inf_var x Γ (some A) = give (Syntax.InfVar, A, Γ, leaf)

-- b fresh    Γ, x : A, ^b ⊢ e ⇐ ^b ⊣ Δ, x : _, Θ
-- ------------------------------------------------ InfLam
-- Γ ⊢ λx:A. e ⇒ A → ^b ⊣ solved Δ, Θ
unfoldable pub inf_lam : Here → Judge → Ctx → TmVar → Ty → Expr → M Fired
inf_lam h judge Γ x A e = do
  b ← fresh
  (C, Δ, t) ← judge (check (Γ ▹ var_bnd x A from h ▹ etvar_bnd b from h) e (etvar b))
  give (Syntax.InfLam, arrow A (etvar b), solved_and_right (k_var x) Δ, t & leaf)

-- Γ ⊢ e ⇒ A ⊣ Δ    Δ ⊢ e' • [Δ]A ⇒⇒ C ⊣ Θ
-- ------------------------------------------ InfApp
-- Γ ⊢ e e' ⇒ C ⊣ Θ
unfoldable pub inf_app : Here → Judge → Ctx → Expr → Expr → M Fired
inf_app h judge Γ e e' = do
  (A, Δ, t) ← judge (infer Γ e)
  A' ← apply Δ A
  (C, Θ, t') ← judge (infer_app Δ e' A')
  give (Syntax.InfApp, C, Θ, t & t' & leaf)

-- Γ ⊢ e ⇒ A ⊣ Δ    Δ, x : A ⊢ e' ⇒ B ⊣ Θ, x : _, Ξ
-- --------------------------------------------------- InfLet
-- Γ ⊢ let x = e in e' ⇒ B ⊣ solved Θ, Ξ
unfoldable pub inf_let : Here → Judge → Ctx → TmVar → Expr → Expr → M Fired
inf_let h judge Γ x e e' = do
  (A, Δ, t) ← judge (infer Γ e)
  (B, Θ, t') ← judge (infer (Δ ▹ var_bnd x A from h) e')
  give (Syntax.InfLet, B, solved_and_right (k_var x) Θ, t & t' & leaf)

-- "InfIf applies none"; in strict mode "InfIf applies its third context to both branch types, first then second, before subtype; its result
-- type stays the unapplied one."
unfoldable pub branch : Bool → Ctx → Ty → M Ty
branch false Γ A = give A
branch true Γ A = apply Γ A

-- Γ ⊢ e ⇐ Bool ⊣ Γ₁    Γ₁ ⊢ e' ⇒ A ⊣ Γ₂    Γ₂ ⊢ e'' ⇒ B ⊣ Γ₃    Γ₃ ⊢ A <: B ⊣ Γ₄
-- ---------------------------------------------------------------------------------- InfIf; strict: Γ₃ ⊢ [Γ₃]A <: [Γ₃]B ⊣ Γ₄
-- Γ ⊢ if e then e' else e'' ⇒ A ⊣ Γ₄
unfoldable pub inf_if : Here → Judge → Ctx → Expr → Expr → Expr → M Fired
inf_if h judge Γ e e' e'' = do
  (C, Γ₁, t₁) ← judge (check Γ e bool)
  (A, Γ₂, t₂) ← judge (infer Γ₁ e')
  (B, Γ₃, t₃) ← judge (infer Γ₂ e'')
  A' ← branch h.manner.applies_branches Γ₃ A
  B' ← branch h.manner.applies_branches Γ₃ B
  (D, Γ₄, t₄) ← judge (subtype Γ₃ A' B')
  give (Syntax.InfIf, A, Γ₄, t₁ & t₂ & t₃ & t₄ & leaf)

-- Γ ⊢ e ⇐ A ⊣ Δ    Δ ⊢ e' ⇐ A ⊣ Θ
-- ---------------------------------- InfArith (1 to 4; A and C are Int), InfBool (5, 6; both are Bool), InfCmp (9 to 12; A is Int, C is Bool)
-- Γ ⊢ e op e' ⇒ C ⊣ Θ
unfoldable pub inf_both : Here → Judge → Rule → Ty → Ty → Ctx → Expr → Expr → M Fired
inf_both h judge r A C Γ e e' = do
  (D, Δ, t) ← judge (check Γ e A)
  (D', Θ, t') ← judge (check Δ e' A)
  give (r, C, Θ, t & t' & leaf)

-- Γ ⊢ e ⇒ A ⊣ Δ    Δ ⊢ e' ⇐ A ⊣ Θ
-- ---------------------------------- InfEq (7, 8)
-- Γ ⊢ e == e' ⇒ Bool ⊣ Θ
unfoldable pub inf_eq : Here → Judge → Ctx → Expr → Expr → M Fired
inf_eq h judge Γ e e' = do
  (A, Δ, t) ← judge (infer Γ e)
  (D, Θ, t') ← judge (check Δ e' A)
  give (Syntax.InfEq, bool, Θ, t & t' & leaf)

-- 002's order: 1 to 4 + - * /, 5 and 6 && ||, 7 and 8 == !=, 9 to 12 < <= > >=
unfoldable pub inf_binop : Here → Judge → Ctx → ℕ → Expr → Expr → M Fired
inf_binop h judge Γ o e e' =
    when (leb o 4) (inf_both h judge Syntax.InfArith int int Γ e e')
    or_else when (leb o 6) (inf_both h judge Syntax.InfBool bool bool Γ e e')
    or_else when (leb o 8) (inf_eq h judge Γ e e')
    or_else inf_both h judge Syntax.InfCmp int bool Γ e e'

-- Γ ⊢ e ⇐ A ⊣ Δ
-- ------------------------ InfAnn
-- Γ ⊢ (e : A) ⇒ A ⊣ Δ
unfoldable pub inf_ann : Here → Judge → Ctx → Expr → Ty → M Fired
inf_ann h judge Γ e A = do
  (C, Δ, t) ← judge (check Γ e A)
  give (Syntax.InfAnn, A, Δ, t & leaf)

-- Γ, a ⊢ e ⇒ A ⊣ Δ, a, Θ
-- -------------------------------------------- InfTAbs
-- Γ ⊢ Λa. e ⇒ ∀a. [Δ, a, Θ]A ⊣ solved Δ, Θ
unfoldable pub inf_tabs : Here → Judge → Ctx → TyVar → Expr → M Fired
inf_tabs h judge Γ a e = do
  (A, Δ, t) ← judge (infer (Γ ▹ tvar_bnd a from h) e)
  A' ← apply Δ A
  give (Syntax.InfTAbs, forall a A', solved_and_right (k_tvar a) Δ, t & leaf)

-- Γ ⊢ e ⇒ ∀a. T ⊣ Δ
-- ------------------------ InfTApp
-- Γ ⊢ e[B] ⇒ [B/a]T ⊣ Δ
unfoldable pub instantiate : Ty → Ty → M Ty
instantiate B A = on (as_forall A) (λ (a, T). subst a B T) or_else refuse (type_application_error A)

unfoldable pub inf_tapp : Here → Judge → Ctx → Expr → Ty → M Fired
inf_tapp h judge Γ e B = do
  (A, Δ, t) ← judge (infer Γ e)
  A' ← instantiate B A
  give (Syntax.InfTApp, A', Δ, t & leaf)

-- ----------------- InfLitInt        --------------------- InfLitBool
-- Γ ⊢ 1 ⇒ Int ⊣ Γ                    Γ ⊢ true ⇒ Bool ⊣ Γ
unfoldable pub infer_rule : Here → Judge → Ctx → Expr → M Fired
infer_rule h judge Γ (evar p x) = inf_var x Γ (find (k_var x) Γ)
infer_rule h judge Γ (ann p e A) = inf_ann h judge Γ e A
infer_rule h judge Γ (lit_int p low high) = give (Syntax.InfLitInt, int, Γ, leaf)
infer_rule h judge Γ (lit_bool p b) = give (Syntax.InfLitBool, bool, Γ, leaf)
infer_rule h judge Γ (abs p x A e) = inf_lam h judge Γ x A e
infer_rule h judge Γ (app p e e') = inf_app h judge Γ e e'
infer_rule h judge Γ (tabs p a e) = inf_tabs h judge Γ a e
infer_rule h judge Γ (tapp p e B) = inf_tapp h judge Γ e B
infer_rule h judge Γ (let_in p x e e') = inf_let h judge Γ x e e'
infer_rule h judge Γ (if_then_else p e e' e'') = inf_if h judge Γ e e' e''
infer_rule h judge Γ (bin_op p o e e') = inf_binop h judge Γ o e e'

-- ---- "Each judgement of kinds 1 to 6 entered is charged 1 plus the entries of its input context; each that succeeds, the entries of its
-- output context. .. Charges fall in 000's order" (reading 16). Entries, not words (reading 12); on entering, before its rule; on leaving, after it.

unfoldable pub rule : Rules
rule h judge (infer Γ e) = infer_rule h judge Γ e
rule h judge (check Γ e B) = check_rule h judge Γ e B
rule h judge (infer_app Γ e A) = infer_app_rule h judge Γ e A
rule h judge (subtype Γ A B) = subtype_rule h judge Γ A B
rule h judge (inst s Γ a T) = inst_rule h judge s Γ a T

unfoldable pub judge_step : Rules → (Here → Judge) → Here → Judge
judge_step rules judge h j = do
  u ← charge (1 + length (given j))
  (r, C, Δ, ts) ← rules h (judge h) j
  v ← charge (length Δ)
  give (C, Δ, node r j C Δ ts)

-- to a depth; every judgement is charged, so the budget left is depth enough
unfoldable pub judge_to : Rules → ℕ → Here → Judge
judge_to rules zero h j = halt
judge_to rules (suc d) h j = judge_step rules (λ i k l n. judge_to rules d i k l n) h j

unfoldable pub judge_by : Rules → Here → Judge
judge_by rules h j l n = judge_to rules l h j l n

abbrev pub judge : Here → Judge
judge = judge_by rule

-- `unfolding rules_compute` opens every definition above, and those they rest on
unfoldable pub rules_compute : Unit {0}
unfolding closes ◌or_else◌ when on on_both ty_code as_var as_etvar as_arrow as_forall other inst_solve inst_reach inst_arr solve reach split inst_arrow inst_forall inst_rule sub_arr sub_all_r sub_all_l sub_inst not_in same_base same subtype_rule expr_code as_abs same_var same_ty parameter chk_lam chk_all chk_sub check_rule inf_app_arr inf_app_etvar infer_app_rule inf_var inf_lam inf_app inf_let branch inf_if inf_both inf_eq inf_binop inf_ann inf_tabs instantiate inf_tapp infer_rule rule judge_step judge_to judge_by types_compute
rules_compute = tt
