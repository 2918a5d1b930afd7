-- One theorem over all rules: a relation between runs that giving, refusing with a listed code, taking a fresh name, charging and binding keep,
-- every rule keeps; and where running out keeps it, so do application, judgements and questions.
use mathlib.Core.Path.{◌≡◌, refl}
use Prim.Native.Nat.{ℕ, zero, suc}
use mathlib.Core.Bool.{Bool, true, false}
use mathlib.Core.Option.{Option, none, some}
use lib.Dec.{eqb}
use Rattle.definition.specs.Syntax.{pick, TmVar, TyVar, Ty, int, bool, var, etvar, arrow, forall, Expr, evar, app, abs, tapp, tabs, ann, lit_int, lit_bool, let_in, if_then_else, bin_op, Ctx, Side, on_l, on_r, Judgement, infer, check, infer_app, subtype, inst, Rule, TypeError}
use Rattle.definition.specs.Run.{M, ◌>>=◌, give, refuse, halt, charge, fresh}
use Rattle.definition.specs.Contexts.{k_setvar, find}
use Rattle.definition.specs.Types.{solution_or, apply_step, apply_to, apply, subst, same_name, is_mono, occurs}
use Rattle.definition.specs.Question.{Question}
use Rattle.definition.specs.Rules.{Fired, Result, Judge, Here, outside, Rules, judge_step, judge_to, judge, closes, ◌or_else◌, when, on, on_both, solve, reach, inst_arrow, inst_forall, inst_rule, sub_arr, sub_all_r, sub_all_l, sub_inst, subtype_rule, parameter, chk_lam, chk_all, chk_sub, check_rule, inf_app_arr, inf_app_etvar, infer_app_rule, inf_var, inf_lam, inf_app, inf_let, branch, inf_if, inf_both, inf_eq, inf_binop, inf_ann, inf_tabs, instantiate, inf_tapp, infer_rule, rule}
use Rattle.definition.specs.Reply.{error_code, answer}
use Rattle.laws.specs.Codes.{Listed}

abbrev pub Rel : Type 1
Rel = (A : Type 0) → M A → M A → Type 0

pub record Compatible (R : Rel) : Type 1 where
  pub give_r : {A : Type 0} (a : A) → R A (give a) (give a)
  pub refuse_r : {A : Type 0} (e : TypeError) → Listed (error_code e.error) → R A (refuse e) (refuse e)
  pub fresh_r : R TyVar fresh fresh
  pub charge_r : (c : ℕ) → R (Unit {0}) (charge c) (charge c)
  pub bind_r : {A B : Type 0} {m m' : M A} {f f' : A → M B} → R A m m' → ((a : A) → R B (f a) (f' a)) → R B (m >>= f) (m' >>= f')

module _ (R : Rel) (c : Compatible R) where
  -- ## Choices

  pick_r : {A : Type 0} (b : Bool) {x x' y y' : M A} → R A x x' → R A y y' → R A (pick b x y) (pick b x' y')
  unfolding pick
  pick_r true h k = h
  pick_r false h k = k

  data ArmR {A : Type 0} : Option (M A) → Option (M A) → Type 0 where
    no_arm : ArmR none none
    an_arm : {m m' : M A} → R A m m' → ArmR (some m) (some m')

  or_else_r : {A : Type 0} {o o' : Option (M A)} {y y' : M A} → ArmR o o' → R A y y' → R A (o or_else y) (o' or_else y')
  unfolding ◌or_else◌
  or_else_r no_arm h = h
  or_else_r (an_arm k) h = k

  when_r : {A : Type 0} (b : Bool) {x x' : M A} → R A x x' → ArmR (when b x) (when b x')
  unfolding when pick
  when_r true h = an_arm h
  when_r false h = no_arm

  on_arm_r : {A X : Type 0} (o : Option X) {f f' : X → M A} → ((x : X) → R A (f x) (f' x)) → ArmR (on o f) (on o f')
  unfolding on
  on_arm_r none h = no_arm
  on_arm_r (some x) h = an_arm (h x)

  on_both_r : {A X Y : Type 0} (o : Option X) (p : Option Y) {f f' : X → Y → M A} → ((x : X) (y : Y) → R A (f x y) (f' x y)) → ArmR (on_both o p f) (on_both o p f')
  unfolding on_both
  on_both_r none p h = no_arm
  on_both_r (some x) none h = no_arm
  on_both_r (some x) (some y) h = an_arm (h x y)

  -- ## Types

  pub subst_r : (a : TyVar) (B A : Ty) → R Ty (subst a B A) (subst a B A)
  unfolding subst
  subst_r a B int = c.bind_r (c.charge_r 1) (λ u. c.give_r _)
  subst_r a B bool = c.bind_r (c.charge_r 1) (λ u. c.give_r _)
  subst_r a B (var b) = c.bind_r (c.charge_r 1) (λ u. c.give_r _)
  subst_r a B (etvar b) = c.bind_r (c.charge_r 1) (λ u. c.give_r _)
  subst_r a B (arrow A A') = c.bind_r (c.charge_r 1) (λ u. c.bind_r (subst_r a B A) (λ D. c.bind_r (subst_r a B A') (λ D'. c.give_r _)))
  subst_r a B (forall b A) =
      c.bind_r (c.charge_r 1) (λ u. pick_r (same_name b a) (c.give_r _) (c.bind_r (subst_r a B A) (λ D. c.give_r _)))

  solution_or_r : (A : Ty) (ap ap' : Ty → M Ty) → ((B : Ty) → R Ty (ap B) (ap' B)) → (o : Option Ty)
      → R Ty (solution_or A ap o) (solution_or A ap' o)
  unfolding solution_or
  solution_or_r A ap ap' h none = c.give_r A
  solution_or_r A ap ap' h (some B) = h B

  pub apply_step_r : (Γ : Ctx) (ap ap' : Ty → M Ty) → ((A : Ty) → R Ty (ap A) (ap' A)) → (A : Ty)
      → R Ty (apply_step Γ ap A) (apply_step Γ ap' A)
  unfolding apply_step
  apply_step_r Γ ap ap' h int = c.give_r int
  apply_step_r Γ ap ap' h bool = c.give_r bool
  apply_step_r Γ ap ap' h (var a) = c.give_r (var a)
  apply_step_r Γ ap ap' h (etvar a) = solution_or_r (etvar a) ap ap' h (find (k_setvar a) Γ)
  apply_step_r Γ ap ap' h (arrow A B) = c.bind_r (h A) (λ A'. c.bind_r (h B) (λ B'. c.give_r (arrow A' B')))
  apply_step_r Γ ap ap' h (forall a A) = c.bind_r (h A) (λ A'. c.give_r (forall a A'))

  module _ (apply_r : (Γ : Ctx) (A : Ty) → R Ty (apply Γ A) (apply Γ A)) (h : Here) (judge judge' : Judge) (p : (j : Judgement) → R Result (judge j) (judge' j)) where
    -- ## Shapes that rules share

    closes_r : (r : Rule) (Γ : Ctx) → R Fired (closes r Γ) (closes r Γ)
    unfolding closes
    closes_r r Γ = c.give_r _

    -- one judgement, and what the rule gives then
    one_r : (j : Judgement) (f : Result → Fired) → R Fired (judge j >>= λ r. give (f r)) (judge' j >>= λ r. give (f r))
    one_r j f = c.bind_r (p j) (λ r. c.give_r _)

    -- one judgement, and a second that depends on it
    two_r : (j : Judgement) (k : Result → Judgement) (f : Result → Result → Fired)
        → R Fired (judge j >>= λ r. (judge (k r) >>= λ r'. give (f r r'))) (judge' j >>= λ r. (judge' (k r) >>= λ r'. give (f r r')))
    two_r j k f = c.bind_r (p j) (λ r. one_r (k r) (f r))

    -- ## inst_l and inst_r

    -- of monotypes alone: of others InstantiationError is drawn, whose code is not listed
    solve_r : (s : Side) (Γ : Ctx) (a : TyVar) (A : Ty) → is_mono A ≡ true → R Fired (solve h s Γ a A) (solve h s Γ a A)
    unfolding solve pick error_code
    solve_r s Γ a A e = rw e (pick_r (occurs a A) (c.refuse_r _ tt) (closes_r _ _))

    inst_forall_r : (s : Side) (Γ : Ctx) (a b : TyVar) (A : Ty) → R Fired (inst_forall h judge s Γ a b A) (inst_forall h judge' s Γ a b A)
    unfolding inst_forall
    inst_forall_r on_l Γ a b A = one_r _ _
    inst_forall_r on_r Γ a b A = c.bind_r (subst_r _ _ _) (λ A'. one_r _ _)

    inst_rule_r : (s : Side) (Γ : Ctx) (a : TyVar) (A : Ty) → R Fired (inst_rule h judge s Γ a A) (inst_rule h judge' s Γ a A)
    unfolding inst_rule inst_arrow reach is_mono
    inst_rule_r s Γ a int = solve_r s Γ a int refl
    inst_rule_r s Γ a bool = solve_r s Γ a bool refl
    inst_rule_r s Γ a (var b) = solve_r s Γ a (var b) refl
    inst_rule_r s Γ a (etvar b) = pick_r _ (closes_r _ _) (solve_r s Γ a (etvar b) refl)
    inst_rule_r s Γ a (arrow A B) =
        c.bind_r c.fresh_r (λ b. c.bind_r c.fresh_r (λ d. c.bind_r (p _) (λ r. c.bind_r (apply_r _ _) (λ B'. one_r _ _))))
    inst_rule_r s Γ a (forall b A) = inst_forall_r s Γ a b A

    -- ## subtype

    sub_inst_r : (r : Rule) (s : Side) (Γ : Ctx) (T : Ty) (a : TyVar) → R Fired (sub_inst h judge r s Γ T a) (sub_inst h judge' r s Γ T a)
    unfolding sub_inst
    sub_inst_r r s Γ T a = one_r _ _

    subtype_rule_r : (Γ : Ctx) (A B : Ty) → R Fired (subtype_rule h judge Γ A B) (subtype_rule h judge' Γ A B)
    unfolding subtype_rule sub_arr sub_all_r sub_all_l error_code
    subtype_rule_r Γ A B =
        or_else_r (when_r _ (closes_r _ _))
        (or_else_r (when_r _ (closes_r _ _))
        (or_else_r (when_r _ (closes_r _ _))
        (or_else_r (on_both_r _ _ (λ P Q. two_r _ _ _))
        (or_else_r (on_arm_r _ (λ P. one_r _ _))
        (or_else_r (on_arm_r _ (λ P. c.bind_r (subst_r _ _ _) (λ S. one_r _ _)))
        (or_else_r (on_arm_r _ (sub_inst_r _ _ _ _))
        (or_else_r (on_arm_r _ (sub_inst_r _ _ _ _))
        (c.refuse_r _ tt))))))))

    -- ## check

    parameter_r : (b : Bool) (Γ : Ctx) (A P : Ty) → R (Unit {0}) (parameter b Γ A P) (parameter b Γ A P)
    unfolding parameter error_code
    parameter_r false Γ A P = c.give_r _
    parameter_r true Γ A P = c.bind_r (apply_r _ _) (λ P'. pick_r _ (c.give_r _) (c.refuse_r _ tt))

    check_rule_r : (Γ : Ctx) (e : Expr) (B : Ty) → R Fired (check_rule h judge Γ e B) (check_rule h judge' Γ e B)
    unfolding check_rule chk_all chk_lam chk_sub
    check_rule_r Γ e B =
        or_else_r (when_r _ (closes_r _ _))
        (or_else_r (when_r _ (closes_r _ _))
        (or_else_r (on_both_r _ _ (λ f P. c.bind_r (parameter_r _ _ _ _) (λ u. one_r _ _)))
        (or_else_r (on_arm_r _ (λ P. one_r _ _))
        (c.bind_r (p _) (λ r. c.bind_r (apply_r _ _) (λ A'. c.bind_r (apply_r _ _) (λ B'. one_r _ _)))))))

    -- ## infer_app

    infer_app_rule_r : (Γ : Ctx) (e : Expr) (A : Ty) → R Fired (infer_app_rule h judge Γ e A) (infer_app_rule h judge' Γ e A)
    unfolding infer_app_rule inf_app_arr inf_app_etvar error_code
    infer_app_rule_r Γ e A =
        or_else_r (on_arm_r _ (λ P. one_r _ _))
        (or_else_r (on_arm_r _ (λ a. c.bind_r c.fresh_r (λ b. c.bind_r c.fresh_r (λ d. one_r _ _))))
        (c.refuse_r _ tt))

    -- ## infer

    instantiate_r : (B A : Ty) → R Ty (instantiate B A) (instantiate B A)
    unfolding instantiate error_code
    instantiate_r B A = or_else_r (on_arm_r _ (λ P. subst_r _ _ _)) (c.refuse_r _ tt)

    branch_r : (b : Bool) (Γ : Ctx) (A : Ty) → R Ty (branch b Γ A) (branch b Γ A)
    unfolding branch
    branch_r false Γ A = c.give_r A
    branch_r true Γ A = apply_r Γ A

    inf_var_r : (x : TmVar) (Γ : Ctx) (o : Option Ty) → R Fired (inf_var x Γ o) (inf_var x Γ o)
    unfolding inf_var error_code
    inf_var_r x Γ none = c.refuse_r _ tt
    inf_var_r x Γ (some A) = c.give_r _

    inf_both_r : (r : Rule) (A C : Ty) (Γ : Ctx) (e e' : Expr) → R Fired (inf_both h judge r A C Γ e e') (inf_both h judge' r A C Γ e e')
    unfolding inf_both
    inf_both_r r A C Γ e e' = two_r _ _ _

    infer_rule_r : (Γ : Ctx) (e : Expr) → R Fired (infer_rule h judge Γ e) (infer_rule h judge' Γ e)
    unfolding infer_rule inf_lam inf_app inf_let inf_if inf_binop inf_eq inf_ann inf_tabs inf_tapp
    infer_rule_r Γ (evar q x) = inf_var_r _ _ _
    infer_rule_r Γ (lit_int q low high) = c.give_r _
    infer_rule_r Γ (lit_bool q v) = c.give_r _
    infer_rule_r Γ (abs q x A e) = c.bind_r c.fresh_r (λ b. one_r _ _)
    infer_rule_r Γ (app q e e') = c.bind_r (p _) (λ r. c.bind_r (apply_r _ _) (λ A'. one_r _ _))
    infer_rule_r Γ (let_in q x e e') = two_r _ _ _
    infer_rule_r Γ (if_then_else q e e' e'') =
        c.bind_r (p _) (λ r₁. c.bind_r (p _) (λ r₂. c.bind_r (p _) (λ r₃. c.bind_r (branch_r _ _ _) (λ A'. c.bind_r (branch_r _ _ _) (λ B'. one_r _ _)))))
    infer_rule_r Γ (bin_op q o e e') =
        or_else_r (when_r _ (inf_both_r _ _ _ _ _ _))
        (or_else_r (when_r _ (inf_both_r _ _ _ _ _ _))
        (or_else_r (when_r _ (two_r _ _ _))
        (inf_both_r _ _ _ _ _ _)))
    infer_rule_r Γ (ann q e A) = one_r _ _
    infer_rule_r Γ (tabs q a e) = c.bind_r (p _) (λ r. c.bind_r (apply_r _ _) (λ A'. c.give_r _))
    infer_rule_r Γ (tapp q e B) = c.bind_r (p _) (λ r. c.bind_r (instantiate_r _ _) (λ A'. c.give_r _))

    -- ## Every rule

    pub rule_r : (j : Judgement) → R Fired (rule h judge j) (rule h judge' j)
    unfolding rule
    rule_r (infer Γ e) = infer_rule_r Γ e
    rule_r (check Γ e B) = check_rule_r Γ e B
    rule_r (infer_app Γ e A) = infer_app_rule_r Γ e A
    rule_r (subtype Γ A B) = subtype_rule_r Γ A B
    rule_r (inst s Γ a A) = inst_rule_r s Γ a A

-- ## Rules that keep every such relation: document 01's do

pub record Congruent (rules : Rules) : Type 1 where
  pub keeps : (R : Rel) → Compatible R → ((Γ : Ctx) (A : Ty) → R Ty (apply Γ A) (apply Γ A)) → (h : Here) (judge judge' : Judge)
      → ((j : Judgement) → R Result (judge j) (judge' j)) → (j : Judgement) → R Fired (rules h judge j) (rules h judge' j)

pub rule_congruent : Congruent rule
rule_congruent = record { keeps = λ R c apply_r h judge judge' p. rule_r R c apply_r h judge judge' p }

-- ## Application and judgements to a depth, and questions

module _ (R : Rel) (c : Compatible R) (halt_r : (A : Type 0) → R A halt halt) where
  pub apply_to_r : (d : ℕ) (Γ : Ctx) (A : Ty) → R Ty (apply_to d Γ A) (apply_to d Γ A)
  unfolding apply_to
  apply_to_r zero Γ A = halt_r Ty
  apply_to_r (suc d) Γ A =
      c.bind_r (c.charge_r 1) (λ u. apply_step_r R c Γ (λ B l n. apply_to d Γ B l n) (λ B l n. apply_to d Γ B l n) (apply_to_r d Γ) A)

  module _ (apply_r : (Γ : Ctx) (A : Ty) → R Ty (apply Γ A) (apply Γ A)) where
    pub judge_to_r : {rules : Rules} → Congruent rules → (d : ℕ) (h : Here) (j : Judgement) → R Result (judge_to rules d h j) (judge_to rules d h j)
    unfolding judge_to judge_step
    judge_to_r k zero h j = halt_r Result
    judge_to_r {rules} k (suc d) h j =
        c.bind_r (c.charge_r _) (λ u. c.bind_r
        (k.keeps R c apply_r h (λ i l n. judge_to rules d h i l n) (λ i l n. judge_to rules d h i l n) (judge_to_r k d h) j)
        (λ r. c.bind_r (c.charge_r _) (λ v. c.give_r _)))

    pub answer_r : ((h : Here) (j : Judgement) → R Result (judge h j) (judge h j)) → (q : Question) → R Result (answer q) (answer q)
    unfolding answer
    answer_r judge_r q =
        let asked : R Result (judge (outside q.manner) q.asks) (judge (outside q.manner) q.asks) = judge_r (outside q.manner) q.asks in
        pick_r R c (eqb q.kind 7) (c.bind_r asked (λ r. c.bind_r (apply_r _ _) (λ A. c.give_r _))) asked
