-- Judgements that are alike run alike: one pass over the rules.
use mathlib.Core.Path.{◌≡◌, refl, ap, ap₂}
use Prim.Native.Nat.{ℕ, zero, suc, ◌+◌}
use mathlib.Core.Bool.{Bool, true, false, ◌&&◌, ◌||◌}
use mathlib.Core.List.{[], ◌∷◌}
use mathlib.Core.Option.{Option}
use lib.Dec.{leb, eqb}
use Rattle.definition.specs.Syntax.{pick, TmVar, TyVar, Ty, Expr, Ctx, Binding, Side, on_l, on_r, Judgement, place_of, given, Rule, unbound_variable, application_type_error, type_application_error, occurs_check, subtyping_error, parameter_mismatch}
use Rattle.definition.specs.Contexts.{◌▹◌}
use Rattle.definition.specs.Types.{is_mono}
use Rattle.definition.specs.Run.{M, ◌>>=◌, give}
use Rattle.definition.specs.Rules.{Fired, Result, Judge, Here, ◌from◌, closes, ◌or_else◌, when, on, on_both, ty_code, as_var, as_etvar, as_arrow, as_forall, solve, reach, split, inst_arrow, inst_forall, inst_rule, sub_arr, sub_all_r, sub_all_l, sub_inst, not_in, same_base, same, subtype_rule, expr_code, as_abs, Letters, same_var, same_ty, parameter, chk_lam, chk_all, chk_sub, check_rule, inf_app_arr, inf_app_etvar, infer_app_rule, inf_var, inf_lam, inf_app, inf_let, branch, inf_if, inf_both, inf_eq, inf_binop, inf_ann, inf_tabs, instantiate, inf_tapp, infer_rule, rule, judge_step, judge_to, judge_by, judge}
use Rattle.definition.specs.Reply.{error_code, error_at}
use Rattle.alike.specs.Alike.{Pairing, InReplies}
use Rattle.alike.proofs.Related
use Rattle.alike.proofs.Related.{BindingR, EntryR, from_r, VarR, NameR, TyR, int_r, bool_r, var_r, etvar_r, arrow_r, forall_r, var_bnd_r, tvar_bnd_r, etvar_bnd_r, setvar_bnd_r, mark_r, CtxR, nil_r, cons_r, ExprR, JudgementR, infer_r, check_r, infer_app_r, subtype_r, inst_r, TreeR, node_r, TreesR, leaf_r, and_r, TypeErrorR, OptionR, none_r, some_r, pick_r}
use Rattle.alike.proofs.Contexts.{same_name_r, k_var_r, k_tvar_r, k_mark_r, find_r, right_of_r, before_r, push_r, replace_r, solved_and_right_r, length_r}
use Rattle.alike.proofs.Runs.{RunsAlike, bind_r, give_r, refuse_r, halt_r, fresh_r, charge_r}
use Rattle.alike.proofs.Types.{is_mono_r, occurs_r, subst_r, apply_r}

-- what rules and judgements give
abbrev pub FiredR : Pairing → Fired → Fired → Type 0
FiredR P f f' = (f.0 ≡ f'.0) × TyR P f.1 f'.1 × CtxR P f.2 f'.2 × TreesR P f.3 f'.3

abbrev pub ResultR : Pairing → Result → Result → Type 0
ResultR P r r' = TyR P r.0 r'.0 × CtxR P r.1 r'.1 × TreeR P r.2 r'.2

-- ## The first arm that is there

module _ {P : Pairing} {A : Type 0} {W : A → A → Type 0} where
  or_else_r : {o o' : Option (M A)} {m m' : M A} → OptionR (RunsAlike P W) o o' → RunsAlike P W m m' → RunsAlike P W (o or_else m) (o' or_else m')
  unfolding ◌or_else◌
  or_else_r none_r w = w
  or_else_r (some_r p) w = p

  when_r : {b b' : Bool} {m m' : M A} → b ≡ b' → RunsAlike P W m m' → OptionR (RunsAlike P W) (when b m) (when b' m')
  unfolding when
  when_r e w = pick_r (OptionR (RunsAlike P W)) e (some_r w) none_r

  on_arm_r : {X : Type 0} {U : X → X → Type 0} {o o' : Option X} {f f' : X → M A} → OptionR U o o'
      → ((x x' : X) → U x x' → RunsAlike P W (f x) (f' x')) → OptionR (RunsAlike P W) (on o f) (on o' f')
  unfolding on
  on_arm_r none_r h = none_r
  on_arm_r (some_r p) h = some_r (h _ _ p)

  on_both_r : {X Y : Type 0} {U : X → X → Type 0} {W₂ : Y → Y → Type 0} {o o' : Option X} {q q' : Option Y}
      {f f' : X → Y → M A} → OptionR U o o' → OptionR W₂ q q'
      → ((x x' : X) (y y' : Y) → U x x' → W₂ y y' → RunsAlike P W (f x y) (f' x' y')) → OptionR (RunsAlike P W) (on_both o q f) (on_both o' q' f')
  unfolding on_both
  on_both_r none_r q h = none_r
  on_both_r (some_r p) none_r h = none_r
  on_both_r (some_r p) (some_r q) h = some_r (h _ _ _ _ p q)

-- a test of what is there
test_r : {X : Type 0} {U : X → X → Type 0} {o o' : Option X} {p p' : X → Bool} → OptionR U o o' → ((x x' : X) → U x x' → p x ≡ p' x')
    → (on o p or_else false) ≡ (on o' p' or_else false)
unfolding on ◌or_else◌
test_r none_r h = refl
test_r (some_r u) h = h _ _ u

-- ## The parts of a type and of an expression

abbrev ArrowR : Pairing → Ty × Ty → Ty × Ty → Type 0
ArrowR P p p' = TyR P p.0 p'.0 × TyR P p.1 p'.1

abbrev ForallR : Pairing → TyVar × Ty → TyVar × Ty → Type 0
ForallR P p p' = NameR P p.0 p'.0 × TyR P p.1 p'.1

abbrev AbsR : Pairing → TmVar × Ty × Expr → TmVar × Ty × Expr → Type 0
AbsR P f f' = VarR P f.0 f'.0 × TyR P f.1 f'.1 × ExprR P f.2 f'.2

record TyParts (P : Pairing) (A A' : Ty) : Type 0 where
  code : ty_code A ≡ ty_code A'
  var : OptionR (NameR P) (as_var A) (as_var A')
  etvar : OptionR (NameR P) (as_etvar A) (as_etvar A')
  arrow : OptionR (ArrowR P) (as_arrow A) (as_arrow A')
  forall : OptionR (ForallR P) (as_forall A) (as_forall A')

pub record ExprParts (P : Pairing) (e e' : Expr) : Type 0 where
  pub place : place_of e ≡ place_of e'
  code : expr_code e ≡ expr_code e'
  abs : OptionR (AbsR P) (as_abs e) (as_abs e')

-- the names of the Foralls passed
data LettersR (P : Pairing) : Letters → Letters → Type 0 where
  bare : LettersR P [] []
  under : {a a' b b' : TyVar} {ls ls' : Letters} → NameR P a a' → NameR P b b' → LettersR P ls ls'
      → LettersR P ((a, b) ∷ ls) ((a', b') ∷ ls')

module _ {P : Pairing} where
  ty_parts : {A A' : Ty} → TyR P A A' → TyParts P A A'
  unfolding ty_code as_var as_etvar as_arrow as_forall
  ty_parts int_r = record { code = refl; var = none_r; etvar = none_r; arrow = none_r; forall = none_r }
  ty_parts bool_r = record { code = refl; var = none_r; etvar = none_r; arrow = none_r; forall = none_r }
  ty_parts (var_r p) = record { code = refl; var = some_r p; etvar = none_r; arrow = none_r; forall = none_r }
  ty_parts (etvar_r p) = record { code = refl; var = none_r; etvar = some_r p; arrow = none_r; forall = none_r }
  ty_parts (arrow_r p q) = record { code = refl; var = none_r; etvar = none_r; arrow = some_r (p, q); forall = none_r }
  ty_parts (forall_r p q) = record { code = refl; var = none_r; etvar = none_r; arrow = none_r; forall = some_r (p, q) }

  pub expr_parts : {e e' : Expr} → ExprR P e e' → ExprParts P e e'
  unfolding place_of expr_code as_abs
  expr_parts (Related.evar_r x) = record { place = refl; code = refl; abs = none_r }
  expr_parts (Related.app_r e f) = record { place = refl; code = refl; abs = none_r }
  expr_parts (Related.abs_r x t e) = record { place = refl; code = refl; abs = some_r (x, t, e) }
  expr_parts (Related.tapp_r e t) = record { place = refl; code = refl; abs = none_r }
  expr_parts (Related.tabs_r a e) = record { place = refl; code = refl; abs = none_r }
  expr_parts (Related.ann_r e t) = record { place = refl; code = refl; abs = none_r }
  expr_parts Related.lit_int_r = record { place = refl; code = refl; abs = none_r }
  expr_parts Related.lit_bool_r = record { place = refl; code = refl; abs = none_r }
  expr_parts (Related.let_in_r x e f) = record { place = refl; code = refl; abs = none_r }
  expr_parts (Related.if_then_else_r e f g) = record { place = refl; code = refl; abs = none_r }
  expr_parts (Related.bin_op_r e f) = record { place = refl; code = refl; abs = none_r }

  -- ## Strict parameters

  same_var_r : {ls ls' : Letters} {a a' b b' : TyVar} → LettersR P ls ls' → NameR P a a' → NameR P b b' → same_var ls a b ≡ same_var ls' a' b'
  unfolding same_var
  same_var_r bare a b = same_name_r a b
  same_var_r (under c d s) a b =
      let p = same_name_r c a in
      let q = same_name_r d b in
      pick_r ◌≡◌ (ap₂ ◌||◌ p q) (ap₂ ◌&&◌ p q) (same_var_r s a b)

  same_ty_r : {ls ls' : Letters} {A A' B B' : Ty} → LettersR P ls ls' → TyR P A A' → TyR P B B' → same_ty ls A B ≡ same_ty ls' A' B'
  unfolding same_ty
  same_ty_r s int_r q = ap (λ c. eqb c 1) (ty_parts q).code
  same_ty_r s bool_r q = ap (λ c. eqb c 2) (ty_parts q).code
  same_ty_r s (var_r p) q = test_r (ty_parts q).var (λ b b'. same_var_r s p)
  same_ty_r s (etvar_r p) q = test_r (ty_parts q).etvar (λ b b'. same_name_r p)
  same_ty_r s (arrow_r p p') q = test_r (ty_parts q).arrow (λ B B' b. ap₂ ◌&&◌ (same_ty_r s p b.0) (same_ty_r s p' b.1))
  same_ty_r s (forall_r p p') q = test_r (ty_parts q).forall (λ B B' b. same_ty_r (under p b.0 s) p' b.1)

  -- ## inst_l and inst_r

  closes_r : (r : Rule) {Γ Γ' : Ctx} → CtxR P Γ Γ' → RunsAlike P (FiredR P) (closes r Γ) (closes r Γ')
  unfolding closes
  closes_r r c = give_r _ _ (refl, int_r, c, leaf_r)

  -- ## Type errors

  unbound_variable_r : {x x' : TmVar} → VarR P x x' → TypeErrorR P (unbound_variable x) (unbound_variable x')
  unfolding error_code error_at pick
  unbound_variable_r x = record { error = refl; about = InReplies.variables x.numbers; shown = Related.no_type_r }

  application_type_error_r : {A A' : Ty} → TyR P A A' → TypeErrorR P (application_type_error A) (application_type_error A')
  unfolding error_code error_at pick
  application_type_error_r t = record { error = refl; about = InReplies.same; shown = Related.one_type_r t }

  type_application_error_r : {A A' : Ty} → TyR P A A' → TypeErrorR P (type_application_error A) (type_application_error A')
  unfolding error_code error_at pick
  type_application_error_r t = record { error = refl; about = InReplies.same; shown = Related.one_type_r t }

  occurs_check_r : {a a' : TyVar} {A A' : Ty} → NameR P a a' → TyR P A A' → TypeErrorR P (occurs_check a A) (occurs_check a' A')
  unfolding error_code error_at pick
  occurs_check_r a t = record { error = refl; about = InReplies.type_names a.numbers; shown = Related.one_type_r t }

  subtyping_error_r : {A A' B B' : Ty} → TyR P A A' → TyR P B B' → TypeErrorR P (subtyping_error A B) (subtyping_error A' B')
  unfolding error_code error_at pick
  subtyping_error_r s t = record { error = refl; about = InReplies.same; shown = Related.two_types_r s t }

  parameter_mismatch_r : {A A' B B' : Ty} → TyR P A A' → TyR P B B' → TypeErrorR P (parameter_mismatch A B) (parameter_mismatch A' B')
  unfolding error_code error_at pick
  parameter_mismatch_r s t = record { error = refl; about = InReplies.same; shown = Related.two_types_r s t }

  -- in what rules run, and the judgements they ask
  module _ (h : Here) (judge judge' : Judge) (asked : (j j' : Judgement) → JudgementR P j j' → RunsAlike P (ResultR P) (judge j) (judge' j')) where
    new_r : {b b' : Binding} → BindingR P b b' → EntryR P (b from h) (b' from h)
    new_r b = from_r h b

    add_r : {Γ Γ' : Ctx} {b b' : Binding} → CtxR P Γ Γ' → BindingR P b b' → CtxR P (Γ ▹ b from h) (Γ' ▹ b' from h)
    add_r c b = push_r c (new_r b)

    -- of monotypes alone: others draw InstantiationError, which no question does
    solve_r : (s : Side) {Γ Γ' : Ctx} {a a' : TyVar} {A A' : Ty} → CtxR P Γ Γ' → NameR P a a' → TyR P A A' → is_mono A ≡ true
        → RunsAlike P (FiredR P) (solve h s Γ a A) (solve h s Γ' a' A')
    unfolding solve pick
    solve_r s c a t e =
        rw (← is_mono_r t, e)
        (pick_r (RunsAlike P (FiredR P)) (occurs_r a t) (refuse_r (occurs_check_r a t)) (closes_r _ (replace_r a (cons_r (new_r (setvar_bnd_r a t)) nil_r) c)))

    split_r : {a a' b b' d d' : TyVar} {Γ Γ' : Ctx} → NameR P a a' → NameR P b b' → NameR P d d' → CtxR P Γ Γ'
        → CtxR P (split h a b d Γ) (split h a' b' d' Γ')
    unfolding split
    split_r a b d c = replace_r a (cons_r (new_r (setvar_bnd_r a (arrow_r (etvar_r b) (etvar_r d)))) (cons_r (new_r (etvar_bnd_r b)) (cons_r (new_r (etvar_bnd_r d)) nil_r))) c

    -- one judgement, and what the rule gives then
    one_r : {j j' : Judgement} {f f' : Result → Fired} → JudgementR P j j' → ((r r' : Result) → ResultR P r r' → FiredR P (f r) (f' r'))
        → RunsAlike P (FiredR P) (judge j >>= λ r. give (f r)) (judge' j' >>= λ r. give (f' r))
    one_r j k = bind_r (asked _ _ j) (λ r r' w. give_r _ _ (k r r' w))

    -- one judgement, and a second that depends on it
    two_r : {j j' : Judgement} {k k' : Result → Judgement} {f f' : Result → Result → Fired} → JudgementR P j j'
        → ((r r' : Result) → ResultR P r r' → JudgementR P (k r) (k' r'))
        → ((r r' s s' : Result) → ResultR P r r' → ResultR P s s' → FiredR P (f r s) (f' r' s'))
        → RunsAlike P (FiredR P) (judge j >>= λ r. (judge (k r) >>= λ s. give (f r s))) (judge' j' >>= λ r. (judge' (k' r) >>= λ s. give (f' r s)))
    two_r j i k = bind_r (asked _ _ j) (λ r r' w. one_r (i r r' w) (λ s s'. k r r' s s' w))

    inst_forall_r : (s : Side) {Γ Γ' : Ctx} {a a' b b' : TyVar} {A A' : Ty} → CtxR P Γ Γ' → NameR P a a' → NameR P b b' → TyR P A A'
        → RunsAlike P (FiredR P) (inst_forall h judge s Γ a b A) (inst_forall h judge' s Γ' a' b' A')
    unfolding inst_forall
    inst_forall_r on_l c a b t = one_r (inst_r (add_r c (tvar_bnd_r b)) a t) (λ r r' w. (refl, int_r, right_of_r (k_tvar_r b) w.1, and_r w.2 leaf_r))
    inst_forall_r on_r c a b t =
        bind_r (subst_r b (etvar_r b) t) (λ T T' t. one_r (inst_r (add_r (add_r c (etvar_bnd_r b)) (mark_r b)) a t)
        (λ r r' w. (refl, int_r, right_of_r (k_mark_r b) w.1, and_r w.2 leaf_r)))

    inst_rule_r : (s : Side) {Γ Γ' : Ctx} {a a' : TyVar} {A A' : Ty} → CtxR P Γ Γ' → NameR P a a' → TyR P A A'
        → RunsAlike P (FiredR P) (inst_rule h judge s Γ a A) (inst_rule h judge' s Γ' a' A')
    unfolding inst_rule inst_arrow reach is_mono
    inst_rule_r s c a int_r = solve_r s c a int_r refl
    inst_rule_r s c a bool_r = solve_r s c a bool_r refl
    inst_rule_r s c a (var_r p) = solve_r s c a (var_r p) refl
    inst_rule_r s c a (etvar_r p) =
        pick_r (RunsAlike P (FiredR P)) (before_r c a p) (closes_r _ (replace_r p (cons_r (new_r (setvar_bnd_r p (etvar_r a))) nil_r) c)) (solve_r s c a (etvar_r p) refl)
    inst_rule_r s c a (arrow_r p q) =
        bind_r fresh_r (λ b b' β. bind_r fresh_r (λ d d' δ. bind_r (asked _ _ (inst_r (split_r a β δ c) β p)) (λ r r' w. bind_r (apply_r w.1 q) (λ B B' t.
        one_r (inst_r w.1 δ t) (λ s s' v. (refl, int_r, v.1, and_r w.2 (and_r v.2 leaf_r)))))))
    inst_rule_r s c a (forall_r p q) = inst_forall_r s c a p q

    -- ## subtype

    same_base_r : {A A' B B' : Ty} → TyR P A A' → TyR P B B' → same_base A B ≡ same_base A' B'
    unfolding same_base
    same_base_r p q = ap₂ (λ x y. leb x 2 && eqb x y) (ty_parts p).code (ty_parts q).code

    same_r : {o o' q q' : Option TyVar} → OptionR (NameR P) o o' → OptionR (NameR P) q q' → same o q ≡ same o' q'
    unfolding same
    same_r none_r q = refl
    same_r (some_r p) none_r = refl
    same_r (some_r p) (some_r q) = same_name_r p q

    not_in_r : {A A' : Ty} {o o' : Option TyVar} → TyR P A A' → OptionR (NameR P) o o' → OptionR (NameR P) (not_in A o) (not_in A' o')
    unfolding not_in
    not_in_r t none_r = none_r
    not_in_r t (some_r p) = pick_r (OptionR (NameR P)) (occurs_r p t) none_r (some_r p)

    sub_inst_r : (r : Rule) (s : Side) {Γ Γ' : Ctx} {A A' : Ty} → CtxR P Γ Γ' → TyR P A A' → (a a' : TyVar) → NameR P a a'
        → RunsAlike P (FiredR P) (sub_inst h judge r s Γ A a) (sub_inst h judge' r s Γ' A' a')
    unfolding sub_inst
    sub_inst_r r s c t a a' p = one_r (inst_r c p t) (λ r r' w. (refl, int_r, w.1, and_r w.2 leaf_r))

    subtype_rule_r : {Γ Γ' : Ctx} {A A' B B' : Ty} → CtxR P Γ Γ' → TyR P A A' → TyR P B B'
        → RunsAlike P (FiredR P) (subtype_rule h judge Γ A B) (subtype_rule h judge' Γ' A' B')
    unfolding subtype_rule sub_arr sub_all_r sub_all_l
    subtype_rule_r c p q =
        or_else_r (when_r (same_base_r p q) (closes_r _ c))
        (or_else_r (when_r (same_r (ty_parts p).var (ty_parts q).var) (closes_r _ c))
        (or_else_r (when_r (same_r (ty_parts p).etvar (ty_parts q).etvar) (closes_r _ c))
        (or_else_r (on_both_r (ty_parts p).arrow (ty_parts q).arrow (λ A A' B B' a b.
        two_r (subtype_r c b.0 a.0) (λ r r' w. subtype_r w.1 a.1 b.1)
        (λ r r' s s' w v. (refl, int_r, v.1, and_r w.2 (and_r v.2 leaf_r)))))
        (or_else_r (on_arm_r (ty_parts q).forall (λ B B' b. one_r (subtype_r (add_r c (tvar_bnd_r b.0)) p b.1)
        (λ r r' w. (refl, int_r, right_of_r (k_tvar_r b.0) w.1, and_r w.2 leaf_r))))
        (or_else_r (on_arm_r (ty_parts p).forall (λ A A' a. bind_r (subst_r a.0 (etvar_r a.0) a.1) (λ T T' t.
        one_r (subtype_r (add_r (add_r c (etvar_bnd_r a.0)) (mark_r a.0)) t q)
        (λ r r' w. (refl, int_r, right_of_r (k_mark_r a.0) w.1, and_r w.2 leaf_r)))))
        (or_else_r (on_arm_r (not_in_r q (ty_parts p).etvar) (sub_inst_r _ _ c q))
        (or_else_r (on_arm_r (not_in_r p (ty_parts q).etvar) (sub_inst_r _ _ c p))
        (refuse_r (subtyping_error_r p q)))))))))

    -- ## check

    parameter_r : (b : Bool) {Γ Γ' : Ctx} {A A' B B' : Ty} → CtxR P Γ Γ' → TyR P A A' → TyR P B B'
        → RunsAlike P ◌≡◌ (parameter b Γ A B) (parameter b Γ' A' B')
    unfolding parameter
    parameter_r false c p q = give_r _ _ refl
    parameter_r true c p q =
        bind_r (apply_r c q) (λ T T' t. pick_r (RunsAlike P ◌≡◌) (same_ty_r bare p t) (give_r _ _ refl) (refuse_r (parameter_mismatch_r p t)))

    check_rule_r : {Γ Γ' : Ctx} {e e' : Expr} {B B' : Ty} → CtxR P Γ Γ' → ExprR P e e' → TyR P B B'
        → RunsAlike P (FiredR P) (check_rule h judge Γ e B) (check_rule h judge' Γ' e' B')
    unfolding check_rule chk_lam chk_all chk_sub
    check_rule_r c e q =
        or_else_r (when_r (ap₂ (λ x y. eqb x 22 && eqb y 1) (expr_parts e).code (ty_parts q).code) (closes_r _ c))
        (or_else_r (when_r (ap₂ (λ x y. eqb x 23 && eqb y 2) (expr_parts e).code (ty_parts q).code) (closes_r _ c))
        (or_else_r (on_both_r (expr_parts e).abs (ty_parts q).arrow (λ f f' B B' a b. bind_r (parameter_r _ c a.1 b.0) (λ u u' v.
        one_r (check_r (add_r c (var_bnd_r a.0 b.0)) a.2 b.1)
        (λ r r' w. (refl, int_r, right_of_r (k_var_r a.0) w.1, and_r w.2 leaf_r)))))
        (or_else_r (on_arm_r (ty_parts q).forall (λ B B' b. one_r (check_r (add_r c (tvar_bnd_r b.0)) e b.1)
        (λ r r' w. (refl, int_r, right_of_r (k_tvar_r b.0) w.1, and_r w.2 leaf_r))))
        (bind_r (asked _ _ (infer_r c e)) (λ r r' w. bind_r (apply_r w.1 w.0) (λ A A' s. bind_r (apply_r w.1 q) (λ B B' t.
        one_r (subtype_r w.1 s t) (λ s s' v. (refl, int_r, v.1, and_r w.2 (and_r v.2 leaf_r))))))))))

    -- ## infer_app

    infer_app_rule_r : {Γ Γ' : Ctx} {e e' : Expr} {A A' : Ty} → CtxR P Γ Γ' → ExprR P e e' → TyR P A A'
        → RunsAlike P (FiredR P) (infer_app_rule h judge Γ e A) (infer_app_rule h judge' Γ' e' A')
    unfolding infer_app_rule inf_app_arr inf_app_etvar
    infer_app_rule_r c e p =
        or_else_r (on_arm_r (ty_parts p).arrow (λ A A' a. one_r (check_r c e a.0) (λ r r' w. (refl, a.1, w.1, and_r w.2 leaf_r))))
        (or_else_r (on_arm_r (ty_parts p).etvar (λ a a' α. bind_r fresh_r (λ b b' β. bind_r fresh_r (λ d d' δ.
        one_r (check_r (split_r α β δ c) e (etvar_r β)) (λ r r' w. (refl, etvar_r δ, w.1, and_r w.2 leaf_r))))))
        (refuse_r (application_type_error_r p)))

    -- ## infer

    inf_var_r : {x x' : TmVar} {Γ Γ' : Ctx} {o o' : Option Ty} → VarR P x x' → CtxR P Γ Γ' → OptionR (TyR P) o o'
        → RunsAlike P (FiredR P) (inf_var x Γ o) (inf_var x' Γ' o')
    unfolding inf_var
    inf_var_r x c none_r = refuse_r (unbound_variable_r x)
    inf_var_r x c (some_r t) = give_r _ _ (refl, t, c, leaf_r)

    branch_r : (b : Bool) {Γ Γ' : Ctx} {A A' : Ty} → CtxR P Γ Γ' → TyR P A A' → RunsAlike P (TyR P) (branch b Γ A) (branch b Γ' A')
    unfolding branch
    branch_r false c t = give_r _ _ t
    branch_r true c t = apply_r c t

    inf_both_r : (r : Rule) {A A' C C' : Ty} {Γ Γ' : Ctx} {e e' f f' : Expr} → TyR P A A' → TyR P C C' → CtxR P Γ Γ' → ExprR P e e'
        → ExprR P f f'
        → RunsAlike P (FiredR P) (inf_both h judge r A C Γ e f) (inf_both h judge' r A' C' Γ' e' f')
    unfolding inf_both
    inf_both_r r a t c e f =
        two_r (check_r c e a) (λ r r' w. check_r w.1 f a) (λ r r' s s' w v. (refl, t, v.1, and_r w.2 (and_r v.2 leaf_r)))

    inf_binop_r : (o : ℕ) {Γ Γ' : Ctx} {e e' f f' : Expr} → CtxR P Γ Γ' → ExprR P e e' → ExprR P f f'
        → RunsAlike P (FiredR P) (inf_binop h judge Γ o e f) (inf_binop h judge' Γ' o e' f')
    unfolding inf_binop inf_eq
    inf_binop_r o c e f =
        or_else_r (when_r refl (inf_both_r _ int_r int_r c e f))
        (or_else_r (when_r refl (inf_both_r _ bool_r bool_r c e f))
        (or_else_r (when_r refl (two_r (infer_r c e) (λ r r' w. check_r w.1 f w.0)
        (λ r r' s s' w v. (refl, bool_r, v.1, and_r w.2 (and_r v.2 leaf_r)))))
        (inf_both_r _ int_r bool_r c e f)))

    instantiate_r : {A A' B B' : Ty} → TyR P B B' → TyR P A A' → RunsAlike P (TyR P) (instantiate B A) (instantiate B' A')
    unfolding instantiate
    instantiate_r b p = or_else_r (on_arm_r (ty_parts p).forall (λ A A' a. subst_r a.0 b a.1)) (refuse_r (type_application_error_r p))

    infer_rule_r : {Γ Γ' : Ctx} {e e' : Expr} → CtxR P Γ Γ' → ExprR P e e'
        → RunsAlike P (FiredR P) (infer_rule h judge Γ e) (infer_rule h judge' Γ' e')
    unfolding infer_rule inf_lam inf_app inf_let inf_if inf_ann inf_tabs inf_tapp
    infer_rule_r c (Related.evar_r x) = inf_var_r x c (find_r (k_var_r x) c)
    infer_rule_r c (Related.ann_r e t) = one_r (check_r c e t) (λ r r' w. (refl, t, w.1, and_r w.2 leaf_r))
    infer_rule_r c Related.lit_int_r = give_r _ _ (refl, int_r, c, leaf_r)
    infer_rule_r c Related.lit_bool_r = give_r _ _ (refl, bool_r, c, leaf_r)
    infer_rule_r c (Related.abs_r x t e) =
        bind_r fresh_r (λ b b' β. one_r (check_r (add_r (add_r c (var_bnd_r x t)) (etvar_bnd_r β)) e (etvar_r β))
        (λ r r' w. (refl, arrow_r t (etvar_r β), solved_and_right_r (k_var_r x) w.1, and_r w.2 leaf_r)))
    infer_rule_r c (Related.app_r e f) =
        bind_r (asked _ _ (infer_r c e)) (λ r r' w. bind_r (apply_r w.1 w.0) (λ A A' t.
        one_r (infer_app_r w.1 f t) (λ s s' v. (refl, v.0, v.1, and_r w.2 (and_r v.2 leaf_r)))))
    infer_rule_r c (Related.tabs_r a e) =
        bind_r (asked _ _ (infer_r (add_r c (tvar_bnd_r a)) e)) (λ r r' w. bind_r (apply_r w.1 w.0) (λ A A' t.
        give_r _ _ (refl, forall_r a t, solved_and_right_r (k_tvar_r a) w.1, and_r w.2 leaf_r)))
    infer_rule_r c (Related.tapp_r e t) =
        bind_r (asked _ _ (infer_r c e)) (λ r r' w. bind_r (instantiate_r t w.0) (λ A A' s. give_r _ _ (refl, s, w.1, and_r w.2 leaf_r)))
    infer_rule_r c (Related.let_in_r x e f) =
        two_r (infer_r c e) (λ r r' w. infer_r (add_r w.1 (var_bnd_r x w.0)) f)
        (λ r r' s s' w v. (refl, v.0, solved_and_right_r (k_var_r x) v.1, and_r w.2 (and_r v.2 leaf_r)))
    infer_rule_r c (Related.if_then_else_r e f g) =
        bind_r (asked _ _ (check_r c e bool_r)) (λ r r' w₁. bind_r (asked _ _ (infer_r w₁.1 f)) (λ r r' w₂. bind_r (asked _ _ (infer_r w₂.1 g)) (λ r r' w₃.
        bind_r (branch_r _ w₃.1 w₂.0) (λ A A' s. bind_r (branch_r _ w₃.1 w₃.0) (λ B B' t. one_r (subtype_r w₃.1 s t)
        (λ r r' w₄. (refl, w₂.0, w₄.1, and_r w₁.2 (and_r w₂.2 (and_r w₃.2 (and_r w₄.2 leaf_r))))))))))
    infer_rule_r c (Related.bin_op_r e f) = inf_binop_r _ c e f

    -- ## Every rule

    rule_r : {j j' : Judgement} → JudgementR P j j' → RunsAlike P (FiredR P) (rule h judge j) (rule h judge' j')
    unfolding rule
    rule_r (infer_r c e) = infer_rule_r c e
    rule_r (check_r c e t) = check_rule_r c e t
    rule_r (infer_app_r c e t) = infer_app_rule_r c e t
    rule_r (subtype_r c p q) = subtype_rule_r c p q
    rule_r (inst_r c a t) = inst_rule_r _ c a t

  given_r : {j j' : Judgement} → JudgementR P j j' → CtxR P (given j) (given j')
  unfolding given
  given_r (infer_r c e) = c
  given_r (check_r c e t) = c
  given_r (infer_app_r c e t) = c
  given_r (subtype_r c p q) = c
  given_r (inst_r c a t) = c

  judge_step_r : (judge judge' : Here → Judge) → ((h : Here) (j j' : Judgement) → JudgementR P j j' → RunsAlike P (ResultR P) (judge h j) (judge' h j'))
      → (h : Here) {j j' : Judgement} → JudgementR P j j' → RunsAlike P (ResultR P) (judge_step rule judge h j) (judge_step rule judge' h j')
  unfolding judge_step
  judge_step_r judge judge' asked h p =
      bind_r (charge_r (ap (λ n. 1 + n) (length_r (given_r p)))) (λ u u' v. bind_r (rule_r h (judge h) (judge' h) (asked h) p) (λ r r' w. bind_r (charge_r (length_r w.2))
      (λ u u' v. give_r _ _ (w.1, w.2, rw w.0 (node_r p w.1 w.2 w.3)))))

  judge_to_r : (d : ℕ) (h : Here) (j j' : Judgement) → JudgementR P j j' → RunsAlike P (ResultR P) (judge_to rule d h j) (judge_to rule d h j')
  unfolding judge_to
  judge_to_r zero h j j' p = halt_r
  judge_to_r (suc d) h j j' p = judge_step_r _ _ (λ g i i' q. record { at = λ l n. (judge_to_r d g i i' q).at l n }) h p

  pub judge_r : (h : Here) {j j' : Judgement} → JudgementR P j j' → RunsAlike P (ResultR P) (judge h j) (judge h j')
  unfolding judge_by
  judge_r h p = record { at = λ l n. (judge_to_r l h _ _ p).at l n }
