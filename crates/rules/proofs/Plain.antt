-- The rules without recursive calls.
use mathlib.Core.Path.{◌≡◌, refl, sym, ◌∙◌}
use mathlib.Core.List.{List}
use Prim.Native.Nat.{ℕ}
use native.Mathlib.Omega.{arith}
use Rattle.std.specs.Prelude.{Some, None, Err}
use Rattle.definition.specs.Syntax
use Rattle.definition.specs.Syntax.{Ty, int, bool, lit_int, lit_bool, Ctx, Judgement, Rule, rule_number, leaf, children, TypeError, unbound_variable, application_type_error}
use Rattle.definition.specs.Run.{done, fail, give, refuse}
use Rattle.definition.specs.Contexts.{k_var}
use Rattle.definition.specs.Rules.{closes, inf_var, infer_rule, check_rule, ty_code, rule, judge}
use Rattle.definition.specs.Reply.{error_code, error_at}
use Rattle.layout.specs.Sizes.{INT, BOOL}
use Rattle.layout.specs.Names.{tm}
use Rattle.layout.specs.Denotes.{Den, Run}
use Rattle.layout.specs.declared.Span.{Span}
use Rattle.layout.specs.declared.State.{State}
use Rattle.layout.specs.declared.TmVar.{TmVar}
use Rattle.layout.proofs.Denotes.{int_den, bool_den}
use Rattle.types.proofs.Codes.{base_case}
use Rattle.expressions.specs.Forms.{VarOf}
use Rattle.expressions.proofs.Forms.{IsLitInt, IsLitBool, told}
use Rattle.contexts.specs.Search.{Looked, absent, holds}
use Rattle.judging.specs.declared.Ask.{Ask}
use Rattle.judging.specs.declared.Bad.{Bad}
use Rattle.judging.specs.declared.Here.{Here}
use Rattle.judging.specs.declared.Shown.TheVariants.{NoType, OneType}
use Rattle.judging.specs.declared.Rule as program
use Rattle.judging.specs.declared.Rule.TheVariants as rules
use Rattle.judging.specs.declared.Stop.TheVariants.{Fail}
use Rattle.judging.specs.declared.TypeError.TheVariants as error
use Rattle.judging.specs.Names.{rule_of, error_of}
use Rattle.judging.specs.Asking.{here, Asks, infer_ask, check_ask, app_ask, RulePre}
use Rattle.judging.specs.Ending.{Step, Failed, shown_none, shown_one, Fires}
use Rattle.judging.proofs.Asking.{infer_asked, check_asked, app_asked}
use Rattle.judging.proofs.Chain.{room_within, begin, refuses}
use Rattle.rules.specs.Going.{PlainOut}
use Rattle.rules.specs.Taking.{InferPre, Choice, OfLiteral, lit_int_lem, lit_bool_lem, lam, all, sub, CheckPre, RefusePre}
use Rattle.rules.proofs.Ways.{start, finish}
use Rattle.rules.proofs.Standing.{infer_shaped, check_shaped}
use Rattle.rules.proofs.Choices.{infers, checks, applies, chk_int, chk_bool, no_app}

-- ## An answer, or an error, that leaves all as it is

-- the rule's outcome is an answer with the context as it is
record Plainly (m : Here) (q w : List ℕ) (s : State) (g : Span) (ty : ℕ) (r : Rule) (j : Judgement) : Type 0 where
  C : Ty
  Γ : Ctx
  run : Run q w s.top g.at g.n Γ
  den : Den q w s.top ty C
  is : rule (here m) (judge (here m)) j s.left s.fresh ≡ done (r, C, Γ, leaf) s.left s.fresh

-- or an error
record Plainly-not (m : Here) (q w : List ℕ) (s : State) (b : Bad) (j : Judgement) : Type 0 where
  e : TypeError
  failed : Failed q w b e s.left
  is : rule (here m) (judge (here m)) j s.left s.fresh ≡ fail e s.left

module _ {m : Here} {q w : List ℕ} {s : State} {g : Span} {a : Ask} (pre : RulePre q w s g a) where
  answers : (ty : ℕ) (r : Rule) {n : ℕ} {z : Step} → n ≡ rule_number r → PlainOut s g ty n 0 z → ((j : Judgement) → Asks q w s.top g a j → Plainly m q w s g ty r j)
      → Fires m q w w s g a z
  unfolding children give
  answers ty r i out f = record {
    run = λ j k. let y = f j k in finish _ (out.finished q w) y.run y.den (start pre.room y.is) (omega arith) i refl (omega arith);
  }

  errors : {b : Bad} → ((j : Judgement) → Asks q w s.top g a j → Plainly-not m q w s b j) → Fires m q w w s g a (Err (Fail b))
  errors f = record { run = λ j k. let y = f j k in refuses begin y.failed _ y.is }

is_int : (T : Ty) → ty_code T ≡ 1 → T ≡ int
unfolding ty_code
is_int T e = base_case (λ T. ty_code T ≡ 1 → T ≡ int) T (omega arith) (λ e. refl) (λ e. absurd (omega arith)) e

is_bool : (T : Ty) → ty_code T ≡ 2 → T ≡ bool
unfolding ty_code
is_bool T e = base_case (λ T. ty_code T ≡ 2 → T ≡ bool) T (omega arith) (λ e. absurd (omega arith)) (λ e. refl) e

module _ {m : Here} {q w : List ℕ} {s : State} {g : Span} {ex : ℕ} where
  -- ## Literals

  pub lit_int_done : {z : Step} → InferPre q w s g ex 22 → PlainOut s g INT 2 0 z → Fires m q w w s g (infer_ask ex) z
  unfolding rule_number infer_rule give
  lit_int_done pre out =
      answers pre.rule INT Syntax.InfLitInt refl out
      (λ j k.
      let v = infer_asked ex k in
      let f : IsLitInt ex v.e = told (infer_shaped pre) v.at in
      record { C = int; Γ = v.Γ; run = v.run; den = int_den pre.rule.room.base; is = infers (here m) _ _ v.is f.is refl })

  pub lit_bool_done : {z : Step} → InferPre q w s g ex 23 → PlainOut s g BOOL 3 0 z → Fires m q w w s g (infer_ask ex) z
  unfolding rule_number infer_rule give
  lit_bool_done pre out =
      answers pre.rule BOOL Syntax.InfLitBool refl out
      (λ j k.
      let v = infer_asked ex k in
      let f : IsLitBool ex v.e = told (infer_shaped pre) v.at in
      record { C = bool; Γ = v.Γ; run = v.run; den = bool_den pre.rule.room.base; is = infers (here m) _ _ v.is f.is refl })

  pub check_lit_done : {ty n : ℕ} {r : program.Rule} {z : Step} → CheckPre q w s g ex ty r → OfLiteral r → n ≡ rule_number (rule_of r) → PlainOut s g INT n 0 z
      → Fires m q w w s g (check_ask ex ty) z
  unfolding closes give
  check_lit_done {ty} {n} {r} {z} pre h named out = go pre.choice
    where
      go : Choice pre.k pre.c r → Fires m q w w s g (check_ask ex ty) z
      go (lit_int_lem i e t) =
          answers pre.rule INT Syntax.ChkLitInt (rw i at named) out
          (λ j k.
          let v = check_asked ex ty k in
          let f : IsLitInt ex v.e = told (check_shaped pre e) v.at in
          let b : v.T ≡ int = is_int v.T (sym (pre.tag.is v.T v.den) ∙ t) in
          let c : check_rule (here m) (judge (here m)) v.Γ (lit_int ex f.l f.h) int ≡ closes Syntax.ChkLitInt v.Γ = chk_int _ _ _ ex f.l f.h in
          record { C = int; Γ = v.Γ; run = v.run; den = int_den pre.rule.room.base; is = checks (here m) _ _ v.is f.is b (rw c refl) })
      go (lit_bool_lem i e t) =
          answers pre.rule INT Syntax.ChkLitBool (rw i at named) out
          (λ j k.
          let v = check_asked ex ty k in
          let f : IsLitBool ex v.e = told (check_shaped pre e) v.at in
          let b : v.T ≡ bool = is_bool v.T (sym (pre.tag.is v.T v.den) ∙ t) in
          let c : check_rule (here m) (judge (here m)) v.Γ (lit_bool ex f.b) bool ≡ closes Syntax.ChkLitBool v.Γ = chk_bool _ _ _ ex f.b in
          record { C = int; Γ = v.Γ; run = v.run; den = int_den pre.rule.room.base; is = checks (here m) _ _ v.is f.is b (rw c refl) })
      go (lam i e t) = let x : OfLiteral rules.ChkLam = rw i at h in elim x [ ]
      go (all i t) = let x : OfLiteral rules.ChkAll = rw i at h in elim x [ ]
      go (sub i a b c d) = let x : OfLiteral rules.ChkSub = rw i at h in elim x [ ]

  -- ## What is applied is no function

  pub app_refused : {ty : ℕ} → RefusePre q w s g ty ex → Fires m q w w s g (app_ask ty ex) (Err (Fail (record { st = s; code = error_code (error_of error.ApplicationTypeError); name = 0; shown = OneType ty; charge = 0 })))
  unfolding error_at refuse
  app_refused {ty} pre =
      errors pre.app.rule
      (λ j k.
      let v = app_asked ty ex k in
      let c = pre.app.tag.is v.T v.den in
      let n = no_app (here m) (judge (here m)) v.Γ v.e v.T (λ e. pre.no_arrow (c ∙ e)) (λ e. pre.no_etvar (c ∙ e)) in
      record {
        e = application_type_error v.T;
        failed = record { base = pre.app.rule.room.base; within = room_within pre.app.rule.room; code = refl; name = refl; shown = shown_one v.den; left = refl };
        is = applies (here m) _ _ v.is refl (rw n refl);
      })

-- ## A variable

module _ {m : Here} {q w : List ℕ} {s : State} {g : Span} {ex : ℕ} (pre : InferPre q w s g ex 16) {x : TmVar} (named : VarOf q ex x) where
  pub var_refused : Looked w g (k_var (tm x)) None → Fires m q w w s g (infer_ask ex) (Err (Fail (record { st = s; code = error_code (error_of error.UnboundVariable); name = x.0; shown = NoType; charge = 0 })))
  unfolding error_at infer_rule inf_var refuse
  var_refused (absent f) =
      errors pre.rule
      (λ j k.
      let v = infer_asked ex k in
      record {
        e = unbound_variable (tm x);
        failed = record { base = pre.rule.room.base; within = room_within pre.rule.room; code = refl; name = refl; shown = shown_none; left = refl };
        is = infers (here m) _ _ v.is (named.is v.at) (rw (f.missing refl v.run).find_is refl);
      })

  pub var_done : {ty : ℕ} {z : Step} → Looked w g (k_var (tm x)) (Some ty) → PlainOut s g ty 1 0 z → Fires m q w w s g (infer_ask ex) z
  unfolding rule_number infer_rule inf_var give
  var_done {ty} (holds n f l) out =
      answers pre.rule ty Syntax.InfVar refl out
      (λ j k.
      let v = infer_asked ex k in
      let o = f.found n v.run in
      record { C = o.ty; Γ = v.Γ; run = v.run; den = o.den; is = infers (here m) _ _ v.is (named.is v.at) (rw o.find_is refl) })
