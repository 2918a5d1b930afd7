-- The rules of infer_app that ask a judgement: InfAppArr, InfAppETVar.
use mathlib.Core.Path.{◌≡◌, refl, sym}
use mathlib.Core.List.{List}
use Prim.Native.Nat.{ℕ, suc, ◌+◌}
use native.Mathlib.Omega.{arith}
use Rattle.std.specs.Prelude.{Ok}
use Rattle.definition.specs.Syntax
use Rattle.definition.specs.Syntax.{etvar, arrow, Judgement, check, leaf, ◌&◌, rule_number, children}
use Rattle.definition.specs.Run.{◌>>=◌, and_then, give, fresh}
use Rattle.definition.specs.Rules.{judge, on, as_arrow, as_etvar, split, inf_app_arr, inf_app_etvar, infer_app_rule, ◌or_else◌}
use Rattle.layout.specs.Names.{ty}
use Rattle.layout.specs.Denotes.{Den}
use Rattle.layout.specs.declared.Span.{Span}
use Rattle.layout.specs.declared.State.{State}
use Rattle.layout.specs.declared.TyVar as tyvar
use Rattle.types.specs.Reading.{HeldAs, HeldNamed, Named, LeftOf, RightOf}
use Rattle.types.proofs.Held.{room_held, held_as}
use Rattle.judging.specs.declared.Answer.{Answer}
use Rattle.judging.specs.declared.Here.{Here}
use Rattle.judging.specs.Asking.{here, check_ask, app_ask}
use Rattle.judging.specs.Ending.{Step, Judged, Fires}
use Rattle.judging.proofs.Asking.{app_asked}
use Rattle.rules.specs.declared.Parted.{Parted}
use Rattle.layout.specs.States.{fresh_name}
use Rattle.rules.specs.Parting.{Parts}
use Rattle.rules.proofs.TypeForms.{IsArrow, is_arrow, IsETVar, is_etvar}
use Rattle.rules.proofs.Standing.{unknown_named}
use Rattle.rules.specs.Taking.{AppPre}
use Rattle.rules.specs.Going.{PlainOut}
use Rattle.rules.proofs.Ways.{Way, went, finish}
use Rattle.inference.proofs.Starting.{outcome, begin_app}
use Rattle.inference.proofs.Premise.{At, Starts, Premise, ask_check, returns}

-- ## InfAppArr

module _ (m : Here) {q w : List ℕ} {s : State} {g : Span} {r ex : ℕ} (pre : AppPre q w s g r ex 5) where
  pub arr : {j : Judgement} (k : At pre.rule j) → IsArrow (app_asked r ex k).T
  arr k = let v = app_asked r ex k in is_arrow v.T (sym (pre.tag.is v.T v.den))

  arr_den : {j : Judgement} (k : At pre.rule j) → Den q w s.top r (arrow (arr k).A (arr k).B)
  arr_den k = rw (arr k).is at (app_asked r ex k).den

  pub arr_held : HeldAs q w s.top r 5
  arr_held = held_as (room_held pre.rule.room (app_asked r ex pre.rule.asks).den) pre.tag 5 refl

  pub arr_way : {j : Judgement} (k : At pre.rule j)
      → Starts m q w s g j
      (judge (here m) (check (app_asked r ex k).Γ (app_asked r ex k).e (arr k).A) >>= λ u. give (Syntax.InfAppArr, (arr k).B, u.1, u.2 & leaf))
  unfolding infer_app_rule on as_arrow ◌or_else◌ inf_app_arr
  arr_way k = begin_app m pre.rule (app_asked r ex k).is (arr k).is refl

  module _ {a c : ℕ} (lf : LeftOf q w s.top r a) (rt : RightOf q w s.top r c) where
    pub arr_asks : Premise m pre.rule _ _ (λ j k. arr_way k) g (check_ask ex a)
    arr_asks = record { at = λ j k. let v = app_asked r ex k in ask_check v.run v.at (lf.is _ _ (arr_den k)).den }

    module _ {w₁ : List ℕ} {z : Step} (call : Judged m q w w₁ s g (check_ask ex a) z) where
      pub arr_done : {t : Answer} {y : Step} → z ≡ Ok t
          → PlainOut t.st t.g c 15 1 y → Fires m q w w₁ s g (app_ask r ex) y
      unfolding rule_number children
      arr_done d fin = record {
        run = λ j k.
            let b = returns arr_asks call d k in
            finish Syntax.InfAppArr (fin.finished q w₁) b.run (b.stays (rt.is _ _ (arr_den k)).den) b.way (omega arith) refl refl (omega arith);
      }

-- ## InfAppETVar

module _ (m : Here) {q w : List ℕ} {s : State} {g : Span} {r ex : ℕ} (pre : AppPre q w s g r ex 4) where
  pub unknown : {j : Judgement} (k : At pre.rule j) → IsETVar (app_asked r ex k).T
  unknown k = let v = app_asked r ex k in is_etvar v.T (sym (pre.tag.is v.T v.den))

  unknown_den : {j : Judgement} (k : At pre.rule j) → Den q w s.top r (etvar (unknown k).a)
  unknown_den k = rw (unknown k).is at (app_asked r ex k).den

  pub etvar_held : HeldNamed q w s.top r
  etvar_held = unknown_named pre.rule.room (unknown_den pre.rule.asks)

  module _ {a : tyvar.TyVar} (n : Named q w s.top r a) {w₁ : List ℕ} {o : Parted} (i : Parts m q w w₁ s g a o) where
    etvar_name : {j : Judgement} (k : At pre.rule j) → ty a ≡ (unknown k).a
    etvar_name k = n.of_etvar (unknown k).a (unknown_den k)

    pub etvar_way : {j : Judgement} (k : At pre.rule j)
        → Way q w w₁ s o.st leaf 0 (outcome m s j)
        (judge (here m) (check (split (here m) (unknown k).a (fresh_name s.fresh) (fresh_name (suc s.fresh)) (app_asked r ex k).Γ) (app_asked r ex k).e (etvar (fresh_name s.fresh)))
        >>= λ u. give (Syntax.InfAppETVar, etvar (fresh_name (suc s.fresh)), u.1, u.2 & leaf))
    unfolding infer_app_rule on as_arrow as_etvar ◌or_else◌ inf_app_etvar fresh ◌>>=◌ and_then
    etvar_way k =
        let l = i.left in
        let f = i.fresh in
        let w : s.fresh + 2 ≡ suc (suc s.fresh) = omega arith in
        went (begin_app m pre.rule (app_asked r ex k).is (unknown k).is refl) o.st 0 i.keep i.up i.low i.left (omega (arith, i.built))
        (omega (arith, pre.rule.names)) (rw (l, f) refl)

    pub etvar_asks : Premise m pre.rule _ _ (λ j k. etvar_way k) o.g (check_ask ex o.b)
    etvar_asks = record { at = λ j k. let v = app_asked r ex k in ask_check (rw (etvar_name k) at (i.run v.Γ v.run)) v.at i.first }

    module _ {w₂ : List ℕ} {z : Step} (call : Judged m q w₁ w₂ o.st o.g (check_ask ex o.b) z) where
      pub etvar_done : {t : Answer} {y : Step} → z ≡ Ok t
          → PlainOut t.st t.g o.c 16 1 y → Fires m q w w₂ s g (app_ask r ex) y
      unfolding rule_number children
      etvar_done d fin = record {
        run = λ j k.
            let b = returns etvar_asks call d k in
            finish Syntax.InfAppETVar (fin.finished q w₂) b.run (b.stays i.second) b.way (omega arith) refl refl (omega arith);
      }
