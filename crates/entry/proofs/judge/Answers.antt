-- `judge` meets its contract: each kind by its judgement.
use mathlib.Core.Path.{refl, sym, ap}
use native.Mathlib.Omega.{arith}
use Rattle.definition.specs.Syntax.{on_l, on_r}
use Rattle.layout.specs.Kinds.{kind_number}
use Rattle.judging.proofs.Asking.{small_infer, small_check, small_app, small_sub, small_inst}
use Rattle.entry.proofs.Asking.{asks_1, asks_2, asks_3, asks_4, asks_5, asks_6, asks_7, kind_pre, kind_answers, resolve_pre, kind7_answers}
use Rattle.entry.proofs.judge.Goals as goal

pub infer-requires : goal.infer-requires
infer-requires c = kind_pre (search) 1 (ap kind_number c.in-Infer.is) (asks_1 c.requires.run) (λ p. small_infer _ p.0)

pub check-requires : goal.check-requires
check-requires c = kind_pre (search) 2 (ap kind_number c.in-Check.is) (asks_2 c.requires.run) (λ p. small_check _ _ p.0 (omega (arith, p.2)))

pub infer_app-requires : goal.infer_app-requires
infer_app-requires c = kind_pre (search) 3 (ap kind_number c.in-InferApp.is) (asks_3 c.requires.run) (λ p. small_app _ _ (omega (arith, p.1)) p.0)

pub subtype-requires : goal.subtype-requires
subtype-requires c = kind_pre (search) 4 (ap kind_number c.in-Subtype.is) (asks_4 c.requires.run) (λ p. small_sub (omega (arith, p.1)) (omega (arith, p.2)))

pub inst_l-requires : goal.inst_l-requires
inst_l-requires c = kind_pre (search) 5 (ap kind_number c.in-InstL.is) (asks_5 c.requires.run) (λ p. small_inst on_l (omega (arith, p.1)) (omega (arith, p.2)))

pub inst_r-requires : goal.inst_r-requires
inst_r-requires c = kind_pre (search) 6 (ap kind_number c.in-InstR.is) (asks_6 c.requires.run) (λ p. small_inst on_r (omega (arith, p.2)) (omega (arith, p.1)))

pub infer-z-requires : goal.infer-z-requires
infer-z-requires c = kind_pre (search) 7 (ap kind_number c.in-Resolve.is) (asks_7 c.requires.run) (λ p. small_infer _ p.0)

pub resolve-requires : goal.resolve-requires
resolve-requires c =
    resolve_pre c.requires 7 (ap kind_number c.in-Resolve.is) (asks_7 c.requires.run) c.outside-h.ensures c.infer-z.ensures

pub returns-in-Infer : goal.returns-in-Infer
returns-in-Infer c = kind_answers c.requires 1 (ap kind_number c.in-Infer.is) (asks_1 c.requires.run) c.outside-h.ensures c.infer.ensures refl

pub returns-in-Check : goal.returns-in-Check
returns-in-Check c = kind_answers c.requires 2 (ap kind_number c.in-Check.is) (asks_2 c.requires.run) c.outside-h.ensures c.check.ensures refl

pub returns-in-InferApp : goal.returns-in-InferApp
returns-in-InferApp c = kind_answers c.requires 3 (ap kind_number c.in-InferApp.is) (asks_3 c.requires.run) c.outside-h.ensures c.infer_app.ensures refl

pub returns-in-Subtype : goal.returns-in-Subtype
returns-in-Subtype c = kind_answers c.requires 4 (ap kind_number c.in-Subtype.is) (asks_4 c.requires.run) c.outside-h.ensures c.subtype.ensures refl

pub returns-in-InstL : goal.returns-in-InstL
returns-in-InstL c = kind_answers c.requires 5 (ap kind_number c.in-InstL.is) (asks_5 c.requires.run) c.outside-h.ensures c.inst_l.ensures refl

pub returns-in-InstR : goal.returns-in-InstR
returns-in-InstR c = kind_answers c.requires 6 (ap kind_number c.in-InstR.is) (asks_6 c.requires.run) c.outside-h.ensures c.inst_r.ensures refl

pub returns-in-Resolve : goal.returns-in-Resolve
returns-in-Resolve c =
    kind7_answers c.requires 7 (ap kind_number c.in-Resolve.is) (asks_7 c.requires.run) c.outside-h.ensures c.infer-z.ensures refl (sym
    c.resolve.auto.work) c.resolve.ensures
