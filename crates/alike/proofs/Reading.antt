-- The reading carries likeness: two questions whose words are alike are both read, with the same kind and mode, and ask judgements that
-- are alike.
use mathlib.Core.Path.{◌≡◌, refl}
use Prim.Native.Nat.{ℕ, zero, suc, ◌≤◌}
use native.Mathlib.Omega.{arith}
use mathlib.Core.Bool.{◌&&◌}
use mathlib.Core.List.{List, [], ◌∷◌, ◌++◌}
use lib.ListN.{length, length-append}
use lib.Dec.{T, leb}
use Rattle.laws.proofs.Steps.{is_true}
use Rattle.laws.proofs.Depth.{read_ctx_none}
use Rattle.definition.specs.Syntax.{pick, Ty, Expr}
use Rattle.definition.specs.Question.{Reader, next, ◌>>=◌, give, bad_shape, word, within, written, row, one_of, ty_rows, read_ty, type, expr_rows, read_expr, expression, binding, entry, unless_end, read_ctx, context, counted, unknown, Question, kind_rows, question, read_question}
use Rattle.alike.specs.Alike
use Rattle.alike.specs.Alike.{Pairing, Label, the, section, IsTy, IsExpr, IsEntry, IsCtx, IsQuestion, ReplyName, InQuestions, Each, none, more, AlikeQuestions}
use Rattle.alike.proofs.Related
use Rattle.alike.proofs.Related.{NameR, TyR, BindingR, EntryR, CtxR, nil_r, cons_r, ExprR, JudgementR}
use Rattle.alike.proofs.Words.{length_l, length_r, InTwo, parts, split_e}
use Rattle.alike.proofs.Readers.{GotR, got_r, ReadsAlike, Fills, give_r, code_r, next_r, bind_r, last_r, end_fills, variable_r, type_name_r, half_r, truth_r, within_r, empty_r, type_name_takes, mode_takes, fills, counted_r}

-- two questions with the same kind and mode, on judgements that are alike
pub record QuestionR (P : Pairing) (q q' : Question) : Type 0 where
  pub kinds : q.kind ≡ q'.kind
  pub manners : q.manner ≡ q'.manner
  pub judgements : JudgementR P q.asks q'.asks

-- ## Depths that the words allow: both readers' depths, and labels

record Deep (d d' : ℕ) (s : List Label) : Type 0 where
  left : length s ≤ d
  right : length s ≤ d'

module _ {d d' : ℕ} {s : List Label} where
  deeper : {k : Label} → Deep (suc d) (suc d') (k ∷ s) → Deep d d' s
  deeper h = record { left = omega arith; right = omega arith }

  past : {k : Label} → Deep d d' (k ∷ s) → Deep d d' s
  past h = record { left = omega arith; right = omega arith }

  first : (t : List Label) → Deep d d' (s ++ t) → Deep d d' s
  first t h = record { left = omega (arith, length-append s t); right = omega (arith, length-append s t) }

  second : (t : List Label) → Deep d d' (t ++ s) → Deep d d' s
  second t h = record { left = omega (arith, length-append t s); right = omega (arith, length-append t s) }

-- an item begins with its code, so it has some depth
data StartsAlike : List Label → Type 0 where
  starts : {n : ℕ} {s : List Label} → StartsAlike (the n ∷ s)

no_depth : {A : Type 0} {d' : ℕ} {s : List Label} → StartsAlike s → Deep 0 d' s → A
no_depth starts h = absurd (omega arith)

no_depth' : {A : Type 0} {d : ℕ} {s : List Label} → StartsAlike s → Deep d 0 s → A
no_depth' starts h = absurd (omega arith)

ty_starts : {s : List Label} → IsTy s → StartsAlike s
ty_starts IsTy.int = starts
ty_starts IsTy.bool = starts
ty_starts IsTy.var = starts
ty_starts IsTy.etvar = starts
ty_starts (IsTy.arrow A B) = starts
ty_starts (IsTy.forall A) = starts

expr_starts : {s : List Label} → IsExpr s → StartsAlike s
expr_starts IsExpr.evar = starts
expr_starts (IsExpr.app e f) = starts
expr_starts (IsExpr.abs A e) = starts
expr_starts (IsExpr.tapp e A) = starts
expr_starts (IsExpr.tabs e) = starts
expr_starts (IsExpr.ann e A) = starts
expr_starts IsExpr.lit_int = starts
expr_starts IsExpr.lit_bool = starts
expr_starts (IsExpr.let_in e f) = starts
expr_starts (IsExpr.if_then_else e f g) = starts
expr_starts (IsExpr.bin_op low high e f) = starts

entry_starts : {s : List Label} → IsEntry s → StartsAlike s
entry_starts (IsEntry.var_bnd A) = starts
entry_starts IsEntry.tvar_bnd = starts
entry_starts IsEntry.etvar_bnd = starts
entry_starts (IsEntry.setvar_bnd A) = starts
entry_starts IsEntry.mark = starts

-- before other words
ample : {R : Label → ℕ → ℕ → Type 0} {s : List Label} {u u' : List ℕ} (r r' : List ℕ) → Each R s u u'
    → Deep (length (u ++ r)) (length (u' ++ r')) s
ample {u = u} {u' = u'} r r' e =
    record { left = omega (arith, length-append u r, length_l e); right = omega (arith, length-append u' r', length_r e) }

-- before none
exact : {R : Label → ℕ → ℕ → Type 0} {s : List Label} {u u' : List ℕ} → Each R s u u' → Deep (length u) (length u') s
exact e = record { left = omega (arith, length_l e); right = omega (arith, length_r e) }

after : {d d' : ℕ} {s t : List Label} → StartsAlike s → Deep (suc d) (suc d') (s ++ t) → Deep d d' t
after (starts {s = s}) k = second s (deeper k)

-- ## Two readers to a depth, as they go from one depth to the next

module _ {P : Pairing} {A : Type 0} {W : A → A → Type 0} (Is : List Label → Type 0) (R : ℕ → Reader A) (begins : (s : List Label) → Is s → StartsAlike s)
    (step : (d d' : ℕ) → ((s : List Label) → Is s → Deep d d' s → ReadsAlike P W (R d) (R d') s)
    → (s : List Label) → Is s → Deep (suc d) (suc d') s → ReadsAlike P W (R (suc d)) (R (suc d')) s) where
  deep_r : (d d' : ℕ) (s : List Label) → Is s → Deep d d' s → ReadsAlike P W (R d) (R d') s
  deep_r zero d' s t k = no_depth (begins s t) k
  deep_r (suc d) zero s t k = no_depth' (begins s t) k
  deep_r (suc d) (suc d') s t k = step d d' (λ v i j. deep_r d d' v i j) s t k

  -- each at the depth of its words
  whole_r : {s : List Label} → Is s → ReadsAlike P W (λ p ws. R (length ws) p ws) (λ p ws. R (length ws) p ws) s
  whole_r {s} t = record { at = λ {u} {u'} e p r r'. (deep_r (length (u ++ r)) (length (u' ++ r')) s t (ample r r' e)).at e p r r' }

module _ {P : Pairing} where
  -- ## Types

  module _ (d d' : ℕ) (ty ty' : Reader Ty) (h : (s : List Label) → IsTy s → Deep d d' s → ReadsAlike P (TyR P) ty ty' s) where
    ty_rows_r : {s : List Label} → IsTy s → Deep (suc d) (suc d') s → ReadsAlike P (TyR P) (one_of (ty_rows written ty)) (one_of (ty_rows written ty')) s
    unfolding row ty_rows pick
    ty_rows_r IsTy.int k = code_r _ _ (λ p. give_r _ _ Related.int_r)
    ty_rows_r IsTy.bool k = code_r _ _ (λ p. give_r _ _ Related.bool_r)
    ty_rows_r IsTy.var k = code_r _ _ (λ p. type_name_r _ _ (λ a a' n. give_r _ _ (Related.var_r n)))
    ty_rows_r IsTy.etvar k = code_r _ _ (λ p. type_name_r _ _ (λ a a' n. give_r _ _ (Related.etvar_r n)))
    ty_rows_r (IsTy.arrow {A = s} a b) k =
        code_r _ _ (λ p. bind_r (h _ a (first _ (deeper k))) (λ A A' x. last_r _ _ (h _ b (second s (deeper k))) (λ B B' y. Related.arrow_r x y)))
    ty_rows_r (IsTy.forall a) k =
        code_r _ _ (λ p. type_name_r _ _ (λ a₁ a₁' n. last_r _ _ (h _ a (past (deeper k))) (λ A A' x. Related.forall_r n x)))

  type_r : {s : List Label} → IsTy s → ReadsAlike P (TyR P) (type written) (type written) s
  unfolding type read_ty
  type_r = whole_r IsTy (read_ty written) (λ s. ty_starts) (λ d d' h s t k. ty_rows_r d d' _ _ h t k)

  -- ## Expressions

  module _ (d d' : ℕ) (expr expr' : Reader Expr) (h : (s : List Label) → IsExpr s → Deep d d' s → ReadsAlike P (ExprR P) expr expr' s) where
    expr_rows_r : (p : ℕ) {s : List Label} → IsExpr s → Deep (suc d) (suc d') s
        → ReadsAlike P (ExprR P) (one_of (expr_rows p expr)) (one_of (expr_rows p expr')) s
    unfolding row expr_rows pick
    expr_rows_r p IsExpr.evar k = code_r _ _ (λ q. variable_r _ _ (λ x x' n. give_r _ _ (Related.evar_r n)))
    expr_rows_r p (IsExpr.app {e = s} e f) k =
        code_r _ _ (λ q. bind_r (h _ e (first _ (deeper k))) (λ a a' x. last_r _ _ (h _ f (second s (deeper k))) (λ b b' y. Related.app_r x y)))
    expr_rows_r p (IsExpr.abs {A = s} A e) k =
        code_r _ _ (λ q. variable_r _ _ (λ x x' n. bind_r (type_r A)
        (λ B B' t. last_r _ _ (h _ e (second s (past (deeper k)))) (λ b b' y. Related.abs_r n t y))))
    expr_rows_r p (IsExpr.tapp e A) k =
        code_r _ _ (λ q. bind_r (h _ e (first _ (deeper k))) (λ a a' x. last_r _ _ (type_r A) (λ B B' t. Related.tapp_r x t)))
    expr_rows_r p (IsExpr.tabs e) k =
        code_r _ _ (λ q. type_name_r _ _ (λ a a' n. last_r _ _ (h _ e (past (deeper k))) (λ b b' y. Related.tabs_r n y)))
    expr_rows_r p (IsExpr.ann e A) k =
        code_r _ _ (λ q. bind_r (h _ e (first _ (deeper k))) (λ a a' x. last_r _ _ (type_r A) (λ B B' t. Related.ann_r x t)))
    expr_rows_r p IsExpr.lit_int k = code_r _ _ (λ q. half_r _ _ (λ l l'. half_r _ _ (λ i i'. give_r _ _ Related.lit_int_r)))
    expr_rows_r p IsExpr.lit_bool k = code_r _ _ (λ q. truth_r _ _ (λ b b'. give_r _ _ Related.lit_bool_r))
    expr_rows_r p (IsExpr.let_in {e = s} e f) k =
        code_r _ _ (λ q. variable_r _ _ (λ x x' n. bind_r (h _ e (first _ (past (deeper k))))
        (λ a a' x. last_r _ _ (h _ f (second s (past (deeper k)))) (λ b b' y. Related.let_in_r n x y))))
    expr_rows_r p (IsExpr.if_then_else {e = s} {f = t} e f g) k =
        code_r _ _ (λ q. bind_r (h _ e (first _ (deeper k))) (λ a a' x. bind_r (h _ f (first _ (second s (deeper k))))
        (λ b b' y. last_r _ _ (h _ g (second t (second s (deeper k)))) (λ c c' z. Related.if_then_else_r x y z))))
    expr_rows_r p (IsExpr.bin_op {e = s} low high e f) k =
        code_r _ _ (λ q. within_r 1 12 _ _ low high (bind_r (h _ e (first _ (past (deeper k))))
        (λ a a' x. last_r _ _ (h _ f (second s (past (deeper k)))) (λ b b' y. Related.bin_op_r x y))))

  expression_r : {s : List Label} → IsExpr s → ReadsAlike P (ExprR P) expression expression s
  unfolding expression read_expr
  expression_r =
      whole_r IsExpr read_expr (λ s. expr_starts) (λ d d' h s t k. record { at = λ e p r r'. (expr_rows_r d d' _ _ h p t k).at e p r r' })

  -- ## Contexts

  binding_r : {s : List Label} → IsEntry s → ReadsAlike P (BindingR P) (binding written) (binding written) s
  unfolding binding row pick
  binding_r (IsEntry.var_bnd A) = code_r _ _ (λ p. variable_r _ _ (λ x x' n. last_r _ _ (type_r A) (λ B B' t. Related.var_bnd_r n t)))
  binding_r IsEntry.tvar_bnd = code_r _ _ (λ p. type_name_r _ _ (λ a a' n. give_r _ _ (Related.tvar_bnd_r n)))
  binding_r IsEntry.etvar_bnd = code_r _ _ (λ p. type_name_r _ _ (λ a a' n. give_r _ _ (Related.etvar_bnd_r n)))
  binding_r (IsEntry.setvar_bnd A) = code_r _ _ (λ p. type_name_r _ _ (λ a a' n. last_r _ _ (type_r A) (λ B B' t. Related.setvar_bnd_r n t)))
  binding_r IsEntry.mark = code_r _ _ (λ p. type_name_r _ _ (λ a a' n. give_r _ _ (Related.mark_r n)))

  entry_r : {s : List Label} → IsEntry s → ReadsAlike P (EntryR P) (entry written) (entry written) s
  unfolding entry
  entry_r e = record { at = λ x p r r'. (last_r {W = EntryR P} _ _ (binding_r e) (λ b b' w. Related.of_question_r p w)).at x p r r' }

  -- an entry, and the entries to the end
  more_at : {s t : List Label} {u u' : List ℕ} (d d' : ℕ) → StartsAlike s → ReadsAlike P (EntryR P) (entry written) (entry written) s
      → Fills P (CtxR P) (read_ctx written d) (read_ctx written d') t
      → InTwo (InQuestions P) s t u u' → (p : ℕ) → GotR (CtxR P) [] [] (read_ctx written (suc d) p u) (read_ctx written (suc d') p u')
  unfolding read_ctx unless_end ◌>>=◌ give
  more_at d d' starts g h (parts {v = v} {v' = v'} (more x e) f) p =
      next_r _ _ (g.at (more x e) p v v') (λ A A' q w. next_r _ _ (h.at f q) (λ Γ Γ' q t. got_r (cons_r w t)))

  none_at : {u u' : List ℕ} (d d' : ℕ) → Each (InQuestions P) [] u u' → (p : ℕ) → GotR (CtxR P) [] [] (read_ctx written d p u) (read_ctx written d' p u')
  none_at d d' none p = rw (read_ctx_none written d p, read_ctx_none written d' p) (got_r nil_r)

  read_ctx_r : (d d' : ℕ) {s : List Label} → IsCtx s → Deep d d' s → Fills P (CtxR P) (read_ctx written d) (read_ctx written d') s
  read_ctx_r d d' IsCtx.no_entry k = record { at = none_at d d' }
  read_ctx_r zero d' (IsCtx.entry e c) k = no_depth (entry_starts e) (first _ k)
  read_ctx_r (suc d) zero (IsCtx.entry e c) k = no_depth' (entry_starts e) (first _ k)
  read_ctx_r (suc d) (suc d') (IsCtx.entry {e = s} e c) k =
      record { at = λ x. more_at d d' (entry_starts e) (entry_r e) (read_ctx_r d d' c (after (entry_starts e) k)) (split_e s x) }

  context_r : {s : List Label} → IsCtx s → Fills P (CtxR P) (context written) (context written) s
  unfolding context
  context_r {s} c = record { at = λ {u} {u'} e p. (read_ctx_r (length u) (length u') c (exact e)).at e p }

  -- ## Questions

  unknown_at : {u u' : List ℕ} → Each (InQuestions P) Alike.unknown u u' → (p : ℕ) → GotR (NameR P) [] [] (unknown p u) (unknown p u')
  unfolding unknown one_of word row pick
  unknown_at (more InQuestions.same (more (InQuestions.type_names a) none)) p =
      rw ((type_name_takes a.low).is (suc p) [], (type_name_takes a.low').is (suc p) []) (got_r (record { numbers = ReplyName.written a }))

  -- kind, mode and sections, to the end
  ask_at : {k m : ℕ} {s : List Label} {u u' : List ℕ} → T (leb 1 k && leb k 7) → m ≤ 1
      → ReadsAlike P (JudgementR P) (row k kind_rows (bad_shape 0)) (row k kind_rows (bad_shape 0)) s → Each (InQuestions P) (the k ∷ the m ∷ s) u u'
      → (p : ℕ) → GotR (QuestionR P) [] [] (question p u) (question p u')
  unfolding question ◌>>=◌ next within word pick give
  ask_at {k} {m} t h j (more InQuestions.same (more {u = v} {u' = v'} InQuestions.same e)) p =
      let (μ, takes) = mode_takes m h in
      rw (is_true (leb 1 k && leb k 7) t, takes.is (suc p) v, takes.is (suc p) v')
      ((end_fills {W = QuestionR P} _ _ (fills j) (λ i i' w. record { kinds = refl; manners = refl; judgements = w })).at e (suc (suc p)))

  ask_r : {k m : ℕ} {s : List Label} → T (leb 1 k && leb k 7) → m ≤ 1
      → ReadsAlike P (JudgementR P) (row k kind_rows (bad_shape 0)) (row k kind_rows (bad_shape 0)) s
      → Fills P (QuestionR P) question question (the k ∷ the m ∷ s)
  ask_r t h j = record { at = ask_at t h j }

  ctx_r : {s : List Label} → IsCtx s → ReadsAlike P (CtxR P) (counted (context written)) (counted (context written)) (section s)
  ctx_r c = counted_r (context_r c)

  expr_r : {s : List Label} → IsExpr s → ReadsAlike P (ExprR P) (counted expression) (counted expression) (section s)
  expr_r e = counted_r (fills (expression_r e))

  ty_r : {s : List Label} → IsTy s → ReadsAlike P (TyR P) (counted (type written)) (counted (type written)) (section s)
  ty_r t = counted_r (fills (type_r t))

  unknown_r : ReadsAlike P (NameR P) (counted unknown) (counted unknown) (section Alike.unknown)
  unknown_r = counted_r (record { at = unknown_at })

  question_r : {s : List Label} → IsQuestion s → Fills P (QuestionR P) question question s
  unfolding row kind_rows pick
  question_r (IsQuestion.infer m c e) =
      ask_r tt m (bind_r (ctx_r c) (λ Γ Γ' γ. bind_r (expr_r e) (λ a a' ε. empty_r _ _ (empty_r _ _ (give_r _ _ (Related.infer_r γ ε))))))
  question_r (IsQuestion.check m c e r) =
      ask_r tt m (bind_r (ctx_r c) (λ Γ Γ' γ. bind_r (expr_r e) (λ a a' ε. empty_r _ _ (last_r _ _ (ty_r r) (λ B B' β. Related.check_r γ ε β)))))
  question_r (IsQuestion.infer_app m c e l) =
      ask_r tt m (bind_r (ctx_r c) (λ Γ Γ' γ. bind_r (expr_r e) (λ a a' ε. bind_r (ty_r l)
      (λ A A' α. empty_r _ _ (give_r _ _ (Related.infer_app_r γ ε α))))))
  question_r (IsQuestion.subtype m c l r) =
      ask_r tt m (bind_r (ctx_r c) (λ Γ Γ' γ. empty_r _ _ (bind_r (ty_r l) (λ A A' α. last_r _ _ (ty_r r) (λ B B' β. Related.subtype_r γ α β)))))
  question_r (IsQuestion.inst_l m c r) =
      ask_r tt m (bind_r (ctx_r c) (λ Γ Γ' γ. empty_r _ _ (bind_r unknown_r (λ a a' α. last_r _ _ (ty_r r) (λ B B' β. Related.inst_r γ α β)))))
  question_r (IsQuestion.inst_r m c l) =
      ask_r tt m (bind_r (ctx_r c) (λ Γ Γ' γ. empty_r _ _ (bind_r (ty_r l) (λ A A' α. last_r _ _ unknown_r (λ b b' β. Related.inst_r γ β α)))))
  question_r (IsQuestion.run m e) =
      ask_r tt m (empty_r _ _ (bind_r (expr_r e) (λ a a' ε. empty_r _ _ (empty_r _ _ (give_r _ _ (Related.infer_r nil_r ε))))))

  pub read_question_r : {u u' : List ℕ} → AlikeQuestions P u u' → GotR (QuestionR P) [] [] (read_question u) (read_question u')
  unfolding read_question
  read_question_r h = (question_r h.format).at h.words 0
